-- What holds of which region one is.
use Rattle.std.specs.Prelude.{◌≡◌, ℕ, ◌<◌}
use Rattle.hm_sizes.specs.Classes.{class_count}
use Rattle.hm_sizes.specs.Configs.{IsValid}
use Rattle.hm_sizes.specs.declared.config.Config.{Config}
use Rattle.hm_sizes.specs.declared.shape.Shape.{Shape}
use Rattle.hm_sizes.specs.Shapes.{IsShape}
use Rattle.hm_class_rules.specs.Draws.{drawn_shape}

-- the configuration is valid, the arena and the class are its own, and the region begins where its first word says
pub record IsServed (c : Config) (seed arena : ℕ) (p : Shape) : Type 0 where
  pub valid : IsValid c
  pub arena_below : arena < c.arenas
  pub class_below : p.class.0 < class_count
  pub is : p ≡ drawn_shape seed c arena p.class
  pub shape : IsShape p
