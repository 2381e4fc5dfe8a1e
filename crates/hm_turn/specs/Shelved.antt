-- A shelf, as contracts see it.
use Rattle.std.specs.Prelude.{ℕ, List}
use Rattle.hm_model.specs.declared.entry.Entry.{Entry}

-- the number that is the origin, and the entries in order
pub record Shelved : Type 0 where
  pub number : ℕ
  pub entries : List Entry
