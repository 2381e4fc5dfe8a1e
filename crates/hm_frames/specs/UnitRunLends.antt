-- What a run of units is once the bytes that it lent are given back.
use Rattle.std.specs.Prelude.{ℕ, List}
use Rattle.std.specs.Borrow.{Fml, MutBor, Array, Lends, u8}
use Rattle.hm_frames.specs.OwnUnits.{KeptRun, with_lent_part}
use Rattle.hm_frames.specs.contracts.unit_run.UnitRun.{the_row}

abbrev pub LendsPart : MutBor KeptRun → ℕ → ℕ → MutBor (List ℕ) → Fml
LendsPart run from len lent = Lends the_row (Array u8 0) run lent (with_lent_part run.now from len)
