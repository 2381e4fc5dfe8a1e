-- What is asked of an entry whatever its reply.
use Rattle.std.specs.Prelude.{◌≡◌, ◌≤◌}
use Rattle.hm_model.specs.declared.entry.Entry.{Entry}
use Rattle.hm_model.specs.Entries.{AreDraws}
use Rattle.hm_sizes.specs.declared.shape.Shape.{Shape}
use Rattle.hm_class_rules.specs.State.{State}
use Rattle.hm_class_rules.specs.Rules.{Asks}

pub record Follows (p : Shape) (s : State) (e : Entry) : Type 0 where
  pub draws : AreDraws e.draws
  pub asks : Asks p e.call
  pub follows : e.faults_before ≡ s.faults
  pub later : e.faults_before ≤ e.faults_after
