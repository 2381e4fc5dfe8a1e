use Rattle.std.proofs.Common.{◌∙◌, arith}
use Rattle.std.proofs.Math.Seq.{take-add}
use Rattle.std.proofs.lemmas.List.{take_rest}
use Rattle.hm_outside.proofs.Putting.{put_more}
use Rattle.hm_run.proofs.writing.write_all.Goals as goal

pub turns-preserved : goal.turns-preserved
turns-preserved g c = record {
  within = omega (arith, c.in_ok-count.ensures.bytes.1);
  put = rw take-add (rw take_rest at (put_more _ _ _ _ _ c.turns.invariant.put c.in_ok-count.ensures.bytes.0));
  faults = c.in_ok-count.ensures.exact (λ none some. omega (arith, none)) ∙ c.turns.invariant.faults;
}
