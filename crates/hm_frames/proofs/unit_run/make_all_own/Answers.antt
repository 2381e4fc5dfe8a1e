use Rattle.std.proofs.Common.{⊎_elim, inl, inr, ◌<◌, ◌≤◌, arith}
use Rattle.std.proofs.lemmas.Bool.{cases_lt}
use Rattle.hm_frames.proofs.unit_run.make_all_own.Goals as goal

pub returns-clause-others : goal.returns-clause-others
returns-clause-others c p e =
    c.loop-unit.invariant.others p (⊎_elim (λ below. inl below)
    (λ past. ⊎_elim (λ below. inl below) (λ above. inr (omega (arith, past, above, c.loop-unit.invariant.high))) (cases_lt p c.args.first)) e)
