use Rattle.hm_run.proofs.NoteOrder.{in_order}
use Rattle.hm_run.proofs.notes.notes_of.Goals as goal

pub returns-clause-order : goal.returns-clause-order
returns-clause-order c = rw (c.in_ok-notes.ensures) (in_order 1 c.args.rounds.now)
