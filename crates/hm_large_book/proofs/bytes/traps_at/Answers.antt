use Rattle.hm_large_book.proofs.Sizes.{number_there, number_none}
use Rattle.hm_large_book.proofs.bytes.traps_at.Goals as goal

pub returns-in-Some : goal.returns-in-Some
returns-in-Some c = λ config s sound guarded is. number_there _ c.in-Some.found c.args.trap (c.in-Some.ensures config s sound guarded is)

pub returns-in-None : goal.returns-in-None
returns-in-None c = λ config s sound guarded is. number_none _ c.args.trap (c.in-None.ensures config s sound guarded is)
