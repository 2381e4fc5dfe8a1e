use Rattle.hm_guarantees.proofs.EvenDraws.{draws_are_even, every_slot_can_come, quarantine_places_are_even, block_places_are_even, guards_are_even}
use Rattle.hm_guarantees.proofs.even_draws.Goals as goal

pub returns : goal.returns
returns c = record {
  draws = draws_are_even;
  slots = every_slot_can_come;
  quarantine = quarantine_places_are_even;
  block_quarantine = block_places_are_even;
  guards = guards_are_even;
}
