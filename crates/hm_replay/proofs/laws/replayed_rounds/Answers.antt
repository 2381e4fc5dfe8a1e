use Rattle.hm_replay.proofs.Replaying.{goes_on, new_replays, replays_close}
use Rattle.hm_replay.proofs.Entries.{all_of_trace}
use Rattle.hm_replay.proofs.Counting.{few_entries}
use Rattle.hm_replay.proofs.Ascending.{results_ascend}
use Rattle.hm_replay.proofs.laws.replayed_rounds.Goals as goal

pub returns-clause-first : goal.returns-clause-first
returns-clause-first c = new_replays

pub returns-clause-more : goal.returns-clause-more
returns-clause-more c = goes_on

pub returns-clause-closed : goal.returns-clause-closed
returns-clause-closed c = replays_close

pub returns-clause-order : goal.returns-clause-order
returns-clause-order c = results_ascend

pub returns-clause-entries : goal.returns-clause-entries
returns-clause-entries c = all_of_trace

pub returns-clause-few : goal.returns-clause-few
returns-clause-few c = few_entries
