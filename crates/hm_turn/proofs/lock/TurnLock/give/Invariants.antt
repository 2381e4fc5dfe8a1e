use Rattle.hm_turn.proofs.lock.TurnLock.give.Given as goal

abbrev pub ghosts-count_last : goal.ghosts-count_last
ghosts-count_last g a = record { entries = g.T.Kept.entries a.value.now }
