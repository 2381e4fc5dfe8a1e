use Rattle.hm_turn.proofs.lock.TurnLock.split.Given as goal

abbrev pub ghosts-split_named : goal.ghosts-split_named
ghosts-split_named g a = record { caller = a.caller }
