use Rattle.std.proofs.Common.{◌↔◌, drop}
use Rattle.hm_model.specs.Runs.{AreApart}
use Rattle.hm_model.proofs.Apart.{AreApartFrom}
use Rattle.hm_model.proofs.runs.are_apart.Given as goal

abbrev pub invariant-loop-byte : goal.invariant-loop-byte
invariant-loop-byte l = AreApart l.pairs ↔ AreApartFrom l.last (drop l.byte-index l.pairs)
