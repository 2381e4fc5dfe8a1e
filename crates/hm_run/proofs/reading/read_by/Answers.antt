use Rattle.std.proofs.Common.{take, ◌++◌, arith, length-append}
use Rattle.std.proofs.lemmas.List.{length-take}
use Rattle.hm_run.proofs.Taking.{taken_more}
use Rattle.hm_run.proofs.reading.read_by.Goals as goal

pub returns-in_err-extend_from_slice-in_default-clause-bound : goal.returns-in_err-extend_from_slice-in_default-clause-bound
returns-in_err-extend_from_slice-in_default-clause-bound g c =
    let bytes = c.turns.bytes.items in
    let more = take c.in_ok-count.count c.take.new.into in (
      bytes ++ more,
      taken_more _ _ _ bytes more c.turns.invariant.taken c.in_ok-count.ensures.bytes.0,
      omega (arith, length-append bytes more, length-take c.in_ok-count.count c.take.new.into, c.in_ok-count.ensures.bytes.1, c.min-room.ensures, c.len-in-turns.ensures, c.len.ensures, c.turns.bytes.ok.0, c.take.auto.into, c.turns-test.true, length-take c.min-room.result c.turns.piece, c.turns.invariant.piece),
    )
