use Rattle.std.proofs.Common.{◌+◌, ◌%◌, arith}
use Rattle.std.proofs.lemmas.Grind.{common_steps}
use Rattle.hm_trace.proofs.StressNames.{read_name}
use Rattle.hm_trace.proofs.stress.push_group.Goals as goal

pub returns : goal.returns
returns c =
    let name = read_name c.args.names.now c.args.thread (c.args.j % 50) c.index-names-j.result c.requires.count c.requires.each (omega arith) c.index-names-j.is in
    let other = read_name c.args.names.now c.args.thread ((c.args.j + 25) % 50) c.index-names-j-2.result c.requires.count c.requires.each (omega arith) c.index-names-j-2.is in
    grind (arith, common_steps)
