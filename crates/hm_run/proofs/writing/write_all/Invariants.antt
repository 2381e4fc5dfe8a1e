use Rattle.std.proofs.Common.{◌≡◌, length, take, ◌-◌, ◌≤◌}
use Rattle.hm_outside.specs.Streams.{Put}
use Rattle.hm_run.proofs.writing.write_all.Given as goal

abbrev pub invariant-turns : goal.invariant-turns
invariant-turns g l = record {
  within : l.at ≤ length l.text;
  put : Put (g.K.Sink.held l.fn.sink) (g.K.Sink.held l.sink) (take l.at l.text);
  faults : g.K.Sink.faults l.sink ≡ g.K.Sink.faults l.fn.sink;
}

abbrev pub decreases-turns : goal.decreases-turns
decreases-turns g l = length l.text - l.at
