use Rattle.std.proofs.Common.{◌≡◌, take}
use Rattle.hm_trace.specs.Views.{steps_view}
use Rattle.hm_replay.specs.Gains.{GainsResults, WentOn}
use Rattle.hm_replay.specs.Names.{touched_all}
use Rattle.hm_replay.proofs.script.run_steps.Given as goal

-- the steps so far were run
abbrev pub invariant-loop-index : goal.invariant-loop-index
invariant-loop-index g l = record {
  run : WentOn l.fn.setting.heap.now.locks l.fn.pass l.pass;
  ran : GainsResults l.fn.setting.heap.now l.fn.pass l.pass (g.E.Addresses.names l.fn.env) (steps_view (take l.index l.steps)) l.results.items (g.E.Addresses.names l.env);
  touched : g.E.Addresses.touched l.env ≡ touched_all (g.E.Addresses.touched l.fn.env) (steps_view (take l.index l.steps));
}
