use Rattle.std.proofs.Common.{◌+◌, ◌∙◌, ap}
use Rattle.hm_heap.specs.Passes.{PassView}
use Rattle.hm_replay.specs.Gains.{mine_of}
use Rattle.hm_replay.proofs.Starts.{mine_born}
use Rattle.hm_heap_tests.proofs.round_tests.run_alone.Goals as goal

pub run_script-results-requires-clause-fresh : goal.run_script-results-requires-clause-fresh
run_script-results-requires-clause-fresh g c κs within = λ place.
    ap (λ (p : PassView). mine_of p.turns place) c.in_ok-pass.ensures.pass
    ∙ mine_born (c.args.root.now.splits + 1) c.args.root.now.turns place
