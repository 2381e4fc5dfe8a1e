use Rattle.std.proofs.Common.{◌≡◌, ℕ, List, ap}
use Rattle.hm_model.specs.Runs.{same_runs}
use Rattle.hm_heap.specs.Calls.{write_plan}
use Rattle.hm_heap.specs.Plans.{Plan}
use Rattle.hm_replay.proofs.Calling.{carries_called}
use Rattle.hm_replay.proofs.calls.write.Goals as goal

pub returns : goal.returns
returns g c = record {
  called =
      carries_called (λ (plan : Plan). plan ≡ write_plan c.args.setting.now.heap.now.config c.args.addr
      (same_runs c.args.byte c.args.len))
      (write_plan c.args.setting.now.heap.now.config c.args.addr c.in_ok-runs.runs) c.args.pass.now c.write.new.pass
      c.args.step_number c.write.result
      (ap (λ (runs : List (ℕ × ℕ)). write_plan c.args.setting.now.heap.now.config c.args.addr runs) c.in_ok-runs.ensures.value)
      c.write.ensures.carried;
}
