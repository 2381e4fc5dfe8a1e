use Rattle.std.proofs.Common.{arith, ◌≡◌, ◌<◌, length, slice_index_or, sym, ap, ◌∙◌}
use Rattle.std.proofs.lemmas.List.{get_or_default}
use Rattle.hm_trace.specs.Views.{ScriptView}
use Rattle.hm_replay.specs.Names.{held}
use Rattle.hm_replay.proofs.Starts.{started_more}
use Rattle.hm_replay.proofs.round.start.Goals as goal

pub loop-script-preserved : goal.loop-script-preserved
loop-script-preserved g c =
    let i = c.loop-script.invariant in
    let h = c.in_ok-pass.ensures in
    let k = c.loop-script.script-index in
    let scripts = c.args.scripts.now in
    let d : ScriptView = c.script-item.result in
    let b : k < length scripts = c.loop-script-test.true in
    let n : length c.loop-script.workers.items ≡ k = grind (arith, i.1.0) in (
      rw c.push_reserved.ensures.items
          (started_more c.args.setting.now.heap.now.locks c.args.round_number c.args.root.now c.loop-script.root c.split.new.root
          scripts (held c.args.env.now) c.loop-script.workers.items _ i.0 h.root
          (grind (arith, h.pass, c.thread.ensures.thread))
          (λ s. c.script-item.is ∙ (get_or_default scripts k d s b ∙ ap (λ m. slice_index_or scripts m s) (sym n)))
          c.build.ensures.names c.build.ensures.untouched),
      (grind arith, grind arith),
    )
