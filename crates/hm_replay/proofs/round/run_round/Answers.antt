use Rattle.std.proofs.Common.{arith, ◌≡◌, ℕ, ◌+◌, List, Vec, length, map, vec_len, subst, sym, ◌∙◌, ap}
use Rattle.std.specs.declared.alloc.Global.{Global}
use Rattle.hm_report.specs.declared.results.Results.{Results}
use Rattle.hm_trace.specs.Views.{ScriptView}
use Rattle.hm_turn.specs.Known.{Lock}
use Rattle.hm_heap.specs.Passes.{PassView}
use Rattle.hm_replay.specs.declared.round.Worker.{Worker}
use Rattle.hm_replay.specs.Names.{Names, held, with_lists}
use Rattle.hm_replay.specs.declared.left.NameLeft.{NameLeft}
use Rattle.hm_replay.specs.RoundOf.{ended_in}
use Rattle.hm_replay.specs.Rounds.{RunsRound}
use Rattle.hm_replay.proofs.Begun.{run_begins, run_root, started, unrun_begins, unrun_root}
use Rattle.hm_replay.proofs.Merging.{all_settled, settles_all}
use Rattle.hm_replay.proofs.Rounding.{IsStartedBy, is_made, runs_round, scripts_are}
use Rattle.hm_replay.proofs.round.run_round.Goals as goal

pub returns-then-is_err-clause-root : goal.returns-then-is_err-clause-root
returns-then-is_err-clause-root g c =
    let s = c.start.ensures in
    unrun_root c.args.setting.now.heap.now.locks c.args.number c.args.root.now c.start.new.root (held c.args.env.now)
    c.start.new.workers c.args.round.now.scripts c.scripts-scripts.result.now c.scripts-scripts.ensures.all c.requires.of s.root
    s.workers s.some c.finish.new.root _ c.finish.ensures.passes

pub returns-then-is_err-clause-begun : goal.returns-then-is_err-clause-begun
returns-then-is_err-clause-begun g c =
    let s = c.start.ensures in
    unrun_begins c.args.setting.now.heap.now.locks c.args.number c.args.root.now c.start.new.root (held c.args.env.now)
    c.start.new.workers c.args.round.now.scripts c.scripts-scripts.result.now c.scripts-scripts.ensures.all c.requires.of s.root
    s.workers s.some c.args.setting.now.heap.now.config s.scripts c.finish.new.root _ c.finish.ensures.passes

pub returns-in_err-results-clause-root : goal.returns-in_err-results-clause-root
returns-in_err-results-clause-root g c =
    let s = c.start.ensures in
    run_root c.args.setting.now.heap.now.locks c.args.number c.args.root.now c.start.new.root (held c.args.env.now)
    c.start.new.workers c.args.round.now.scripts c.scripts-scripts.result.now c.scripts-scripts.ensures.all c.requires.of s.root
    s.workers s.some c.work.new.workers c.work.ensures.len (λ i w l. (c.work.ensures.each i w l).run) c.finish-2.new.root _
    c.finish-2.ensures.passes

pub returns-in_err-results-clause-begun : goal.returns-in_err-results-clause-begun
returns-in_err-results-clause-begun g c =
    let s = c.start.ensures in
    run_begins c.args.setting.now.heap.now.locks c.args.number c.args.root.now c.start.new.root (held c.args.env.now)
    c.start.new.workers c.args.round.now.scripts c.scripts-scripts.result.now c.scripts-scripts.ensures.all c.requires.of s.root
    s.workers s.some c.args.setting.now.heap.now.config s.scripts c.work.new.workers c.work.ensures.len (λ i w l. (c.work.ensures.each i w l).run)
    (λ i w l. (c.work.ensures.each i w l).front) (λ i w l. (c.work.ensures.each i w l).script) c.finish-2.new.root _ c.finish-2.ensures.passes

pub returns-in_err-left-clause-root : goal.returns-in_err-left-clause-root
returns-in_err-left-clause-root g c =
    let s = c.start.ensures in
    run_root c.args.setting.now.heap.now.locks c.args.number c.args.root.now c.start.new.root (held c.args.env.now)
    c.start.new.workers c.args.round.now.scripts c.scripts-scripts.result.now c.scripts-scripts.ensures.all c.requires.of s.root
    s.workers s.some c.work.new.workers c.work.ensures.len (λ i w l. (c.work.ensures.each i w l).run) c.finish-2.new.root _
    c.finish-2.ensures.passes

pub returns-in_err-left-clause-begun : goal.returns-in_err-left-clause-begun
returns-in_err-left-clause-begun g c =
    let s = c.start.ensures in
    run_begins c.args.setting.now.heap.now.locks c.args.number c.args.root.now c.start.new.root (held c.args.env.now)
    c.start.new.workers c.args.round.now.scripts c.scripts-scripts.result.now c.scripts-scripts.ensures.all c.requires.of s.root
    s.workers s.some c.args.setting.now.heap.now.config s.scripts c.work.new.workers c.work.ensures.len (λ i w l. (c.work.ensures.each i w l).run)
    (λ i w l. (c.work.ensures.each i w l).front) (λ i w l. (c.work.ensures.each i w l).script) c.finish-2.new.root _ c.finish-2.ensures.passes

pub returns-in_err-set_all-clause-root : goal.returns-in_err-set_all-clause-root
returns-in_err-set_all-clause-root g c =
    let s = c.start.ensures in
    run_root c.args.setting.now.heap.now.locks c.args.number c.args.root.now c.start.new.root (held c.args.env.now)
    c.start.new.workers c.args.round.now.scripts c.scripts-scripts.result.now c.scripts-scripts.ensures.all c.requires.of s.root
    s.workers s.some c.work.new.workers c.work.ensures.len (λ i w l. (c.work.ensures.each i w l).run) c.finish-2.new.root _
    c.finish-2.ensures.passes

pub returns-in_err-set_all-clause-begun : goal.returns-in_err-set_all-clause-begun
returns-in_err-set_all-clause-begun g c =
    let s = c.start.ensures in
    run_begins c.args.setting.now.heap.now.locks c.args.number c.args.root.now c.start.new.root (held c.args.env.now)
    c.start.new.workers c.args.round.now.scripts c.scripts-scripts.result.now c.scripts-scripts.ensures.all c.requires.of s.root
    s.workers s.some c.args.setting.now.heap.now.config s.scripts c.work.new.workers c.work.ensures.len (λ i w l. (c.work.ensures.each i w l).run)
    (λ i w l. (c.work.ensures.each i w l).front) (λ i w l. (c.work.ensures.each i w l).script) c.finish-2.new.root _ c.finish-2.ensures.passes

pub returns-clause-root : goal.returns-clause-root
returns-clause-root g c =
    let s = c.start.ensures in
    run_root c.args.setting.now.heap.now.locks c.args.number c.args.root.now c.start.new.root (held c.args.env.now)
    c.start.new.workers c.args.round.now.scripts c.scripts-scripts.result.now c.scripts-scripts.ensures.all c.requires.of s.root
    s.workers s.some c.work.new.workers c.work.ensures.len (λ i w l. (c.work.ensures.each i w l).run) c.finish-2.new.root _
    c.finish-2.ensures.passes

pub returns-clause-begun : goal.returns-clause-begun
returns-clause-begun g c =
    let s = c.start.ensures in
    run_begins c.args.setting.now.heap.now.locks c.args.number c.args.root.now c.start.new.root (held c.args.env.now)
    c.start.new.workers c.args.round.now.scripts c.scripts-scripts.result.now c.scripts-scripts.ensures.all c.requires.of s.root
    s.workers s.some c.args.setting.now.heap.now.config s.scripts c.work.new.workers c.work.ensures.len (λ i w l. (c.work.ensures.each i w l).run)
    (λ i w l. (c.work.ensures.each i w l).front) (λ i w l. (c.work.ensures.each i w l).script) c.finish-2.new.root _ c.finish-2.ensures.passes

pub returns-clause-ran : goal.returns-clause-ran
returns-clause-ran g c =
    let s = c.start.ensures in
    let ws = c.start.new.workers in
    let locks : List Lock = c.args.setting.now.heap.now.locks in
    let total : ℕ = length c.args.round.now.scripts in
    let p : PassView = c.args.root.now in
    let q : PassView = c.start.new.root in
    let names : Names = held c.args.env.now in
    let started : IsStartedBy locks c.args.number total p q names ws.items =
    started locks c.args.number p q names ws c.args.round.now.scripts c.scripts-scripts.result.now c.scripts-scripts.ensures.all
    c.requires.of s.root s.workers s.some in
    let vs = c.work.new.workers in
    let z : PassView = c.finish-2.new.root in
    let config = c.args.setting.now.heap.now.config in
    let rs : List Results = c.in_ok-results.results.items in
    let same : length vs.items ≡ length ws.items = sym vs.ok.0 ∙ c.work.ensures.len ∙ ws.ok.0 in
    let all : vec_len ws ≡ length c.scripts-scripts.result.now = grind arith in
    let of_round : map (λ (w : Worker). w.script.now) vs.items ≡ c.args.round.now.scripts =
    scripts_are ws.items vs.items c.scripts-scripts.result.now same (sym ws.ok.0 ∙ all) (λ i w l. (c.work.ensures.each i w l).script)
    (λ i w x l. s.scripts i w x (omega (arith, l, ws.ok.0))) ∙ c.scripts-scripts.ensures.all in
    let now : Names = held c.set_all.new.self in
    let left : List (Vec NameLeft Global) = c.in_ok-left.left.items in
    let last : now ≡ all_settled names vs.items =
    c.in_ok-set_all.ensures.value ∙ ap (λ (l : List (Vec NameLeft Global)). with_lists names l) c.deref.ensures.value
    ∙ settles_all names vs.items left (λ i w l. (c.work.ensures.each i w (omega (arith, l, same))).names)
    (c.in_ok-left.ensures ∙ c.finish-2.ensures.lists) in
    subst (λ (l : Names). RunsRound config (ended_in z.turns)
    (p.splits + 1) c.args.number names names c.args.round.now.scripts rs l) (sym last)
    (subst (λ (l : List ScriptView). RunsRound config (ended_in z.turns) (p.splits + 1) c.args.number names names l rs
    (all_settled names vs.items)) of_round
    (runs_round config (ended_in z.turns) (p.splits + 1) c.args.number names names vs.items rs
    (c.in_ok-results.ensures ∙ c.finish-2.ensures.passes.results_are)
    (is_made config locks c.args.number total p q z names ws.items vs.items _ started same (λ i w l. (c.work.ensures.each i w l).run)
    (λ i w l. (c.work.ensures.each i w l).made) (λ i w l. (c.work.ensures.each i w l).script)
    c.finish-2.ensures.passes)))
