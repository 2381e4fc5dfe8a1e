use Rattle.std.proofs.Common.{List, sym, ◌∙◌, ap, subst}
use mathlib.Core.Path.{transport}
use Rattle.hm_trace.specs.Views.{StepView}
use Rattle.hm_replay.specs.Gains.{Gains, terms_of, mine_of}
use Rattle.hm_replay.specs.Names.{Names, touched_all}
use Rattle.hm_replay.specs.Scripts.{RunsSteps, RunsFront, RunsAllSteps}
use Rattle.hm_replay.proofs.Fronts.{on_err}
use Rattle.hm_replay.proofs.Running.{gained_all}
use Rattle.hm_replay.proofs.script.run_with.Goals as goal

pub returns-clause-ran : goal.returns-clause-ran
returns-clause-ran g c =
    let t = terms_of c.args.setting.now.heap.now c.args.pass.now in
    let q = c.run_steps.new.pass in
    let names : Names = g.E.Addresses.names c.args.env.now in
    let last : Names = g.E.Addresses.names c.run_steps.new.env in
    transport (λ i. RunsAllSteps t names (c.steps.ensures.all i) (sym c.of.ensures i) last (mine_of q.turns))
    (gained_all c.args.pass.now.turns q.turns (RunsSteps t 1 names _ c.in_ok-items.items.items last) c.requires.fresh
    c.in_ok-items.ensures.ran)

pub returns-in_err-items-clause-stops : goal.returns-in_err-items-clause-stops
returns-in_err-items-clause-stops g c =
    let t = terms_of c.args.setting.now.heap.now c.args.pass.now in
    let p = c.args.pass.now in
    let q = c.run_steps.new.pass in
    let names : Names = g.E.Addresses.names c.args.env.now in
    let last : Names = g.E.Addresses.names c.run_steps.new.env in
    on_err c.from_residual.result
    (gained_all p.turns q.turns (RunsFront t names c.args.script.now.steps last) c.requires.fresh
    (subst (λ (l : List StepView). Gains p.turns q.turns (RunsFront t names l last)) c.steps.ensures.all
    c.in_err-items.ensures.stops))

pub returns-clause-touched : goal.returns-clause-touched
returns-clause-touched g c =
    c.in_ok-items.ensures.touched
    ∙ ap (λ (l : List StepView). touched_all (g.E.Addresses.touched c.args.env.now) l) c.steps.ensures.all
