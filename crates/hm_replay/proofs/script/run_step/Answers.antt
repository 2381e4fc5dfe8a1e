use Rattle.std.proofs.Common.{sym, ◌∙◌}
use Rattle.hm_trace.specs.Views.{step_view}
use Rattle.hm_replay.specs.Gains.{terms_of}
use Rattle.hm_replay.specs.Names.{Names}
use Rattle.hm_replay.specs.Steps.{base_of}
use Rattle.hm_replay.proofs.Fronts.{gains_broken, gains_unnamed, on_err, stop_broken, stop_none}
use Rattle.hm_replay.proofs.Running.{gains_called, gains_skipped}
use Rattle.hm_replay.proofs.script.run_step.Goals as goal

pub returns-in_default-clause-ran : goal.returns-in_default-clause-ran
returns-in_default-clause-ran g c =
    gains_skipped c.args.pass.now.turns (terms_of c.args.setting.now.heap.now c.args.pass.now) c.args.step_number
    (step_view c.args.step.now) (base_of (g.E.Addresses.names c.args.env.now) (step_view c.args.step.now))
    (sym c.in_default.is ∙ c.base_of.ensures)

pub returns-clause-ran : goal.returns-clause-ran
returns-clause-ran g c =
    gains_called c.args.pass.now.turns c.call.new.pass.turns
    (terms_of c.args.setting.now.heap.now c.args.pass.now) c.args.step_number c.in-Some.base (step_view c.args.step.now)
    (base_of (g.E.Addresses.names c.args.env.now) (step_view c.args.step.now)) c.in_ok-answer.answer
    (sym c.in-Some.is ∙ c.base_of.ensures) c.in_ok-answer.ensures.called.gains

pub returns-in_err-answer-clause-stops : goal.returns-in_err-answer-clause-stops
returns-in_err-answer-clause-stops g c =
    let t = terms_of c.args.setting.now.heap.now c.args.pass.now in
    let s = step_view c.args.step.now in
    let names : Names = g.E.Addresses.names c.args.env.now in
    on_err c.from_residual-in_err-answer.result
    (stop_broken c.args.pass.now.turns c.call.new.pass.turns t c.args.step_number names s
    (gains_broken c.args.pass.now.turns c.call.new.pass.turns t c.args.step_number c.in-Some.base s
    (base_of names s) (sym c.in-Some.is ∙ c.base_of.ensures) c.in_err-answer.ensures.called.stops))

pub returns-in_err-name-clause-stops : goal.returns-in_err-name-clause-stops
returns-in_err-name-clause-stops g c =
    let t = terms_of c.args.setting.now.heap.now c.args.pass.now in
    let s = step_view c.args.step.now in
    let names : Names = g.E.Addresses.names c.args.env.now in
    on_err c.from_residual-in_err-name.result
    (stop_broken c.args.pass.now.turns c.call.new.pass.turns t c.args.step_number names s
    (gains_unnamed c.args.pass.now.turns c.call.new.pass.turns t c.args.step_number c.in-Some.base s
    (base_of names s) c.in_ok-answer.answer (sym c.in-Some.is ∙ c.base_of.ensures) c.in_ok-answer.ensures.called.gains))

pub returns-in_err-skip-clause-stops : goal.returns-in_err-skip-clause-stops
returns-in_err-skip-clause-stops g c =
    on_err c.from_residual.result
    (stop_none c.args.pass.now.turns (terms_of c.args.setting.now.heap.now c.args.pass.now) c.args.step_number
    (g.E.Addresses.names c.args.env.now) (step_view c.args.step.now))
