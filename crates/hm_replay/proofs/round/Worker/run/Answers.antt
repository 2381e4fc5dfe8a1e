use Rattle.std.proofs.Common.{Option, Vec, IfSome, sym, ◌∙◌, ap, subst, refl}
use Rattle.std.specs.declared.alloc.Global.{Global}
use Rattle.hm_replay.specs.declared.left.NameLeft.{NameLeft}
use Rattle.hm_replay.specs.Gains.{mine_of, terms_of}
use Rattle.hm_replay.specs.Names.{Touched, seen_in, touched_all, AreLeft}
use Rattle.hm_replay.proofs.Begun.{front_made}
use Rattle.hm_replay.proofs.Merging.{kept_ok, left_settled, was_ok}
use Rattle.hm_replay.proofs.Rounding.{made_of}
use Rattle.hm_replay.proofs.round.Worker.run.Goals.{in-Some, in-None}
use Rattle.hm_replay.proofs.round.Worker.run.Goals as goal

pub returns : goal.returns
returns g c = record {
  run = record {
    script = refl;
    run = c.run_with.ensures.run;
    made =
        made_of c.run_with.result c.ok-results.result c.args.heap.now.config c.args.self.now.pass c.run_with.new.pass
        c.args.self.now.script.now (seen_in c.args.self.now.scope) (seen_in c.run_with.new.env)
        c.ok-results.ensures.value c.run_with.ensures.results c.run_with.ensures.ran;
    front =
        front_made c.run_with.result (terms_of c.args.heap.now c.args.self.now.pass) (seen_in c.args.self.now.scope)
        (seen_in c.run_with.new.env) c.args.self.now.script.now.steps (mine_of c.run_with.new.pass.turns)
        c.run_with.ensures.ran c.run_with.ensures.stops;
    names =
        let steps = c.args.self.now.script.now.steps in
        let scope = c.run_with.new.env in
        let Left : Option (Vec NameLeft Global) → Type 0 =
        λ o. IfSome o (λ left. AreLeft steps (seen_in scope) left.items) in
        elim c.match-results.branch [
          | in-Some w ↦
              subst Left (sym w.t-15-is)
              (kept_ok w.left.result w.ok.result (λ left. AreLeft steps (seen_in scope) left.items) w.ok.ensures.value
              (left_settled scope steps w.left.result w.left.ensures
              (was_ok c.run_with.result (sym c.ok-results.ensures.value ∙ w.in-Some.is) c.run_with.ensures.touched
              ∙ ap (λ (touched : Touched). touched_all touched steps) c.requires.1)))
          | in-None w ↦ subst Left (sym w.t-15-is) tt
        ];
  };
}
