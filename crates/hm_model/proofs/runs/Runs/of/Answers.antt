use Rattle.std.proofs.Common.{◌≡◌, List, ℕ, ◌<◌, ◌^◌, ◌++◌, [], drop, refl, sym, ap, ◌∙◌, arith, subst, append-nil, get_or}
use Rattle.std.proofs.lemmas.List.{drop_all, take_rest}
use Rattle.hm_model.specs.Runs.{AreRuns, expand, runs_of, total}
use Rattle.hm_model.proofs.RunsOf.{expand_runs_of, total_runs_of, apart_runs_of, runs_taken, in_front}
use Rattle.hm_model.proofs.runs.Runs.of.Goals as goal

pub loop-start-preserved : goal.loop-start-preserved
loop-start-preserved c =
    let byte = get_or c.args.bytes.now c.loop-start.start 0 in
    let count : c.leading-len.result ≡ in_front byte (drop c.loop-start.start c.args.bytes.now) = c.leading-len.ensures.count ∙ ap (λ (l : List ℕ). in_front byte l) (take_rest c.args.bytes.now c.loop-start.start) in (
      runs_taken c.loop-start.pairs.items c.push.new.self.items c.args.bytes.now c.loop-start.start byte c.leading-len.result c.loop-start-test.true refl count c.in_ok-push.ensures.ok c.loop-start.invariant.0,
      omega arith,
    )

-- at the end the pairs are those of all bytes
all_taken : (c : goal.After-loop-start) → c.loop-start.pairs.items ≡ runs_of c.args.bytes.now
all_taken c =
    let none : drop c.loop-start.start c.args.bytes.now ≡ [] = drop_all c.loop-start.start c.args.bytes.now c.loop-start-test.false in
    sym (append-nil c.loop-start.pairs.items) ∙ (ap (λ (l : List ℕ). c.loop-start.pairs.items ++ runs_of l) (sym none) ∙ c.loop-start.invariant.0)

pub invariant_of-result : goal.invariant_of-result
invariant_of-result c = subst AreRuns (sym (all_taken c)) (apart_runs_of c.args.bytes.now, (let fits : total (runs_of c.args.bytes.now) < 2 ^ 64 = omega (arith, total_runs_of c.args.bytes.now, c.loop-start.auto.start-fits) in fits))

pub returns-clause-bytes : goal.returns-clause-bytes
returns-clause-bytes c = ap expand (all_taken c) ∙ expand_runs_of c.args.bytes.now
