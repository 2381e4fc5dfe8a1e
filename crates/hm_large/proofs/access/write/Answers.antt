use Rattle.std.proofs.Common.{◌≡◌, ℕ, List, length, take, get_or, refl, sym, ◌∙◌, subst, arith}
use Rattle.hm_model.specs.Runs.{expand, total}
use Rattle.hm_model.proofs.RunsOf.{length_expand}
use Rattle.hm_large.proofs.Parts.{IsOver, none_over, run_over, expand_front, total_more, total_within}
use Rattle.hm_large.proofs.access.write.Goals as goal

pub loop-byte-init : goal.loop-byte-init
loop-byte-init g c = record {
  told = refl;
  owner = refl;
  count = refl;
  at = omega arith;
  written = λ tells apart q b is lies. none_over (g.P.Pages.runs c.args.pages.now) q b c.args.addr is;
}

pub overflow_add-at : goal.overflow_add-at
overflow_add-at g c =
    omega (arith, c.requires.below, c.loop-byte.invariant.at, total_within c.args.pairs.now c.loop-byte.byte-index c.loop-byte-test.true)

pub loop-byte-preserved : goal.loop-byte-preserved
loop-byte-preserved g c =
    let pairs = c.args.pairs.now in let i = c.loop-byte.byte-index in let l = c.loop-byte.invariant in
    let run : ℕ × ℕ = get_or pairs i (0, 0) in
    let w = expand (take i pairs) in
    let runs = g.P.Pages.runs c.args.pages.now in
    let count : length w ≡ total (take i pairs) = length_expand (take i pairs) in record {
      told = c.write_run.ensures.same.told ∙ l.told;
      owner = c.write_run.ensures.same.owner ∙ l.owner;
      count = c.write_run.ensures.same.count ∙ l.count;
      at = omega (arith, l.at, total_more pairs i c.loop-byte-test.true);
      written = λ tells apart q b is lies. (let told = l.told ∙ tells in
          subst (λ (v : List ℕ). IsOver runs q b c.args.addr v (g.P.Pages.runs c.write_run.new.pages)) (sym (expand_front pairs i c.loop-byte-test.true))
          (run_over runs (g.P.Pages.runs c.loop-byte.pages) (g.P.Pages.runs c.write_run.new.pages) q b c.args.addr (total pairs) c.loop-byte.at run.0 run.1 w apart is lies
          (omega (arith, count, total_within pairs i c.loop-byte-test.true)) (omega (arith, count, l.at)) (l.written tells apart q b is lies)
          (c.write_run.ensures.written told) (c.write_run.ensures.nothing told)));
    }
