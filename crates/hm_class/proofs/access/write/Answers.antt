use Rattle.std.proofs.Common.{◌≡◌, ◌∙◌, ◌+◌, ◌++◌, ℕ, List, [], ◌∷◌, drop, replicate, get_or, sym, ap, refl, subst, arith, append_assoc, append-nil, length-append}
use Rattle.std.proofs.lemmas.List.{drop_more, drop_all, length-replicate}
use Rattle.hm_model.specs.Runs.{expand, total}
use Rattle.hm_class_rules.specs.Bytes.{write}
use Rattle.hm_class.specs.Region.{HoldsSlabs}
use Rattle.hm_class.proofs.Accessed.{holds_nothing, still_have, written_behind}
use Rattle.hm_class.proofs.access.write.Goals as goal

pub loop-byte-init : goal.loop-byte-init
loop-byte-init g c = record { later = omega arith; left = refl; told = refl; owner = refl; count = refl; written = λ told s h have. ([], refl, omega arith, holds_nothing c.args.identity.now.shape c.args.addr s _ h) }

pub loop-byte-preserved : goal.loop-byte-preserved
loop-byte-preserved g c =
    let p = c.args.identity.now.shape in
    let pairs : List (ℕ × ℕ) = c.args.pairs.now in
    let i : ℕ = c.loop-byte.byte-index in
    let run : ℕ × ℕ = get_or pairs i (0, 0) in
    let rest : List (ℕ × ℕ) = drop (i + 1) pairs in
    let split : drop i pairs ≡ run ∷ rest = drop_more pairs i (0, 0) c.loop-byte-test.true in
    let left : c.loop-byte.at + (run.1 + total rest) ≡ c.args.addr + total pairs = ap (λ (l : List (ℕ × ℕ)). c.loop-byte.at + total l) (sym split) ∙ c.loop-byte.invariant.left in record {
      later = omega (arith, c.loop-byte.invariant.later);
      left = omega (arith, left);
      told = c.write_run.ensures.pages.told ∙ c.loop-byte.invariant.told;
      owner = c.write_run.ensures.pages.owner ∙ c.loop-byte.invariant.owner;
      count = c.write_run.ensures.pages.count ∙ c.loop-byte.invariant.count;
      written = λ told s h have.
          (let before = c.loop-byte.invariant.written told s h have in
          let w : List ℕ = before.0 in
          let v : List ℕ = replicate run.1 run.0 in
          let own : v ++ expand rest ≡ expand (drop i pairs) = sym (ap expand split) in (
            w ++ v,
            append_assoc w v (expand rest) ∙ ap (λ (l : List ℕ). w ++ l) own ∙ before.1,
            omega (arith, length-append w v, length-replicate run.1 run.0, before.2),
            written_behind s c.args.addr c.loop-byte.at w v (w ++ v) before.2 refl
                (c.write_run.ensures.written (c.loop-byte.invariant.told ∙ told) (write p c.args.addr w s) before.3
                (still_have p s c.args.addr c.loop-byte.at run.1 w (λ q from to. have q (omega (arith, from, c.loop-byte.invariant.later)) (omega (arith, to, left))))),
          ));
    }

pub returns : goal.returns
returns g c = record {
  pages = record { told = c.loop-byte.invariant.told; owner = c.loop-byte.invariant.owner; count = c.loop-byte.invariant.count };
  written = λ told s h have.
      (let last = c.loop-byte.invariant.written told s h have in
      let none : drop c.loop-byte.byte-index c.args.pairs.now ≡ [] = drop_all c.loop-byte.byte-index c.args.pairs.now (omega (arith, c.loop-byte-test.false)) in
      subst (λ (l : List ℕ). HoldsSlabs c.args.identity.now.shape (write c.args.identity.now.shape c.args.addr l s).opens (g.P.Pages.runs c.loop-byte.pages))
      (sym (append-nil last.0) ∙ ap (λ (l : List (ℕ × ℕ)). last.0 ++ expand l) (sym none) ∙ last.1) last.3);
}
