use Rattle.std.proofs.Common.{◌≡◌, true, subst, arith, rules, tests}
use Rattle.std.proofs.lemmas.Bool.{MatchBool-at_true}
use Rattle.std.proofs.lemmas.Iterator.{YieldsList-from_slice, cases_from_all}
use Rattle.std.proofs.lemmas.Iterator.Search.{true_from_All}
use Rattle.std.proofs.lemmas.List.{get_or_default}
use Rattle.hm_slab_meta.proofs.MapBits.{IsClearWord, all_clear, clear_word}
use Rattle.hm_slab_meta.proofs.bit_map.BitMap.is_empty.Goals as goal

pub returns : goal.returns
returns c =
    let words = c.args.self.now.words in
    let tested = cases_from_all _ _ _ IsClearWord (λ word. IsClearWord word → ⊥) c.all.ensures.ran (YieldsList-from_slice words c.iter.ensures.rest) (λ x r k. search (rules, tests)) (λ x r k. search (rules, tests)) in (
      λ all. all_clear c.args.self.now (λ k lt. MatchBool-at_true _ _ all tested k 0 (omega arith) (omega (arith, lt))),
      λ clear.
          let all : c.all.result ≡ true =
          true_from_All IsClearWord (λ word. IsClearWord word → ⊥) _ _ (λ word p q. q p) tested
          (λ k d lt. subst IsClearWord (get_or_default words k 0 d lt) (clear_word c.args.self.now k (omega (arith, lt)) clear)) in
          search rules,
    )
