-- Lists that are changed element by element.
use Rattle.std.proofs.Common.{◌≡◌, ℕ, ◌+◌, ◌<◌, List, [], ◌∷◌, ◌++◌, length, map, take, slice_index_or, slice_set, arith, refl, suc, ap, sym, ◌∙◌, subst}
use Rattle.hm_turn.specs.Known.{Known}
use Rattle.std.proofs.lemmas.Bool.{cases_lt}
use Rattle.std.proofs.lemmas.List.{get_or-set_same, get_or-set_other, get_or_default, take_more, map-append}
use mathlib.Core.Logic.{inl, inr}
use Rattle.hm_heap.specs.Passes.{met, all_met}
use Rattle.hm_heap.proofs.Loops.{ChangedTo}

pub map_at : {X : Type 0} (f : X → X) (xs ys : List X) → length ys ≡ length xs → ((k : ℕ) (x : X) → k < length xs → slice_index_or ys k x ≡ f (slice_index_or xs k x)) → ys ≡ map f xs
map_at f [] [] s e = refl
map_at f [] (y ∷ ys) s e = absurd (omega arith)
map_at f (x ∷ xs) [] s e = absurd (omega arith)
map_at f (x ∷ xs) (y ∷ ys) s e = let h : y ≡ f x = e 0 x (omega arith) in
    let t : ys ≡ map f xs = map_at f xs ys (omega arith) (λ k d b. e (suc k) d (omega arith)) in
    λ i. h i ∷ t i

pub all_met_at : (ts us ys : List Known) → length us ≡ length ts → length ys ≡ length ts → ((k : ℕ) (t u : Known) → k < length ts → slice_index_or ys k t ≡ met (slice_index_or ts k t) (slice_index_or us k u)) → ys ≡ all_met ts us
all_met_at [] us [] p q e = refl
all_met_at [] us (y ∷ ys) p q e = absurd (omega arith)
all_met_at (t ∷ ts) [] ys p q e = absurd (omega arith)
all_met_at (t ∷ ts) (u ∷ us) [] p q e = absurd (omega arith)
all_met_at (t ∷ ts) (u ∷ us) (y ∷ ys) p q e = let h : y ≡ met t u = e 0 t u (omega arith) in
    let r : ys ≡ all_met ts us = all_met_at ts us ys (omega arith) (omega arith) (λ k d d' b. e (suc k) d d' (omega arith)) in
    λ i. h i ∷ r i

-- one more element is changed, and one more made
pub changed_more : {X : Type 0} (change make : X → X) (start now made : List X) (i : ℕ) (x y z : X) → ChangedTo change make start now made i → i < length start → i < length now → x ≡ slice_index_or start i x → y ≡ change x → z ≡ make x
    → ChangedTo change make start (slice_set now i y) (made ++ z ∷ []) (i + 1)
changed_more {X} change make start now made i x y z f b b' at changed born =
    let same : (d : X) → x ≡ slice_index_or start i d = λ d. at ∙ get_or_default start i x d b in
    record {
      done = λ k d lt. elim (cases_lt k i) [
        | inl m ↦ get_or-set_other now i k y d (λ e. omega (arith, m, e)) ∙ f.done k d m
        | inr m ↦ let e : i ≡ k = omega (arith, m, lt) in
            subst (λ (n : ℕ). slice_index_or (slice_set now i y) n d ≡ change (slice_index_or start n d)) e (get_or-set_same now i y d b' ∙ changed ∙ ap change (same d))
      ];
      later = λ k d le. get_or-set_other now i k y d (λ e. omega (arith, le, e)) ∙ f.later k d (omega (arith, le));
      made_is = ap (λ (l : List X). l ++ z ∷ []) f.made_is ∙ ap (λ (w : X). map make (take i start) ++ w ∷ []) (born ∙ ap make (same x)) ∙ sym (map-append make (take i start) (slice_index_or start i x ∷ [])) ∙ sym (ap (map make) (take_more start i x b));
    }
