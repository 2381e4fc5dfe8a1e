-- References.
use Rattle.std.proofs.Common.{◌≡◌, ⊎_elim, ℕ, true, false, cond, eqb, List, [], ◌∷◌, ◌++◌, codes, Result, Ok, ℤ, refl, ◌∙◌, ap, subst, arith}
use Rattle.std.proofs.lemmas.Bool.Decides.{nat_tests}
use Rattle.hm_trace.specs.declared.fault.FaultKind.{FaultKind}
use Rattle.hm_trace.specs.declared.fault.FaultKind.TheVariants.{BadNumber}
use Rattle.hm_trace.specs.Gives.{or_fault, ◌>>=◌}
use Rattle.hm_trace.specs.Names.{is_name, is_word}
use Rattle.hm_trace.specs.ReadNumbers.{hex_at}
use Rattle.hm_trace.specs.ReadWords.{named_at, place_at}
use Rattle.hm_trace.specs.Spelling.{offset_word, place_word}
use Rattle.hm_trace.specs.Views.{At, Named, Null, PlaceView}
use Rattle.hm_trace.proofs.Again.{first_letter, named_again, not_null}
use Rattle.hm_trace.proofs.Choices.{bind_ok, chosen, ok, ok_is, some_is, word_is}
use Rattle.hm_trace.proofs.Fits.{FitsPlace}
use Rattle.hm_trace.proofs.Fitting.{named_fits}
use Rattle.hm_trace.proofs.Hex.{hex_again, hex_small, hex_spelled}
use Rattle.hm_trace.proofs.Spelled.{named_is}

abbrev Goal : List ℕ → PlaceView → Type 0
Goal word p = (word ≡ place_word p) × FitsPlace p

pub place_is : (word : List ℕ) (p : PlaceView) → place_at word ≡ Ok p → Goal word p
unfolding place_at
place_is [] p e = absurd cc
place_is (c ∷ cs) p e =
    let word = c ∷ cs in
    let address : Result PlaceView FaultKind = or_fault BadNumber (hex_at cs) >>= λ a. ok (At a) in
    ⊎_elim
    (λ (h : (eqb c 64 ≡ true) × (address ≡ Ok p)).
    let b = bind_ok (or_fault BadNumber (hex_at cs)) (λ a. ok (At a)) p h.1 in
    let s = some_is BadNumber (hex_at cs) b.0 b.1 in
    let first : c ≡ 64 = grind (arith, nat_tests, h.0) in
    subst (Goal word) (ok_is (At b.0) p b.2)
    (ap (λ x. x ∷ cs) first ∙ ap (λ (l : List ℕ). 64 ∷ l) (hex_spelled cs b.0 s), hex_small cs b.0 s))
    (λ (h : (eqb c 64 ≡ false) × (cond (is_word word (codes "null")) (Ok Null) (named_at word) ≡ Ok p)).
    ⊎_elim (λ t. subst (Goal word) (ok_is Null p t.1) (word_is word (codes "null") t.0, tt))
    (λ t. (named_is word p t.1, named_fits word p t.1))
    (chosen (is_word word (codes "null")) (ok Null) (named_at word) (Ok p) h.1))
    (chosen (eqb c 64) address (cond (is_word word (codes "null")) (Ok Null) (named_at word)) (Ok p) e)

named_place : (name : List ℕ) (z : ℤ) → is_name name ≡ true → is_word (name ++ offset_word z) (codes "null") ≡ false
    → named_at (name ++ offset_word z) ≡ Ok (Named name z) → place_at (name ++ offset_word z) ≡ Ok (Named name z)
unfolding place_at
named_place [] z h n e = absurd (first_letter [] h)
named_place (c ∷ cs) z h n e = let apart : eqb c 64 ≡ false = first_letter (c ∷ cs) h in rw (apart, n) e

pub place_again : (p : PlaceView) → FitsPlace p → place_at (place_word p) ≡ Ok p
unfolding place_at
place_again Null h = refl
place_again (At a) h = rw (hex_again a h) refl
place_again (Named name z) h = named_place name z h.0 (not_null name z h.0) (named_again name z h.0 h.1)
