-- The words of a step by their parts: what is read is spelled so and fits, and what fits is read again.
use Rattle.std.proofs.Common.{◌≡◌, ⊎_elim, ℕ, true, ◌&&◌, leb, List, [], ◌∷◌, map, Result, Ok, Err, refl, ◌∙◌, ap, subst, arith}
use Rattle.std.proofs.lemmas.Bool.{leb-true, le-leb, and_parts}
use Rattle.hm_trace.specs.declared.fault.FaultKind.{FaultKind}
use Rattle.hm_trace.specs.declared.fault.FaultKind.TheVariants.{BadNumber, BadWord}
use Rattle.hm_trace.specs.Gives.{◌>>=◌}
use Rattle.hm_trace.specs.Lines.{BytePart, LengthPart, NamePart, Part, RefPart, SizePart, ThreadPart, as_many}
use Rattle.hm_trace.specs.ReadWords.{byte_at, length_at, name_at, place_at, size_at, within}
use Rattle.hm_trace.specs.Views.{StepView}
use Rattle.hm_trace.proofs.Again.{name_again, size_again}
use Rattle.hm_trace.proofs.Bytes.{byte_again, byte_is}
use Rattle.hm_trace.proofs.Choices.{bind_ok, chosen, ok, ok_is}
use Rattle.hm_trace.proofs.Fits.{FitValues, FitsValue}
use Rattle.hm_trace.proofs.Fitting.{name_fits, size_fits}
use Rattle.hm_trace.proofs.Parts.{ByteOf, NameOf, NumberOf, PlaceOf, Value, form_at, value_at, value_word, values_at}
use Rattle.hm_trace.proofs.Places.{place_again, place_is}
use Rattle.hm_trace.proofs.Spelled.{name_is, size_is}

length_is : (word : List ℕ) (n : ℕ) → length_at word ≡ Ok n
    → (word ≡ value_word (NumberOf n)) × FitsValue LengthPart (NumberOf n)
unfolding length_at
length_is word n e =
    let b = bind_ok (size_at word) (λ m. within 1 1048576 m) n e in
    ⊎_elim
    (λ h.
    let t = and_parts (leb 1 b.0) (leb b.0 1048576) h.0 in
    subst (λ m. (word ≡ value_word (NumberOf m)) × FitsValue LengthPart (NumberOf m)) (ok_is b.0 n h.1)
    (size_is word b.0 b.1, (leb-true _ _ t.0, leb-true _ _ t.1)))
    (λ h. absurd cc)
    (chosen (leb 1 b.0 && leb b.0 1048576) (ok b.0) (Err BadNumber) (Ok n) b.2)

length_again : (n : ℕ) → FitsValue LengthPart (NumberOf n) → length_at (value_word (NumberOf n)) ≡ Ok n
unfolding length_at
length_again n h =
    let a : leb 1 n ≡ true = le-leb _ _ h.0 in
    let b : leb n 1048576 ≡ true = le-leb _ _ h.1 in
    rw (size_again n (omega (arith, h.1)), a, b) refl

value_is : (part : Part) (word : List ℕ) (v : Value) → value_at part word ≡ Ok v
    → (word ≡ value_word v) × FitsValue part v
value_is ThreadPart word v e = absurd cc
value_is NamePart word v e =
    let b = bind_ok (name_at word) (λ n. ok (NameOf n)) v e in
    subst (λ (x : Value). (word ≡ value_word x) × FitsValue NamePart x) (ok_is (NameOf b.0) v b.2)
    (name_is word b.0 b.1, name_fits word b.0 b.1)
value_is RefPart word v e =
    let b = bind_ok (place_at word) (λ n. ok (PlaceOf n)) v e in
    subst (λ (x : Value). (word ≡ value_word x) × FitsValue RefPart x) (ok_is (PlaceOf b.0) v b.2)
    (place_is word b.0 b.1)
value_is SizePart word v e =
    let b = bind_ok (size_at word) (λ n. ok (NumberOf n)) v e in
    subst (λ (x : Value). (word ≡ value_word x) × FitsValue SizePart x) (ok_is (NumberOf b.0) v b.2)
    (size_is word b.0 b.1, size_fits word b.0 b.1)
value_is LengthPart word v e =
    let b = bind_ok (length_at word) (λ n. ok (NumberOf n)) v e in
    subst (λ (x : Value). (word ≡ value_word x) × FitsValue LengthPart x) (ok_is (NumberOf b.0) v b.2)
    (length_is word b.0 b.1)
value_is BytePart word v e =
    let b = bind_ok (byte_at word) (λ n. ok (ByteOf n)) v e in
    subst (λ (x : Value). (word ≡ value_word x) × FitsValue BytePart x) (ok_is (ByteOf b.0) v b.2)
    (byte_is word b.0 b.1)

value_again : (part : Part) (v : Value) → FitsValue part v → value_at part (value_word v) ≡ Ok v
value_again NamePart (NameOf n) h = ap (λ r. r >>= λ x. ok (NameOf x)) (name_again n h)
value_again RefPart (PlaceOf p) h = ap (λ r. r >>= λ x. ok (PlaceOf x)) (place_again p h)
value_again SizePart (NumberOf n) h = ap (λ r. r >>= λ x. ok (NumberOf x)) (size_again n h)
value_again LengthPart (NumberOf n) h = ap (λ r. r >>= λ x. ok (NumberOf x)) (length_again n h)
value_again BytePart (ByteOf b) h = ap (λ r. r >>= λ x. ok (ByteOf x)) (byte_again b h)
value_again _ _ h = absurd h

pub values_is : (parts : List Part) (words : List (List ℕ)) (vs : List Value) → as_many words parts ≡ true
    → values_at parts words ≡ Ok vs → (words ≡ map value_word vs) × FitValues parts vs
values_is [] [] vs a e = subst (λ (x : List Value). ([] ≡ map value_word x) × FitValues [] x) (ok_is [] vs e) (refl, tt)
values_is [] (w ∷ ws) vs a e = absurd cc
values_is (p ∷ ps) [] vs a e = absurd cc
values_is (p ∷ ps) (w ∷ ws) vs a e =
    let b = bind_ok (value_at p w) (λ v. values_at ps ws >>= λ xs. ok (v ∷ xs)) vs e in
    let d = bind_ok (values_at ps ws) (λ xs. ok (b.0 ∷ xs)) vs b.2 in
    let h = value_is p w b.0 b.1 in
    let r = values_is ps ws d.0 a d.1 in
    subst (λ (x : List Value). (w ∷ ws ≡ map value_word x) × FitValues (p ∷ ps) x) (ok_is (b.0 ∷ d.0) vs d.2)
    (ap (λ (x : List ℕ). x ∷ ws) h.0 ∙ ap (λ (x : List (List ℕ)). value_word b.0 ∷ x) r.0, (h.1, r.1))

pub values_again : (parts : List Part) (vs : List Value) → FitValues parts vs
    → (as_many (map value_word vs) parts ≡ true) × (values_at parts (map value_word vs) ≡ Ok vs)
values_again [] [] h = (refl, refl)
values_again (p ∷ ps) (v ∷ vs) h =
    let r = values_again ps vs h.1 in (
      r.0,
      ap (λ x. x >>= λ y. values_at ps (map value_word vs) >>= λ ys. ok (y ∷ ys)) (value_again p v h.0)
          ∙ ap (λ x. x >>= λ ys. ok (v ∷ ys)) r.1,
    )
values_again _ _ h = absurd h

-- a step from its words
pub form_is : (parts : List Part) (make : List Value → Result StepView FaultKind) (words : List (List ℕ)) (s : StepView)
    → form_at parts make words ≡ Ok s
    → (vs : List Value) × (words ≡ map value_word vs) × FitValues parts vs × (make vs ≡ Ok s)
form_is parts make words s e =
    ⊎_elim
    (λ h.
    let b = bind_ok (values_at parts words) make s h.1 in
    let r = values_is parts words b.0 h.0 b.1 in
    (b.0, r.0, r.1, b.2))
    (λ h. absurd cc)
    (chosen (as_many words parts) (values_at parts words >>= make) (Err BadWord) (Ok s) e)

pub form_again : (parts : List Part) (make : List Value → Result StepView FaultKind) (vs : List Value) (s : StepView)
    → FitValues parts vs → make vs ≡ Ok s → form_at parts make (map value_word vs) ≡ Ok s
form_again parts make vs s h e = let r = values_again parts vs h in rw (r.0, r.1) e
