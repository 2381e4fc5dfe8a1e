-- A step that was read is what its words spell.
use Rattle.std.proofs.Common.{◌≡◌, ⊎_elim, ℕ, zero, suc, ◌+◌, ◌≤◌, Bool, true, false, ◌&&◌, cond, eqb, leb, List, [], ◌∷◌, ◌++◌, take, drop, Ok, Err, ℤ, pos, neg_ℤ, refl, sym, ◌∙◌, ap, subst, arith, add-one, take-append-drop}
use Rattle.std.specs.Fmt.{decimal}
use Rattle.std.proofs.lemmas.Bool.Decides.{nat_tests}
use Rattle.std.proofs.lemmas.Bool.{leb-true, and_parts}
use Rattle.hm_trace.specs.declared.fault.FaultKind.TheVariants.{BadName, BadNumber}
use Rattle.hm_trace.specs.Gives.{◌>>=◌}
use Rattle.hm_trace.specs.Lines.{is_sign, sign_position}
use Rattle.hm_trace.specs.Names.{is_name}
use Rattle.hm_trace.specs.ReadNumbers.{number_at}
use Rattle.hm_trace.specs.ReadWords.{distance_at, name_at, named_at, offset_at, size_at}
use Rattle.hm_trace.specs.Spelling.{offset_word, place_word}
use Rattle.hm_trace.specs.Views.{Named, PlaceView}
use Rattle.hm_trace.proofs.Choices.{bind_ok, chosen, ok, ok_is, some_is}
use Rattle.hm_trace.proofs.Decimals.{spelled}

pub name_is : (word n : List ℕ) → name_at word ≡ Ok n → word ≡ n
name_is word n e =
    ⊎_elim (λ h. ok_is word n h.1) (λ h. absurd cc) (chosen (is_name word) (ok word) (Err BadName) (Ok n) e)

pub size_is : (word : List ℕ) (n : ℕ) → size_at word ≡ Ok n → word ≡ decimal n
size_is word n e = spelled word n (some_is BadNumber (number_at word) n e)

distance_is : (word : List ℕ) (n : ℕ) → distance_at word ≡ Ok n → (word ≡ decimal n) × (1 ≤ n)
unfolding distance_at
distance_is word n e =
    let b = bind_ok (size_at word) (λ m. cond (leb 1 m && leb m 1099511627776) (Ok m) (Err BadNumber)) n e in
    ⊎_elim
    (λ h. (
      size_is word n (b.1 ∙ ap (λ z. ok z) (ok_is b.0 n h.1)),
      subst (λ m. 1 ≤ m) (ok_is b.0 n h.1) (leb-true _ _ (and_parts _ _ h.0).0),
    ))
    (λ h. absurd cc) (chosen (leb 1 b.0 && leb b.0 1099511627776) (ok b.0) (Err BadNumber) (Ok n) b.2)

-- what follows a name is nothing, or begins with a sign
pub record IsBack (word : List ℕ) : Type 0 where
  pub signed : (c : ℕ) (cs : List ℕ) → word ≡ c ∷ cs → is_sign c ≡ true

back_at : (b : ℕ) (bs : List ℕ) (t : Bool) → is_sign b ≡ t → IsBack (drop (sign_position bs) bs)
    → IsBack (drop (cond t 0 (sign_position bs + 1)) (b ∷ bs))
back_at b bs true h rest = record { signed = λ c cs e. let q : b ≡ c = cc in subst (λ x. is_sign x ≡ true) q h }
back_at b bs false h rest = rw add-one rest

back : (word : List ℕ) → IsBack (drop (sign_position word) word)
back [] = record { signed = λ c cs e. absurd cc }
back (b ∷ bs) = back_at b bs (is_sign b) refl (back bs)

plus_word : (n : ℕ) → 1 ≤ n → offset_word (pos n) ≡ 43 ∷ decimal n
plus_word zero h = absurd (omega arith)
plus_word (suc n) h = refl

minus_word : (n : ℕ) → 1 ≤ n → offset_word (neg_ℤ (pos n)) ≡ 45 ∷ decimal n
minus_word zero h = absurd (omega arith)
minus_word (suc n) h = refl

offset_is : (word : List ℕ) (z : ℤ) → IsBack word → offset_at word ≡ Ok z → word ≡ offset_word z
unfolding offset_at
offset_is [] z h e = ap offset_word (ok_is (pos 0) z e)
offset_is (c ∷ cs) z h e =
    let b = bind_ok (distance_at cs) (λ n. ok (cond (eqb c 43) (pos n) (neg_ℤ (pos n)))) z e in
    let d = distance_is cs b.0 b.1 in
    let sign = h.signed c cs refl in
    let at : (s : ℕ) → c ≡ s → c ∷ cs ≡ s ∷ decimal b.0 =
    λ s is. ap (λ x. x ∷ cs) is ∙ ap (λ (l : List ℕ). s ∷ l) d.0 in
    ⊎_elim
    (λ t.
    let plus : c ≡ 43 = grind (arith, nat_tests, t.0) in at 43 plus ∙ sym (plus_word b.0 d.1) ∙ ap offset_word t.1)
    (λ t.
    let minus : c ≡ 45 = grind (arith, nat_tests, t.0, sign) in
    at 45 minus ∙ sym (minus_word b.0 d.1) ∙ ap offset_word t.1)
    (chosen (eqb c 43) (pos b.0) (neg_ℤ (pos b.0)) z (ok_is _ _ b.2))

pub named_is : (word : List ℕ) (p : PlaceView) → named_at word ≡ Ok p → word ≡ place_word p
unfolding named_at
named_is word p e =
    let front = take (sign_position word) word in
    let rest = drop (sign_position word) word in
    let b = bind_ok (name_at front) (λ name. offset_at rest >>= λ offset. ok (Named name offset)) p e in
    let o = bind_ok (offset_at rest) (λ offset. ok (Named b.0 offset)) p b.2 in
    sym (take-append-drop (sign_position word) word)
    ∙ ap (λ (l : List ℕ). l ++ rest) (name_is front b.0 b.1)
    ∙ ap (λ (l : List ℕ). b.0 ++ l) (offset_is rest o.0 (back word) o.1)
    ∙ ap place_word (ok_is (Named b.0 o.0) p o.2)
