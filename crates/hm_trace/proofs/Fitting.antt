-- What is read has a spelling.
use Rattle.std.proofs.Common.{◌≡◌, ⊎_elim, ℕ, zero, suc, ◌≤◌, ◌<◌, ◌^◌, Bool, true, false, ◌&&◌, cond, eqb, leb, List, [], ◌∷◌, take, drop, Ok, Err, ℤ, pos, neg_ℤ, subst, arith}
use Rattle.std.proofs.lemmas.Bool.{leb-true, and_parts}
use Rattle.hm_trace.specs.declared.fault.FaultKind.TheVariants.{BadName, BadNumber}
use Rattle.hm_trace.specs.Gives.{◌>>=◌}
use Rattle.hm_trace.specs.Lines.{sign_position}
use Rattle.hm_trace.specs.Names.{is_name}
use Rattle.hm_trace.specs.ReadNumbers.{number_at}
use Rattle.hm_trace.specs.ReadWords.{distance_at, name_at, named_at, offset_at, size_at}
use Rattle.hm_trace.specs.Views.{Named, PlaceView}
use Rattle.hm_trace.proofs.Choices.{bind_ok, chosen, ok, ok_is, some_is}
use Rattle.hm_trace.proofs.Fits.{FitsOffset, FitsPlace}
use Rattle.hm_trace.proofs.Numerals.{a_number}

pub name_fits : (word n : List ℕ) → name_at word ≡ Ok n → is_name n ≡ true
name_fits word n e =
    ⊎_elim (λ h. subst (λ (x : List ℕ). is_name x ≡ true) (ok_is word n h.1) h.0) (λ h. absurd cc)
    (chosen (is_name word) (ok word) (Err BadName) (Ok n) e)

pub size_fits : (word : List ℕ) (n : ℕ) → size_at word ≡ Ok n → n < 2 ^ 64
size_fits word n e = (a_number word n (some_is BadNumber (number_at word) n e)).small

distance_fits : (word : List ℕ) (n : ℕ) → distance_at word ≡ Ok n → (1 ≤ n) × (n ≤ 1099511627776)
unfolding distance_at
distance_fits word n e =
    let b = bind_ok (size_at word) (λ m. cond (leb 1 m && leb m 1099511627776) (Ok m) (Err BadNumber)) n e in
    ⊎_elim
    (λ h.
    let t = and_parts (leb 1 b.0) (leb b.0 1099511627776) h.0 in
    subst (λ m. (1 ≤ m) × (m ≤ 1099511627776)) (ok_is b.0 n h.1) (leb-true _ _ t.0, leb-true _ _ t.1))
    (λ h. absurd cc)
    (chosen (leb 1 b.0 && leb b.0 1099511627776) (ok b.0) (Err BadNumber) (Ok n) b.2)

signed_fits : (plus : Bool) (n : ℕ) → 1 ≤ n → n ≤ 1099511627776 → FitsOffset (cond plus (pos n) (neg_ℤ (pos n)))
signed_fits plus zero low high = absurd (omega arith)
signed_fits true (suc n) low high = high
signed_fits false (suc n) low high = high

offset_fits : (word : List ℕ) (z : ℤ) → offset_at word ≡ Ok z → FitsOffset z
unfolding offset_at
offset_fits [] z e = subst FitsOffset (ok_is (pos 0) z e) (omega arith)
offset_fits (c ∷ cs) z e =
    let b = bind_ok (distance_at cs) (λ n. ok (cond (eqb c 43) (pos n) (neg_ℤ (pos n)))) z e in
    let d = distance_fits cs b.0 b.1 in
    subst FitsOffset (ok_is _ _ b.2) (signed_fits (eqb c 43) b.0 d.0 d.1)

pub named_fits : (word : List ℕ) (p : PlaceView) → named_at word ≡ Ok p → FitsPlace p
unfolding named_at
named_fits word p e =
    let front = take (sign_position word) word in
    let rest = drop (sign_position word) word in
    let b = bind_ok (name_at front) (λ name. offset_at rest >>= λ offset. ok (Named name offset)) p e in
    let o = bind_ok (offset_at rest) (λ offset. ok (Named b.0 offset)) p b.2 in
    subst FitsPlace (ok_is (Named b.0 o.0) p o.2) (name_fits front b.0 b.1, offset_fits rest o.0 o.1)
