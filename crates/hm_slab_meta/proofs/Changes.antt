-- One slot changes: the bits that a call sets and clears, and what contracts see of that.
use Rattle.std.proofs.Common.{◌≡◌, ℕ, ◌<◌, Bool, true, false, List, length, get_or, inl, inr, refl, sym, ap, subst, ◌∙◌, arith}
use Rattle.std.proofs.Math.ListN.{set, length-set}
use Rattle.std.proofs.lemmas.Bool.{cases_eq, eqb-true, eq-eqb, ne_eqb, cond-true, cond-false}
use Rattle.std.proofs.lemmas.List.{get_or-set_same, get_or-set_other}
use Rattle.std.proofs.lemmas.List.FromFn.{fill_by_all}
use Rattle.std.specs.Prelude.{◌==◌, if◌then◌else◌}
use Rattle.hm_slab_meta.specs.declared.bit_map.BitMap.{BitMap}
use Rattle.hm_slab_meta.specs.Maps.{has}
use Rattle.hm_slab_meta.specs.Uses.{SlotUse, SlabUse, Never, Free, Live, Quarantined, Condemned, is_available, was_given, with_use}
use Rattle.hm_slab_meta.specs.Kept.{use_of, use_in, uses_of, fits, IsKept}
use Rattle.hm_slab_meta.proofs.Slots.{length-uses_of, get_or-uses_of, Reads}

falsehood : false ≡ true → ⊥
falsehood e = cc

-- bit i of the new map is that of the old one, but for one bit
abbrev pub Sets : BitMap → ℕ → Bool → BitMap → Type 0
Sets old slot b new = (i : ℕ) → i < 256 → has new i ≡ (if i == slot then b else has old i)

-- of each slot, the use after a change of one
pub record Changed (l h c g l' h' c' g' : BitMap) (slot : ℕ) (u : SlotUse) : Type 0 where
  pub use_ : (i : ℕ) → i < 256 → use_in l' h' c' g' i ≡ (if i == slot then u else use_in l h c g i)
  pub fit : (i : ℕ) → i < 256 → fits (has l' i) (has h' i) (has c' i) (has g' i) ≡ true

-- ---- the four bits of a slot, t where it is the one that changes
record Turns (l h c g : Bool) (u : SlotUse) : Type 0 where
  use_ : use_of l h c g ≡ u
  fit : fits l h c g ≡ true

gives_bits : (t l h c g : Bool) → fits l h c g ≡ true → (t ≡ true → is_available (use_of l h c g) ≡ true)
    → Turns (if t then true else l) h c (if t then true else g) (if t then Live else use_of l h c g)
gives_bits false l h c g f a = record { use_ = refl; fit = f }
gives_bits true true h c g f a = absurd (falsehood (a refl))
gives_bits true false true c g f a = absurd (falsehood (a refl))
gives_bits true false false true g f a = absurd (falsehood (a refl))
gives_bits true false false false g f a = record { use_ = refl; fit = refl }

quarantines_bits : (t l h c g : Bool) → fits l h c g ≡ true → (t ≡ true → use_of l h c g ≡ Live)
    → Turns (if t then false else l) (if t then true else h) c g (if t then Quarantined else use_of l h c g)
quarantines_bits false l h c g f a = record { use_ = refl; fit = f }
quarantines_bits true true true c g f a = absurd (falsehood f)
quarantines_bits true true false true g f a = absurd (falsehood f)
quarantines_bits true true false false g f a = record { use_ = refl; fit = f }
quarantines_bits true false true c g f a = let e = a refl in cc
quarantines_bits true false false true g f a = let e = a refl in cc
quarantines_bits true false false false true f a = let e = a refl in cc
quarantines_bits true false false false false f a = let e = a refl in cc

releases_bits : (t l h c g : Bool) → fits l h c g ≡ true → (t ≡ true → use_of l h c g ≡ Quarantined)
    → Turns l (if t then false else h) c g (if t then Free else use_of l h c g)
releases_bits false l h c g f a = record { use_ = refl; fit = f }
releases_bits true true h c g f a = let e = a refl in cc
releases_bits true false true true g f a = absurd (falsehood f)
releases_bits true false true false true f a = record { use_ = refl; fit = refl }
releases_bits true false true false false f a = absurd (falsehood f)
releases_bits true false false true g f a = let e = a refl in cc
releases_bits true false false false true f a = let e = a refl in cc
releases_bits true false false false false f a = let e = a refl in cc

condemns_bits : (t l h c g : Bool) → fits l h c g ≡ true → (t ≡ true → is_available (use_of l h c g) ≡ true)
    → Turns l h (if t then true else c) g (if t then Condemned (was_given (use_of l h c g)) else use_of l h c g)
condemns_bits false l h c g f a = record { use_ = refl; fit = f }
condemns_bits true true h c g f a = absurd (falsehood (a refl))
condemns_bits true false true c g f a = absurd (falsehood (a refl))
condemns_bits true false false true g f a = absurd (falsehood (a refl))
condemns_bits true false false false true f a = record { use_ = refl; fit = refl }
condemns_bits true false false false false f a = record { use_ = refl; fit = refl }

-- ---- the maps
turned : (l h c g : BitMap) (slot : ℕ) (u : SlotUse) (P : SlotUse → Type 0) → P u → use_in l h c g slot ≡ u
    → (i : ℕ) → (i == slot) ≡ true → P (use_in l h c g i)
turned l h c g slot u P holds is i same = subst P (sym (ap (use_in l h c g) (eqb-true i slot same) ∙ is)) holds

pub gives : (l h c g l' g' : BitMap) (slots slot : ℕ) (u : SlotUse) → IsKept l h c g slots → Reads l h c g slots slot u → is_available u ≡ true
    → Sets l slot true l' → Sets g slot true g' → Changed l h c g l' h c g' slot Live
gives l h c g l' g' slots slot u kept at free set_l set_g = record { use_ = λ i below. (each i below).use_; fit = λ i below. (each i below).fit }
  where
    each : (i : ℕ) → i < 256 → Turns (has l' i) (has h i) (has c i) (has g' i) (if i == slot then Live else use_in l h c g i)
    each i below =
        subst (λ x. Turns x (has h i) (has c i) (has g' i) (if i == slot then Live else use_in l h c g i)) (sym (set_l i below))
        (subst (λ x. Turns (if i == slot then true else has l i) (has h i) (has c i) x (if i == slot then Live else use_in l h c g i)) (sym (set_g i below))
        (gives_bits (i == slot) (has l i) (has h i) (has c i) (has g i) (kept.each i below)
        (turned l h c g slot u (λ v. is_available v ≡ true) free at.is i)))

pub quarantines : (l h c g l' h' : BitMap) (slots slot : ℕ) → IsKept l h c g slots → Reads l h c g slots slot Live
    → Sets l slot false l' → Sets h slot true h' → Changed l h c g l' h' c g slot Quarantined
quarantines l h c g l' h' slots slot kept at set_l set_h = record { use_ = λ i below. (each i below).use_; fit = λ i below. (each i below).fit }
  where
    each : (i : ℕ) → i < 256 → Turns (has l' i) (has h' i) (has c i) (has g i) (if i == slot then Quarantined else use_in l h c g i)
    each i below =
        subst (λ x. Turns x (has h' i) (has c i) (has g i) (if i == slot then Quarantined else use_in l h c g i)) (sym (set_l i below))
        (subst (λ x. Turns (if i == slot then false else has l i) x (has c i) (has g i) (if i == slot then Quarantined else use_in l h c g i)) (sym (set_h i below))
        (quarantines_bits (i == slot) (has l i) (has h i) (has c i) (has g i) (kept.each i below)
        (turned l h c g slot Live (λ v. v ≡ Live) refl at.is i)))

pub releases : (l h c g h' : BitMap) (slots slot : ℕ) → IsKept l h c g slots → Reads l h c g slots slot Quarantined
    → Sets h slot false h' → Changed l h c g l h' c g slot Free
releases l h c g h' slots slot kept at set_h = record { use_ = λ i below. (each i below).use_; fit = λ i below. (each i below).fit }
  where
    each : (i : ℕ) → i < 256 → Turns (has l i) (has h' i) (has c i) (has g i) (if i == slot then Free else use_in l h c g i)
    each i below =
        subst (λ x. Turns (has l i) x (has c i) (has g i) (if i == slot then Free else use_in l h c g i)) (sym (set_h i below))
        (releases_bits (i == slot) (has l i) (has h i) (has c i) (has g i) (kept.each i below)
        (turned l h c g slot Quarantined (λ v. v ≡ Quarantined) refl at.is i))

pub condemns : (l h c g c' : BitMap) (slots slot : ℕ) (u : SlotUse) → IsKept l h c g slots → Reads l h c g slots slot u → is_available u ≡ true
    → Sets c slot true c' → Changed l h c g l h c' g slot (Condemned (was_given u))
condemns l h c g c' slots slot u kept at free set_c = record { use_ = λ i below. named i (each i below).use_; fit = λ i below. (each i below).fit }
  where
    each : (i : ℕ) → i < 256 → Turns (has l i) (has h i) (has c' i) (has g i) (if i == slot then Condemned (was_given (use_in l h c g i)) else use_in l h c g i)
    each i below =
        subst (λ x. Turns (has l i) (has h i) x (has g i) (if i == slot then Condemned (was_given (use_in l h c g i)) else use_in l h c g i)) (sym (set_c i below))
        (condemns_bits (i == slot) (has l i) (has h i) (has c i) (has g i) (kept.each i below)
        (turned l h c g slot u (λ v. is_available v ≡ true) free at.is i))

    same : (b : Bool) (v w : SlotUse) → (b ≡ true → v ≡ u) → (if b then Condemned (was_given v) else w) ≡ (if b then Condemned (was_given u) else w)
    same true v w e = ap (λ x. Condemned (was_given x)) (e refl)
    same false v w e = refl

    named : (i : ℕ) {v : SlotUse} → v ≡ (if i == slot then Condemned (was_given (use_in l h c g i)) else use_in l h c g i)
        → v ≡ (if i == slot then Condemned (was_given u) else use_in l h c g i)
    named i e = e ∙ same (i == slot) (use_in l h c g i) (use_in l h c g i) (turned l h c g slot u (λ v. v ≡ u) refl at.is i)

-- ---- what is kept then, and what contracts see
pub kept_then : (l h c g l' h' c' g' : BitMap) (slots slot : ℕ) (u : SlotUse) → IsKept l h c g slots → slot < slots
    → Changed l h c g l' h' c' g' slot u → IsKept l' h' c' g' slots
kept_then l h c g l' h' c' g' slots slot u kept below changed = record {
  some = kept.some;
  few = kept.few;
  each = changed.fit;
  past = λ i ge small. changed.use_ i small ∙ cond-false (i == slot) u (use_in l h c g i) (ne_eqb i slot (λ e. omega (arith, ge, below, e))) ∙ kept.past i ge small;
}

seen_then : (l h c g l' h' c' g' : BitMap) (slots slot : ℕ) (u : SlotUse) → IsKept l h c g slots → slot < slots
    → Changed l h c g l' h' c' g' slot u → uses_of l' h' c' g' slots ≡ set (uses_of l h c g slots) slot u
seen_then l h c g l' h' c' g' slots slot u kept below changed =
    sym (fill_by_all (use_in l' h' c' g') (set (uses_of l h c g slots) slot u) slots Never long each)
  where
    long : length (set (uses_of l h c g slots) slot u) ≡ slots
    long = length-set (uses_of l h c g slots) slot u ∙ length-uses_of l h c g slots

    each : (k : ℕ) → k < slots → get_or (set (uses_of l h c g slots) slot u) k Never ≡ use_in l' h' c' g' k
    each k lt =
        elim (cases_eq k slot) as (λ _. get_or (set (uses_of l h c g slots) slot u) k Never ≡ use_in l' h' c' g' k) [
          | inl e ↦
              ap (λ j. get_or (set (uses_of l h c g slots) slot u) j Never) e
              ∙ get_or-set_same (uses_of l h c g slots) slot u Never (omega (arith, below, length-uses_of l h c g slots))
              ∙ sym (changed.use_ k (omega (arith, lt, kept.few)) ∙ cond-true (k == slot) u (use_in l h c g k) (eq-eqb k slot e))
          | inr n ↦
              get_or-set_other (uses_of l h c g slots) slot k u Never n ∙ get_or-uses_of l h c g slots k Never lt
              ∙ sym (changed.use_ k (omega (arith, lt, kept.few)) ∙ cond-false (k == slot) u (use_in l h c g k) (ne_eqb k slot n))
        ]

pub viewed_then : (l h c g l' h' c' g' : BitMap) (slots canary slot : ℕ) (now : SlabUse) (u : SlotUse) → IsKept l h c g slots → slot < slots
    → ◌≡◌ {A = SlabUse} (record { slots = uses_of l h c g slots; canary = canary }) now
    → Changed l h c g l' h' c' g' slot u
    → ◌≡◌ {A = SlabUse} (record { slots = uses_of l' h' c' g' slots; canary = canary }) (with_use now slot u)
viewed_then l h c g l' h' c' g' slots canary slot now u kept below view changed =
    ap (λ (xs : List SlotUse). record { slots = xs; canary = canary }) (seen_then l h c g l' h' c' g' slots slot u kept below changed)
    ∙ ap (λ (s : SlabUse). with_use s slot u) view
