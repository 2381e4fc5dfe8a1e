-- The array and the ring let go what looking back finds.
use Rattle.std.proofs.Common.{◌≡◌, ℕ, zero, suc, ◌<◌, ◌≤◌, ◌==◌, true, false, cond, List, [], ◌∷◌, ◌++◌, length, take, reverse, get_or, set, slice_get, Option, Some, None, sym, ◌∙◌, ap, subst, refl, arith, length-set, get_or-set_same, get_or-set_other}
use Rattle.std.specs.Prelude.{is_some}
use Rattle.std.specs.List.{cons_option}
use Rattle.std.proofs.lemmas.List.{length-replicate, get_or-replicate, reverse-append, length-reverse}
use Rattle.std.proofs.lemmas.Bool.{eqb-true, eqb-false}
use Rattle.hm_quarantine.specs.Quarantine.{IsArrayIndex, goes_on, ring_with, goes_out}
use Rattle.hm_quarantine.specs.LookingBack.{Free, latest_at, leaves_array, all_left, AreIndices, kept_after, LooksBack}
use Rattle.hm_quarantine.proofs.Rings.{HasRoom, has_room, IsFull, is_full}

-- the array keeps its length
pub length_array : (n size : ℕ) (past : List Free) → length (kept_after n size past).array ≡ n
length_array n size [] = length-replicate n None
length_array n size (free ∷ past) = length-set (kept_after n size past).array free.index (Some free.slot) ∙ length_array n size past

-- one store
stored : (array : List (Option ℕ)) (q p x : ℕ) (o : Option ℕ) → p < length array → get_or array p None ≡ o → get_or (set array q (Some x)) p None ≡ cond (q == p) (Some x) o
stored array q p x o lt is =
    elim (q == p) as (λ b. (q == p) ≡ b → get_or (set array q (Some x)) p None ≡ cond b (Some x) o) [
      | true ↦ λ e. subst (λ (i : ℕ). get_or (set array i (Some x)) p None ≡ Some x) (sym (eqb-true q p e)) (get_or-set_same array p (Some x) None lt)
      | false ↦ λ e. get_or-set_other array q p (Some x) None (λ same. eqb-false q p e (sym same)) ∙ is
    ] refl

-- in a cell stands the latest free there
pub stands : (n size p : ℕ) (past : List Free) → p < n → get_or (kept_after n size past).array p None ≡ latest_at p past
stands n size p [] lt = get_or-replicate n p None None lt
stands n size p (free ∷ past) lt =
    stored (kept_after n size past).array free.index p free.slot (latest_at p past) (subst (λ (k : ℕ). p < k) (sym (length_array n size past)) lt) (stands n size p past lt)

on_without : (array : List (Option ℕ)) (slot p : ℕ) → length array ≡ 0 → goes_on array slot p ≡ Some slot
on_without [] slot p none = refl
on_without (o ∷ array) slot p none = absurd (omega (arith, none))

pub on_with : (array : List (Option ℕ)) (slot p : ℕ) → p < length array → goes_on array slot p ≡ get_or array p None
on_with [] slot p lt = absurd (omega (arith, lt))
on_with (o ∷ array) slot p lt = refl

-- what goes on from the array is what leaves it
pub comes : (n size : ℕ) (past : List Free) (free : Free) → IsArrayIndex n free.index → goes_on (kept_after n size past).array free.slot free.index ≡ leaves_array n past free
comes zero size past free index = on_without (kept_after zero size past).array free.slot free.index (length_array zero size past)
comes (suc n) size past free index =
    on_with (kept_after (suc n) size past).array free.slot free.index (subst (λ (k : ℕ). free.index < k) (sym (length_array (suc n) size past)) index)
    ∙ stands (suc n) size free.index past index

-- the latest `size` of a list, and the one before them
data Latest (size : ℕ) (g : List ℕ) : Type 0 where
  Short : take (suc size) g ≡ take size g → slice_get g size ≡ None → length (take size g) ≤ size → Latest size g
  Long : (y : ℕ) → take (suc size) g ≡ take size g ++ y ∷ [] → slice_get g size ≡ Some y → length (take size g) ≡ size → Latest size g

latest_more : (size x : ℕ) (g : List ℕ) → Latest size g → Latest (suc size) (x ∷ g)
latest_more size x g (Short same none few) = Short (ap (λ (l : List ℕ). x ∷ l) same) none (omega arith)
latest_more size x g (Long y same some few) = Long y (ap (λ (l : List ℕ). x ∷ l) same) some (omega arith)

latest : (size : ℕ) (g : List ℕ) → Latest size g
latest zero [] = Short refl refl (omega arith)
latest zero (y ∷ g) = Long y refl refl refl
latest (suc size) [] = Short refl refl (omega arith)
latest (suc size) (x ∷ g) = latest_more size x g (latest size g)

pub few_latest : (size : ℕ) (g : List ℕ) → length (reverse (take size g)) ≤ size
few_latest size g = rw (length-reverse (take size g)) (few (latest size g))
  where
    few : Latest size g → length (take size g) ≤ size
    few (Short same none le) = le
    few (Long y same some is) = omega (arith, is)

-- what a slot does that enters a ring of the latest that have left
record Enters (size x : ℕ) (g : List ℕ) : Type 0 where
  ring_is : ring_with size (reverse (take size g)) (Some x) ≡ reverse (take size (x ∷ g))
  out_is : goes_out size (reverse (take size g)) (Some x) ≡ slice_get (x ∷ g) size

grown : (size x : ℕ) (g : List ℕ) → reverse (take size g) ++ x ∷ [] ≡ reverse (take (suc size) (x ∷ g))
grown size x g = sym (reverse-append (x ∷ []) (take size g))

enters : (size x : ℕ) (g : List ℕ) → Enters size x g
enters size x g = goes (latest size (x ∷ g))
  where
    room : take (suc size) (x ∷ g) ≡ take size (x ∷ g) → slice_get (x ∷ g) size ≡ None → HasRoom size x (reverse (take size g)) → Enters size x g
    room same none has = record { ring_is = has.ring_is ∙ grown size x g ∙ ap (λ (l : List ℕ). reverse l) same; out_is = has.out_is ∙ sym none }

    full : (y : ℕ) → slice_get (x ∷ g) size ≡ Some y → IsFull size x (reverse (take size g)) y (reverse (take size (x ∷ g))) → Enters size x g
    full y some is = record { ring_is = is.ring_is; out_is = is.out_is ∙ sym some }

    goes : Latest size (x ∷ g) → Enters size x g
    goes (Short same none few) =
        room same none (has_room size x (reverse (take size g)) (omega (arith, few, ap (λ (l : List ℕ). length l) same, length-reverse (take size g))))
    goes (Long y same some few) =
        full y some (is_full size x y (reverse (take size g)) (reverse (take size (x ∷ g)))
        (grown size x g ∙ ap (λ (l : List ℕ). reverse l) same ∙ reverse-append (take size (x ∷ g)) (y ∷ []))
        (length-reverse (take size (x ∷ g)) ∙ few))

enter_ring : (size : ℕ) (g : List ℕ) (o : Option ℕ) → ring_with size (reverse (take size g)) o ≡ reverse (take size (cons_option o g))
enter_ring size g None = refl
enter_ring size g (Some x) = (enters size x g).ring_is

enter_out : (size : ℕ) (g : List ℕ) (o : Option ℕ) → goes_out size (reverse (take size g)) o ≡ cond (is_some o) (slice_get (cons_option o g) size) None
enter_out size g None = refl
enter_out size g (Some x) = (enters size x g).out_is

pub length_is : (n size : ℕ) (past : List Free) → (kept_after n size past).ring_length ≡ size
length_is n size [] = refl
length_is n size (free ∷ past) = length_is n size past

-- the ring holds the latest that have left the array
pub ring_is : (n size : ℕ) (past : List Free) → AreIndices n past → (kept_after n size past).ring ≡ reverse (take size (all_left n past))
ring_is n zero [] indices = refl
ring_is n (suc size) [] indices = refl
ring_is n size (free ∷ past) indices =
    ap (λ (k : ℕ). ring_with k (kept_after n size past).ring (goes_on (kept_after n size past).array free.slot free.index)) (length_is n size past)
    ∙ ap (λ (r : List ℕ). ring_with size r (goes_on (kept_after n size past).array free.slot free.index)) (ring_is n size past indices.1)
    ∙ ap (λ (o : Option ℕ). ring_with size (reverse (take size (all_left n past))) o) (comes n size past free indices.0)
    ∙ enter_ring size (all_left n past) (leaves_array n past free)

pub looks_back : LooksBack
looks_back n size past free indices =
    ap (λ (k : ℕ). goes_out k (kept_after n size past).ring (goes_on (kept_after n size past).array free.slot free.index)) (length_is n size past)
    ∙ ap (λ (r : List ℕ). goes_out size r (goes_on (kept_after n size past).array free.slot free.index)) (ring_is n size past indices.1)
    ∙ ap (λ (o : Option ℕ). goes_out size (reverse (take size (all_left n past))) o) (comes n size past free indices.0)
    ∙ enter_out size (all_left n past) (leaves_array n past free)
