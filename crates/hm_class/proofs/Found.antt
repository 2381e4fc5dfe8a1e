-- What a search for a slab and for its slot finds.
use Rattle.std.proofs.Common.{◌≡◌, ℕ, ◌<◌, ◌≤◌, IfSome, Bool, true, false, cond, not, nat_lt, List, length, slice_get, Option, Some, None, sym, ◌∙◌, ap, refl, arith, true≢false}
use Rattle.std.specs.List.{position, position_or_len}
use Rattle.std.specs.Option.{option_and_then}
use Rattle.std.proofs.lemmas.Bool.Decides.{nat_tests}
use Rattle.std.proofs.lemmas.List.Sums.{prefix_len_passes}
use Rattle.std.proofs.lemmas.Option.{slice_get_within, get_or_from_slice_get, none-some}
use Rattle.hm_sizes.specs.declared.shape.Shape.{Shape}
use Rattle.hm_class.specs.Sources.{AreWhole, IsWithin}
use Rattle.hm_class.specs.Uses.{Uses, SlabUse, slab_in}

-- ---- positions
no_index : (b : Bool) (k : ℕ) → cond b (Some k) None ≡ None → b ≡ false
no_index true k e = absurd (none-some k (sym e))
no_index false k e = refl

not_below : (a b : ℕ) → nat_lt a b ≡ false → b ≤ a
not_below a b e = grind (arith, nat_tests)

-- none that passes stands anywhere
pub position_none : {X : Type 0} (p : X → Bool) (xs : List X) → position p xs ≡ None → (i : ℕ) (x : X) → slice_get xs i ≡ Some x → p x ≡ true → ⊥
position_none p xs e i x is passes =
    let all : length xs ≤ position_or_len p xs = not_below _ _ (no_index _ _ e) in
    let fails = prefix_len_passes (λ y. not (p y)) xs i x (omega (arith, all, slice_get_within xs i x is)) in
    true≢false (sym fails ∙ ap (λ y. not (p y)) (get_or_from_slice_get xs i x x is) ∙ ap (λ (b : Bool). not b) passes)

-- ---- slabs
opened : (o : Option (Option SlabUse)) (b : SlabUse) → option_and_then (λ slab. slab) o ≡ Some b → o ≡ Some (Some b)
opened None b e = absurd (none-some b e)
opened (Some o) b e = ap (λ (x : Option SlabUse). Some x) e

pub slab_there : (uses : Uses) (n : ℕ) (b : SlabUse) → slab_in uses n ≡ Some b → slice_get uses n ≡ Some (Some b)
slab_there uses n b e = opened (slice_get uses n) b e

-- a slot below the number of slots is there, where each slab has all its slots
pub within_whole : (p : Shape) (uses : Uses) (n i : ℕ) → AreWhole p uses → i < p.slots → IsWithin uses n i
within_whole p uses n i whole lt = of (slab_in uses n) refl
  where
    of : (o : Option SlabUse) → slab_in uses n ≡ o → IfSome o (λ (b : SlabUse). i < length b.slots)
    of None is = tt
    of (Some b) is = omega (arith, lt, whole n b is)
