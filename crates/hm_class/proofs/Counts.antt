-- How many slots pass a test.
use Rattle.std.proofs.Common.{◌≡◌, ℕ, ◌+◌, Bool, cond, List, get_or, slice_get, slice_set, Option, Some, None, option_map, count_by, ap, refl, arith}
use Rattle.std.proofs.lemmas.List.Sums.{sum_by-set}
use Rattle.std.proofs.lemmas.Option.{slice_get_within, get_or_from_slice_get, none-some, same_Some}
use Rattle.hm_slab_meta.specs.Uses.{SlotUse}
use Rattle.hm_slab_meta.specs.Uses.{Never}

abbrev pub weight : (SlotUse → Bool) → SlotUse → ℕ
weight test u = cond (test u) 1 0

-- the value of which a fact speaks
pub mapped : {X Y : Type 0} (f : X → Y) (o : Option X) (y : Y) → option_map f o ≡ Some y → (x : X) × (o ≡ Some x) × (f x ≡ y)
mapped f None y e = absurd (none-some y e)
mapped f (Some x) y e = (x, refl, same_Some (f x) y e)

-- the slots that pass a test, after one of them changed
pub count_set : (test : SlotUse → Bool) (us : List SlotUse) (i : ℕ) (u v : SlotUse) → slice_get us i ≡ Some u → count_by test (slice_set us i v) + weight test u ≡ count_by test us + weight test v
count_set test us i u v e =
    let was : weight test (get_or us i Never) ≡ weight test u = ap (λ (x : SlotUse). weight test x) (get_or_from_slice_get us i u Never e) in
    omega (arith, sum_by-set (weight test) us i v Never (slice_get_within us i u e), was)
