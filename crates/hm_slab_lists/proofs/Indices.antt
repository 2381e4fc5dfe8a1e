-- What stands at an index of a changed list, and the ends and lists of each name.
use Rattle.std.proofs.Common.{◌≡◌, ◌≢◌, ℕ, zero, suc, ◌<◌, ◌≤◌, ◌⊎◌, inl, inr, List, [], ◌∷◌, ◌++◌, length, refl, ap, arith}
use Rattle.std.proofs.Math.ListN.{set}
use Rattle.std.specs.Prelude.{Some, None, slice_get}
use Rattle.hm_slab_lists.specs.declared.ends.Ends.{Ends}
use Rattle.hm_slab_lists.specs.declared.ends.AllEnds.{AllEnds}
use Rattle.hm_slab_lists.specs.declared.slab.ListName.{ListName}
use Rattle.hm_slab_lists.specs.declared.slab.ListName.TheVariants.{Partial, Empty, Full, Retired}
use Rattle.hm_slab_lists.specs.Ends.{ends_in, with_ends}
use Rattle.hm_slab_lists.specs.Lists.{Lists, list_in, with_list}

pub get-set_same : {A : Type 0} (xs : List A) (i : ℕ) (v : A) → i < length xs → slice_get (set xs i v) i ≡ Some v
get-set_same [] i v below = absurd (omega arith)
get-set_same (x ∷ xs) zero v below = refl
get-set_same (x ∷ xs) (suc i) v below = get-set_same xs i v (omega arith)

pub get-set_other : {A : Type 0} (xs : List A) (i j : ℕ) (v : A) → j ≢ i → slice_get (set xs i v) j ≡ slice_get xs j
get-set_other [] i j v differs = refl
get-set_other (x ∷ xs) zero zero v differs = absurd (differs refl)
get-set_other (x ∷ xs) zero (suc j) v differs = refl
get-set_other (x ∷ xs) (suc i) zero v differs = refl
get-set_other (x ∷ xs) (suc i) (suc j) v differs = get-set_other xs i j v (λ e. differs (ap suc e))

pub get-append_left : {A : Type 0} (xs ys : List A) (i : ℕ) → i < length xs → slice_get (xs ++ ys) i ≡ slice_get xs i
get-append_left [] ys i below = absurd (omega arith)
get-append_left (x ∷ xs) ys zero below = refl
get-append_left (x ∷ xs) ys (suc i) below = get-append_left xs ys i (omega arith)

pub get-append_last : {A : Type 0} (xs : List A) (y : A) (i : ℕ) → length xs ≤ i → slice_get (xs ++ y ∷ []) i ≡ Some y ⊎ slice_get (xs ++ y ∷ []) i ≡ None
get-append_last [] y zero past = inl refl
get-append_last [] y (suc i) past = inr refl
get-append_last (x ∷ xs) y zero past = absurd (omega arith)
get-append_last (x ∷ xs) y (suc i) past = get-append_last xs y i (omega arith)

-- ---- names of lists
pub cases_name : (j k : ListName) → (j ≡ k) ⊎ (j ≢ k)
cases_name Partial Partial = inl refl
cases_name Partial Empty = inr (λ e. cc)
cases_name Partial Full = inr (λ e. cc)
cases_name Partial Retired = inr (λ e. cc)
cases_name Empty Partial = inr (λ e. cc)
cases_name Empty Empty = inl refl
cases_name Empty Full = inr (λ e. cc)
cases_name Empty Retired = inr (λ e. cc)
cases_name Full Partial = inr (λ e. cc)
cases_name Full Empty = inr (λ e. cc)
cases_name Full Full = inl refl
cases_name Full Retired = inr (λ e. cc)
cases_name Retired Partial = inr (λ e. cc)
cases_name Retired Empty = inr (λ e. cc)
cases_name Retired Full = inr (λ e. cc)
cases_name Retired Retired = inl refl

pub ends_same : (all : AllEnds) (k : ListName) (ends : Ends) → ends_in (with_ends all k ends) k ≡ ends
ends_same all Partial ends = refl
ends_same all Empty ends = refl
ends_same all Full ends = refl
ends_same all Retired ends = refl

pub ends_other : (all : AllEnds) (j k : ListName) (ends : Ends) → j ≢ k → ends_in (with_ends all k ends) j ≡ ends_in all j
ends_other all Partial Partial ends n = absurd (n refl)
ends_other all Partial Empty ends n = refl
ends_other all Partial Full ends n = refl
ends_other all Partial Retired ends n = refl
ends_other all Empty Partial ends n = refl
ends_other all Empty Empty ends n = absurd (n refl)
ends_other all Empty Full ends n = refl
ends_other all Empty Retired ends n = refl
ends_other all Full Partial ends n = refl
ends_other all Full Empty ends n = refl
ends_other all Full Full ends n = absurd (n refl)
ends_other all Full Retired ends n = refl
ends_other all Retired Partial ends n = refl
ends_other all Retired Empty ends n = refl
ends_other all Retired Full ends n = refl
ends_other all Retired Retired ends n = absurd (n refl)

pub list_same : (lists : Lists) (k : ListName) (list : List ℕ) → list_in (with_list lists k list) k ≡ list
list_same lists Partial list = refl
list_same lists Empty list = refl
list_same lists Full list = refl
list_same lists Retired list = refl

pub list_other : (lists : Lists) (j k : ListName) (list : List ℕ) → j ≢ k → list_in (with_list lists k list) j ≡ list_in lists j
list_other lists Partial Partial list n = absurd (n refl)
list_other lists Partial Empty list n = refl
list_other lists Partial Full list n = refl
list_other lists Partial Retired list n = refl
list_other lists Empty Partial list n = refl
list_other lists Empty Empty list n = absurd (n refl)
list_other lists Empty Full list n = refl
list_other lists Empty Retired list n = refl
list_other lists Full Partial list n = refl
list_other lists Full Empty list n = refl
list_other lists Full Full list n = absurd (n refl)
list_other lists Full Retired list n = refl
list_other lists Retired Partial list n = refl
list_other lists Retired Empty list n = refl
list_other lists Retired Full list n = refl
list_other lists Retired Retired list n = absurd (n refl)
