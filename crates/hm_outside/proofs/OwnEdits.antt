-- Which parts of runs have bytes of their own, once a run comes, goes or has another in its place.
use Rattle.std.proofs.Common.{◌≡◌, ℕ, List, [], ◌∷◌, map, set, Bool, true, false, ◌&&◌, Option, Some, None, slice_get, refl, sym, ap, ◌∙◌}
use Rattle.std.proofs.lemmas.List.{map-set}
use Rattle.std.proofs.lemmas.Option.{slice_get-map}
use Rattle.std.proofs.lemmas.Cmp.{nat_cmp_total}
use Rattle.std.specs.List.{insert, remove}
use Rattle.std.specs.Option.{option_map}
use Rattle.std.specs.Ordering.{nat_cmp, is_lt, eq_by_cmp}
use Rattle.std.proofs.Common.{cond}
use Rattle.std.specs.FinMap as maps
use Rattle.std.specs.FinMap.{find, is_sorted, get-from_entries}
use Rattle.std.specs.FinMap.Entries.{below_all}
use Rattle.std.proofs.lemmas.Option.{none-some}
use Rattle.hm_outside.specs.RunLaws.{found}
use Rattle.hm_outside.specs.OwnParts.{KeptRuns}
use Rattle.hm_outside.specs.RunTables.{listed, own_entry, own_of}
use Rattle.hm_outside.proofs.Finds.{map_set, map_remove, map_insert, told_remove, told_insert}

-- what is kept, taken apart
pub runs_is : {k l : KeptRuns} → k ≡ l → k.runs ≡ l.runs
runs_is e = ap (λ (k : KeptRuns). k.runs) e

pub own_is : {k l : KeptRuns} → k ≡ l → k.own ≡ l.own
own_is e = ap (λ (k : KeptRuns). k.own) e

module _ {R : Type 0} (entry : R → ℕ × List ℕ) (own : R → List Bool) where
  -- their keys are those of the runs
  same_below : (low : ℕ) (runs : List R) → below_all nat_cmp low (map (own_entry entry own) runs) ≡ below_all nat_cmp low (listed entry runs)
  same_below low [] = refl
  same_below low (run ∷ runs) = ap (λ (b : Bool). is_lt (nat_cmp low (entry run).0) && b) (same_below low runs)

  same_sorted : (runs : List R) → is_sorted nat_cmp (map (own_entry entry own) runs) ≡ is_sorted nat_cmp (listed entry runs)
  same_sorted [] = refl
  same_sorted (run ∷ runs) = λ i. same_below (entry run).0 runs i && same_sorted runs i

  same_fresh : (q : ℕ) (runs : List R) → find nat_cmp q (listed entry runs) ≡ None → find nat_cmp q (map (own_entry entry own) runs) ≡ None
  same_fresh q [] none = refl
  same_fresh q (run ∷ runs) none =
      elim (eq_by_cmp nat_cmp q (entry run).0) as (λ t. cond t (Some (entry run).1) (find nat_cmp q (listed entry runs)) ≡ None → cond t (Some (own run)) (find nat_cmp q (map (own_entry entry own) runs)) ≡ None) [
        | true ↦ λ has. absurd (none-some (entry run).1 (sym has))
        | false ↦ λ has. same_fresh q runs has
      ] none

  here : (runs : List R) (i : ℕ) (run : R) → slice_get runs i ≡ Some run → slice_get (map (own_entry entry own) runs) i ≡ Some (own_entry entry own run)
  here runs i run is = slice_get-map (own_entry entry own) runs i ∙ ap (λ (o : Option R). option_map (own_entry entry own) o) is

  -- the parts of a run that stands in the list
  pub own_here : (runs : List R) (i : ℕ) (run : R) → is_sorted nat_cmp (listed entry runs) ≡ true → slice_get runs i ≡ Some run → maps.get (own_of entry own runs) (entry run).0 ≡ Some (own run)
  own_here runs i run s is = get-from_entries nat_cmp_total (map (own_entry entry own) runs) (entry run).0
      ∙ found (map (own_entry entry own) runs) i (own_entry entry own run) (same_sorted runs ∙ s) (here runs i run is)

  pub own_set : (runs : List R) (i : ℕ) (run new : R) → is_sorted nat_cmp (listed entry runs) ≡ true → slice_get runs i ≡ Some run → (entry new).0 ≡ (entry run).0
      → own_of entry own (set runs i new) ≡ maps.insert (own_of entry own runs) (entry run).0 (own new)
  own_set runs i run new s is first =
      ap maps.from_entries (map-set (own_entry entry own) runs i new ∙ ap (λ (n : ℕ). set (map (own_entry entry own) runs) i (n, own new)) first)
      ∙ map_set (map (own_entry entry own) runs) i (own_entry entry own run) (own new) (same_sorted runs ∙ s) (here runs i run is)

  pub own_remove : (runs : List R) (i : ℕ) (run : R) → is_sorted nat_cmp (listed entry runs) ≡ true → slice_get runs i ≡ Some run
      → own_of entry own (remove runs i) ≡ maps.remove (own_of entry own runs) (entry run).0
  own_remove runs i run s is = ap maps.from_entries (told_remove (own_entry entry own) runs i)
      ∙ map_remove (map (own_entry entry own) runs) i (own_entry entry own run) (same_sorted runs ∙ s) (here runs i run is)

  pub own_insert : (runs : List R) (i : ℕ) (run : R) → find nat_cmp (entry run).0 (listed entry runs) ≡ None
      → own_of entry own (insert runs i run) ≡ maps.insert (own_of entry own runs) (entry run).0 (own run)
  own_insert runs i run none = ap maps.from_entries (told_insert (own_entry entry own) runs i run)
      ∙ map_insert (map (own_entry entry own) runs) i (entry run).0 (own run) (same_fresh (entry run).0 runs none)
