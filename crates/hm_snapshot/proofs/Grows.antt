-- The steps keep the rule.
use Rattle.std.proofs.Common.{◌≡◌, ◌≢◌, ℕ, List, [], ◌++◌, fold, set, sym, refl, ap, ◌∙◌, subst, ⊎_elim}
use mathlib.Core.Option.{some}
use lib.ListN.{get_elem?}
use Rattle.crossbeam_utils.specs.Register.{Admits, Turns, TurnsAt, Forks, Merges}
use Rattle.atomic_table.proofs.Lists.{at_set, at_snoc}
use Rattle.hm_model.specs.declared.change.SizeChange.{SizeChange}
use Rattle.hm_snapshot.specs.Rule.{StartsWith}
use Rattle.hm_snapshot.specs.Shown.{Shown, absorbed, shown_after}
use Rattle.hm_snapshot.specs.Rule.{Grows}
use Rattle.hm_snapshot.specs.Known.{found}
use Rattle.hm_snapshot.proofs.Lists.{starts_itself, starts_longer, starts_nothing, whole_beginning, after-append, same_length}

abbrev Known : Type 0
Known = List SizeChange

-- a view that is a beginning of the list may be set
pub set_known : (x : Shown) (views : List Known) (j : ℕ) (w : Known) (g : Grows x views) → StartsWith g.list w → Grows x (set views j w)
set_known x views j w g s = record {
  list = g.list;
  shows = g.shows;
  each = λ k v e. ⊎_elim (λ (t : (k ≡ j) × (w ≡ v)). subst (λ (z : Known). StartsWith g.list z) t.1 s)
      (λ (t : (k ≢ j) × (get_elem? views k ≡ some v)). g.each k v t.1) (at_set views j k w v e);
}

pub admits : Admits Grows []
admits x views g = record {
  list = g.list;
  shows = g.shows;
  each = λ j v e. ⊎_elim (g.each j v) (λ (t : [] ≡ v). subst (λ (z : Known). StartsWith g.list z) t (starts_nothing g.list)) (at_snoc views [] v j e);
}

pub looks : (seat : ℕ) (v : Known) → Turns Grows seat v (λ x. x) found
looks seat v x views g at = (g.list, set_known x views seat g.list g (starts_itself g.list), (g.shows, g.each seat v at))

pub forks : (seat : ℕ) (v : Known) → Forks Grows seat v v v
unfolding set_known
forks seat v x views g at = let s = g.each seat v at in let h = set_known x views seat v g s in record {
  list = g.list;
  shows = g.shows;
  each = λ j u e. ⊎_elim (h.each j u) (λ (t : v ≡ u). subst (λ (z : Known). StartsWith g.list z) t s) (at_snoc (set views seat v) v u j e);
}

pub merges : (seat : ℕ) (v : Known) (other : ℕ) (w : Known) → Merges Grows seat v other w w []
unfolding set_known
merges seat v other w x views g at apart there =
    let b : StartsWith g.list w = ⊎_elim (λ (t : (other ≡ seat) × (w ≡ w)). absurd (apart t.0)) (λ (t : (other ≢ seat) × (get_elem? views other ≡ some w)). g.each other w t.1) (at_set views seat other w w there) in
    set_known x (set views seat w) other [] (set_known x views seat w g b) (starts_nothing g.list)

-- the writer, which knows the whole list, shows more
pub adds : (seat : ℕ) (v added : Known) (x next : Shown) → x ≡ shown_after v → next ≡ fold absorbed x added → TurnsAt Grows seat v x next (λ v x y w. w ≡ v ++ added)
adds seat v added x next now is views g at =
    let all : g.list ≡ v = whole_beginning g.list v (g.each seat v at) (same_length v g.list (sym now ∙ g.shows)) in
    let to : next ≡ shown_after (v ++ added) = is ∙ (ap (λ (z : Shown). fold absorbed z added) now ∙ sym (after-append v added)) in (
      v ++ added,
      record {
        list = v ++ added;
        shows = to;
        each = λ j u e. ⊎_elim (λ (t : (j ≡ seat) × (v ++ added ≡ u)). subst (λ (z : Known). StartsWith (v ++ added) z) t.1 (starts_itself (v ++ added)))
            (λ (t : (j ≢ seat) × (get_elem? views j ≡ some u)). starts_longer v u added (subst (λ (z : Known). StartsWith z u) all (g.each j u t.1))) (at_set views seat j (v ++ added) u e);
      },
      refl,
    )
