-- Where the next block comes from, by the lists of a table.
use Rattle.std.proofs.Common.{◌≡◌, ℕ, ◌<◌, Bool, true, false, cond, nat_lt, List, [], ◌∷◌, Some, None, sym, ◌∙◌, ap, subst, refl, arith}
use Rattle.std.proofs.lemmas.Bool.Decides.{nat_tests}
use Rattle.std.proofs.lemmas.Option.{none-some, same_Some}
use Rattle.hm_class_rules.specs.State.{unopened_below}
use Rattle.hm_class_rules.specs.Stepped.{front}
use Rattle.hm_slab_lists.specs.declared.slab_lists.Place.{Place}
use Rattle.hm_slab_lists.specs.declared.slab_lists.Place.TheVariants.{Partial, Empty, Retired, Fresh, Exhausted}
use Rattle.hm_slab_lists.specs.Sources.{first_of, fresh_or_none, source_of}
use Rattle.hm_slab_lists.specs.Table.{Table}
use Rattle.hm_class.specs.Slabs.{Slabs, slabs_of}
use Rattle.hm_class.specs.Sources.{front_of, new_of}
use Rattle.hm_class.proofs.Tables.{length_uses}

pub record IsShut (retired : List ℕ) (n : ℕ) : Type 0 where
  pub others : List ℕ
  pub is : retired ≡ n ∷ others

pub record IsFresh (retired : List ℕ) (limit next n : ℕ) : Type 0 where
  pub none : retired ≡ []
  pub is : n ≡ next
  pub below : next < limit

module _ (partial empty retired : List ℕ) (limit next : ℕ) where
  abbrev pub Says : Place → Type 0
  Says (Partial n) = front partial empty ≡ Some n
  Says (Empty n) = front partial empty ≡ Some n
  Says (Retired n) = (front partial empty ≡ None) × (unopened_below limit retired next ≡ Some n) × IsShut retired n
  Says (Fresh n) = (front partial empty ≡ None) × (unopened_below limit retired next ≡ Some n) × IsFresh retired limit next n
  Says Exhausted = (front partial empty ≡ None) × (unopened_below limit retired next ≡ None)

below : (a b : ℕ) → nat_lt a b ≡ true → a < b
below a b e = grind (arith, nat_tests)

none_shut : (limit next : ℕ) → Says [] [] [] limit next (fresh_or_none limit next)
none_shut limit next = of (nat_lt next limit) refl
  where
    of : (x : Bool) → nat_lt next limit ≡ x → Says [] [] [] limit next (cond x (Fresh next) Exhausted)
    of true lt = (refl, ap (λ (b : Bool). cond b (Some next) None) lt, record { none = refl; is = refl; below = below next limit lt })
    of false ge = (refl, ap (λ (b : Bool). cond b (Some next) None) ge)

source_says : (partial empty retired : List ℕ) (limit next : ℕ) → Says partial empty retired limit next (first_of partial empty retired (fresh_or_none limit next))
source_says [] [] [] limit next = none_shut limit next
source_says [] [] (n ∷ retired) limit next = (refl, refl, record { others = retired; is = refl })
source_says [] (n ∷ empty) retired limit next = refl
source_says (n ∷ partial) empty retired limit next = refl

-- what the answer says
pub source_is : (partial empty retired : List ℕ) (limit next : ℕ) (place : Place) → place ≡ first_of partial empty retired (fresh_or_none limit next)
    → Says partial empty retired limit next place
source_is partial empty retired limit next place is =
    subst (λ (p : Place). Says partial empty retired limit next p) (sym is) (source_says partial empty retired limit next)

-- ---- a slab that is to be opened
module _ (t : Table) (n : ℕ) (k : Slabs) (view : slabs_of t ≡ k) (none : front_of k ≡ None) (opens : new_of k ≡ Some n) where
  abbrev pub Opens : Place → Type 0
  Opens (Partial m) = ⊥
  Opens (Empty m) = ⊥
  Opens (Retired m) = (m ≡ n) × IsShut t.lists.retired n
  Opens (Fresh m) = (m ≡ n) × IsFresh t.lists.retired t.limit t.next n
  Opens Exhausted = ⊥

  no_front : front t.lists.partial t.lists.empty ≡ None
  no_front = ap (λ (k : Slabs). front_of k) view ∙ none

  next_is : unopened_below t.limit t.lists.retired t.next ≡ Some n
  next_is = ap (λ (m : ℕ). unopened_below t.limit t.lists.retired m) (sym (length_uses t)) ∙ ap (λ (k : Slabs). new_of k) view ∙ opens

  pub opens_by : (place : Place) → place ≡ source_of t → Opens place
  opens_by (Partial m) e = none-some m (sym no_front ∙ source_is t.lists.partial t.lists.empty t.lists.retired t.limit t.next (Partial m) e)
  opens_by (Empty m) e = none-some m (sym no_front ∙ source_is t.lists.partial t.lists.empty t.lists.retired t.limit t.next (Empty m) e)
  opens_by (Retired m) e =
      let r = source_is t.lists.partial t.lists.empty t.lists.retired t.limit t.next (Retired m) e in
      let same : m ≡ n = same_Some m n (sym r.1 ∙ next_is) in
      (same, subst (IsShut t.lists.retired) same r.2)
  opens_by (Fresh m) e =
      let r = source_is t.lists.partial t.lists.empty t.lists.retired t.limit t.next (Fresh m) e in
      let same : m ≡ n = same_Some m n (sym r.1 ∙ next_is) in
      (same, subst (IsFresh t.lists.retired t.limit t.next) same r.2)
  opens_by Exhausted e = none-some n (sym (source_is t.lists.partial t.lists.empty t.lists.retired t.limit t.next Exhausted e).1 ∙ next_is)
