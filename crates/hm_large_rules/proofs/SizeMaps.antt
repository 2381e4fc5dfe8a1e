-- What changes make of sizes, as a list with the latest first, and as a map by ascending addresses.
use Rattle.std.proofs.Common.{◌≡◌, ◌≢◌, ⊎_elim, ℕ, ◌+◌, ◌<◌, ◌≤◌, ◌==◌, Bool, true, false, cond, not, List, [], ◌∷◌, fold, Option, Some, None, refl, sym, ap, ◌∙◌, subst, arith}
use Rattle.std.specs.Prelude.{unwrap_or, option_map}
use Rattle.std.specs.List.{sum_by, AllByRecursion}
use Rattle.std.specs.List.Sorted.{IsStrictlySortedBy}
use Rattle.std.specs.declared.cmp.Ordering.{Ordering}
use Rattle.std.specs.declared.cmp.Ordering.TheVariants.{Less, Equal, Greater}
use Rattle.std.specs.Ordering.{nat_cmp, eq_by_cmp, match_ordering, ordering_reverse}
use Rattle.std.specs.BTreeMap.{insert_entry, is_at}
use Rattle.std.specs.Map.{keys_of, remove_entry}
use Rattle.std.proofs.lemmas.Bool.{cases_eq}
use Rattle.std.proofs.lemmas.Bool.Decides.{nat_tests}
use Rattle.std.proofs.lemmas.Cmp.{nat_cmp_total, eq_by_cmp_equiv, ranked}
use Rattle.std.proofs.lemmas.List.Elements.{All-from_recursion, recursion_from_All}
use Rattle.std.proofs.lemmas.List.Sums.{sum_by-cons}
use Rattle.std.proofs.lemmas.Map.{lookup-remove_entry}
use Rattle.std.proofs.lemmas.Map.Keys.{IsDistinct-from_sorted}
use Rattle.std.proofs.lemmas.Map.Views.{All-keys-insert_entry, All-map-remove_entry}
use Rattle.std.proofs.lemmas.Map.Entries.{sum_by-insert_entry, sum_by-remove_entry}
use Rattle.hm_model.specs.declared.change.SizeChange.{SizeChange}
use Rattle.hm_model.specs.declared.change.SizeChange.TheVariants.{Put, Gone}
use Rattle.hm_model.specs.Changes.{changed, size_at, total_of}
use Rattle.hm_model.specs.Maps.{at, keys, put, removed, times, without}
use Rattle.hm_model.proofs.Lists.{same_eq, other_eq, eq_same, keys_removed, without_same, without_le, times_here, times_apart}

-- ---- tests of keys
pub tree_test : (k q : ℕ) → eq_by_cmp nat_cmp k q ≡ (k == q)
tree_test k q = grind (arith, nat_tests)

pub map_test : (q k : ℕ) → eq_by_cmp nat_cmp q k ≡ (k == q)
map_test q k = grind (arith, nat_tests)

-- ---- the list and its sum
abbrev Sizes : Type 0
Sizes = List (ℕ × ℕ)

-- the list after one change
abbrev pub listed : Sizes → SizeChange → Sizes
listed m (Put a size) = put a size m
listed m (Gone a) = removed a m

abbrev pub sum : Sizes → ℕ
sum m = sum_by (λ (e : ℕ × ℕ). e.1) m

-- ---- one choice, made twice or in either order
twice : {X : Type 0} (t : Bool) (x y z : X) → cond t x (cond t y z) ≡ cond t x z
twice true x y z = refl
twice false x y z = refl

apart : {X : Type 0} (t u : Bool) (x y z : X) → (t ≡ true → u ≡ true → ⊥)
    → cond u y (cond t x z) ≡ cond t x (cond u y z)
apart true true x y z both = absurd (both refl refl)
apart true false x y z both = refl
apart false true x y z both = refl
apart false false x y z both = refl

same_both : (t : Bool) (o : Option ℕ) → cond t o o ≡ o
same_both true o = refl
same_both false o = refl

-- ---- the list
at_removed : (q a : ℕ) (m : Sizes) → at q (removed a m) ≡ cond (a == q) None (at q m)
at_removed q a [] = sym (same_both (a == q) None)
at_removed q a (y ∷ m) = ⊎_elim (here (at_removed q a m)) (there (at_removed q a m)) (cases_eq y.0 a)
  where
    here : at q (removed a m) ≡ cond (a == q) None (at q m) → y.0 ≡ a → at q (removed a (y ∷ m)) ≡ cond (a == q) None (at q (y ∷ m))
    here rest e =
        ap (λ (t : Bool). at q (cond (not t) (y ∷ removed a m) (removed a m))) (same_eq y.0 a e)
        ∙ (rest ∙ (sym (twice (a == q) None (Some y.1) (at q m))
        ∙ ap (λ (k : ℕ). cond (a == q) None (cond (k == q) (Some y.1) (at q m))) (sym e)))

    there : at q (removed a m) ≡ cond (a == q) None (at q m) → y.0 ≢ a → at q (removed a (y ∷ m)) ≡ cond (a == q) None (at q (y ∷ m))
    there rest ne =
        ap (λ (t : Bool). at q (cond (not t) (y ∷ removed a m) (removed a m))) (other_eq y.0 a ne)
        ∙ (ap (λ (o : Option ℕ). cond (y.0 == q) (Some y.1) o) rest
        ∙ apart (a == q) (y.0 == q) None (Some y.1) (at q m) (λ s t. ne (eq_same y.0 q t ∙ sym (eq_same a q s))))

absent_stays : (a : ℕ) (m : Sizes) → times a (keys m) ≡ 0 → removed a m ≡ m
absent_stays a [] none = refl
absent_stays a (y ∷ m) none = ⊎_elim here (λ ne. there (absent_stays a m (sym (times_apart a y.0 (keys m) ne) ∙ none)) ne) (cases_eq y.0 a)
  where
    here : y.0 ≡ a → removed a (y ∷ m) ≡ y ∷ m
    here e = absurd (let n : times y.0 (y.0 ∷ keys m) ≡ 1 + times y.0 (keys m) = times_here y.0 (keys m) in
        let k : times y.0 (y.0 ∷ keys m) ≡ 0 = ap (λ (z : ℕ). times z (y.0 ∷ keys m)) e ∙ none in omega arith)

    there : removed a m ≡ m → y.0 ≢ a → removed a (y ∷ m) ≡ y ∷ m
    there rest ne =
        ap (λ (t : Bool). cond (not t) (y ∷ removed a m) (removed a m)) (other_eq y.0 a ne)
        ∙ ap (λ (l : Sizes). y ∷ l) rest

sum_removed : (a : ℕ) (m : Sizes) → times a (keys m) ≤ 1 → sum (removed a m) + unwrap_or (at a m) 0 ≡ sum m
sum_removed a [] once = refl
sum_removed a (y ∷ m) once = ⊎_elim here (λ ne. there (sum_removed a m (omega (arith, once, times_apart a y.0 (keys m) ne))) ne) (cases_eq y.0 a)
  where
    pair : (l : Sizes) → sum (y ∷ l) ≡ y.1 + sum l
    pair l = sum_by-cons (λ (e : ℕ × ℕ). e.1) y l

    here : y.0 ≡ a → sum (removed a (y ∷ m)) + unwrap_or (at a (y ∷ m)) 0 ≡ sum (y ∷ m)
    here e =
        let k : times y.0 (y.0 ∷ keys m) ≡ times a (y.0 ∷ keys m) = ap (λ (z : ℕ). times z (y.0 ∷ keys m)) e in
        let j : times y.0 (y.0 ∷ keys m) ≡ 1 + times y.0 (keys m) = times_here y.0 (keys m) in
        let i : times y.0 (keys m) ≡ times a (keys m) = ap (λ (z : ℕ). times z (keys m)) e in
        let stays : removed a m ≡ m = absent_stays a m (omega (arith, once)) in
        ap (λ (t : Bool). sum (cond (not t) (y ∷ removed a m) (removed a m)) + unwrap_or (cond t (Some y.1) (at a m)) 0) (same_eq y.0 a e)
        ∙ (ap (λ (l : Sizes). sum l + y.1) stays ∙ omega (arith, pair m))

    there : sum (removed a m) + unwrap_or (at a m) 0 ≡ sum m → y.0 ≢ a
        → sum (removed a (y ∷ m)) + unwrap_or (at a (y ∷ m)) 0 ≡ sum (y ∷ m)
    there rest ne =
        ap
        (λ (t : Bool). sum (cond (not t) (y ∷ removed a m) (removed a m)) + unwrap_or (cond t (Some y.1) (at a m)) 0)
        (other_eq y.0 a ne) ∙ omega (arith, rest, pair m, pair (removed a m))

-- ---- the map
all_as : {P Q : ℕ → Type 0} → ((x : ℕ) → P x → Q x) → (xs : List ℕ) → AllByRecursion P xs → AllByRecursion Q xs
all_as f [] a = tt
all_as f (x ∷ xs) a = (f x a.0, all_as f xs a.1)

module _ (a n : ℕ) where
  sorted_put : (es : Sizes) → IsStrictlySortedBy nat_cmp (keys_of es)
      → IsStrictlySortedBy nat_cmp (keys_of (insert_entry nat_cmp es a n))
  unfolding IsStrictlySortedBy
  sorted_put [] s = (tt, tt)
  sorted_put (e ∷ es) s = by (sorted_put es s.1) (nat_cmp a e.0) refl
    where
      by : IsStrictlySortedBy nat_cmp (keys_of (insert_entry nat_cmp es a n)) → (r : Ordering) → nat_cmp a e.0 ≡ r → IsStrictlySortedBy nat_cmp (keys_of
          (match_ordering r ((a, n) ∷ e ∷ es) ((e.0, n) ∷ es) (e ∷ insert_entry nat_cmp es a n)))
      by rest Less p = ((p, all_as (λ y q. nat_cmp_total.trans a e.0 y p q) (keys_of es) s.0), s)
      by rest Equal p = s
      by rest Greater p = (
        recursion_from_All (λ y. nat_cmp e.0 y ≡ Less) (keys_of (insert_entry nat_cmp es a n))
            (All-keys-insert_entry nat_cmp a n (λ y. nat_cmp e.0 y ≡ Less) es
            (All-from_recursion (λ y. nat_cmp e.0 y ≡ Less) (keys_of es) s.0)
            (nat_cmp_total.antisymm e.0 a ∙ ap ordering_reverse p)),
        rest,
      )

  size_put : (es : Sizes) (q : ℕ) → size_at (insert_entry nat_cmp es a n) q ≡ cond (a == q) (Some n) (size_at es q)
  size_put [] q = ap (λ (t : Bool). cond t (Some n) None) (map_test q a)
  size_put (e ∷ es) q = by (size_put es q) (nat_cmp a e.0) refl
    where
      rest : Option ℕ
      rest = size_at es q

      by : size_at (insert_entry nat_cmp es a n) q ≡ cond (a == q) (Some n) (size_at es q) → (r : Ordering) → nat_cmp a e.0 ≡ r
          → size_at (match_ordering r ((a, n) ∷ e ∷ es) ((e.0, n) ∷ es) (e ∷ insert_entry nat_cmp es a n)) q
          ≡ cond (a == q) (Some n) (size_at (e ∷ es) q)
      by later Less p = ap (λ (t : Bool). cond t (Some n) (size_at (e ∷ es) q)) (map_test q a)
      by later Equal p =
          let same : a ≡ e.0 = ranked a e.0 Equal (sym p) in
          let test : eq_by_cmp nat_cmp q e.0 ≡ (a == q) = map_test q e.0 ∙ ap (λ (k : ℕ). k == q) (sym same) in
          ap (λ (t : Bool). cond t (Some n) rest) test ∙ (sym (twice (a == q) (Some n) (Some e.1) rest)
          ∙ ap (λ (t : Bool). cond (a == q) (Some n) (cond t (Some e.1) rest)) (sym test))
      by later Greater p =
          let over : e.0 < a = ranked a e.0 Greater (sym p) in
          ap (λ (o : Option ℕ). cond (eq_by_cmp nat_cmp q e.0) (Some e.1) o) later
          ∙ apart (a == q) (eq_by_cmp nat_cmp q e.0) (Some n) (Some e.1) rest
          (λ s t. let i : a ≡ q = eq_same a q s in
          let j : e.0 ≡ q = eq_same e.0 q (sym (map_test q e.0) ∙ t) in omega arith)

sorted_gone : (test : ℕ → Bool) (es : Sizes) → IsStrictlySortedBy nat_cmp (keys_of es)
    → IsStrictlySortedBy nat_cmp (keys_of (remove_entry test es))
unfolding IsStrictlySortedBy
sorted_gone test [] s = s
sorted_gone test (e ∷ es) s = by (sorted_gone test es s.1) (test e.0)
  where
    by : IsStrictlySortedBy nat_cmp (keys_of (remove_entry test es)) → (t : Bool) → IsStrictlySortedBy nat_cmp (keys_of (cond t es (e ∷ remove_entry test es)))
    by rest true = s.1
    by rest false = (
      recursion_from_All (λ y. nat_cmp e.0 y ≡ Less) (keys_of (remove_entry test es))
          (All-map-remove_entry test (λ (x : ℕ × ℕ). x.0) (λ y. nat_cmp e.0 y ≡ Less) es
          (All-from_recursion (λ y. nat_cmp e.0 y ≡ Less) (keys_of es) s.0)),
      rest,
    )

size_gone : (a q : ℕ) (es : Sizes) → IsStrictlySortedBy nat_cmp (keys_of es)
    → size_at (remove_entry (is_at (nat_cmp a)) es) q ≡ cond (a == q) None (size_at es q)
size_gone a q es s =
    lookup-remove_entry (eq_by_cmp_equiv nat_cmp_total) (is_at (nat_cmp a)) ((eq_by_cmp_equiv nat_cmp_total).congr a) q es
    (IsDistinct-from_sorted nat_cmp (keys_of es) s)
    ∙ ap (λ (t : Bool). cond t None (size_at es q)) (tree_test a q)

-- ---- both, change by change
-- they have the same sizes, each address once
pub record Alike (es m : Sizes) : Type 0 where
  pub sorted : IsStrictlySortedBy nat_cmp (keys_of es)
  pub once : (q : ℕ) → times q (keys m) ≤ 1
  pub same : (q : ℕ) → size_at es q ≡ at q m
  pub total : total_of es ≡ sum m

itself : (o : Option ℕ) → unwrap_or (option_map (λ n. n) o) 0 ≡ unwrap_or o 0
itself None = refl
itself (Some n) = refl

was : (es m : Sizes) (a : ℕ) → Alike es m → unwrap_or (option_map (λ n. n) (size_at es a)) 0 ≡ unwrap_or (at a m) 0
was es m a h = itself (size_at es a) ∙ ap (λ (o : Option ℕ). unwrap_or o 0) (h.same a)

once_put : (a q : ℕ) (ks : List ℕ) → times q ks ≤ 1 → times q (a ∷ without a ks) ≤ 1
once_put a q ks once = ⊎_elim here there (cases_eq a q)
  where
    here : a ≡ q → times q (a ∷ without a ks) ≤ 1
    here e = subst (λ (z : ℕ). times z (a ∷ without a ks) ≤ 1) e
        (omega (arith, times_here a (without a ks), without_same a ks))

    there : a ≢ q → times q (a ∷ without a ks) ≤ 1
    there ne = omega (arith, times_apart q a (without a ks) ne, without_le q a ks, once)

alike_step : (es m : Sizes) (c : SizeChange) → Alike es m → Alike (changed es c) (listed m c)
alike_step es m (Put a n) h =
    let all : total_of (insert_entry nat_cmp es a n) + unwrap_or (option_map (λ n. n) (size_at es a)) 0 ≡ total_of es + n =
    sum_by-insert_entry (λ n. n) nat_cmp_total es a n h.sorted in
    record {
      sorted = sorted_put a n es h.sorted;
      once = λ q. subst (λ (ks : List ℕ). times q (a ∷ ks) ≤ 1) (sym (keys_removed a m)) (once_put a q (keys m) (h.once q));
      same = λ q.
          size_put a n es q ∙ (ap (λ (o : Option ℕ). cond (a == q) (Some n) o) (h.same q)
          ∙ (sym (twice (a == q) (Some n) None (at q m))
          ∙ ap (λ (o : Option ℕ). cond (a == q) (Some n) o) (sym (at_removed q a m))));
      total = omega (
        arith,
        all,
        was es m a h,
        h.total,
        sum_removed a m (h.once a),
        sum_by-cons (λ (e : ℕ × ℕ). e.1) (a, n) (removed a m),
      );
    }
alike_step es m (Gone a) h =
    let all : total_of (remove_entry (is_at (nat_cmp a)) es) + unwrap_or (option_map (λ n. n) (size_at es a)) 0 ≡ total_of es =
    sum_by-remove_entry (λ n. n) (is_at (nat_cmp a)) es in
    record {
      sorted = sorted_gone (is_at (nat_cmp a)) es h.sorted;
      once = λ q. subst (λ (ks : List ℕ). times q ks ≤ 1) (sym (keys_removed a m)) (omega (arith, without_le q a (keys m), h.once q));
      same = λ q.
          size_gone a q es h.sorted ∙ (ap (λ (o : Option ℕ). cond (a == q) None o) (h.same q) ∙ sym (at_removed q a m));
      total = omega (arith, all, was es m a h, h.total, sum_removed a m (h.once a));
    }

pub alike_all : (es m : Sizes) (cs : List SizeChange) → Alike es m → Alike (fold changed es cs) (fold listed m cs)
alike_all es m [] h = h
alike_all es m (c ∷ cs) h = alike_all (changed es c) (listed m c) cs (alike_step es m c h)

pub none_alike : Alike [] []
unfolding IsStrictlySortedBy
none_alike = record { sorted = tt; once = λ q. omega arith; same = λ q. refl; total = refl }
