-- What is kept of each slab, by its number.
use Rattle.std.proofs.Common.{◌≡◌, ◌≢◌, ℕ, zero, suc, ◌+◌, ◌<◌, ◌≤◌, inl, inr, true, false, cond, List, [], ◌∷◌, ◌++◌, length, refl, sym, ap, ◌∙◌, arith}
use Rattle.std.proofs.Math.ListN.{set}
use Rattle.std.proofs.lemmas.Bool.{cases_lt, cond-true, cond-false}
use Rattle.std.proofs.lemmas.Bool.Decides.{nat_tests}
use Rattle.std.proofs.lemmas.Cmp.{nat_cmp_total}
use Rattle.std.proofs.lemmas.Option.{slice_get_past}
use Rattle.std.specs.Prelude.{Some, None, slice_get}
use Rattle.std.specs.Ordering.{nat_cmp, eq_by_cmp}
use Rattle.std.specs.FinMap as finite
use Rattle.std.specs.FinMap.{find, get-from_entries, get-insert, same_map, nat_cmp-IsAntisymmetric}
use Rattle.hm_slab_meta.specs.Uses.{SlabUse}
use Rattle.hm_slab_lists.specs.Numbers.{nth_slab}
use Rattle.hm_slab_lists.specs.Table.{entries, metas_by_number}
use Rattle.hm_slab_lists.proofs.Numbering.{same_index}
use Rattle.hm_slab_lists.proofs.Indices.{get-set_same}

tie_is : (a b : ℕ) → eq_by_cmp nat_cmp a b ≡ true → a ≡ b
tie_is a b e = grind (arith, nat_tests)

tie_no : (a b : ℕ) → eq_by_cmp nat_cmp a b ≡ false → a ≢ b
tie_no a b e same = grind (arith, nat_tests)

pub is_tie : (a b : ℕ) → a ≡ b → eq_by_cmp nat_cmp a b ≡ true
is_tie a b e = grind (arith, nat_tests)

pub no_tie : (a b : ℕ) → a ≢ b → eq_by_cmp nat_cmp a b ≡ false
no_tie a b e = grind (arith, nat_tests)

here : (q k : ℕ) (v : SlabUse) (es : List (ℕ × SlabUse)) → q ≡ k → find nat_cmp q ((k, v) ∷ es) ≡ Some v
here q k v es e = cond-true (eq_by_cmp nat_cmp q k) (Some v) (find nat_cmp q es) (is_tie q k e)

there : (q k : ℕ) (v : SlabUse) (es : List (ℕ × SlabUse)) → q ≢ k → find nat_cmp q ((k, v) ∷ es) ≡ find nat_cmp q es
there q k v es n = cond-false (eq_by_cmp nat_cmp q k) (Some v) (find nat_cmp q es) (no_tie q k n)

pub last_there : {X : Type 0} (xs : List X) (x : X) → slice_get (xs ++ x ∷ []) (length xs) ≡ Some x
last_there [] x = refl
last_there (y ∷ xs) x = last_there xs x

module _ (g : ℕ) (some : 1 ≤ g) (few : g ≤ 8) where
  find_index : (metas : List SlabUse) (i k q : ℕ) → i + k ≡ q → find nat_cmp (nth_slab g q) (entries g i metas) ≡ slice_get metas k
  find_index [] i k q at = refl
  find_index (m ∷ metas) i zero q at =
      let e : q ≡ i = omega (arith, at) in here (nth_slab g q) (nth_slab g i) m (entries g (suc i) metas) (ap (nth_slab g) e)
  find_index (m ∷ metas) i (suc k) q at =
      there (nth_slab g q) (nth_slab g i) m (entries g (suc i) metas) (λ e. let s = same_index g q i some few e in omega (arith, at, s))
      ∙ find_index metas (suc i) k q (omega (arith, at))

  find_none : (metas : List SlabUse) (i n : ℕ) → ((k : ℕ) → i ≤ k → k < i + length metas → nth_slab g k ≢ n) → find nat_cmp n (entries g i metas) ≡ None
  find_none [] i n none = refl
  find_none (m ∷ metas) i n none =
      there n (nth_slab g i) m (entries g (suc i) metas) (λ e. none i (omega arith) (omega arith) (sym e))
      ∙ find_none metas (suc i) n (λ k le lt. none k (omega (arith, le)) (omega (arith, lt)))

  find_more : (metas : List SlabUse) (i q : ℕ) (m : SlabUse) → q ≢ nth_slab g (i + length metas)
      → find nat_cmp q (entries g i (metas ++ m ∷ [])) ≡ find nat_cmp q (entries g i metas)
  find_more [] i q m n = let e : i + 0 ≡ i = omega arith in there q (nth_slab g i) m [] (λ s. n (s ∙ sym (ap (nth_slab g) e)))
  find_more (x ∷ metas) i q m n =
      let e : suc i + length metas ≡ i + suc (length metas) = omega arith in
      ap (λ r. cond (eq_by_cmp nat_cmp q (nth_slab g i)) (Some x) r) (find_more metas (suc i) q m (λ s. n (s ∙ ap (nth_slab g) e)))

  find_set : (metas : List SlabUse) (i p q : ℕ) (w : SlabUse) → q ≢ nth_slab g (i + p)
      → find nat_cmp q (entries g i (set metas p w)) ≡ find nat_cmp q (entries g i metas)
  find_set [] i p q w n = refl
  find_set (x ∷ metas) i zero q w n =
      let e : i + 0 ≡ i = omega arith in
      let d : q ≢ nth_slab g i = λ s. n (s ∙ sym (ap (nth_slab g) e)) in
      there q (nth_slab g i) w (entries g (suc i) metas) d ∙ sym (there q (nth_slab g i) x (entries g (suc i) metas) d)
  find_set (x ∷ metas) i (suc p) q w n =
      let e : suc i + p ≡ i + suc p = omega arith in
      ap (λ r. cond (eq_by_cmp nat_cmp q (nth_slab g i)) (Some x) r) (find_set metas (suc i) p q w (λ s. n (s ∙ ap (nth_slab g) e)))

  gets : (metas : List SlabUse) (q : ℕ) → finite.get (metas_by_number g metas) q ≡ find nat_cmp q (entries g 0 metas)
  gets metas q = get-from_entries nat_cmp_total (entries g 0 metas) q

  -- what an index found for a number answers
  pub get_by_index : (metas : List SlabUse) (p n : ℕ) → (p < length metas → nth_slab g p ≡ n)
      → ((q : ℕ) → q < length metas → nth_slab g q ≡ n → p ≡ q) → finite.get (metas_by_number g metas) n ≡ slice_get metas p
  get_by_index metas p n found opened =
      gets metas n
      ∙ elim (cases_lt p (length metas)) as (λ _. find nat_cmp n (entries g 0 metas) ≡ slice_get metas p) [
        | inl lt ↦ ap (λ q. find nat_cmp q (entries g 0 metas)) (sym (found lt)) ∙ find_index metas 0 p p (omega arith)
        | inr ge ↦
            find_none metas 0 n (λ k le lt e. let s = opened k (omega (arith, lt)) e in omega (arith, s, ge, lt))
            ∙ sym (slice_get_past metas p ge)
      ]

  inserted : (metas news : List SlabUse) (key : ℕ) (v : SlabUse) → find nat_cmp key (entries g 0 news) ≡ Some v
      → ((q : ℕ) → q ≢ key → find nat_cmp q (entries g 0 news) ≡ find nat_cmp q (entries g 0 metas))
      → metas_by_number g news ≡ finite.insert (metas_by_number g metas) key v
  inserted metas news key v at others = same_map nat_cmp_total nat_cmp-IsAntisymmetric _ _ (λ q.
      gets news q
      ∙ elim (eq_by_cmp nat_cmp q key) as (λ t. eq_by_cmp nat_cmp q key ≡ t → find nat_cmp q (entries g 0 news) ≡ cond t (Some v) (finite.get (metas_by_number g metas) q)) [
        | true ↦ λ t. ap (λ k. find nat_cmp k (entries g 0 news)) (tie_is q key t) ∙ at
        | false ↦ λ t. others q (tie_no q key t) ∙ sym (gets metas q)
      ] refl
      ∙ sym (get-insert nat_cmp_total (metas_by_number g metas) key v q))

  pub insert_last : (metas : List SlabUse) (m : SlabUse) → metas_by_number g (metas ++ m ∷ []) ≡ finite.insert (metas_by_number g metas) (nth_slab g (length metas)) m
  insert_last metas m =
      inserted metas (metas ++ m ∷ []) (nth_slab g (length metas)) m
      (find_index (metas ++ m ∷ []) 0 (length metas) (length metas) (omega arith) ∙ last_there metas m)
      (λ q n. let e : 0 + length metas ≡ length metas = omega arith in find_more metas 0 q m (λ s. n (s ∙ ap (nth_slab g) e)))

  pub insert_set : (metas : List SlabUse) (p : ℕ) (w : SlabUse) → p < length metas → metas_by_number g (set metas p w) ≡ finite.insert (metas_by_number g metas) (nth_slab g p) w
  insert_set metas p w below =
      inserted metas (set metas p w) (nth_slab g p) w
      (find_index (set metas p w) 0 p p (omega arith) ∙ get-set_same metas p w below)
      (λ q n. let e : 0 + p ≡ p = omega arith in find_set metas 0 p q w (λ s. n (s ∙ ap (nth_slab g) e)))
