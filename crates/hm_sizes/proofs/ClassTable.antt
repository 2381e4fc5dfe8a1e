-- What holds of each size class, tried class by class over the table.
use Rattle.std.proofs.Common.{◌≡◌, ℕ, zero, suc, ◌+◌, ◌-◌, ◌*◌, ◌%◌, ◌<◌, ◌≤◌, ◌==◌, nat_lt, nat_le, Bool, true, get_or, subst, refl, arith}
use Rattle.std.specs.List.{list_all, range_with_len}
use lib.Count.{count_leading_zeros}
use Rattle.std.proofs.lemmas.Bool.{and_parts, eqb-true, leb-true, ltb-true}
use Rattle.hm_sizes.specs.declared.table.SizeClass.{SizeClass}
use Rattle.hm_sizes.specs.declared.table.TheConstants.{SIZE_CLASSES}
use Rattle.hm_sizes.specs.Classes.{slot_size, slot_count, slab_size, class_size, quarantine_length}

passes_from : (test : ℕ → Bool) (a n i : ℕ) → list_all test (range_with_len a n) ≡ true → i < n → test (a + i) ≡ true
passes_from test a zero i all lt = absurd (omega arith)
passes_from test a (suc n) zero all lt =
    let e : a ≡ a + 0 = omega arith in
    subst (λ (k : ℕ). test k ≡ true) e (and_parts (test a) (list_all test (range_with_len (a + 1) n)) all).0
passes_from test a (suc n) (suc i) all lt =
    let e : a + 1 + i ≡ a + suc i = omega arith in
    subst (λ (k : ℕ). test k ≡ true) e
    (passes_from test (a + 1) n i (and_parts (test a) (list_all test (range_with_len (a + 1) n)) all).1 (omega arith))

passes_below : (n : ℕ) (test : ℕ → Bool) → list_all test (range_with_len 0 n) ≡ true → (class : ℕ) → class < n → test class ≡ true
passes_below n test all class lt =
    let e : 0 + class ≡ class = omega arith in
    subst (λ (k : ℕ). test k ≡ true) e (passes_from test 0 n class all lt)

-- a test that each class passes
passes : (test : ℕ → Bool) → list_all test (range_with_len 0 49) ≡ true → (class : ℕ) → class < 49 → test class ≡ true
passes test all class lt = passes_below 49 test all class lt

abbrev pub unlisted : SizeClass
unlisted = record { slot = 0; slots = 0; slab = 0; length = 0; greatest = 0 }

-- the numbers that the table has for a class
abbrev pub row : ℕ → SizeClass
row class = get_or SIZE_CLASSES class unlisted

-- the row of a class has the numbers of its definition
pub record IsRow (class : ℕ) : Type 0 where
  pub slot : (row class).slot ≡ slot_size class
  pub slots : (row class).slots ≡ slot_count class
  pub slab : (row class).slab ≡ slab_size class
  pub length : (row class).length ≡ quarantine_length class
  pub greatest : (row class).greatest ≡ class_size class - 8

pub is_row : (class : ℕ) → class < 49 → IsRow class
unfolding count_leading_zeros
is_row class lt = record {
  slot = eqb-true _ _ (passes (λ k. (row k).slot == slot_size k) refl class lt);
  slots = eqb-true _ _ (passes (λ k. (row k).slots == slot_count k) refl class lt);
  slab = eqb-true _ _ (passes (λ k. (row k).slab == slab_size k) refl class lt);
  length = eqb-true _ _ (passes (λ k. (row k).length == quarantine_length k) refl class lt);
  greatest = eqb-true _ _ (passes (λ k. (row k).greatest == class_size k - 8) refl class lt);
}

-- the bounds of a class's numbers
pub record IsBounded (class : ℕ) : Type 0 where
  pub slot_least : 16 ≤ slot_size class
  pub slot_most : slot_size class ≤ 131072
  pub slot_whole : slot_size class % 16 ≡ 0
  pub slots_some : 1 ≤ slot_count class
  pub slots_most : slot_count class ≤ 256
  pub slots_fit : slot_count class * slot_size class ≤ slab_size class
  pub slab_least : 4096 ≤ slab_size class
  pub slab_most : slab_size class ≤ 131072
  pub slab_pages : slab_size class % 4096 ≡ 0
  pub length_most : quarantine_length class ≤ 8192

pub is_bounded : (class : ℕ) → class < 49 → IsBounded class
unfolding count_leading_zeros
is_bounded class lt = record {
  slot_least = leb-true _ _ (passes (λ k. nat_le 16 (slot_size k)) refl class lt);
  slot_most = leb-true _ _ (passes (λ k. nat_le (slot_size k) 131072) refl class lt);
  slot_whole = eqb-true _ _ (passes (λ k. slot_size k % 16 == 0) refl class lt);
  slots_some = leb-true _ _ (passes (λ k. nat_le 1 (slot_count k)) refl class lt);
  slots_most = leb-true _ _ (passes (λ k. nat_le (slot_count k) 256) refl class lt);
  slots_fit = leb-true _ _ (passes (λ k. nat_le (slot_count k * slot_size k) (slab_size k)) refl class lt);
  slab_least = leb-true _ _ (passes (λ k. nat_le 4096 (slab_size k)) refl class lt);
  slab_most = leb-true _ _ (passes (λ k. nat_le (slab_size k) 131072) refl class lt);
  slab_pages = eqb-true _ _ (passes (λ k. slab_size k % 4096 == 0) refl class lt);
  length_most = leb-true _ _ (passes (λ k. nat_le (quarantine_length k) 8192) refl class lt);
}

-- the sizes ascend
next_rises : (class : ℕ) → class < 48 → class_size class < class_size (class + 1)
next_rises class lt = ltb-true _ _ (passes_below 48 (λ k. nat_lt (class_size k) (class_size (k + 1))) refl class lt)

rises : (class n : ℕ) → class + n + 1 < 49 → class_size class < class_size (class + n + 1)
rises class zero lt =
    let e : class + 1 ≡ class + 0 + 1 = omega arith in
    subst (λ (k : ℕ). class_size class < class_size k) e (next_rises class (omega arith))
rises class (suc n) lt =
    let e : class + n + 1 + 1 ≡ class + suc n + 1 = omega arith in
    let before : class_size class < class_size (class + n + 1) = rises class n (omega arith) in
    let last : class_size (class + n + 1) < class_size (class + n + 1 + 1) = next_rises (class + n + 1) (omega arith) in
    subst (λ (k : ℕ). class_size class < class_size k) e (omega arith)

pub ascends : (smaller greater : ℕ) → smaller < greater → greater < 49 → class_size smaller < class_size greater
ascends smaller greater less lt =
    let e : smaller + (greater - smaller - 1) + 1 ≡ greater = omega arith in
    subst (λ (k : ℕ). class_size smaller < class_size k) e (rises smaller (greater - smaller - 1) (omega arith))

pub sizes_most : (class : ℕ) → class < 49 → class_size class ≤ 131072
sizes_most class lt = leb-true _ _ (passes (λ k. nat_le (class_size k) 131072) refl class lt)
