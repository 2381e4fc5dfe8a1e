-- Where ranges stand in a list of those that are apart: where an address stands, and what the list is around an index.
use Rattle.std.proofs.Common.{◌≡◌, ◌≢◌, ℕ, zero, suc, ◌+◌, ◌-◌, ◌<◌, ◌≤◌, Bool, true, false, cond, List, [], ◌∷◌, ◌++◌, length, take, drop, set, nat_le, Option, Some, None, Result, Ok, slice_get, slice_index_or, ◌⊎◌, inl, inr, arith, subst, sym, ap, refl, ◌∙◌}
use Rattle.std.specs.Prelude.{IfSome}
use Rattle.std.specs.List.{insert, remove}
use Rattle.std.specs.Result.{is_ok}
use Rattle.std.specs.List.Sorted.{IsPartitionedBy, IsPartitionPoint, IsNonDecreasingBy}
use Rattle.std.proofs.lemmas.Bool.{cases_lt, leb-true, leb-false, le-leb, lt-leb}
use Rattle.std.proofs.lemmas.Option.{none-some, same_Some}
use Rattle.hm_space.specs.declared.free_range.FreeRange.{FreeRange}
use Rattle.hm_space.specs.Ranges.{end_of, IsWithin, IsInSome, IsRangeFrom, AreApart, LiesIn, begun}
use Rattle.hm_space.proofs.Apart.{behind, lower_from, in_from}

-- the range at an index
pub range_at : (low : ℕ) (rs : List FreeRange) (i : ℕ) (r : FreeRange) → AreApart low rs → slice_get rs i ≡ Some r → IsRangeFrom low r
range_at low [] i r h is = absurd (none-some r is)
range_at low (x ∷ xs) zero r h is = subst (IsRangeFrom low) (same_Some x r is) h.0
range_at low (x ∷ xs) (suc i) r h is = lower_from low (end_of x + 1) r (omega (arith, h.0.from, h.0.some)) (range_at (end_of x + 1) xs i r h.1 is)

pub in_at : (rs : List FreeRange) (i a : ℕ) (r : FreeRange) → slice_get rs i ≡ Some r → IsWithin r.start r.len a → IsInSome rs a
in_at [] i a r is w = absurd (none-some r is)
in_at (x ∷ xs) zero a r is w = inl (subst (λ (y : FreeRange). IsWithin y.start y.len a) (sym (same_Some x r is)) w)
in_at (x ∷ xs) (suc i) a r is w = inr (in_at xs i a r is w)

-- the ranges from an index on, where the first is past an address
pub apart_from : (low m : ℕ) (rs : List FreeRange) (i : ℕ) → AreApart low rs → IfSome (slice_get rs i) (λ r. m ≤ r.start) → AreApart m (drop i rs)
apart_from low m [] zero h le = tt
apart_from low m [] (suc i) h le = tt
apart_from low m (x ∷ xs) zero h le = (record { from = le; some = h.0.some; below = h.0.below }, h.1)
apart_from low m (x ∷ xs) (suc i) h le = apart_from (end_of x + 1) m xs i h.1 le

-- where those at the front let the next one begin
pub behind_take : (low : ℕ) (rs : List FreeRange) (i : ℕ) (r : FreeRange) → slice_get rs i ≡ Some r → behind low (take (suc i) rs) ≡ end_of r + 1
behind_take low [] i r is = absurd (none-some r is)
behind_take low (x ∷ xs) zero r is = ap (λ (y : FreeRange). end_of y + 1) (same_Some x r is)
behind_take low (x ∷ xs) (suc i) r is = behind_take (end_of x + 1) xs i r is

-- the list around an index

pub split_one : (rs : List FreeRange) (i : ℕ) (r : FreeRange) → slice_get rs i ≡ Some r → rs ≡ take i rs ++ r ∷ drop (suc i) rs
split_one [] i r is = absurd (none-some r is)
split_one (x ∷ xs) zero r is = ap (λ (y : FreeRange). y ∷ xs) (same_Some x r is)
split_one (x ∷ xs) (suc i) r is = ap (λ (l : List FreeRange). x ∷ l) (split_one xs i r is)

pub split_two : (rs : List FreeRange) (i : ℕ) (l u : FreeRange) → slice_get rs i ≡ Some l → slice_get rs (suc i) ≡ Some u → rs ≡ take i rs ++ l ∷ u ∷ drop (suc (suc i)) rs
split_two [] i l u is at = absurd (none-some l is)
split_two (x ∷ xs) zero l u is at = ap (λ (y : FreeRange). y ∷ xs) (same_Some x l is) ∙ ap (λ (ys : List FreeRange). l ∷ ys) (split_one xs 0 u at)
split_two (x ∷ xs) (suc i) l u is at = ap (λ (ys : List FreeRange). x ∷ ys) (split_two xs i l u is at)

pub set_is : (rs : List FreeRange) (i : ℕ) (v : FreeRange) → i < length rs → set rs i v ≡ take i rs ++ v ∷ drop (suc i) rs
set_is [] i v lt = absurd (omega arith)
set_is (x ∷ xs) zero v lt = refl
set_is (x ∷ xs) (suc i) v lt = ap (λ (l : List FreeRange). x ∷ l) (set_is xs i v (omega arith))

pub insert_is : (rs : List FreeRange) (i : ℕ) (v w : FreeRange) → i < length rs → insert (set rs i v) (suc i) w ≡ take i rs ++ v ∷ w ∷ drop (suc i) rs
insert_is [] i v w lt = absurd (omega arith)
insert_is (x ∷ xs) zero v w lt = refl
insert_is (x ∷ xs) (suc i) v w lt = ap (λ (l : List FreeRange). x ∷ l) (insert_is xs i v w (omega arith))

pub remove_is : (rs : List FreeRange) (i : ℕ) (v : FreeRange) → suc i < length rs → remove (set rs i v) (suc i) ≡ take i rs ++ v ∷ drop (suc (suc i)) rs
remove_is [] i v lt = absurd (omega arith)
remove_is (x ∷ []) zero v lt = absurd (omega arith)
remove_is (x ∷ y ∷ xs) zero v lt = refl
remove_is (x ∷ xs) (suc i) v lt = ap (λ (l : List FreeRange). x ∷ l) (remove_is xs i v (omega arith))

-- what a list is after an insert that found room
pub grown : {T E : Type 0} (r : Result T E) (x : T) (new more same : List FreeRange) → r ≡ Ok x → new ≡ cond (is_ok r) more same → new ≡ more
grown r x new more same ok is = is ∙ ap (λ (b : Bool). cond b more same) (ap is_ok ok)

-- how many begin at an address or below it

pub begun_within : (rs : List FreeRange) (at : ℕ) → begun rs at ≤ length rs
begun_within [] at = omega arith
begun_within (x ∷ xs) at = elim (nat_le x.start at) as (λ b. cond b (suc (begun xs at)) 0 ≤ suc (length xs)) [ true ↦ omega (arith, begun_within xs at) | false ↦ omega arith ]

begun_none : (low : ℕ) (rs : List FreeRange) (at : ℕ) → AreApart low rs → at < low → begun rs at ≡ 0
begun_none low [] at h lt = refl
begun_none low (x ∷ xs) at h lt = ap (λ (b : Bool). cond b (suc (begun xs at)) 0) (lt-leb x.start at (omega (arith, h.0.from)))

-- the range at that index begins past the address
pub begun_past : (rs : List FreeRange) (at : ℕ) → IfSome (slice_get rs (begun rs at)) (λ r. at < r.start)
begun_past [] at = tt
begun_past (x ∷ xs) at =
    elim (nat_le x.start at) as (λ b. nat_le x.start at ≡ b → IfSome (slice_get (x ∷ xs) (cond b (suc (begun xs at)) 0)) (λ r. at < r.start)) [
      | true ↦ λ e. begun_past xs at
      | false ↦ λ e. leb-false x.start at e
    ] refl

begun_front :
    (x : FreeRange) (xs : List FreeRange) (at i : ℕ) (r : FreeRange) → nat_le x.start at ≡ true → i < suc (begun xs at) → slice_get (x ∷ xs) i ≡ Some r → ((j : ℕ) → j < begun xs at → slice_get xs j ≡ Some r → r.start ≤ at) → r.start ≤ at
begun_front x xs at zero r e less is rest = subst (λ (y : FreeRange). y.start ≤ at) (same_Some x r is) (leb-true x.start at e)
begun_front x xs at (suc i) r e less is rest = rest i (omega (arith, less)) is

-- and those before it do not
pub begun_before : (rs : List FreeRange) (at i : ℕ) (r : FreeRange) → i < begun rs at → slice_get rs i ≡ Some r → r.start ≤ at
begun_before [] at i r lt is = absurd (none-some r is)
begun_before (x ∷ xs) at i r lt is =
    elim (nat_le x.start at) as (λ b. nat_le x.start at ≡ b → i < cond b (suc (begun xs at)) 0 → r.start ≤ at) [
      | true ↦ λ e less. begun_front x xs at i r e less is (λ j. begun_before xs at j r)
      | false ↦ λ e less. absurd (omega (arith, less))
    ] refl lt

-- the search by halves

starts_from : (low : ℕ) (rs : List FreeRange) → AreApart low rs → (j : ℕ) (d : FreeRange) → j < length rs → low ≤ (slice_index_or rs j d).start
starts_from low [] h j d lt = absurd (omega arith)
starts_from low (x ∷ xs) h zero d lt = h.0.from
starts_from low (x ∷ xs) h (suc j) d lt = omega (arith, h.0.from, h.0.some, starts_from (end_of x + 1) xs h.1 j d (omega arith))

rises : (low : ℕ) (rs : List FreeRange) → AreApart low rs → IsNonDecreasingBy (λ (r : FreeRange). r.start) rs
rises low [] h i j d le lt = absurd (omega arith)
rises low (x ∷ xs) h zero zero d le lt = omega arith
rises low (x ∷ xs) h zero (suc j) d le lt = omega (arith, h.0.some, starts_from (end_of x + 1) xs h.1 j d (omega arith))
rises low (x ∷ xs) h (suc i) zero d le lt = absurd (omega arith)
rises low (x ∷ xs) h (suc i) (suc j) d le lt = rises (end_of x + 1) xs h.1 i j d (omega arith) (omega arith)

pub is_parted : (rs : List FreeRange) (at : ℕ) → AreApart 0 rs → IsPartitionedBy (λ (r : FreeRange). nat_le r.start at) rs
is_parted rs at h i j d le lt is = le-leb _ _ (omega (arith, rises 0 rs h i j d le lt, leb-true _ _ is))

pub point_is : (rs : List FreeRange) (at n : ℕ) → n ≤ length rs → IsPartitionPoint (λ (r : FreeRange). nat_le r.start at ≡ true) (λ r. nat_le r.start at ≡ false) rs n → n ≡ begun rs at
point_is [] at n le p = omega arith
point_is (x ∷ xs) at zero le p = sym (ap (λ (b : Bool). cond b (suc (begun xs at)) 0) (p.1 0 x (omega arith) (omega arith)))
point_is (x ∷ xs) at (suc n) le p =
    ap suc (point_is xs at n (omega arith) ((λ k d lo hi. p.0 (suc k) d (omega arith) (omega arith)), (λ k d lo hi. p.1 (suc k) d (omega arith) (omega arith))))
    ∙ sym (ap (λ (b : Bool). cond b (suc (begun xs at)) 0) (p.0 0 x (omega arith) (omega arith)))

-- the range in which others lie

-- some range has all of them
abbrev pub LiesInSome : List FreeRange → ℕ → ℕ → Type 0
LiesInSome [] at len = ⊥
LiesInSome (r ∷ rs) at len = LiesIn r at len ⊎ LiesInSome rs at len

pub lies : (low : ℕ) (rs : List FreeRange) (at len : ℕ) → AreApart low rs → 1 ≤ len → ((a : ℕ) → IsWithin at len a → IsInSome rs a) → LiesInSome rs at len
lies low [] at len h some free = free at (record { from = omega arith; below = omega arith })
lies low (x ∷ xs) at len h some free =
    elim (free at (record { from = omega arith; below = omega arith })) as (λ _. LiesInSome (x ∷ xs) at len) [
      | inl w ↦ inl (record {
        from = w.from;
        to = elim (cases_lt (end_of x) (at + len)) as (λ _. at + len ≤ end_of x) [
          | inl lt ↦ elim (free (end_of x) (record { from = omega (arith, w.below); below = lt })) as (λ _. at + len ≤ end_of x) [
            | inl v ↦ absurd (omega (arith, v.below))
            | inr i ↦ absurd (omega (arith, in_from (end_of x + 1) xs (end_of x) h.1 i))
          ]
          | inr le ↦ le
        ];
      })
      | inr i ↦ inr (let past = in_from (end_of x + 1) xs at h.1 i in lies (end_of x + 1) xs at len h.1 some (λ a v. elim (free a v) as (λ _. IsInSome xs a) [ inl w ↦ absurd (omega (arith, w.below, v.from, past)) | inr j ↦ j ]))
    ]

pub lies_from : (low : ℕ) (rs : List FreeRange) (at len : ℕ) → AreApart low rs → LiesInSome rs at len → low ≤ at
lies_from low [] at len h l = absurd l
lies_from low (x ∷ xs) at len h (inl l) = omega (arith, h.0.from, l.from)
lies_from low (x ∷ xs) at len h (inr l) = omega (arith, h.0.from, h.0.some, lies_from (end_of x + 1) xs at len h.1 l)

-- it is the last that begins at the address or below
pub record Found (rs : List FreeRange) (at len : ℕ) : Type 0 where
  pub some : 1 ≤ begun rs at
  pub range : FreeRange
  pub here : slice_get rs (begun rs at - 1) ≡ Some range
  pub holds : LiesIn range at len

record FoundAt (rs : List FreeRange) (at len : ℕ) : Type 0 where
  index : ℕ
  last : begun rs at ≡ suc index
  range : FreeRange
  here : slice_get rs index ≡ Some range
  holds : LiesIn range at len

found_at : (low : ℕ) (rs : List FreeRange) (at len : ℕ) → AreApart low rs → 1 ≤ len → LiesInSome rs at len → FoundAt rs at len
found_at low [] at len h some l = absurd l
found_at low (x ∷ xs) at len h some (inl l) = record {
  index = 0;
  last = ap (λ (b : Bool). cond b (suc (begun xs at)) 0) (le-leb x.start at l.from) ∙ ap suc (begun_none (end_of x + 1) xs at h.1 (omega (arith, l.to)));
  range = x;
  here = refl;
  holds = l;
}
found_at low (x ∷ xs) at len h some (inr l) =
    let f = found_at (end_of x + 1) xs at len h.1 some l in record {
      index = suc f.index;
      last = ap (λ (b : Bool). cond b (suc (begun xs at)) 0) (le-leb x.start at (omega (arith, lies_from (end_of x + 1) xs at len h.1 l))) ∙ ap suc f.last;
      range = f.range;
      here = f.here;
      holds = f.holds;
    }

pub found : (rs : List FreeRange) (at len : ℕ) → AreApart 0 rs → 1 ≤ len → ((a : ℕ) → IsWithin at len a → IsInSome rs a) → Found rs at len
found rs at len h some free =
    let f = found_at 0 rs at len h some (lies 0 rs at len h some free) in record {
      some = omega (arith, f.last);
      range = f.range;
      here = ap (λ (k : ℕ). slice_get rs k) (let e : begun rs at - 1 ≡ f.index = omega (arith, f.last) in e) ∙ f.here;
      holds = f.holds;
    }

-- a range put in at its index touches neither side, but where it ends or begins another

pub record Alone (rs : List FreeRange) (at len : ℕ) : Type 0 where
  pub none : (a : ℕ) → IsWithin at len a → IsInSome rs a → ⊥

pub behind_at :
    (rs : List FreeRange) (i at len : ℕ) → AreApart 0 rs → Alone rs at len → 1 ≤ len → i ≤ begun rs at → (0 < i → IfSome (slice_get rs (i - 1)) (λ r. end_of r ≢ at)) → behind 0 (take i rs) ≤ at
behind_at rs zero at len h alone some le none = omega arith
behind_at rs (suc i) at len h alone some le none =
    elim (slice_get rs i) as (λ o. slice_get rs i ≡ o → behind 0 (take (suc i) rs) ≤ at) [
      | None ↦ λ is. absurd (past rs i (omega (arith, begun_within rs at)) is)
      | Some r ↦ λ is. (
          let starts = begun_before rs at i r (omega arith) is in
          let other = apart_end rs i at r is (none (omega arith)) in
          elim (cases_lt at (end_of r)) as (λ _. behind 0 (take (suc i) rs) ≤ at) [
            | inl lt ↦ absurd (alone.none at (record { from = omega arith; below = omega arith }) (in_at rs i at r is (record { from = starts; below = lt })))
            | inr ge ↦ omega (arith, behind_take 0 rs i r is, other)
          ])
    ] refl
  where
    past : (rs : List FreeRange) (i : ℕ) → i < length rs → slice_get rs i ≡ None → ⊥
    past [] i lt is = omega arith
    past (x ∷ xs) zero lt is = none-some x (sym is)
    past (x ∷ xs) (suc i) lt is = past xs i (omega arith) is

    apart_end : (rs : List FreeRange) (i at : ℕ) (r : FreeRange) → slice_get rs i ≡ Some r → IfSome (slice_get rs (suc i - 1)) (λ y. end_of y ≢ at) → end_of r ≢ at
    apart_end rs i at r is n = subst (λ (o : Option FreeRange). IfSome o (λ y. end_of y ≢ at)) (ap (λ (k : ℕ). slice_get rs k) (let e : suc i - 1 ≡ i = omega arith in e) ∙ is) n

pub rest_at :
    (rs : List FreeRange) (i at len : ℕ) → AreApart 0 rs → Alone rs at len → i ≡ begun rs at → IfSome (slice_get rs i) (λ r. r.start ≢ at + len) → AreApart (at + len + 1) (drop i rs)
rest_at rs i at len h alone is none =
    apart_from 0 (at + len + 1) rs i h (elim (slice_get rs i) as (λ o. slice_get rs i ≡ o → IfSome o (λ r. at < r.start) → IfSome o (λ r. r.start ≢ at + len) → IfSome o (λ r. at + len + 1 ≤ r.start)) [
      | None ↦ λ e lt ne. tt
      | Some r ↦ λ e lt ne. elim (cases_lt r.start (at + len)) as (λ _. at + len + 1 ≤ r.start) [
        | inl less ↦ absurd (alone.none r.start (record { from = omega (arith, lt); below = less }) (in_at rs i r.start r e (record { from = omega arith; below = omega (arith, (range_at 0 rs i r h e).some) })))
        | inr ge ↦ omega (arith, ge, ne)
      ]
    ] refl (subst (λ (k : ℕ). IfSome (slice_get rs k) (λ r. at < r.start)) (sym is) (begun_past rs at)) none)
