-- The lists of slabs stand in the order in which their slabs became what they are.
use Rattle.std.proofs.Common.{◌≡◌, ◌≢◌, inl, inr, ℕ, suc, ◌<◌, ◌≤◌, ◌==◌, Bool, true, false, cond, not, ◌||◌, List, [], ◌∷◌, length, Option, Some, None, sym, ◌∙◌, ap, subst, refl, arith, true≢false}
use Rattle.std.specs.Bool.{⊤}
use Rattle.std.proofs.lemmas.Bool.{or_right}
use Rattle.hm_model.specs.Maps.{among, without}
use Rattle.hm_model.proofs.Lists.{eq_same, eq_other, same_eq}
use Rattle.hm_class_rules.specs.Kinds.{Kind, Partial, Empty, Neither, same_kind, now, since, IsLast, IsNone, IsSource}
use Rattle.hm_class_rules.specs.Stepped.{listed, front}
use Rattle.hm_class_rules.proofs.Delay.{among_here}

kind_same : (a : Kind) → same_kind a a ≡ true
kind_same Partial = refl
kind_same Empty = refl
kind_same Neither = refl

kind_is : (a b : Kind) → same_kind a b ≡ true → a ≡ b
kind_is Partial Partial e = refl
kind_is Partial Empty e = absurd (true≢false (sym e))
kind_is Partial Neither e = absurd (true≢false (sym e))
kind_is Empty Partial e = absurd (true≢false (sym e))
kind_is Empty Empty e = refl
kind_is Empty Neither e = absurd (true≢false (sym e))
kind_is Neither Partial e = absurd (true≢false (sym e))
kind_is Neither Empty e = absurd (true≢false (sym e))
kind_is Neither Neither e = refl

-- each stands above all that follow it
abbrev pub Falls : (ℕ → ℕ) → List ℕ → Type 0
Falls f [] = ⊤
Falls f (n ∷ list) = ((m : ℕ) → among m list ≡ true → f m < f n) × Falls f list

falls_alike : (f g : ℕ → ℕ) (list : List ℕ) → ((m : ℕ) → among m list ≡ true → f m ≡ g m) → Falls f list → Falls g list
falls_alike f g [] same falls = tt
falls_alike f g (n ∷ list) same falls = (
  λ m h. omega (arith, same m (or_right (n == m) _ h), same n (among_here n list), falls.0 m h),
  falls_alike f g list (λ m h. same m (or_right (n == m) _ h)) falls.1,
)

pub among_filter : (n m : ℕ) (list : List ℕ) → among m (without n list) ≡ cond (m == n) false (among m list)
among_filter n m [] = elim (m == n) as (λ b. false ≡ cond b false false) [ true ↦ refl | false ↦ refl ]
among_filter n m (x ∷ list) =
    elim (x == n) as (λ b. (x == n) ≡ b → among m (cond (not b) (x ∷ without n list) (without n list)) ≡ cond (m == n) false ((x == m) || among m list)) [
      | true ↦ λ e. among_filter n m list ∙ gone (m == n) (x == m) refl refl e
      | false ↦ λ e. ap (λ c. (x == m) || c) (among_filter n m list) ∙ stays (m == n) (x == m) refl refl e
    ] refl
  where
    gone : (b c : Bool) → (m == n) ≡ b → (x == m) ≡ c → (x == n) ≡ true → cond b false (among m list) ≡ cond b false (c || among m list)
    gone true c p q e = refl
    gone false false p q e = refl
    gone false true p q e = absurd (eq_other m n p (sym (eq_same x m q) ∙ eq_same x n e))

    stays : (b c : Bool) → (m == n) ≡ b → (x == m) ≡ c → (x == n) ≡ false → (c || cond b false (among m list)) ≡ cond b false (c || among m list)
    stays true true p q e = absurd (eq_other x n e (eq_same x m q ∙ eq_same m n p))
    stays true false p q e = refl
    stays false c p q e = refl

falls_filter : (f : ℕ → ℕ) (n : ℕ) (list : List ℕ) → Falls f list → Falls f (without n list)
falls_filter f n [] falls = tt
falls_filter f n (x ∷ list) falls =
    elim (x == n) as (λ b. Falls f (cond (not b) (x ∷ without n list) (without n list))) [
      | true ↦ falls_filter f n list falls.1
      | false ↦ (λ m h. falls.0 m (was m (m == n) (sym (among_filter n m list) ∙ h)), falls_filter f n list falls.1)
    ]
  where
    was : (m : ℕ) (b : Bool) → cond b false (among m list) ≡ true → among m list ≡ true
    was m true e = absurd (true≢false (sym e))
    was m false e = e

since_most : (past : List (ℕ → Kind)) (n : ℕ) → since past n ≤ length past
since_most [] n = omega arith
since_most (kinds ∷ past) n =
    elim (same_kind (kinds n) (now past n)) as (λ b. cond b (since past n) (suc (length past)) ≤ suc (length past)) [ true ↦ omega (arith, since_most past n) | false ↦ omega arith ]

-- the list holds just the slabs of its kind, in falling order
pub record Shows (q : Kind) (past : List (ℕ → Kind)) (list : List ℕ) : Type 0 where
  pub has : (n : ℕ) → among n list ≡ same_kind (now past n) q
  pub falls : Falls (since past) list

-- a slab that keeps its kind
kept_since : (kinds : ℕ → Kind) (past : List (ℕ → Kind)) (m : ℕ) → kinds m ≡ now past m → since (kinds ∷ past) m ≡ since past m
kept_since kinds past m e = ap (λ b. cond b (since past m) (suc (length past))) (ap (λ (k : Kind). same_kind k (now past m)) e ∙ kind_same (now past m))

changed_since : (kinds : ℕ → Kind) (past : List (ℕ → Kind)) (m : ℕ) → same_kind (kinds m) (now past m) ≡ false → since (kinds ∷ past) m ≡ suc (length past)
changed_since kinds past m e = ap (λ b. cond b (since past m) (suc (length past))) e

pub split : (P : Bool → Type 0) (b : Bool) → (b ≡ true → P true) → (b ≡ false → P false) → P b
split P true so not_so = so refl
split P false so not_so = not_so refl

pub shows_after : (q : Kind) (kinds : ℕ → Kind) (past : List (ℕ → Kind)) (n : ℕ) (list : List ℕ) → ((m : ℕ) → m ≢ n → kinds m ≡ now past m) → Shows q past list
    → Shows q (kinds ∷ past) (listed q n (now past n) (kinds n) list)
shows_after q kinds past n list others shows =
    split (λ b. Shows q (kinds ∷ past) (cond b list (cond (same_kind (kinds n) q) (n ∷ list) (cond (same_kind (now past n) q) (without n list) list)))) (same_kind (kinds n) (now past n))
    same
    (λ changes. split (λ b. Shows q (kinds ∷ past) (cond b (n ∷ list) (cond (same_kind (now past n) q) (without n list) list))) (same_kind (kinds n) q)
    (to_front changes)
    (λ away. split (λ b. Shows q (kinds ∷ past) (cond b (without n list) list)) (same_kind (now past n) q) (leaves changes away) (apart changes away)))
  where
    all_same : same_kind (kinds n) (now past n) ≡ true → (m : ℕ) → kinds m ≡ now past m
    all_same e m = split (λ b. kinds m ≡ now past m) (m == n)
        (λ is. subst (λ (k : ℕ). kinds k ≡ now past k) (sym (eq_same m n is)) (kind_is (kinds n) (now past n) e))
        (λ not_so. others m (eq_other m n not_so))

    same : same_kind (kinds n) (now past n) ≡ true → Shows q (kinds ∷ past) list
    same e = record {
      has = λ m. shows.has m ∙ ap (λ (k : Kind). same_kind k q) (sym (all_same e m));
      falls = falls_alike (since past) (since (kinds ∷ past)) list (λ m h. sym (kept_since kinds past m (all_same e m))) shows.falls;
    }

    -- a slab that is in the list, where n is not of this kind before, is another
    differs : same_kind (now past n) q ≡ false → (m : ℕ) → among m list ≡ true → m ≢ n
    differs e m h p = true≢false (sym (sym e ∙ ap (λ (k : ℕ). same_kind (now past k) q) (sym p) ∙ sym (shows.has m) ∙ h))

    was_other : same_kind (kinds n) (now past n) ≡ false → same_kind (kinds n) q ≡ true → same_kind (now past n) q ≡ false
    was_other changes e = split (λ b. b ≡ false) (same_kind (now past n) q)
        (λ is. absurd (true≢false (sym (kind_same (kinds n)) ∙ ap (λ (k : Kind). same_kind (kinds n) k) (kind_is (kinds n) q e ∙ sym (kind_is (now past n) q is)) ∙ changes)))
        (λ not_so. refl)

    to_front : same_kind (kinds n) (now past n) ≡ false → same_kind (kinds n) q ≡ true → Shows q (kinds ∷ past) (n ∷ list)
    to_front changes e = record {
      has = λ m. split (λ b. (b || among m list) ≡ same_kind (kinds m) q) (n == m)
          (λ is. sym (ap (λ (k : ℕ). same_kind (kinds k) q) (sym (eq_same n m is)) ∙ e))
          (λ not_so. shows.has m ∙ ap (λ (k : Kind). same_kind k q) (sym (others m (λ p. eq_other n m not_so (sym p)))));
      falls = (
        λ m h. omega (arith, kept_since kinds past m (others m (differs (was_other changes e) m h)), since_most past m, changed_since kinds past n changes),
        falls_alike (since past) (since (kinds ∷ past)) list (λ m h. sym (kept_since kinds past m (others m (differs (was_other changes e) m h)))) shows.falls,
      );
    }

    not_in : (m : ℕ) → among m (without n list) ≡ true → m ≢ n
    not_in m h p = true≢false (sym h ∙ among_filter n m list ∙ ap (λ b. cond b false (among m list)) (same_eq m n p))

    leaves : same_kind (kinds n) (now past n) ≡ false → same_kind (kinds n) q ≡ false → same_kind (now past n) q ≡ true → Shows q (kinds ∷ past) (without n list)
    leaves changes away was = record {
      has = λ m. among_filter n m list ∙ split (λ b. cond b false (among m list) ≡ same_kind (kinds m) q) (m == n)
          (λ is. sym (ap (λ (k : ℕ). same_kind (kinds k) q) (eq_same m n is) ∙ away))
          (λ not_so. shows.has m ∙ ap (λ (k : Kind). same_kind k q) (sym (others m (eq_other m n not_so))));
      falls = falls_alike (since past) (since (kinds ∷ past)) (without n list)
          (λ m h. sym (kept_since kinds past m (others m (not_in m h)))) (falls_filter (since past) n list shows.falls);
    }

    apart : same_kind (kinds n) (now past n) ≡ false → same_kind (kinds n) q ≡ false → same_kind (now past n) q ≡ false → Shows q (kinds ∷ past) list
    apart changes away was = record {
      has = λ m. split (λ b. among m list ≡ same_kind (kinds m) q) (m == n)
          (λ is. shows.has m ∙ ap (λ (k : ℕ). same_kind (now past k) q) (eq_same m n is) ∙ was ∙ sym (ap (λ (k : ℕ). same_kind (kinds k) q) (eq_same m n is) ∙ away))
          (λ not_so. shows.has m ∙ ap (λ (k : Kind). same_kind k q) (sym (others m (eq_other m n not_so))));
      falls = falls_alike (since past) (since (kinds ∷ past)) list (λ m h. sym (kept_since kinds past m (others m (differs was m h)))) shows.falls;
    }

abbrev first : List ℕ → Option ℕ
first [] = None
first (n ∷ list) = Some n

-- of two, where it is not the first
rest : (b c : Bool) → (b || c) ≡ true → b ≡ false → c ≡ true
rest true c e f = absurd (true≢false f)
rest false c e f = e

-- the front of a list that shows a kind
front_is : (q : Kind) (past : List (ℕ → Kind)) (list : List ℕ) → Shows q past list → (n : ℕ) → first list ≡ Some n → IsLast q past n
front_is q past [] shows n e = absurd (cc)
front_is q past (a ∷ list) shows n e = subst (λ (k : ℕ). IsLast q past k) (cc) (record {
  is = kind_is (now past a) q (sym (shows.has a) ∙ among_here a list);
  last = λ m h. split (λ b. since past m ≤ since past a) (a == m)
      (λ is. omega (arith, ap (since past) (eq_same a m is)))
      (λ not_so. omega (arith, shows.falls.0 m (rest (a == m) (among m list) (shows.has m ∙ ap (λ (k : Kind). same_kind k q) h ∙ kind_same q) not_so)));
})

is_front : (q : Kind) (past : List (ℕ → Kind)) (list : List ℕ) → Shows q past list → (n : ℕ) → IsLast q past n → first list ≡ Some n
is_front q past [] shows n last = absurd (true≢false (sym (kind_same q) ∙ ap (λ (k : Kind). same_kind k q) (sym last.is) ∙ sym (shows.has n)))
is_front q past (a ∷ list) shows n last = split (λ b. Some a ≡ Some n) (a == n)
    (λ is. ap (λ (k : ℕ). Some k) (eq_same a n is))
    (λ not_so. absurd (below (last.last a (kind_is (now past a) q (sym (shows.has a) ∙ among_here a list)))
    (shows.falls.0 n (rest (a == n) (among n list) (shows.has n ∙ ap (λ (k : Kind). same_kind k q) last.is ∙ kind_same q) not_so))))
  where
    below : since past a ≤ since past n → since past n < since past a → ⊥
    below le lt = omega arith

none_is : (q : Kind) (past : List (ℕ → Kind)) (list : List ℕ) → Shows q past list → first list ≡ None → IsNone q past
none_is q past [] shows e n is = true≢false (sym (kind_same q) ∙ ap (λ (k : Kind). same_kind k q) (sym is) ∙ sym (shows.has n))
none_is q past (a ∷ list) shows e n is = absurd (cc)

is_none : (q : Kind) (past : List (ℕ → Kind)) (list : List ℕ) → Shows q past list → IsNone q past → first list ≡ None
is_none q past [] shows none = refl
is_none q past (a ∷ list) shows none = absurd (none a (kind_is (now past a) q (sym (shows.has a) ∙ among_here a list)))

pub source_is : (past : List (ℕ → Kind)) (p e : List ℕ) → Shows Partial past p → Shows Empty past e → (n : ℕ) → front p e ≡ Some n → IsSource past n
source_is past [] [] partial empty n is = absurd (cc)
source_is past [] (b ∷ e) partial empty n is = inr (none_is Partial past [] partial refl, front_is Empty past (b ∷ e) empty n is)
source_is past (a ∷ p) e partial empty n is = inl (front_is Partial past (a ∷ p) partial n is)

pub is_source : (past : List (ℕ → Kind)) (p e : List ℕ) → Shows Partial past p → Shows Empty past e → (n : ℕ) → IsSource past n → front p e ≡ Some n
is_source past [] e partial empty n (inl last) = absurd (none_is Partial past [] partial refl n last.is)
is_source past [] [] partial empty n (inr last) = is_front Empty past [] empty n last.1
is_source past [] (b ∷ e) partial empty n (inr last) = is_front Empty past (b ∷ e) empty n last.1
is_source past (a ∷ p) e partial empty n (inl last) = is_front Partial past (a ∷ p) partial n last
is_source past (a ∷ p) e partial empty n (inr last) = absurd (some_none (is_none Partial past (a ∷ p) partial last.0))
  where
    some_none : {a : ℕ} → Some a ≡ None → ⊥
    some_none e = cc
