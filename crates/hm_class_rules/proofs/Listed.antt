-- The lists of slabs hold just the partial and the empty slabs, each once.
use Rattle.std.proofs.Common.{◌≡◌, inl, inr, ⊎_elim, ℕ, ◌+◌, ◌<◌, ◌≤◌, ◌==◌, Bool, true, false, cond, not, ◌&&◌, ◌||◌, List, [], ◌∷◌, length, Some, None, sym, ◌∙◌, ap, subst, refl, arith, true≢false}
use Rattle.std.specs.List.{list_any, filter}
use Rattle.std.proofs.lemmas.Bool.{cases_eq}
use Rattle.std.proofs.lemmas.Option.{same_Some}
use Rattle.hm_model.specs.Maps.{among, times, keys}
use Rattle.hm_model.proofs.Lists.{times_among, times_none, times_here, times_apart, eq_same}
use Rattle.hm_sizes.specs.declared.shape.Shape.{Shape}
use Rattle.hm_sizes.specs.Shapes.{IsShape}
use Rattle.hm_class_rules.specs.State.{State, has_free, is_partial, is_empty, empty_slabs, none_partial, none_empty}
use Rattle.hm_class_rules.specs.Rules.{NoneServes, Source}
use Rattle.hm_class_rules.specs.Laws.{IsSound}
use Rattle.hm_class_rules.specs.Kinds.{Kind, Partial, Empty, same_kind, kind, now, since}
use Rattle.hm_class_rules.specs.Stepped.{front}
use Rattle.hm_class_rules.proofs.Sound.{has_times}
use Rattle.hm_class_rules.proofs.Legal.{empty_open}
use Rattle.hm_class_rules.proofs.Delay.{among_here}
use Rattle.hm_class_rules.proofs.Fronts.{Shows, Falls}
use Rattle.hm_class_rules.proofs.Parking.{only_one}
use Rattle.hm_class_rules.proofs.Streams.{one_most}
use Rattle.hm_class_rules.proofs.Changes.{kind_by}

-- ---- kinds as tests
partial_test : (some all : Bool) → same_kind (kind_by some all) Partial ≡ (some && not all)
partial_test true true = refl
partial_test true false = refl
partial_test false true = refl
partial_test false false = refl

empty_test : (some all : Bool) → same_kind (kind_by some all) Empty ≡ all
empty_test true true = refl
empty_test true false = refl
empty_test false true = refl
empty_test false false = refl

-- ---- how often a slab stands in a list that shows a kind
falls_once : (f : ℕ → ℕ) (n : ℕ) (list : List ℕ) → Falls f list → times n list ≤ 1
falls_once f n [] falls = omega arith
falls_once f n (x ∷ list) falls =
    elim (among n list) as (λ b. among n list ≡ b → times n (x ∷ list) ≤ 1) [
      | true ↦ λ is. ⊎_elim
          (λ e. absurd (over (subst (λ (k : ℕ). f n < f k) e (falls.0 n is))))
          (λ ne. omega (arith, times_apart n x list ne, falls_once f n list falls.1))
          (cases_eq x n)
      | false ↦ λ none. omega (arith, times_none n list none, one_most (x == n))
    ] refl
  where
    over : f n < f n → ⊥
    over lt = omega arith

times_by : (n : ℕ) (list : List ℕ) (b : Bool) → times n list ≤ 1 → among n list ≡ b → times n list ≡ cond b 1 0
times_by n list false once e = times_none n list e
times_by n list true once e = only_one (times n list) (times_among n list e) once

-- the kinds of all slabs in this state
abbrev pub KindsAre : Shape → State → List (ℕ → Kind) → Type 0
KindsAre p s past = (n : ℕ) → now past n ≡ kind p s n

partial_among : (p : Shape) (s : State) (past : List (ℕ → Kind)) (list : List ℕ) → KindsAre p s past → Shows Partial past list → (n : ℕ) → among n list ≡ is_partial p s n
partial_among p s past list kinds shows n = shows.has n ∙ ap (λ (k : Kind). same_kind k Partial) (kinds n) ∙ partial_test (has_free p s n) (is_empty p s n)

empty_among : (p : Shape) (s : State) (past : List (ℕ → Kind)) (list : List ℕ) → KindsAre p s past → Shows Empty past list → (n : ℕ) → among n list ≡ is_empty p s n
empty_among p s past list kinds shows n = shows.has n ∙ ap (λ (k : Kind). same_kind k Empty) (kinds n) ∙ empty_test (has_free p s n) (is_empty p s n)

pub partial_times : (p : Shape) (s : State) (past : List (ℕ → Kind)) (list : List ℕ) → KindsAre p s past → Shows Partial past list → (n : ℕ) → times n list ≡ cond (is_partial p s n) 1 0
partial_times p s past list kinds shows n = times_by n list (is_partial p s n) (falls_once (since past) n list shows.falls) (partial_among p s past list kinds shows n)

pub empty_times : (p : Shape) (s : State) (past : List (ℕ → Kind)) (list : List ℕ) → KindsAre p s past → Shows Empty past list → (n : ℕ) → times n list ≡ cond (is_empty p s n) 1 0
empty_times p s past list kinds shows n = times_by n list (is_empty p s n) (falls_once (since past) n list shows.falls) (empty_among p s past list kinds shows n)

-- ---- lists in which each number stands as often are equally long
-- the list without the first standing of a number
without_first : ℕ → List ℕ → List ℕ
without_first n [] = []
without_first n (x ∷ xs) = cond (x == n) xs (x ∷ without_first n xs)

first_gone : (n m : ℕ) (xs : List ℕ) → 1 ≤ times n xs → times m (without_first n xs) + cond (n == m) 1 0 ≡ times m xs
unfolding without_first
first_gone n m [] some = absurd (omega arith)
first_gone n m (x ∷ xs) some =
    elim (x == n) as (λ b. (x == n) ≡ b → 1 ≤ cond b 1 0 + times n xs → times m (cond b xs (x ∷ without_first n xs)) + cond (n == m) 1 0 ≡ times m (x ∷ xs)) [
      | true ↦ λ is h. ap (λ (k : ℕ). times m xs + cond (k == m) 1 0) (sym (eq_same x n is)) ∙ omega arith
      | false ↦ λ is h. omega (arith, first_gone n m xs (omega (arith, h)))
    ] refl some

one_shorter : (n : ℕ) (xs : List ℕ) → 1 ≤ times n xs → length (without_first n xs) + 1 ≡ length xs
unfolding without_first
one_shorter n [] some = absurd (omega arith)
one_shorter n (x ∷ xs) some =
    elim (x == n) as (λ b. 1 ≤ cond b 1 0 + times n xs → length (cond b xs (x ∷ without_first n xs)) + 1 ≡ length (x ∷ xs)) [
      | true ↦ λ h. omega arith
      | false ↦ λ h. omega (arith, one_shorter n xs (omega (arith, h)))
    ] some

pub equally_long : (xs ys : List ℕ) → ((n : ℕ) → times n xs ≡ times n ys) → length xs ≡ length ys
equally_long [] [] same = refl
equally_long [] (y ∷ ys) same = absurd (omega (arith, same y, times_here y ys))
equally_long (x ∷ xs) ys same =
    let some : 1 ≤ times x ys = omega (arith, same x, times_here x xs) in
    omega (arith, equally_long xs (without_first x ys) (λ n. omega (arith, first_gone x n ys some, same n)), one_shorter x ys some)

times_filter : (f : ℕ → Bool) (n : ℕ) (xs : List ℕ) → times n (filter f xs) ≡ cond (f n) (times n xs) 0
times_filter f n [] = none (f n)
  where
    none : (b : Bool) → 0 ≡ cond {A = ℕ} b 0 0
    none true = refl
    none false = refl
times_filter f n (x ∷ xs) =
    elim (f x) as (λ b. f x ≡ b → times n (cond b (x ∷ filter f xs) (filter f xs)) ≡ cond (f n) (cond (x == n) 1 0 + times n xs) 0) [
      | true ↦ λ is. ap (λ (k : ℕ). cond (x == n) 1 0 + k) (times_filter f n xs) ∙ stays (f n) refl (x == n) refl is
      | false ↦ λ is. times_filter f n xs ∙ goes (f n) refl (x == n) refl is
    ] refl
  where
    stays : (b : Bool) → f n ≡ b → (c : Bool) → (x == n) ≡ c → f x ≡ true → cond c 1 0 + cond b (times n xs) 0 ≡ cond b (cond c 1 0 + times n xs) 0
    stays true e c d is = refl
    stays false e false d is = omega arith
    stays false e true d is = absurd (true≢false (sym is ∙ ap f (eq_same x n d) ∙ e))

    goes : (b : Bool) → f n ≡ b → (c : Bool) → (x == n) ≡ c → f x ≡ false → cond b (times n xs) 0 ≡ cond b (cond c 1 0 + times n xs) 0
    goes false e c d is = refl
    goes true e false d is = omega arith
    goes true e true d is = absurd (true≢false (sym e ∙ ap f (sym (eq_same x n d)) ∙ is))

-- ---- how many empty slabs there are
empty_key : (p : Shape) (s : State) (n : ℕ) → IsShape p → IsSound p s → is_empty p s n ≡ true → times n (keys s.opens) ≡ 1
empty_key p s n shape sound e = only_one (times n (keys s.opens)) (has_times n s.opens (empty_open p s n shape e)) (omega (arith, sound.slab_once n))

pub empty_slab_times : (p : Shape) (s : State) (n : ℕ) → IsShape p → IsSound p s → times n (empty_slabs p s) ≡ cond (is_empty p s n) 1 0
empty_slab_times p s n shape sound =
    times_filter (is_empty p s) n (keys s.opens)
    ∙ elim (is_empty p s n) as (λ b. is_empty p s n ≡ b → cond b (times n (keys s.opens)) 0 ≡ cond b 1 0) [
      | true ↦ λ e. empty_key p s n shape sound e
      | false ↦ λ e. refl
    ] refl

pub empty_length : (p : Shape) (s : State) (past : List (ℕ → Kind)) (list : List ℕ) → IsShape p → IsSound p s → KindsAre p s past → Shows Empty past list → length list ≡ length (empty_slabs p s)
empty_length p s past list shape sound kinds shows = equally_long list (empty_slabs p s) (λ n. empty_times p s past list kinds shows n ∙ sym (empty_slab_times p s n shape sound))

-- ---- the front of the lists is a source
pub any_none : (f : ℕ → Bool) (xs : List ℕ) → ((n : ℕ) → f n ≡ false) → list_any f xs ≡ false
any_none f [] none = refl
any_none f (x ∷ xs) none = ap (λ b. b || list_any f xs) (none x) ∙ any_none f xs none

no_partial : (p : Shape) (s : State) (past : List (ℕ → Kind)) → KindsAre p s past → Shows Partial past [] → none_partial p s ≡ true
no_partial p s past kinds shows = ap (λ b. not b) (any_none (is_partial p s) (keys s.opens) (λ n. sym (partial_among p s past [] kinds shows n)))

no_empty : (p : Shape) (s : State) (past : List (ℕ → Kind)) → KindsAre p s past → Shows Empty past [] → none_empty p s ≡ true
no_empty p s past kinds shows = ap (λ b. not b) (any_none (is_empty p s) (keys s.opens) (λ n. sym (empty_among p s past [] kinds shows n)))

pub front_source : (p : Shape) (s : State) (past : List (ℕ → Kind)) (partial empty : List ℕ) → KindsAre p s past → Shows Partial past partial → Shows Empty past empty → (n : ℕ) → front partial empty ≡ Some n → Source p s None n
front_source p s past [] [] kinds shows empties n e = absurd (cc)
front_source p s past [] (x ∷ xs) kinds shows empties n e =
    inr (no_partial p s past kinds shows, subst (λ (k : ℕ). is_empty p s k ≡ true) (same_Some x n e) (sym (empty_among p s past (x ∷ xs) kinds empties x) ∙ among_here x xs))
front_source p s past (x ∷ xs) empty kinds shows empties n e =
    inl (subst (λ (k : ℕ). is_partial p s k ≡ true) (same_Some x n e) (sym (partial_among p s past (x ∷ xs) kinds shows x) ∙ among_here x xs))

pub no_front : (p : Shape) (s : State) (past : List (ℕ → Kind)) (partial empty : List ℕ) → KindsAre p s past → Shows Partial past partial → Shows Empty past empty → front partial empty ≡ None → NoneServes p s
no_front p s past [] [] kinds shows empties e = (no_partial p s past kinds shows, no_empty p s past kinds empties)
no_front p s past [] (x ∷ xs) kinds shows empties e = absurd (cc)
no_front p s past (x ∷ xs) empty kinds shows empties e = absurd (cc)
