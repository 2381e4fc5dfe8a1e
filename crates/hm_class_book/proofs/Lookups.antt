-- What a list of open slabs has at a number, and searches in ranges.
use Rattle.std.proofs.Common.{◌≡◌, ◌≢◌, ◌⊎◌, ⊎_elim, ℕ, zero, suc, ◌+◌, ◌-◌, ◌<◌, ◌≤◌, ◌==◌, Bool, true, false, cond, not, ◌||◌, List, [], ◌∷◌, ◌++◌, take, length, get_or, Option, Some, None, is_some, sym, ◌∙◌, ap, subst, refl, arith}
use Rattle.std.specs.Prelude.{find, IfSome}
use Rattle.std.specs.List.{list_any, range_with_len, filter}
use Rattle.std.proofs.lemmas.Bool.{cases_lt}
use Rattle.std.proofs.lemmas.Option.{none-some}
use Rattle.hm_model.specs.Maps.{at, has, removed}
use Rattle.hm_model.proofs.Lists.{same_eq, other_eq}
use Rattle.hm_class_rules.specs.State.{Slab}
use Rattle.hm_model.specs.Ranges.{first_failing}
use Rattle.hm_class_book.specs.declared.book.OpenSlab.{OpenSlab}
use Rattle.hm_class_book.specs.Book.{slab_in, slabs_in}

pub has_any : {X : Type 0} (a : ℕ) (es : List (ℕ × X)) → has a es ≡ list_any (λ e. e.0 == a) es
has_any a [] = refl
has_any a (e ∷ es) = elim (e.0 == a) as (λ b. is_some (cond b (Some e.1) (at a es)) ≡ (b || list_any (λ e. e.0 == a) es)) [ true ↦ refl | false ↦ has_any a es ]

-- ---- at a number
pub found_at : (n : ℕ) (es : List (ℕ × OpenSlab)) (i : ℕ) (d : ℕ × OpenSlab) → i < length es → at n (slabs_in (take i es)) ≡ None → ((get_or es i d).0 == n) ≡ true
    → at n (slabs_in es) ≡ Some (slab_in (get_or es i d).1)
found_at n [] i d lt none e = absurd (omega arith)
found_at n (x ∷ es) zero d lt none e = ap (λ b. cond b (Some (slab_in x.1)) (at n (slabs_in es))) e
found_at n (x ∷ es) (suc i) d lt none e =
    elim (x.0 == n) as (λ b. cond b (Some (slab_in x.1)) (at n (slabs_in (take i es))) ≡ None → cond b (Some (slab_in x.1)) (at n (slabs_in es)) ≡ Some (slab_in (get_or es i d).1)) [
      | true ↦ λ h. absurd (none-some _ (sym h))
      | false ↦ λ h. found_at n es i d (omega (arith, lt)) h e
    ] none

pub passed_at : (n : ℕ) (es : List (ℕ × OpenSlab)) (i : ℕ) (d : ℕ × OpenSlab) → i < length es → at n (slabs_in (take i es)) ≡ None → ((get_or es i d).0 == n) ≡ false
    → at n (slabs_in (take (suc i) es)) ≡ None
passed_at n [] i d lt none e = absurd (omega arith)
passed_at n (x ∷ es) zero d lt none e = ap (λ b. cond b (Some (slab_in x.1)) None) e
passed_at n (x ∷ es) (suc i) d lt none e =
    elim (x.0 == n) as (λ b. cond b (Some (slab_in x.1)) (at n (slabs_in (take i es))) ≡ None → cond b (Some (slab_in x.1)) (at n (slabs_in (take (suc i) es))) ≡ None) [
      | true ↦ λ h. absurd (none-some _ (sym h))
      | false ↦ λ h. passed_at n es i d (omega (arith, lt)) h e
    ] none

-- ---- in a range
pub failing_found : (test : ℕ → Bool) (a len q : ℕ) → a ≤ q → q < a + len → ((k : ℕ) → a ≤ k → k < q → test k ≡ true) → test q ≡ false → first_failing test a len ≡ Some q
failing_found test a zero q le lt before here = absurd (omega arith)
failing_found test a (suc len) q le lt before here =
    ⊎_elim
    (λ less. ap (λ b. cond b (first_failing test (a + 1) len) (Some a)) (before a (omega arith) less)
    ∙ failing_found test (a + 1) len q (omega (arith, less)) (omega (arith, lt)) (λ k more under. before k (omega (arith, more)) under) here)
    (λ ge. let same : a ≡ q = omega (arith, ge, le) in
    ap (λ b. cond b (first_failing test (a + 1) len) (Some a)) (ap test same ∙ here) ∙ ap (λ (n : ℕ). Some n) same)
    (cases_lt a q)

pub failing_none : (test : ℕ → Bool) (a len : ℕ) → ((k : ℕ) → a ≤ k → k < a + len → test k ≡ true) → first_failing test a len ≡ None
failing_none test a zero all = refl
failing_none test a (suc len) all =
    ap (λ b. cond b (first_failing test (a + 1) len) (Some a)) (all a (omega arith) (omega arith))
    ∙ failing_none test (a + 1) len (λ k more under. all k (omega (arith, more)) (omega (arith, under)))

-- the first of a range that passes a test
pub find_found : (f : ℕ → Bool) (a n j : ℕ) → a ≤ j → j < a + n → f j ≡ true → ((k : ℕ) → a ≤ k → k < j → f k ≡ false) → find f (range_with_len a n) ≡ Some j
find_found f a zero j ge lt is none = absurd (omega arith)
find_found f a (suc n) j ge lt is none =
    ⊎_elim
    (λ less. ap (λ b. cond b (Some a) (find f (range_with_len (a + 1) n))) (none a (omega arith) less)
    ∙ find_found f (a + 1) n j (omega (arith, less)) (omega (arith, lt)) is (λ k low high. none k (omega (arith, low)) high))
    (λ ge'. let same : a ≡ j = omega (arith, ge', ge) in
    ap (λ b. cond b (Some a) (find f (range_with_len (a + 1) n))) (ap f same ∙ is) ∙ ap (λ (k : ℕ). Some k) same)
    (cases_lt a j)

pub find_none : (f : ℕ → Bool) (a n : ℕ) → ((k : ℕ) → a ≤ k → k < a + n → f k ≡ false) → find f (range_with_len a n) ≡ None
find_none f a zero none = refl
find_none f a (suc n) none =
    ap (λ b. cond b (Some a) (find f (range_with_len (a + 1) n))) (none a (omega arith) (omega arith))
    ∙ find_none f (a + 1) n (λ k low high. none k (omega (arith, low)) (omega (arith, high)))

-- a search goes on where it found nothing
pub find_on : (f : ℕ → Bool) (xs ys : List ℕ) (j : ℕ) → find f xs ≡ Some j → find f (xs ++ ys) ≡ Some j
find_on f [] ys j e = absurd (none-some _ e)
find_on f (x ∷ xs) ys j e = elim (f x) as (λ b. cond b (Some x) (find f xs) ≡ Some j → cond b (Some x) (find f (xs ++ ys)) ≡ Some j) [ true ↦ λ h. h | false ↦ λ h. find_on f xs ys j h ] e

pub find_past : (f : ℕ → Bool) (xs ys : List ℕ) → find f xs ≡ None → find f (xs ++ ys) ≡ find f ys
find_past f [] ys e = refl
find_past f (x ∷ xs) ys e =
    elim (f x) as (λ b. cond b (Some x) (find f xs) ≡ None → cond b (Some x) (find f (xs ++ ys)) ≡ find f ys) [ true ↦ λ h. absurd (none-some _ (sym h)) | false ↦ λ h. find_past f xs ys h ] e

-- two tests that agree in a range
pub find_alike : (f g : ℕ → Bool) (a n : ℕ) (xs ys : List ℕ) → ((k : ℕ) → a ≤ k → k < a + n → f k ≡ g k) → find f xs ≡ find g ys → find f (range_with_len a n ++ xs) ≡ find g (range_with_len a n ++ ys)
find_alike f g a zero xs ys same rest = rest
find_alike f g a (suc n) xs ys same rest =
    ap (λ b. cond b (Some a) (find f (range_with_len (a + 1) n ++ xs))) (same a (omega arith) (omega arith))
    ∙ ap (λ (o : Option ℕ). cond (g a) (Some a) o) (find_alike f g (a + 1) n xs ys (λ k low high. same k (omega (arith, low)) (omega (arith, high))) rest)

pub find_alike_range : (f g : ℕ → Bool) (a n : ℕ) → ((k : ℕ) → a ≤ k → k < a + n → f k ≡ g k) → find f (range_with_len a n) ≡ find g (range_with_len a n)
find_alike_range f g a zero same = refl
find_alike_range f g a (suc n) same =
    ap (λ b. cond b (Some a) (find f (range_with_len (a + 1) n))) (same a (omega arith) (omega arith))
    ∙ ap (λ (o : Option ℕ). cond (g a) (Some a) o) (find_alike_range f g (a + 1) n (λ k low high. same k (omega (arith, low)) (omega (arith, high))))

-- ---- the same, as loops have them
pub found_item : (n : ℕ) (es : List (ℕ × OpenSlab)) (i : ℕ) (x : ℕ × OpenSlab) → i < length es → at n (slabs_in (take i es)) ≡ None → x ≡ get_or es i x → x.0 ≡ n → at n (slabs_in es) ≡ Some (slab_in x.1)
found_item n es i x lt none is e =
    found_at n es i x lt none (same_eq (get_or es i x).0 n (ap (λ (y : ℕ × OpenSlab). y.0) (sym is) ∙ e))
    ∙ ap (λ (y : ℕ × OpenSlab). Some (slab_in y.1)) (sym is)

pub passed_item : (n : ℕ) (es : List (ℕ × OpenSlab)) (i : ℕ) (x : ℕ × OpenSlab) → i < length es → at n (slabs_in (take i es)) ≡ None → x ≡ get_or es i x → x.0 ≢ n → at n (slabs_in (take (i + 1) es)) ≡ None
passed_item n es i x lt none is ne =
    let more : i + 1 ≡ suc i = omega arith in
    ap (λ (k : ℕ). at n (slabs_in (take k es))) more
    ∙ passed_at n es i x lt none (other_eq (get_or es i x).0 n (λ e. ne (ap (λ (y : ℕ × OpenSlab). y.0) is ∙ e)))

pub same_default : {A : Type 0} (xs : List A) (i : ℕ) (d e : A) → i < length xs → get_or xs i d ≡ get_or xs i e
same_default [] i d e lt = absurd (omega arith)
same_default (x ∷ xs) zero d e lt = refl
same_default (x ∷ xs) (suc i) d e lt = same_default xs i d e (omega (arith, lt))

pub find_below : (f : ℕ → Bool) (a n limit : ℕ) (o : Option ℕ) → o ≡ find f (range_with_len a n) → a + n ≤ limit → IfSome o (λ i. i < limit)
find_below f a zero limit o is le = subst (λ (x : Option ℕ). IfSome x (λ i. i < limit)) (sym is) tt
find_below f a (suc n) limit o is le =
    elim (f a) as (λ b. o ≡ cond b (Some a) (find f (range_with_len (a + 1) n)) → IfSome o (λ i. i < limit)) [
      | true ↦ λ h. subst (λ (x : Option ℕ). IfSome x (λ i. i < limit)) (sym h) (omega (arith, le))
      | false ↦ λ h. find_below f (a + 1) n limit o h (omega (arith, le))
    ] is

-- a list without a slab
pub slabs_removed : (n : ℕ) (es : List (ℕ × OpenSlab)) → slabs_in (filter (λ e. not (e.0 == n)) es) ≡ removed n (slabs_in es)
slabs_removed n [] = refl
slabs_removed n (x ∷ es) =
    elim (x.0 == n) as (λ b. slabs_in (cond (not b) (x ∷ filter (λ e. not (e.0 == n)) es) (filter (λ e. not (e.0 == n)) es)) ≡ cond (not b) ((x.0, slab_in x.1) ∷ removed n (slabs_in es)) (removed n (slabs_in es))) [
      | true ↦ slabs_removed n es
      | false ↦ ap (λ (l : List (ℕ × Slab)). (x.0, slab_in x.1) ∷ l) (slabs_removed n es)
    ]
