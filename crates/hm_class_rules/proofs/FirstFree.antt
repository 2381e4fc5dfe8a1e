-- The first available place of a slab.
use Rattle.std.proofs.Common.{◌≡◌, ◌⊎◌, inl, inr, ⊎_elim, ℕ, zero, suc, ◌+◌, ◌-◌, ◌<◌, ◌≤◌, Bool, true, false, cond, ◌||◌, List, [], ◌∷◌, ◌++◌, find, Option, Some, None, is_some, sym, ◌∙◌, ap, refl, arith}
use Rattle.std.specs.Prelude.{option_map}
use Rattle.std.specs.List.{list_any, range_with_len}
use Rattle.std.proofs.lemmas.Bool.{cases_eq, cases_lt}
use Rattle.std.proofs.lemmas.List.{append-nil}
use Rattle.hm_sizes.specs.Shapes.{place}
use Rattle.hm_class_rules.specs.State.{is_free}
use Rattle.hm_class_rules.specs.DrawnLaws.{FindsFirst, FindsSome}

-- the first of a range that passes a test
find_from : (f : ℕ → Bool) (a n j : ℕ) (rest : List ℕ) → a ≤ j → j < a + n → f j ≡ true → ((k : ℕ) → a ≤ k → k < j → f k ≡ false) → find f (range_with_len a n ++ rest) ≡ Some j
find_from f a zero j rest ge lt is none = absurd (omega arith)
find_from f a (suc n) j rest ge lt is none =
    ⊎_elim
    (λ e. ap (λ b. cond b (Some a) (find f (range_with_len (a + 1) n ++ rest))) (ap f e ∙ is) ∙ ap (λ (k : ℕ). Some k) e)
    (λ ne. ap (λ b. cond b (Some a) (find f (range_with_len (a + 1) n ++ rest))) (none a (omega arith) (omega arith)) ∙ find_from f (a + 1) n j rest (omega arith) (omega arith) is (λ k low high. none k (omega arith) high))
    (cases_eq a j)

-- a range of which none passes
find_past : (f : ℕ → Bool) (a n : ℕ) (rest : List ℕ) → ((k : ℕ) → a ≤ k → k < a + n → f k ≡ false) → find f (range_with_len a n ++ rest) ≡ find f rest
find_past f a zero rest none = refl
find_past f a (suc n) rest none =
    ap (λ b. cond b (Some a) (find f (range_with_len (a + 1) n ++ rest))) (none a (omega arith) (omega arith)) ∙ find_past f (a + 1) n rest (λ k low high. none k (omega arith) (omega arith))

found : (f : ℕ → Bool) (slots i j : ℕ) → i < slots → j < slots → f j ≡ true → ((k : ℕ) → k < slots → ((i ≤ k) × (k < j)) ⊎ ((j < i) × ((i ≤ k) ⊎ (k < j))) → f k ≡ false)
    → find f (range_with_len i (slots - i) ++ range_with_len 0 i) ≡ Some j
found f slots i j start slot is first =
    ⊎_elim
    (λ below. find_past f i (slots - i) (range_with_len 0 i) (λ k low high. first k (omega arith) (inr (below, inl low)))
    ∙ ap (λ (l : List ℕ). find f l) (sym (append-nil (range_with_len 0 i)))
    ∙ find_from f 0 i j [] (omega arith) (omega arith) is (λ k low high. first k (omega arith) (inr (below, inr high))))
    (λ ge. find_from f i (slots - i) j (range_with_len 0 i) ge (omega arith) is (λ k low high. first k (omega arith) (inl (low, high))))
    (cases_lt j i)

pub finds_first : FindsFirst
finds_first p s n i j start is = ap (λ (o : Option ℕ). option_map (place p n) o) (found (is_free p s n) p.slots i j start is.slot is.free is.first)

-- ---- there is one
find_some : (f : ℕ → Bool) (xs : List ℕ) → is_some (find f xs) ≡ list_any f xs
find_some f [] = refl
find_some f (x ∷ xs) = elim (f x) as (λ b. is_some (cond b (Some x) (find f xs)) ≡ (b || list_any f xs)) [ true ↦ refl | false ↦ find_some f xs ]

map_some : (g : ℕ → ℕ) (o : Option ℕ) → is_some (option_map g o) ≡ is_some o
map_some g None = refl
map_some g (Some x) = refl

any_append : (f : ℕ → Bool) (xs ys : List ℕ) → list_any f (xs ++ ys) ≡ (list_any f xs || list_any f ys)
any_append f [] ys = refl
any_append f (x ∷ xs) ys = elim (f x) as (λ b. (b || list_any f (xs ++ ys)) ≡ ((b || list_any f xs) || list_any f ys)) [ true ↦ refl | false ↦ any_append f xs ys ]

either_way : (b c : Bool) → (b || c) ≡ (c || b)
either_way true true = refl
either_way true false = refl
either_way false true = refl
either_way false false = refl

-- a range in two parts
range_parts : (a m n l : ℕ) → l ≡ m + n → range_with_len a l ≡ range_with_len a m ++ range_with_len (a + m) n
range_parts a zero n l e = ap (λ (k : ℕ). range_with_len a k) (omega arith) ∙ ap (λ (k : ℕ). range_with_len k n) (omega arith)
range_parts a (suc m) n zero e = absurd (omega arith)
range_parts a (suc m) n (suc l) e =
    ap (λ (xs : List ℕ). a ∷ xs) (range_parts (a + 1) m n l (omega arith) ∙ ap (λ (k : ℕ). range_with_len (a + 1) m ++ range_with_len k n) (omega arith))

pub finds_some : FindsSome
finds_some p s n i start =
    let f : ℕ → Bool = is_free p s n in
    map_some (place p n) (find f (range_with_len i (p.slots - i) ++ range_with_len 0 i))
    ∙ find_some f (range_with_len i (p.slots - i) ++ range_with_len 0 i)
    ∙ any_append f (range_with_len i (p.slots - i)) (range_with_len 0 i)
    ∙ either_way (list_any f (range_with_len i (p.slots - i))) (list_any f (range_with_len 0 i))
    ∙ sym (any_append f (range_with_len 0 i) (range_with_len i (p.slots - i)))
    ∙ ap (λ (k : ℕ). list_any f (range_with_len 0 i ++ range_with_len k (p.slots - i))) (omega arith)
    ∙ ap (λ (l : List ℕ). list_any f l) (sym (range_parts 0 i (p.slots - i) p.slots (omega arith)))
