-- Bytes that are compared eight at once, and texts with zeros behind them.
use Rattle.std.proofs.Common.{◌≡◌, ℕ, zero, suc, ◌+◌, ◌-◌, ◌*◌, ◌<◌, ◌≤◌, List, [], ◌∷◌, ◌++◌, length, get_or, take, drop, replicate, Ordering, Less, Equal, Greater, refl, sym, ap, ◌∙◌, subst, arith}
use Rattle.std.specs.Cmp.Lexicographic.{slice_cmp}
use Rattle.std.specs.Ordering.{nat_cmp, ordering_then, MatchOrdering}
use Rattle.std.specs.Slice.Scan.{big_endian}
use Rattle.std.proofs.lemmas.Cmp.{ranked}
use Rattle.std.proofs.Math.Seq.{drop-cons}
use Rattle.std.proofs.lemmas.List.{length-append, length-take, length-replicate, length-drop, get_or-drop, drop-drop}

-- ---- how two numbers compare
abbrev Ranks : ℕ → ℕ → Ordering → Type 0
Ranks x y r = MatchOrdering r (x < y) (x ≡ y) (y < x)

pub ranks : (x y : ℕ) → Ranks x y (nat_cmp x y)
ranks x y = ranked x y (nat_cmp x y) refl

is_less : (x y : ℕ) (r : Ordering) → Ranks x y r → x < y → r ≡ Less
is_less x y Less h l = refl
is_less x y Equal h l = let e : x ≡ y = h in absurd (omega arith)
is_less x y Greater h l = let e : y < x = h in absurd (omega arith)

is_equal : (x y : ℕ) (r : Ordering) → Ranks x y r → x ≡ y → r ≡ Equal
is_equal x y Less h l = let e : x < y = h in absurd (omega arith)
is_equal x y Equal h l = refl
is_equal x y Greater h l = let e : y < x = h in absurd (omega arith)

is_greater : (x y : ℕ) (r : Ordering) → Ranks x y r → y < x → r ≡ Greater
is_greater x y Less h l = let e : x < y = h in absurd (omega arith)
is_greater x y Equal h l = let e : x ≡ y = h in absurd (omega arith)
is_greater x y Greater h l = refl

below : (x y : ℕ) → x < y → nat_cmp x y ≡ Less
below x y = is_less x y _ (ranks x y)

level : (x y : ℕ) → x ≡ y → nat_cmp x y ≡ Equal
level x y = is_equal x y _ (ranks x y)

above : (x y : ℕ) → y < x → nat_cmp x y ≡ Greater
above x y = is_greater x y _ (ranks x y)

one_more : (x y : ℕ) → nat_cmp (suc x) (suc y) ≡ nat_cmp x y
one_more x y = by (nat_cmp x y) (ranks x y) refl
  where
    by : (r : Ordering) → Ranks x y r → nat_cmp x y ≡ r → nat_cmp (suc x) (suc y) ≡ nat_cmp x y
    by Less h e = let l : x < y = h in below (suc x) (suc y) (omega arith) ∙ sym e
    by Equal h e = let l : x ≡ y = h in level (suc x) (suc y) (omega arith) ∙ sym e
    by Greater h e = let l : y < x = h in above (suc x) (suc y) (omega arith) ∙ sym e

-- ---- bytes as numbers
rises : (n a b : ℕ) (us vs : List ℕ) → n ≤ length us → n ≤ length vs → ((k : ℕ) → get_or us k 0 < 256) → a < b
    → big_endian a (take n us) < big_endian b (take n vs)
rises zero a b us vs p q h l = l
rises (suc n) a b [] vs p q h l = absurd (omega arith)
rises (suc n) a b (u ∷ us) [] p q h l = absurd (omega arith)
rises (suc n) a b (u ∷ us) (v ∷ vs) p q h l =
    let small : u < 256 = h 0 in
    rises n (a * 256 + u) (b * 256 + v) us vs (omega arith) (omega arith) (λ k. h (suc k)) (omega arith)

abbrev rest : ℕ → List ℕ → List ℕ → Ordering
rest n us vs = slice_cmp nat_cmp (drop n us) (drop n vs)

abbrev word : ℕ → ℕ → List ℕ → ℕ
word n a us = big_endian a (take n us)

-- the first n bytes decide as the numbers that they spell, and where those are equal the rest decides
spelled : (n a : ℕ) (us vs : List ℕ) → n ≤ length us → n ≤ length vs → ((k : ℕ) → get_or us k 0 < 256) → ((k : ℕ) → get_or vs k 0 < 256)
    → slice_cmp nat_cmp us vs
    ≡ ordering_then (nat_cmp (big_endian a (take n us)) (big_endian a (take n vs))) (slice_cmp nat_cmp (drop n us) (drop n vs))
spelled zero a us vs p q g h = ap (λ r. ordering_then r (slice_cmp nat_cmp us vs)) (sym (level a a refl))
spelled (suc n) a [] vs p q g h = absurd (omega arith)
spelled (suc n) a (u ∷ us) [] p q g h = absurd (omega arith)
spelled (suc n) a (u ∷ us) (v ∷ vs) p q g h =
    by (nat_cmp u v) (ranks u v) refl (spelled n (a * 256 + u) us vs (omega arith) (omega arith) (λ k. g (suc k)) (λ k. h (suc k)))
  where
    by : (r : Ordering) → Ranks u v r → nat_cmp u v ≡ r
        → slice_cmp nat_cmp us vs ≡ ordering_then (nat_cmp (word n (a * 256 + u) us) (word n (a * 256 + u) vs)) (rest n us vs)
        → ordering_then (nat_cmp u v) (slice_cmp nat_cmp us vs) ≡ ordering_then (nat_cmp (word n (a * 256 + u) us) (word n (a * 256 + v) vs)) (rest n us vs)
    by Less l e step =
        let under : u < v = l in
        let t = rises n (a * 256 + u) (a * 256 + v) us vs (omega arith) (omega arith) (λ k. g (suc k)) (omega arith) in
        ap (λ r. ordering_then r (slice_cmp nat_cmp us vs)) e ∙ ap (λ r. ordering_then r (rest n us vs)) (sym (below _ _ t))
    by Greater l e step =
        let over : v < u = l in
        let t = rises n (a * 256 + v) (a * 256 + u) vs us (omega arith) (omega arith) (λ k. h (suc k)) (omega arith) in
        ap (λ r. ordering_then r (slice_cmp nat_cmp us vs)) e ∙ ap (λ r. ordering_then r (rest n us vs)) (sym (above _ _ t))
    by Equal l e step =
        let same : u ≡ v = l in
        ap (λ r. ordering_then r (slice_cmp nat_cmp us vs)) e
        ∙ step
        ∙ ap (λ z. ordering_then (nat_cmp (word n (a * 256 + u) us) (word n (a * 256 + z) vs)) (rest n us vs)) same

-- the same from a place on
pub from_place : (at : ℕ) (xs ys : List ℕ) → at + 8 ≤ length xs → at + 8 ≤ length ys → ((k : ℕ) → get_or xs k 0 < 256) → ((k : ℕ) → get_or ys k 0 < 256)
    → slice_cmp nat_cmp (drop at xs) (drop at ys)
    ≡ ordering_then (nat_cmp (big_endian 0 (take 8 (drop at xs))) (big_endian 0 (take 8 (drop at ys)))) (slice_cmp nat_cmp (drop (at + 8) xs) (drop (at + 8) ys))
from_place at xs ys p q g h =
    spelled 8 0 (drop at xs) (drop at ys) (omega (arith, length-drop at xs)) (omega (arith, length-drop at ys))
    (λ k. subst (λ b. b < 256) (sym (get_or-drop at xs k 0)) (g (at + k)))
    (λ k. subst (λ b. b < 256) (sym (get_or-drop at ys k 0)) (h (at + k)))
    ∙ ap (ordering_then _) (λ i. slice_cmp nat_cmp (drop-drop 8 at xs i) (drop-drop 8 at ys i))

-- where the words differ they decide
pub decided : (x y : ℕ) (o : Ordering) → (x ≡ y → ⊥) → ordering_then (nat_cmp x y) o ≡ nat_cmp x y
decided x y o n = by (nat_cmp x y) (ranks x y)
  where
    by : (r : Ordering) → Ranks x y r → ordering_then r o ≡ r
    by Less h = refl
    by Equal h = absurd (n h)
    by Greater h = refl

-- where they are equal the rest does
pub left_over : (x y : ℕ) (o : Ordering) → x ≡ y → ordering_then (nat_cmp x y) o ≡ o
left_over x y o e = ap (λ r. ordering_then r o) (level x y e)

-- ---- zeros behind a text
zeros_least : (n : ℕ) (zs : List ℕ) → n ≡ length zs → ordering_then (slice_cmp nat_cmp (replicate n 0) zs) Less ≡ Less
zeros_least zero [] e = refl
zeros_least zero (z ∷ zs) e = absurd (omega arith)
zeros_least (suc n) [] e = absurd (omega arith)
zeros_least (suc n) (z ∷ zs) e = by (zeros_least n zs (omega arith)) (nat_cmp 0 z) (ranks 0 z)
  where
    by : ordering_then (slice_cmp nat_cmp (replicate n 0) zs) Less ≡ Less → (r : Ordering) → Ranks 0 z r → ordering_then (ordering_then r (slice_cmp nat_cmp (replicate n 0) zs)) Less ≡ Less
    by rest Less h = refl
    by rest Equal h = rest
    by rest Greater h = let l : z < 0 = h in absurd (omega arith)

least_zeros : (n : ℕ) (zs : List ℕ) → n ≡ length zs → ordering_then (slice_cmp nat_cmp zs (replicate n 0)) Greater ≡ Greater
least_zeros zero [] e = refl
least_zeros zero (z ∷ zs) e = absurd (omega arith)
least_zeros (suc n) [] e = absurd (omega arith)
least_zeros (suc n) (z ∷ zs) e = by (least_zeros n zs (omega arith)) (nat_cmp z 0) (ranks z 0)
  where
    by : ordering_then (slice_cmp nat_cmp zs (replicate n 0)) Greater ≡ Greater → (r : Ordering) → Ranks z 0 r → ordering_then (ordering_then r (slice_cmp nat_cmp zs (replicate n 0))) Greater ≡ Greater
    by rest Greater h = refl
    by rest Equal h = rest
    by rest Less h = let l : z < 0 = h in absurd (omega arith)

same_zeros : (n : ℕ) → slice_cmp nat_cmp (replicate n 0) (replicate n 0) ≡ Equal
same_zeros zero = refl
same_zeros (suc n) = ap (λ r. ordering_then r (slice_cmp nat_cmp (replicate n 0) (replicate n 0))) (level 0 0 refl) ∙ same_zeros n

padded_length : (zs : List ℕ) (k : ℕ) → length (zs ++ replicate k 0) ≡ length zs + k
padded_length zs k = omega (arith, length-append zs (replicate k 0), length-replicate {A = ℕ} k 0)

abbrev padded : List ℕ → List ℕ → ℕ → ℕ → Ordering
padded xs ys m n = slice_cmp nat_cmp (xs ++ replicate m 0) (ys ++ replicate n 0)

-- two texts, each with zeros behind it to one length, compare as the texts do; where they are equal the lengths decide
pub by_padded : (xs ys : List ℕ) (m n : ℕ) → length xs + m ≡ length ys + n
    → ordering_then (slice_cmp nat_cmp (xs ++ replicate m 0) (ys ++ replicate n 0)) (nat_cmp (length xs) (length ys))
    ≡ slice_cmp nat_cmp xs ys
by_padded [] [] m n e =
    let same : m ≡ n = omega arith in
    ap (λ k. ordering_then (slice_cmp nat_cmp (replicate m 0) (replicate k 0)) (nat_cmp 0 0)) (sym same)
    ∙ ap (λ r. ordering_then r (nat_cmp 0 0)) (same_zeros m)
    ∙ level 0 0 refl
by_padded [] (y ∷ ys) m n e =
    ap (λ r. ordering_then (slice_cmp nat_cmp (replicate m 0) (y ∷ ys ++ replicate n 0)) r) (below 0 (suc (length ys)) (omega arith))
    ∙ zeros_least m (y ∷ ys ++ replicate n 0) (omega (arith, e, padded_length (y ∷ ys) n))
by_padded (x ∷ xs) [] m n e =
    ap (λ r. ordering_then (slice_cmp nat_cmp (x ∷ xs ++ replicate m 0) (replicate n 0)) r) (above (suc (length xs)) 0 (omega arith))
    ∙ least_zeros n (x ∷ xs ++ replicate m 0) (omega (arith, e, padded_length (x ∷ xs) m))
by_padded (x ∷ xs) (y ∷ ys) m n e =
    by (nat_cmp x y) ∙ ap (ordering_then (nat_cmp x y)) (by_padded xs ys m n (omega arith))
  where
    by : (r : Ordering) → ordering_then (ordering_then r (padded xs ys m n)) (nat_cmp (suc (length xs)) (suc (length ys)))
        ≡ ordering_then r (ordering_then (padded xs ys m n) (nat_cmp (length xs) (length ys)))
    by Less = refl
    by Equal = ap (ordering_then (padded xs ys m n)) (one_more (length xs) (length ys))
    by Greater = refl

-- ---- eight bytes as they are read
abbrev reads : List ℕ → ℕ → ℕ → ℕ → List ℕ
reads xs i k zero = []
reads xs i k (suc n) = get_or xs (i + k) 0 ∷ reads xs i (suc k) n

read_out : (n : ℕ) (xs : List ℕ) (i k : ℕ) → i + k + n ≤ length xs → take n (drop (i + k) xs) ≡ reads xs i k n
read_out zero xs i k le = refl
read_out (suc n) xs i k le =
    let next : suc (i + k) ≡ i + suc k = omega arith in
    ap (take (suc n)) (drop-cons xs (i + k) 0 (omega arith))
    ∙ ap (λ l. get_or xs (i + k) 0 ∷ l) (ap (λ m. take n (drop m xs)) next ∙ read_out n xs i (suc k) (omega arith))

pub eight_are : (xs : List ℕ) (i : ℕ) → i + 8 ≤ length xs
    → get_or xs i 0 * 72057594037927936 + get_or xs (i + 1) 0 * 281474976710656 + get_or xs (i + 2) 0 * 1099511627776 + get_or xs (i + 3) 0 * 4294967296
    + get_or xs (i + 4) 0 * 16777216 + get_or xs (i + 5) 0 * 65536 + get_or xs (i + 6) 0 * 256 + get_or xs (i + 7) 0
    ≡ big_endian 0 (take 8 (drop i xs))
eight_are xs i le =
    let here : get_or xs (i + 0) 0 ≡ get_or xs i 0 = ap (λ k. get_or xs k 0) (omega arith) in
    let at : i ≡ i + 0 = omega arith in
    let all : take 8 (drop i xs) ≡ reads xs i 0 8 = ap (λ m. take 8 (drop m xs)) at ∙ read_out 8 xs i 0 (omega arith) in
    omega (arith, here) ∙ sym (ap (big_endian 0) all)

-- nothing is left past the end
pub ended : (n : ℕ) (xs ys : List ℕ) → n ≡ length xs → n ≡ length ys → slice_cmp nat_cmp (drop n xs) (drop n ys) ≡ Equal
ended zero [] [] p q = refl
ended zero [] (y ∷ ys) p q = absurd (omega arith)
ended zero (x ∷ xs) ys p q = absurd (omega arith)
ended (suc n) [] ys p q = absurd (omega arith)
ended (suc n) (x ∷ xs) [] p q = absurd (omega arith)
ended (suc n) (x ∷ xs) (y ∷ ys) p q = ended n xs ys (omega arith) (omega arith)

taken : (n : ℕ) (xs : List ℕ) → n ≤ length xs → length (take n xs) ≡ n
taken n xs le = omega (arith, length-take n xs)

-- two texts, each in 32 bytes with zeros behind it, by all of their bytes and then by their lengths
pub by_all : (bs cs : List ℕ) (m n : ℕ) → m ≤ 32 → n ≤ 32 → length bs ≡ 32 → length cs ≡ 32
    → bs ≡ take m bs ++ replicate (32 - m) 0 → cs ≡ take n cs ++ replicate (32 - n) 0
    → ordering_then (slice_cmp nat_cmp bs cs) (nat_cmp m n) ≡ slice_cmp nat_cmp (take m bs) (take n cs)
by_all bs cs m n within within' long long' zeros zeros' =
    let have : length (take m bs) ≡ m = taken m bs (omega arith) in
    let have' : length (take n cs) ≡ n = taken n cs (omega arith) in
    (λ i. ordering_then (slice_cmp nat_cmp (zeros i) (zeros' i)) (nat_cmp (sym have i) (sym have' i)))
    ∙ by_padded (take m bs) (take n cs) (32 - m) (32 - n) (omega arith)

-- what the words tell, if they are not equal
pub by_words : (r o : Ordering) → (r ≡ Equal → ⊥) → ordering_then r o ≡ r
by_words Less o n = refl
by_words Equal o n = absurd (n refl)
by_words Greater o n = refl
