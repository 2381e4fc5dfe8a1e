-- Each number below n is drawn by floor(2 ^ 32 / n) words or one more.
use Rattle.std.proofs.Common.{◌≡◌, ◌⊎◌, inl, inr, ⊎_elim, ℕ, ◌+◌, ◌-◌, ◌*◌, ◌/◌, ◌%◌, ◌^◌, ◌<◌, ◌≤◌, Some, sym, ◌∙◌, ap, arith}
use Rattle.std.specs.Prelude.{◌↔◌}
use Rattle.std.proofs.lemmas.Bool.{cases_lt}
use Rattle.std.proofs.lemmas.Nat.{div-add-mod'}
use Rattle.std.proofs.Math.Nat.{mod-lt, mul-le-mul_right, le-div_iff_mul-le}
use Rattle.hm_choice.specs.Stream.{drawn}
use Rattle.hm_large_rules.specs.Draws.{most_guard}
use Rattle.hm_sizes.specs.Shapes.{place}
use Rattle.hm_class_rules.specs.Drawn.{first_free}
use Rattle.hm_class_rules.proofs.FirstFree.{finds_first}
use Rattle.hm_guarantees.specs.EvenDraws.{AreInARow, AreMany, DrawsAreEven, EverySlotCanCome, QuarantinePlacesAreEven, BlockPlacesAreEven, GuardsAreEven}

-- ---- quotients
div_is : (m y v : ℕ) → 1 ≤ m → v * m ≤ y → y < (v + 1) * m → y / m ≡ v
div_is m y v some low high =
    let at_least : v ≤ y / m = (le-div_iff_mul-le {k = m} {x = v} {y = y} some).1 low in
    ⊎_elim (λ lt. omega (arith, at_least, lt)) (λ ge. absurd (let more : (v + 1) * m ≤ y = (le-div_iff_mul-le {k = m} {x = v + 1} {y = y} some).0 ge in omega (arith, more, high))) (cases_lt (y / m) (v + 1))

div_low : (m y v : ℕ) → 1 ≤ m → y / m ≡ v → v * m ≤ y
div_low m y v some is = (le-div_iff_mul-le {k = m} {x = v} {y = y} some).0 (omega (arith, is))

div_high : (m y v : ℕ) → 1 ≤ m → y / m ≡ v → y < (v + 1) * m
div_high m y v some is =
    ⊎_elim (λ lt. lt) (λ ge. absurd (let more : v + 1 ≤ y / m = (le-div_iff_mul-le {k = m} {x = v + 1} {y = y} some).1 ge in omega (arith, more, is))) (cases_lt y ((v + 1) * m))

more_times : (a n : ℕ) → (a + 1) * n ≡ a * n + n
more_times a n = omega arith

both_times : (a b n : ℕ) → (a + b) * n ≡ a * n + b * n
both_times a b n = omega arith

-- ---- the least u whose n-fold is x or more
record IsCeiling (n x u : ℕ) : Type 0 where
  over : ℕ
  is : x + n ≡ u * n + (over + 1)
  less : over < n

-- an n-fold is x or more from there on
ceiling_from : (n x u w : ℕ) → IsCeiling n x u → u ≤ w → x ≤ w * n
ceiling_from n x u w c le = let times : u * n ≤ w * n = mul-le-mul_right n le in omega (arith, times, c.is, c.less)

ceiling_below : (n x u w : ℕ) → IsCeiling n x u → w < u → w * n < x
ceiling_below n x u w c lt =
    let le : w + 1 ≤ u = omega (arith, lt) in
    let times : (w + 1) * n ≤ u * n = mul-le-mul_right n le in
    omega (arith, times, more_times w n, c.is)

ceiling : (n x : ℕ) → 1 ≤ n → (u : ℕ) × IsCeiling n x u
ceiling n x some =
    let top : ℕ = x + (n - 1) in
    (top / n, record { over = top % n; is = omega (arith, div-add-mod' top n, some); less = mod-lt top some })

-- from x to x + m, with n-folds of q and a rest
ceiling_more : (n x u m q r : ℕ) → IsCeiling n x u → m ≡ q * n + r → r < n → IsCeiling n (x + m) (u + q) ⊎ IsCeiling n (x + m) (u + (q + 1))
ceiling_more n x u m q r c is rest =
    ⊎_elim
    (λ lt. inl (record { over = c.over + r; is = omega (arith, c.is, is, both_times u q n); less = lt }))
    (λ ge. inr (record { over = c.over + r - n; is = omega (arith, c.is, is, both_times u (q + 1) n, more_times q n, ge); less = omega (arith, c.less, rest, ge) }))
    (cases_lt (c.over + r) n)

-- ---- a row of words
record IsRow (m n v u count : ℕ) : Type 0 where
  within : u + count ≤ m
  words : (w : ℕ) → (w * n / m ≡ v) ↔ (u ≤ w) × (w < u + count)

row : (m n v u count : ℕ) → 1 ≤ m → v < n → IsCeiling n (v * m) u → IsCeiling n (v * m + m) (u + count) → IsRow m n v u count
row m n v u count some lt low high = record {
  within = ⊎_elim (λ past. absurd (too_many (ceiling_below n (v * m + m) (u + count) m high past))) (λ le. le) (cases_lt m (u + count));
  words = λ w. (λ is. (from_there w is, up_to w is), λ in_row. drawn_there w in_row.0 in_row.1);
}
  where
    too_many : m * n < v * m + m → ⊥
    too_many past =
        let le : v + 1 ≤ n = omega (arith, lt) in
        let times : (v + 1) * m ≤ n * m = mul-le-mul_right m le in
        let turned : n * m ≡ m * n = omega arith in
        omega (arith, times, more_times v m, turned, past)

    from_there : (w : ℕ) → w * n / m ≡ v → u ≤ w
    from_there w is = ⊎_elim (λ before. absurd (omega (arith, ceiling_below n (v * m) u w low before, div_low m (w * n) v some is))) (λ le. le) (cases_lt w u)

    up_to : (w : ℕ) → w * n / m ≡ v → w < u + count
    up_to w is = ⊎_elim (λ before. before) (λ le. absurd (omega (arith, ceiling_from n (v * m + m) (u + count) w high le, div_high m (w * n) v some is, more_times v m))) (cases_lt w (u + count))

    drawn_there : (w : ℕ) → u ≤ w → w < u + count → w * n / m ≡ v
    drawn_there w ge before =
        div_is m (w * n) v some (ceiling_from n (v * m) u w low ge) (let below = ceiling_below n (v * m + m) (u + count) w high before in omega (arith, below, more_times v m))

rows : (m n v : ℕ) → 1 ≤ m → v < n → ((u : ℕ) × IsRow m n v u (m / n)) ⊎ ((u : ℕ) × IsRow m n v u (m / n + 1))
rows m n v some lt =
    let first = ceiling n (v * m) (omega (arith, lt)) in
    ⊎_elim
    (λ c. inl (first.0, row m n v first.0 (m / n) some lt first.1 c))
    (λ c. inr (first.0, row m n v first.0 (m / n + 1) some lt first.1 c))
    (ceiling_more n (v * m) first.0 m (m / n) (m % n) first.1 (sym (div-add-mod' m n)) (mod-lt m (omega (arith, lt))))

-- ---- the laws
pub draws_are_even : DrawsAreEven
draws_are_even n value lt =
    ⊎_elim
    (λ r. inl (record { first = r.0; within = r.1.within; words = r.1.words }))
    (λ r. inr (record { first = r.0; within = r.1.within; words = r.1.words }))
    (rows (2 ^ 32) n value (omega arith) lt)

pub every_slot_can_come : EverySlotCanCome
every_slot_can_come p s n i lt free = ⊎_elim (λ r. many (2 ^ 32 / p.slots) (omega arith) r) (λ r. many (2 ^ 32 / p.slots + 1) (omega arith) r) (draws_are_even p.slots i lt)
  where
    none : (k : ℕ) → ((i ≤ k) × (k < i)) ⊎ ((i < i) × ((i ≤ k) ⊎ (k < i))) → ⊥
    none k (inl x) = omega (arith, x.0, x.1)
    none k (inr x) = omega (arith, x.0)

    many : (count : ℕ) → 2 ^ 32 / p.slots ≤ count → AreInARow (λ word. drawn p.slots word ≡ i) count → AreMany (λ word. first_free p s n (drawn p.slots word) ≡ Some (place p n i)) p.slots
    many count enough r = record {
      first = r.first;
      count = count;
      enough = enough;
      within = r.within;
      words = λ word ge below.
          ap (λ (j : ℕ). first_free p s n j) ((r.words word).1 (ge, below)) ∙ finds_first p s n i i lt (record { slot = lt; free = free; first = λ k under before. absurd (none k before) });
    }

pub quarantine_places_are_even : QuarantinePlacesAreEven
quarantine_places_are_even p d index lt = draws_are_even p.array index lt

pub block_places_are_even : BlockPlacesAreEven
block_places_are_even index lt = draws_are_even 256 index lt

pub guards_are_even : GuardsAreEven
guards_are_even size guard some most =
    ⊎_elim (λ r. inl (moved r)) (λ r. inr (moved r)) (draws_are_even (most_guard size) (guard - 1) (omega (arith, some, most)))
  where
    moved : {count : ℕ} → AreInARow (λ word. drawn (most_guard size) word ≡ guard - 1) count → AreInARow (λ word. 1 + drawn (most_guard size) word ≡ guard) count
    moved r = record {
      first = r.first;
      within = r.within;
      words = λ word. (λ is. (r.words word).0 (omega (arith, is, some)), λ in_row. (let is = (r.words word).1 in_row in omega (arith, is, some)));
    }
