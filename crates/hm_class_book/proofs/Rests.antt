-- The bytes of a slab from an address on.
use Rattle.std.proofs.Common.{◌≡◌, ⊎_elim, ℕ, zero, suc, ◌+◌, ◌-◌, ◌<◌, ◌≤◌, Bool, true, List, [], ◌∷◌, ◌++◌, length, take, drop, slice_get, Option, Some, None, is_some, unwrap_or, sym, ◌∙◌, ap, refl, arith}
use Rattle.std.specs.Option.{option_and_then, option_map_or}
use Rattle.std.proofs.lemmas.Bool.{cases_lt}
use Rattle.std.proofs.lemmas.List.{length-take}
use Rattle.std.proofs.lemmas.Option.{slice_get_past}
use Rattle.hm_model.specs.Maps.{at}
use Rattle.hm_model.specs.Ranges.{bytes_read}
use Rattle.hm_sizes.specs.declared.shape.Shape.{Shape}
use Rattle.hm_sizes.specs.Shapes.{slab_at}
use Rattle.hm_class_rules.specs.State.{State, Slab}
use Rattle.hm_class_rules.specs.Bytes.{byte_at}
use Rattle.hm_class_rules.proofs.Zeroed.{byte_of, get_take, get_drop}

pub get_some : (bs : List ℕ) (k : ℕ) → k < length bs → is_some (slice_get bs k) ≡ true
get_some [] k lt = absurd (omega arith)
get_some (b ∷ bs) zero lt = refl
get_some (b ∷ bs) (suc k) lt = get_some bs k (omega (arith, lt))

abbrev pub slab_bytes : State → ℕ → List ℕ
slab_bytes s n = option_map_or (λ (b : Slab). b.bytes) (at n s.opens) []

slab_byte : (p : Shape) (s : State) (n r a k : ℕ) → a ≡ slab_at p n + r → r + k < p.slab → byte_at p s (a + k) ≡ slice_get (drop r (slab_bytes s n)) k
slab_byte p s n r a k is lt =
    byte_of p s n (r + k) (a + k) (omega (arith, is)) lt
    ∙ held (at n s.opens)
    ∙ sym (get_drop r k (slab_bytes s n))
  where
    held : (o : Option Slab) → option_and_then (λ (b : Slab). slice_get b.bytes (r + k)) o ≡ slice_get (option_map_or (λ (b : Slab). b.bytes) o []) (r + k)
    held None = refl
    held (Some b) = refl

-- a piece of what the slab at n has from offset r on
module _ (p : Shape) (s : State) (n r a : ℕ) (piece : List ℕ) (is : a ≡ slab_at p n + r) where
  pub piece_byte : (k : ℕ) → piece ≡ take (length piece) (drop r (slab_bytes s n)) → length piece ≤ p.slab - r → k < length piece → byte_at p s (a + k) ≡ slice_get piece k
  piece_byte k value most lt =
      slab_byte p s n r a k is (omega (arith, most, lt))
      ∙ sym (get_take (length piece) k (drop r (slab_bytes s n)) lt)
      ∙ ap (λ (xs : List ℕ). slice_get xs k) (sym value)

  pub piece_none : r < p.slab → (r < length (slab_bytes s n) → 0 < length piece) → length piece ≡ 0 → byte_at p s a ≡ None
  piece_none below some none =
      let past : length (slab_bytes s n) ≤ r = ⊎_elim (λ lt. absurd (omega (arith, some lt, none))) (λ ge. ge) (cases_lt r (length (slab_bytes s n))) in
      let here : a ≡ a + 0 = omega arith in
      ap (λ (q : ℕ). byte_at p s q) here
      ∙ slab_byte p s n r a 0 is (omega (arith, below))
      ∙ get_drop r 0 (slab_bytes s n)
      ∙ slice_get_past (slab_bytes s n) (r + 0) (omega (arith, past))

-- one slab more
pub all_on : (test : ℕ → Bool) (a q next left : ℕ) → next ≤ q + left → ((k : ℕ) → a ≤ k → k < q → test k ≡ true) → ((k : ℕ) → k < left → test (q + k) ≡ true)
    → (k : ℕ) → a ≤ k → k < next → test k ≡ true
all_on test a q next left le before here k low high =
    ⊎_elim
    (λ less. before k low less)
    (λ ge. let same : q + (k - q) ≡ k = omega (arith, ge) in sym (ap test same) ∙ here (k - q) (omega (arith, ge, high, le)))
    (cases_lt k q)

-- ---- reading slab by slab
pub reads_all : (byte : ℕ → Option ℕ) (a : ℕ) (bs : List ℕ) → ((k : ℕ) → k < length bs → byte (a + k) ≡ slice_get bs k) → bytes_read byte a (length bs) ≡ bs
reads_all byte a [] each = refl
reads_all byte a (b ∷ bs) each =
    let here : byte a ≡ Some b = ap byte (omega arith) ∙ each 0 (omega arith) in
    ap (λ (o : Option ℕ). unwrap_or o 0 ∷ bytes_read byte (a + 1) (length bs)) here
    ∙ ap (λ (l : List ℕ). b ∷ l) (reads_all byte (a + 1) bs (λ k lt. ap byte (omega arith) ∙ each (suc k) (omega (arith, lt))))

-- so many bytes of those from an address on
pub reads_front : (byte : ℕ → Option ℕ) (a most : ℕ) (bs : List ℕ) → ((k : ℕ) → k < length bs → byte (a + k) ≡ slice_get bs k)
    → bytes_read byte a (length (take most bs)) ≡ take most bs
reads_front byte a most bs each = reads_all byte a (take most bs) (λ k lt.
    each k (omega (arith, lt, length-take most bs)) ∙ sym (get_take most k bs (omega (arith, lt, length-take most bs))))

reads_more : (byte : ℕ → Option ℕ) (a n m : ℕ) → bytes_read byte a n ++ bytes_read byte (a + n) m ≡ bytes_read byte a (n + m)
reads_more byte a zero m =
    let same : a + 0 ≡ a = omega arith in
    let all : m ≡ 0 + m = omega arith in
    ap (λ (q : ℕ). bytes_read byte q m) same ∙ ap (λ (k : ℕ). bytes_read byte a k) all
reads_more byte a (suc n) m =
    let next : a + suc n ≡ a + 1 + n = omega arith in
    let all : suc (n + m) ≡ suc n + m = omega arith in
    ap (λ (q : ℕ). unwrap_or (byte a) 0 ∷ (bytes_read byte (a + 1) n ++ bytes_read byte q m)) next
    ∙ ap (λ (l : List ℕ). unwrap_or (byte a) 0 ∷ l) (reads_more byte (a + 1) n m)
    ∙ ap (λ (k : ℕ). bytes_read byte a k) all

pub reads_on : (byte : ℕ → Option ℕ) (a q n : ℕ) (bs : List ℕ) → a ≤ q → bs ≡ bytes_read byte a (q - a) → bs ++ bytes_read byte q n ≡ bytes_read byte a (q + n - a)
reads_on byte a q n bs le is =
    let here : q ≡ a + (q - a) = omega (arith, le) in
    let all : q - a + n ≡ q + n - a = omega (arith, le) in
    ap (λ (l : List ℕ). l ++ bytes_read byte q n) is
    ∙ ap (λ (x : ℕ). bytes_read byte a (q - a) ++ bytes_read byte x n) here
    ∙ reads_more byte a (q - a) n ∙ ap (λ (k : ℕ). bytes_read byte a k) all
