-- The bytes of large blocks: each is of one block, and none is of a guard.
use Rattle.std.proofs.Common.{◌≡◌, ◌⊎◌, inl, inr, ⊎_elim, ℕ, zero, suc, ◌+◌, ◌-◌, ◌<◌, ◌≤◌, ◌==◌, ◌&&◌, Bool, true, false, cond, List, [], ◌∷◌, length, get_or, Option, Some, None, sym, ◌∙◌, ap, subst, refl, arith, true≢false}
use Rattle.std.specs.Prelude.{slice_get, nat_le, nat_lt}
use Rattle.std.proofs.lemmas.Bool.{cases_Bool, and_parts, and_from, and_right, le-leb, lt-ltb, leb-true, ltb-true, le-ltb}
use Rattle.std.proofs.lemmas.Bool.Decides.{nat_tests}
use Rattle.std.proofs.lemmas.Option.{none-some, same_Some}
use Rattle.hm_model.specs.Maps.{at}
use Rattle.hm_model.proofs.Lists.{same_eq, other_eq, eq_same}
use Rattle.hm_sizes.specs.declared.config.Config.{Config}
use Rattle.hm_large_rules.specs.State.{Block, Blocks, covers, covered, State}
use Rattle.hm_large_rules.specs.Bytes.{byte_at}
use Rattle.hm_large_rules.specs.Laws.{IsInSpace, AreInSpace, IsSound}
use Rattle.hm_large_rules.proofs.BlockLists.{weight, at_covered, covers_own, in_space_at}
use Rattle.hm_large_rules.proofs.Candidates.{spans_from}

-- q is one of the bytes of the entry
abbrev pub has_byte : ℕ → ℕ × Block → Bool
has_byte q e = nat_le e.0 q && nat_lt q (e.0 + length e.1.bytes)

has_from : (e : ℕ × Block) (q : ℕ) → e.0 ≤ q → q < e.0 + length e.1.bytes → has_byte q e ≡ true
has_from e q low high = and_from (nat_le e.0 q) (nat_lt q (e.0 + length e.1.bytes)) (le-leb e.0 q low) (lt-ltb q (e.0 + length e.1.bytes) high)

has_low : (e : ℕ × Block) (q : ℕ) → has_byte q e ≡ true → e.0 ≤ q
has_low e q h = leb-true e.0 q (and_parts (nat_le e.0 q) (nat_lt q (e.0 + length e.1.bytes)) h).0

has_high : (e : ℕ × Block) (q : ℕ) → has_byte q e ≡ true → q < e.0 + length e.1.bytes
has_high e q h = ltb-true q (e.0 + length e.1.bytes) (and_parts (nat_le e.0 q) (nat_lt q (e.0 + length e.1.bytes)) h).1

has_out : (e : ℕ × Block) (q : ℕ) → (q < e.0) ⊎ (e.0 + length e.1.bytes ≤ q) → has_byte q e ≡ false
has_out e q (inl before) = below e.0 (length e.1.bytes) q before
  where
    below : (a n q : ℕ) → q < a → (nat_le a q && nat_lt q (a + n)) ≡ false
    below a n q lt = grind (arith, nat_tests)
has_out e q (inr past) = and_right (nat_le e.0 q) (nat_lt q (e.0 + length e.1.bytes)) (le-ltb q (e.0 + length e.1.bytes) past)

-- what has a byte covers it
has_covers : (c : Config) (e : ℕ × Block) (q : ℕ) → IsInSpace c e → has_byte q e ≡ true → covers q e ≡ true
has_covers c e q placed h = spans_from e.0 e.1.size e.1.guard q (omega (arith, has_low e q h)) (omega (arith, has_high e q h, placed.whole))

not_covers : (c : Config) (e : ℕ × Block) (q : ℕ) → IsInSpace c e → covers q e ≡ false → has_byte q e ≡ false
not_covers c e q placed no_cover = ⊎_elim (λ h. absurd (true≢false (sym (has_covers c e q placed h) ∙ no_cover))) (λ h. h) (cases_Bool (has_byte q e))

uncovered : (c : Config) (m : Blocks) (q : ℕ) → AreInSpace c m → covered q m ≡ 0 → byte_at m q ≡ None
uncovered c [] q placed none = refl
uncovered c (y ∷ m) q placed none =
    ⊎_elim
    (λ e. absurd (omega (arith, ap weight e, none)))
    (λ e. ap (λ t. cond t (slice_get y.1.bytes (q - y.0)) (byte_at m q)) (not_covers c y q placed.0 e) ∙ uncovered c m q placed.1 (omega (arith, ap weight e, none)))
    (cases_Bool (covers q y))

-- a byte of the block at a is that which is found
pub byte_of : (c : Config) (m : Blocks) (a q : ℕ) (x : Block) → AreInSpace c m → covered q m ≤ 1 → at a m ≡ Some x → a ≤ q → q < a + x.size → byte_at m q ≡ slice_get x.bytes (q - a)
byte_of c [] a q x placed once e low high = absurd (none-some x e)
byte_of c (y ∷ m) a q x placed once e low high =
    elim (y.0 == a) as (λ t. (y.0 == a) ≡ t → cond t (Some y.1) (at a m) ≡ Some x → byte_at (y ∷ m) q ≡ slice_get x.bytes (q - a)) [
      | true ↦ λ is f. here (eq_same y.0 a is) (same_Some y.1 x f)
      | false ↦ λ is f. there f (byte_of c m a q x placed.1 (omega arith) f low high)
    ] refl e
  where
    here : y.0 ≡ a → y.1 ≡ x → byte_at (y ∷ m) q ≡ slice_get x.bytes (q - a)
    here p r =
        let whole : length y.1.bytes ≡ x.size = placed.0.whole ∙ ap (λ (b : Block). b.size) r in
        ap (λ t. cond t (slice_get y.1.bytes (q - y.0)) (byte_at m q)) (has_from y q (omega (arith, p)) (omega (arith, p, whole)))
        ∙ (ap (λ (b : Block). slice_get b.bytes (q - y.0)) r ∙ ap (λ k. slice_get x.bytes (q - k)) p)

    there : at a m ≡ Some x → byte_at m q ≡ slice_get x.bytes (q - a) → byte_at (y ∷ m) q ≡ slice_get x.bytes (q - a)
    there f rest =
        let inner = at_covered q a x m f (spans_from a x.size x.guard q (omega arith) (omega arith)) in
        ⊎_elim
        (λ e. absurd (omega (arith, ap weight e, inner, once)))
        (λ e. ap (λ t. cond t (slice_get y.1.bytes (q - y.0)) (byte_at m q)) (not_covers c y q placed.0 e) ∙ rest)
        (cases_Bool (covers q y))

-- a guard has no byte
pub byte_out : (c : Config) (m : Blocks) (a q : ℕ) (x : Block) → AreInSpace c m → covered q m ≤ 1 → at a m ≡ Some x → covers q (a, x) ≡ true → (q < a) ⊎ (a + x.size ≤ q) → byte_at m q ≡ None
byte_out c [] a q x placed once e cover out = absurd (none-some x e)
byte_out c (y ∷ m) a q x placed once e cover out =
    elim (y.0 == a) as (λ t. (y.0 == a) ≡ t → cond t (Some y.1) (at a m) ≡ Some x → byte_at (y ∷ m) q ≡ None) [
      | true ↦ λ is f. here (eq_same y.0 a is) (same_Some y.1 x f)
      | false ↦ λ is f. there f (byte_out c m a q x placed.1 (omega arith) f cover out)
    ] refl e
  where
    moved : y.0 ≡ a → length y.1.bytes ≡ x.size → (q < a) ⊎ (a + x.size ≤ q) → (q < y.0) ⊎ (y.0 + length y.1.bytes ≤ q)
    moved p whole (inl before) = inl (omega (arith, p, before))
    moved p whole (inr past) = inr (omega (arith, p, whole, past))

    here : y.0 ≡ a → y.1 ≡ x → byte_at (y ∷ m) q ≡ None
    here p r =
        let whole : length y.1.bytes ≡ x.size = placed.0.whole ∙ ap (λ (b : Block). b.size) r in
        let same : (a, x) ≡ y = λ i. (sym p i, sym r i) in
        let one : weight (covers q y) ≡ 1 = ap weight (sym (ap (covers q) same) ∙ cover) in
        ap (λ t. cond t (slice_get y.1.bytes (q - y.0)) (byte_at m q)) (has_out y q (moved p whole out)) ∙ uncovered c m q placed.1 (omega (arith, one, once))

    there : at a m ≡ Some x → byte_at m q ≡ None → byte_at (y ∷ m) q ≡ None
    there f rest =
        let inner = at_covered q a x m f cover in
        ⊎_elim
        (λ e. absurd (omega (arith, ap weight e, inner, once)))
        (λ e. ap (λ t. cond t (slice_get y.1.bytes (q - y.0)) (byte_at m q)) (not_covers c y q placed.0 e) ∙ rest)
        (cases_Bool (covers q y))

-- a byte that is found is one of a block
pub record Finds (m : Blocks) (q : ℕ) : Type 0 where
  pub a : ℕ
  pub x : Block
  pub there : at a m ≡ Some x
  pub low : a ≤ q
  pub high : q < a + x.size

pub byte_found : (c : Config) (m : Blocks) (q : ℕ) (b : ℕ) → AreInSpace c m → ((k : ℕ) → covered k m ≤ 1) → byte_at m q ≡ Some b → Finds m q
byte_found c [] q b placed once e = absurd (none-some b e)
byte_found c (y ∷ m) q b placed once e =
    elim (has_byte q y) as (λ t. has_byte q y ≡ t → cond t (slice_get y.1.bytes (q - y.0)) (byte_at m q) ≡ Some b → Finds (y ∷ m) q) [
      | true ↦ λ is f. record {
        a = y.0;
        x = y.1;
        there = ap (λ t. cond t (Some y.1) (at y.0 m)) (same_eq y.0 y.0 refl);
        low = has_low y q is;
        high = omega (arith, has_high y q is, placed.0.whole);
      }
      | false ↦ λ is f. behind (byte_found c m q b placed.1 (λ k. omega (arith, once k)) f)
    ] refl e
  where
    behind : Finds m q → Finds (y ∷ m) q
    behind f = record {
      a = f.a;
      x = f.x;
      there = ap (λ t. cond t (Some y.1) (at f.a m)) (other_eq y.0 f.a (λ same. twice f same)) ∙ f.there;
      low = f.low;
      high = f.high;
    }
      where
        twice : Finds m q → y.0 ≡ f.a → ⊥
        twice g same =
            let inner = at_covered f.a f.a f.x m f.there (covers_own c (f.a, f.x) (in_space_at c f.a f.x m placed.1 f.there)) in
            let own : covers f.a y ≡ true = subst (λ (k : ℕ). covers k y ≡ true) same (covers_own c y placed.0) in
            omega (arith, inner, ap weight own, once f.a)

-- ---- the bytes of one block
in_bytes : (bytes : List ℕ) (i : ℕ) → i < length bytes → slice_get bytes i ≡ Some (get_or bytes i 0)
in_bytes [] i lt = absurd (omega arith)
in_bytes (b ∷ bytes) zero lt = refl
in_bytes (b ∷ bytes) (suc i) lt = in_bytes bytes i (omega arith)

pub byte_there : (c : Config) (m : Blocks) (a q : ℕ) (x : Block) → AreInSpace c m → covered q m ≤ 1 → at a m ≡ Some x → a ≤ q → q < a + x.size → byte_at m q ≡ Some (get_or x.bytes (q - a) 0)
byte_there c m a q x placed once e low high = byte_of c m a q x placed once e low high ∙ in_bytes x.bytes (q - a) (omega (arith, (in_space_at c a x m placed e).whole))

-- where no block has it, there is no byte
pub no_byte : (c : Config) (s : State) (q : ℕ) → IsSound c s → (Finds s.live q → ⊥) → byte_at s.live q ≡ None
no_byte c s q sound none = by_byte (byte_at s.live q) refl
  where
    by_byte : (o : Option ℕ) → byte_at s.live q ≡ o → byte_at s.live q ≡ None
    by_byte None e = e
    by_byte (Some b) e = absurd (none (byte_found c s.live q b sound.live (λ k. omega (arith, sound.once k)) e))
