-- Which addresses are in the bytes of blocks, and the first that is not.
use Rattle.std.proofs.Common.{◌≡◌, ◌≢◌, ◌⊎◌, inl, inr, ⊎_elim, ℕ, zero, suc, ◌+◌, ◌-◌, ◌<◌, ◌≤◌, ◌==◌, ◌&&◌, Bool, true, false, cond, List, [], ◌∷◌, length, take, drop, get_or, Option, Some, None, is_some, unwrap_or, sym, ◌∙◌, ap, subst, refl, arith, true≢false, option_map}
use Rattle.std.specs.Prelude.{slice_get, nat_le, nat_lt}
use Rattle.std.specs.Option.{IsSome}
use Rattle.std.specs.FinMap as map
use Rattle.std.proofs.lemmas.Bool.{cases_lt, cases_Bool, and_parts, and_from, and_right, le-leb, lt-ltb, leb-true, ltb-true, le-ltb}
use Rattle.std.proofs.lemmas.Option.{none-some, same_Some}
use Rattle.std.proofs.lemmas.List.{drop_more}
use Rattle.hm_model.specs.Maps.{at, keys, times, removed}
use Rattle.hm_model.proofs.Lists.{same_eq, other_eq, eq_same}
use Rattle.hm_sizes.specs.declared.config.Config.{Config}
use Rattle.hm_large.specs.declared.store.Store.{Store}
use Rattle.hm_large_rules.specs.State.{Block, Blocks, covers, covered, State, AreGuarded}
use Rattle.hm_large_rules.specs.Bytes.{byte_at, first_trap, bytes_read, HeldByNone, IsLeft}
use Rattle.hm_large_rules.specs.Laws.{IsInSpace, AreInSpace, IsSound}
use Rattle.hm_large.specs.BlockTable.{live_size}
use Rattle.hm_large.specs.Kept.{kept_or, Shows}
use Rattle.hm_large_rules.proofs.BlockLists.{weight, at_covered, covers_own, in_space_at, how_many_removed, at_removed}
use Rattle.hm_large_rules.proofs.Legal.{live_once}
use Rattle.hm_large_rules.proofs.Candidates.{spans_from}

-- q is one of the bytes of the entry
abbrev pub has_byte : ℕ → ℕ × Block → Bool
has_byte q e = nat_le e.0 q && nat_lt q (e.0 + length e.1.bytes)

has_from : (e : ℕ × Block) (q : ℕ) → e.0 ≤ q → q < e.0 + length e.1.bytes → has_byte q e ≡ true
has_from e q low high = and_from (nat_le e.0 q) (nat_lt q (e.0 + length e.1.bytes)) (le-leb e.0 q low) (lt-ltb q (e.0 + length e.1.bytes) high)

has_low : (e : ℕ × Block) (q : ℕ) → has_byte q e ≡ true → e.0 ≤ q
has_low e q h = leb-true e.0 q (and_parts (nat_le e.0 q) (nat_lt q (e.0 + length e.1.bytes)) h).0

has_high : (e : ℕ × Block) (q : ℕ) → has_byte q e ≡ true → q < e.0 + length e.1.bytes
has_high e q h = ltb-true q (e.0 + length e.1.bytes) (and_parts (nat_le e.0 q) (nat_lt q (e.0 + length e.1.bytes)) h).1

has_past : (e : ℕ × Block) (q : ℕ) → e.0 + length e.1.bytes ≤ q → has_byte q e ≡ false
has_past e q past = and_right (nat_le e.0 q) (nat_lt q (e.0 + length e.1.bytes)) (le-ltb q (e.0 + length e.1.bytes) past)

-- what has a byte covers it
has_covers : (c : Config) (e : ℕ × Block) (q : ℕ) → IsInSpace c e → has_byte q e ≡ true → covers q e ≡ true
has_covers c e q placed h = spans_from e.0 e.1.size e.1.guard q (omega (arith, has_low e q h)) (omega (arith, has_high e q h, placed.whole))

not_covers : (c : Config) (e : ℕ × Block) (q : ℕ) → IsInSpace c e → covers q e ≡ false → has_byte q e ≡ false
not_covers c e q placed no_cover = ⊎_elim (λ h. absurd (true≢false (sym (has_covers c e q placed h) ∙ no_cover))) (λ h. h) (cases_Bool (has_byte q e))

uncovered : (c : Config) (m : Blocks) (q : ℕ) → AreInSpace c m → covered q m ≡ 0 → byte_at m q ≡ None
uncovered c [] q placed none = refl
uncovered c (y ∷ m) q placed none =
    ⊎_elim
    (λ e. absurd (omega (arith, ap weight e, none)))
    (λ e. ap (λ t. cond t (slice_get y.1.bytes (q - y.0)) (byte_at m q)) (not_covers c y q placed.0 e) ∙ uncovered c m q placed.1 (omega (arith, ap weight e, none)))
    (cases_Bool (covers q y))

-- a byte of the block at a is that which is found
pub byte_of : (c : Config) (m : Blocks) (a q : ℕ) (x : Block) → AreInSpace c m → covered q m ≤ 1 → at a m ≡ Some x → a ≤ q → q < a + x.size → byte_at m q ≡ slice_get x.bytes (q - a)
byte_of c [] a q x placed once e low high = absurd (none-some x e)
byte_of c (y ∷ m) a q x placed once e low high =
    elim (y.0 == a) as (λ t. (y.0 == a) ≡ t → cond t (Some y.1) (at a m) ≡ Some x → byte_at (y ∷ m) q ≡ slice_get x.bytes (q - a)) [
      | true ↦ λ is f. here (eq_same y.0 a is) (same_Some y.1 x f)
      | false ↦ λ is f. there f (byte_of c m a q x placed.1 (omega arith) f low high)
    ] refl e
  where
    here : y.0 ≡ a → y.1 ≡ x → byte_at (y ∷ m) q ≡ slice_get x.bytes (q - a)
    here p r =
        let whole : length y.1.bytes ≡ x.size = placed.0.whole ∙ ap (λ (b : Block). b.size) r in
        ap (λ t. cond t (slice_get y.1.bytes (q - y.0)) (byte_at m q)) (has_from y q (omega (arith, p)) (omega (arith, p, whole)))
        ∙ (ap (λ (b : Block). slice_get b.bytes (q - y.0)) r ∙ ap (λ k. slice_get x.bytes (q - k)) p)

    there : at a m ≡ Some x → byte_at m q ≡ slice_get x.bytes (q - a) → byte_at (y ∷ m) q ≡ slice_get x.bytes (q - a)
    there f rest =
        let inner = at_covered q a x m f (spans_from a x.size x.guard q (omega arith) (omega arith)) in
        ⊎_elim
        (λ e. absurd (omega (arith, ap weight e, inner, once)))
        (λ e. ap (λ t. cond t (slice_get y.1.bytes (q - y.0)) (byte_at m q)) (not_covers c y q placed.0 e) ∙ rest)
        (cases_Bool (covers q y))

-- a guard has no byte
pub byte_past : (c : Config) (m : Blocks) (a q : ℕ) (x : Block) → AreInSpace c m → covered q m ≤ 1 → at a m ≡ Some x → covers q (a, x) ≡ true → a + x.size ≤ q → byte_at m q ≡ None
byte_past c [] a q x placed once e cover past = absurd (none-some x e)
byte_past c (y ∷ m) a q x placed once e cover past =
    elim (y.0 == a) as (λ t. (y.0 == a) ≡ t → cond t (Some y.1) (at a m) ≡ Some x → byte_at (y ∷ m) q ≡ None) [
      | true ↦ λ is f. here (eq_same y.0 a is) (same_Some y.1 x f)
      | false ↦ λ is f. there f (byte_past c m a q x placed.1 (omega arith) f cover past)
    ] refl e
  where
    here : y.0 ≡ a → y.1 ≡ x → byte_at (y ∷ m) q ≡ None
    here p r =
        let whole : length y.1.bytes ≡ x.size = placed.0.whole ∙ ap (λ (b : Block). b.size) r in
        let same : (a, x) ≡ y = λ i. (sym p i, sym r i) in
        let one : weight (covers q y) ≡ 1 = ap weight (sym (ap (covers q) same) ∙ cover) in
        ap (λ t. cond t (slice_get y.1.bytes (q - y.0)) (byte_at m q)) (has_past y q (omega (arith, p, whole))) ∙ uncovered c m q placed.1 (omega (arith, one, once))

    there : at a m ≡ Some x → byte_at m q ≡ None → byte_at (y ∷ m) q ≡ None
    there f rest =
        let inner = at_covered q a x m f cover in
        ⊎_elim
        (λ e. absurd (omega (arith, ap weight e, inner, once)))
        (λ e. ap (λ t. cond t (slice_get y.1.bytes (q - y.0)) (byte_at m q)) (not_covers c y q placed.0 e) ∙ rest)
        (cases_Bool (covers q y))

-- a byte that is found is one of a block
pub record Finds (m : Blocks) (q : ℕ) : Type 0 where
  pub a : ℕ
  pub x : Block
  pub there : at a m ≡ Some x
  pub low : a ≤ q
  pub high : q < a + x.size

pub byte_found : (c : Config) (m : Blocks) (q : ℕ) (b : ℕ) → AreInSpace c m → ((k : ℕ) → covered k m ≤ 1) → byte_at m q ≡ Some b → Finds m q
byte_found c [] q b placed once e = absurd (none-some b e)
byte_found c (y ∷ m) q b placed once e =
    elim (has_byte q y) as (λ t. has_byte q y ≡ t → cond t (slice_get y.1.bytes (q - y.0)) (byte_at m q) ≡ Some b → Finds (y ∷ m) q) [
      | true ↦ λ is f. record {
        a = y.0;
        x = y.1;
        there = ap (λ t. cond t (Some y.1) (at y.0 m)) (same_eq y.0 y.0 refl);
        low = has_low y q is;
        high = omega (arith, has_high y q is, placed.0.whole);
      }
      | false ↦ λ is f. behind (byte_found c m q b placed.1 (λ k. omega (arith, once k)) f)
    ] refl e
  where
    behind : Finds m q → Finds (y ∷ m) q
    behind f = record {
      a = f.a;
      x = f.x;
      there = ap (λ t. cond t (Some y.1) (at f.a m)) (other_eq y.0 f.a (λ same. twice f same)) ∙ f.there;
      low = f.low;
      high = f.high;
    }
      where
        twice : Finds m q → y.0 ≡ f.a → ⊥
        twice g same =
            let inner = at_covered f.a f.a f.x m f.there (covers_own c (f.a, f.x) (in_space_at c f.a f.x m placed.1 f.there)) in
            let own : covers f.a y ≡ true = subst (λ (k : ℕ). covers k y ≡ true) same (covers_own c y placed.0) in
            omega (arith, inner, ap weight own, once f.a)

-- ---- the first that is not accessible
pub trap_at : (m : Blocks) (q e len : ℕ) → ((k : ℕ) → q ≤ k → k < e → is_some (byte_at m k) ≡ true) → is_some (byte_at m e) ≡ false → q ≤ e → e < q + len → first_trap m q len ≡ Some e
trap_at m q e zero each none low high = absurd (omega arith)
trap_at m q e (suc len) each none low high =
    ⊎_elim
    (λ (lt : q < e). ap (λ t. cond t (first_trap m (q + 1) len) (Some q)) (each q (omega arith) lt) ∙ trap_at m (q + 1) e len (λ k l h. each k (omega arith) h) none (omega arith) (omega arith))
    (λ (le : e ≤ q). (let same : e ≡ q = omega arith in ap (λ t. cond t (first_trap m (q + 1) len) (Some q)) (subst (λ (k : ℕ). is_some (byte_at m k) ≡ false) same none) ∙ ap Some (sym same)))
    (cases_lt q e)

pub no_trap : (m : Blocks) (q len : ℕ) → ((k : ℕ) → q ≤ k → k < q + len → is_some (byte_at m k) ≡ true) → first_trap m q len ≡ None
no_trap m q zero each = refl
no_trap m q (suc len) each = ap (λ t. cond t (first_trap m (q + 1) len) (Some q)) (each q (omega arith) (omega arith)) ∙ no_trap m (q + 1) len (λ k l h. each k (omega arith) (omega arith))

-- ---- the bytes of one block
in_bytes : (bytes : List ℕ) (i : ℕ) → i < length bytes → slice_get bytes i ≡ Some (get_or bytes i 0)
in_bytes [] i lt = absurd (omega arith)
in_bytes (b ∷ bytes) zero lt = refl
in_bytes (b ∷ bytes) (suc i) lt = in_bytes bytes i (omega arith)

pub byte_there : (c : Config) (m : Blocks) (a q : ℕ) (x : Block) → AreInSpace c m → covered q m ≤ 1 → at a m ≡ Some x → a ≤ q → q < a + x.size → byte_at m q ≡ Some (get_or x.bytes (q - a) 0)
byte_there c m a q x placed once e low high = byte_of c m a q x placed once e low high ∙ in_bytes x.bytes (q - a) (omega (arith, (in_space_at c a x m placed e).whole))

pub bytes_there : (c : Config) (m : Blocks) (a q len : ℕ) (x : Block) → AreInSpace c m → ((k : ℕ) → covered k m ≤ 1) → at a m ≡ Some x → a ≤ q → q + len ≤ a + x.size → bytes_read m q len ≡ take len (drop (q - a) x.bytes)
bytes_there c m a q zero x placed once e low high = refl
bytes_there c m a q (suc len) x placed once e low high =
    let i : ℕ = q - a in
    let split : drop i x.bytes ≡ get_or x.bytes i 0 ∷ drop (i + 1) x.bytes = drop_more x.bytes i 0 (omega (arith, (in_space_at c a x m placed e).whole)) in
    let first : unwrap_or (byte_at m q) 0 ≡ get_or x.bytes i 0 = ap (λ o. unwrap_or o 0) (byte_there c m a q x placed (once q) e low (omega arith)) in
    let rest = bytes_there c m a (q + 1) len x placed once e (omega arith) (omega arith) in
    let next : (q + 1) - a ≡ i + 1 = omega arith in
    ap (λ b. b ∷ bytes_read m (q + 1) len) first ∙ (ap (λ l. get_or x.bytes i 0 ∷ l) (rest ∙ ap (λ k. take len (drop k x.bytes)) next) ∙ sym (ap (take (suc len)) split))

-- ---- the last block that begins at an address or below it
-- two blocks that cover an address count twice
pub two_covered : (a b q : ℕ) (x y : Block) (m : Blocks) → at a m ≡ Some x → at b m ≡ Some y → a ≢ b → covers q (a, x) ≡ true → covers q (b, y) ≡ true → times a (keys m) ≤ 1 → 2 ≤ covered q m
two_covered a b q x y m e f ne first second once =
    omega (arith, how_many_removed (covers q) a x m e once, ap weight first, at_covered q b y (removed a m) (at_removed b a m ne ∙ f) second)

-- the table has the size of each live block
live_is : (c : Config) (n : ℕ) (s : State) (k : Store) (a : ℕ) → Shows c n s k → live_size (map.get k.blocks.blocks a) ≡ option_map (λ (b : Block). b.size) (at a s.live)
live_is c n s k a h = ap live_size (h.blocks a) ∙ by_kind (at a s.live) (at a s.quarantined)
  where
    by_kind : (o quarantined : Option Block) → live_size (kept_or o quarantined) ≡ option_map (λ (b : Block). b.size) o
    by_kind (Some x) quarantined = refl
    by_kind None (Some y) = refl
    by_kind None None = refl

live_at : (c : Config) (n : ℕ) (s : State) (k : Store) (a : ℕ) (x : Block) → Shows c n s k → at a s.live ≡ Some x → live_size (map.get k.blocks.blocks a) ≡ Some x.size
live_at c n s k a x h e = live_is c n s k a h ∙ ap (option_map (λ (b : Block). b.size)) e

-- a block of which a byte is there is the last that begins there
pub last_has : (c : Config) (n : ℕ) (s : State) (k : Store) (q start size : ℕ) → IsSound c s → Shows c n s k → live_size (map.get k.blocks.blocks start) ≡ Some size → start ≤ q
    → ((p : ℕ) → p ≤ q → IsSome (live_size (map.get k.blocks.blocks p)) → p ≤ start) → Finds s.live q → (x : Block) × (at start s.live ≡ Some x) × (size ≡ x.size) × (q < start + x.size)
last_has c n s k q start size sound h is le last f =
    ⊎_elim same (λ lt. absurd (below lt)) (cases_le f.a start (last f.a f.low (subst IsSome (sym (live_at c n s k f.a f.x h f.there)) refl)))
  where
    cases_le : (a b : ℕ) → a ≤ b → (a ≡ b) ⊎ (a < b)
    cases_le a b le = ⊎_elim (λ lt. inr lt) (λ ge. inl (omega arith)) (cases_lt a b)

    same : f.a ≡ start → (x : Block) × (at start s.live ≡ Some x) × (size ≡ x.size) × (q < start + x.size)
    same e =
        let there : at start s.live ≡ Some f.x = subst (λ (k : ℕ). at k s.live ≡ Some f.x) e f.there in
        (f.x, there, same_Some size f.x.size (sym is ∙ live_at c n s k start f.x h there), omega (arith, e, f.high))

    covers_start : f.a < start → covers start (f.a, f.x) ≡ true
    covers_start lt = spans_from f.a f.x.size f.x.guard start (omega arith) (omega (arith, f.high))

    below : f.a < start → ⊥
    below lt = by_live (at start s.live) refl
      where
        by_live : (live : Option Block) → at start s.live ≡ live → ⊥
        by_live (Some y) e =
            omega (arith, two_covered f.a start start f.x y s.live f.there e (λ same. (let no : ⊥ = omega (arith, same) in no)) (covers_start lt) (covers_own c (start, y) (in_space_at c start y s.live sound.live e)) (live_once c s f.a sound), sound.once start)
        by_live None e = none-some size (sym (live_is c n s k start h ∙ ap (option_map (λ (b : Block). b.size)) e) ∙ is)

-- where the table has nothing that begins there, there is no byte
pub no_byte : (c : Config) (s : State) (q : ℕ) → IsSound c s → (Finds s.live q → ⊥) → byte_at s.live q ≡ None
no_byte c s q sound none = by_byte (byte_at s.live q) refl
  where
    by_byte : (o : Option ℕ) → byte_at s.live q ≡ o → byte_at s.live q ≡ None
    by_byte None e = e
    by_byte (Some b) e = absurd (none (byte_found c s.live q b sound.live (λ k. omega (arith, sound.once k)) e))

pub nothing_begun : (c : Config) (n : ℕ) (s : State) (k : Store) (q : ℕ) → Shows c n s k → ((p : ℕ) → p ≤ q → live_size (map.get k.blocks.blocks p) ≡ None) → Finds s.live q → ⊥
nothing_begun c n s k q h none f = none-some f.x.size (sym (none f.a f.low) ∙ live_at c n s k f.a f.x h f.there)

-- what has a size in the table is live
live_from : (size : ℕ) (o : Option Block) → option_map (λ (b : Block). b.size) o ≡ Some size → (x : Block) × (o ≡ Some x) × (size ≡ x.size)
live_from size None is = absurd (none-some size is)
live_from size (Some x) is = (x, refl, sym (same_Some x.size size is))

pub left_from : (c : Config) (n : ℕ) (s : State) (k : Store) (q start size left : ℕ) → IsSound c s → Shows c n s k → live_size (map.get k.blocks.blocks start) ≡ Some size → start ≤ q
    → ((p : ℕ) → p ≤ q → IsSome (live_size (map.get k.blocks.blocks p)) → p ≤ start) → left ≡ size - (q - start) → IsLeft s.live q left
left_from c n s k q start size zero sound h is le last e =
    no_byte c s q sound (λ f. (let l = last_has c n s k q start size sound h is le last f in omega (arith, e, l.2, l.3)))
left_from c n s k q start size (suc left) sound h is le last e =
    let l = live_from size (at start s.live) (sym (live_is c n s k start h) ∙ is) in
    (start, l.0, l.1, le, omega (arith, e, l.2))

-- ---- the first address that is not accessible
guard_at : (a : ℕ) (x : Block) (m : Blocks) → AreGuarded m → at a m ≡ Some x → 1 ≤ x.guard
guard_at a x [] g e = absurd (none-some x e)
guard_at a x (y ∷ m) g e =
    elim (y.0 == a) as (λ t. cond t (Some y.1) (at a m) ≡ Some x → 1 ≤ x.guard) [
      | true ↦ λ f. subst (λ (b : Block). 1 ≤ b.guard) (same_Some y.1 x f) g.0
      | false ↦ λ f. guard_at a x m g.1 f
    ] e

pub trap_left : (c : Config) (s : State) (q len left : ℕ) → IsSound c s → AreGuarded s.live → IsLeft s.live q left → left < len → first_trap s.live q len ≡ Some (q + left)
trap_left c s q len zero sound guarded is lt = trap_at s.live q (q + 0) len (λ k l h. absurd (omega arith)) (ap is_some (ap (byte_at s.live) (omega arith) ∙ is)) (omega arith) (omega arith)
trap_left c s q len (suc left) sound guarded (a, x, there, low, high) lt =
    trap_at s.live q (q + suc left) len (λ k l h. ap is_some (byte_there c s.live a k x sound.live (omega (arith, sound.once k)) there (omega arith) (omega arith)))
    (ap is_some (byte_past c s.live a (q + suc left) x sound.live (omega (arith, sound.once (q + suc left))) there
    (spans_from a x.size x.guard (q + suc left) (omega arith) (omega (arith, guard_at a x s.live guarded there))) (omega arith)))
    (omega arith) (omega arith)

pub left_held : (live : Blocks) (q len left : ℕ) → 1 ≤ len → IsLeft live q left → len ≤ left → HeldByNone live q len → ⊥
left_held live q len zero some is le none = omega arith
left_held live q len (suc left) some (a, x, there, low, high) le none = none a x there low (omega arith)

pub none_left : (c : Config) (s : State) (q len left : ℕ) → IsSound c s → 1 ≤ len → IsLeft s.live q left → len ≤ left → first_trap s.live q len ≡ None
none_left c s q len zero sound some is le = absurd (omega arith)
none_left c s q len (suc left) sound some (a, x, there, low, high) le =
    no_trap s.live q len (λ k l h. ap is_some (byte_there c s.live a k x sound.live (omega (arith, sound.once k)) there (omega arith) (omega arith)))
