-- A range of addresses that lies in one live block: what is accessible there, which bytes it has, and what writing over
-- it leaves.
use Rattle.std.proofs.Common.{◌≡◌, ◌⊎◌, inl, inr, ⊎_elim, ℕ, zero, suc, ◌+◌, ◌-◌, ◌<◌, ◌≤◌, Bool, true, false, cond, ◌||◌, List, [], ◌∷◌, map, length, take, drop, get_or, Option, Some, None, option_map, refl, sym, ◌∙◌, ap, subst, arith}
use Rattle.std.specs.Prelude.{slice_get, nat_le, nat_lt, IsTrue, ◌↔◌}
use Rattle.std.specs.List.{list_any}
use Rattle.std.proofs.lemmas.Bool.{cases_lt, and_parts, leb-true, ltb-true}
use Rattle.std.proofs.lemmas.List.{map-set}
use Rattle.std.specs.Option.{IfSome}
use Rattle.std.proofs.lemmas.Option.{none-some, same_Some, slice_get_read}
use lib.ListN.{set}
use Rattle.hm_base.specs.Lists.{written}
use Rattle.hm_model.specs.Maps.{at, times, keys}
use Rattle.hm_model.specs.Overlaid.{overlaid}
use Rattle.hm_model.proofs.Overlaid.{overlaid_apart, overlaid_written}
use Rattle.hm_sizes.specs.declared.config.Config.{Config}
use Rattle.hm_large_rules.specs.State.{Block, Blocks, covers, covered, State, AreGuarded}
use Rattle.hm_large_rules.specs.Bytes.{byte_at, first_trap, bytes_read, overlay, overlaid_blocks, IsLeft}
use Rattle.hm_large_rules.specs.Laws.{IsInSpace, AreInSpace, IsSound}
use Rattle.hm_large_rules.proofs.BlockLists.{weight, in_space_at}
use Rattle.hm_large_rules.proofs.Legal.{live_once}
use Rattle.hm_large_rules.proofs.Candidates.{spans_from}
use Rattle.hm_large.proofs.Accessed.{bytes_there, none_left, trap_left}
use Rattle.hm_large_book.specs.declared.blocks.LiveBlock.{LiveBlock}
use Rattle.hm_large_book.specs.Book.{block_of, block_in, blocks_in, reaches}
use Rattle.hm_large_book.specs.declared.bytes.Position.{Position}
use Rattle.hm_large_book.specs.Bytes.{LiesAt, over_block}
use Rattle.hm_large_book.proofs.Finding.{at_index, slice_pairs}

-- where no block reaches an address, no byte is there
pub none_byte : (q : ℕ) (live : List (ℕ × LiveBlock)) → list_any (reaches q) live ≡ false → byte_at (blocks_in live) q ≡ None
none_byte q [] e = refl
none_byte q (y ∷ live) e =
    elim (reaches q y) as (λ t. (t || list_any (reaches q) live) ≡ false → cond t (slice_get y.1.bytes (q - y.0)) (byte_at (blocks_in live) q) ≡ None) [
      | true ↦ λ h. absurd (true_false h)
      | false ↦ λ h. none_byte q live h
    ] e
  where
    true_false : true ≡ false → ⊥
    true_false h = (let k : 1 ≡ 0 = ap weight h in omega (arith, k))

left_is : (m : Blocks) (q a left : ℕ) (x : Block) → at a m ≡ Some x → a ≤ q → 1 ≤ left → q + left ≡ a + x.size → IsLeft m q left
left_is m q a zero x there low some e = absurd (omega (arith, some))
left_is m q a (suc left) x there low some e = (a, x, there, low, e)

module _ (c : Config) (s : State) (live : List (ℕ × LiveBlock)) (sound : IsSound c s) (is : blocks_in live ≡ s.live) where
  -- what stands at an index stands at its address
  pub there : (i : ℕ) (e : ℕ × LiveBlock) → slice_get live i ≡ Some e → at e.0 s.live ≡ Some (block_of e.1)
  there i e got =
      let once : times e.0 (keys (blocks_in live)) ≤ 1 = subst (λ (m : Blocks). times e.0 (keys m) ≤ 1) (sym is) (live_once c s e.0 sound) in
      subst (λ (m : Blocks). at e.0 m ≡ Some (block_of e.1)) is (at_index (blocks_in live) i (block_in e) (slice_pairs block_of live i ∙ ap (option_map block_in) got) once)

  whole : (i : ℕ) (e : ℕ × LiveBlock) → slice_get live i ≡ Some e → length e.1.bytes ≡ e.1.size
  whole i e got = (in_space_at c e.0 (block_of e.1) s.live sound.live (there i e got)).whole

  pub left_some : (q i left : ℕ) (e : ℕ × LiveBlock) → slice_get live i ≡ Some e → e.0 ≤ q → 1 ≤ left → q + left ≡ e.0 + length e.1.bytes → IsLeft s.live q left
  left_some q i left e got low some sum = left_is s.live q e.0 left (block_of e.1) (there i e got) low some (omega (arith, sum, whole i e got))

  pub left_none : (q : ℕ) → list_any (reaches q) live ≡ false → IsLeft s.live q 0
  left_none q none = subst (λ (m : Blocks). byte_at m q ≡ None) is (none_byte q live none)

  pub trap_some : AreGuarded s.live → (q len left : ℕ) → IsLeft s.live q left → left < len → first_trap s.live q len ≡ None → ⊥
  trap_some guarded q len left h lt none = none-some (q + left) (sym none ∙ trap_left c s q len left sound guarded h lt)

  module _ (a len : ℕ) (p : Position) (lies : LiesAt live a len p) (some : 1 ≤ len) where
    pub lies_none : first_trap s.live a len ≡ None
    lies_none =
        let e = lies.entry in
        none_left c s a len (length e.1.bytes - p.offset) sound some
        (left_some a p.block (length e.1.bytes - p.offset) e lies.there (omega (arith, lies.begins)) (omega (arith, lies.fits, some)) (omega (arith, lies.begins, lies.fits)))
        (omega (arith, lies.fits))

    pub lies_bytes : bytes_read s.live a len ≡ take len (drop p.offset lies.entry.1.bytes)
    lies_bytes =
        let e = lies.entry in
        bytes_there c s.live e.0 a len (block_of e.1) sound.live (λ k. omega (arith, sound.once k)) (there p.block e lies.there) (omega (arith, lies.begins)) (omega (arith, lies.begins, lies.fits, whole p.block e lies.there))
        ∙ ap (λ (n : ℕ). take len (drop n e.1.bytes)) {x = a - e.0} {y = p.offset} (omega (arith, lies.begins))

-- ---- a block that was found to reach an address
pub reach_parts : (live : List (ℕ × LiveBlock)) (q i : ℕ) (e : ℕ × LiveBlock) → i < length live → e ≡ get_or live i e → IfSome (slice_get live i) (λ x. IsTrue (reaches q x)) → (e.0 ≤ q) × (q < e.0 + length e.1.bytes)
reach_parts live q i e lt is has =
    let got : slice_get live i ≡ Some e = slice_get_read live (length live) i e refl lt is in
    let parts = and_parts (nat_le e.0 q) (nat_lt q (e.0 + length e.1.bytes)) (subst (λ (o : Option (ℕ × LiveBlock)). IfSome o (λ x. IsTrue (reaches q x))) got has) in
    (leb-true e.0 q parts.0, ltb-true q (e.0 + length e.1.bytes) parts.1)

module _ (c : Config) (s : State) (live : List (ℕ × LiveBlock)) (sound : IsSound c s) (is : blocks_in live ≡ s.live) where
  pub left_holder : (q i left : ℕ) (e : ℕ × LiveBlock) → i < length live → e ≡ get_or live i e → IfSome (slice_get live i) (λ x. IsTrue (reaches q x)) → left ≡ length e.1.bytes - (q - e.0) → IsLeft s.live q left
  left_holder q i left e lt at_i has left_is =
      let parts = reach_parts live q i e lt at_i has in
      left_some c s live sound is q i left e (slice_get_read live (length live) i e refl lt at_i) parts.0 (omega (arith, parts.1, parts.0, left_is)) (omega (arith, parts.0, parts.1, left_is))

pub lies_at : (live : List (ℕ × LiveBlock)) (q len i offset : ℕ) (e : ℕ × LiveBlock) → i < length live → e ≡ get_or live i e → IfSome (slice_get live i) (λ x. IsTrue (reaches q x)) → offset ≡ q - e.0
    → len ≤ length e.1.bytes - offset → 1 ≤ len → LiesAt live q len (record { block = i; offset = offset })
lies_at live q len i offset e lt at_i has offset_is fits some =
    let parts = reach_parts live q i e lt at_i has in
    record { entry = e; there = slice_get_read live (length live) i e refl lt at_i; begins = omega (arith, parts.0, offset_is); fits = omega (arith, fits, some) }

-- ---- writing over one block
module _ (c : Config) (a : ℕ) (w : List ℕ) (some : 1 ≤ length w) where
  covers_byte : (y : ℕ × Block) (q : ℕ) → IsInSpace c y → y.0 ≤ q → q < y.0 + length y.1.bytes → covers q y ≡ true
  covers_byte y q placed low high = spans_from y.0 y.1.size y.1.guard q (omega (arith, low)) (omega (arith, high, placed.whole))

  -- a block that has none of the addresses stays
  over_apart : (y : ℕ × Block) → IsInSpace c y → ((q : ℕ) → a ≤ q → q < a + length w → covers q y ≡ true → ⊥) → overlay a w y ≡ y
  over_apart y placed none = ap (λ (l : List ℕ). (y.0, record y.1 { bytes = l })) (overlaid_apart a w y.0 y.1.bytes off)
    where
      off : (y.0 + length y.1.bytes ≤ a) ⊎ (a + length w ≤ y.0)
      off = ⊎_elim
          (λ (lt : a < y.0 + length y.1.bytes). ⊎_elim
          (λ (over : y.0 < a + length w). absurd (meets lt over (cases_lt a y.0)))
          (λ (past : a + length w ≤ y.0). inr past)
          (cases_lt y.0 (a + length w)))
          (λ (le : y.0 + length y.1.bytes ≤ a). inl le)
          (cases_lt a (y.0 + length y.1.bytes))
        where
          meets : a < y.0 + length y.1.bytes → y.0 < a + length w → (a < y.0) ⊎ (y.0 ≤ a) → ⊥
          meets lt over (inl before) = none y.0 (omega (arith, before)) over (covers_byte y y.0 placed (omega arith) (omega (arith, placed.some, placed.whole)))
          meets lt over (inr from) = none a (omega arith) (omega (arith, some)) (covers_byte y a placed from lt)

  over_none : (m : Blocks) → AreInSpace c m → ((q : ℕ) → a ≤ q → q < a + length w → covered q m ≡ 0) → map (overlay a w) m ≡ m
  over_none [] placed none = refl
  over_none (y ∷ m) placed none =
      (λ i. over_apart y placed.0 (λ q low high h. (let one = ap weight h in omega (arith, one, none q low high))) i
      ∷ over_none m placed.1 (λ q low high. omega (arith, none q low high)) i)

  covered_index : (q : ℕ) (m : Blocks) (i : ℕ) (e : ℕ × Block) → slice_get m i ≡ Some e → covers q e ≡ true → 1 ≤ covered q m
  covered_index q [] i e is h = absurd (none-some e is)
  covered_index q (y ∷ m) zero e is h = (let one = ap weight (ap (covers q) (same_Some y e is) ∙ h) in omega (arith, one))
  covered_index q (y ∷ m) (suc i) e is h = omega (arith, covered_index q m i e is h)

  placed_index : (m : Blocks) (i : ℕ) (e : ℕ × Block) → slice_get m i ≡ Some e → AreInSpace c m → IsInSpace c e
  placed_index [] i e is placed = absurd (none-some e is)
  placed_index (y ∷ m) zero e is placed = subst (IsInSpace c) (same_Some y e is) placed.0
  placed_index (y ∷ m) (suc i) e is placed = placed_index m i e is placed.1

  -- the one block that has all the addresses is written over, and all others stay
  pub over_one : (m : Blocks) (i : ℕ) (e : ℕ × Block) → slice_get m i ≡ Some e → AreInSpace c m → ((q : ℕ) → covered q m ≤ 1) → e.0 ≤ a → a + length w ≤ e.0 + length e.1.bytes
      → map (overlay a w) m ≡ set m i (overlay a w e)
  over_one [] i e is placed once low high = absurd (none-some e is)
  over_one (y ∷ m) zero e is placed once low high =
      (λ i. overlay a w (same_Some y e is i) ∷ over_none m placed.1 (λ q from below. rest q from below) i)
    where
      rest : (q : ℕ) → a ≤ q → q < a + length w → covered q m ≡ 0
      rest q from below =
          let own : covers q y ≡ true = ap (covers q) (same_Some y e is) ∙ covers_byte e q (placed_index (y ∷ m) zero e is placed) (omega (arith, low, from)) (omega (arith, below, high)) in
          omega (arith, ap weight own, once q)
  over_one (y ∷ m) (suc i) e is placed once low high =
      (λ j. over_apart y placed.0 apart j ∷ over_one m i e is placed.1 (λ q. omega (arith, once q)) low high j)
    where
      apart : (q : ℕ) → a ≤ q → q < a + length w → covers q y ≡ true → ⊥
      apart q from below own =
          omega (arith, ap weight own, once q, covered_index q m i e is (covers_byte e q (placed_index m i e is placed.1) (omega (arith, low, from)) (omega (arith, below, high))))

-- the list after writing over the block
pub written_one : (c : Config) (s : State) (live : List (ℕ × LiveBlock)) (a : ℕ) (w : List ℕ) (p : Position) (lies : LiesAt live a (length w) p) (e new : ℕ × LiveBlock) → 1 ≤ length w → IsSound c s → blocks_in live ≡ s.live
    → slice_get live p.block ≡ Some e → block_in new ≡ over_block p.offset w (block_in e) → blocks_in (set live p.block new) ≡ overlaid_blocks a w s.live
written_one c s live a w p lies e new some sound is there_e made =
    let same : lies.entry ≡ e = same_Some lies.entry e (sym lies.there ∙ there_e) in
    let begins : e.0 + p.offset ≡ a = subst (λ (z : ℕ × LiveBlock). z.0 + p.offset ≡ a) same lies.begins in
    let fits : p.offset + length w ≤ length e.1.bytes = subst (λ (z : ℕ × LiveBlock). p.offset + length w ≤ length z.1.bytes) same lies.fits in
    let placed : AreInSpace c (blocks_in live) = subst (AreInSpace c) (sym is) sound.live in
    let once : (q : ℕ) → covered q (blocks_in live) ≤ 1 = λ q. subst (λ (m : Blocks). covered q m ≤ 1) (sym is) (omega (arith, sound.once q)) in
    let got : slice_get (blocks_in live) p.block ≡ Some (block_in e) = slice_pairs block_of live p.block ∙ ap (option_map block_in) there_e in
    let over : written e.1.bytes p.offset w ≡ overlaid a w e.0 e.1.bytes = sym (overlaid_written p.offset e.0 w e.1.bytes (omega (arith, fits))) ∙ ap (λ (n : ℕ). overlaid n w e.0 e.1.bytes) begins in
    map-set block_in live p.block new
    ∙ ap (set (blocks_in live) p.block) made
    ∙ ap (λ (l : List ℕ). set (blocks_in live) p.block (e.0, record (block_of e.1) { bytes = l })) over
    ∙ sym (over_one c a w some (blocks_in live) p.block (block_in e) got placed once (omega (arith, begins)) (omega (arith, begins, fits)))
    ∙ ap (overlaid_blocks a w) is

-- what a part of the block's bytes says of the range
pub range_is : (c : Config) (s : State) (live : List (ℕ × LiveBlock)) (a len : ℕ) (p : Position) (lies : LiesAt live a len p) (e : ℕ × LiveBlock) (bytes : List ℕ) (runs : List ℕ) (r : Bool) → 1 ≤ len → IsSound c s → blocks_in live ≡ s.live
    → slice_get live p.block ≡ Some e → bytes ≡ e.1.bytes → IsTrue r ↔ ((length runs ≡ len) × (runs ≡ take len (drop p.offset bytes)))
    → IsTrue r ↔ ((length runs ≡ len) × (first_trap s.live a len ≡ None) × (runs ≡ bytes_read s.live a len))
range_is c s live a len p lies e bytes runs r some sound is there_e same exact =
    let own : bytes ≡ lies.entry.1.bytes = same ∙ ap (λ (z : ℕ × LiveBlock). z.1.bytes) (same_Some e lies.entry (sym there_e ∙ lies.there)) in
    let read : bytes_read s.live a len ≡ take len (drop p.offset bytes) = lies_bytes c s live sound is a len p lies some ∙ ap (λ l. take len (drop p.offset l)) (sym own) in
    ((λ t. (let x = exact.0 t in (x.0, lies_none c s live sound is a len p lies some, x.1 ∙ sym read))), (λ h. exact.1 (h.0, h.2 ∙ read)))

pub fits_at : (live : List (ℕ × LiveBlock)) (a len : ℕ) (p : Position) (e : ℕ × LiveBlock) → LiesAt live a len p → slice_get live p.block ≡ Some e → (p.offset + len ≤ length e.1.bytes) × (p.offset ≤ a)
fits_at live a len p e lies is =
    (subst (λ (z : ℕ × LiveBlock). p.offset + len ≤ length z.1.bytes) (same_Some lies.entry e (sym lies.there ∙ is)) lies.fits, omega (arith, lies.begins))

pub read_at : (live : List (ℕ × LiveBlock)) (i : ℕ) (e : ℕ × LiveBlock) → i < length live → e ≡ get_or live i e → slice_get live i ≡ Some e
read_at live i e lt is = slice_get_read live (length live) i e refl lt is
