-- What the units of a run keep once one of them is written, or has bytes of its own.
use Rattle.std.proofs.Common.{◌≡◌, ◌≢◌, ⊎_elim, ℕ, zero, suc, ◌+◌, ◌-◌, ◌*◌, ◌/◌, ◌<◌, ◌≤◌, List, ◌++◌, map, length, min, take, drop, replicate, slice_set, Option, Some, None, true, refl, sym, ap, ◌∙◌, arith}
use Rattle.std.proofs.lemmas.Bool.{cases_lt}
use Rattle.std.proofs.lemmas.List.{length-take, length-drop, length-set, length-map, length-replicate, take_at, get_or-take, get_or-drop, get_or-set_same, get_or-set_other, get_or-replicate, get_or-map, ext_get_or, get_or-append_right, get_or_append_left}
use Rattle.std.proofs.lemmas.List.FromFn.{length-map-range_with_len, get_or-map-range_with_len}
use Rattle.std.specs.Prelude.{get_or, is_some}
use Rattle.std.specs.List.{refill, length_refill}
use Rattle.hm_frames.specs.declared.unit.UnitBytes.{UnitBytes}
use Rattle.hm_frames.specs.declared.unit.UnitBytes.TheVariants.{Same, Own}
use Rattle.hm_frames.specs.RawCells.{IsFilled, byte_of, bytes_of, with_raw_cells}
use Rattle.hm_frames.specs.Part.{over, with_part}
use Rattle.hm_frames.specs.Units.{byte_in, unit_of, byte_at, bytes_kept, AreKept}
use Rattle.hm_frames.proofs.Written.{bytes_take, bytes_drop, length_with, raw_cell_before, raw_cell_inside, raw_cell_after, all_some}
use Rattle.hm_frames.proofs.Over.{over_long, over_before, over_inside, over_after}

-- raw cells of a part
part_raw_cell : (raw_cells : List (Option ℕ)) (from len i : ℕ) → i < len → get_or (take len (drop from raw_cells)) i None ≡ get_or raw_cells (from + i) None
part_raw_cell raw_cells from len i lt = get_or-take len (drop from raw_cells) i None lt ∙ get_or-drop from raw_cells i None

-- a part all of whose raw_cells have bytes is filled
pub filled_part : (raw_cells : List (Option ℕ)) (from len : ℕ) → from + len ≤ length raw_cells
    → ((i : ℕ) → from ≤ i → i < from + len → is_some (get_or raw_cells i None) ≡ true) → IsFilled raw_cells from len
filled_part raw_cells from len within each =
    let part = take len (drop from raw_cells) in
    let long : length part ≡ len = omega (arith, within, length-take len (drop from raw_cells), length-drop from raw_cells) in
    record {
      within = within;
      all = all_some part (λ i lt. ap is_some (part_raw_cell raw_cells from len i (omega (arith, long, lt))) ∙ each (from + i) (omega arith) (omega (arith, long, lt)))
          ∙ ap (λ (l : List ℕ). map Some l) (bytes_take len (drop from raw_cells) ∙ ap (take len) (bytes_drop from raw_cells));
    }

-- the items of a vector that was written as a slice
pub known_items : (n : ℕ) (new old : List UnitBytes) → length new ≡ n → take n (new ++ drop (length new) old) ≡ new
known_items n new old long = take_at new (drop (length new) old) n long

-- as many bytes as before are written
pub refill_count : (raw_cells : List (Option ℕ)) (from len : ℕ) (w : List ℕ) → from + len ≤ length raw_cells → length (refill len (take len (drop from (bytes_of raw_cells))) w) ≡ len
refill_count raw_cells from len w within =
    let part = take len (drop from (bytes_of raw_cells)) in
    let long : len ≡ length part = omega (arith, within, length-take len (drop from (bytes_of raw_cells)), length-drop from (bytes_of raw_cells), length-map raw_cells byte_of) in
    sym (length_refill len part w long)

-- ---- the bytes, one by one
pub kept_long : (units : List UnitBytes) (raw_cells : List (Option ℕ)) → length (bytes_kept units raw_cells) ≡ length raw_cells
kept_long units raw_cells = length-map-range_with_len (byte_at units raw_cells) 0 (length raw_cells)

pub kept_at : (units : List UnitBytes) (raw_cells : List (Option ℕ)) (i : ℕ) → i < length raw_cells → get_or (bytes_kept units raw_cells) i 0 ≡ byte_at units raw_cells i
kept_at units raw_cells i lt = get_or-map-range_with_len (byte_at units raw_cells) 0 (length raw_cells) i i 0 lt (omega arith)

pub kept_is : (units : List UnitBytes) (raw_cells : List (Option ℕ)) (xs : List ℕ) → length xs ≡ length raw_cells
    → ((i : ℕ) → i < length raw_cells → byte_at units raw_cells i ≡ get_or xs i 0) → bytes_kept units raw_cells ≡ xs
kept_is units raw_cells xs long each =
    ext_get_or 0 (bytes_kept units raw_cells) xs (kept_long units raw_cells ∙ sym long)
    (λ i lt. let small : i < length raw_cells = omega (arith, lt, kept_long units raw_cells) in kept_at units raw_cells i small ∙ each i small)

-- the byte that was written at a cell
raw_cell_value : (xs : List (Option ℕ)) (from len : ℕ) (w : List ℕ) → length w ≡ len → from + len ≤ length xs → (i : ℕ) → from ≤ i → i < from + len
    → get_or (with_raw_cells xs from len w) i None ≡ Some (get_or w (i - from) 0)
raw_cell_value xs from len w long le i low high =
    get_or-append_right (take from xs) (map Some w ++ drop (from + len) xs) from i None (omega (arith, le, length-take from xs)) low
    ∙ get_or_append_left (map Some w) (drop (from + len) xs) None (i - from) (omega (arith, low, high, long, length-map w Some))
    ∙ get_or-map Some w (i - from) 0 None (omega (arith, low, high, long))

all_same : (k p : ℕ) → get_or (replicate k (Same 0)) p (Same 0) ≡ Same 0
all_same zero p = refl
all_same (suc k) zero = refl
all_same (suc k) (suc p) = all_same k p

-- units that keep the byte 0
pub all_zero : (n k : ℕ) → bytes_kept (replicate k (Same 0)) (replicate n None) ≡ replicate n 0
all_zero n k =
    let units : List UnitBytes = replicate k (Same 0) in
    let raw_cells : List (Option ℕ) = replicate n None in
    let zeros : List ℕ = replicate n 0 in
    kept_is units raw_cells zeros (length-replicate n 0 ∙ sym (length-replicate n None))
    (λ i lt. ap (λ (u : UnitBytes). byte_in u (get_or raw_cells i None)) (all_same k (i / 512))
    ∙ sym (get_or-replicate n i 0 0 (omega (arith, lt, length-replicate {A = Option ℕ} n None))))

-- ---- bytes that units have of their own are written
module _ (units : List UnitBytes) (raw_cells : List (Option ℕ)) (from len : ℕ) (w : List ℕ) (kept : AreKept units raw_cells) (long : length w ≡ len) (le : from + len ≤ length raw_cells)
    (owned : (i : ℕ) → from ≤ i → i < from + len → unit_of units i ≡ Own) where
  pub own_written : bytes_kept units (with_raw_cells raw_cells from len w) ≡ over (bytes_kept units raw_cells) from len w
  own_written =
      let b = bytes_kept units raw_cells in
      let new = with_raw_cells raw_cells from len w in
      let count : length new ≡ length raw_cells = length_with raw_cells from len w long le in
      let le' : from + len ≤ length b = omega (arith, le, kept_long units raw_cells) in
      kept_is units new (over b from len w) (over_long b from len w long le' ∙ kept_long units raw_cells ∙ sym count)
      (λ i lt. let small : i < length raw_cells = omega (arith, lt, count) in
      ⊎_elim
      (λ before. ap (byte_in (unit_of units i)) (raw_cell_before raw_cells from len w long le i before)
      ∙ sym (over_before b from len w long le' i before ∙ kept_at units raw_cells i small))
      (λ above. ⊎_elim
      (λ inside. ap (λ (u : UnitBytes). byte_in u (get_or new i None)) (owned i above inside)
      ∙ ap byte_of (raw_cell_value raw_cells from len w long le i above inside)
      ∙ sym (over_inside b from len w long le' i above inside))
      (λ after. ap (byte_in (unit_of units i)) (raw_cell_after raw_cells from len w long le i after)
      ∙ sym (over_after b from len w long le' i after ∙ kept_at units raw_cells i small))
      (cases_lt i (from + len)))
      (cases_lt i from))

  pub own_kept : AreKept units (with_raw_cells raw_cells from len w)
  own_kept = record {
    count = length_with raw_cells from len w long le ∙ kept.count;
    own = λ i own. ⊎_elim
        (λ before. ap is_some (raw_cell_before raw_cells from len w long le i before) ∙ kept.own i own)
        (λ above. ⊎_elim
        (λ inside. raw_cell_inside raw_cells from len w long le i above inside)
        (λ after. ap is_some (raw_cell_after raw_cells from len w long le i after) ∙ kept.own i own)
        (cases_lt i (from + len)))
        (cases_lt i from);
  }

-- ---- a unit keeps one byte
module _ (units : List UnitBytes) (raw_cells : List (Option ℕ)) (p byte : ℕ) (kept : AreKept units raw_cells) (lt : p < length units) where
  here : (u : UnitBytes) (i : ℕ) → 512 * p ≤ i → i < 512 * p + 512 → unit_of (slice_set units p u) i ≡ u
  here u i low high = ap (λ (k : ℕ). get_or (slice_set units p u) k (Same 0)) {x = i / 512} {y = p} (omega (arith, low, high)) ∙ get_or-set_same units p u (Same 0) lt

  there : (u : UnitBytes) (i : ℕ) → i / 512 ≢ p → unit_of (slice_set units p u) i ≡ unit_of units i
  there u i other = get_or-set_other units p (i / 512) u (Same 0) other

  pub same_written : bytes_kept (slice_set units p (Same byte)) raw_cells ≡ over (bytes_kept units raw_cells) (512 * p) 512 (replicate 512 byte)
  same_written =
      let b = bytes_kept units raw_cells in
      let new = slice_set units p (Same byte) in
      let w : List ℕ = replicate 512 byte in
      let long : length w ≡ 512 = length-replicate {A = ℕ} 512 byte in
      let le : 512 * p + 512 ≤ length b = omega (arith, lt, kept.count, kept_long units raw_cells) in
      kept_is new raw_cells (over b (512 * p) 512 w) (over_long b (512 * p) 512 w long le ∙ kept_long units raw_cells)
      (λ i small. ⊎_elim
      (λ before. ap (λ (u : UnitBytes). byte_in u (get_or raw_cells i None)) (there (Same byte) i (λ is. absurd (omega (arith, before, is))))
      ∙ sym (over_before b (512 * p) 512 w long le i before ∙ kept_at units raw_cells i small))
      (λ above. ⊎_elim
      (λ inside. ap (λ (u : UnitBytes). byte_in u (get_or raw_cells i None)) (here (Same byte) i above inside)
      ∙ sym (over_inside b (512 * p) 512 w long le i above inside ∙ get_or-replicate 512 (i - 512 * p) byte 0 (omega (arith, above, inside))))
      (λ after. ap (λ (u : UnitBytes). byte_in u (get_or raw_cells i None)) (there (Same byte) i (λ is. absurd (omega (arith, after, is))))
      ∙ sym (over_after b (512 * p) 512 w long le i after ∙ kept_at units raw_cells i small))
      (cases_lt i (512 * p + 512)))
      (cases_lt i (512 * p)))

  -- ---- it has as many of its own
  module _ (same : get_or units p (Same 0) ≡ Same byte) where
    abbrev pub w : List ℕ
    w = replicate 512 byte

    long : length w ≡ 512
    long = length-replicate {A = ℕ} 512 byte

    le : p * 512 + 512 ≤ length raw_cells
    le = omega (arith, lt, kept.count)

    pub owned_bytes : bytes_kept (slice_set units p Own) (with_raw_cells raw_cells (p * 512) 512 w) ≡ bytes_kept units raw_cells
    owned_bytes =
        let new = with_raw_cells raw_cells (p * 512) 512 w in
        let count : length new ≡ length raw_cells = length_with raw_cells (p * 512) 512 w long le in
        kept_is (slice_set units p Own) new (bytes_kept units raw_cells) (kept_long units raw_cells ∙ sym count)
        (λ i lt'. let small : i < length raw_cells = omega (arith, lt', count) in
        ⊎_elim
        (λ before. ap (λ (u : UnitBytes). byte_in u (get_or new i None)) (there Own i (λ is. absurd (omega (arith, before, is))))
        ∙ ap (byte_in (unit_of units i)) (raw_cell_before raw_cells (p * 512) 512 w long le i before)
        ∙ sym (kept_at units raw_cells i small))
        (λ above. ⊎_elim
        (λ inside. ap (λ (u : UnitBytes). byte_in u (get_or new i None)) (here Own i (omega (arith, above)) (omega (arith, inside)))
        ∙ ap byte_of (raw_cell_value raw_cells (p * 512) 512 w long le i above inside)
        ∙ get_or-replicate 512 (i - p * 512) byte 0 (omega (arith, above, inside))
        ∙ sym (kept_at units raw_cells i small
        ∙ ap (λ (u : UnitBytes). byte_in u (get_or raw_cells i None)) (ap (λ (k : ℕ). get_or units k (Same 0)) {x = i / 512} {y = p} (omega (arith, above, inside)) ∙ same)))
        (λ after. ap (λ (u : UnitBytes). byte_in u (get_or new i None)) (there Own i (λ is. absurd (omega (arith, after, is))))
        ∙ ap (byte_in (unit_of units i)) (raw_cell_after raw_cells (p * 512) 512 w long le i after)
        ∙ sym (kept_at units raw_cells i small))
        (cases_lt i (p * 512 + 512)))
        (cases_lt i (p * 512)))

    pub owned_kept : AreKept (slice_set units p Own) (with_raw_cells raw_cells (p * 512) 512 w)
    owned_kept = record {
      count = length_with raw_cells (p * 512) 512 w long le ∙ kept.count ∙ ap (λ (n : ℕ). 512 * n) (sym (length-set units p Own));
      own = λ i own. ⊎_elim
          (λ before. ap is_some (raw_cell_before raw_cells (p * 512) 512 w long le i before) ∙ kept.own i (sym (there Own i (λ is. absurd (omega (arith, before, is)))) ∙ own))
          (λ above. ⊎_elim
          (λ inside. raw_cell_inside raw_cells (p * 512) 512 w long le i above inside)
          (λ after. ap is_some (raw_cell_after raw_cells (p * 512) 512 w long le i after) ∙ kept.own i (sym (there Own i (λ is. absurd (omega (arith, after, is)))) ∙ own))
          (cases_lt i (p * 512 + 512)))
          (cases_lt i (p * 512));
    }

-- ---- bytes of a range are read
module _ (units : List UnitBytes) (raw_cells : List (Option ℕ)) (from len : ℕ) (le : from + len ≤ length raw_cells) where
  part_long : (xs : List ℕ) → length xs ≡ length raw_cells → length (take len (drop from xs)) ≡ len
  part_long xs as_many = omega (arith, le, as_many, length-take len (drop from xs), length-drop from xs)

  part_at : (xs : List ℕ) (i : ℕ) → i < len → get_or (take len (drop from xs)) i 0 ≡ get_or xs (from + i) 0
  part_at xs i lt = get_or-take len (drop from xs) i 0 lt ∙ get_or-drop from xs i 0

  -- where its units have bytes of their own
  pub own_part : ((i : ℕ) → from ≤ i → i < from + len → unit_of units i ≡ Own) → take len (drop from (bytes_of raw_cells)) ≡ take len (drop from (bytes_kept units raw_cells))
  own_part owned =
      let all = bytes_of raw_cells in
      let b = bytes_kept units raw_cells in
      let count : length (take len (drop from all)) ≡ len = part_long all (length-map raw_cells byte_of) in
      ext_get_or 0 (take len (drop from all)) (take len (drop from b)) (count ∙ sym (part_long b (kept_long units raw_cells)))
      (λ i lt. let small : i < len = omega (arith, lt, count) in
      part_at all i small ∙ get_or-map byte_of raw_cells (from + i) None 0 (omega (arith, small, le))
      ∙ sym (part_at b i small ∙ kept_at units raw_cells (from + i) (omega (arith, small, le))
      ∙ ap (λ (u : UnitBytes). byte_in u (get_or raw_cells (from + i) None)) (owned (from + i) (omega arith) (omega (arith, small)))))

  -- where its units keep one byte
  pub same_part : (byte : ℕ) → ((i : ℕ) → from ≤ i → i < from + len → unit_of units i ≡ Same byte) → replicate len byte ≡ take len (drop from (bytes_kept units raw_cells))
  same_part byte same =
      let b = bytes_kept units raw_cells in
      ext_get_or 0 (replicate len byte) (take len (drop from b)) (length-replicate len byte ∙ sym (part_long b (kept_long units raw_cells)))
      (λ i lt. let small : i < len = omega (arith, lt, length-replicate {A = ℕ} len byte) in
      get_or-replicate len i byte 0 small
      ∙ sym (part_at b i small ∙ kept_at units raw_cells (from + i) (omega (arith, small, le))
      ∙ ap (λ (u : UnitBytes). byte_in u (get_or raw_cells (from + i) None)) (same (from + i) (omega arith) (omega (arith, small)))))

-- a range whose units have bytes of their own is filled
pub own_filled : (units : List UnitBytes) (raw_cells : List (Option ℕ)) (from len : ℕ) → AreKept units raw_cells → from + len ≤ length raw_cells
    → ((i : ℕ) → from ≤ i → i < from + len → unit_of units i ≡ Own) → IsFilled raw_cells from len
own_filled units raw_cells from len kept le owned = filled_part raw_cells from len le (λ i low high. kept.own i (owned i low high))

-- a range whose units have bytes of their own is written
pub own_refilled : (units : List UnitBytes) (raw_cells : List (Option ℕ)) (from len : ℕ) (w : List ℕ) → AreKept units raw_cells → from + len ≤ length raw_cells
    → ((i : ℕ) → from ≤ i → i < from + len → unit_of units i ≡ Own)
    → bytes_kept units (with_raw_cells raw_cells from len (refill len (take len (drop from (bytes_of raw_cells))) w)) ≡ with_part (bytes_kept units raw_cells) from len w
own_refilled units raw_cells from len w kept le owned =
    own_written units raw_cells from len (refill len (take len (drop from (bytes_of raw_cells))) w) kept (refill_count raw_cells from len w le) le owned
    ∙ ap (λ (l : List ℕ). over (bytes_kept units raw_cells) from len (refill len l w)) (own_part units raw_cells from len le owned)

-- units of a range at whose front they keep the same
pub front_unit : (units : List UnitBytes) (from len n end : ℕ) (unit : UnitBytes) → n ≡ min len (end * 512 - from) → from / 512 < end
    → ((p : ℕ) → from / 512 ≤ p → p < end → get_or units p (Same 0) ≡ get_or units (from / 512) (Same 0)) → get_or units (from / 512) (Same 0) ≡ unit
    → (i : ℕ) → from ≤ i → i < from + n → unit_of units i ≡ unit
front_unit units from len n end unit count some same first i low high = same (i / 512) (omega (arith, low)) (omega (arith, count, high, low)) ∙ first
