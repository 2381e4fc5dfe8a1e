use Rattle.std.proofs.Common.{◌≡◌, ℕ, ◌+◌, ◌/◌, ◌<◌, ◌≤◌, List, length, take, drop, sym, ap, ◌∙◌, subst, arith}
use Rattle.std.proofs.lemmas.List.{length-map, length-take, length-drop, length-replicate, get_or_default}
use Rattle.std.specs.Prelude.{get_or}
use Rattle.hm_frames.specs.declared.unit.UnitBytes.{UnitBytes}
use Rattle.hm_frames.specs.declared.unit.UnitBytes.TheVariants.{Same, Own}
use Rattle.hm_frames.specs.RawCells.{byte_of, bytes_of}
use Rattle.hm_frames.specs.OwnUnits.{KeptRun}
use Rattle.hm_frames.proofs.Keeping.{kept_long, front_unit, own_filled, own_part, same_part}
use Rattle.hm_frames.proofs.unit_run.UnitRun.front.Goals as goal

-- the first unit, and those that keep the same
first_is : (units : List UnitBytes) (first : ℕ) (read unit : UnitBytes) → first < length units → read ≡ get_or units first read → read ≡ unit → get_or units first (Same 0) ≡ unit
first_is units first read unit lt found is = get_or_default units first (Same 0) read lt ∙ sym found ∙ is

same_items : (seen units : List UnitBytes) (first end : ℕ) → seen ≡ units
    → ((p : ℕ) → first ≤ p → p < end → get_or seen p (Same 0) ≡ get_or seen first (Same 0))
    → (p : ℕ) → first ≤ p → p < end → get_or units p (Same 0) ≡ get_or units first (Same 0)
same_items seen units first end is same = subst (λ (l : List UnitBytes). (p : ℕ) → first ≤ p → p < end → get_or l p (Same 0) ≡ get_or l first (Same 0)) is same

pub part-requires : goal.part-requires
part-requires c =
    let units = c.self.inside.units.items in let raw_cells = c.self.inside.contents.raw_cells in let from = c.args.from in let n = c.min-count.result in
    let within : from + c.args.len ≤ length raw_cells = omega (arith, c.requires.within, ap (λ (r : KeptRun). length r.bytes) c.self.view_is, kept_long units raw_cells) in
    let some : from / 512 < length units = omega (arith, within, c.requires.some, c.self.invariant.kept.count) in
    let first = first_is units (from / 512) c.index.result.now Own some c.index.ensures c.in-Own.is in
    let end = c.same_end-end.result in
    let same = same_items c.deref.result.now units (from / 512) end c.deref.ensures.value c.same_end-end.ensures.same in (
      sym c.self.invariant.contents_at,
      own_filled units raw_cells from n c.self.invariant.kept (omega (arith, within, c.min-count.ensures))
          (front_unit units from c.args.len n end Own c.min-count.ensures c.same_end-end.ensures.some same first),
    )

pub returns-in-Same-clause-value : goal.returns-in-Same-clause-value
returns-in-Same-clause-value c =
    let units = c.self.inside.units.items in let raw_cells = c.self.inside.contents.raw_cells in let from = c.args.from in let n = c.min-count.result in
    let byte = c.in-Same.byte in let end = c.same_end-end.result in
    let within : from + c.args.len ≤ length raw_cells = omega (arith, c.requires.within, ap (λ (r : KeptRun). length r.bytes) c.self.view_is, kept_long units raw_cells) in
    let some : from / 512 < length units = omega (arith, within, c.requires.some, c.self.invariant.kept.count) in
    let first = first_is units (from / 512) c.index.result.now (Same byte) some c.index.ensures c.in-Same.is in
    let same = same_items c.deref.result.now units (from / 512) end c.deref.ensures.value c.same_end-end.ensures.same in
    same_part units raw_cells from n (omega (arith, within, c.min-count.ensures)) byte
    (front_unit units from c.args.len n end (Same byte) c.min-count.ensures c.same_end-end.ensures.some same first)
    ∙ ap (λ (r : KeptRun). take n (drop from r.bytes)) c.self.view_is
    ∙ ap (λ (k : ℕ). take k (drop from c.args.self.now.bytes)) (sym (length-replicate n byte))

pub returns-in-Own-clause-some : goal.returns-in-Own-clause-some
returns-in-Own-clause-some c =
    let units = c.self.inside.units.items in let raw_cells = c.self.inside.contents.raw_cells in let from = c.args.from in
    let within : from + c.args.len ≤ length raw_cells = omega (arith, c.requires.within, ap (λ (r : KeptRun). length r.bytes) c.self.view_is, kept_long units raw_cells) in
    let bytes = bytes_of raw_cells in
    omega (
      arith,
      within,
      c.requires.some,
      c.min-count.ensures,
      c.same_end-end.ensures.some,
      ap (λ (l : List ℕ). length l) c.part.ensures,
      length-take c.min-count.result (drop from bytes),
      length-drop from bytes,
      length-map raw_cells byte_of,
    )

pub returns-in-Own-clause-value : goal.returns-in-Own-clause-value
returns-in-Own-clause-value c =
    let units = c.self.inside.units.items in let raw_cells = c.self.inside.contents.raw_cells in let from = c.args.from in let n = c.min-count.result in
    let within : from + c.args.len ≤ length raw_cells = omega (arith, c.requires.within, ap (λ (r : KeptRun). length r.bytes) c.self.view_is, kept_long units raw_cells) in
    let some : from / 512 < length units = omega (arith, within, c.requires.some, c.self.invariant.kept.count) in
    let first = first_is units (from / 512) c.index.result.now Own some c.index.ensures c.in-Own.is in
    let end = c.same_end-end.result in
    let same = same_items c.deref.result.now units (from / 512) end c.deref.ensures.value c.same_end-end.ensures.same in
    let bytes = bytes_of raw_cells in
    let long : n ≡ length c.part.result.now = omega (
      arith,
      within,
      c.min-count.ensures,
      ap (λ (l : List ℕ). length l) c.part.ensures,
      length-take n (drop from bytes),
      length-drop from bytes,
      length-map raw_cells byte_of,
    ) in
    c.part.ensures
    ∙ own_part units raw_cells from n (omega (arith, within, c.min-count.ensures))
    (front_unit units from c.args.len n end Own c.min-count.ensures c.same_end-end.ensures.some same first)
    ∙ ap (λ (r : KeptRun). take n (drop from r.bytes)) c.self.view_is
    ∙ ap (λ (k : ℕ). take k (drop from c.args.self.now.bytes)) long
