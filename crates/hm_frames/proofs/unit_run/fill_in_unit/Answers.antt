use Rattle.std.proofs.Common.{rules, ◌≡◌, ℕ, ◌+◌, ◌*◌, ◌/◌, ◌<◌, ◌≤◌, List, length, replicate, Option, sym, ap, ◌∙◌, subst, arith}
use Rattle.std.proofs.lemmas.List.{length-replicate}
use Rattle.std.specs.Prelude.{get_or}
use Rattle.hm_frames.specs.declared.unit.UnitBytes.{UnitBytes}
use Rattle.hm_frames.specs.declared.unit.UnitBytes.TheVariants.{Same, Own}
use Rattle.hm_frames.specs.Units.{unit_of, bytes_kept, AreKept}
use Rattle.hm_frames.specs.Part.{over}
use Rattle.hm_frames.proofs.Keeping.{same_written, own_written, own_kept, same_part}
use Rattle.hm_frames.proofs.Over.{over_same, over_moved}
use Rattle.hm_frames.proofs.unit_run.fill_in_unit.Goals as goal

pub returns-then-len-eq-UNIT-clause-filled : goal.returns-then-len-eq-UNIT-clause-filled
returns-then-len-eq-UNIT-clause-filled c =
    let units = c.args.units.now in let raw_cells = c.args.contents.now.raw_cells in let from = c.args.from in let unit = from / 512 in
    let begins : 512 * unit ≡ from = omega (arith, c.requires.one, c.if-len-eq-UNIT.true) in
    let within : unit < length units = omega (arith, c.requires.within, c.requires.kept.count, c.if-len-eq-UNIT.true) in
    same_written units raw_cells unit c.args.byte c.requires.kept within
    ∙ over_moved (bytes_kept units raw_cells) (512 * unit) 512 from c.args.len c.args.byte begins (sym c.if-len-eq-UNIT.true)

-- the unit of each cell of the range
in_unit : (units : List UnitBytes) (from len : ℕ) (u : UnitBytes) → from + len ≤ 512 * (from / 512) + 512 → get_or units (from / 512) (Same 0) ≡ u
    → (i : ℕ) → from ≤ i → i < from + len → unit_of units i ≡ u
in_unit units from len u one is i low high = ap (λ (k : ℕ). get_or units k (Same 0)) {x = i / 512} {y = from / 512} (omega (arith, one, low, high)) ∙ is

pub returns-then-ne-clause-kept : goal.returns-then-ne-clause-kept
returns-then-ne-clause-kept c =
    let own = c.make_own.ensures in let units = c.make_own.new.units in let raw_cells = c.make_own.new.contents.raw_cells in
    let from = c.args.from in let len = c.args.len in
    let within : from + len ≤ length raw_cells = omega (arith, own.kept.count, own.count, c.requires.kept.count, c.requires.within) in
    subst (λ (l : List (Option ℕ)). AreKept units l) (sym c.fill.ensures.1)
    (own_kept units raw_cells from len (replicate len c.args.byte) own.kept (length-replicate len c.args.byte) within (in_unit units from len Own c.requires.one own.own))

pub returns-then-ne-clause-filled : goal.returns-then-ne-clause-filled
returns-then-ne-clause-filled c =
    let own = c.make_own.ensures in let units = c.make_own.new.units in let raw_cells = c.make_own.new.contents.raw_cells in
    let from = c.args.from in let len = c.args.len in let w : List ℕ = replicate len c.args.byte in
    let within : from + len ≤ length raw_cells = omega (arith, own.kept.count, own.count, c.requires.kept.count, c.requires.within) in
    ap (λ (l : List (Option ℕ)). bytes_kept units l) c.fill.ensures.1
    ∙ own_written units raw_cells from len w own.kept (length-replicate len c.args.byte) within (in_unit units from len Own c.requires.one own.own)
    ∙ ap (λ (l : List ℕ). over l from len w) own.same

pub returns-else-ne-clause-filled : goal.returns-else-ne-clause-filled
returns-else-ne-clause-filled c =
    let units = c.args.units.now in let raw_cells = c.args.contents.now.raw_cells in let from = c.args.from in let len = c.args.len in let byte = c.args.byte in
    let bytes = bytes_kept units raw_cells in
    let is : get_or units (from / 512) (Same 0) ≡ Same byte = search rules in
    sym (ap (λ (w : List ℕ). over bytes from len w) (same_part units raw_cells from len c.requires.within byte (in_unit units from len (Same byte) c.requires.one is))
    ∙ over_same bytes from len)
