use Rattle.std.proofs.Common.{◌≡◌, ℕ, ◌+◌, ◌/◌, ◌<◌, ◌≤◌, ◌⊎◌, List, length, take, drop, sym, ap, ◌∙◌, subst, refl, arith}
use Rattle.std.specs.List.{refill}
use Rattle.std.specs.Prelude.{get_or}
use Rattle.hm_frames.specs.declared.unit.UnitBytes.{UnitBytes}
use Rattle.hm_frames.specs.declared.unit.UnitBytes.TheVariants.{Same, Own}
use Rattle.hm_frames.specs.RawCells.{bytes_of, with_raw_cells}
use Rattle.hm_frames.specs.Part.{with_part}
use Rattle.hm_frames.specs.Units.{unit_of, bytes_kept, own_units, AreKept}
use Rattle.hm_frames.specs.OwnUnits.{KeptRun, with_lent}
use Rattle.hm_frames.proofs.Written.{length_with}
use Rattle.hm_frames.proofs.Keeping.{kept_long, known_items, refill_count, own_filled, own_kept, own_refilled, own_part}
use Rattle.hm_frames.proofs.Owning.{bytes_are, lent_units}
use Rattle.hm_frames.proofs.unit_run.UnitRun.part_mut.Goals as goal

pub part_mut-requires : goal.part_mut-requires
part_mut-requires c =
    let owned = c.make_all_own.ensures in let units = c.make_all_own.new.units in let raw_cells = c.make_all_own.new.contents.raw_cells in
    let bytes : bytes_kept units raw_cells ≡ c.args.self.now.bytes = owned.same ∙ ap (λ (l : List UnitBytes). bytes_kept l c.self.inside.contents.raw_cells) c.deref_mut.ensures.value ∙ bytes_are c.self.view_is in
    let within : c.args.from + c.args.len ≤ length raw_cells = omega (arith, c.requires, ap (λ (l : List ℕ). length l) bytes, kept_long units raw_cells) in (
      sym c.self.invariant.contents_at ∙ sym owned.at,
      own_filled units raw_cells c.args.from c.args.len owned.kept within (λ i low high. owned.own (i / 512) (omega (arith, low)) (omega (arith, high))),
    )

pub invariant_of-self-lent : goal.invariant_of-self-lent
invariant_of-self-lent c w =
    let inv = c.self.invariant in let from = c.args.from in let len = c.args.len in let old = c.self.inside.units in
    let owned = c.make_all_own.ensures in let units = c.make_all_own.new.units in let raw_cells = c.make_all_own.new.contents.raw_cells in
    let bytes : bytes_kept units raw_cells ≡ c.args.self.now.bytes = owned.same ∙ ap (λ (l : List UnitBytes). bytes_kept l c.self.inside.contents.raw_cells) c.deref_mut.ensures.value ∙ bytes_are c.self.view_is in
    let within : from + len ≤ length raw_cells = omega (arith, c.requires, ap (λ (l : List ℕ). length l) bytes, kept_long units raw_cells) in
    let ws = refill len (take len (drop from (bytes_of raw_cells))) w in
    let count : length ws ≡ len = refill_count raw_cells from len w within in
    let items = known_items old.len units old.items (owned.count ∙ c.deref_mut.ensures.len) in
    record {
      kept = subst (λ (l : List UnitBytes). AreKept l (with_raw_cells raw_cells from len ws)) (sym items)
          (own_kept units raw_cells from len ws owned.kept count within (λ i low high. owned.own (i / 512) (omega (arith, low)) (omega (arith, high))));
      few = omega (arith, inv.few, ap (λ (l : List UnitBytes). length l) items, owned.count, ap (λ (l : List UnitBytes). length l) c.deref_mut.ensures.value);
      long = length_with raw_cells from len ws count within
          ∙ omega (arith, kept_long units raw_cells, ap (λ (l : List ℕ). length l) (bytes ∙ sym (bytes_are c.self.view_is)), kept_long old.items c.self.inside.contents.raw_cells) ∙ inv.long;
      contents_at = owned.at ∙ inv.contents_at;
      lease_at = inv.lease_at;
      lease_len = inv.lease_len;
      lease_alloc = inv.lease_alloc;
    }

pub returns : goal.returns
returns c =
    let from = c.args.from in let len = c.args.len in let old = c.self.inside.units in
    let owned = c.make_all_own.ensures in let units = c.make_all_own.new.units in let raw_cells = c.make_all_own.new.contents.raw_cells in
    let bytes : bytes_kept units raw_cells ≡ c.args.self.now.bytes = owned.same ∙ ap (λ (l : List UnitBytes). bytes_kept l c.self.inside.contents.raw_cells) c.deref_mut.ensures.value ∙ bytes_are c.self.view_is in
    let within : from + len ≤ length raw_cells = omega (arith, c.requires, ap (λ (l : List ℕ). length l) bytes, kept_long units raw_cells) in
    let items = known_items old.len units old.items (owned.count ∙ c.deref_mut.ensures.len) in
    let others = λ (p : ℕ) (e : (p < from / 512) ⊎ ((from + len + 511) / 512 ≤ p)). owned.others p e ∙ ap (λ (l : List UnitBytes). get_or l p (Same 0)) c.deref_mut.ensures.value in
    let own : (i : ℕ) → from ≤ i → i < from + len → unit_of units i ≡ Own = λ i low high. owned.own (i / 512) (omega (arith, low)) (omega (arith, high)) in (
      (
        refl,
        λ w. (let bytes_w = ap (λ (l : List UnitBytes). bytes_kept l (with_raw_cells raw_cells from len (refill len (take len (drop from (bytes_of raw_cells))) w))) items
            ∙ own_refilled units raw_cells from len w owned.kept within own
            ∙ ap (λ (l : List ℕ). with_part l from len w) bytes in
            let own_w = ap own_units items ∙ lent_units units old.items from len _ (owned.count ∙ ap (λ (l : List UnitBytes). length l) c.deref_mut.ensures.value) refl owned.own others
            ∙ ap (λ (r : KeptRun). with_lent r.own from len) c.self.view_is in
            λ i. record { bytes = bytes_w i; own = own_w i }),
      ),
      record { writes_back = tt; value = c.part_mut.ensures.value ∙ own_part units raw_cells from len within own ∙ ap (λ (l : List ℕ). take len (drop from l)) bytes },
    )
