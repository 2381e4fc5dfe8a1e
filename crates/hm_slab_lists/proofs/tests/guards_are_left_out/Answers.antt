use Rattle.std.proofs.Common.{◌≡◌, true, ap, ◌∙◌}
use Rattle.std.proofs.lemmas.Cmp.{nat_cmp_total}
use Rattle.std.proofs.lemmas.Option.{same_Some}
use Rattle.std.specs.Prelude.{Some, option_map, slice_get}
use Rattle.std.specs.FinMap as finite
use Rattle.std.specs.FinMap.{get-insert}
use Rattle.hm_slab_meta.specs.Uses.{SlabUse, is_available, fresh_slab}
use Rattle.hm_slab_lists.specs.Table.{Table, opened_fresh}
use Rattle.hm_slab_lists.proofs.tests.guards_are_left_out.Goals as goal

-- the slab that was opened last has one slot, which is available
fresh_there : (old new : Table) (meta : SlabUse) → new ≡ opened_fresh 0 old → old.slots ≡ 1 → Some meta ≡ finite.get new.metas 0
    → option_map is_available (slice_get meta.slots 0) ≡ Some true
fresh_there old new meta opened slots is =
    let fresh : Some meta ≡ Some (fresh_slab 1) =
    is ∙ ap (λ (t : Table). finite.get t.metas 0) opened ∙ get-insert nat_cmp_total old.metas 0 (fresh_slab old.slots) 0
    ∙ ap (λ n. Some (fresh_slab n)) slots in
    ap (λ (m : SlabUse). option_map is_available (slice_get m.slots 0)) (same_Some meta (fresh_slab 1) fresh)

pub give-requires : goal.give-requires
give-requires g c =
    fresh_there c.reserve_one.new.self c.open_fresh.new.self c.in-Some.meta.now c.open_fresh.ensures
    (ap (λ (t : Table). t.slots) c.reserve_one.ensures.rest ∙ ap (λ (t : Table). t.slots) c.in_ok-lists.ensures) c.in-Some.ensures.value
