use Rattle.std.proofs.Common.{◌≡◌, Bool, true, false, ap, ◌∙◌, refl, arith}
use Rattle.std.specs.Prelude.{Some, option_map}
use Rattle.hm_slab_meta.specs.declared.slab_meta.SlotState.TheVariants as state
use Rattle.hm_slab_meta.specs.Uses.{state_of}
use Rattle.hm_slab_meta.specs.Kept.{use_of}
use Rattle.hm_slab_meta.proofs.Slots.{slice_get-uses_of}
use Rattle.hm_slab_meta.proofs.slab_meta.SlabMeta.state.Goals as goal

pub contains-requires : goal.contains-requires
contains-requires c = let there = slice_get-uses_of c.self.inside.live c.self.inside.quarantined c.self.inside.condemned c.self.inside.given c.self.inside.slots c.self.inside.canary c.args.slot c.args.self.now c.self.view_is c.requires in omega (arith, there.0, c.self.invariant.few)

pub contains-requires-else-contains : goal.contains-requires-else-contains
contains-requires-else-contains c = let there = slice_get-uses_of c.self.inside.live c.self.inside.quarantined c.self.inside.condemned c.self.inside.given c.self.inside.slots c.self.inside.canary c.args.slot c.args.self.now c.self.view_is c.requires in omega (arith, there.0, c.self.invariant.few)

pub contains-requires-else-contains-2 : goal.contains-requires-else-contains-2
contains-requires-else-contains-2 c = let there = slice_get-uses_of c.self.inside.live c.self.inside.quarantined c.self.inside.condemned c.self.inside.given c.self.inside.slots c.self.inside.canary c.args.slot c.args.self.now c.self.view_is c.requires in omega (arith, there.0, c.self.invariant.few)

pub contains-requires-else-contains-3 : goal.contains-requires-else-contains-3
contains-requires-else-contains-3 c = let there = slice_get-uses_of c.self.inside.live c.self.inside.quarantined c.self.inside.condemned c.self.inside.given c.self.inside.slots c.self.inside.canary c.args.slot c.args.self.now c.self.view_is c.requires in omega (arith, there.0, c.self.invariant.few)

live_state : (l h c g : Bool) → true ≡ l → state_of (use_of l h c g) ≡ state.Live
live_state true h c g e = refl
live_state false h c g e = cc

quarantined_state : (l h c g : Bool) → false ≡ l → true ≡ h → state_of (use_of l h c g) ≡ state.Quarantined
quarantined_state true h c g e f = cc
quarantined_state false true c g e f = refl
quarantined_state false false c g e f = cc

condemned_state : (l h c g : Bool) → false ≡ l → false ≡ h → true ≡ c → state_of (use_of l h c g) ≡ state.Condemned
condemned_state true h c g e f k = cc
condemned_state false true c g e f k = cc
condemned_state false false true g e f k = refl
condemned_state false false false g e f k = cc

free_state : (l h c g : Bool) → false ≡ l → false ≡ h → false ≡ c → true ≡ g → state_of (use_of l h c g) ≡ state.Free
free_state true h c g e f k m = cc
free_state false true c g e f k m = cc
free_state false false true g e f k m = cc
free_state false false false true e f k m = refl
free_state false false false false e f k m = cc

never_state : (l h c g : Bool) → false ≡ l → false ≡ h → false ≡ c → false ≡ g → state_of (use_of l h c g) ≡ state.Never
never_state true h c g e f k m = cc
never_state false true c g e f k m = cc
never_state false false true g e f k m = cc
never_state false false false true e f k m = cc
never_state false false false false e f k m = refl

pub returns-then-contains : goal.returns-then-contains
returns-then-contains c =
    let there = slice_get-uses_of c.self.inside.live c.self.inside.quarantined c.self.inside.condemned c.self.inside.given c.self.inside.slots c.self.inside.canary c.args.slot c.args.self.now c.self.view_is c.requires in
    ap (option_map state_of) there.1 ∙ ap (λ s. Some s) (live_state _ _ _ _ c.if-contains.ensures)

pub returns-then-contains-2 : goal.returns-then-contains-2
returns-then-contains-2 c =
    let there = slice_get-uses_of c.self.inside.live c.self.inside.quarantined c.self.inside.condemned c.self.inside.given c.self.inside.slots c.self.inside.canary c.args.slot c.args.self.now c.self.view_is c.requires in
    ap (option_map state_of) there.1 ∙ ap (λ s. Some s) (quarantined_state _ _ _ _ c.if-contains.ensures c.if-contains-2.ensures)

pub returns-then-contains-3 : goal.returns-then-contains-3
returns-then-contains-3 c =
    let there = slice_get-uses_of c.self.inside.live c.self.inside.quarantined c.self.inside.condemned c.self.inside.given c.self.inside.slots c.self.inside.canary c.args.slot c.args.self.now c.self.view_is c.requires in
    ap (option_map state_of) there.1 ∙ ap (λ s. Some s) (condemned_state _ _ _ _ c.if-contains.ensures c.if-contains-2.ensures c.if-contains-3.ensures)

pub returns-then-contains-4 : goal.returns-then-contains-4
returns-then-contains-4 c =
    let there = slice_get-uses_of c.self.inside.live c.self.inside.quarantined c.self.inside.condemned c.self.inside.given c.self.inside.slots c.self.inside.canary c.args.slot c.args.self.now c.self.view_is c.requires in
    ap (option_map state_of) there.1 ∙ ap (λ s. Some s) (free_state _ _ _ _ c.if-contains.ensures c.if-contains-2.ensures c.if-contains-3.ensures c.if-contains-4.ensures)

pub returns-else-contains-4 : goal.returns-else-contains-4
returns-else-contains-4 c =
    let there = slice_get-uses_of c.self.inside.live c.self.inside.quarantined c.self.inside.condemned c.self.inside.given c.self.inside.slots c.self.inside.canary c.args.slot c.args.self.now c.self.view_is c.requires in
    ap (option_map state_of) there.1 ∙ ap (λ s. Some s) (never_state _ _ _ _ c.if-contains.ensures c.if-contains-2.ensures c.if-contains-3.ensures c.if-contains-4.ensures)
