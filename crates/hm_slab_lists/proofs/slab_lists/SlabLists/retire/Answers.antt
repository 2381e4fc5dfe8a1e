use Rattle.std.proofs.Common.{ℕ, List, subst, sym, ap, ◌∙◌, refl, arith}
use Rattle.std.proofs.Math.ListN.{set}
use Rattle.std.specs.Prelude.{Option, Some, None}
use Rattle.hm_slab_lists.specs.declared.slab.ListName.TheVariants.{Retired}
use Rattle.hm_slab_lists.specs.Lists.{gone, ended, IsLoose}
use Rattle.hm_slab_lists.specs.Chained.{Chained}
use Rattle.hm_slab_lists.specs.Table.{shown, IsTable}
use Rattle.hm_slab_lists.proofs.Tables.{stands, open_list, then_gone, read_slot, parking_within, ended_is, table_parked, table_retired, waits, shown_retired, shown_unparked}
use Rattle.hm_slab_lists.proofs.slab_lists.SlabLists.retire.Goals as goal

pub take_out-requires : goal.take_out-requires
take_out-requires c =
    let listed = open_list c.args.n c.args.self.now c.requires.«open» in
    (stands c.self.inside.chains c.self.inside.parking.items c.self.inside.limit c.self.inside.guard_interval c.self.inside.slots c.args.n c.index_in-index.result c.args.self.now listed.0 c.self.invariant c.self.view_is c.index_in-index.ensures.opened listed.1).below

pub invariant_of-self : goal.invariant_of-self
invariant_of-self c =
    let listed = open_list c.args.n c.args.self.now c.requires.«open» in
    let at = stands c.self.inside.chains c.self.inside.parking.items c.self.inside.limit c.self.inside.guard_interval c.self.inside.slots c.args.n c.index_in-index.result c.args.self.now listed.0 c.self.invariant c.self.view_is c.index_in-index.ensures.opened listed.1 in
    let within = parking_within c.self.inside.chains c.self.inside.parking.items c.self.inside.limit c.self.inside.guard_interval c.self.inside.slots c.args.park c.args.self.now c.self.view_is c.requires.park in
    subst (λ (l : List (Option ℕ)). IsTable c.take_out.new.self l c.self.inside.limit c.self.inside.guard_interval c.self.inside.slots) (sym (ap (λ (o : Option ℕ). set c.self.inside.parking.items c.args.park o) c.replace.ensures.after))
    (subst (λ (k : Chained). IsTable k (set c.self.inside.parking.items c.args.park (Some c.args.n)) c.self.inside.limit c.self.inside.guard_interval c.self.inside.slots) (sym c.take_out.ensures.changed)
    (table_parked c.self.inside.chains c.self.inside.parking.items c.self.inside.limit c.self.inside.guard_interval c.self.inside.slots c.index_in-index.result c.args.park c.args.n c.self.invariant within at))

pub returns-in_err-before-clause-changed : goal.returns-in_err-before-clause-changed
returns-in_err-before-clause-changed c =
    let listed = open_list c.args.n c.args.self.now c.requires.«open» in
    let at = stands c.self.inside.chains c.self.inside.parking.items c.self.inside.limit c.self.inside.guard_interval c.self.inside.slots c.args.n c.index_in-index.result c.args.self.now listed.0 c.self.invariant c.self.view_is c.index_in-index.ensures.opened listed.1 in
    let within = parking_within c.self.inside.chains c.self.inside.parking.items c.self.inside.limit c.self.inside.guard_interval c.self.inside.slots c.args.park c.args.self.now c.self.view_is c.requires.park in
    let was = read_slot c.self.inside.parking.items c.args.park c.index_mut.result.now within c.index_mut.ensures.value in
    ap (λ (l : List (Option ℕ)). shown c.take_out.new.self l c.self.inside.limit c.self.inside.guard_interval c.self.inside.slots) (ap (λ (o : Option ℕ). set c.self.inside.parking.items c.args.park o) c.replace.ensures.after)
    ∙ ap (λ (k : Chained). shown k (set c.self.inside.parking.items c.args.park (Some c.args.n)) c.self.inside.limit c.self.inside.guard_interval c.self.inside.slots) c.take_out.ensures.changed
    ∙ shown_retired c.self.inside.chains c.self.inside.parking.items c.self.inside.limit c.self.inside.guard_interval c.self.inside.slots c.args.n c.index_in-index.result c.args.park None (gone c.index_in-index.result c.self.inside.chains.lists) c.args.self.now c.self.invariant.guards_some c.self.invariant.guards_most at.number c.self.view_is (was.1 ∙ sym c.in_err-before.ensures.value) refl

pub put_last-requires-clause-at : goal.put_last-requires-clause-at
put_last-requires-clause-at c =
    let listed = open_list c.args.n c.args.self.now c.requires.«open» in
    let at = stands c.self.inside.chains c.self.inside.parking.items c.self.inside.limit c.self.inside.guard_interval c.self.inside.slots c.args.n c.index_in-index.result c.args.self.now listed.0 c.self.invariant c.self.view_is c.index_in-index.ensures.opened listed.1 in
    let within = parking_within c.self.inside.chains c.self.inside.parking.items c.self.inside.limit c.self.inside.guard_interval c.self.inside.slots c.args.park c.args.self.now c.self.view_is c.requires.park in
    let was = read_slot c.self.inside.parking.items c.args.park c.index_mut.result.now within c.index_mut.ensures.value in
    let stood = was.0 ∙ ap (λ (o : Option ℕ). Some o) (sym c.in_ok-before.ensures.value) in
    let same = then_gone c.self.inside.chains c.take_out.new.self c.index_in-index.result c.take_out.ensures.changed in
    let wait = waits c.self.inside.chains c.self.inside.parking.items c.self.inside.limit c.self.inside.guard_interval c.self.inside.slots c.args.park c.args.n c.index_in-index.result c.in_ok-before.before c.index_in-index-2.result c.self.invariant at stood (λ i below number. c.index_in-index-2.ensures.opened i (omega (arith, below, same)) number) in
    omega (arith, wait.below, same)

pub put_last-requires-clause-loose : goal.put_last-requires-clause-loose
put_last-requires-clause-loose c =
    let listed = open_list c.args.n c.args.self.now c.requires.«open» in
    let at = stands c.self.inside.chains c.self.inside.parking.items c.self.inside.limit c.self.inside.guard_interval c.self.inside.slots c.args.n c.index_in-index.result c.args.self.now listed.0 c.self.invariant c.self.view_is c.index_in-index.ensures.opened listed.1 in
    let within = parking_within c.self.inside.chains c.self.inside.parking.items c.self.inside.limit c.self.inside.guard_interval c.self.inside.slots c.args.park c.args.self.now c.self.view_is c.requires.park in
    let was = read_slot c.self.inside.parking.items c.args.park c.index_mut.result.now within c.index_mut.ensures.value in
    let stood = was.0 ∙ ap (λ (o : Option ℕ). Some o) (sym c.in_ok-before.ensures.value) in
    let same = then_gone c.self.inside.chains c.take_out.new.self c.index_in-index.result c.take_out.ensures.changed in
    let wait = waits c.self.inside.chains c.self.inside.parking.items c.self.inside.limit c.self.inside.guard_interval c.self.inside.slots c.args.park c.args.n c.index_in-index.result c.in_ok-before.before c.index_in-index-2.result c.self.invariant at stood (λ i below number. c.index_in-index-2.ensures.opened i (omega (arith, below, same)) number) in
    subst (λ (k : Chained). IsLoose c.index_in-index-2.result k.lists) (sym c.take_out.ensures.changed) wait.loose

pub invariant_of-self-2 : goal.invariant_of-self-2
invariant_of-self-2 c =
    let listed = open_list c.args.n c.args.self.now c.requires.«open» in
    let at = stands c.self.inside.chains c.self.inside.parking.items c.self.inside.limit c.self.inside.guard_interval c.self.inside.slots c.args.n c.index_in-index.result c.args.self.now listed.0 c.self.invariant c.self.view_is c.index_in-index.ensures.opened listed.1 in
    let within = parking_within c.self.inside.chains c.self.inside.parking.items c.self.inside.limit c.self.inside.guard_interval c.self.inside.slots c.args.park c.args.self.now c.self.view_is c.requires.park in
    let was = read_slot c.self.inside.parking.items c.args.park c.index_mut.result.now within c.index_mut.ensures.value in
    let stood = was.0 ∙ ap (λ (o : Option ℕ). Some o) (sym c.in_ok-before.ensures.value) in
    let same = then_gone c.self.inside.chains c.take_out.new.self c.index_in-index.result c.take_out.ensures.changed in
    let wait = waits c.self.inside.chains c.self.inside.parking.items c.self.inside.limit c.self.inside.guard_interval c.self.inside.slots c.args.park c.args.n c.index_in-index.result c.in_ok-before.before c.index_in-index-2.result c.self.invariant at stood (λ i below number. c.index_in-index-2.ensures.opened i (omega (arith, below, same)) number) in
    subst (λ (l : List (Option ℕ)). IsTable c.put_last.new.self l c.self.inside.limit c.self.inside.guard_interval c.self.inside.slots) (sym (ap (λ (o : Option ℕ). set c.self.inside.parking.items c.args.park o) c.replace.ensures.after))
    (subst (λ (k : Chained). IsTable k (set c.self.inside.parking.items c.args.park (Some c.args.n)) c.self.inside.limit c.self.inside.guard_interval c.self.inside.slots) (sym (ended_is c.self.inside.chains c.take_out.new.self c.put_last.new.self c.index_in-index.result c.index_in-index-2.result c.take_out.ensures.changed c.put_last.ensures))
    (table_retired c.self.inside.chains c.self.inside.parking.items c.self.inside.limit c.self.inside.guard_interval c.self.inside.slots c.args.park c.args.n c.index_in-index.result c.in_ok-before.before c.index_in-index-2.result c.self.invariant within at stood wait))

pub returns-clause-changed : goal.returns-clause-changed
returns-clause-changed c =
    let listed = open_list c.args.n c.args.self.now c.requires.«open» in
    let at = stands c.self.inside.chains c.self.inside.parking.items c.self.inside.limit c.self.inside.guard_interval c.self.inside.slots c.args.n c.index_in-index.result c.args.self.now listed.0 c.self.invariant c.self.view_is c.index_in-index.ensures.opened listed.1 in
    let within = parking_within c.self.inside.chains c.self.inside.parking.items c.self.inside.limit c.self.inside.guard_interval c.self.inside.slots c.args.park c.args.self.now c.self.view_is c.requires.park in
    let was = read_slot c.self.inside.parking.items c.args.park c.index_mut.result.now within c.index_mut.ensures.value in
    let stood = was.0 ∙ ap (λ (o : Option ℕ). Some o) (sym c.in_ok-before.ensures.value) in
    let same = then_gone c.self.inside.chains c.take_out.new.self c.index_in-index.result c.take_out.ensures.changed in
    let wait = waits c.self.inside.chains c.self.inside.parking.items c.self.inside.limit c.self.inside.guard_interval c.self.inside.slots c.args.park c.args.n c.index_in-index.result c.in_ok-before.before c.index_in-index-2.result c.self.invariant at stood (λ i below number. c.index_in-index-2.ensures.opened i (omega (arith, below, same)) number) in
    ap (λ (l : List (Option ℕ)). shown c.put_last.new.self l c.self.inside.limit c.self.inside.guard_interval c.self.inside.slots) (ap (λ (o : Option ℕ). set c.self.inside.parking.items c.args.park o) c.replace.ensures.after)
    ∙ ap (λ (k : Chained). shown k (set c.self.inside.parking.items c.args.park (Some c.args.n)) c.self.inside.limit c.self.inside.guard_interval c.self.inside.slots) (ended_is c.self.inside.chains c.take_out.new.self c.put_last.new.self c.index_in-index.result c.index_in-index-2.result c.take_out.ensures.changed c.put_last.ensures)
    ∙ shown_retired c.self.inside.chains c.self.inside.parking.items c.self.inside.limit c.self.inside.guard_interval c.self.inside.slots c.args.n c.index_in-index.result c.args.park (Some c.in_ok-before.before) (ended Retired c.index_in-index-2.result (gone c.index_in-index.result c.self.inside.chains.lists)) c.args.self.now c.self.invariant.guards_some c.self.invariant.guards_most at.number c.self.view_is
    (was.1 ∙ sym c.in_ok-before.ensures.value) (shown_unparked c.self.inside.guard_interval c.index_in-index.result c.in_ok-before.before c.index_in-index-2.result c.self.inside.chains.lists wait.number)
