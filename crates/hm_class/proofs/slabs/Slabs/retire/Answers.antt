use Rattle.std.proofs.Common.{ℕ, List, ◌∙◌, Some, None, Option, slice_set, slice_index_or, sym, ap, subst, refl, arith}
use Rattle.hm_slab_lists.specs.Lists.{Lists, gone}
use Rattle.hm_slab_lists.specs.Table.{Table, unparked}
use Rattle.hm_class.specs.Slabs.{Slabs, IsFiled, uses_of, numbers_in}
use Rattle.hm_class.specs.Uses.{Uses, open_at, changed, with_canary, lives, live_count}
use Rattle.hm_class.proofs.Listing.{shuts, uses_retired, filed_retired}
use Rattle.hm_class.proofs.Tables.{open_is, open_now}
use Rattle.hm_class.proofs.Used.{changed_twice, count_changed, open_changed, open_there}
use Rattle.hm_class.proofs.slabs.Slabs.retire.Goals as goal

pub retire-requires-clause-open : goal.retire-requires-clause-open
retire-requires-clause-open c =
    let b = open_there c.args.self.now.slabs c.args.slab c.requires.«open» in
    let on = open_now c.self.inside.lists c.args.slab c.set_canary.new.self c.self.invariant.0 c.self.view_is
    (ap (λ (u : Uses). open_at u c.args.slab) c.set_canary.ensures.slabs ∙ open_changed c.args.self.now.slabs c.args.slab (with_canary 0) b.0 b.1 refl ∙ c.requires.«open») in
    on

pub invariant_of-self : goal.invariant_of-self
invariant_of-self c =
    let b = open_there c.args.self.now.slabs c.args.slab c.requires.«open» in
    let on = open_now c.self.inside.lists c.args.slab c.set_canary.new.self c.self.invariant.0 c.self.view_is
    (ap (λ (u : Uses). open_at u c.args.slab) c.set_canary.ensures.slabs ∙ open_changed c.args.self.now.slabs c.args.slab (with_canary 0) b.0 b.1 refl ∙ c.requires.«open») in
    let t = c.self.inside.lists in
    let shut = open_there (uses_of t) c.args.slab (open_is t c.args.slab c.self.invariant.0 ∙ on) in (
      subst IsFiled (sym c.retire.ensures.changed) (filed_retired t c.args.slab c.args.park c.self.invariant.0 on),
      omega (
        arith,
        c.self.invariant.1,
        ap (λ (t : Table). live_count (uses_of t)) c.retire.ensures.changed,
        ap live_count (uses_retired t c.args.slab c.args.park c.self.invariant.0 on),
        count_changed (uses_of t) c.args.slab shuts shut.0 shut.1 lives,
      ),
    )

pub returns-clause-retired : goal.returns-clause-retired
returns-clause-retired c =
    let b = open_there c.args.self.now.slabs c.args.slab c.requires.«open» in
    let on = open_now c.self.inside.lists c.args.slab c.set_canary.new.self c.self.invariant.0 c.self.view_is
    (ap (λ (u : Uses). open_at u c.args.slab) c.set_canary.ensures.slabs ∙ open_changed c.args.self.now.slabs c.args.slab (with_canary 0) b.0 b.1 refl ∙ c.requires.«open») in
    let n = c.args.slab in
    let park = c.args.park in
    let is = c.retire.ensures.changed in
    let same = c.set_canary.ensures.lists in
    record {
      slabs = ap uses_of is ∙ uses_retired c.self.inside.lists n park c.self.invariant.0 on ∙ ap (λ (k : Slabs). changed k.slabs n shuts) c.self.view_is
          ∙ ap (λ (u : Uses). changed u n shuts) c.set_canary.ensures.slabs ∙ changed_twice c.args.self.now.slabs n (with_canary 0) shuts b.0 b.1;
      lists = ap (λ (t : Table). t.lists) is ∙ ap (λ (k : Slabs). unparked (slice_index_or k.parking park None) (gone n k.lists)) c.self.view_is
          ∙ ap (λ (l : List (Option ℕ)). unparked (slice_index_or l park None) (gone n c.set_canary.new.self.lists)) same.parking
          ∙ ap (λ (l : Lists). unparked (slice_index_or c.args.self.now.parking park None) (gone n l)) same.lists;
      parking = ap (λ (t : Table). t.parking) is ∙ ap (λ (k : Slabs). slice_set k.parking park (Some n)) c.self.view_is ∙ ap (λ (l : List (Option ℕ)). slice_set l park (Some n)) same.parking;
      numbers = ap (λ (t : Table). numbers_in t) is ∙ ap (λ (k : Slabs). k.numbers) c.self.view_is ∙ same.numbers;
    }
