use Rattle.std.proofs.Common.{◌∙◌, ap}
use Rattle.hm_class.specs.Uses.{Uses, slab_in, canary_at, opened_slab, with_canary, with_canary_at, taken_uses}
use Rattle.hm_class.proofs.Used.{changed_twice, some_slab}
use Rattle.hm_class.proofs.slabs.Slabs.open.Goals as goal

pub returns : goal.returns
returns c =
    let old = c.args.self.now in
    let taken : Uses = taken_uses old.numbers old.lists.retired old.slabs in
    let b = some_slab (slab_in taken c.args.slab) c.requires.there in
    let took = c.take_new.ensures in
    let same = c.set_canary.ensures.lists in
    record {
      slabs = c.set_canary.ensures.slabs ∙ ap (λ (u : Uses). with_canary_at u c.args.slab c.args.canary) took.slabs
          ∙ changed_twice taken c.args.slab (opened_slab (canary_at old.slabs c.args.slab)) (with_canary c.args.canary) b.0 b.1;
      lists = same.lists ∙ took.lists;
      parking = same.parking ∙ took.parking;
      numbers = same.numbers ∙ took.numbers;
    }
