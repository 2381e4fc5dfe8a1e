use Rattle.std.proofs.Common.{◌∙◌, sym, ap}
use Rattle.hm_class.specs.Slabs.{Slabs}
use Rattle.hm_class.specs.Uses.{open_at}
use Rattle.hm_class.proofs.Tables.{open_is}
use Rattle.hm_class.proofs.slabs.Slabs.is_open.Goals as goal

pub returns : goal.returns
returns c =
    c.is_open.ensures ∙ sym (open_is c.self.inside.lists c.args.slab c.self.invariant.0)
    ∙ ap (λ (k : Slabs). open_at k.slabs c.args.slab) c.self.view_is
