use Rattle.std.proofs.Common.{◌-◌, ◌∙◌, sym, ap, rules}
use Rattle.std.specs.Prelude.{Some, Option}
use denote.Enum.Bare.{same_true, true_same}
use Rattle.hm_slab_lists.specs.contracts.slab.ListName.{the_type}
use Rattle.hm_slab_lists.specs.declared.slab.Link.{Link}
use Rattle.hm_slab_lists.specs.Chained.{Chained}
use Rattle.hm_base.specs.Members.{among}
use Rattle.hm_slab_lists.specs.Lists.{list_in}
use Rattle.hm_slab_lists.proofs.Whole.{below_items, is_in, is_loose, read_link}
use Rattle.hm_slab_lists.proofs.chains.Chains.is_in.Goals as goal

pub returns-in-Some : goal.returns-in-Some
returns-in-Some c =
    is_in c.self.inside.slabs.items c.self.inside.ends c.args.list c.args.at c.in-Some.link c.eq.result c.self.invariant
    (read_link c.self.inside.slabs.items c.args.at c.index.result.now (below_items c.self.inside.slabs.items c.self.inside.ends (c.self.inside.slabs.cap - c.self.inside.slabs.len) c.args.at c.args.self.now c.self.view_is c.requires) c.index.ensures ∙ ap (λ (l : Option Link). Some l) c.in-Some.is)
    (λ is. same_true the_type (search rules) _ _ (sym c.eq.ensures ∙ is)) (λ same. c.eq.ensures ∙ true_same the_type _ _ same)
    ∙ ap (λ (v : Chained). among c.args.at (list_in v.lists c.args.list)) c.self.view_is

pub returns-in-None : goal.returns-in-None
returns-in-None c =
    sym (is_loose c.self.inside.slabs.items c.self.inside.ends c.args.list c.args.at c.self.invariant
    (read_link c.self.inside.slabs.items c.args.at c.index.result.now (below_items c.self.inside.slabs.items c.self.inside.ends (c.self.inside.slabs.cap - c.self.inside.slabs.len) c.args.at c.args.self.now c.self.view_is c.requires) c.index.ensures ∙ ap (λ (l : Option Link). Some l) c.in-None.is))
    ∙ ap (λ (v : Chained). among c.args.at (list_in v.lists c.args.list)) c.self.view_is
