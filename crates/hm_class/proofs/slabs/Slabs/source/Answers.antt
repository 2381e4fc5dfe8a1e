use Rattle.std.proofs.Common.{ℕ, ◌∙◌, ap, subst}
use Rattle.hm_class_rules.specs.State.{unopened_below}
use Rattle.hm_slab_lists.specs.declared.slab_lists.Place.{Place}
use Rattle.hm_slab_lists.specs.declared.slab_lists.Place.TheVariants.{Partial, Empty, Retired, Fresh, Exhausted}
use Rattle.hm_slab_lists.specs.Table.{Table}
use Rattle.hm_class.specs.Slabs.{Slabs, slabs_of}
use Rattle.hm_class.specs.Sources.{Sources}
use Rattle.hm_class.proofs.SourceOf.{Says, source_is}
use Rattle.hm_class.proofs.Tables.{length_uses}
use Rattle.hm_class.proofs.slabs.Slabs.source.Goals as goal

-- what the lists say, said of the slabs
said : (t : Table) (place : Place) → Says t.lists.partial t.lists.empty t.lists.retired t.limit t.next place → Sources (slabs_of t) place
said t (Partial n) s = s
said t (Empty n) s = s
said t (Retired n) s = (s.0, ap (λ (m : ℕ). unopened_below t.limit t.lists.retired m) (length_uses t) ∙ s.1)
said t (Fresh n) s = (s.0, ap (λ (m : ℕ). unopened_below t.limit t.lists.retired m) (length_uses t) ∙ s.1)
said t Exhausted s = (s.0, ap (λ (m : ℕ). unopened_below t.limit t.lists.retired m) (length_uses t) ∙ s.1)

pub returns : goal.returns
returns c =
    let t = c.self.inside.lists in
    subst (λ (k : Slabs). Sources k c.next_source.result) c.self.view_is
    (said t c.next_source.result (source_is t.lists.partial t.lists.empty t.lists.retired t.limit t.next c.next_source.result c.next_source.ensures))
