use Rattle.std.proofs.Common.{◌∙◌, sym, ap, subst, arith}
use Rattle.hm_choice.specs.Stream.{after_word}
use Rattle.hm_outside.specs.Makers.{IsOwned}
use Rattle.hm_class_rules.specs.Draws.{stream_of}
use Rattle.hm_sizes.specs.Origins.{class_region_number}
use Rattle.hm_sizes.specs.declared.class.ClassId.{ClassId}
use Rattle.hm_sizes.specs.declared.shape.Shape.{Shape}
use Rattle.hm_class.specs.Slabs.{Slabs}
use Rattle.hm_class.specs.Uses.{live_count}
use Rattle.hm_class.proofs.Built.{kept_built}
use Rattle.hm_class.proofs.Entries.{region_of}
use Rattle.hm_class.proofs.heap.ClassHeap.build.Goals as goal

pub invariant_of-result : goal.invariant_of-result
invariant_of-result g c = (
  kept_built (g.P.Pages.runs c.args.pages) _ _ c.requires.nothing c.requires.count (subst (λ (k : ClassId). IsOwned (g.P.Pages.owner c.args.pages) (class_region_number c.args.arena k)) (sym (ap (λ (q : Shape). q.class) c.begin-stream.ensures.shape)) c.requires.owned) c.new.ensures.entries c.in_ok-slabs.ensures
      (c.begin-stream.ensures.stream ∙ ap (λ (k : ClassId). after_word (stream_of c.args.seed c.args.arena k)) (sym (ap (λ (q : Shape). q.class) c.begin-stream.ensures.shape))) c.in_ok-quarantine.ensures,
  omega (arith, ap (λ (k : Slabs). live_count k.slabs) c.in_ok-slabs.ensures),
  c.new.ensures.holds,
)

pub returns-clause-region : goal.returns-clause-region
returns-clause-region g c = region_of g.P.Pages _ _ _ _ _ (invariant_of-result g c)
