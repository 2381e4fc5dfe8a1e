use Rattle.std.proofs.Common.{◌≡◌, ◌∙◌, ap, sym, subst}
use Rattle.hm_sizes.specs.Origins.{Origin}
use Rattle.hm_turn.specs.Known.{IsWhole}
use Rattle.hm_heap.specs.Closes.{IsEnd}
use Rattle.hm_heap.specs.Origins.{origin_in}
use Rattle.hm_heap.specs.Regions.{origin_of}
use Rattle.hm_heap.proofs.Origins.{origin_back}
use Rattle.hm_heap.proofs.close.close_one.Goals as goal

pub returns : goal.returns
returns g c =
    let told = g.P.Pages.told in
    let v = c.close.result in
    let is : origin_of told v ≡ origin_in c.args.turn.knows.origin = sym (origin_back (origin_of told v)) ∙ ap origin_in (c.close.ensures.origin ∙ sym c.requires.of.1) in
    record {
      end = subst (λ (o : Origin). IsEnd g.P.Pages o c.end.result.0 c.end.result.1) is c.end.ensures.end;
      whole = subst (λ es. IsWhole es c.args.turn.knows) (sym c.end.ensures.entries) c.close.ensures.entries;
    }
