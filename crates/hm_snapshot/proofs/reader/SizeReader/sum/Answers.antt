use Rattle.std.proofs.Common.{rules, ◌≡◌, List, sym, ap, ◌∙◌, subst}
use Rattle.left_right.specs.Sides.{view}
use Rattle.hm_model.specs.declared.change.SizeChange.{SizeChange}
use Rattle.hm_model.specs.Changes.{sizes, total_of}
use Rattle.hm_snapshot.specs.Rule.{StartsWith}
use Rattle.hm_snapshot.specs.Shown.{Shown, shown_after}
use Rattle.hm_snapshot.specs.Known.{Seen, found}
use Rattle.hm_snapshot.proofs.Lists.{map_after}
use Rattle.hm_snapshot.proofs.reader.SizeReader.sum.Goals as goal

pub returns-in-Ok : goal.returns-in-Ok
returns-in-Ok c = let r = c.in-Ok.reading in let w = view c.leave-reader.result.place in
    let left : w ≡ view r.place = search rules in
    let f : found (view c.self.inside.reader.place) r.part.value r.part.value (view r.place) = search rules in
    let from : view c.self.inside.reader.place ≡ c.args.self.read = ap (λ (s : Seen). s.read) c.self.view_is in
    let shows : c.get.result.now ≡ shown_after w = (search rules) ∙ (f.0 ∙ ap shown_after (sym left)) in
    let map : c.get.result.now.map ≡ sizes w = ap (λ (x : Shown). x.map) shows ∙ map_after w in
    let has : c.total-total.result ≡ total_of (sizes w) = c.total-total.ensures ∙ ap total_of map in
    (subst (λ (z : List SizeChange). StartsWith z c.args.self.read) (sym left) (subst (λ (z : List SizeChange). StartsWith (view r.place) z) from f.1), search rules, has)
