use Rattle.std.proofs.Common.{◌≡◌, sym, ◌∙◌}
use Rattle.hm_class_book.proofs.Addresses.{tested}
use Rattle.hm_class_book.proofs.places.is_place.Goals as goal

pub returns : goal.returns
returns c =
    let t = tested c.args.shape.now c.args.addr c.place_of.result c.requires c.place_of.ensures in
    (λ e. t.0 (sym c.is_some.ensures ∙ e), λ is. c.is_some.ensures ∙ t.1 is)
