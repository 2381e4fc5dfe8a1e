use Rattle.std.proofs.Common.{◌≡◌, ◌&&◌, Bool, true, sym, ◌∙◌}
use Rattle.std.proofs.lemmas.Bool.{and_parts}
use Rattle.hm_class_book.specs.Book.{state_in}
use Rattle.hm_class_book.specs.Sources.{is_nil}
use Rattle.hm_class_book.proofs.KeptSources.{none_partial_is, none_empty_is}
use Rattle.hm_class_book.proofs.book.Book.none_serves.Goals as goal

pub returns : goal.returns
returns c =
    let p = c.args.shape.now in
    let s = state_in c.args.self.now in
    let partial = c.args.lists.now.partial.items in
    let empty = c.args.lists.now.empty.items in
    let called : c.opens.result ≡ (is_nil c.deref.result.now && is_nil c.deref-2.result.now) = c.opens.ensures in
    let is : c.opens.result ≡ (is_nil partial && is_nil empty) = called ∙ (λ i. is_nil (c.deref.ensures.value i) && is_nil (c.deref-2.ensures.value i)) in
    let np = none_partial_is p s partial c.requires.partial in
    let ne = none_empty_is p s empty c.requires.shape c.requires.empty in (
      λ e. let both = and_parts (is_nil partial) (is_nil empty) (sym is ∙ e) in (np ∙ both.0, ne ∙ both.1),
      λ k. is ∙ (λ i. (sym np ∙ k.0) i && (sym ne ∙ k.1) i),
    )
