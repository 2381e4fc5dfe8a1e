use Rattle.std.proofs.Common.{◌≡◌, ◌==◌, ℕ, not, ◌∙◌, ap, rules}
use Rattle.std.specs.List.{filter}
use Rattle.std.proofs.lemmas.Fn.{filter_same}
use Rattle.hm_class_book.specs.Book.{slabs_in}
use Rattle.hm_class_book.specs.declared.book.OpenSlab.{OpenSlab}
use Rattle.hm_class_book.proofs.Lookups.{slabs_removed}
use Rattle.hm_class_book.proofs.changes.remove_slab.Goals as goal

pub returns : goal.returns
returns c =
    let kept : c.retain.new.self.items ≡ filter (λ (e : ℕ × OpenSlab). not (e.0 == c.args.slab)) c.args.opens.now.items = filter_same _ _ _ (λ x b f' k. search rules) _ _ c.retain.ensures.filtered in
    ap slabs_in kept ∙ slabs_removed c.args.slab c.args.opens.now.items
