use Rattle.std.proofs.Common.{◌≡◌, ◌==◌, ℕ, List, sym, ◌∙◌, ap}
use Rattle.std.specs.List.{list_any}
use Rattle.hm_class_book.specs.declared.book.OpenSlab.{OpenSlab}
use Rattle.hm_class_book.proofs.Rows.{has_slabs}
use Rattle.hm_class_book.proofs.book.Book.is_open.Goals as goal

pub returns : goal.returns
returns c =
    let found : c.has_slab.result ≡ list_any (λ (e : ℕ × OpenSlab). e.0 == c.args.slab) c.deref.result.now = c.has_slab.ensures in
    found ∙ ap (λ (l : List (ℕ × OpenSlab)). list_any (λ (e : ℕ × OpenSlab). e.0 == c.args.slab) l) c.deref.ensures.value
    ∙ sym (has_slabs c.args.slab c.args.self.now.opens.items)
