use Rattle.std.proofs.Common.{◌≡◌, ◌==◌, ℕ, List, sym, ◌∙◌, ap}
use Rattle.std.specs.List.{list_any}
use Rattle.hm_class_book.proofs.Lookups.{has_any}
use Rattle.hm_class_book.proofs.book.Book.is_live.Goals as goal

pub returns : goal.returns
returns c =
    let found : c.has_block.result ≡ list_any (λ (e : ℕ × ℕ). e.0 == c.args.addr) c.deref.result.now = c.has_block.ensures in
    found ∙ ap (λ (l : List (ℕ × ℕ)). list_any (λ (e : ℕ × ℕ). e.0 == c.args.addr) l) c.deref.ensures.value ∙ sym (has_any c.args.addr c.args.self.now.live.items)
