use Rattle.std.proofs.Common.{◌∷◌, ◌∙◌, ap, refl}
use Rattle.hm_large_book.specs.declared.blocks.Extent.{Extent}
use Rattle.hm_large_book.proofs.Changing.{shows_quarantined}
use Rattle.hm_large_book.proofs.blocks.BlockBook.quarantine.Goals as goal

pub returns : goal.returns
returns c = λ config s x word sound shows there reach small.
    shows_quarantined config s c.args.self.now c.args.addr x sound shows there _ word small c.remove_live.ensures
    (c.in_ok-insert.ensures.items ∙ ap (λ (r : Extent). (c.args.addr, r) ∷ c.args.self.now.quarantined.items) reach) c.in_ok-note.ensures refl
