use Rattle.std.proofs.Common.{◌≡◌, ◌||◌, ℕ, Bool, List, get_or, replicate, false, ◌∙◌, sym, ap}
use Rattle.hm_model.specs.Maps.{among, has, keys}
use Rattle.hm_sizes.specs.Shapes.{place}
use Rattle.hm_class_book.proofs.Rows.{has_keys, marked_is}
use Rattle.hm_class_book.proofs.book.Book.marks.Goals as goal

pub returns-clause-marks : goal.returns-clause-marks
returns-clause-marks c = λ i lt.
    let a : ℕ = place c.args.shape.now c.args.slab i in
    let live : get_or c.mark_live.new.marks i false ≡ (get_or (replicate 256 false) i false || among a (keys c.deref.result.now)) = c.mark_live.ensures.marked i lt in
    let quarantined : get_or c.mark.new.marks i false ≡ (get_or c.mark_live.new.marks i false || among a c.deref-2.result.now) = c.mark.ensures.marked i lt in
    let condemned : get_or c.mark-2.new.marks i false ≡ (get_or c.mark.new.marks i false || among a c.deref-3.result.now) = c.mark-2.ensures.marked i lt in
    marked_is 256 i (get_or c.mark_live.new.marks i false) (get_or c.mark.new.marks i false) (get_or c.mark-2.new.marks i false)
    (has a c.args.self.now.live.items) (among a c.args.self.now.quarantined.items) (among a c.args.self.now.condemned.items)
    (live
    ∙ ap (λ (l : List (ℕ × ℕ)). get_or (replicate 256 false) i false || among a (keys l)) c.deref.ensures.value
    ∙ ap (λ (b : Bool). get_or (replicate 256 false) i false || b) (sym (has_keys a c.args.self.now.live.items)))
    (quarantined ∙ ap (λ (l : List ℕ). get_or c.mark_live.new.marks i false || among a l) c.deref-2.ensures.value)
    (condemned ∙ ap (λ (l : List ℕ). get_or c.mark.new.marks i false || among a l) c.deref-3.ensures.value)
