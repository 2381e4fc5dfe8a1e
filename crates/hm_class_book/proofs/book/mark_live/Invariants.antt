use Rattle.std.proofs.Common.{◌≡◌, ◌<◌, ◌||◌, ℕ, get_or, false, take}
use Rattle.hm_model.specs.Maps.{among, keys}
use Rattle.hm_sizes.specs.Shapes.{place}
use Rattle.hm_class_book.proofs.book.mark_live.Given as goal

-- the marks of the blocks so far
abbrev pub invariant-loop-addr : goal.invariant-loop-addr
invariant-loop-addr l = (i : ℕ) → i < l.shape.slots
    → get_or l.marks i false ≡ (get_or l.initial.marks i false || among (place l.shape l.slab i) (keys (take l.addr-index l.live)))
