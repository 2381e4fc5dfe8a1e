use Rattle.hm_sizes.proofs.PlaceTest.{place_is, place_tested, shape_places, place_read}
use Rattle.hm_sizes.specs.Shapes.{slab_of, slot_of}
use Rattle.hm_sizes.proofs.laws.place_laws.Goals as goal

pub returns-clause-tests : goal.returns-clause-tests
returns-clause-tests c p a shape =
    (λ e. (slab_of p a, slot_of p a, place_is p a (slab_of p a) (slot_of p a) e), λ h. place_tested p a h.0 h.1 (shape_places p shape) h.2)

pub returns-clause-reads : goal.returns-clause-reads
returns-clause-reads c p a n i shape h =
    let read = place_read p a n i (shape_places p shape) h in
    (read.slab, read.slot)
