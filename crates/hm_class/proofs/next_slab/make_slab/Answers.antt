use Rattle.std.proofs.Common.{◌≡◌, ℕ, ◌%◌, ◌∙◌, ap, arith}
use Rattle.hm_sizes.specs.Shapes.{place, slab_at}
use Rattle.hm_class.proofs.Places.{place_whole}
use Rattle.hm_class.proofs.next_slab.make_slab.Goals as goal

pub make_accessible-requires-clause-whole : goal.make_accessible-requires-clause-whole
make_accessible-requires-clause-whole g c =
    let here : slab_at c.args.identity.now.shape c.args.slab ≡ place c.args.identity.now.shape c.args.slab 0 = omega arith in
    ap (λ (a : ℕ). a % 4096) (c.slab_address.ensures ∙ here) ∙ place_whole c.args.identity.now.shape c.args.slab c.args.identity.now.served.shape
