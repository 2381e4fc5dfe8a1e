use Rattle.std.proofs.Common.{ℕ, sym}
use Rattle.hm_sizes.specs.Shapes.{slab_at}
use Rattle.hm_class_book.proofs.Overlays.{overlaid_past}
use Rattle.hm_class_book.proofs.slabs.write_slab.Goals as goal

pub returns-in-None : goal.returns-in-None
returns-in-None c =
    let n : ℕ = c.args.entry.now.0 in
    let past = overlaid_past c.args.addr c.args.written.now (slab_at c.args.shape.now n) _ c.args.entry.now.1.bytes c.requires c.in-None.ensures in
    λ i. (n, record { bytes = sym past i; canary = c.args.entry.now.1.canary })
