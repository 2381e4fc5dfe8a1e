use Rattle.std.proofs.Common.{ℕ, replicate, sym, arith}
use Rattle.std.proofs.lemmas.List.{length-replicate}
use Rattle.hm_sizes.specs.Shapes.{slab_at}
use Rattle.hm_class_book.proofs.Overlays.{overlaid_past}
use Rattle.hm_class_book.proofs.slabs.fill_slab.Goals as goal

pub returns-in-None : goal.returns-in-None
returns-in-None c =
    let n : ℕ = c.args.entry.now.0 in
    let past = overlaid_past c.args.addr (replicate c.args.len c.args.byte) (slab_at c.args.shape.now n) _ c.args.entry.now.1.bytes (omega (arith, c.requires, length-replicate {A = ℕ} c.args.len c.args.byte)) c.in-None.ensures in
    λ i. (n, record { bytes = sym past i; canary = c.args.entry.now.1.canary })
