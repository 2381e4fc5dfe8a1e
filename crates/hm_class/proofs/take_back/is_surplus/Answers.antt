use Rattle.std.proofs.Common.{◌≡◌, ℕ, ◌+◌, ◌*◌, ◌/◌, ◌≤◌, ◌&&◌, Bool, leb, length, nat_lt, sym, ◌∙◌, ap, arith}
use Rattle.std.proofs.lemmas.Bool.Decides.{nat_tests}
use Rattle.std.proofs.lemmas.Nat.{div_below, le-div}
use Rattle.hm_class.proofs.Places.{slab_some}
use Rattle.hm_class.proofs.take_back.is_surplus.Goals as goal

-- with one slab more than these they come to more than they may
one_more : (slab count : ℕ) → 1 ≤ slab → leb (131072 / slab) count ≡ nat_lt 131072 ((count + 1) * slab)
one_more slab count some = grind (arith, nat_tests, div_below, le-div)

pub returns-then-is_empty : goal.returns-then-is_empty
returns-then-is_empty c =
    let slab = c.args.identity.now.shape.slab in
    let count = length c.args.slabs.now.lists.empty in
    ap (λ (n : ℕ). leb (131072 / slab) n) c.empty_count.ensures
    ∙ one_more slab count (omega (arith, slab_some c.args.identity.now.shape c.args.identity.now.served.shape))
    ∙ ap (λ (b : Bool). b && nat_lt 131072 ((count + 1) * slab)) (sym c.if-is_empty.true ∙ c.is_empty.ensures)
