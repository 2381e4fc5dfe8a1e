use Rattle.std.proofs.Common.{◌≡◌, ◌∙◌, ◌-◌, ◌+◌, ℕ, min, sym, ap}
use Rattle.hm_class.proofs.Accessed.{have_bytes, piece_here, piece_held}
use Rattle.hm_class.proofs.access.lends.Goals as goal

pub returns-then-not-holds : goal.returns-then-not-holds
returns-then-not-holds g c = λ told s h none.
    (let p = c.args.identity.now.shape in
    let end : ℕ = c.args.addr + c.args.len in
    let is : c.min-next.result ≡ min end _ = c.min-next.ensures ∙ ap (λ (n : ℕ). min end n) c.slab_end.ensures.value in
    let have = have_bytes p s (g.P.Pages.runs c.args.pages.now) c.args.addr c.args.len h none c.loop-at.at c.loop-at.invariant.later c.loop-at-test.true in
    let piece = piece_here p s c.loop-at.at c.min-next.result end c.args.identity.now.served.shape have c.loop-at-test.true is in
    let held = piece_held p s s (g.P.Pages.runs c.args.pages.now) c.loop-at.at (c.min-next.result - c.loop-at.at) piece piece.byte.open_slab h in
    sym c.if-not-holds.true ∙ (c.holds.ensures.told told).1 held)
