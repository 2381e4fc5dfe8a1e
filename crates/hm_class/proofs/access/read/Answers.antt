use Rattle.std.proofs.Common.{◌≡◌, ◌∙◌, ◌-◌, ◌+◌, ◌≤◌, ℕ, min, arith, sym, ap, true≢false}
use Rattle.hm_model.proofs.RunsOf.{length_expand}
use Rattle.hm_class.proofs.Accessed.{have_bytes, piece_here, piece_held, piece_read}
use Rattle.hm_class.proofs.access.read.Goals as goal

pub loop-at-preserved : goal.loop-at-preserved
loop-at-preserved g c =
    let p = c.args.identity.now.shape in
    let runs = g.P.Pages.runs c.args.pages.now in
    let end : ℕ = c.args.addr + c.args.len in
    let is : c.min-next.result ≡ min end _ = c.min-next.ensures ∙ ap (λ (n : ℕ). min end n) c.slab_end.ensures.value in
    let within : c.min-next.result ≤ end = omega (arith, c.min-next.ensures) in
    let later : c.loop-at.at ≤ c.min-next.result = omega (arith, c.min-next.ensures, c.slab_end.ensures.later, c.loop-at-test.true) in record {
      later = omega (arith, c.loop-at.invariant.later, later);
      within = within;
      counted = omega (arith, c.in_ok-append_range.ensures.count c.if-not-branch.false, c.loop-at.invariant.counted, c.loop-at.invariant.later, later);
      read = λ told s h none.
          (let have = have_bytes p s runs c.args.addr c.args.len h none c.loop-at.at c.loop-at.invariant.later c.loop-at-test.true in
          let piece = piece_here p s c.loop-at.at c.min-next.result end c.args.identity.now.served.shape have c.loop-at-test.true is in
          let held = piece_held p s s runs c.loop-at.at (c.min-next.result - c.loop-at.at) piece piece.byte.open_slab h in
          let got = c.in_ok-append_range.ensures.value told held in
          got.3 ∙ piece_read c.args.addr c.min-next.result h c.loop-at.invariant.later later piece got.2 (c.loop-at.invariant.read told s h none));
    }

pub returns-then-not-branch-clause-bytes : goal.returns-then-not-branch-clause-bytes
returns-then-not-branch-clause-bytes g c = λ told s h none.
    (let p = c.args.identity.now.shape in
    let runs = g.P.Pages.runs c.args.pages.now in
    let end : ℕ = c.args.addr + c.args.len in
    let is : c.min-next.result ≡ min end _ = c.min-next.ensures ∙ ap (λ (n : ℕ). min end n) c.slab_end.ensures.value in
    let have = have_bytes p s runs c.args.addr c.args.len h none c.loop-at.at c.loop-at.invariant.later c.loop-at-test.true in
    let piece = piece_here p s c.loop-at.at c.min-next.result end c.args.identity.now.served.shape have c.loop-at-test.true is in
    let held = piece_held p s s runs c.loop-at.at (c.min-next.result - c.loop-at.at) piece piece.byte.open_slab h in
    let got = c.in_ok-append_range.ensures.value told held in
    absurd (true≢false (sym got.0 ∙ c.if-not-branch.true)))

pub returns-clause-length : goal.returns-clause-length
returns-clause-length g c = omega (arith, length_expand c.loop-at.runs, c.loop-at.invariant.counted, c.loop-at.invariant.later, c.loop-at.invariant.within, c.loop-at-test.false)
