use Rattle.std.proofs.Common.{◌≡◌, ◌∙◌, ◌-◌, ◌+◌, ◌≤◌, ℕ, replicate, min, arith, ap, refl, subst}
use Rattle.hm_class_rules.specs.Bytes.{write}
use Rattle.hm_class.specs.Region.{HoldsSlabs}
use Rattle.hm_class.proofs.Accessed.{holds_none, piece_here, piece_written}
use Rattle.hm_class.proofs.access.write_run.Goals as goal

pub loop-at-init : goal.loop-at-init
loop-at-init g c = record { later = omega arith; within = omega arith; told = refl; owner = refl; count = refl; written = λ told s h have. holds_none c.args.identity.now.shape c.args.addr (c.args.addr - c.args.addr) c.args.byte s _ (omega arith) h }

pub loop-at-preserved : goal.loop-at-preserved
loop-at-preserved g c =
    let p = c.args.identity.now.shape in
    let end : ℕ = c.args.addr + c.args.len in
    let is : c.min-next.result ≡ min end _ = c.min-next.ensures ∙ ap (λ (n : ℕ). min end n) c.slab_end.ensures.value in
    let within : c.min-next.result ≤ end = omega (arith, c.min-next.ensures) in
    let later : c.loop-at.at ≤ c.min-next.result = omega (arith, c.min-next.ensures, c.slab_end.ensures.later, c.loop-at-test.true) in record {
      later = omega (arith, c.loop-at.invariant.later, later);
      within = within;
      told = c.put_byte.ensures.pages.told ∙ c.loop-at.invariant.told;
      owner = c.put_byte.ensures.pages.owner ∙ c.loop-at.invariant.owner;
      count = c.put_byte.ensures.pages.count ∙ c.loop-at.invariant.count;
      written = λ told s h have.
          (let piece = piece_here p s c.loop-at.at c.min-next.result end c.args.identity.now.served.shape (have c.loop-at.at c.loop-at.invariant.later c.loop-at-test.true) c.loop-at-test.true is in
          piece_written (g.P.Pages.runs c.put_byte.new.pages) c.args.addr c.min-next.result c.args.byte c.args.identity.now.served.shape c.loop-at.invariant.later later piece
          (c.loop-at.invariant.written told s h have) (c.put_byte.ensures.written (c.loop-at.invariant.told ∙ told)));
    }

pub returns : goal.returns
returns g c = record {
  pages = record { told = c.loop-at.invariant.told; owner = c.loop-at.invariant.owner; count = c.loop-at.invariant.count };
  written = λ told s h have.
      subst (λ (n : ℕ). HoldsSlabs c.args.identity.now.shape (write c.args.identity.now.shape c.args.addr (replicate n c.args.byte) s).opens (g.P.Pages.runs c.loop-at.pages))
      (omega (arith, c.loop-at.invariant.later, c.loop-at.invariant.within, c.loop-at-test.false)) (c.loop-at.invariant.written told s h have);
}
