use Rattle.std.proofs.Common.{◌≡◌, ℕ, ◌+◌, ◌≤◌, length, subst, sym, ◌∙◌, ap, arith, None}
use Rattle.hm_model.specs.Runs.{expand}
use Rattle.hm_large_rules.specs.Bytes.{first_trap}
use Rattle.hm_large_book.specs.declared.blocks.LiveBlock.{LiveBlock}
use Rattle.hm_large_book.specs.Book.{block_in}
use Rattle.hm_large_book.specs.Bytes.{LiesAt, over_block}
use Rattle.hm_large_book.proofs.Reaching.{lies_none, written_one, fits_at, read_at}
use Rattle.hm_large_book.proofs.bytes.write.Goals as goal

pub write_block-requires-clause-fits : goal.write_block-requires-clause-fits
write_block-requires-clause-fits c = (let f = fits_at c.args.live.now c.args.addr (length (expand c.args.runs.now)) c.in-Some.position c.index-live-position.result (subst (λ (n : ℕ). LiesAt c.args.live.now c.args.addr n c.in-Some.position) c.len.ensures.bytes c.in-Some.ensures.some) (read_at c.args.live.now c.in-Some.position.block c.index-live-position.result c.in-Some.ensures.within c.index-live-position.is) in
    subst (λ (x : ℕ × LiveBlock). c.in-Some.position.offset + length (expand c.args.runs.now) ≤ length x.1.bytes) c.index-live-position.is f.0)

pub write_block-requires-clause-low : goal.write_block-requires-clause-low
write_block-requires-clause-low c = (let f = fits_at c.args.live.now c.args.addr (length (expand c.args.runs.now)) c.in-Some.position c.index-live-position.result (subst (λ (n : ℕ). LiesAt c.args.live.now c.args.addr n c.in-Some.position) c.len.ensures.bytes c.in-Some.ensures.some) (read_at c.args.live.now c.in-Some.position.block c.index-live-position.result c.in-Some.ensures.within c.index-live-position.is) in omega (arith, f.1, c.requires.low))

pub returns-in-Some : goal.returns-in-Some
returns-in-Some c = λ config s sound guarded is. (
  lies_none config s c.args.live.now sound is c.args.addr (length (expand c.args.runs.now)) c.in-Some.position (subst (λ (n : ℕ). LiesAt c.args.live.now c.args.addr n c.in-Some.position) c.len.ensures.bytes c.in-Some.ensures.some) c.requires.some,
  written_one config s c.args.live.now c.args.addr (expand c.args.runs.now) c.in-Some.position (subst (λ (n : ℕ). LiesAt c.args.live.now c.args.addr n c.in-Some.position) c.len.ensures.bytes c.in-Some.ensures.some) c.index-live-position.result c.write_block.new.entry c.requires.some sound is (read_at c.args.live.now c.in-Some.position.block c.index-live-position.result c.in-Some.ensures.within c.index-live-position.is)
      (c.write_block.ensures ∙ ap (λ x. over_block c.in-Some.position.offset (expand c.args.runs.now) (block_in x)) (sym c.index-live-position.is)),
)

pub returns-in-None : goal.returns-in-None
returns-in-None c = λ config s sound guarded is none. c.in-None.ensures.none config s sound guarded is (subst (λ (n : ℕ). first_trap s.live c.args.addr n ≡ None) (sym c.len.ensures.bytes) none)
