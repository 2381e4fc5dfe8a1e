use Rattle.std.proofs.Common.{length, sym, ap, true≢false, arith}
use Rattle.hm_large_book.proofs.Reaching.{range_is, fits_at, read_at}
use Rattle.hm_large_book.proofs.bytes.has_bytes.Goals as goal

pub returns-in-Some : goal.returns-in-Some
returns-in-Some c = λ config s sound guarded is.
    range_is config s c.args.live.now c.args.addr c.args.len c.in-Some.position c.in-Some.ensures.some c.index-live-position.result _ _ c.part_is.result c.requires.some sound is
    (read_at c.args.live.now c.in-Some.position.block c.index-live-position.result c.in-Some.ensures.within c.index-live-position.is) (ap (λ x. x.1.bytes) (sym c.index-live-position.is)) c.part_is.ensures

pub returns-in-None : goal.returns-in-None
returns-in-None c = λ config s sound guarded is. ((λ t. absurd (true≢false (sym t))), (λ h. absurd (c.in-None.ensures.none config s sound guarded is h.1)))

pub part_is-requires-clause-fits : goal.part_is-requires-clause-fits
part_is-requires-clause-fits c = (let f = fits_at c.args.live.now c.args.addr c.args.len c.in-Some.position c.index-live-position.result c.in-Some.ensures.some (read_at c.args.live.now c.in-Some.position.block c.index-live-position.result c.in-Some.ensures.within c.index-live-position.is) in omega (arith, f.0, ap (λ x. length x.1.bytes) c.index-live-position.is))

pub part_is-requires-clause-low : goal.part_is-requires-clause-low
part_is-requires-clause-low c = (let f = fits_at c.args.live.now c.args.addr c.args.len c.in-Some.position c.index-live-position.result c.in-Some.ensures.some (read_at c.args.live.now c.in-Some.position.block c.index-live-position.result c.in-Some.ensures.within c.index-live-position.is) in omega (arith, f.1, c.requires.low))
