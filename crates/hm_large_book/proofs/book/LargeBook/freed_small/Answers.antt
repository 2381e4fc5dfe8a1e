use Rattle.std.proofs.Common.{refl}
use Rattle.hm_large_book.proofs.Freeing.{quarantined_shown, may, may_not, small_not_legal, small_not_drawn, small_taken, is_index, off_on}
use Rattle.hm_large_book.proofs.book.LargeBook.freed_small.Goals as goal

pub release-requires : goal.release-requires
release-requires c = quarantined_shown c.args.self.now.blocks c.quarantine.new.self c.args.addr c.args.extent c.requires.live c.requires.small c.in_ok-quarantine.ensures

pub returns-then-not-release : goal.returns-then-not-release
returns-then-not-release c = small_not_legal c.args.self.now c.args.entry.now c.args.addr c.args.extent c.requires.small _ refl refl (may_not c.args.self.now c.quarantine.new.self c.release.new.self c.args.addr c.args.entry.now.draws.w0 c.args.extent c.release.result c.args.entry.now.choices.released c.requires.small c.in_ok-quarantine.ensures c.release.ensures c.if-not-release.true)

pub pass-left-requires : goal.pass-left-requires
pass-left-requires c = is_index c.requires.stands.0 c.args.self.now c.draw-word.result.1 c.requires.stands.1 c.draw-word.ensures.below

pub returns-then-draws_so : goal.returns-then-draws_so
returns-then-draws_so c = small_taken c.args.self.now c.args.entry.now c.args.addr c.args.extent c.requires.small c.draw-word.result c.pass-left.result c.draw-word.ensures.drawn c.draw-word.ensures.below c.pass-left.ensures.released c.release.new.self c.pass-left.new.self c.draw-word.new.self c.pass-left.ensures.kept c.draw-word.ensures.taken
    (may c.args.self.now c.quarantine.new.self c.release.new.self c.args.addr c.args.entry.now.draws.w0 c.args.extent c.release.result c.args.entry.now.choices.released c.requires.small c.in_ok-quarantine.ensures c.release.ensures c.if-not-release.false) (c.draws_so.ensures.0 c.if-draws_so.true).0 (c.draws_so.ensures.0 c.if-draws_so.true).1

pub returns-else-draws_so : goal.returns-else-draws_so
returns-else-draws_so c = small_not_drawn c.args.self.now c.args.entry.now c.args.addr c.args.extent c.requires.small c.draw-word.result c.pass-left.result c.draw-word.ensures.drawn c.draw-word.ensures.below c.pass-left.ensures.released _ refl refl
    (λ s x st there reach. (may c.args.self.now c.quarantine.new.self c.release.new.self c.args.addr c.args.entry.now.draws.w0 c.args.extent c.release.result c.args.entry.now.choices.released c.requires.small c.in_ok-quarantine.ensures c.release.ensures c.if-not-release.false s x st there reach).0) (λ x y. off_on c.draws_so.result c.if-draws_so.false (c.draws_so.ensures.1 (x, y)))
