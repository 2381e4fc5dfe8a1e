use Rattle.std.proofs.Common.{refl}
use Rattle.hm_large_book.proofs.Freeing.{not_chosen, live_in, freed_is, off_on}
use Rattle.hm_large_book.proofs.book.LargeBook.freed_block.Goals as goal

pub returns-then-not-chose : goal.returns-then-not-chose
returns-then-not-chose c = not_chosen c.args.self.now c.args.entry.now c.args.addr c.args.stated c.args.self.now.blocks.live.items refl c.args.self.now refl refl (λ h. off_on c.chose.result c.if-not-chose.true (c.chose.ensures.1 h))

pub freed_great-requires-clause-live : goal.freed_great-requires-clause-live
freed_great-requires-clause-live c = live_in c.args.self.now c.args.entry.now c.args.addr c.args.stated c.args.self.now.blocks.live.items refl c.args.extent c.requires.accepts c.requires.stands.0 c.requires.stands.1

pub freed_small-requires-clause-live : goal.freed_small-requires-clause-live
freed_small-requires-clause-live c = live_in c.args.self.now c.args.entry.now c.args.addr c.args.stated c.args.self.now.blocks.live.items refl c.args.extent c.requires.accepts c.requires.stands.0 c.requires.stands.1

pub returns-then-extent-ge-QUARANTINED_BELOW : goal.returns-then-extent-ge-QUARANTINED_BELOW
returns-then-extent-ge-QUARANTINED_BELOW c = freed_is c.args.self.now c.args.entry.now c.args.addr c.args.stated c.args.self.now.blocks.live.items refl c.args.extent c.requires.accepts c.freed_great.new.self c.freed_great.result (c.chose.ensures.0 c.if-not-chose.false) c.freed_great.ensures

pub returns : goal.returns
returns c = freed_is c.args.self.now c.args.entry.now c.args.addr c.args.stated c.args.self.now.blocks.live.items refl c.args.extent c.requires.accepts c.freed_small.new.self c.in_ok-judgement.judgement (c.chose.ensures.0 c.if-not-chose.false) c.in_ok-judgement.ensures
