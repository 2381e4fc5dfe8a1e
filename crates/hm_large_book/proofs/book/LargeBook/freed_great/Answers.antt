use Rattle.std.proofs.Common.{◌≡◌, rules}
use Rattle.hm_model.specs.Calls.{no_words}
use Rattle.hm_large_book.proofs.Freeing.{great_taken, none_left}
use Rattle.hm_large_book.proofs.book.LargeBook.freed_great.Goals as goal

pub returns-then-eq : goal.returns-then-eq
returns-then-eq c =
    let drawn : c.args.entry.now.draws ≡ no_words = search rules in
    great_taken c.args.self.now c.args.entry.now c.args.addr c.args.extent c.requires.great c.leave.new.self
    (none_left c.args.entry.now.choices.released c.is_some.result c.is_some.ensures c.if-is_some.false) drawn
    (λ s x st there reach. c.leave.ensures c.args.self.now.config s x st.sound st.shows.blocks there reach)
