use Rattle.hm_large_book.proofs.Plain.{fetch_trapped_is, in_state}
use Rattle.hm_large_book.proofs.book.LargeBook.fetch_trapped.Goals as goal

pub returns : goal.returns
returns c = fetch_trapped_is c.args.self.now c.args.entry.now c.traps_at.result c.plain.result c.deref.result.now c.deref.ensures.value c.args.addr c.args.len c.args.trap
    (λ s st. c.traps_at.ensures c.args.self.now.config s st.sound st.guarded (in_state c.args.self.now c.args.entry.now c.traps_at.result c.plain.result c.deref.result.now c.deref.ensures.value s st)) c.plain.ensures
