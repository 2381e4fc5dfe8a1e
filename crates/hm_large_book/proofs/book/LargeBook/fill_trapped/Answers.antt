use Rattle.std.proofs.Common.{◌≡◌, ℕ, Some, subst}
use Rattle.std.specs.Prelude.{IsTrue, ◌↔◌}
use Rattle.hm_large_rules.specs.Bytes.{first_trap}
use Rattle.hm_large_book.proofs.Plain.{fill_trapped_is, in_state}
use Rattle.hm_large_book.proofs.book.LargeBook.fill_trapped.Goals as goal

pub returns : goal.returns
returns c = fill_trapped_is c.args.self.now c.args.entry.now c.traps_at.result c.plain.result c.deref.result.now c.deref.ensures.value c.args.addr c.args.trap c.args.runs.now
    (λ s st. subst (λ (n : ℕ). IsTrue c.traps_at.result ↔ (first_trap s.live c.args.addr n ≡ Some c.args.trap)) c.len.ensures.bytes
    (c.traps_at.ensures c.args.self.now.config s st.sound st.guarded (in_state c.args.self.now c.args.entry.now c.traps_at.result c.plain.result c.deref.result.now c.deref.ensures.value s st))) c.plain.ensures
