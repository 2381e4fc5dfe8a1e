use Rattle.std.proofs.Common.{◌≡◌, List, ℕ, OnOk, string_bytes, subst}
use Rattle.hm_journal.proofs.Spaced.{entry_added, on_ok}
use Rattle.hm_journal.proofs.entries.push_entry.Goals as goal

pub returns : goal.returns
returns c =
    subst (λ (l : List ℕ). OnOk c.push_str-2.result (string_bytes c.push_str-2.new.self ≡ l))
    (entry_added c.args.entry.now (string_bytes c.args.out.now) (string_bytes c.push_who.new.out)
    (string_bytes c.push_faults.new.out)
    (string_bytes c.push_draws.new.out) (string_bytes c.push_choices.new.out) (string_bytes c.push_call.new.out)
    (string_bytes c.push_str.new.self) (string_bytes c.push_reply.new.out)
    c.in_ok-push_who.ensures c.in_ok-push_faults.ensures c.in_ok-push_draws.ensures c.in_ok-push_choices.ensures
    c.in_ok-push_call.ensures c.in_ok-push_str.ensures.bytes c.in_ok-push_reply.ensures)
    (on_ok c.push_str-2.result _ _ _ c.push_str-2.ensures.bytes)
