-- Each live block of a drawn history has a guard.
use Rattle.std.proofs.Common.{ℕ, List, subst}
use Rattle.hm_model.specs.declared.entry.Entry.{Entry}
use Rattle.hm_model.specs.Machine.{legal_keeps}
use Rattle.hm_large_rules.specs.State.{State, start, AreGuarded}
use Rattle.hm_large_rules.specs.Steps.{step}
use Rattle.hm_large_rules.specs.Rules.{Terms, Allowed, state}
use Rattle.hm_large_rules.specs.Drawn.{IsDrawnEntry, IsDrawn}
use Rattle.hm_large_rules.proofs.Legal.{state_same}
use Rattle.hm_large.proofs.Reached.{guarded_changed}

pub guarded : (t : Terms) (seed : ℕ) (es : List Entry) → IsDrawn seed es → AreGuarded (state t es).live
guarded t seed es drawn =
    subst (λ (s : State). AreGuarded s.live) (state_same (IsDrawnEntry seed) (Allowed t) start es)
    (legal_keeps step (IsDrawnEntry seed) (λ s. AreGuarded s.live) (λ s e g draws. guarded_changed seed s e e.call e.reply g draws) start es tt drawn)
