-- Few addresses are in quarantine.
use Rattle.std.proofs.Common.{ℕ, ◌+◌, ◌≤◌, List, length, Option, Some, None, sym, subst, arith}
use Rattle.hm_model.specs.declared.entry.Call.{Call}
use Rattle.hm_model.specs.declared.entry.Call.TheVariants.{Allot, GiveBack, Fill}
use Rattle.hm_model.specs.declared.entry.Reply.{Reply}
use Rattle.hm_model.specs.declared.entry.Reply.TheVariants.{Given, Overwritten, Freed, Filled}
use Rattle.hm_model.specs.declared.entry.Choices.{Choices}
use Rattle.hm_model.specs.Machine.{legal_keeps}
use Rattle.hm_sizes.specs.declared.shape.Shape.{Shape}
use Rattle.hm_class_rules.specs.State.{State, start}
use Rattle.hm_class_rules.specs.Steps.{takes_back, releases, changed, step}
use Rattle.hm_class_rules.specs.Rules.{Terms, Allows, Allowed, Releases}
use Rattle.hm_class_rules.specs.Laws.{HoldsFew}
use Rattle.hm_class_rules.proofs.Delay.{out_quarantined, opened_quarantined}

-- a list of addresses that has room in the array and the ring
abbrev AreFew : Shape → List ℕ → Type 0
AreFew p quarantined = length quarantined ≤ p.array + p.ring

few_released : (p : Shape) (s : State) (o : Option ℕ) → Releases p s o → AreFew p (releases o s).quarantined
few_released p s None allows = allows
few_released p s (Some b) allows = allows.2

few_changed : (t : Terms) (s : State) (before now : ℕ) (c : Choices) (call : Call) (reply : Reply) → AreFew t.shape s.quarantined → Allows t s before now c call reply → AreFew t.shape (changed t.shape c call reply s).quarantined
few_changed t s before now c (Allot asked align) (Given a size) few allows = subst (λ (l : List ℕ). AreFew t.shape l) (sym (opened_quarantined t.shape c.opened c.canary s)) few
few_changed t s before now c (Allot asked align) (Overwritten a place found) few allows = subst (λ (l : List ℕ). AreFew t.shape l) (sym (opened_quarantined t.shape c.opened c.canary s)) few
few_changed t s before now c (GiveBack a stated) Freed few allows =
    subst (λ (l : List ℕ). AreFew t.shape l) (sym (out_quarantined t.shape (releases c.released (takes_back t.shape a s)) c.retired c.purged c.unparked))
    (few_released t.shape (takes_back t.shape a s) c.released allows.release)
few_changed t s before now c (Fill a runs) Filled few allows = few
few_changed t s before now c call reply few allows = few

pub holds_few : HoldsFew
holds_few t es legal =
    legal_keeps (step t.shape) (Allowed t) (λ s. AreFew t.shape s.quarantined) (λ s e few allowed. few_changed t s e.faults_before e.faults_after e.choices e.call e.reply few allowed.allows) start es (omega arith) legal
