-- From what is found of the state to what is found of an entry.
use Rattle.std.proofs.Common.{◌≡◌, ◌≢◌, ℕ, Bool, true, List, Option, Some, None, IsTrue, sym, ◌∙◌, subst, refl}
use Rattle.std.specs.Prelude.{◌↔◌}
use Rattle.hm_model.specs.declared.entry.Entry.{Entry}
use Rattle.hm_model.specs.declared.entry.Choices.{Choices}
use Rattle.hm_model.specs.declared.entry.Call.{Call}
use Rattle.hm_model.specs.declared.entry.Call.TheVariants.{Allot, GiveBack, Fill}
use Rattle.hm_model.specs.declared.entry.Reply.{Reply}
use Rattle.hm_model.specs.declared.entry.Reply.TheVariants.{Given, Overwritten, Freed, Filled}
use Rattle.hm_sizes.specs.declared.shape.Shape.{Shape}
use Rattle.hm_class_rules.specs.State.{State}
use Rattle.hm_class_rules.specs.Steps.{changed}
use Rattle.hm_class_rules.specs.Rules.{Terms, Allowed, Allows}
use Rattle.hm_class_rules.specs.Draws.{Event, Picked, Returned, Undrawn, event, event_of, start_slot}
use Rattle.hm_class_rules.specs.Kinds as rules
use Rattle.hm_class_rules.specs.Stepped.{touched}
use Rattle.hm_sizes.specs.Shapes.{slab_of}
use Rattle.hm_class_book.specs.Follows.{Follows}
use Rattle.hm_class_book.specs.Picks.{IsFirst, Judges}
use Rattle.hm_class_book.specs.Reached.{Said, IsChanged, IsReached, Found, FoundPicked, FoundFreed}

-- ---- what is allowed, by the call and the reply
module _ (t : Terms) (s : State) (e : Entry) (call : Call) (reply : Reply) (call_is : e.call ≡ call) (reply_is : e.reply ≡ reply) (fo : Follows t.shape s e) where
  pub allowed_from : Allows t s e.faults_before e.faults_after e.choices call reply → Allowed t s e
  allowed_from h = record {
    draws = fo.draws;
    asks = fo.asks;
    follows = fo.follows;
    later = fo.later;
    allows = along (sym call_is) (sym reply_is) h;
  }
    where
      along : call ≡ e.call → reply ≡ e.reply → Allows t s e.faults_before e.faults_after e.choices call reply → Allows t s e.faults_before e.faults_after e.choices e.call e.reply
      along p q x = subst (λ (r : Reply). Allows t s e.faults_before e.faults_after e.choices e.call r) q (subst (λ (k : Call). Allows t s e.faults_before e.faults_after e.choices k reply) p x)

  pub allows_from : Allowed t s e → Allows t s e.faults_before e.faults_after e.choices call reply
  allows_from h =
      subst (λ (r : Reply). Allows t s e.faults_before e.faults_after e.choices call r) reply_is
      (subst (λ (k : Call). Allows t s e.faults_before e.faults_after e.choices k e.reply) call_is h.allows)

  pub allowed_both : (legal : Bool) → IsTrue legal ↔ Allows t s e.faults_before e.faults_after e.choices call reply → IsTrue legal ↔ Allowed t s e
  allowed_both legal h = (λ yes. allowed_from (h.0 yes), λ is. h.1 (allows_from is))

changed_is : (b : Said) (e : Entry) (call : Call) (reply : Reply) (s : State) → e.call ≡ call → e.reply ≡ reply → s ≡ changed b.terms.shape e.choices call reply b.cells.state → IsChanged b e s
changed_is b e call reply s p q h = h ∙ (λ i. changed b.terms.shape e.choices (sym p i) (sym q i) b.cells.state)

event_by : (e : Entry) (call : Call) (reply : Reply) (ev : Event) → e.call ≡ call → e.reply ≡ reply → event_of call reply ≡ ev → event e ≡ ev
event_by e call reply ev p q h = (λ i. event_of (p i) (q i)) ∙ h

-- ---- at which nothing is drawn
pub found : (b : Said) (e : Entry) (call : Call) (reply : Reply) (legal : Bool) (s : State) → IsReached b → Follows b.terms.shape b.cells.state e → e.call ≡ call → e.reply ≡ reply
    → event_of call reply ≡ Undrawn → (legal ≡ true → s ≡ changed b.terms.shape e.choices call reply b.cells.state)
    → IsTrue legal ↔ Allows b.terms b.cells.state e.faults_before e.faults_after e.choices call reply → Found b e legal s
found b e call reply legal s r fo p q none becomes h = record {
  reached = r;
  undrawn = event_by e call reply Undrawn p q none;
  allows = allowed_both b.terms b.cells.state e call reply p q fo legal h;
  changed = λ yes. changed_is b e call reply s p q (becomes yes);
}

-- ---- replies at which nothing moves
pub unfilled_moves : (p : Shape) (c : Choices) (a : ℕ) (runs : List (ℕ × ℕ)) (reply : Reply) (s : State) → reply ≢ Filled → s ≡ changed p c (Fill a runs) reply s
unfilled_moves p c a runs Filled s ne = absurd (ne refl)
unfilled_moves p c a runs reply s ne = refl

pub kept_moves : (p : Shape) (c : Choices) (a : ℕ) (stated : Option ℕ) (reply : Reply) (s : State) → reply ≢ Freed → s ≡ changed p c (GiveBack a stated) reply s
kept_moves p c a stated Freed s ne = absurd (ne refl)
kept_moves p c a stated reply s ne = refl

pub kept_event : (a : ℕ) (stated : Option ℕ) (reply : Reply) → reply ≢ Freed → event_of (GiveBack a stated) reply ≡ Undrawn
kept_event a stated Freed ne = absurd (ne refl)
kept_event a stated reply ne = refl

pub ungiven_moves : (p : Shape) (c : Choices) (asked align : ℕ) (reply : Reply) (s : State) → ((a n : ℕ) → reply ≢ Given a n) → ((a n m : ℕ) → reply ≢ Overwritten a n m) → s ≡ changed p c (Allot asked align) reply s
ungiven_moves p c asked align (Given a n) s x y = absurd (x a n refl)
ungiven_moves p c asked align (Overwritten a n m) s x y = absurd (y a n m refl)
ungiven_moves p c asked align reply s x y = refl

pub ungiven_event : (asked align : ℕ) (reply : Reply) → ((a n : ℕ) → reply ≢ Given a n) → ((a n m : ℕ) → reply ≢ Overwritten a n m) → event_of (Allot asked align) reply ≡ Undrawn
ungiven_event asked align (Given a n) x y = absurd (x a n refl)
ungiven_event asked align (Overwritten a n m) x y = absurd (y a n m refl)
ungiven_event asked align reply x y = refl

-- ---- in which a slot was picked
judges_by : (A B F : Type 0) (M N : Type 0) (picked : Option Bool) → (A → B) → (B → A) → (M → N) → Judges A F M picked → Judges B F N picked
judges_by A B F M N None to from on h = λ x. h (from x)
judges_by A B F M N (Some first) to from on h = (to h.0, h.1, on h.2)

pub found_picked : (b : Said) (e : Entry) (call : Call) (reply : Reply) (a : ℕ) (k : rules.Kind) (picked : Option Bool) (s : State) → IsReached b → Follows b.terms.shape b.cells.state e → e.call ≡ call → e.reply ≡ reply
    → event_of call reply ≡ Picked a → k ≡ rules.kind b.terms.shape b.cells.state (slab_of b.terms.shape a)
    → Judges (Allows b.terms b.cells.state e.faults_before e.faults_after e.choices call reply)
    (IsFirst b.terms.shape b.cells.state e.choices (start_slot b.terms e.choices e.draws) a)
    (s ≡ changed b.terms.shape e.choices call reply b.cells.state) picked
    → FoundPicked b e a k picked s
found_picked b e call reply a k picked s r fo p q ev kind h = record {
  reached = r;
  event_is = event_by e call reply (Picked a) p q ev;
  kind_is = kind;
  judged = judges_by _ _ _ _ _ picked (allowed_from b.terms b.cells.state e call reply p q fo) (allows_from b.terms b.cells.state e call reply p q fo)
      (λ x. changed_is b e call reply s p q x) h;
}

-- ---- in which a block was taken back
pub found_freed : (b : Said) (e : Entry) (a : ℕ) (stated : Option ℕ) (k : rules.Kind) (legal : Bool) (s : State) → IsReached b → Follows b.terms.shape b.cells.state e → e.call ≡ GiveBack a stated → e.reply ≡ Freed
    → k ≡ rules.kind b.terms.shape b.cells.state (touched b.terms.shape e.choices.released (Returned a))
    → IsTrue legal ↔ Allows b.terms b.cells.state e.faults_before e.faults_after e.choices (GiveBack a stated) Freed
    → (legal ≡ true → s ≡ changed b.terms.shape e.choices (GiveBack a stated) Freed b.cells.state)
    → FoundFreed b e a k legal s
found_freed b e a stated k legal s r fo p q kind h becomes = record {
  reached = r;
  event_is = event_by e (GiveBack a stated) Freed (Returned a) p q refl;
  kind_is = kind;
  allows = allowed_both b.terms b.cells.state e (GiveBack a stated) Freed p q fo legal h;
  changed = λ yes. changed_is b e (GiveBack a stated) Freed s p q (becomes yes);
}
