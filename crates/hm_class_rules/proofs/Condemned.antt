-- A slot that was found overwritten is never given.
use Rattle.std.proofs.Common.{◌≡◌, ℕ, ◌==◌, true, List, [], ◌∷◌, ◌++◌, Option, Some, None, sym, ◌∙◌, ap, subst, refl, arith}
use Rattle.std.proofs.lemmas.Bool.{or_right}
use Rattle.hm_model.specs.declared.entry.Entry.{Entry}
use Rattle.hm_model.specs.declared.entry.Call.{Call}
use Rattle.hm_model.specs.declared.entry.Call.TheVariants.{Allot, GiveBack, Fill}
use Rattle.hm_model.specs.declared.entry.Reply.{Reply}
use Rattle.hm_model.specs.declared.entry.Reply.TheVariants.{Given, Overwritten, Freed, Filled}
use Rattle.hm_model.specs.declared.entry.Choices.{Choices}
use Rattle.hm_model.specs.Machine.{state_after, Legal_split}
use Rattle.hm_model.specs.Maps.{among}
use Rattle.hm_model.proofs.Lists.{times_among}
use Rattle.hm_sizes.specs.declared.shape.Shape.{Shape}
use Rattle.hm_class_rules.specs.State.{State, start}
use Rattle.hm_class_rules.specs.Steps.{taken_new, opened, takes_back, releases, unparks, retires, purges, changed, step}
use Rattle.hm_class_rules.specs.Rules.{Terms, Allows, Allowed, AllowsGiven}
use Rattle.hm_class_rules.specs.Laws.{IsGivenAt, IsOverwrittenAt, NeverGiven}
use Rattle.hm_class_rules.proofs.Legal.{picked_uses}
use Rattle.hm_class_rules.proofs.Delay.{among_here}

-- ---- no entry takes an address out of those that are condemned
new_condemned : (p : Shape) (l : List ℕ) (s : State) → (taken_new p l s).condemned ≡ s.condemned
new_condemned p [] s = refl
new_condemned p (m ∷ ms) s = refl

pub opened_condemned : (p : Shape) (o canary : Option ℕ) (s : State) → (opened p o canary s).condemned ≡ s.condemned
opened_condemned p None canary s = refl
opened_condemned p (Some n) canary s = new_condemned p s.shut s

released_condemned : (p : Shape) (a : ℕ) (o : Option ℕ) (s : State) → (releases o (takes_back p a s)).condemned ≡ s.condemned
released_condemned p a None s = refl
released_condemned p a (Some b) s = refl

pub out_condemned : (p : Shape) (s : State) (r q u : Option ℕ) → (purges p q (retires r (unparks u s))).condemned ≡ s.condemned
out_condemned p s None None None = refl
out_condemned p s None None (Some u) = refl
out_condemned p s None (Some q) None = refl
out_condemned p s None (Some q) (Some u) = refl
out_condemned p s (Some r) None None = refl
out_condemned p s (Some r) None (Some u) = refl
out_condemned p s (Some r) (Some q) None = refl
out_condemned p s (Some r) (Some q) (Some u) = refl

stays : (a : ℕ) (before after : List ℕ) → after ≡ before → among a before ≡ true → among a after ≡ true
stays a before after same h = ap (λ (l : List ℕ). among a l) same ∙ h

stays_changed : (p : Shape) (c : Choices) (call : Call) (reply : Reply) (a : ℕ) (s : State) → among a s.condemned ≡ true → among a (changed p c call reply s).condemned ≡ true
stays_changed p c (Allot asked align) (Given x size) a s h = stays a s.condemned _ (opened_condemned p c.opened c.canary s) h
stays_changed p c (Allot asked align) (Overwritten x at found) a s h =
    or_right (x == a) (among a (opened p c.opened c.canary s).condemned) (stays a s.condemned _ (opened_condemned p c.opened c.canary s) h)
stays_changed p c (GiveBack x stated) Freed a s h =
    stays a s.condemned _ (out_condemned p (releases c.released (takes_back p x s)) c.retired c.purged c.unparked ∙ released_condemned p x c.released s) h
stays_changed p c (Fill x runs) Filled a s h = h
stays_changed p c call reply a s h = h

stays_after : (t : Terms) (s : State) (es : List Entry) (a : ℕ) → among a s.condemned ≡ true → among a (state_after (step t.shape) (Allowed t) s es).condemned ≡ true
stays_after t s [] a h = h
stays_after t s (e ∷ es) a h = stays_after t (step t.shape s e) es a (stays_changed t.shape e.choices e.call e.reply a s h)

-- ---- it begins with the finding
found_step : (p : Shape) (s : State) (e : Entry) (a : ℕ) → IsOverwrittenAt e a → among a (step p s e).condemned ≡ true
found_step p s e a is =
    subst (λ (r : Reply). among a (changed p e.choices e.call r s).condemned ≡ true) (sym is.reply)
    (subst (λ (c : Call). among a (changed p e.choices c (Overwritten a is.place is.found) s).condemned ≡ true) (sym is.call)
    (among_here a (opened p e.choices.opened e.choices.canary s).condemned))

-- ---- and no such slot is given
given_none : (t : Terms) (s : State) (e : Entry) (a : ℕ) → Allowed t s e → IsGivenAt e a → among a s.condemned ≡ true → ⊥
given_none t s e a allowed is h =
    let c : Choices = e.choices in
    let allows : AllowsGiven t s c a is.size =
    subst (λ (r : Reply). Allows t s e.faults_before e.faults_after c (Allot is.asked is.align) r) is.reply
    (subst (λ (x : Call). Allows t s e.faults_before e.faults_after c x e.reply) is.call allowed.allows) in
    let now : State = opened t.shape c.opened c.canary s in
    let none = (picked_uses t.shape s now c a allows.0).1 in
    omega (arith, none, times_among a now.condemned (stays a s.condemned now.condemned (opened_condemned t.shape c.opened c.canary s) h))

pub never_given : NeverGiven
never_given t es middle fs o g a legal found given =
    let p₀ = Legal_split (step t.shape) (Allowed t) start es (o ∷ (middle ++ (g ∷ fs))) legal in
    let s₀ : State = state_after (step t.shape) (Allowed t) start es in
    let p₁ = Legal_split (step t.shape) (Allowed t) (step t.shape s₀ o) middle (g ∷ fs) p₀.1.1 in
    given_none t (state_after (step t.shape) (Allowed t) (step t.shape s₀ o) middle) g a p₁.1.0 given (stays_after t (step t.shape s₀ o) middle a (found_step t.shape s₀ o a found))
