-- A freed slot waits for as many further frees as the delay says.
use Rattle.std.proofs.Common.{◌≡◌, ◌⊎◌, inl, inr, ⊎_elim, ℕ, zero, suc, ◌+◌, ◌≤◌, ◌==◌, Bool, true, false, cond, ◌||◌, List, [], ◌∷◌, ◌++◌, take, Option, Some, None, sym, ◌∙◌, ap, subst, refl, arith, true≢false}
use Rattle.std.proofs.lemmas.Bool.{cases_eq, cases_lt, or_right}
use Rattle.hm_model.specs.declared.entry.Entry.{Entry}
use Rattle.hm_model.specs.declared.entry.Call.{Call}
use Rattle.hm_model.specs.declared.entry.Call.TheVariants.{Allot, GiveBack, Fill}
use Rattle.hm_model.specs.declared.entry.Reply.{Reply}
use Rattle.hm_model.specs.declared.entry.Reply.TheVariants.{Given, Overwritten, Freed, Filled}
use Rattle.hm_model.specs.declared.entry.Choices.{Choices}
use Rattle.hm_sizes.specs.declared.shape.Shape.{Shape}
use Rattle.hm_model.specs.Machine.{state_after, Legal, Legal_split}
use Rattle.hm_model.specs.Maps.{among, without}
use Rattle.hm_class_rules.specs.State.{State, start}
use Rattle.hm_sizes.specs.Shapes.{delay, place}
use Rattle.hm_class_rules.specs.Steps.{taken_new, opened, takes_back, releases, unparks, retires, purges, changed, step}
use Rattle.hm_class_rules.specs.Rules.{Terms, Allows, Allowed, AllowsFreed, AllowsGiven, Releases}
use Rattle.hm_model.specs.Calls.{IsFreedAt}
use Rattle.hm_class_rules.specs.Laws.{is_freed, frees_in, IsGivenAt, Delays}
use Rattle.hm_model.proofs.Lists.{times_among, among_times, same_eq, without_other}
use Rattle.hm_class_rules.proofs.Legal.{picked_uses}

-- what stands among the latest few stands among the latest more
take_more : (a m n : ℕ) (xs : List ℕ) → m ≤ n → among a (take m xs) ≡ true → among a (take n xs) ≡ true
take_more a zero n xs le e = absurd (true≢false (sym e))
take_more a (suc m) zero xs le e = absurd (omega arith)
take_more a (suc m) (suc n) [] le e = e
take_more a (suc m) (suc n) (x ∷ xs) le e =
    elim (x == a) as (λ b. (b || among a (take m xs)) ≡ true → (b || among a (take n xs)) ≡ true) [ true ↦ λ h. h | false ↦ λ h. take_more a m n xs (omega arith) h ] e

pub among_here : (a : ℕ) (xs : List ℕ) → among a (a ∷ xs) ≡ true
among_here a xs = ap (λ (b : Bool). b || among a xs) (same_eq a a refl)

-- a waits: it is in quarantine with at most k frees since its own, or there were as many as the delay
abbrev Waits : Shape → ℕ → ℕ → List ℕ → List ℕ → Type 0
Waits p a k quarantined frees = ((among a quarantined ≡ true) × (among a (take (suc k) frees) ≡ true)) ⊎ (delay p ≤ k)

waits_more : (p : Shape) (a k n : ℕ) (quarantined frees : List ℕ) → k ≤ n → Waits p a k quarantined frees → Waits p a n quarantined frees
waits_more p a k n quarantined frees le w =
    ⊎_elim (λ l. inl (l.0, take_more a (suc k) (suc n) frees (omega arith) l.1)) (λ r. inr (omega arith)) w

-- a release lets a go only after the delay
waits_released : (p : Shape) (s : State) (a k : ℕ) (o : Option ℕ) → Releases p s o → among a s.quarantined ≡ true → among a (take (suc k) s.frees) ≡ true → Waits p a k (releases o s).quarantined (releases o s).frees
waits_released p s a k None allows quarantined recent = inl (quarantined, recent)
waits_released p s a k (Some b) allows quarantined recent =
    ⊎_elim
    (λ e. ⊎_elim
    (λ lt. absurd (true≢false (sym (take_more a (suc k) (delay p) s.frees lt recent) ∙ subst (λ (x : ℕ). among x (take (delay p) s.frees) ≡ false) e allows.1)))
    (λ ge. inr ge)
    (cases_lt k (delay p)))
    (λ ne. inl (among_times a (without b s.quarantined) (omega (arith, without_other a b s.quarantined ne, times_among a s.quarantined quarantined)), recent))
    (cases_eq b a)

-- what comes after the release leaves quarantine and frees
pub out_quarantined : (p : Shape) (s : State) (r q u : Option ℕ) → (purges p q (retires r (unparks u s))).quarantined ≡ s.quarantined
out_quarantined p s None None None = refl
out_quarantined p s None None (Some u) = refl
out_quarantined p s None (Some q) None = refl
out_quarantined p s None (Some q) (Some u) = refl
out_quarantined p s (Some r) None None = refl
out_quarantined p s (Some r) None (Some u) = refl
out_quarantined p s (Some r) (Some q) None = refl
out_quarantined p s (Some r) (Some q) (Some u) = refl

pub out_frees : (p : Shape) (s : State) (r q u : Option ℕ) → (purges p q (retires r (unparks u s))).frees ≡ s.frees
out_frees p s None None None = refl
out_frees p s None None (Some u) = refl
out_frees p s None (Some q) None = refl
out_frees p s None (Some q) (Some u) = refl
out_frees p s (Some r) None None = refl
out_frees p s (Some r) None (Some u) = refl
out_frees p s (Some r) (Some q) None = refl
out_frees p s (Some r) (Some q) (Some u) = refl

new_quarantined : (p : Shape) (l : List ℕ) (s : State) → (taken_new p l s).quarantined ≡ s.quarantined
new_quarantined p [] s = refl
new_quarantined p (m ∷ ms) s = refl

new_frees : (p : Shape) (l : List ℕ) (s : State) → (taken_new p l s).frees ≡ s.frees
new_frees p [] s = refl
new_frees p (m ∷ ms) s = refl

pub opened_quarantined : (p : Shape) (o canary : Option ℕ) (s : State) → (opened p o canary s).quarantined ≡ s.quarantined
opened_quarantined p None canary s = refl
opened_quarantined p (Some n) canary s = new_quarantined p s.shut s

pub opened_frees : (p : Shape) (o canary : Option ℕ) (s : State) → (opened p o canary s).frees ≡ s.frees
opened_frees p None canary s = refl
opened_frees p (Some n) canary s = new_frees p s.shut s

move : (p : Shape) (a k : ℕ) (quarantined quarantined' frees frees' : List ℕ) → quarantined' ≡ quarantined → frees' ≡ frees → Waits p a k quarantined frees → Waits p a k quarantined' frees'
move p a k quarantined quarantined' frees frees' e f w = subst (λ (x : List ℕ). Waits p a k x frees') (sym e) (subst (λ (x : List ℕ). Waits p a k quarantined x) (sym f) w)

-- a free, with a in quarantine since
waits_freed : (t : Terms) (s : State) (before now : ℕ) (c : Choices) (a b k : ℕ) (stated : Option ℕ) → AllowsFreed t s before now c b stated
    → among a (b ∷ s.quarantined) ≡ true → among a (take (suc k) (b ∷ s.frees)) ≡ true
    → let s' = changed t.shape c (GiveBack b stated) Freed s in Waits t.shape a k s'.quarantined s'.frees
waits_freed t s before now c a b k stated allows quarantined recent =
    let s₂ : State = releases c.released (takes_back t.shape b s) in
    move t.shape a k s₂.quarantined _ s₂.frees _ (out_quarantined t.shape s₂ c.retired c.purged c.unparked) (out_frees t.shape s₂ c.retired c.purged c.unparked)
    (waits_released t.shape (takes_back t.shape b s) a k c.released allows.release quarantined recent)

abbrev one : Reply → ℕ
one reply = cond (is_freed reply) 1 0

waits_changed : (t : Terms) (s : State) (before now : ℕ) (c : Choices) (call : Call) (reply : Reply) (a k : ℕ) → Allows t s before now c call reply → Waits t.shape a k s.quarantined s.frees
    → let s' = changed t.shape c call reply s in Waits t.shape a (k + one reply) s'.quarantined s'.frees
waits_changed t s before now c (Allot asked align) (Given x size) a k allows w =
    waits_more t.shape a k (k + 0) _ _ (omega arith) (move t.shape a k s.quarantined _ s.frees _ (opened_quarantined t.shape c.opened c.canary s) (opened_frees t.shape c.opened c.canary s) w)
waits_changed t s before now c (Allot asked align) (Overwritten x place found) a k allows w =
    waits_more t.shape a k (k + 0) _ _ (omega arith) (move t.shape a k s.quarantined _ s.frees _ (opened_quarantined t.shape c.opened c.canary s) (opened_frees t.shape c.opened c.canary s) w)
waits_changed t s before now c (GiveBack b stated) Freed a k allows w =
    ⊎_elim
    (λ l. waits_more t.shape a (suc k) (k + 1) _ _ (omega arith)
    (waits_freed t s before now c a b (suc k) stated allows (or_right (b == a) (among a s.quarantined) l.0) (or_right (b == a) (among a (take (suc k) s.frees)) l.1)))
    (λ r. inr (omega arith))
    w
waits_changed t s before now c (Fill x runs) Filled a k allows w = waits_more t.shape a k (k + 0) _ _ (omega arith) w
waits_changed t s before now c call reply a k allows w = waits_more t.shape a k (k + one reply) s.quarantined s.frees (omega arith) w

waits_step : (t : Terms) (s : State) (e : Entry) (a k : ℕ) → Allowed t s e → Waits t.shape a k s.quarantined s.frees → let s' = step t.shape s e in Waits t.shape a (k + one e.reply) s'.quarantined s'.frees
waits_step t s e a k allowed w = waits_changed t s e.faults_before e.faults_after e.choices e.call e.reply a k allowed.allows w

waits_run : (t : Terms) (s : State) (es : List Entry) (a k : ℕ) → Legal (step t.shape) (Allowed t) s es → Waits t.shape a k s.quarantined s.frees
    → let s' = state_after (step t.shape) (Allowed t) s es in Waits t.shape a (k + frees_in es) s'.quarantined s'.frees
waits_run t s [] a k legal w = waits_more t.shape a k (k + 0) s.quarantined s.frees (omega arith) w
waits_run t s (e ∷ es) a k legal w =
    let s' = state_after (step t.shape) (Allowed t) s (e ∷ es) in
    waits_more t.shape a ((k + one e.reply) + frees_in es) (k + frees_in (e ∷ es)) s'.quarantined s'.frees (omega arith)
    (waits_run t (step t.shape s e) es a (k + one e.reply) legal.1 (waits_step t s e a k legal.0 w))

-- a freed slot begins to wait
waits_start : (t : Terms) (s : State) (e : Entry) (a : ℕ) → Allowed t s e → IsFreedAt e a → let s' = step t.shape s e in Waits t.shape a 0 s'.quarantined s'.frees
waits_start t s e a allowed is =
    let allows : AllowsFreed t s e.faults_before e.faults_after e.choices a is.stated =
    subst (λ (r : Reply). Allows t s e.faults_before e.faults_after e.choices (GiveBack a is.stated) r) is.reply
    (subst (λ (c : Call). Allows t s e.faults_before e.faults_after e.choices c e.reply) is.call allowed.allows) in
    subst (λ (r : Reply). let s' = changed t.shape e.choices e.call r s in Waits t.shape a 0 s'.quarantined s'.frees) (sym is.reply)
    (subst (λ (c : Call). let s' = changed t.shape e.choices c Freed s in Waits t.shape a 0 s'.quarantined s'.frees) (sym is.call)
    (waits_freed t s e.faults_before e.faults_after e.choices a a 0 is.stated allows (among_here a s.quarantined) (among_here a (take 0 s.frees))))

-- and no slot in quarantine is given
waits_end : (t : Terms) (s : State) (e : Entry) (a k : ℕ) → Allowed t s e → IsGivenAt e a → Waits t.shape a k s.quarantined s.frees → delay t.shape ≤ k
waits_end t s e a k allowed is w =
    let c : Choices = e.choices in
    let allows : AllowsGiven t s c a is.size =
    subst (λ (r : Reply). Allows t s e.faults_before e.faults_after c (Allot is.asked is.align) r) is.reply
    (subst (λ (x : Call). Allows t s e.faults_before e.faults_after c x e.reply) is.call allowed.allows) in
    let now : State = opened t.shape c.opened c.canary s in
    let none = (picked_uses t.shape s now c a allows.0).1 in
    ⊎_elim
    (λ l. absurd (omega (arith, none, times_among a now.quarantined (ap (λ (x : List ℕ). among a x) (opened_quarantined t.shape c.opened c.canary s) ∙ l.0))))
    (λ r. r)
    w

pub delays : Delays
delays t es middle fs f g a legal freed given =
    let p₀ = Legal_split (step t.shape) (Allowed t) start es (f ∷ (middle ++ (g ∷ fs))) legal in
    let s₀ : State = state_after (step t.shape) (Allowed t) start es in
    let p₁ = Legal_split (step t.shape) (Allowed t) (step t.shape s₀ f) middle (g ∷ fs) p₀.1.1 in
    let s₁ : State = state_after (step t.shape) (Allowed t) (step t.shape s₀ f) middle in
    let w = waits_run t (step t.shape s₀ f) middle a 0 p₁.0 (waits_start t s₀ f a p₀.1.0 freed) in
    omega (arith, waits_end t s₁ g a (0 + frees_in middle) p₁.1.0 given w)
