-- A freed slot stays freed until it is given.
use Rattle.std.proofs.Common.{◌≡◌, ◌≢◌, ◌⊎◌, inl, inr, ⊎_elim, ℕ, ◌+◌, ◌≤◌, ◌==◌, Bool, true, false, cond, List, [], ◌∷◌, ◌++◌, Option, Some, is_some, sym, ◌∙◌, ap, subst, refl, true≢false}
use Rattle.std.proofs.lemmas.Bool.{cases_eq, or_right}
use Rattle.hm_model.specs.declared.entry.Entry.{Entry}
use Rattle.hm_model.specs.declared.entry.Call.{Call}
use Rattle.hm_model.specs.declared.entry.Call.TheVariants.{Allot, GiveBack, Measure, Fill}
use Rattle.hm_model.specs.declared.entry.Reply.{Reply}
use Rattle.hm_model.specs.declared.entry.Reply.TheVariants.{Given, Overwritten, Freed, NoSlot, Unused, DoubleFree, WrongSize, Canary, Usable, Filled}
use Rattle.hm_model.specs.declared.entry.Choices.{Choices}
use Rattle.hm_model.specs.Calls.{IsFreedAt}
use Rattle.hm_model.specs.Machine.{state_after, state_append}
use Rattle.hm_model.specs.Maps.{among, at, has, removed}
use Rattle.hm_model.proofs.Lists.{other_eq}
use Rattle.hm_sizes.specs.declared.shape.Shape.{Shape}
use Rattle.hm_sizes.specs.Shapes.{IsShape, IsPlace, slab_of, slot_of}
use Rattle.hm_sizes.proofs.PlaceTest.{place_is}
use Rattle.hm_class_rules.specs.State.{State, start, is_live}
use Rattle.hm_class_rules.specs.Steps.{opened, takes_back, releases, changed, step}
use Rattle.hm_class_rules.specs.Rules.{Terms, Allows, Allowed, state}
use Rattle.hm_class_rules.specs.Laws.{IsGivenAt}
use Rattle.hm_class_rules.proofs.Legal.{picked_place, places_apart}
use Rattle.hm_guarantees.specs.Given.{GivesNone}
use Rattle.hm_guarantees.specs.FreedSlots.{LeavesFreed, FreedSlots}
use Rattle.hm_class_rules.proofs.Changes.{opened_live, out_live, has_removed}
use Rattle.hm_guarantees.proofs.Parts.{allows_call, allows_at, split, opened_given, released_live, released_given, out_given, has_removed_same}

-- a was given, and is not live
pub record IsSpent (p : Shape) (s : State) (a : ℕ) : Type 0 where
  pub place : IsPlace p a
  pub given : among a s.given ≡ true
  pub dead : is_live s a ≡ false

-- by the lists alone
spent_by : (p : Shape) (s s' : State) (a : ℕ) → s'.given ≡ s.given → s'.live ≡ s.live → IsSpent p s a → IsSpent p s' a
spent_by p s s' a same alike h = record {
  place = h.place;
  given = ap (λ (l : List ℕ). among a l) same ∙ h.given;
  dead = ap (λ (l : List (ℕ × ℕ)). has a l) alike ∙ h.dead;
}

-- ---- it begins with the free
freed_lists : (p : Shape) (c : Choices) (a : ℕ) (stated : Option ℕ) (s : State) → let s' = changed p c (GiveBack a stated) Freed s in (s'.given ≡ s.given) × (s'.live ≡ removed a s.live)
freed_lists p c a stated s =
    let s₂ : State = releases c.released (takes_back p a s) in
    (out_given p s₂ c.retired c.purged c.unparked ∙ released_given c.released (takes_back p a s), out_live p s₂ c.retired c.purged c.unparked ∙ released_live c.released (takes_back p a s))

pub spent_freed : (t : Terms) (s : State) (e : Entry) (a : ℕ) → Allowed t s e → IsFreedAt e a → IsSpent t.shape (step t.shape s e) a
spent_freed t s e a allowed is =
    let p : Shape = t.shape in
    let allows = allows_at t s e (GiveBack a is.stated) Freed allowed is.call is.reply in
    let lists = freed_lists p e.choices a is.stated s in
    let after : IsSpent p (record (changed p e.choices (GiveBack a is.stated) Freed s) { faults = e.faults_after }) a = record {
      place = allows.block.place;
      given = ap (λ (l : List ℕ). among a l) lists.0 ∙ allows.block.given;
      dead = ap (λ (l : List (ℕ × ℕ)). has a l) lists.1 ∙ has_removed_same a s.live;
    } in
    subst (λ (r : Reply). IsSpent p (record (changed p e.choices e.call r s) { faults = e.faults_after }) a) (sym is.reply)
    (subst (λ (c : Call). IsSpent p (record (changed p e.choices c Freed s) { faults = e.faults_after }) a) (sym is.call) after)

-- ---- and no other entry ends it
spent_changed : (p : Shape) (c : Choices) (call : Call) (reply : Reply) (s : State) (a : ℕ) → ((asked align size : ℕ) → call ≡ Allot asked align → reply ≡ Given a size → ⊥) → IsSpent p s a → IsSpent p (changed p c call reply s) a
spent_changed p c (Allot asked align) (Given b size) s a none h =
    let now : State = opened p c.opened c.canary s in
    let ne : b ≢ a = λ same. none asked align size refl (ap (λ (x : ℕ). Given x size) same) in
    record {
      place = h.place;
      given = or_right (b == a) (among a now.given) (ap (λ (l : List ℕ). among a l) (opened_given p c.opened c.canary s) ∙ h.given);
      dead = has_put b a asked now.live ne ∙ ap (λ (l : List (ℕ × ℕ)). has a l) (opened_live p c.opened c.canary s) ∙ h.dead;
    }
  where
    has_put : (k m x : ℕ) (l : List (ℕ × ℕ)) → k ≢ m → has m ((k, x) ∷ removed k l) ≡ has m l
    has_put k m x l other = ap (λ (o : Option ℕ). is_some o) (ap (λ (b : Bool). cond b (Some x) (at m (removed k l))) (other_eq k m other)) ∙ has_removed k m l other
spent_changed p c (Allot asked align) (Overwritten b at found) s a none h =
    spent_by p s (changed p c (Allot asked align) (Overwritten b at found) s) a (opened_given p c.opened c.canary s) (opened_live p c.opened c.canary s) h
spent_changed p c (GiveBack b stated) Freed s a none h =
    let lists = freed_lists p c b stated s in
    record {
      place = h.place;
      given = ap (λ (l : List ℕ). among a l) lists.0 ∙ h.given;
      dead = ap (λ (l : List (ℕ × ℕ)). has a l) lists.1 ∙ still (cases_eq b a);
    }
  where
    still : (b ≡ a) ⊎ (b ≡ a → ⊥) → has a (removed b s.live) ≡ false
    still (inl same) = ap (λ (k : ℕ). has a (removed k s.live)) same ∙ has_removed_same a s.live
    still (inr ne) = has_removed b a s.live ne ∙ h.dead
spent_changed p c (Fill b runs) Filled s a none h = spent_by p s (changed p c (Fill b runs) Filled s) a refl refl h
spent_changed p c call reply s a none h = h

pub spent_step : (p : Shape) (s : State) (e : Entry) (a : ℕ) → (IsGivenAt e a → ⊥) → IsSpent p s a → IsSpent p (step p s e) a
spent_step p s e a none h =
    spent_by p (changed p e.choices e.call e.reply s) (step p s e) a refl refl
    (spent_changed p e.choices e.call e.reply s a (λ asked align size is told. none (record { asked = asked; align = align; size = size; call = is; reply = told })) h)

spent_run : (t : Terms) (s : State) (es : List Entry) (a : ℕ) → GivesNone a es → IsSpent t.shape s a → IsSpent t.shape (state_after (step t.shape) (Allowed t) s es) a
spent_run t s [] a none h = h
spent_run t s (e ∷ es) a none h = spent_run t (step t.shape s e) es a none.1 (spent_step t.shape s e a none.0 h)

-- ---- what is asked of it
free_refused : (t : Terms) (s : State) (before now : ℕ) (c : Choices) (a : ℕ) (stated : Option ℕ) (reply : Reply) → IsSpent t.shape s a → Allows t s before now c (GiveBack a stated) reply → reply ≡ DoubleFree
free_refused t s before now c a stated NoSlot h allows = absurd (allows.0 h.place)
free_refused t s before now c a stated Unused h allows = absurd (true≢false (sym h.given ∙ allows.0.1))
free_refused t s before now c a stated DoubleFree h allows = refl
free_refused t s before now c a stated (WrongSize block other) h allows = absurd (true≢false (sym allows.0.live ∙ h.dead))
free_refused t s before now c a stated (Canary kept found) h allows = absurd (true≢false (sym allows.0.live ∙ h.dead))
free_refused t s before now c a stated Freed h allows = absurd (true≢false (sym allows.block.live ∙ h.dead))
free_refused t s before now c a stated reply h allows = absurd allows

size_refused : (t : Terms) (s : State) (before now : ℕ) (c : Choices) (a : ℕ) (reply : Reply) → IsSpent t.shape s a → Allows t s before now c (Measure a) reply → reply ≡ DoubleFree
size_refused t s before now c a NoSlot h allows = absurd (allows.0 h.place)
size_refused t s before now c a Unused h allows = absurd (true≢false (sym h.given ∙ allows.0.1))
size_refused t s before now c a DoubleFree h allows = refl
size_refused t s before now c a (Usable size) h allows = absurd (true≢false (sym allows.0.live ∙ h.dead))
size_refused t s before now c a reply h allows = absurd allows

given_apart : (t : Terms) (s : State) (e : Entry) (a b : ℕ) → IsShape t.shape → IsPlace t.shape a → Allowed t s e → IsGivenAt e b → (b ≡ a) ⊎ (b + t.shape.slot ≤ a) ⊎ (a + t.shape.slot ≤ b)
given_apart t s e a b shape place allowed is =
    let p : Shape = t.shape in
    let allows = allows_at t s e (Allot is.asked is.align) (Given b is.size) allowed is.call is.reply in
    let at_b = picked_place p s (opened p e.choices.opened e.choices.canary s) e.choices b allows.0 in
    let at_a = place_is p a (slab_of p a) (slot_of p a) place in
    ⊎_elim
    (λ same. inl same)
    (λ ne. inr (places_apart p b a (slab_of p b) (slot_of p b) (slab_of p a) (slot_of p a) shape at_b at_a ne))
    (cases_eq b a)

leaves_freed : (t : Terms) (s : State) (e : Entry) (a : ℕ) → IsShape t.shape → IsSpent t.shape s a → Allowed t s e → LeavesFreed t.shape s e a
leaves_freed t s e a shape h allowed = record {
  free = refused;
  kept = λ stated is. kept_by e.choices e.call e.reply stated is (refused stated is);
  size = λ is. size_refused t s e.faults_before e.faults_after e.choices a e.reply h (allows_call t s e (Measure a) allowed is);
  apart = λ b is. given_apart t s e a b shape h.place allowed is;
}
  where
    refused : (stated : Option ℕ) → e.call ≡ GiveBack a stated → e.reply ≡ DoubleFree
    refused stated is = free_refused t s e.faults_before e.faults_after e.choices a stated e.reply h (allows_call t s e (GiveBack a stated) allowed is)

    kept_by : (c : Choices) (call : Call) (reply : Reply) (stated : Option ℕ) → call ≡ GiveBack a stated → reply ≡ DoubleFree → record (changed t.shape c call reply s) { faults = e.faults_after } ≡ record s { faults = e.faults_after }
    kept_by c call reply stated is told =
        ap (λ (x : Call). record (changed t.shape c x reply s) { faults = e.faults_after }) is ∙ ap (λ (r : Reply). record (changed t.shape c (GiveBack a stated) r s) { faults = e.faults_after }) told

pub freed_slots : FreedSlots
freed_slots t before middle freed e a shape legal is none =
    let parts = split t before middle freed e legal in
    let h : IsSpent t.shape (state_after (step t.shape) (Allowed t) (step t.shape (state t before) freed) middle) a =
    spent_run t (step t.shape (state t before) freed) middle a none (spent_freed t (state t before) freed a parts.first is) in
    leaves_freed t (state t (before ++ (freed ∷ middle))) e a shape
    (subst (λ (s : State). IsSpent t.shape s a) (sym (state_append (step t.shape) (Allowed t) start before (freed ∷ middle))) h)
    parts.last
