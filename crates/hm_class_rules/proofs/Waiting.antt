-- What the frees of a legal and drawn history hold in quarantine.
use Rattle.std.proofs.Common.{◌≡◌, ℕ, ◌+◌, ◌≤◌, ◌==◌, Bool, true, false, List, [], ◌∷◌, length, take, Option, Some, None, IfSome, sym, ◌∙◌, ap, subst, refl, arith}
use Rattle.hm_base.specs.Members.{without_option}
use Rattle.hm_quarantine.specs.Quarantine.{Kept, IsArrayIndex, goes_on, let_go, kept_with}
use Rattle.hm_quarantine.specs.LookingBack.{Free, released, AreIndices, kept_after}
use Rattle.hm_quarantine.specs.Delay.{slots_of, quarantined, AreNew, IsDelayed}
use Rattle.hm_quarantine.proofs.Counts as counted
use Rattle.hm_quarantine.proofs.Counts.{one_of, count, count_in, count_array, count_empty, count_ring, count_without, once_more, self_is}
use Rattle.hm_quarantine.proofs.Passes.{length_array, length_is, ring_is, few_latest, looks_back}
use Rattle.hm_quarantine.proofs.Ages.{delays, holds_few}
use Rattle.hm_model.specs.Maps.{among}
use Rattle.hm_model.specs.declared.entry.Call.{Call}
use Rattle.hm_model.specs.declared.entry.Call.TheVariants.{Allot, GiveBack, Fill}
use Rattle.hm_model.specs.declared.entry.Reply.{Reply}
use Rattle.hm_model.specs.declared.entry.Reply.TheVariants.{Given, Overwritten, Freed, Filled}
use Rattle.hm_model.specs.declared.entry.Choices.{Choices}
use Rattle.hm_model.specs.declared.entry.Draws.{Draws}
use Rattle.hm_model.proofs.Lists.{among_none}
use Rattle.hm_sizes.specs.declared.shape.Shape.{Shape}
use Rattle.hm_sizes.specs.Shapes.{delay}
use Rattle.hm_class_rules.specs.State.{State, is_live}
use Rattle.hm_class_rules.specs.Steps.{takes_back, releases, changed}
use Rattle.hm_class_rules.specs.Rules.{Terms, Allows, Releases}
use Rattle.hm_class_rules.specs.Laws.{IsSound}
use Rattle.hm_class_rules.specs.Draws.{Event, Returned, event_of}
use Rattle.hm_class_rules.specs.Drawn.{free_at, with_free}
use Rattle.hm_class_rules.proofs.Sound.{has_times}
use Rattle.hm_class_rules.proofs.Parking.{only_one}
use Rattle.hm_class_rules.proofs.Delay.{out_quarantined, out_frees, opened_quarantined, opened_frees}

-- the addresses in quarantine and the accepted frees are those of these frees, none of which is of an address in quarantine
pub record AreQuarantined (p : Shape) (frees : List Free) (in_quarantine accepted : List ℕ) : Type 0 where
  pub quarantined_is : in_quarantine ≡ quarantined p.array p.ring frees
  pub frees_is : accepted ≡ slots_of frees
  pub new : AreNew p.array p.ring frees

quarantined_changed : (p : Shape) (frees : List Free) (h h' f f' : List ℕ) → h' ≡ h → f' ≡ f → AreQuarantined p frees h f → AreQuarantined p frees h' f'
quarantined_changed p frees h h' f f' e d are = record { quarantined_is = e ∙ are.quarantined_is; frees_is = d ∙ are.frees_is; new = are.new }

-- a live address is not in quarantine
live_apart : (p : Shape) (s : State) (a : ℕ) → IsSound p s → is_live s a ≡ true → among a s.quarantined ≡ false
live_apart p s a sound is = among_none a s.quarantined (omega (arith, sound.once a, has_times a s.live is))

pub is_new : (p : Shape) (s : State) (frees : List Free) (a : ℕ) (d : Draws) → IsSound p s → AreQuarantined p frees s.quarantined s.frees → is_live s a ≡ true → AreNew p.array p.ring (free_at p d a ∷ frees)
is_new p s frees a d sound are is = (ap (λ (l : List ℕ). among a l) (sym are.quarantined_is) ∙ live_apart p s a sound is, are.new)

released_quarantined : (o : Option ℕ) (s : State) → (releases o s).quarantined ≡ without_option o s.quarantined
released_quarantined None s = refl
released_quarantined (Some b) s = refl

released_frees : (o : Option ℕ) (s : State) → (releases o s).frees ≡ s.frees
released_frees None s = refl
released_frees (Some b) s = refl

-- what an event releases is what looking back finds
abbrev pub ReleasesDrawn : Shape → List Free → Draws → Choices → Event → Type 0
ReleasesDrawn p frees d c (Returned a) = c.released ≡ released p.array p.ring frees (free_at p d a)
ReleasesDrawn p frees d c event = Unit {0}

pub quarantined_next : (t : Terms) (s : State) (frees : List Free) (d : Draws) (before now : ℕ) (c : Choices) (call : Call) (reply : Reply) → IsSound t.shape s → Allows t s before now c call reply
    → ReleasesDrawn t.shape frees d c (event_of call reply) → AreQuarantined t.shape frees s.quarantined s.frees
    → let s' = changed t.shape c call reply s in AreQuarantined t.shape (with_free t.shape d (event_of call reply) frees) s'.quarantined s'.frees
quarantined_next t s frees d before now c (Allot asked align) (Given a size) sound allows drawn are =
    quarantined_changed t.shape frees s.quarantined _ s.frees _ (opened_quarantined t.shape c.opened c.canary s) (opened_frees t.shape c.opened c.canary s) are
quarantined_next t s frees d before now c (Allot asked align) (Overwritten a at found) sound allows drawn are =
    quarantined_changed t.shape frees s.quarantined _ s.frees _ (opened_quarantined t.shape c.opened c.canary s) (opened_frees t.shape c.opened c.canary s) are
quarantined_next t s frees d before now c (GiveBack a stated) Freed sound allows drawn are =
    let p : Shape = t.shape in
    let s₂ : State = releases c.released (takes_back p a s) in
    record {
      quarantined_is = out_quarantined p s₂ c.retired c.purged c.unparked ∙ released_quarantined c.released (takes_back p a s) ∙ ap (λ (o : Option ℕ). without_option o (a ∷ s.quarantined)) drawn
          ∙ ap (λ (l : List ℕ). without_option (released p.array p.ring frees (free_at p d a)) (a ∷ l)) are.quarantined_is;
      frees_is = out_frees p s₂ c.retired c.purged c.unparked ∙ released_frees c.released (takes_back p a s) ∙ ap (λ (l : List ℕ). a ∷ l) are.frees_is;
      new = is_new p s frees a d sound are allows.block.live;
    }
quarantined_next t s frees d before now c (Fill a runs) Filled sound allows drawn are = are
quarantined_next t s frees d before now c call reply sound allows drawn are = are

-- what the next free releases may be released
releases_by : (p : Shape) (s : State) (o : Option ℕ) (frees : List Free) (free : Free) → AreQuarantined p frees s.quarantined s.frees → IfSome o (IsDelayed p.array p.ring frees free)
    → length (without_option o (free.slot ∷ quarantined p.array p.ring frees)) ≤ p.array + p.ring → Releases p (takes_back p free.slot s) o
releases_by p s None frees free are late few = subst (λ (l : List ℕ). length (free.slot ∷ l) ≤ p.array + p.ring) (sym are.quarantined_is) few
releases_by p s (Some b) frees free are late few = (
  ap (λ (l : List ℕ). among b (free.slot ∷ l)) are.quarantined_is ∙ late.was_quarantined,
  ap (λ (l : List ℕ). among b (take (delay p) (free.slot ∷ l))) are.frees_is ∙ late.late,
  subst (λ (l : List ℕ). length (without_option (Some b) (free.slot ∷ l)) ≤ p.array + p.ring) (sym are.quarantined_is) few,
)

pub release_allowed : (p : Shape) (s : State) (frees : List Free) (kept : Kept) (a index : ℕ) → IsSound p s → AreQuarantined p frees s.quarantined s.frees → AreIndices p.array frees → kept ≡ kept_after p.array p.ring frees → is_live s a ≡ true
    → IsArrayIndex p.array index → Releases p (takes_back p a s) (let_go kept a index)
release_allowed p s frees kept a index sound are indices is live at_place =
    let free : Free = record { slot = a; index = index } in
    let new : AreNew p.array p.ring (free ∷ frees) = (ap (λ (l : List ℕ). among a l) (sym are.quarantined_is) ∙ live_apart p s a sound live, are.new) in
    let path : let_go kept a index ≡ released p.array p.ring frees free = ap (λ (k : Kept). let_go k a index) is ∙ looks_back p.array p.ring frees free (at_place, indices) in
    subst (λ (o : Option ℕ). Releases p (takes_back p a s) o) (sym path)
    (releases_by p s (released p.array p.ring frees free) frees free are (delays p.array p.ring frees free (at_place, indices) new) (holds_few p.array p.ring (free ∷ frees) (at_place, indices) new))

-- ---- the array and the ring hold just what is quarantined
pub ring_few : (n size : ℕ) (past : List Free) → AreIndices n past → length (kept_after n size past).ring ≤ size
ring_few n size past indices = subst (λ (l : List ℕ). length l ≤ size) (sym (ring_is n size past indices)) (few_latest size _)

-- each slot stands in quarantine once, in the array or in the ring
pub record AreCounted (n size : ℕ) (past : List Free) : Type 0 where
  pub counts : (f : ℕ → Bool) → count f (quarantined n size past) ≡ count_in f (kept_after n size past).array + count f (kept_after n size past).ring
  pub once : (a : ℕ) → counted.times a (quarantined n size past) ≤ 1

counted_next : (n size : ℕ) (past : List Free) (free : Free) → AreIndices n (free ∷ past) → AreNew n size (free ∷ past) → AreCounted n size past → AreCounted n size (free ∷ past)
counted_next n size past free indices new before = record {
  counts = λ f. omega (arith, left f, entered f);
  once = λ a. omega (arith, once_more a free.slot (quarantined n size past) new.0 (before.once a), left (λ x. x == a));
}
  where
    kept : Kept
    kept = kept_after n size past

    out : Option ℕ
    out = released n size past free

    -- what enters is what stays and what goes out
    entered : (f : ℕ → Bool) → count_in f (kept_with kept free.slot free.index).array + count f (kept_with kept free.slot free.index).ring + one_of f out ≡ count f (free.slot ∷ quarantined n size past)
    entered f =
        omega (
          arith,
          before.counts f,
          count_array f kept.array free.slot free.index (subst (λ (j : ℕ). IsArrayIndex j free.index) (sym (length_array n size past)) indices.0),
          count_ring f kept.ring_length kept.ring (goes_on kept.array free.slot free.index) (subst (λ (k : ℕ). length kept.ring ≤ k) (sym (length_is n size past)) (ring_few n size past indices.1)),
          ap (λ (o : Option ℕ). one_of f o) (looks_back n size past free indices),
        )

    left : (f : ℕ → Bool) → count f (without_option out (free.slot ∷ quarantined n size past)) + one_of f out ≡ count f (free.slot ∷ quarantined n size past)
    left f = count_without f out (free.slot ∷ quarantined n size past)
        (λ b is. only_one _ (omega (arith, entered (λ x. x == b), ap (λ (o : Option ℕ). one_of (λ x. x == b) o) is, self_is b)) (once_more b free.slot (quarantined n size past) new.0 (before.once b)))

pub are_counted : (n size : ℕ) (past : List Free) → AreIndices n past → AreNew n size past → AreCounted n size past
are_counted n size [] indices new = record { counts = λ f. omega (arith, count_empty f n); once = λ a. omega arith }
are_counted n size (free ∷ past) indices new = counted_next n size past free indices new (are_counted n size past indices.1 new.1)
