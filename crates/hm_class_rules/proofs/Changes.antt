-- An entry changes the kind of one slab at most.
use Rattle.std.proofs.Common.{◌≡◌, ◌≢◌, ⊎_elim, ℕ, zero, suc, ◌+◌, ◌*◌, ◌<◌, ◌≤◌, ◌==◌, nat_lt, Bool, true, false, cond, not, ◌||◌, ◌&&◌, List, [], ◌∷◌, length, Option, Some, None, is_some, sym, ◌∙◌, ap, refl, arith}
use Rattle.std.specs.List.{list_any, list_all, range_with_len}
use Rattle.std.specs.Int.{to_le_bytes}
use mir.Syntax.{w64}
use Rattle.std.proofs.lemmas.Bool.{cases_eq}
use Rattle.std.proofs.lemmas.Option.{none-some, same_Some}
use Rattle.hm_model.specs.Maps.{among, without, at, has, removed, put}
use Rattle.hm_model.specs.Runs.{expand}
use Rattle.hm_model.specs.declared.entry.Call.{Call}
use Rattle.hm_model.specs.declared.entry.Call.TheVariants.{Allot, GiveBack, Fill}
use Rattle.hm_model.specs.declared.entry.Reply.{Reply}
use Rattle.hm_model.specs.declared.entry.Reply.TheVariants.{Given, Overwritten, Freed, Filled}
use Rattle.hm_model.specs.declared.entry.Choices.{Choices}
use Rattle.hm_model.proofs.Lists.{other_eq, same_eq, has_keys}
use Rattle.hm_sizes.specs.declared.shape.Shape.{Shape}
use Rattle.hm_sizes.specs.Shapes.{IsShape, place, slab_of, slab_at, usable}
use Rattle.hm_sizes.proofs.PlaceTest.{slot_row}
use Rattle.hm_class_rules.specs.State.{State, is_open, is_live, is_taken, is_free, has_free, is_empty, is_partial, empty_slabs}
use Rattle.hm_class_rules.specs.Bytes.{write, overlaid_slabs, kept_canary}
use Rattle.hm_class_rules.specs.Steps.{taken_new, opened, gives, takes_back, releases, unparks, retires, purges, changed}
use Rattle.hm_class_rules.specs.Rules.{Terms, Allows, AllowsFreed, Source, Picks, surplus}
use Rattle.hm_class_rules.specs.Draws.{Returned, event_of}
use Rattle.hm_class_rules.specs.Kinds.{Kind, Partial, Empty, Neither, kind}
use Rattle.hm_class_rules.specs.Stepped.{touched}
use Rattle.hm_class_rules.proofs.Sound.{keys_overlaid}
use Rattle.hm_class_rules.proofs.Legal.{retired_was}
use Rattle.hm_class_rules.proofs.Delay.{out_quarantined, opened_quarantined}
use Rattle.hm_class_rules.proofs.Condemned.{opened_condemned, out_condemned}
use Rattle.hm_class_rules.proofs.Whole.{at_removed}
use Rattle.hm_class_rules.proofs.Zeroed.{slab_is}
use Rattle.hm_class_rules.proofs.Fronts.{among_filter}

-- ---- places of other slabs
pub slab_of_place : (p : Shape) → IsShape p → (n i : ℕ) → i < p.slots → slab_of p (place p n i) ≡ n
slab_of_place p shape n i lt = slab_is p n (i * p.slot) (place p n i) refl (omega (arith, slot_row p.slot i p.slots lt, shape.slots_fit, shape.slot_least))

pub apart : (p : Shape) → IsShape p → (n i a : ℕ) → i < p.slots → n ≢ slab_of p a → a ≢ place p n i
apart p shape n i a lt ne e = ne (sym (slab_of_place p shape n i lt) ∙ ap (slab_of p) (sym e))

-- ---- a slab of which nothing changes
pub all_alike : (f g : ℕ → Bool) (a n : ℕ) → ((j : ℕ) → a ≤ j → j < a + n → f j ≡ g j) → list_all f (range_with_len a n) ≡ list_all g (range_with_len a n)
all_alike f g a zero h = refl
all_alike f g a (suc n) h =
    ap (λ b. b && list_all f (range_with_len (a + 1) n)) (h a (omega arith) (omega arith))
    ∙ ap (λ b. g a && b) (all_alike f g (a + 1) n (λ j ge lt. h j (omega arith) (omega arith)))

any_alike : (f g : ℕ → Bool) (a n : ℕ) → ((j : ℕ) → a ≤ j → j < a + n → f j ≡ g j) → list_any f (range_with_len a n) ≡ list_any g (range_with_len a n)
any_alike f g a zero h = refl
any_alike f g a (suc n) h =
    ap (λ b. b || list_any f (range_with_len (a + 1) n)) (h a (omega arith) (omega arith))
    ∙ ap (λ b. g a || b) (any_alike f g (a + 1) n (λ j ge lt. h j (omega arith) (omega arith)))

abbrev pub kind_by : Bool → Bool → Kind
kind_by some all = cond (some && not all) Partial (cond all Empty Neither)

-- what a slab is, by the tests
pub kind_partial : (p : Shape) (s : State) (n : ℕ) → is_partial p s n ≡ true → kind p s n ≡ Partial
kind_partial p s n is = ap (λ b. cond {A = Kind} b Partial (cond (is_empty p s n) Empty Neither)) is

pub kind_empty : (p : Shape) (s : State) (n : ℕ) → is_empty p s n ≡ true → kind p s n ≡ Empty
kind_empty p s n is = ap (λ b. kind_by (has_free p s n) b) is ∙ all_free (has_free p s n)
  where
    all_free : (some : Bool) → kind_by some true ≡ Empty
    all_free true = refl
    all_free false = refl

pub kind_neither : (p : Shape) (s : State) (n : ℕ) → is_partial p s n ≡ false → is_empty p s n ≡ false → kind p s n ≡ Neither
kind_neither p s n partial empty = ap (λ b. cond {A = Kind} b Partial (cond (is_empty p s n) Empty Neither)) partial ∙ ap (λ b. cond {A = Kind} b Empty Neither) empty

pub kind_alike : (p : Shape) (s t : State) (n : ℕ) → ((i : ℕ) → i < p.slots → is_free p s n i ≡ is_free p t n i) → kind p s n ≡ kind p t n
kind_alike p s t n alike =
    ap (λ b. kind_by b (is_empty p s n)) (any_alike (is_free p s n) (is_free p t n) 0 p.slots (λ j ge lt. alike j (omega arith)))
    ∙ ap (λ b. kind_by (has_free p t n) b) (all_alike (is_free p s n) (is_free p t n) 0 p.slots (λ j ge lt. alike j (omega arith)))

slab_alike : (p : Shape) (s t : State) (n : ℕ) → is_open s n ≡ is_open t n → ((i : ℕ) → i < p.slots → is_taken s (place p n i) ≡ is_taken t (place p n i)) → kind p s n ≡ kind p t n
slab_alike p s t n opens taken =
    kind_alike p s t n (λ i lt. ap (λ b. b && not (is_taken s (place p n i))) opens ∙ ap (λ b. is_open t n && not b) (taken i lt))

-- ---- which slabs are open
module _ {X : Type 0} where
  pub has_removed : (k m : ℕ) (l : List (ℕ × X)) → k ≢ m → has m (removed k l) ≡ has m l
  has_removed k m l ne = ap (λ (o : Option X). is_some o) (at_removed k m l ne)

  has_put : (k m : ℕ) (x : X) (l : List (ℕ × X)) → k ≢ m → has m (put k x l) ≡ has m l
  has_put k m x l ne = ap (λ b. is_some (cond b (Some x) (at m (removed k l)))) (other_eq k m ne) ∙ has_removed k m l ne

pub open_write : (p : Shape) (a : ℕ) (w : List ℕ) (s : State) (m : ℕ) → is_open (write p a w s) m ≡ is_open s m
open_write p a w s m = has_keys m (overlaid_slabs p a w s.opens) ∙ ap (λ (l : List ℕ). among m l) (keys_overlaid p a w s.opens) ∙ sym (has_keys m s.opens)

open_opened : (p : Shape) (o canary : Option ℕ) (s : State) (m : ℕ) → ((n : ℕ) → o ≡ Some n → n ≢ m) → is_open (opened p o canary s) m ≡ is_open s m
open_opened p None canary s m ne = refl
open_opened p (Some n) canary s m ne = has_put n m _ s.opens (ne n refl)

pub open_releases : (o : Option ℕ) (s : State) (m : ℕ) → is_open (releases o s) m ≡ is_open s m
open_releases None s m = refl
open_releases (Some b) s m = refl

open_unparks : (o : Option ℕ) (s : State) (m : ℕ) → is_open (unparks o s) m ≡ is_open s m
open_unparks None s m = refl
open_unparks (Some u) s m = refl

open_retires : (o : Option ℕ) (s : State) (m : ℕ) → ((k : ℕ) → o ≡ Some k → k ≢ m) → is_open (retires o s) m ≡ is_open s m
open_retires None s m ne = refl
open_retires (Some k) s m ne = has_removed k m s.opens (ne k refl)

open_purges : (p : Shape) (o : Option ℕ) (s : State) (m : ℕ) → is_open (purges p o s) m ≡ is_open s m
open_purges p None s m = refl
open_purges p (Some k) s m = open_write p (slab_at p k) _ s m

-- ---- which places are taken
taken_by : (live live' : List (ℕ × ℕ)) (quarantined quarantined' condemned condemned' : List ℕ) (x : ℕ) → live ≡ live' → quarantined ≡ quarantined' → condemned ≡ condemned'
    → (has x live || (among x quarantined || among x condemned)) ≡ (has x live' || (among x quarantined' || among x condemned'))
taken_by live live' quarantined quarantined' condemned condemned' x e f g =
    ap (λ (l : List (ℕ × ℕ)). has x l || (among x quarantined || among x condemned)) e
    ∙ ap (λ (l : List ℕ). has x live' || (among x l || among x condemned)) f
    ∙ ap (λ (l : List ℕ). has x live' || (among x quarantined' || among x l)) g

new_live : (p : Shape) (l : List ℕ) (s : State) → (taken_new p l s).live ≡ s.live
new_live p [] s = refl
new_live p (m ∷ ms) s = refl

pub opened_live : (p : Shape) (o canary : Option ℕ) (s : State) → (opened p o canary s).live ≡ s.live
opened_live p None canary s = refl
opened_live p (Some n) canary s = new_live p s.shut s

pub taken_opened : (p : Shape) (o canary : Option ℕ) (s : State) (x : ℕ) → is_taken (opened p o canary s) x ≡ is_taken s x
taken_opened p o canary s x = taken_by _ _ _ _ _ _ x (opened_live p o canary s) (opened_quarantined p o canary s) (opened_condemned p o canary s)

pub out_live : (p : Shape) (s : State) (r q u : Option ℕ) → (purges p q (retires r (unparks u s))).live ≡ s.live
out_live p s None None None = refl
out_live p s None None (Some u) = refl
out_live p s None (Some q) None = refl
out_live p s None (Some q) (Some u) = refl
out_live p s (Some r) None None = refl
out_live p s (Some r) None (Some u) = refl
out_live p s (Some r) (Some q) None = refl
out_live p s (Some r) (Some q) (Some u) = refl

pub taken_out : (p : Shape) (s : State) (r q u : Option ℕ) (x : ℕ) → is_taken (purges p q (retires r (unparks u s))) x ≡ is_taken s x
taken_out p s r q u x = taken_by _ _ _ _ _ _ x (out_live p s r q u) (out_quarantined p s r q u) (out_condemned p s r q u)

pub among_apart : (a x : ℕ) (xs : List ℕ) → a ≢ x → among x (a ∷ xs) ≡ among x xs
among_apart a x xs ne = ap (λ b. b || among x xs) (other_eq a x ne)

among_left : (b x : ℕ) (xs : List ℕ) → b ≢ x → among x (without b xs) ≡ among x xs
among_left b x xs ne = among_filter b x xs ∙ ap (λ c. cond c false (among x xs)) (other_eq x b (λ e. ne (sym e)))

-- a live slot that is taken back stays taken where another is released
still_taken : (a b x : ℕ) (live : List (ℕ × ℕ)) (quarantined condemned : List ℕ) → has a live ≡ true → b ≢ x
    → (has x (removed a live) || (among x (without b (a ∷ quarantined)) || among x condemned)) ≡ (has x live || (among x quarantined || among x condemned))
still_taken a b x live quarantined condemned is ne =
    ap (λ c. has x (removed a live) || (c || among x condemned)) (among_left b x (a ∷ quarantined) ne)
    ∙ ⊎_elim
    (λ e. or_here (has x (removed a live)) (a == x) (among x quarantined) (among x condemned) (same_eq a x e)
    ∙ sym (ap (λ c. c || (among x quarantined || among x condemned)) (ap (λ (k : ℕ). has k live) (sym e) ∙ is)))
    (λ other. ap (λ c. c || (among x (a ∷ quarantined) || among x condemned)) (has_removed a x live other) ∙ ap (λ c. has x live || (c || among x condemned)) (among_apart a x quarantined other))
    (cases_eq a x)
  where
    or_here : (c d e f : Bool) → d ≡ true → (c || ((d || e) || f)) ≡ true
    or_here true d e f h = refl
    or_here false d e f h = ap (λ x. (x || e) || f) h

pub freed_taken : (p : Shape) (s : State) (a x : ℕ) (o : Option ℕ) → is_live s a ≡ true → (o ≡ None → a ≢ x) → ((b : ℕ) → o ≡ Some b → b ≢ x) → is_taken (releases o (takes_back p a s)) x ≡ is_taken s x
freed_taken p s a x None is none some =
    ap (λ c. c || (among x (a ∷ s.quarantined) || among x s.condemned)) (has_removed a x s.live (none refl)) ∙ ap (λ c. has x s.live || (c || among x s.condemned)) (among_apart a x s.quarantined (none refl))
freed_taken p s a x (Some b) is none some = still_taken a b x s.live s.quarantined s.condemned is (some b refl)

-- ---- the one slab
-- what is retired is the slab of what was released
surplus_slab : (p : Shape) (s : State) (o : Option ℕ) (a k : ℕ) → surplus p s o ≡ Some k → k ≡ touched p o (Returned a)
surplus_slab p s None a k e = absurd (none-some k e)
surplus_slab p s (Some b) a k e =
    elim (is_empty p s (slab_of p b) && nat_lt 131072 (length (empty_slabs p s) * p.slab)) as (λ c. cond c (Some (slab_of p b)) None ≡ Some k → k ≡ slab_of p b) [
      | true ↦ λ h. sym (same_Some (slab_of p b) k h)
      | false ↦ λ h. absurd (none-some k h)
    ] e

opened_slab : (p : Shape) (s : State) (o : Option ℕ) (n k : ℕ) → Source p s o n → o ≡ Some k → n ≡ k
opened_slab p s None n k source e = absurd (none-some k e)
opened_slab p s (Some m) n k source e = source.0 ∙ same_Some m k e

freed_one : (t : Terms) (s : State) (before now : ℕ) (c : Choices) (a m : ℕ) (stated : Option ℕ) → IsShape t.shape → AllowsFreed t s before now c a stated → m ≢ touched t.shape c.released (Returned a)
    → kind t.shape (changed t.shape c (GiveBack a stated) Freed s) m ≡ kind t.shape s m
freed_one t s before now c a m stated shape allows ne =
    slab_alike p (changed p c (GiveBack a stated) Freed s) s m
    (open_purges p c.purged (retires c.retired (unparks c.unparked s₂)) m
    ∙ open_retires c.retired (unparks c.unparked s₂) m (λ k is e. ne (sym e ∙ surplus_slab p s₂ c.released a k (retired_was t s₂ before now c (surplus p s₂ c.released) allows.emptied k is)))
    ∙ open_unparks c.unparked s₂ m
    ∙ open_releases c.released (takes_back p a s) m
    ∙ open_write p a _ s m)
    (λ i lt. taken_out p s₂ c.retired c.purged c.unparked (place p m i)
    ∙ freed_taken p s a (place p m i) c.released allows.block.live
    (λ is. apart p shape m i a lt (λ e. ne (e ∙ sym (ap (λ (o : Option ℕ). touched p o (Returned a)) is))))
    (λ b is. apart p shape m i b lt (λ e. ne (e ∙ sym (ap (λ (o : Option ℕ). touched p o (Returned a)) is)))))
  where
    p : Shape
    p = t.shape

    s₂ : State
    s₂ = releases c.released (takes_back t.shape a s)

given_one : (p : Shape) (s : State) (c : Choices) (a asked m : ℕ) → IsShape p → Picks p s (opened p c.opened c.canary s) c a → m ≢ slab_of p a → kind p (gives p a asked (opened p c.opened c.canary s)) m ≡ kind p s m
given_one p s c a asked m shape picks ne =
    slab_alike p (gives p a asked (opened p c.opened c.canary s)) s m
    (open_write p (a + usable p) (to_le_bytes w64 (kept_canary p (opened p c.opened c.canary s) a)) (opened p c.opened c.canary s) m ∙ open_opened p c.opened c.canary s m (λ n is e. ne (sym e ∙ sym (opened_slab p s c.opened (slab_of p a) n picks.source is))))
    (λ i lt. ap (λ b. b || (among (place p m i) (opened p c.opened c.canary s).quarantined || among (place p m i) (opened p c.opened c.canary s).condemned)) (has_put a (place p m i) asked (opened p c.opened c.canary s).live (apart p shape m i a lt ne))
    ∙ taken_opened p c.opened c.canary s (place p m i))

condemned_one : (p : Shape) (s : State) (c : Choices) (a m : ℕ) → IsShape p → Picks p s (opened p c.opened c.canary s) c a → m ≢ slab_of p a → kind p (changed p c (Allot 0 1) (Overwritten a 0 0) s) m ≡ kind p s m
condemned_one p s c a m shape picks ne =
    slab_alike p (changed p c (Allot 0 1) (Overwritten a 0 0) s) s m
    (open_opened p c.opened c.canary s m (λ n is e. ne (sym e ∙ sym (opened_slab p s c.opened (slab_of p a) n picks.source is))))
    (λ i lt. ap (λ b. is_live (opened p c.opened c.canary s) (place p m i) || (among (place p m i) (opened p c.opened c.canary s).quarantined || b)) (among_apart a (place p m i) (opened p c.opened c.canary s).condemned (apart p shape m i a lt ne))
    ∙ taken_opened p c.opened c.canary s (place p m i))

pub changes_one : (t : Terms) (s : State) (before now : ℕ) (c : Choices) (call : Call) (reply : Reply) → IsShape t.shape → Allows t s before now c call reply → (m : ℕ) → m ≢ touched t.shape c.released (event_of call reply)
    → kind t.shape (changed t.shape c call reply s) m ≡ kind t.shape s m
changes_one t s before now c (Allot asked align) (Given a size) shape allows m ne = given_one t.shape s c a asked m shape allows.0 ne
changes_one t s before now c (Allot asked align) (Overwritten a at found) shape allows m ne = condemned_one t.shape s c a m shape allows.0 ne
changes_one t s before now c (GiveBack a stated) Freed shape allows m ne = freed_one t s before now c a m stated shape allows ne
changes_one t s before now c (Fill a runs) Filled shape allows m ne = slab_alike t.shape (write t.shape a (expand runs) s) s m (open_write t.shape a (expand runs) s m) (λ i lt. refl)
changes_one t s before now c call reply shape allows m ne = refl
