-- Replies that a call never has.
use Rattle.std.proofs.Common.{◌≢◌, ℕ, List, Option, refl}
use Rattle.hm_model.specs.declared.entry.Choices.{Choices}
use Rattle.hm_model.specs.declared.entry.Call.TheVariants.{Allot, GiveBack, Measure, Fetch, Fill}
use Rattle.hm_model.specs.declared.entry.Reply.{Reply}
use Rattle.hm_model.specs.declared.entry.Reply.TheVariants.{Given, Overwritten, Exhausted, PagesFailed, Freed, NoSlot, Unused, DoubleFree, WrongSize, Canary, Usable, Bytes, Filled, Trap}
use Rattle.hm_class_rules.specs.State.{State}
use Rattle.hm_class_rules.specs.Rules.{Terms, Allows}

module _ (t : Terms) (s : State) (before now : ℕ) (c : Choices) where
  pub other_fetch : (a len : ℕ) (reply : Reply) → ((runs : List (ℕ × ℕ)) → reply ≢ Bytes runs) → ((q : ℕ) → reply ≢ Trap q) → Allows t s before now c (Fetch a len) reply → ⊥
  other_fetch a len (Bytes runs) nb nt h = nb runs refl
  other_fetch a len (Trap q) nb nt h = nt q refl
  other_fetch a len reply nb nt h = h

  pub other_fill : (a : ℕ) (runs : List (ℕ × ℕ)) (reply : Reply) → reply ≢ Filled → ((q : ℕ) → reply ≢ Trap q) → Allows t s before now c (Fill a runs) reply → ⊥
  other_fill a runs Filled nf nt h = nf refl
  other_fill a runs (Trap q) nf nt h = nt q refl
  other_fill a runs reply nf nt h = h

  pub other_measure : (a : ℕ) (reply : Reply) → reply ≢ NoSlot → reply ≢ Unused → reply ≢ DoubleFree → ((n : ℕ) → reply ≢ Usable n) → Allows t s before now c (Measure a) reply → ⊥
  other_measure a NoSlot x y z w h = x refl
  other_measure a Unused x y z w h = y refl
  other_measure a DoubleFree x y z w h = z refl
  other_measure a (Usable n) x y z w h = w n refl
  other_measure a reply x y z w h = h

  pub other_back : (a : ℕ) (stated : Option ℕ) (reply : Reply) → reply ≢ Freed → reply ≢ NoSlot → reply ≢ Unused → reply ≢ DoubleFree → ((n m : ℕ) → reply ≢ WrongSize n m) → ((n m : ℕ) → reply ≢ Canary n m)
      → Allows t s before now c (GiveBack a stated) reply → ⊥
  other_back a stated Freed u x y z w v h = u refl
  other_back a stated NoSlot u x y z w v h = x refl
  other_back a stated Unused u x y z w v h = y refl
  other_back a stated DoubleFree u x y z w v h = z refl
  other_back a stated (WrongSize n m) u x y z w v h = w n m refl
  other_back a stated (Canary n m) u x y z w v h = v n m refl
  other_back a stated reply u x y z w v h = h

  pub other_allot : (asked align : ℕ) (reply : Reply) → ((a n : ℕ) → reply ≢ Given a n) → ((a n m : ℕ) → reply ≢ Overwritten a n m) → reply ≢ Exhausted → reply ≢ PagesFailed → Allows t s before now c (Allot asked align) reply → ⊥
  other_allot asked align (Given a n) x y z w h = x a n refl
  other_allot asked align (Overwritten a n m) x y z w h = y a n m refl
  other_allot asked align Exhausted x y z w h = z refl
  other_allot asked align PagesFailed x y z w h = w refl
  other_allot asked align reply x y z w h = h
