-- The reply of a call that gives back is a function of the state.
use Rattle.std.specs.Prelude.{◌≡◌, ℕ, Bool, not, IsTrue, if◌then◌else◌, Option, Some, None}
use Rattle.hm_model.specs.declared.entry.Call.TheVariants.{GiveBack}
use Rattle.hm_model.specs.declared.entry.Choices.{Choices}
use Rattle.hm_model.specs.declared.entry.Reply.{Reply}
use Rattle.hm_model.specs.declared.entry.Reply.TheVariants.{NoSlot, Unused, DoubleFree, WrongSize, Canary, Freed}
use Rattle.hm_model.specs.Maps.{among}
use Rattle.hm_class_rules.specs.State.{State, is_live}
use Rattle.hm_sizes.specs.Shapes.{is_slot, slab_of, slot_of}
use Rattle.hm_class_rules.specs.Rules.{Terms, Allows, wrong_size, wrong_canary}

abbrev pub differs : Option (ℕ × ℕ) → Option (ℕ × ℕ) → Reply
differs (Some size) canary = WrongSize size.0 size.1
differs None (Some canary) = Canary canary.0 canary.1
differs None None = Freed

-- the first that applies
abbrev pub first_reply : Bool → Bool → Bool → Reply → Reply
first_reply place given live last =
    if not place then NoSlot else if not given then Unused else if not live then DoubleFree else last

abbrev pub judged : Terms → State → ℕ → Option ℕ → Reply
judged t s a stated = first_reply (is_slot t.shape a (slab_of t.shape a) (slot_of t.shape a)) (among a s.given)
    (is_live s a) (differs (wrong_size t.shape stated) (wrong_canary t.shape s a))

abbrev pub Judged : Type 0
Judged = (t : Terms) (s : State) (before now : ℕ) (c : Choices) (a : ℕ) (stated : Option ℕ) (reply : Reply)
    → IsTrue t.told → Allows t s before now c (GiveBack a stated) reply → reply ≡ judged t s a stated
