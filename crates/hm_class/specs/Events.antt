-- What calls come to: the reply, and what was chosen and drawn.
use Rattle.std.specs.Prelude.{ℕ, ⊤, Option, Some, None, option_map}
use Rattle.hm_model.specs.declared.entry.Choices.{Choices}
use Rattle.hm_model.specs.declared.entry.Draws.{Draws}
use Rattle.hm_model.specs.Calls.{no_choices, no_words, one_word}
use Rattle.hm_class.specs.declared.event.Canary.{Canary}
use Rattle.hm_class.specs.declared.event.Emptied.{Emptied}
use Rattle.hm_class.specs.declared.event.Emptied.TheVariants.{Kept, Retired, Purged}
use Rattle.hm_class.specs.declared.event.Event.{Event}
use Rattle.hm_model.specs.declared.entry.Reply.{Reply}
use Rattle.hm_model.specs.declared.entry.Reply.TheVariants as reply

-- it has no bytes
abbrev pub HasNoBytes : Reply → Type 0
HasNoBytes (reply.Bytes runs) = ⊥
HasNoBytes other = ⊤

-- a reply with which nothing was chosen and drawn
abbrev pub plain : Reply → Event
plain r = record { reply = r; choices = no_choices; draws = no_words }

-- ---- a slot was picked
-- what is chosen where slab n was opened for it
abbrev pub canary_value : Option Canary → Option ℕ
canary_value canary = option_map (λ (c : Canary). c.canary) canary

abbrev pub chose_opened : ℕ → Option Canary → Choices
chose_opened n canary = record no_choices { canary = canary_value canary; opened = Some n }

-- the words of the canary, and the start slot's, each where it is drawn
abbrev pub start_draws : Option Canary → Option ℕ → Draws
start_draws None None = no_words
start_draws None (Some word) = one_word word
start_draws (Some c) None = record { used = 2; w0 = c.low; w1 = c.high; w2 = 0 }
start_draws (Some c) (Some word) = record { used = 3; w0 = c.low; w1 = c.high; w2 = word }

-- ---- a block was taken back
-- what is chosen
abbrev pub freed_choices : Option ℕ → Emptied → Choices
freed_choices released Kept = record no_choices { released = released }
freed_choices released (Retired slab word unparked) =
    record no_choices { released = released; retired = Some slab; unparked = unparked }
freed_choices released (Purged slab) = record no_choices { released = released; purged = Some slab }

-- the word of the array's index, where there is an array, and that of the parking index
abbrev pub freed_draws : Option ℕ → Emptied → Draws
freed_draws None Kept = no_words
freed_draws None (Retired slab word unparked) = one_word word
freed_draws None (Purged slab) = no_words
freed_draws (Some array) Kept = one_word array
freed_draws (Some array) (Retired slab word unparked) = record { used = 2; w0 = array; w1 = word; w2 = 0 }
freed_draws (Some array) (Purged slab) = one_word array

abbrev pub freed : Option ℕ → Option ℕ → Emptied → Event
freed array released emptied =
    record { reply = reply.Freed; choices = freed_choices released emptied; draws = freed_draws array emptied }
