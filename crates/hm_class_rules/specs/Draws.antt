-- The words that a region draws, and what is drawn from them.
use Rattle.std.specs.Prelude.{ℕ, zero, suc, ◌+◌, ◌*◌, ◌/◌, ◌==◌, ◌&&◌, if◌then◌else◌, List, [], ◌∷◌, ◌++◌, take, slice_index, is_some}
use Rattle.hm_choice.specs.Stream.{Words, start_of, next_word, after_word, drawn}
use Rattle.hm_model.specs.declared.entry.Entry.{Entry}
use Rattle.hm_model.specs.declared.entry.Call.{Call}
use Rattle.hm_model.specs.declared.entry.Call.TheVariants.{Allot, GiveBack}
use Rattle.hm_model.specs.declared.entry.Reply.{Reply}
use Rattle.hm_model.specs.declared.entry.Reply.TheVariants.{Given, Overwritten, Freed}
use Rattle.hm_model.specs.declared.entry.Choices.{Choices}
use Rattle.hm_model.specs.declared.entry.Draws.{Draws}
use Rattle.hm_sizes.specs.Classes.{class_count}
use Rattle.hm_sizes.specs.Shapes.{shape_of, has_bytes}
use Rattle.hm_sizes.specs.declared.config.Config.{Config}
use Rattle.hm_sizes.specs.declared.class.ClassId.{ClassId}
use Rattle.hm_sizes.specs.declared.shape.Shape.{Shape}
use Rattle.hm_class_rules.specs.Rules.{Terms}

-- ---- the region's stream
-- each region of a run has a stream of its own
abbrev pub stream_of : ℕ → ℕ → ClassId → Words
stream_of seed arena class = start_of seed (arena * class_count + class.0)

-- from the start of the region's space to its first slab: a whole number of pages, drawn from the first word
abbrev pub gap_of : Config → ℕ → ℕ
gap_of c word = (drawn (c.class_region / 4096) word + 1) * 4096

-- the numbers of a region follow from its first word
abbrev pub drawn_shape : ℕ → Config → ℕ → ClassId → Shape
drawn_shape seed c arena class = shape_of c arena class (gap_of c (next_word (stream_of seed arena class)))

-- n words, one after another, and the stream after them
abbrev pub words_from : Words → ℕ → List ℕ
words_from stream zero = []
words_from stream (suc n) = next_word stream ∷ words_from (after_word stream) n

abbrev pub after_words : Words → ℕ → Words
after_words stream zero = stream
after_words stream (suc n) = after_words (after_word stream) n

-- the words of an entry, and of all entries, one after another
abbrev pub words_of : Draws → List ℕ
words_of d = take d.used (d.w0 ∷ d.w1 ∷ d.w2 ∷ [])

abbrev pub all_words : List Entry → List ℕ
all_words [] = []
all_words (e ∷ es) = words_of e.draws ++ all_words es

-- ---- what draws
-- a place was picked, to be given or found overwritten; a slot was freed; or there is nothing to draw
pub data Event : Type 0 where
  Picked : ℕ → Event
  Returned : ℕ → Event
  Undrawn : Event

abbrev pub event_of : Call → Reply → Event
event_of (Allot asked align) (Given a usable) = Picked a
event_of (Allot asked align) (Overwritten a at found) = Picked a
event_of (GiveBack a stated) Freed = Returned a
event_of call reply = Undrawn

abbrev pub event : Entry → Event
event e = event_of e.call e.reply

-- how many words each choice takes: a canary, where a slab with bytes is opened; the start slot; the index in the array,
-- where there is one; the parking index, where a slab is retired
abbrev pub canary_words : Shape → Choices → ℕ
canary_words p c = if has_bytes p && is_some c.opened then 2 else 0

abbrev pub start_words : Config → ℕ
start_words c = if c.random_slots then 1 else 0

abbrev pub array_words : Shape → ℕ
array_words p = if p.array == 0 then 0 else 1

abbrev pub parking_words : Choices → ℕ
parking_words c = if is_some c.retired then 1 else 0

-- how many words an entry draws
abbrev pub word_count : Terms → Choices → Event → ℕ
word_count t c (Picked a) = canary_words t.shape c + start_words t.config
word_count t c (Returned a) = array_words t.shape + parking_words c
word_count t c Undrawn = 0

-- ---- what is drawn
-- the word of an entry after n others
abbrev pub word_after : ℕ → Draws → ℕ
word_after n d = slice_index (d.w0 ∷ d.w1 ∷ d.w2 ∷ []) n

-- the slot from which a picking starts
abbrev pub start_slot : Terms → Choices → Draws → ℕ
start_slot t c d = if t.config.random_slots then drawn t.shape.slots (word_after (canary_words t.shape c) d) else 0

-- the index in the array to which a freed slot goes, and the parking index of a retired slab
abbrev pub array_index : Shape → Draws → ℕ
array_index p d = drawn p.array (word_after 0 d)

abbrev pub parking_index : Terms → Draws → ℕ
parking_index t d = drawn t.config.park_length (word_after (array_words t.shape) d)
