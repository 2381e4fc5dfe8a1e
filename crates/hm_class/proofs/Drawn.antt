-- The words and the choices of an allotment are the next ones.
use Rattle.std.proofs.Common.{◌≡◌, ℕ, ◌+◌, ◌<◌, Bool, true, false, IfSome, cond, ◌&&◌, Option, Some, None, sym, ◌∙◌, ap, subst, refl, arith}
use Rattle.hm_choice.specs.Stream.{Words, next_word, after_word, canary_of, drawn}
use Rattle.hm_model.specs.declared.entry.Draws.{Draws}
use Rattle.hm_model.specs.declared.entry.Entry.{Entry}
use Rattle.hm_model.specs.declared.entry.Who.{Who}
use Rattle.hm_model.specs.declared.entry.Call.TheVariants.{Allot}
use Rattle.hm_model.specs.declared.entry.Reply.{Reply}
use Rattle.hm_model.specs.Entries.{AreDraws}
use Rattle.hm_sizes.specs.declared.config.Config.{Config}
use Rattle.hm_sizes.specs.declared.shape.Shape.{Shape}
use Rattle.hm_sizes.specs.Shapes.{slab_of, has_bytes}
use Rattle.hm_class_rules.specs.State.{State}
use Rattle.hm_class_rules.specs.Steps.{opened}
use Rattle.hm_class_rules.specs.Drawn.{first_free}
use Rattle.hm_class_rules.specs.Draws.{Event, Picked, event, event_of, words_of, words_from, after_words, word_count, canary_words, start_words, start_slot, word_after}
use Rattle.hm_class_rules.specs.Rules.{Terms}
use Rattle.hm_class_rules.proofs.Alike.{drawn_below}
use Rattle.hm_class_rules.proofs.Streams.{next_below}
use Rattle.hm_class_rules.specs.Stepped.{Cells, front, IsSteppedEntry, IsSteppedEvent}
use Rattle.hm_class.specs.declared.event.Canary.{Canary}
use Rattle.hm_model.specs.Calls.{no_choices, entry_of}
use Rattle.hm_class.specs.Finds.{drawn_canary, canary_stream, start_word, start_from, start_stream}
use Rattle.hm_class.specs.Events.{canary_value, chose_opened, start_draws}

-- ---- the start slot
pub start_below : (c : Config) (p : Shape) (stream : Words) → 0 < p.slots → start_from c p stream < p.slots
start_below c p stream some = of c.random_slots
  where
    of : (random : Bool) → cond random (drawn p.slots (next_word stream)) 0 < p.slots
    of true = drawn_below p.slots (next_word stream) some (next_below stream)
    of false = some

pub start_draws_are : (o : Option Canary) (w : Option ℕ) → AreDraws (start_draws o w)
start_draws_are None None = record { first = λ lt. refl; second = λ lt. refl; third = λ lt. refl }
start_draws_are None (Some w) = record { first = λ lt. absurd (omega (arith, lt)); second = λ lt. refl; third = λ lt. refl }
start_draws_are (Some canary) None = record { first = λ lt. absurd (omega (arith, lt)); second = λ lt. absurd (omega (arith, lt)); third = λ lt. refl }
start_draws_are (Some canary) (Some w) = record { first = λ lt. absurd (omega (arith, lt)); second = λ lt. absurd (omega (arith, lt)); third = λ lt. absurd (omega (arith, lt)) }

-- ---- the words, by whether a slab with bytes was opened, and whether slots are random
abbrev canary_by : Words → Bool → Option Canary
canary_by stream b = cond b (Some (record { low = next_word stream; high = next_word (after_word stream); canary = canary_of (next_word stream) (next_word (after_word stream)) })) None

abbrev stream_by : Words → Bool → Words
stream_by stream b = cond b (after_word (after_word stream)) stream

abbrev start_by : Words → Bool → Option ℕ
start_by stream random = cond random (Some (next_word stream)) None

abbrev draws_by : Words → Bool → Bool → Draws
draws_by stream b random = start_draws (canary_by stream b) (start_by (stream_by stream b) random)

words_by : (stream : Words) (b random : Bool) → words_of (draws_by stream b random) ≡ words_from stream (draws_by stream b random).used
words_by stream true true = refl
words_by stream true false = refl
words_by stream false true = refl
words_by stream false false = refl

after_by : (stream : Words) (b random : Bool) → after_words stream (draws_by stream b random).used ≡ cond random (after_word (stream_by stream b)) (stream_by stream b)
after_by stream true true = refl
after_by stream true false = refl
after_by stream false true = refl
after_by stream false false = refl

-- of an open slab
open_count : (stream : Words) (b random : Bool) → (draws_by stream false random).used ≡ cond (b && false) 2 0 + cond random 1 0
open_count stream true true = refl
open_count stream true false = refl
open_count stream false true = refl
open_count stream false false = refl

open_start : (slots : ℕ) (stream : Words) (b random : Bool) → cond random (drawn slots (word_after (cond (b && false) 2 0) (draws_by stream false random))) 0 ≡ cond random (drawn slots (next_word stream)) 0
open_start slots stream true true = refl
open_start slots stream true false = refl
open_start slots stream false true = refl
open_start slots stream false false = refl

-- of one that was opened
new_count : (stream : Words) (b random : Bool) → (draws_by stream b random).used ≡ cond (b && true) 2 0 + cond random 1 0
new_count stream true true = refl
new_count stream true false = refl
new_count stream false true = refl
new_count stream false false = refl

new_start : (slots : ℕ) (stream : Words) (b random : Bool) → cond random (drawn slots (word_after (cond (b && true) 2 0) (draws_by stream b random))) 0 ≡ cond random (drawn slots (next_word (stream_by stream b))) 0
new_start slots stream true true = refl
new_start slots stream true false = refl
new_start slots stream false true = refl
new_start slots stream false false = refl

new_canary : (stream : Words) (b random : Bool) → IfSome (canary_value (canary_by stream b)) (λ k. k ≡ canary_of (draws_by stream b random).w0 (draws_by stream b random).w1)
new_canary stream true true = refl
new_canary stream true false = refl
new_canary stream false random = tt

-- ---- the entry
stepped_picked : {t : Terms} {c : Cells} {s : State} (e : Entry) {a n start : ℕ} → c.state ≡ s → event e ≡ Picked a → slab_of t.shape a ≡ n → e.draws.used ≡ canary_words t.shape e.choices + start_words t.config
    → start_slot t e.choices e.draws ≡ start → words_of e.draws ≡ words_from c.stream e.draws.used → IfSome e.choices.canary (λ k. k ≡ canary_of e.draws.w0 e.draws.w1)
    → first_free t.shape (opened t.shape e.choices.opened e.choices.canary s) n start ≡ Some a → (e.choices.opened ≡ None → front c.partial c.empty ≡ Some n) → IsSteppedEntry t c e
stepped_picked {t = t} {c = c} {s = s} e {a = a} {n = n} same is slab used starts all canary place source = record {
  count = used ∙ ap (λ (ev : Event). word_count t e.choices ev) (sym is);
  words = all;
  choices = subst (λ (ev : Event). IsSteppedEvent t c e ev) (sym is) (record {
    picked = record {
      canary = canary;
      place = ap (λ (x : State). first_free t.shape (opened t.shape e.choices.opened e.choices.canary x) (slab_of t.shape a) (start_slot t e.choices e.draws)) same
          ∙ ap (λ (m : ℕ). first_free t.shape (opened t.shape e.choices.opened e.choices.canary s) m (start_slot t e.choices e.draws)) slab
          ∙ ap (λ (i : ℕ). first_free t.shape (opened t.shape e.choices.opened e.choices.canary s) n i) starts
          ∙ place;
    };
    source = λ none. source none ∙ ap (λ (m : ℕ). Some m) (sym slab);
  });
}

some_none : (n : ℕ) → Some n ≡ None → ⊥
some_none n e = cc

module _ (t : Terms) (c : Cells) {s : State} (who : Who) (asked : ℕ) {a n f f' : ℕ} (r : Reply) (same : c.state ≡ s) (is : event_of (Allot asked 1) r ≡ Picked a) (slab : slab_of t.shape a ≡ n) where
  -- of an open slab
  pub stepped_open : first_free t.shape s n (start_from t.config t.shape c.stream) ≡ Some a → front c.partial c.empty ≡ Some n
      → IsSteppedEntry t c (entry_of who (Allot asked 1) r no_choices (start_draws None (start_word t.config c.stream)) f f')
  stepped_open place source =
      stepped_picked (entry_of who (Allot asked 1) r no_choices (start_draws None (start_word t.config c.stream)) f f') same is slab
      (open_count c.stream (has_bytes t.shape) t.config.random_slots) (open_start t.shape.slots c.stream (has_bytes t.shape) t.config.random_slots) (words_by c.stream false t.config.random_slots) tt place (λ none. source)

  -- of a slab that was opened
  pub stepped_new : first_free t.shape (opened t.shape (Some n) (canary_value (drawn_canary t.shape c.stream)) s) n (start_from t.config t.shape (canary_stream t.shape c.stream)) ≡ Some a
      → IsSteppedEntry t c (entry_of who (Allot asked 1) r (chose_opened n (drawn_canary t.shape c.stream)) (start_draws (drawn_canary t.shape c.stream) (start_word t.config (canary_stream t.shape c.stream))) f f')
  stepped_new place =
      stepped_picked (entry_of who (Allot asked 1) r (chose_opened n (drawn_canary t.shape c.stream)) (start_draws (drawn_canary t.shape c.stream) (start_word t.config (canary_stream t.shape c.stream))) f f')
      same is slab
      (new_count c.stream (has_bytes t.shape) t.config.random_slots) (new_start t.shape.slots c.stream (has_bytes t.shape) t.config.random_slots) (words_by c.stream (has_bytes t.shape) t.config.random_slots)
      (new_canary c.stream (has_bytes t.shape) t.config.random_slots) place (λ none. absurd (some_none n none))

-- and the stream after them
pub after_open : (c : Config) (stream : Words) → after_words stream (start_draws None (start_word c stream)).used ≡ start_stream c stream
after_open c stream = after_by stream false c.random_slots

pub after_new : (c : Config) (p : Shape) (stream : Words) → after_words stream (start_draws (drawn_canary p stream) (start_word c (canary_stream p stream))).used ≡ start_stream c (canary_stream p stream)
after_new c p stream = after_by stream (has_bytes p) c.random_slots
