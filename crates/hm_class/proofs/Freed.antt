-- A block was taken back: the words and the choices of its entry are the next ones.
use Rattle.std.proofs.Common.{◌≡◌, ℕ, zero, suc, ◌+◌, ◌*◌, ◌/◌, ◌^◌, ◌<◌, ◌==◌, Bool, true, false, cond, [], ◌∷◌, slice_index_or, Option, Some, None, sym, ◌∙◌, ap, subst, refl, arith}
use Rattle.std.proofs.lemmas.Bool.Decides.{nat_tests}
use Rattle.hm_choice.specs.Stream.{Words, next_word, after_word, drawn}
use Rattle.hm_quarantine.specs.Quarantine.{let_go, IsArrayIndex}
use Rattle.hm_model.specs.declared.entry.Who.{Who}
use Rattle.hm_model.specs.declared.entry.Call.TheVariants.{GiveBack}
use Rattle.hm_model.specs.declared.entry.Reply.TheVariants as reply
use Rattle.hm_model.specs.Entries.{AreDraws}
use Rattle.hm_sizes.specs.declared.shape.Shape.{Shape}
use Rattle.hm_class_rules.specs.Drawn.{unparked_by}
use Rattle.hm_class_rules.specs.Draws.{words_of, words_from, after_words, parking_words, array_index, parking_index, word_after}
use Rattle.hm_class_rules.specs.Rules.{Terms}
use Rattle.hm_class_rules.specs.Stepped.{Cells, IsSteppedEntry}
use Rattle.hm_class_rules.proofs.Alike.{drawn_below}
use Rattle.hm_class_rules.proofs.Streams.{next_below}
use Rattle.hm_class.specs.declared.event.Emptied.{Emptied}
use Rattle.hm_class.specs.declared.event.Emptied.TheVariants as emptied
use Rattle.hm_model.specs.Calls.{entry_of}
use Rattle.hm_class.specs.Frees.{array_word, index_of_word, array_stream}
use Rattle.hm_class.specs.Events.{freed_choices, freed_draws}

-- the words of a retirement: its own is the next after the array's
abbrev pub IsNextWord : Words → Bool → Emptied → Type 0
IsNextWord stream none emptied.Kept = Unit {0}
IsNextWord stream none (emptied.Retired slab word unparked) = word ≡ next_word (cond none stream (after_word stream))
IsNextWord stream none (emptied.Purged d) = Unit {0}

abbrev word_by : Words → Bool → Option ℕ
word_by stream none = cond none None (Some (next_word stream))

-- the stream after them
abbrev pub stream_after : Words → Emptied → Words
stream_after stream emptied.Kept = stream
stream_after stream (emptied.Retired slab word unparked) = after_word stream
stream_after stream (emptied.Purged d) = stream

freed_are : (word : Option ℕ) (e : Emptied) → AreDraws (freed_draws word e)
freed_are None emptied.Kept = record { first = λ lt. refl; second = λ lt. refl; third = λ lt. refl }
freed_are None (emptied.Retired d w u) = record { first = λ lt. absurd (omega (arith, lt)); second = λ lt. refl; third = λ lt. refl }
freed_are None (emptied.Purged d) = record { first = λ lt. refl; second = λ lt. refl; third = λ lt. refl }
freed_are (Some a) emptied.Kept = record { first = λ lt. absurd (omega (arith, lt)); second = λ lt. refl; third = λ lt. refl }
freed_are (Some a) (emptied.Retired d w u) = record { first = λ lt. absurd (omega (arith, lt)); second = λ lt. absurd (omega (arith, lt)); third = λ lt. refl }
freed_are (Some a) (emptied.Purged d) = record { first = λ lt. absurd (omega (arith, lt)); second = λ lt. refl; third = λ lt. refl }

pub draws_are : (p : Shape) (stream : Words) (e : Emptied) → AreDraws (freed_draws (array_word p (next_word stream)) e)
draws_are p stream e = freed_are (array_word p (next_word stream)) e

count_by : (stream : Words) (none : Bool) (released : Option ℕ) (e : Emptied) → (freed_draws (word_by stream none) e).used ≡ cond none 0 1 + parking_words (freed_choices released e)
count_by stream true released emptied.Kept = refl
count_by stream true released (emptied.Retired d w u) = refl
count_by stream true released (emptied.Purged d) = refl
count_by stream false released emptied.Kept = refl
count_by stream false released (emptied.Retired d w u) = refl
count_by stream false released (emptied.Purged d) = refl

words_by : (stream : Words) (none : Bool) (e : Emptied) → IsNextWord stream none e → words_of (freed_draws (word_by stream none) e) ≡ words_from stream (freed_draws (word_by stream none) e).used
words_by stream true emptied.Kept is = refl
words_by stream true (emptied.Retired d w u) is = ap (λ (x : ℕ). x ∷ []) is
words_by stream true (emptied.Purged d) is = refl
words_by stream false emptied.Kept is = refl
words_by stream false (emptied.Retired d w u) is = ap (λ (x : ℕ). next_word stream ∷ x ∷ []) is
words_by stream false (emptied.Purged d) is = refl

after_by : (stream : Words) (none : Bool) (e : Emptied) → after_words stream (freed_draws (word_by stream none) e).used ≡ stream_after (cond none stream (after_word stream)) e
after_by stream true emptied.Kept = refl
after_by stream true (emptied.Retired d w u) = refl
after_by stream true (emptied.Purged d) = refl
after_by stream false emptied.Kept = refl
after_by stream false (emptied.Retired d w u) = refl
after_by stream false (emptied.Purged d) = refl

pub after_freed : (p : Shape) (stream : Words) (e : Emptied) → after_words stream (freed_draws (array_word p (next_word stream)) e).used ≡ stream_after (array_stream p stream) e
after_freed p stream e = after_by stream (p.array == 0) e

-- the index in the array
is_zero : (n : ℕ) → (n == 0) ≡ true → n ≡ 0
is_zero n e = grind (arith, nat_tests)

drawn_none : (n word : ℕ) → n ≡ 0 → drawn n word ≡ 0
drawn_none n word e = ap (λ (x : ℕ). word * x / 2 ^ 32) e ∙ ap (λ (x : ℕ). x / 2 ^ 32) (nothing word)
  where
    nothing : (w : ℕ) → w * 0 ≡ 0
    nothing w = omega arith

pub index_drawn : (p : Shape) (stream : Words) (e : Emptied) → array_index p (freed_draws (array_word p (next_word stream)) e) ≡ index_of_word p (next_word stream)
index_drawn p stream e = of (p.array == 0) refl e
  where
    of : (none : Bool) → (p.array == 0) ≡ none → (e : Emptied) → array_index p (freed_draws (word_by stream none) e) ≡ cond none 0 (drawn p.array (next_word stream))
    of true is e = drawn_none p.array _ (is_zero p.array is)
    of false is emptied.Kept = refl
    of false is (emptied.Retired d w u) = refl
    of false is (emptied.Purged d) = refl

pub index_fits : (p : Shape) (stream : Words) → IsArrayIndex p.array (index_of_word p (next_word stream))
index_fits p stream = of p.array
  where
    of : (n : ℕ) → IsArrayIndex n (cond (n == 0) 0 (drawn n (next_word stream)))
    of zero = refl
    of (suc n) = subst (λ (x : Bool). cond x 0 (drawn (suc n) (next_word stream)) < suc n) (sym (not_zero n)) (drawn_below (suc n) (next_word stream) (omega arith) (next_below stream))
      where
        not_zero : (n : ℕ) → (suc n == 0) ≡ false
        not_zero n = grind (arith, nat_tests)

-- the parking index of a retired slab
pub parking_drawn : (t : Terms) (stream : Words) (d w : ℕ) (u : Option ℕ) → parking_index t (freed_draws (array_word t.shape (next_word stream)) (emptied.Retired d w u)) ≡ drawn t.config.park_length w
parking_drawn t stream d w u = of (t.shape.array == 0)
  where
    of : (none : Bool) → drawn t.config.park_length (word_after (cond none 0 1) (freed_draws (word_by stream none) (emptied.Retired d w u))) ≡ drawn t.config.park_length w
    of true = refl
    of false = refl

-- what was unparked stood at that place
abbrev pub IsUnparked : Terms → Cells → Emptied → Type 0
IsUnparked t c emptied.Kept = Unit {0}
IsUnparked t c (emptied.Retired slab word unparked) = unparked ≡ slice_index_or c.parking (drawn t.config.park_length word) None
IsUnparked t c (emptied.Purged d) = Unit {0}

unparked_is : (t : Terms) (c : Cells) (released : Option ℕ) (e : Emptied) → IsUnparked t c e
    → (freed_choices released e).unparked ≡ unparked_by (freed_choices released e).retired (slice_index_or c.parking (parking_index t (freed_draws (array_word t.shape (next_word c.stream)) e)) None)
unparked_is t c released emptied.Kept is = refl
unparked_is t c released (emptied.Retired d w u) is = is ∙ ap (λ (i : ℕ). slice_index_or c.parking i None) (sym (parking_drawn t c.stream d w u))
unparked_is t c released (emptied.Purged d) is = refl

pub released_is : (released : Option ℕ) (e : Emptied) → (freed_choices released e).released ≡ released
released_is released emptied.Kept = refl
released_is released (emptied.Retired d w u) = refl
released_is released (emptied.Purged d) = refl

pub stepped_freed : (t : Terms) (c : Cells) (who : Who) (a : ℕ) {f f' : ℕ} (stated released : Option ℕ) (e : Emptied) → IsNextWord c.stream (t.shape.array == 0) e → IsUnparked t c e → released ≡ let_go c.quarantine a (index_of_word t.shape (next_word c.stream))
    → IsSteppedEntry t c (entry_of who (GiveBack a stated) reply.Freed (freed_choices released e) (freed_draws (array_word t.shape (next_word c.stream)) e) f f')
stepped_freed t c who a stated released e next unparked is = record {
  count = count_by c.stream (t.shape.array == 0) released e;
  words = words_by c.stream (t.shape.array == 0) e next;
  choices = record {
    released = released_is released e ∙ is ∙ ap (λ (i : ℕ). let_go c.quarantine a i) (sym (index_drawn t.shape c.stream e));
    unparked = unparked_is t c released e unparked;
  };
}
