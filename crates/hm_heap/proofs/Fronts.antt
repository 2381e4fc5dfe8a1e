-- What a lawful history begins with is lawful.
use Rattle.std.proofs.Common.{◌≡◌, ℕ, List, [], ◌∷◌, ◌++◌, length, append_assoc, refl, ap, sym, ◌∙◌}
use Rattle.hm_choice.specs.Stream.{Words, after_word}
use Rattle.hm_model.specs.declared.entry.Entry.{Entry}
use Rattle.hm_model.specs.Machine.{Legal_split}
use Rattle.hm_sizes.specs.Origins.{Origin}
use Rattle.hm_class_rules.specs.Drawn.{AreDrawn}
use Rattle.hm_class_rules.specs.Draws.{stream_of, words_of, words_from, all_words}
use Rattle.hm_class_rules.proofs.Streams.{same_head, same_tail}
use Rattle.hm_class_rules.specs.Rules as class
use Rattle.hm_class_rules.specs.State as class_state
use Rattle.hm_class_rules.specs.Steps as class_steps
use Rattle.hm_large_rules.specs.Drawn as large_drawn
use Rattle.hm_large_rules.specs.Rules as large
use Rattle.hm_large_rules.specs.State as large_state
use Rattle.hm_large_rules.specs.Steps as large_steps
use Rattle.hm_heap.specs.Lawful.{arena_of, class_terms, large_terms, IsLawful}

all_words_append : (es fs : List Entry) → all_words (es ++ fs) ≡ all_words es ++ all_words fs
all_words_append [] fs = refl
all_words_append (e ∷ es) fs = ap (λ (l : List ℕ). words_of e.draws ++ l) (all_words_append es fs) ∙ sym (append_assoc (words_of e.draws) (all_words es) (all_words fs))

words_front : (w : Words) (xs ys : List ℕ) → xs ++ ys ≡ words_from w (length (xs ++ ys)) → xs ≡ words_from w (length xs)
words_front w [] ys h = refl
words_front w (x ∷ xs) ys h =
    let first = same_head _ _ _ _ h in
    let rest = words_front (after_word w) xs ys (same_tail _ _ _ _ h) in
    λ i. first i ∷ rest i

drawn_front : (t : class.Terms) (past es fs : List Entry) → AreDrawn t past (es ++ fs) → AreDrawn t past es
drawn_front t past [] fs drawn = tt
drawn_front t past (e ∷ es) fs drawn = (drawn.0, drawn_front t (e ∷ past) es fs drawn.1)

pub lawful_front : (o : Origin) (es fs : List Entry) → IsLawful o (es ++ fs) → IsLawful o es
lawful_front o es fs lawful = record {
  class = λ lt.
      let c = lawful.class lt in
      let t = class_terms o in
      let w = after_word (stream_of o.seed (arena_of o.region) t.shape.class) in
      record {
        legal = (Legal_split (class_steps.step t.shape) (class.Allowed t) class_state.start es fs c.legal).0;
        drawn = record {
          shape = c.drawn.shape;
          words = words_front w (all_words es) (all_words fs)
              (sym (all_words_append es fs) ∙ (c.drawn.words ∙ ap (λ (l : List ℕ). words_from w (length l)) (all_words_append es fs)));
          choices = drawn_front t [] es fs c.drawn.choices;
        };
      };
  large = λ is.
      let l = lawful.large is in
      record {
        legal = (Legal_split large_steps.step (large.Allowed (large_terms o)) large_state.start es fs l.legal).0;
        drawn = (Legal_split large_steps.step (large_drawn.IsDrawnEntry o.seed) large_state.start es fs l.drawn).0;
      };
}
