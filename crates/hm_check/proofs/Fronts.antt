-- What a legal history begins with is legal, and what a drawn one begins with is drawn.
use Rattle.std.proofs.Common.{◌≡◌, List, [], ◌∷◌, ◌++◌, ℕ, length, append_assoc, refl, ap, sym, ◌∙◌}
use Rattle.hm_choice.specs.Stream.{Words, after_word}
use Rattle.hm_model.specs.declared.entry.Entry.{Entry}
use Rattle.hm_model.specs.Machine.{Legal_split}
use Rattle.hm_sizes.specs.Origins.{Origin}
use Rattle.hm_class_rules.specs.Drawn.{AreDrawn}
use Rattle.hm_class_rules.specs.Draws.{all_words, stream_of, words_from, words_of}
use Rattle.hm_class_rules.specs.Rules as class
use Rattle.hm_class_rules.proofs.Legal as class_legal
use Rattle.hm_class_rules.proofs.Streams.{same_head, same_tail}
use Rattle.hm_large_rules.specs.Drawn as large_draws
use Rattle.hm_large_rules.specs.State as block_state
use Rattle.hm_large_rules.specs.Steps as block_steps
use Rattle.hm_large_rules.proofs.Legal as large_legal
use Rattle.hm_heap.specs.Lawful.{arena_of, class_terms, large_terms}
use Rattle.hm_check.specs.Verdicts.{IsDrawnHistory, IsLegalHistory}

pub legal_front : (o : Origin) (es fs : List Entry) → IsLegalHistory o (es ++ fs) → IsLegalHistory o es
legal_front o es fs h = record {
  class = λ small. class_legal.prefixes (class_terms o) es fs (h.class small);
  large = λ is. large_legal.prefixes (large_terms o) es fs (h.large is);
}

-- ---- drawn choices
pub all_words_append : (es fs : List Entry) → all_words (es ++ fs) ≡ all_words es ++ all_words fs
all_words_append [] fs = refl
all_words_append (e ∷ es) fs =
    ap (λ (l : List ℕ). words_of e.draws ++ l) (all_words_append es fs)
    ∙ sym (append_assoc (words_of e.draws) (all_words es) (all_words fs))

words_front : (w : Words) (xs ys : List ℕ) → xs ++ ys ≡ words_from w (length (xs ++ ys)) → xs ≡ words_from w (length xs)
words_front w [] ys h = refl
words_front w (x ∷ xs) ys h =
    let first = same_head _ _ _ _ h in
    let rest = words_front (after_word w) xs ys (same_tail _ _ _ _ h) in
    λ i. first i ∷ rest i

choices_front : (t : class.Terms) (past es fs : List Entry) → AreDrawn t past (es ++ fs) → AreDrawn t past es
choices_front t past [] fs drawn = tt
choices_front t past (e ∷ es) fs drawn = (drawn.0, choices_front t (e ∷ past) es fs drawn.1)

pub drawn_front : (o : Origin) (es fs : List Entry) → IsDrawnHistory o (es ++ fs) → IsDrawnHistory o es
drawn_front o es fs h = record {
  class = λ small.
      let d = h.class small in
      let w = after_word (stream_of o.seed (arena_of o.region) (class_terms o).shape.class) in
      record {
        shape = d.shape;
        words = words_front w (all_words es) (all_words fs)
            (sym (all_words_append es fs) ∙ (d.words ∙ ap (λ (l : List ℕ). words_from w (length l)) (all_words_append es fs)));
        choices = choices_front (class_terms o) [] es fs d.choices;
      };
  large = λ is.
      (Legal_split block_steps.step (large_draws.IsDrawnEntry o.seed) block_state.start es fs (h.large is)).0;
}
