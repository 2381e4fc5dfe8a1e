-- Words with a separator between each two are the first word and the others behind separators.
use Rattle.std.proofs.Common.{◌≡◌, OnOk, Result, Ok, Err, ℕ, List, [], ◌∷◌, ◌++◌, map, codes, sym, ◌∙◌, ap, subst, append_assoc}
use Rattle.std.specs.List.{flat_map, join_with_byte}
use Rattle.std.specs.Prelude.{if◌then◌else◌, is_ok}
use Rattle.std.specs.Fmt.{decimal}
use Rattle.std.proofs.lemmas.List.{append-nil}
use Rattle.std.proofs.lemmas.List.Folds.{flat_map-map}
use Rattle.std.proofs.lemmas.Grind.{flat_map-append}
use Rattle.hm_model.specs.declared.entry.Entry.{Entry}
use Rattle.hm_journal.specs.Entries.{call_words, choices_words, draws_words, entry_words, faults_words, reply_words, who_words}
use Rattle.hm_base.specs.Bytes.{run_word}
use Rattle.hm_journal.specs.Words.{line_text, runs_word, spaced}

joined : (c : ℕ) (word : List ℕ) (words : List (List ℕ))
    → join_with_byte c (word ∷ words) ≡ word ++ flat_map (λ (w : List ℕ). c ∷ w) words
joined c word [] = sym (append-nil word)
joined c word (next ∷ words) = ap (λ (l : List ℕ). word ++ c ∷ l) (joined c next words)

joined_runs : (run : ℕ × ℕ) (runs : List (ℕ × ℕ))
    → runs_word (run ∷ runs) ≡ run_word run ++ flat_map (λ (r : ℕ × ℕ). 44 ∷ run_word r) runs
joined_runs run runs =
    joined 44 (run_word run) (map run_word runs)
    ∙ ap (λ (l : List ℕ). run_word run ++ l) (flat_map-map (λ (w : List ℕ). 44 ∷ w) run_word runs)

one_spaced : (word : List ℕ) → spaced (word ∷ []) ≡ 32 ∷ word
one_spaced word = ap (λ (l : List ℕ). 32 ∷ l) (append-nil word)

line_parts : (word : List ℕ) (who faults draws choices call reply : List (List ℕ))
    → line_text ((word ∷ who) ++ faults ++ draws ++ choices ++ call ++ codes ":" ∷ reply)
    ≡ join_with_byte 32 (word ∷ who) ++ spaced faults ++ spaced draws ++ spaced choices ++ spaced call ++ codes " :"
    ++ spaced reply ++ 10 ∷ []
line_parts word who faults draws choices call reply =
    rw (joined 32 word (who ++ faults ++ draws ++ choices ++ call ++ codes ":" ∷ reply), joined 32 word who)
    (simp (flat_map-append, append_assoc))

pieces : (start who faults draws choices call colon reply one two three four five six seven : List ℕ)
    → one ≡ start ++ who → two ≡ one ++ faults → three ≡ two ++ draws → four ≡ three ++ choices → five ≡ four ++ call
    → six ≡ five ++ colon → seven ≡ six ++ reply
    → seven ++ 10 ∷ [] ≡ start ++ (who ++ faults ++ draws ++ choices ++ call ++ colon ++ reply ++ 10 ∷ [])
pieces start who faults draws choices call colon reply one two three four five six seven a b c d e f g =
    rw (g, f, e, d, c, b, a) (simp append_assoc)

line_added : (word : List ℕ) (who faults draws choices call reply : List (List ℕ))
    (start one two three four five six seven : List ℕ)
    → one ≡ start ++ join_with_byte 32 (word ∷ who) → two ≡ one ++ spaced faults → three ≡ two ++ spaced draws
    → four ≡ three ++ spaced choices → five ≡ four ++ spaced call
    → six ≡ five ++ codes " :" → seven ≡ six ++ spaced reply
    → seven ++ 10 ∷ [] ≡ start ++ line_text ((word ∷ who) ++ faults ++ draws ++ choices ++ call ++ codes ":" ∷ reply)
line_added word who faults draws choices call reply start one two three four five six seven a b c d f g h =
    subst (λ (l : List ℕ). seven ++ 10 ∷ [] ≡ start ++ l) (sym (line_parts word who faults draws choices call reply))
    (pieces start (join_with_byte 32 (word ∷ who)) (spaced faults) (spaced draws) (spaced choices) (spaced call)
    (codes " :") (spaced reply)
    one two three four five six seven a b c d f g h)

-- a text to which the parts of an entry's line were added, one after another
pub entry_added : (e : Entry) (start one two three four five six seven : List ℕ)
    → one ≡ start ++ join_with_byte 32 (who_words e.who) → two ≡ one ++ spaced (faults_words e)
    → three ≡ two ++ spaced (draws_words e.draws)
    → four ≡ three ++ spaced (choices_words e.choices) → five ≡ four ++ spaced (call_words e.call)
    → six ≡ five ++ codes " :"
    → seven ≡ six ++ spaced (reply_words e.reply) → seven ++ 10 ∷ [] ≡ start ++ line_text (entry_words e)
entry_added e =
    line_added (decimal e.who.caller)
    (decimal e.who.round ∷ decimal e.who.thread ∷ decimal e.who.step ∷ decimal e.who.part ∷ [])
    (faults_words e) (draws_words e.draws) (choices_words e.choices) (call_words e.call) (reply_words e.reply)

-- a text to which a space and runs were added
pub runs_added : (run : ℕ × ℕ) (more runs : List (ℕ × ℕ)) (start one two : List ℕ)
    → runs ≡ run ∷ more → one ≡ start ++ codes " " → two ≡ one ++ run_word run
    → two ++ flat_map (λ (r : ℕ × ℕ). 44 ∷ run_word r) more ≡ start ++ spaced (runs_word runs ∷ [])
runs_added run more runs start one two e a b =
    let rest : List ℕ = flat_map (λ (r : ℕ × ℕ). 44 ∷ run_word r) more in
    let whole = behind start (run_word run) rest one two a b in
    let word : run_word run ++ rest ≡ runs_word runs = sym (joined_runs run more) ∙ ap runs_word (sym e) in
    subst (λ (l : List ℕ). two ++ rest ≡ start ++ l)
    (ap (λ (l : List ℕ). 32 ∷ l) word ∙ sym (one_spaced (runs_word runs))) whole
  where
    behind : (start word rest one two : List ℕ) → one ≡ start ++ codes " " → two ≡ one ++ word
        → two ++ rest ≡ start ++ 32 ∷ (word ++ rest)
    behind start word rest one two a b = rw (b, a) (simp append_assoc)

pub on_ok : {A E : Type 0} (r : Result A E) (x y z : List ℕ) → x ≡ (if is_ok r then y else z) → OnOk r (x ≡ y)
on_ok (Ok a) x y z e = e
on_ok (Err e) x y z h = tt
