-- A step that was read is what its words spell and fits, and the words of a step that fits are read as that step.
use Rattle.std.proofs.Common.{◌≡◌, ⊎_elim, ℕ, cond, List, [], ◌∷◌, map, codes, Result, Ok, Err, refl, sym, ◌∙◌, ap, subst}
use Rattle.hm_trace.specs.declared.fault.FaultKind.{FaultKind}
use Rattle.hm_trace.specs.declared.fault.FaultKind.TheVariants.{BadWord}
use Rattle.hm_trace.specs.Lines.{Part}
use Rattle.hm_trace.specs.Names.{is_word}
use Rattle.hm_trace.specs.ReadWords.{aligned_at, calloc_at, free_at, malloc_at, read_at, realloc_at, sfree_at, size_step_at, step_at, write_at}
use Rattle.hm_trace.specs.Spelling.{step_words}
use Rattle.hm_trace.specs.Views.{Aligned, Calloc, Free, Malloc, Read, Realloc, Sfree, Size, StepView, Write}
use Rattle.hm_trace.proofs.Choices.{chosen, ok_is, word_is}
use Rattle.hm_trace.proofs.Fits.{FitValues, FitsStep}
use Rattle.hm_trace.proofs.Forms.{aligned_by_form, calloc_by_form, free_by_form, malloc_by_form, read_by_form, realloc_by_form, sfree_by_form, size_step_by_form, write_by_form}
use Rattle.hm_trace.proofs.Parts.{ByteOf, NameOf, NumberOf, PlaceOf, Value, free_form, make_aligned, make_calloc, make_free, make_malloc, make_read, make_realloc, make_sfree, make_size, make_write, malloc_form, read_form, realloc_form, sfree_form, size_form, two_sizes_form, value_word, write_form}
use Rattle.hm_trace.proofs.Values.{form_again, form_is}

-- the words are those of the step, which fits
abbrev pub Reads : List (List ℕ) → StepView → Type 0
Reads words s = (words ≡ step_words s) × FitsStep s

-- the step that was made of values
abbrev Made : List ℕ → List Part → List Value → StepView → Type 0
Made word parts vs s = (word ∷ map value_word vs ≡ step_words s) × (FitValues parts vs → FitsStep s)

malloc_made : (vs : List Value) (s : StepView) → make_malloc vs ≡ Ok s → Made (codes "malloc") malloc_form vs s
malloc_made (NameOf x0 ∷ NumberOf x1 ∷ []) s e =
    subst (Made (codes "malloc") malloc_form (NameOf x0 ∷ NumberOf x1 ∷ [])) (ok_is (Malloc x0 x1) s e) (refl, λ h. h)
malloc_made _ s e = absurd cc

malloc_is : (words : List (List ℕ)) (s : StepView) → malloc_at words ≡ Ok s → Reads (codes "malloc" ∷ words) s
malloc_is words s e =
    let f = form_is malloc_form make_malloc words s (sym (malloc_by_form words) ∙ e) in
    let m = malloc_made f.0 s f.3 in
    (ap (λ (x : List (List ℕ)). codes "malloc" ∷ x) f.1 ∙ m.0, m.1 f.2)

calloc_made : (vs : List Value) (s : StepView) → make_calloc vs ≡ Ok s → Made (codes "calloc") two_sizes_form vs s
calloc_made (NameOf x0 ∷ NumberOf x1 ∷ NumberOf x2 ∷ []) s e =
    subst (Made (codes "calloc") two_sizes_form (NameOf x0 ∷ NumberOf x1 ∷ NumberOf x2 ∷ []))
    (ok_is (Calloc x0 x1 x2) s e) (refl, λ h. h)
calloc_made _ s e = absurd cc

calloc_is : (words : List (List ℕ)) (s : StepView) → calloc_at words ≡ Ok s → Reads (codes "calloc" ∷ words) s
calloc_is words s e =
    let f = form_is two_sizes_form make_calloc words s (sym (calloc_by_form words) ∙ e) in
    let m = calloc_made f.0 s f.3 in
    (ap (λ (x : List (List ℕ)). codes "calloc" ∷ x) f.1 ∙ m.0, m.1 f.2)

aligned_made : (vs : List Value) (s : StepView) → make_aligned vs ≡ Ok s → Made (codes "aligned") two_sizes_form vs s
aligned_made (NameOf x0 ∷ NumberOf x1 ∷ NumberOf x2 ∷ []) s e =
    subst (Made (codes "aligned") two_sizes_form (NameOf x0 ∷ NumberOf x1 ∷ NumberOf x2 ∷ []))
    (ok_is (Aligned x0 x1 x2) s e) (refl, λ h. h)
aligned_made _ s e = absurd cc

aligned_is : (words : List (List ℕ)) (s : StepView) → aligned_at words ≡ Ok s → Reads (codes "aligned" ∷ words) s
aligned_is words s e =
    let f = form_is two_sizes_form make_aligned words s (sym (aligned_by_form words) ∙ e) in
    let m = aligned_made f.0 s f.3 in
    (ap (λ (x : List (List ℕ)). codes "aligned" ∷ x) f.1 ∙ m.0, m.1 f.2)

realloc_made : (vs : List Value) (s : StepView) → make_realloc vs ≡ Ok s → Made (codes "realloc") realloc_form vs s
realloc_made (NameOf x0 ∷ PlaceOf x1 ∷ NumberOf x2 ∷ []) s e =
    subst (Made (codes "realloc") realloc_form (NameOf x0 ∷ PlaceOf x1 ∷ NumberOf x2 ∷ []))
    (ok_is (Realloc x0 x1 x2) s e) (refl, λ h. h)
realloc_made _ s e = absurd cc

realloc_is : (words : List (List ℕ)) (s : StepView) → realloc_at words ≡ Ok s → Reads (codes "realloc" ∷ words) s
realloc_is words s e =
    let f = form_is realloc_form make_realloc words s (sym (realloc_by_form words) ∙ e) in
    let m = realloc_made f.0 s f.3 in
    (ap (λ (x : List (List ℕ)). codes "realloc" ∷ x) f.1 ∙ m.0, m.1 f.2)

free_made : (vs : List Value) (s : StepView) → make_free vs ≡ Ok s → Made (codes "free") free_form vs s
free_made (PlaceOf x0 ∷ []) s e =
    subst (Made (codes "free") free_form (PlaceOf x0 ∷ [])) (ok_is (Free x0) s e) (refl, λ h. h)
free_made _ s e = absurd cc

free_is : (words : List (List ℕ)) (s : StepView) → free_at words ≡ Ok s → Reads (codes "free" ∷ words) s
free_is words s e =
    let f = form_is free_form make_free words s (sym (free_by_form words) ∙ e) in
    let m = free_made f.0 s f.3 in
    (ap (λ (x : List (List ℕ)). codes "free" ∷ x) f.1 ∙ m.0, m.1 f.2)

sfree_made : (vs : List Value) (s : StepView) → make_sfree vs ≡ Ok s → Made (codes "sfree") sfree_form vs s
sfree_made (PlaceOf x0 ∷ NumberOf x1 ∷ []) s e =
    subst (Made (codes "sfree") sfree_form (PlaceOf x0 ∷ NumberOf x1 ∷ [])) (ok_is (Sfree x0 x1) s e) (refl, λ h. h)
sfree_made _ s e = absurd cc

sfree_is : (words : List (List ℕ)) (s : StepView) → sfree_at words ≡ Ok s → Reads (codes "sfree" ∷ words) s
sfree_is words s e =
    let f = form_is sfree_form make_sfree words s (sym (sfree_by_form words) ∙ e) in
    let m = sfree_made f.0 s f.3 in
    (ap (λ (x : List (List ℕ)). codes "sfree" ∷ x) f.1 ∙ m.0, m.1 f.2)

write_made : (vs : List Value) (s : StepView) → make_write vs ≡ Ok s → Made (codes "write") write_form vs s
write_made (PlaceOf x0 ∷ NumberOf x1 ∷ ByteOf x2 ∷ []) s e =
    subst (Made (codes "write") write_form (PlaceOf x0 ∷ NumberOf x1 ∷ ByteOf x2 ∷ [])) (ok_is (Write x0 x1 x2) s e)
    (refl, λ h. h)
write_made _ s e = absurd cc

write_is : (words : List (List ℕ)) (s : StepView) → write_at words ≡ Ok s → Reads (codes "write" ∷ words) s
write_is words s e =
    let f = form_is write_form make_write words s (sym (write_by_form words) ∙ e) in
    let m = write_made f.0 s f.3 in
    (ap (λ (x : List (List ℕ)). codes "write" ∷ x) f.1 ∙ m.0, m.1 f.2)

read_made : (vs : List Value) (s : StepView) → make_read vs ≡ Ok s → Made (codes "read") read_form vs s
read_made (PlaceOf x0 ∷ NumberOf x1 ∷ []) s e =
    subst (Made (codes "read") read_form (PlaceOf x0 ∷ NumberOf x1 ∷ [])) (ok_is (Read x0 x1) s e) (refl, λ h. h)
read_made _ s e = absurd cc

read_is : (words : List (List ℕ)) (s : StepView) → read_at words ≡ Ok s → Reads (codes "read" ∷ words) s
read_is words s e =
    let f = form_is read_form make_read words s (sym (read_by_form words) ∙ e) in
    let m = read_made f.0 s f.3 in
    (ap (λ (x : List (List ℕ)). codes "read" ∷ x) f.1 ∙ m.0, m.1 f.2)

size_made : (vs : List Value) (s : StepView) → make_size vs ≡ Ok s → Made (codes "size") size_form vs s
size_made (PlaceOf x0 ∷ []) s e =
    subst (Made (codes "size") size_form (PlaceOf x0 ∷ [])) (ok_is (Size x0) s e) (refl, λ h. h)
size_made _ s e = absurd cc

size_is : (words : List (List ℕ)) (s : StepView) → size_step_at words ≡ Ok s → Reads (codes "size" ∷ words) s
size_is words s e =
    let f = form_is size_form make_size words s (sym (size_step_by_form words) ∙ e) in
    let m = size_made f.0 s f.3 in
    (ap (λ (x : List (List ℕ)). codes "size" ∷ x) f.1 ∙ m.0, m.1 f.2)

-- one step word among others
among : (word first : List ℕ) (rest : List (List ℕ)) (r later : Result StepView FaultKind) (s : StepView)
    → (r ≡ Ok s → Reads (word ∷ rest) s) → (later ≡ Ok s → Reads (first ∷ rest) s)
    → cond (is_word first word) r later ≡ Ok s → Reads (first ∷ rest) s
among word first rest r later s here there e =
    ⊎_elim (λ h. let q = here h.1 in (ap (λ (x : List ℕ). x ∷ rest) (word_is first word h.0) ∙ q.0, q.1))
    (λ h. there h.1) (chosen (is_word first word) r later (Ok s) e)

abbrev Else : Type 0
Else = List ℕ → List (List ℕ) → Result StepView FaultKind

abbrev from_size : Else
from_size first rest = cond (is_word first (codes "size")) (size_step_at rest) (Err BadWord)

abbrev from_read : Else
from_read first rest = cond (is_word first (codes "read")) (read_at rest) (from_size first rest)

abbrev from_write : Else
from_write first rest = cond (is_word first (codes "write")) (write_at rest) (from_read first rest)

abbrev from_sfree : Else
from_sfree first rest = cond (is_word first (codes "sfree")) (sfree_at rest) (from_write first rest)

abbrev from_free : Else
from_free first rest = cond (is_word first (codes "free")) (free_at rest) (from_sfree first rest)

abbrev from_realloc : Else
from_realloc first rest = cond (is_word first (codes "realloc")) (realloc_at rest) (from_free first rest)

abbrev from_aligned : Else
from_aligned first rest = cond (is_word first (codes "aligned")) (aligned_at rest) (from_realloc first rest)

abbrev from_calloc : Else
from_calloc first rest = cond (is_word first (codes "calloc")) (calloc_at rest) (from_aligned first rest)

pub step_is : (words : List (List ℕ)) (s : StepView) → step_at words ≡ Ok s → Reads words s
unfolding step_at
step_is [] s e = absurd cc
step_is (first ∷ rest) s e =
    among (codes "malloc") first rest (malloc_at rest) (from_calloc first rest) s (malloc_is rest s)
    (among (codes "calloc") first rest (calloc_at rest) (from_aligned first rest) s (calloc_is rest s)
    (among (codes "aligned") first rest (aligned_at rest) (from_realloc first rest) s (aligned_is rest s)
    (among (codes "realloc") first rest (realloc_at rest) (from_free first rest) s (realloc_is rest s)
    (among (codes "free") first rest (free_at rest) (from_sfree first rest) s (free_is rest s)
    (among (codes "sfree") first rest (sfree_at rest) (from_write first rest) s (sfree_is rest s)
    (among (codes "write") first rest (write_at rest) (from_read first rest) s (write_is rest s)
    (among (codes "read") first rest (read_at rest) (from_size first rest) s (read_is rest s)
    (among (codes "size") first rest (size_step_at rest) (Err BadWord) s (size_is rest s)
    (λ h. absurd cc))))))))) e

pub step_again : (s : StepView) → FitsStep s → step_at (step_words s) ≡ Ok s
unfolding step_at
step_again (Malloc x0 x1) h =
    malloc_by_form (map value_word (NameOf x0 ∷ NumberOf x1 ∷ []))
    ∙ form_again malloc_form make_malloc (NameOf x0 ∷ NumberOf x1 ∷ []) (Malloc x0 x1) h refl
step_again (Calloc x0 x1 x2) h =
    calloc_by_form (map value_word (NameOf x0 ∷ NumberOf x1 ∷ NumberOf x2 ∷ []))
    ∙ form_again two_sizes_form make_calloc (NameOf x0 ∷ NumberOf x1 ∷ NumberOf x2 ∷ []) (Calloc x0 x1 x2) h refl
step_again (Aligned x0 x1 x2) h =
    aligned_by_form (map value_word (NameOf x0 ∷ NumberOf x1 ∷ NumberOf x2 ∷ []))
    ∙ form_again two_sizes_form make_aligned (NameOf x0 ∷ NumberOf x1 ∷ NumberOf x2 ∷ []) (Aligned x0 x1 x2) h refl
step_again (Realloc x0 x1 x2) h =
    realloc_by_form (map value_word (NameOf x0 ∷ PlaceOf x1 ∷ NumberOf x2 ∷ []))
    ∙ form_again realloc_form make_realloc (NameOf x0 ∷ PlaceOf x1 ∷ NumberOf x2 ∷ []) (Realloc x0 x1 x2) h refl
step_again (Free x0) h =
    free_by_form (map value_word (PlaceOf x0 ∷ [])) ∙ form_again free_form make_free (PlaceOf x0 ∷ []) (Free x0) h refl
step_again (Sfree x0 x1) h =
    sfree_by_form (map value_word (PlaceOf x0 ∷ NumberOf x1 ∷ []))
    ∙ form_again sfree_form make_sfree (PlaceOf x0 ∷ NumberOf x1 ∷ []) (Sfree x0 x1) h refl
step_again (Write x0 x1 x2) h =
    write_by_form (map value_word (PlaceOf x0 ∷ NumberOf x1 ∷ ByteOf x2 ∷ []))
    ∙ form_again write_form make_write (PlaceOf x0 ∷ NumberOf x1 ∷ ByteOf x2 ∷ []) (Write x0 x1 x2) h refl
step_again (Read x0 x1) h =
    read_by_form (map value_word (PlaceOf x0 ∷ NumberOf x1 ∷ []))
    ∙ form_again read_form make_read (PlaceOf x0 ∷ NumberOf x1 ∷ []) (Read x0 x1) h refl
step_again (Size x0) h =
    size_step_by_form (map value_word (PlaceOf x0 ∷ []))
    ∙ form_again size_form make_size (PlaceOf x0 ∷ []) (Size x0) h refl
