-- Each step word is read part by part.
use Rattle.std.proofs.Common.{◌≡◌, ℕ, List, [], ◌∷◌, Result, Ok, Err, refl, sym}
use Rattle.hm_trace.specs.declared.fault.FaultKind.{FaultKind}
use Rattle.hm_trace.specs.Gives.{◌>>=◌}
use Rattle.hm_trace.specs.ReadWords.{aligned_at, byte_at, calloc_at, free_at, length_at, malloc_at, name_at, place_at, read_at, realloc_at, sfree_at, size_at, size_step_at, write_at}
use Rattle.hm_trace.specs.Views.{Aligned, Calloc, Free, Malloc, Read, Realloc, Sfree, Size, StepView, Write}
use Rattle.hm_trace.proofs.Parts.{ByteOf, NameOf, NumberOf, PlaceOf, Value, form_at, free_form, make_aligned, make_calloc, make_free, make_malloc, make_read, make_realloc, make_sfree, make_size, make_write, malloc_form, read_form, realloc_form, sfree_form, size_form, two_sizes_form, write_form}

one : {A : Type 0} (r : Result A FaultKind) (v : A → Value) (step : A → StepView)
    (make : List Value → Result StepView FaultKind)
    → ((a : A) → make (v a ∷ []) ≡ Ok (step a))
    → (r >>= λ a. Ok (step a)) ≡ (((r >>= λ a. Ok (v a)) >>= λ x. Ok (x ∷ [])) >>= make)
one (Err k) v step make h = refl
one (Ok a) v step make h = sym (h a)

two : {A B : Type 0} (r : Result A FaultKind) (q : Result B FaultKind) (v : A → Value) (w : B → Value)
    (step : A → B → StepView) (make : List Value → Result StepView FaultKind)
    → ((a : A) (b : B) → make (v a ∷ w b ∷ []) ≡ Ok (step a b))
    → (r >>= λ a. q >>= λ b. Ok (step a b))
    ≡ (((r >>= λ a. Ok (v a)) >>= λ x. ((q >>= λ b. Ok (w b)) >>= λ y. Ok (y ∷ [])) >>= λ ys. Ok (x ∷ ys)) >>= make)
two (Err k) q v w step make h = refl
two (Ok a) (Err k) v w step make h = refl
two (Ok a) (Ok b) v w step make h = sym (h a b)

three : {A B C : Type 0} (r : Result A FaultKind) (q : Result B FaultKind) (s : Result C FaultKind) (v : A → Value)
    (w : B → Value) (u : C → Value) (step : A → B → C → StepView) (make : List Value → Result StepView FaultKind)
    → ((a : A) (b : B) (c : C) → make (v a ∷ w b ∷ u c ∷ []) ≡ Ok (step a b c))
    → (r >>= λ a. q >>= λ b. s >>= λ c. Ok (step a b c))
    ≡ (((r >>= λ a. Ok (v a))
    >>= λ x. ((q >>= λ b. Ok (w b)) >>= λ y. ((s >>= λ c. Ok (u c)) >>= λ z. Ok (z ∷ [])) >>= λ zs. Ok (y ∷ zs))
    >>= λ ys. Ok (x ∷ ys))
    >>= make)
three (Err k) q s v w u step make h = refl
three (Ok a) (Err k) s v w u step make h = refl
three (Ok a) (Ok b) (Err k) v w u step make h = refl
three (Ok a) (Ok b) (Ok c) v w u step make h = sym (h a b c)

pub malloc_by_form : (words : List (List ℕ)) → malloc_at words ≡ form_at malloc_form make_malloc words
unfolding malloc_at
malloc_by_form [] = refl
malloc_by_form (w0 ∷ []) = refl
malloc_by_form (w0 ∷ w1 ∷ []) = two (name_at w0) (size_at w1) NameOf NumberOf Malloc make_malloc (λ x0 x1. refl)
malloc_by_form (w0 ∷ w1 ∷ w2 ∷ ws) = refl

pub calloc_by_form : (words : List (List ℕ)) → calloc_at words ≡ form_at two_sizes_form make_calloc words
unfolding calloc_at
calloc_by_form [] = refl
calloc_by_form (w0 ∷ []) = refl
calloc_by_form (w0 ∷ w1 ∷ []) = refl
calloc_by_form (w0 ∷ w1 ∷ w2 ∷ []) =
    three (name_at w0) (size_at w1) (size_at w2) NameOf NumberOf NumberOf Calloc make_calloc (λ x0 x1 x2. refl)
calloc_by_form (w0 ∷ w1 ∷ w2 ∷ w3 ∷ ws) = refl

pub aligned_by_form : (words : List (List ℕ)) → aligned_at words ≡ form_at two_sizes_form make_aligned words
unfolding aligned_at
aligned_by_form [] = refl
aligned_by_form (w0 ∷ []) = refl
aligned_by_form (w0 ∷ w1 ∷ []) = refl
aligned_by_form (w0 ∷ w1 ∷ w2 ∷ []) =
    three (name_at w0) (size_at w1) (size_at w2) NameOf NumberOf NumberOf Aligned make_aligned (λ x0 x1 x2. refl)
aligned_by_form (w0 ∷ w1 ∷ w2 ∷ w3 ∷ ws) = refl

pub realloc_by_form : (words : List (List ℕ)) → realloc_at words ≡ form_at realloc_form make_realloc words
unfolding realloc_at
realloc_by_form [] = refl
realloc_by_form (w0 ∷ []) = refl
realloc_by_form (w0 ∷ w1 ∷ []) = refl
realloc_by_form (w0 ∷ w1 ∷ w2 ∷ []) =
    three (name_at w0) (place_at w1) (size_at w2) NameOf PlaceOf NumberOf Realloc make_realloc (λ x0 x1 x2. refl)
realloc_by_form (w0 ∷ w1 ∷ w2 ∷ w3 ∷ ws) = refl

pub free_by_form : (words : List (List ℕ)) → free_at words ≡ form_at free_form make_free words
unfolding free_at
free_by_form [] = refl
free_by_form (w0 ∷ []) = one (place_at w0) PlaceOf Free make_free (λ x0. refl)
free_by_form (w0 ∷ w1 ∷ ws) = refl

pub sfree_by_form : (words : List (List ℕ)) → sfree_at words ≡ form_at sfree_form make_sfree words
unfolding sfree_at
sfree_by_form [] = refl
sfree_by_form (w0 ∷ []) = refl
sfree_by_form (w0 ∷ w1 ∷ []) = two (place_at w0) (size_at w1) PlaceOf NumberOf Sfree make_sfree (λ x0 x1. refl)
sfree_by_form (w0 ∷ w1 ∷ w2 ∷ ws) = refl

pub write_by_form : (words : List (List ℕ)) → write_at words ≡ form_at write_form make_write words
unfolding write_at
write_by_form [] = refl
write_by_form (w0 ∷ []) = refl
write_by_form (w0 ∷ w1 ∷ []) = refl
write_by_form (w0 ∷ w1 ∷ w2 ∷ []) =
    three (place_at w0) (length_at w1) (byte_at w2) PlaceOf NumberOf ByteOf Write make_write (λ x0 x1 x2. refl)
write_by_form (w0 ∷ w1 ∷ w2 ∷ w3 ∷ ws) = refl

pub read_by_form : (words : List (List ℕ)) → read_at words ≡ form_at read_form make_read words
unfolding read_at
read_by_form [] = refl
read_by_form (w0 ∷ []) = refl
read_by_form (w0 ∷ w1 ∷ []) = two (place_at w0) (length_at w1) PlaceOf NumberOf Read make_read (λ x0 x1. refl)
read_by_form (w0 ∷ w1 ∷ w2 ∷ ws) = refl

pub size_step_by_form : (words : List (List ℕ)) → size_step_at words ≡ form_at size_form make_size words
unfolding size_step_at
size_step_by_form [] = refl
size_step_by_form (w0 ∷ []) = one (place_at w0) PlaceOf Size make_size (λ x0. refl)
size_step_by_form (w0 ∷ w1 ∷ ws) = refl
