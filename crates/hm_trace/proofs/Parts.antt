-- The words of a step as values of the parts of its form, so that each law is said once for a part.
use Rattle.std.proofs.Common.{ℕ, cond, List, [], ◌∷◌, Result, Ok, Err}
use Rattle.std.specs.Fmt.{decimal}
use Rattle.hm_trace.specs.declared.fault.FaultKind.{FaultKind}
use Rattle.hm_trace.specs.declared.fault.FaultKind.TheVariants.{BadNumber, BadWord}
use Rattle.hm_trace.specs.Gives.{◌>>=◌}
use Rattle.hm_trace.specs.Lines.{BytePart, LengthPart, NamePart, Part, RefPart, SizePart, ThreadPart, as_many}
use Rattle.hm_trace.specs.ReadWords.{byte_at, length_at, name_at, place_at, size_at}
use Rattle.hm_base.specs.Bytes.{byte_word}
use Rattle.hm_trace.specs.Spelling.{place_word}
use Rattle.hm_trace.specs.Views.{Aligned, Calloc, Free, Malloc, PlaceView, Read, Realloc, Sfree, Size, StepView, Write}

-- what a word means
pub data Value : Type 0 where
  NameOf : (name : List ℕ) → Value
  PlaceOf : (place : PlaceView) → Value
  NumberOf : (number : ℕ) → Value
  ByteOf : (byte : ℕ) → Value

abbrev pub value_word : Value → List ℕ
value_word (NameOf name) = name
value_word (PlaceOf place) = place_word place
value_word (NumberOf number) = decimal number
value_word (ByteOf byte) = byte_word byte

abbrev pub value_at : Part → List ℕ → Result Value FaultKind
value_at ThreadPart word = Err BadNumber
value_at NamePart word = name_at word >>= λ n. Ok (NameOf n)
value_at RefPart word = place_at word >>= λ p. Ok (PlaceOf p)
value_at SizePart word = size_at word >>= λ n. Ok (NumberOf n)
value_at LengthPart word = length_at word >>= λ n. Ok (NumberOf n)
value_at BytePart word = byte_at word >>= λ b. Ok (ByteOf b)

abbrev pub values_at : List Part → List (List ℕ) → Result (List Value) FaultKind
values_at (part ∷ parts) (word ∷ words) = value_at part word >>= λ v. values_at parts words >>= λ vs. Ok (v ∷ vs)
values_at _ _ = Ok []

-- the words of a step with these parts
abbrev pub form_at : List Part → (List Value → Result StepView FaultKind) → List (List ℕ) → Result StepView FaultKind
form_at parts make words = cond (as_many words parts) (values_at parts words >>= make) (Err BadWord)

abbrev pub malloc_form : List Part
malloc_form = NamePart ∷ SizePart ∷ []

abbrev pub make_malloc : List Value → Result StepView FaultKind
make_malloc (NameOf x0 ∷ NumberOf x1 ∷ []) = Ok (Malloc x0 x1)
make_malloc _ = Err BadWord

-- of calloc and of aligned
abbrev pub two_sizes_form : List Part
two_sizes_form = NamePart ∷ SizePart ∷ SizePart ∷ []

abbrev pub make_calloc : List Value → Result StepView FaultKind
make_calloc (NameOf x0 ∷ NumberOf x1 ∷ NumberOf x2 ∷ []) = Ok (Calloc x0 x1 x2)
make_calloc _ = Err BadWord

abbrev pub make_aligned : List Value → Result StepView FaultKind
make_aligned (NameOf x0 ∷ NumberOf x1 ∷ NumberOf x2 ∷ []) = Ok (Aligned x0 x1 x2)
make_aligned _ = Err BadWord

abbrev pub realloc_form : List Part
realloc_form = NamePart ∷ RefPart ∷ SizePart ∷ []

abbrev pub make_realloc : List Value → Result StepView FaultKind
make_realloc (NameOf x0 ∷ PlaceOf x1 ∷ NumberOf x2 ∷ []) = Ok (Realloc x0 x1 x2)
make_realloc _ = Err BadWord

abbrev pub free_form : List Part
free_form = RefPart ∷ []

abbrev pub make_free : List Value → Result StepView FaultKind
make_free (PlaceOf x0 ∷ []) = Ok (Free x0)
make_free _ = Err BadWord

abbrev pub sfree_form : List Part
sfree_form = RefPart ∷ SizePart ∷ []

abbrev pub make_sfree : List Value → Result StepView FaultKind
make_sfree (PlaceOf x0 ∷ NumberOf x1 ∷ []) = Ok (Sfree x0 x1)
make_sfree _ = Err BadWord

abbrev pub write_form : List Part
write_form = RefPart ∷ LengthPart ∷ BytePart ∷ []

abbrev pub make_write : List Value → Result StepView FaultKind
make_write (PlaceOf x0 ∷ NumberOf x1 ∷ ByteOf x2 ∷ []) = Ok (Write x0 x1 x2)
make_write _ = Err BadWord

abbrev pub read_form : List Part
read_form = RefPart ∷ LengthPart ∷ []

abbrev pub make_read : List Value → Result StepView FaultKind
make_read (PlaceOf x0 ∷ NumberOf x1 ∷ []) = Ok (Read x0 x1)
make_read _ = Err BadWord

abbrev pub size_form : List Part
size_form = RefPart ∷ []

abbrev pub make_size : List Value → Result StepView FaultKind
make_size (PlaceOf x0 ∷ []) = Ok (Size x0)
make_size _ = Err BadWord
