-- How the reader goes through the words of a step.
use Rattle.std.specs.Prelude.{ℕ, ◌+◌, ◌*◌, ◌&&◌, ◌==◌, nat_le, List, [], ◌∷◌, take, drop, codes, Ok, Err, ℤ, pos, neg_ℤ, if◌then◌else◌}
use Rattle.std.specs.declared.result.Result.{Result}
use Rattle.hm_trace.specs.declared.fault.FaultKind.{FaultKind}
use Rattle.hm_trace.specs.declared.fault.FaultKind.TheVariants.{BadWord, BadName, BadNumber}
use Rattle.hm_trace.specs.Views.{PlaceView, Null, At, Named, StepView, Malloc, Calloc, Aligned, Realloc, Free, Sfree, Write, Read, Size}
use Rattle.hm_trace.specs.Gives.{◌>>=◌, or_fault}
use Rattle.hm_trace.specs.Limits.{max_length, max_offset}
use Rattle.hm_trace.specs.Names.{is_word, is_name}
use Rattle.hm_trace.specs.Lines.{sign_position}
use Rattle.hm_trace.specs.ReadNumbers.{number_at, hex_digit, hex_at}

-- a name
abbrev pub name_at : List ℕ → Result (List ℕ) FaultKind
name_at word = if is_name word then Ok word else Err BadName

-- a size, a count or an alignment
abbrev pub size_at : List ℕ → Result ℕ FaultKind
size_at word = or_fault BadNumber (number_at word)

-- a number from low to high
abbrev pub within : ℕ → ℕ → ℕ → Result ℕ FaultKind
within low high n = if nat_le low n && nat_le n high then Ok n else Err BadNumber

-- how many bytes are read or written
unfoldable pub length_at : List ℕ → Result ℕ FaultKind
length_at word = size_at word >>= λ n. within 1 max_length n

-- how far an offset goes
unfoldable pub distance_at : List ℕ → Result ℕ FaultKind
distance_at word = size_at word >>= λ n. within 1 max_offset n

-- two hexadecimal digits
unfoldable pub byte_at : List ℕ → Result ℕ FaultKind
byte_at (h ∷ l ∷ []) = do
  high ← or_fault BadNumber (hex_digit h)
  low ← or_fault BadNumber (hex_digit l)
  Ok (16 * high + low)
byte_at _ = Err BadNumber

-- what stands behind a name
unfoldable pub offset_at : List ℕ → Result ℤ FaultKind
offset_at [] = Ok (pos 0)
offset_at (c ∷ digits) = do
  n ← distance_at digits
  Ok (if c == 43 then pos n else neg_ℤ (pos n))

-- a name, and what stands behind it from the first sign on
unfoldable pub named_at : List ℕ → Result PlaceView FaultKind
named_at word = do
  name ← name_at (take (sign_position word) word)
  offset ← offset_at (drop (sign_position word) word)
  Ok (Named name offset)

-- `@` and an address, `null`, or a name with what stands behind it
unfoldable pub place_at : List ℕ → Result PlaceView FaultKind
place_at [] = Err BadName
place_at (c ∷ cs) = if c == 64 then (or_fault BadNumber (hex_at cs) >>= λ a. Ok (At a))
    else (if is_word (c ∷ cs) (codes "null") then Ok Null else named_at (c ∷ cs))

-- `malloc` NAME NUMBER
unfoldable pub malloc_at : List (List ℕ) → Result StepView FaultKind
malloc_at (w0 ∷ w1 ∷ []) = do
  name ← name_at w0
  size ← size_at w1
  Ok (Malloc name size)
malloc_at _ = Err BadWord

-- `calloc` NAME NUMBER NUMBER
unfoldable pub calloc_at : List (List ℕ) → Result StepView FaultKind
calloc_at (w0 ∷ w1 ∷ w2 ∷ []) = do
  name ← name_at w0
  count ← size_at w1
  size ← size_at w2
  Ok (Calloc name count size)
calloc_at _ = Err BadWord

-- `aligned` NAME NUMBER NUMBER
unfoldable pub aligned_at : List (List ℕ) → Result StepView FaultKind
aligned_at (w0 ∷ w1 ∷ w2 ∷ []) = do
  name ← name_at w0
  align ← size_at w1
  size ← size_at w2
  Ok (Aligned name align size)
aligned_at _ = Err BadWord

-- `realloc` NAME REF NUMBER
unfoldable pub realloc_at : List (List ℕ) → Result StepView FaultKind
realloc_at (w0 ∷ w1 ∷ w2 ∷ []) = do
  name ← name_at w0
  place ← place_at w1
  size ← size_at w2
  Ok (Realloc name place size)
realloc_at _ = Err BadWord

-- `free` REF
unfoldable pub free_at : List (List ℕ) → Result StepView FaultKind
free_at (w0 ∷ []) = do
  place ← place_at w0
  Ok (Free place)
free_at _ = Err BadWord

-- `sfree` REF NUMBER
unfoldable pub sfree_at : List (List ℕ) → Result StepView FaultKind
sfree_at (w0 ∷ w1 ∷ []) = do
  place ← place_at w0
  size ← size_at w1
  Ok (Sfree place size)
sfree_at _ = Err BadWord

-- `write` REF LEN BYTE
unfoldable pub write_at : List (List ℕ) → Result StepView FaultKind
write_at (w0 ∷ w1 ∷ w2 ∷ []) = do
  place ← place_at w0
  len ← length_at w1
  byte ← byte_at w2
  Ok (Write place len byte)
write_at _ = Err BadWord

-- `read` REF LEN
unfoldable pub read_at : List (List ℕ) → Result StepView FaultKind
read_at (w0 ∷ w1 ∷ []) = do
  place ← place_at w0
  len ← length_at w1
  Ok (Read place len)
read_at _ = Err BadWord

-- `size` REF
unfoldable pub size_step_at : List (List ℕ) → Result StepView FaultKind
size_step_at (w0 ∷ []) = do
  place ← place_at w0
  Ok (Size place)
size_step_at _ = Err BadWord

-- the step that words are
unfoldable pub step_at : List (List ℕ) → Result StepView FaultKind
step_at [] = Err BadWord
step_at (first ∷ rest) = if is_word first (codes "malloc") then malloc_at rest
    else (if is_word first (codes "calloc") then calloc_at rest
    else (if is_word first (codes "aligned") then aligned_at rest
    else (if is_word first (codes "realloc") then realloc_at rest
    else (if is_word first (codes "free") then free_at rest
    else (if is_word first (codes "sfree") then sfree_at rest
    else (if is_word first (codes "write") then write_at rest
    else (if is_word first (codes "read") then read_at rest
    else (if is_word first (codes "size") then size_step_at rest else (Err BadWord)))))))))
