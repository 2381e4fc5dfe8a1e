-- Which values a part may have, as facts, and that they are what the grammar says.
use Rattle.std.proofs.Common.{◌≡◌, ℕ, suc, ◌≤◌, ◌<◌, ◌^◌, true, ◌&&◌, leb, List, [], ◌∷◌, ℤ, pos, negsuc, refl, arith}
use Rattle.std.proofs.lemmas.Bool.{leb-true, le-leb, and_parts, and_from}
use Rattle.hm_trace.specs.Lines.{BytePart, LengthPart, NamePart, Part, RefPart, SizePart}
use Rattle.hm_trace.specs.Names.{is_name}
use Rattle.hm_trace.specs.Traces.{is_length, is_offset, is_place, is_step, is_u64}
use Rattle.hm_trace.specs.Views.{Aligned, At, Calloc, Free, Malloc, Named, Null, PlaceView, Read, Realloc, Sfree, Size, StepView, Write}
use Rattle.hm_trace.proofs.Parts.{ByteOf, NameOf, NumberOf, PlaceOf, Value, free_form, malloc_form, read_form, realloc_form, sfree_form, size_form, two_sizes_form, write_form}

abbrev pub FitsOffset : ℤ → Type 0
FitsOffset (pos n) = n ≤ 1099511627776
FitsOffset (negsuc n) = suc n ≤ 1099511627776

abbrev pub FitsPlace : PlaceView → Type 0
FitsPlace Null = Unit {0}
FitsPlace (At address) = address < 2 ^ 64
FitsPlace (Named name offset) = (is_name name ≡ true) × FitsOffset offset

abbrev pub FitsLength : ℕ → Type 0
FitsLength n = (1 ≤ n) × (n ≤ 1048576)

abbrev pub FitsValue : Part → Value → Type 0
FitsValue NamePart (NameOf name) = is_name name ≡ true
FitsValue RefPart (PlaceOf place) = FitsPlace place
FitsValue SizePart (NumberOf n) = n < 2 ^ 64
FitsValue LengthPart (NumberOf n) = FitsLength n
FitsValue BytePart (ByteOf b) = b < 256
FitsValue _ _ = ⊥

abbrev pub FitValues : List Part → List Value → Type 0
FitValues [] [] = Unit {0}
FitValues (part ∷ parts) (v ∷ vs) = FitsValue part v × FitValues parts vs
FitValues _ _ = ⊥

abbrev pub FitsStep : StepView → Type 0
FitsStep (Malloc x0 x1) = FitValues malloc_form (NameOf x0 ∷ NumberOf x1 ∷ [])
FitsStep (Calloc x0 x1 x2) = FitValues two_sizes_form (NameOf x0 ∷ NumberOf x1 ∷ NumberOf x2 ∷ [])
FitsStep (Aligned x0 x1 x2) = FitValues two_sizes_form (NameOf x0 ∷ NumberOf x1 ∷ NumberOf x2 ∷ [])
FitsStep (Realloc x0 x1 x2) = FitValues realloc_form (NameOf x0 ∷ PlaceOf x1 ∷ NumberOf x2 ∷ [])
FitsStep (Free x0) = FitValues free_form (PlaceOf x0 ∷ [])
FitsStep (Sfree x0 x1) = FitValues sfree_form (PlaceOf x0 ∷ NumberOf x1 ∷ [])
FitsStep (Write x0 x1 x2) = FitValues write_form (PlaceOf x0 ∷ NumberOf x1 ∷ ByteOf x2 ∷ [])
FitsStep (Read x0 x1) = FitValues read_form (PlaceOf x0 ∷ NumberOf x1 ∷ [])
FitsStep (Size x0) = FitValues size_form (PlaceOf x0 ∷ [])

-- ---- from the test to the fact

u64_fits : (n : ℕ) → is_u64 n ≡ true → n < 2 ^ 64
u64_fits n h = omega (arith, leb-true _ _ h)

byte_fits : (n : ℕ) → leb n 255 ≡ true → n < 256
byte_fits n h = omega (arith, leb-true _ _ h)

length_fits : (n : ℕ) → is_length n ≡ true → FitsLength n
length_fits n h = let b = and_parts (leb 1 n) (leb n 1048576) h in (leb-true _ _ b.0, leb-true _ _ b.1)

offset_fits : (z : ℤ) → is_offset z ≡ true → FitsOffset z
offset_fits (pos n) h = leb-true _ _ h
offset_fits (negsuc n) h = leb-true _ _ h

place_fits : (p : PlaceView) → is_place p ≡ true → FitsPlace p
place_fits Null h = tt
place_fits (At address) h = u64_fits address h
place_fits (Named name offset) h =
    let b = and_parts (is_name name) (is_offset offset) h in
    (b.0, offset_fits offset b.1)

pub step_fits : (s : StepView) → is_step s ≡ true → FitsStep s
step_fits (Malloc x0 x1) h = let a = and_parts (is_name x0) (is_u64 x1) h in (a.0, (u64_fits x1 a.1, tt))
step_fits (Calloc x0 x1 x2) h =
    let a = and_parts (is_name x0 && is_u64 x1) (is_u64 x2) h in
    let b = and_parts (is_name x0) (is_u64 x1) a.0 in
    (b.0, (u64_fits x1 b.1, (u64_fits x2 a.1, tt)))
step_fits (Aligned x0 x1 x2) h =
    let a = and_parts (is_name x0 && is_u64 x1) (is_u64 x2) h in
    let b = and_parts (is_name x0) (is_u64 x1) a.0 in
    (b.0, (u64_fits x1 b.1, (u64_fits x2 a.1, tt)))
step_fits (Realloc x0 x1 x2) h =
    let a = and_parts (is_name x0 && is_place x1) (is_u64 x2) h in
    let b = and_parts (is_name x0) (is_place x1) a.0 in
    (b.0, (place_fits x1 b.1, (u64_fits x2 a.1, tt)))
step_fits (Free x0) h = (place_fits x0 h, tt)
step_fits (Sfree x0 x1) h = let a = and_parts (is_place x0) (is_u64 x1) h in (place_fits x0 a.0, (u64_fits x1 a.1, tt))
step_fits (Write x0 x1 x2) h =
    let a = and_parts (is_place x0 && is_length x1) (leb x2 255) h in
    let b = and_parts (is_place x0) (is_length x1) a.0 in
    (place_fits x0 b.0, (length_fits x1 b.1, (byte_fits x2 a.1, tt)))
step_fits (Read x0 x1) h =
    let a = and_parts (is_place x0) (is_length x1) h in
    (place_fits x0 a.0, (length_fits x1 a.1, tt))
step_fits (Size x0) h = (place_fits x0 h, tt)

-- ---- and back

fits_u64 : (n : ℕ) → n < 2 ^ 64 → is_u64 n ≡ true
fits_u64 n h = le-leb _ _ (omega arith)

fits_byte : (n : ℕ) → n < 256 → leb n 255 ≡ true
fits_byte n h = le-leb _ _ (omega arith)

fits_length : (n : ℕ) → FitsLength n → is_length n ≡ true
fits_length n h = and_from _ _ (le-leb _ _ h.0) (le-leb _ _ h.1)

fits_offset : (z : ℤ) → FitsOffset z → is_offset z ≡ true
fits_offset (pos n) h = le-leb _ _ h
fits_offset (negsuc n) h = le-leb _ _ h

fits_place : (p : PlaceView) → FitsPlace p → is_place p ≡ true
fits_place Null h = refl
fits_place (At address) h = fits_u64 address h
fits_place (Named name offset) h = and_from _ _ h.0 (fits_offset offset h.1)

pub fits_step : (s : StepView) → FitsStep s → is_step s ≡ true
fits_step (Malloc x0 x1) h = and_from _ _ h.0 (fits_u64 x1 h.1.0)
fits_step (Calloc x0 x1 x2) h = and_from _ _ (and_from _ _ h.0 (fits_u64 x1 h.1.0)) (fits_u64 x2 h.1.1.0)
fits_step (Aligned x0 x1 x2) h = and_from _ _ (and_from _ _ h.0 (fits_u64 x1 h.1.0)) (fits_u64 x2 h.1.1.0)
fits_step (Realloc x0 x1 x2) h = and_from _ _ (and_from _ _ h.0 (fits_place x1 h.1.0)) (fits_u64 x2 h.1.1.0)
fits_step (Free x0) h = fits_place x0 h.0
fits_step (Sfree x0 x1) h = and_from _ _ (fits_place x0 h.0) (fits_u64 x1 h.1.0)
fits_step (Write x0 x1 x2) h =
    and_from _ _ (and_from _ _ (fits_place x0 h.0) (fits_length x1 h.1.0)) (fits_byte x2 h.1.1.0)
fits_step (Read x0 x1) h = and_from _ _ (fits_place x0 h.0) (fits_length x1 h.1.0)
fits_step (Size x0) h = fits_place x0 h.0
