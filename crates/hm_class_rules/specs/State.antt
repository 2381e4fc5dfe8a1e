-- The state of a class region after some entries, its places, and which of them are available.
use Rattle.std.specs.Prelude.{ℕ, nat_lt, Bool, not, ◌||◌, ◌&&◌, if◌then◌else◌, List, [], ◌∷◌, Option, Some, None}
use Rattle.std.specs.List.{list_any, list_all, range_with_len, filter}
use Rattle.hm_model.specs.Maps.{among, has, keys}
use Rattle.hm_sizes.specs.declared.shape.Shape.{Shape}
use Rattle.hm_sizes.specs.Shapes.{place}

-- an open slab
pub record Slab : Type 0 where
  pub bytes : List ℕ
  pub canary : ℕ

-- lists are newest first, but for `shut`, whose first member is the next to be opened
pub record State : Type 0 where
  -- live addresses with the sizes that were asked for
  pub live : List (ℕ × ℕ)
  -- addresses in quarantine, those that are never given again, all that were ever given, all accepted frees
  pub quarantined : List ℕ
  pub condemned : List ℕ
  pub given : List ℕ
  pub frees : List ℕ
  -- open slabs by number; retired slabs in the parking array, and outside it; the next fresh number
  pub opens : List (ℕ × Slab)
  pub parked : List ℕ
  pub shut : List ℕ
  pub next : ℕ
  -- the count of page faults
  pub faults : ℕ

abbrev pub start : State
start = record {
  live = [];
  quarantined = [];
  condemned = [];
  given = [];
  frees = [];
  opens = [];
  parked = [];
  shut = [];
  next = 0;
  faults = 0;
}

-- ---- available places
abbrev pub is_open : State → ℕ → Bool
is_open s n = has n s.opens

abbrev pub is_live : State → ℕ → Bool
is_live s a = has a s.live

abbrev pub is_taken : State → ℕ → Bool
is_taken s a = is_live s a || (among a s.quarantined || among a s.condemned)

abbrev pub is_free : Shape → State → ℕ → ℕ → Bool
is_free p s n i = is_open s n && not (is_taken s (place p n i))

abbrev pub has_free : Shape → State → ℕ → Bool
has_free p s n = list_any (is_free p s n) (range_with_len 0 p.slots)

abbrev pub is_empty : Shape → State → ℕ → Bool
is_empty p s n = list_all (is_free p s n) (range_with_len 0 p.slots)

abbrev pub is_partial : Shape → State → ℕ → Bool
is_partial p s n = has_free p s n && not (is_empty p s n)

abbrev pub empty_slabs : Shape → State → List ℕ
empty_slabs p s = filter (is_empty p s) (keys s.opens)

-- ---- where the next slot comes from
abbrev pub none_partial : Shape → State → Bool
none_partial p s = not (list_any (is_partial p s) (keys s.opens))

abbrev pub none_empty : Shape → State → Bool
none_empty p s = not (list_any (is_empty p s) (keys s.opens))

-- the slab that is opened where no open one serves: the first that is shut, or a fresh one, whose number is below the
-- limit
abbrev pub unopened_below : ℕ → List ℕ → ℕ → Option ℕ
unopened_below limit [] next = if nat_lt next limit then Some next else None
unopened_below limit (m ∷ ms) next = Some m

abbrev pub unopened : Shape → List ℕ → ℕ → Option ℕ
unopened p = unopened_below p.limit
