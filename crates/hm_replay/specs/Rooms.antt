-- Rooms for names, and which of them are set.
use Rattle.std.specs.Prelude.{◌≡◌, ◌<◌, ℕ, List, [], ◌∷◌, length, slice_index_or, Option, Some, None, IfSome, IsSome, Vec, ⊤}
use Rattle.std.specs.declared.alloc.Global.{Global}
use Rattle.hm_trace.specs.declared.names.Name.{Name}
use Rattle.hm_trace.specs.Views.{name_view}
use Rattle.hm_replay.specs.declared.left.NameLeft.{NameLeft}
use Rattle.hm_replay.specs.Names.{GivenInReach, held}

-- the names that are set, each with its address
abbrev pub set_also : Name → Option ℕ → List (Name × ℕ) → List (Name × ℕ)
set_also name None entries = entries
set_also name (Some a) entries = (name, a) ∷ entries

abbrev pub set_in : List (Name × Option ℕ) → List (Name × ℕ)
set_in [] = []
set_in (e ∷ rooms) = set_also e.0 e.1 (set_in rooms)

-- each name has one room
abbrev pub Once : List (Name × Option ℕ) → Type 0
Once [] = ⊤
Once (e ∷ rooms) = (held rooms (name_view e.0) ≡ None) × Once rooms

pub record AreRooms (rooms : List (Name × Option ℕ)) : Type 0 where
  pub once : Once rooms
  pub reach : GivenInReach rooms

-- each name still has at most one room, all addresses are still in reach, and a name that had room still has it
pub record KeepsRooms (before after : List (Name × Option ℕ)) : Type 0 where
  pub rooms : AreRooms before → AreRooms after
  pub others : (q : List ℕ) → IsSome (held before q) → IsSome (held after q)

-- the names that a script has set or unset, and the one that it set last
pub record AreOwn (own : List (Name × Option ℕ)) (last : Option NameLeft) : Type 0 where
  pub rooms : AreRooms own
  pub last_is : IfSome last (λ n. held own (name_view n.name) ≡ Some n.address)

-- each of these names has room
pub record HaveRooms (rooms : List (Name × Option ℕ)) (left : List NameLeft) : Type 0 where
  pub each : (i : ℕ) (n : NameLeft) → i < length left → IsSome (held rooms (name_view (slice_index_or left i n).name))

-- and each of those of all lists
pub record HaveAllRooms (rooms : List (Name × Option ℕ)) (lists : List (Vec NameLeft Global)) : Type 0 where
  pub each : (i : ℕ) (left : Vec NameLeft Global) → i < length lists
      → HaveRooms rooms (slice_index_or lists i left).items
