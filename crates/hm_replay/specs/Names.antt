-- Names, and the addresses that they hold.
use Rattle.std.specs.Prelude.{◌≡◌, ℕ, Bool, true, false, ◌||◌, if◌then◌else◌, List, [], ◌∷◌, Option, None, is_some, IfSome, Vec}
use Rattle.std.specs.List.{list_any}
use Rattle.std.specs.Map.{lookup}
use Rattle.std.specs.Option.{option_map_or}
use Rattle.std.specs.declared.alloc.Global.{Global}
use Rattle.hm_trace.specs.declared.names.Name.{Name}
use Rattle.hm_trace.specs.Names.{is_word}
use Rattle.hm_trace.specs.Traces.{sets_name}
use Rattle.hm_trace.specs.Views.{name_view, StepView}
use Rattle.hm_heap.specs.Requests.{IsInReach}
use Rattle.hm_replay.specs.declared.left.NameLeft.{NameLeft}

-- what each name holds: an address, or nothing
abbrev pub Names : Type 0
Names = List ℕ → Option ℕ

-- no name is set
abbrev pub no_names : Names
no_names name = None

-- a name is set to an address, or unset
abbrev pub with_name : Names → List ℕ → Option ℕ → Names
with_name names name given other = if is_word name other then given else names other

-- each name that one of the steps sets holds what it holds in these last names
abbrev pub settled : Names → List StepView → Names → Names
settled names steps last name = if list_any (sets_name name) steps then last name else names name

-- ---- which names were set or unset
abbrev pub Touched : Type 0
Touched = List ℕ → Bool

abbrev pub no_name : Touched
no_name name = false

abbrev pub any_name : Touched
any_name name = true

-- this name too
abbrev pub touched_too : Touched → List ℕ → Touched
touched_too touched name other = touched other || is_word name other

-- that of a step too, where it sets one
abbrev pub touched_by : Touched → StepView → Touched
touched_by touched step name = touched name || sets_name name step

-- those of all steps too
abbrev pub touched_all : Touched → List StepView → Touched
touched_all touched steps name = touched name || list_any (sets_name name) steps

-- ---- names as they are kept
-- what is kept for each name
abbrev pub held : {X : Type 0} → List (Name × X) → List ℕ → Option X
held entries name = lookup (λ key. is_word name (name_view key)) entries

-- ---- the names as one script of a round sees them
-- those of the round, and what the script has set or unset
abbrev pub ScopeView : Type 0
ScopeView = List (Name × ℕ) × List (Name × Option ℕ)

-- what the script has set or unset stands over any names
abbrev pub with_own : Names → ScopeView → Names
with_own names s name = option_map_or (λ given. given) (held s.1 name) (names name)

abbrev pub seen_in : ScopeView → Names
seen_in s = with_own (held s.0) s

abbrev pub own_names : ScopeView → Touched
own_names s name = is_some (held s.1 name)

-- blocks lie there
abbrev pub GivenInReach : List (Name × Option ℕ) → Type 0
GivenInReach entries = (name : List ℕ) → IfSome (held entries name) (λ given. IfSome given IsInReach)

-- ---- the names that a script leaves
-- each of these names in turn is set to its address, or unset
abbrev pub with_all : Names → List NameLeft → Names
with_all names [] = names
with_all names (n ∷ left) = with_all (with_name names (name_view n.name) n.address) left

-- those of each list in turn
abbrev pub with_lists : Names → List (Vec NameLeft Global) → Names
with_lists names [] = names
with_lists names (left ∷ lists) = with_lists (with_all names left.items) lists

-- among any names, these make each name that one of the steps sets hold what it holds in the last ones
pub record AreLeft (steps : List StepView) (last : Names) (left : List NameLeft) : Type 0 where
  pub settle : (names : Names) → with_all names left ≡ settled names steps last
