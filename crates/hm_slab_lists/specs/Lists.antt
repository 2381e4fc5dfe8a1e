-- Four lists of slabs.
use Rattle.std.specs.Prelude.{◌≡◌, ℕ, Bool, false, ◌||◌, if◌then◌else◌, List, [], ◌∷◌, ◌++◌}
use Rattle.hm_base.specs.Members.{among, without}
use Rattle.hm_slab_lists.specs.declared.slab.ListName.{ListName}
use Rattle.hm_slab_lists.specs.declared.slab.ListName.TheVariants.{Partial, Empty, Full, Retired}

-- each list with its front first
pub record Lists : Type 0 where
  pub partial : List ℕ
  pub empty : List ℕ
  pub full : List ℕ
  pub retired : List ℕ

abbrev pub no_lists : Lists
no_lists = record { partial = []; empty = []; full = []; retired = [] }

abbrev pub list_in : Lists → ListName → List ℕ
list_in lists Partial = lists.partial
list_in lists Empty = lists.empty
list_in lists Full = lists.full
list_in lists Retired = lists.retired

abbrev pub with_list : Lists → ListName → List ℕ → Lists
with_list lists Partial list = record lists { partial = list }
with_list lists Empty list = record lists { empty = list }
with_list lists Full list = record lists { full = list }
with_list lists Retired list = record lists { retired = list }

-- slab n is in no list
abbrev pub gone : ℕ → Lists → Lists
gone n lists = record {
  partial = without n lists.partial;
  empty = without n lists.empty;
  full = without n lists.full;
  retired = without n lists.retired;
}

-- slab n heads a list, or ends it
abbrev pub headed : ListName → ℕ → Lists → Lists
headed list n lists = with_list lists list (n ∷ list_in lists list)

abbrev pub ended : ListName → ℕ → Lists → Lists
ended list n lists = with_list lists list (list_in lists list ++ n ∷ [])

-- slab n goes to the front of a list; where it stands in that list, it stays in place
abbrev pub placed : ListName → ℕ → Lists → Lists
placed list n lists = if among n (list_in lists list) then lists else headed list n (gone n lists)

-- slab n is in the partial, the empty or the full list
abbrev pub is_open_in : ℕ → Lists → Bool
is_open_in n lists = among n lists.partial || (among n lists.empty || among n lists.full)

abbrev pub IsLoose : ℕ → Lists → Type 0
IsLoose n lists = (list : ListName) → among n (list_in lists list) ≡ false
