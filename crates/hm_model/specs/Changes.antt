-- The changes of sizes that entries make, and what a list of changes makes of the map of sizes.
use Rattle.std.specs.Prelude.{ℕ, List, [], ◌∷◌, ◌++◌, fold, Option}
use Rattle.std.specs.List.{sum_by}
use Rattle.std.specs.Ordering.{nat_cmp}
use Rattle.std.specs.BTreeMap.{insert_entry, is_at}
use Rattle.std.specs.Map.{lookup, remove_entry, values_of}
use Rattle.hm_model.specs.declared.change.SizeChange.{SizeChange}
use Rattle.hm_model.specs.declared.change.SizeChange.TheVariants.{Put, Gone}
use Rattle.hm_model.specs.declared.entry.Call.{Call}
use Rattle.hm_model.specs.declared.entry.Call.TheVariants.{GiveBack}
use Rattle.hm_model.specs.declared.entry.Entry.{Entry}
use Rattle.hm_model.specs.declared.entry.Reply.{Reply}
use Rattle.hm_model.specs.declared.entry.Reply.TheVariants.{Given, Freed}

-- a block is given with its usable size, or that at the address is given back
abbrev pub change : Call → Reply → List SizeChange
change call (Given a usable) = Put a usable ∷ []
change (GiveBack a stated) Freed = Gone a ∷ []
change call reply = []

abbrev pub changes_of : List Entry → List SizeChange
changes_of [] = []
changes_of (e ∷ es) = change e.call e.reply ++ changes_of es

-- the map, addresses ascending, after one change
abbrev pub changed : List (ℕ × ℕ) → SizeChange → List (ℕ × ℕ)
changed es (Put addr size) = insert_entry nat_cmp es addr size
changed es (Gone addr) = remove_entry (is_at (nat_cmp addr)) es

-- the map that starts empty, after the changes in order
abbrev pub sizes : List SizeChange → List (ℕ × ℕ)
sizes changes = fold changed [] changes

-- the size at an address
abbrev pub size_at : List (ℕ × ℕ) → ℕ → Option ℕ
size_at es addr = lookup (is_at (nat_cmp addr)) es

-- the sum of the sizes
abbrev pub total_of : List (ℕ × ℕ) → ℕ
total_of es = sum_by (λ n. n) (values_of es)
