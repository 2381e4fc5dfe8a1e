-- Beginnings of a history.
use Rattle.std.specs.Prelude.{◌≡◌, List, ◌++◌, cond, length}
use lib.Dec.{ltb}
use Rattle.hm_model.specs.declared.entry.Entry.{Entry}

-- the history goes on from what was seen
abbrev pub StartsWith : List Entry → List Entry → Type 0
StartsWith history seen = (more : List Entry) × (history ≡ seen ++ more)

-- the longer of two beginnings of one history
abbrev pub longer : List Entry → List Entry → List Entry
longer a b = cond (ltb (length a) (length b)) b a
