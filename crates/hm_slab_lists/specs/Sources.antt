-- Where the next slot comes from.
use Rattle.std.specs.Prelude.{ℕ, nat_lt, if◌then◌else◌, List, [], ◌∷◌}
use Rattle.hm_slab_lists.specs.declared.slab_lists.Place.{Place}
use Rattle.hm_slab_lists.specs.declared.slab_lists.Place.TheVariants as place
use Rattle.hm_slab_lists.specs.Table.{Table}

-- a fresh slab, where its number is below the limit
abbrev pub fresh_or_none : ℕ → ℕ → Place
fresh_or_none limit next = if nat_lt next limit then place.Fresh next else place.Exhausted

-- the first partial slab; else the first empty one; else the first retired one; else a fresh one
abbrev pub first_of : List ℕ → List ℕ → List ℕ → Place → Place
first_of [] [] [] other = other
first_of [] [] (n ∷ retired) other = place.Retired n
first_of [] (n ∷ empty) retired other = place.Empty n
first_of (n ∷ partial) empty retired other = place.Partial n

abbrev pub source_of : Table → Place
source_of t = first_of t.lists.partial t.lists.empty t.lists.retired (fresh_or_none t.limit t.next)
