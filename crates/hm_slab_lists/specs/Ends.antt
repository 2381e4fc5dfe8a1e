-- The ends of lists.
use Rattle.std.specs.Prelude.{ℕ, ◌+◌, ◌-◌, ◌==◌, if◌then◌else◌, Option, Some, None}
use Rattle.hm_slab_lists.specs.declared.ends.Ends.{Ends}
use Rattle.hm_slab_lists.specs.declared.ends.AllEnds.{AllEnds}
use Rattle.hm_slab_lists.specs.declared.slab.Link.{Link}
use Rattle.hm_slab_lists.specs.declared.slab.ListName.{ListName}
use Rattle.hm_slab_lists.specs.declared.slab.ListName.TheVariants.{Partial, Empty, Full, Retired}

-- a slab, or another one where it is `gone`
abbrev pub skipped : ℕ → Option ℕ → Option ℕ → Option ℕ
skipped gone instead None = None
skipped gone instead (Some at) = if at == gone then instead else Some at

abbrev pub or_else : Option ℕ → ℕ → Option ℕ
or_else None at = Some at
or_else (Some first) at = Some first

abbrev pub no_ends : Ends
no_ends = record { first = None; last = None; count = 0 }

-- the ends without a slab, with it before the first, and with it behind the last
abbrev pub shorter : ℕ → Link → Ends → Ends
shorter at link ends = record {
  first = skipped at link.next ends.first;
  last = skipped at link.previous ends.last;
  count = ends.count - 1;
}

abbrev pub longer_front : ℕ → Ends → Ends
longer_front at ends = record { first = Some at; last = or_else ends.last at; count = ends.count + 1 }

abbrev pub longer_back : ℕ → Ends → Ends
longer_back at ends = record { first = or_else ends.first at; last = Some at; count = ends.count + 1 }

-- the ends of one list
abbrev pub ends_in : AllEnds → ListName → Ends
ends_in all Partial = all.partial
ends_in all Empty = all.empty
ends_in all Full = all.full
ends_in all Retired = all.retired

abbrev pub with_ends : AllEnds → ListName → Ends → AllEnds
with_ends all Partial ends = record all { partial = ends }
with_ends all Empty ends = record all { empty = ends }
with_ends all Full ends = record all { full = ends }
with_ends all Retired ends = record all { retired = ends }
