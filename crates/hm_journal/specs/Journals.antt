-- The lines of a journal, and its text.
use Rattle.std.specs.Prelude.{ℕ, List, [], ◌∷◌, ◌++◌, map, length, codes}
use Rattle.std.specs.List.{flat_map}
use Rattle.std.specs.Fmt.{decimal}
use Rattle.hm_sizes.specs.declared.config.Config.{Config}
use Rattle.hm_heap.specs.declared.close.History.{History}
use Rattle.hm_heap.specs.Origins.{bit}
use Rattle.hm_journal.specs.Words.{lines_text}
use Rattle.hm_journal.specs.Entries.{entry_words}

-- `config` and the nine fields
abbrev pub config_words : Config → List (List ℕ)
config_words c =
    codes "config" ∷ decimal c.arenas ∷ decimal c.class_region ∷ decimal c.large_space ∷ decimal c.guard_interval
    ∷ decimal c.array_base ∷ decimal c.ring_base ∷ decimal c.park_length
    ∷ decimal (bit c.check_reuse) ∷ decimal (bit c.random_slots) ∷ []

-- `region R FIRST COUNT`
abbrev pub region_words : History → List (List ℕ)
region_words h =
    codes "region" ∷ decimal h.region.0 ∷ decimal h.first ∷ decimal (length h.entries) ∷ []

-- `closed FAULTS`
abbrev pub closed_words : History → List (List ℕ)
closed_words h = codes "closed" ∷ decimal h.faults ∷ []

-- a region's line, a line for each entry, and how it was closed
abbrev pub history_lines : History → List (List (List ℕ))
history_lines h = region_words h ∷ map entry_words h.entries ++ closed_words h ∷ []

-- the lines of all regions
abbrev pub histories_lines : List History → List (List (List ℕ))
histories_lines histories = flat_map history_lines histories

-- the header `hmjournal 1`, the configuration, `seed N`, the lines of the regions, and `end`
abbrev pub journal_lines : Config → ℕ → List History → List (List (List ℕ))
journal_lines config seed histories =
    (codes "hmjournal" ∷ codes "1" ∷ []) ∷ config_words config ∷ (codes "seed" ∷ decimal seed ∷ [])
    ∷ histories_lines histories ++ (codes "end" ∷ []) ∷ []

-- the text of a journal
abbrev pub journal_text : Config → ℕ → List History → List ℕ
journal_text config seed histories = lines_text (journal_lines config seed histories)
