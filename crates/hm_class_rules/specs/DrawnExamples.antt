-- Short histories whose choices are drawn, and some whose choices are not. The words were computed by another program.
use Rattle.std.specs.Prelude.{ℕ, false, List, [], ◌∷◌, ◌++◌, Some, None}
use Rattle.hm_model.specs.declared.entry.Entry.{Entry}
use Rattle.hm_model.specs.declared.entry.Call.TheVariants.{Allot, GiveBack, Fetch, Fill}
use Rattle.hm_model.specs.declared.entry.Reply.TheVariants.{Given, DoubleFree, Bytes, Filled}
use Rattle.hm_sizes.specs.declared.shape.Shape.{Shape}
use Rattle.hm_sizes.specs.Configs.{standard, light}
use Rattle.hm_model.specs.Calls.{no_choices}
use Rattle.hm_class_rules.specs.Rules.{Terms}
use Rattle.hm_class_rules.specs.Examples.{basic, region, entry, given, freed, opens, opens_bare, frees, retires, seven}

-- an entry with the one word that its call drew
abbrev pub drawing : ℕ → Entry → Entry
drawing word e = record e { draws = record { used = 1; w0 = word; w1 = 0; w2 = 0 } }

-- an entry with the two words that its call drew
abbrev pub drawing_two : ℕ → ℕ → Entry → Entry
drawing_two first second e = record e { draws = record { used = 2; w0 = first; w1 = second; w2 = 0 } }

-- ---- the region of class 7 in arena 0 of the run of seed 0, as it is
abbrev pub first_region : Terms
first_region = region (record seven.shape { first = 1592101122048; limit = 8388608; array = 2048; ring = 2048 })

-- a block at this address of a slab with this canary, its free, and a second free of it
abbrev pub given_and_freed : ℕ → ℕ → List Entry
given_and_freed addr canary =
    record (entry (Allot 100 1) (Given addr 104) (opens 0 canary)) {
      draws = record { used = 3; w0 = 3231088256; w1 = 3392945114; w2 = 2935142444 };
    }
    ∷ drawing 2409532924 (freed addr no_choices)
    ∷ entry (GiveBack addr None) DoubleFree no_choices ∷ []

abbrev pub first_entries : List Entry
first_entries = given_and_freed 1592101124736 14572588304984079872

-- the canary is zero; the first available slot is taken
abbrev pub canary_zero : List Entry
canary_zero = given_and_freed 1592101124736 0

abbrev pub first_slot : List Entry
first_slot = given_and_freed 1592101122048 14572588304984079872

-- ---- the same region in the light configuration
abbrev pub light_region : Terms
light_region = record first_region {
  config = light;
  shape = record first_region.shape { guard_interval = 8; array = 0; ring = 0 };
}

-- the words of the canary alone are drawn; a slot leaves at its own free, and is given again with what was written
-- to it since
abbrev pub light_entries : List Entry
light_entries =
    record (entry (Allot 100 1) (Given 1592101122048 104) (opens 0 14572588304984079872)) {
      draws = record { used = 2; w0 = 3231088256; w1 = 3392945114; w2 = 0 };
    }
    ∷ freed 1592101122048 (frees 1592101122048)
    ∷ entry (Fill 1592101122048 ((65, 4) ∷ [])) Filled no_choices
    ∷ entry (Allot 100 1) (Given 1592101122048 104) no_choices
    ∷ entry (Fetch 1592101122048 5) (Bytes ((65, 4) ∷ (0, 1) ∷ [])) no_choices
    ∷ freed 1592101122048 (frees 1592101122048)
    ∷ entry (GiveBack 1592101122048 None) DoubleFree no_choices ∷ []

-- ---- small regions of the run of seed 0, in arena 1
-- what their shapes have in common
abbrev pub placed : Shape
placed = record basic { first = 1099511631872; limit = 64 }

-- slabs of two slots, without a quarantine
abbrev pub paired : Terms
paired = region (record placed { slot = 2048; slots = 2 })

-- two full slabs, of each of which a slot is freed: slab 2 becomes partial last
abbrev pub two_partial : List Entry
two_partial =
    drawing 3984891895 (given 1099511633920 (opens_bare 0))
    ∷ drawing 1817180948 (given 1099511631872 no_choices)
    ∷ drawing 3288131916 (given 1099511642112 (opens_bare 2))
    ∷ drawing 1478575786 (given 1099511640064 no_choices)
    ∷ freed 1099511631872 (frees 1099511631872)
    ∷ freed 1099511640064 (frees 1099511640064) ∷ []

-- the next slot is of slab 2, and then one of slab 0
abbrev pub latest_source : List Entry
latest_source =
    two_partial ++ (drawing 3439717172 (given 1099511640064 no_choices)
    ∷ drawing 1461073139 (given 1099511631872 no_choices) ∷ [])

-- the next slot is of slab 0
abbrev pub earlier_source : List Entry
earlier_source = two_partial ++ (drawing 3439717172 (given 1099511631872 no_choices) ∷ [])

-- the same where no start slot is drawn: the first available slot is given, and no word is taken
abbrev pub undrawn : Terms
undrawn = record paired { config = record standard { random_slots = false } }

abbrev pub first_slots : List Entry
first_slots = given 1099511631872 (opens_bare 0) ∷ given 1099511633920 no_choices ∷ []

-- an array of two cells and a ring of one
abbrev pub waiting_room : Terms
waiting_room = region (record placed { slot = 1024; slots = 4; array = 2; ring = 1 })

-- four slots are given and three freed: the first has left the array and stands in the ring
abbrev pub three_freed : List Entry
three_freed =
    drawing 3984891895 (given 1099511634944 (opens_bare 0))
    ∷ drawing 1817180948 (given 1099511632896 no_choices)
    ∷ drawing 3288131916 (given 1099511631872 no_choices)
    ∷ drawing 1478575786 (given 1099511633920 no_choices)
    ∷ drawing 3439717172 (freed 1099511634944 no_choices)
    ∷ drawing 1461073139 (freed 1099511632896 no_choices)
    ∷ drawing 2219061067 (freed 1099511631872 no_choices) ∷ []

-- the fourth free pushes the second out of the array, and so the first out of the ring
abbrev pub oldest_released : List Entry
oldest_released = three_freed ++ (drawing 1062052300 (freed 1099511633920 (frees 1099511634944)) ∷ [])

-- the second is released
abbrev pub newest_released : List Entry
newest_released = three_freed ++ (drawing 1062052300 (freed 1099511633920 (frees 1099511632896)) ∷ [])

-- slabs of one slot and 131,072 bytes of address space, and two parking indices
abbrev pub parked : Terms
parked = record (region (record placed { slot = 131072; slots = 1; slab = 131072 })) {
  config = record standard { park_length = 2 };
}

-- slabs 2 and 4 are retired, to indices 0 and 1
abbrev pub two_parked : List Entry
two_parked =
    drawing 3984891895 (given 1099511631872 (opens_bare 0))
    ∷ drawing 1817180948 (given 1099511894016 (opens_bare 2))
    ∷ drawing 3288131916 (given 1099512156160 (opens_bare 4))
    ∷ freed 1099511631872 (frees 1099511631872)
    ∷ drawing 1478575786 (freed 1099511894016 (retires 1099511894016 2 None))
    ∷ drawing 3439717172 (freed 1099512156160 (retires 1099512156160 4 None))
    ∷ drawing 1461073139 (given 1099511631872 no_choices)
    ∷ drawing 2219061067 (given 1099512418304 (opens_bare 6))
    ∷ freed 1099512418304 (frees 1099512418304) ∷ []

-- slab 0 is retired to index 0, so slab 2 is unparked, and opened again where no slab is empty
abbrev pub same_index : List Entry
same_index =
    two_parked ++ (drawing 1062052300 (freed 1099511631872 (retires 1099511631872 0 (Some 2)))
    ∷ drawing 2002963574 (given 1099512418304 no_choices)
    ∷ drawing 2051640178 (given 1099511894016 (opens_bare 2)) ∷ [])

-- slab 4 is unparked
abbrev pub other_index : List Entry
other_index =
    two_parked ++ (drawing 1062052300 (freed 1099511631872 (retires 1099511631872 0 (Some 4))) ∷ [])

-- the same with an array of one cell, in the run of seed 1
abbrev pub parked_later : Terms
parked_later = record parked { shape = record parked.shape { array = 1 } }

-- each free releases the slot that was freed before; slab 2 is retired to index 0
abbrev pub one_parked : List Entry
one_parked =
    drawing 1893466666 (given 1099511631872 (opens_bare 0))
    ∷ drawing 529267310 (given 1099511894016 (opens_bare 2))
    ∷ drawing 835709197 (given 1099512156160 (opens_bare 4))
    ∷ drawing 3859748015 (freed 1099511631872 no_choices)
    ∷ drawing 702802673 (freed 1099511894016 (frees 1099511631872))
    ∷ drawing_two 723767130 743693610 (freed 1099512156160 (retires 1099511894016 2 None))
    ∷ drawing 778881616 (given 1099511631872 no_choices)
    ∷ drawing 3929870888 (given 1099512418304 (opens_bare 6))
    ∷ drawing 2809795606 (freed 1099511631872 (frees 1099512156160)) ∷ []

-- slab 0 is retired to the index that the second word draws, so slab 2 is unparked
abbrev pub second_word : List Entry
second_word =
    one_parked ++ (drawing_two 3409952611 1247292640 (freed 1099512418304 (retires 1099511631872 0 (Some 2))) ∷ [])

-- no slab is unparked
abbrev pub nothing_unparked : List Entry
nothing_unparked =
    one_parked ++ (drawing_two 3409952611 1247292640 (freed 1099512418304 (retires 1099511631872 0 None)) ∷ [])
