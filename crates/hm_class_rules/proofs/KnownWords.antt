-- The choices of the short histories.
use Rattle.std.proofs.Common.{◌≡◌, ⊎_elim, [], Some, None, refl, arith, lit<, lit≤}
use Rattle.rand_core.specs.Steps.{u32_at}
use Rattle.rand_chacha.specs.Block.{block_word, double_rounds, diagonal_round, quarter_round, column_round}
use lib.Count.{count_leading_zeros}
use Rattle.hm_model.specs.Machine.{Legal}
use Rattle.hm_sizes.specs.Shapes.{IsShape}
use Rattle.hm_class_rules.specs.Rules.{IsLegal}
use Rattle.hm_class_rules.specs.Drawn.{IsDrawn, AreDrawn}
use Rattle.hm_class_rules.specs.Stepped.{first_cells, next, IsSteppedEntry}
use Rattle.hm_class_rules.specs.DrawnExamples.{first_region, first_entries, canary_zero, first_slot, light_region, light_entries, paired, latest_source, earlier_source, undrawn, first_slots, waiting_room, oldest_released, parked, same_index, parked_later, second_word}
use Rattle.hm_class_rules.proofs.Alike.{stepped_drawn}
use Rattle.std.proofs.lemmas.Option.{same_Some}

some_none : {A : Type 0} (x : A) → Some x ≡ None → ⊥
some_none x e = cc

pub first_drawn : IsDrawn 0 0 first_region first_entries
unfolding u32_at block_word double_rounds diagonal_round quarter_round column_round count_leading_zeros
first_drawn = record {
  shape = refl;
  words = refl;
  choices = (
    record { words = refl; choices = record { picked = record { canary = refl; place = refl }; source = λ none. absurd (some_none 0 none) } },
    (record { words = refl; choices = record { released = refl; unparked = refl } }, (record { words = refl; choices = tt }, tt)),
  );
}

pub zero_not_drawn : IsDrawn 0 0 first_region canary_zero → ⊥
zero_not_drawn h = omega (arith, h.choices.0.choices.picked.canary)

pub slot_not_drawn : IsDrawn 0 0 first_region first_slot → ⊥
slot_not_drawn h = omega (arith, same_Some _ _ h.choices.0.choices.picked.place)

light_shape : IsShape light_region.shape
light_shape = record { class_below = lit< tt; slots_some = lit≤ tt; slots_most = lit≤ tt; slot_least = lit≤ tt; slots_fit = lit≤ tt; slab_pages = refl; slab_most = lit≤ tt; first_pages = refl; first_least = lit≤ tt; space = lit≤ tt; limit_most = lit≤ tt; guards_some = lit≤ tt; guards_most = lit≤ tt }

light_steps : Legal (next light_region) (IsSteppedEntry light_region) (first_cells 0 0 light_region) light_entries
unfolding u32_at block_word double_rounds diagonal_round quarter_round column_round count_leading_zeros
light_steps = (
  record { count = refl; words = refl; choices = record { picked = record { canary = refl; place = refl }; source = λ none. absurd (some_none 0 none) } },
  (
    record { count = refl; words = refl; choices = record { released = refl; unparked = refl } },
    (
      record { count = refl; words = refl; choices = tt },
      (
        record { count = refl; words = refl; choices = record { picked = record { canary = tt; place = refl }; source = λ none. refl } },
        (
          record { count = refl; words = refl; choices = tt },
          (
            record { count = refl; words = refl; choices = record { released = refl; unparked = refl } },
            (record { count = refl; words = refl; choices = tt }, tt),
          ),
        ),
      ),
    ),
  ),
)

pub light_drawn : IsLegal light_region light_entries → IsDrawn 0 0 light_region light_entries
unfolding u32_at block_word double_rounds diagonal_round quarter_round column_round count_leading_zeros
light_drawn legal = record {
  shape = refl;
  words = refl;
  choices = stepped_drawn 0 0 light_region light_entries (lit≤ tt) light_shape legal light_steps;
}

paired_shape : IsShape paired.shape
paired_shape = record { class_below = lit< tt; slots_some = lit≤ tt; slots_most = lit≤ tt; slot_least = lit≤ tt; slots_fit = lit≤ tt; slab_pages = refl; slab_most = lit≤ tt; first_pages = refl; first_least = lit≤ tt; space = lit≤ tt; limit_most = lit≤ tt; guards_some = lit≤ tt; guards_most = lit≤ tt }

latest_source_steps : Legal (next paired) (IsSteppedEntry paired) (first_cells 0 1 paired) latest_source
unfolding u32_at block_word double_rounds diagonal_round quarter_round column_round
latest_source_steps = (record { count = refl; words = refl; choices = record { picked = record { canary = tt; place = refl }; source = λ none. absurd (some_none 0 none) } }, (record { count = refl; words = refl; choices = record { picked = record { canary = tt; place = refl }; source = λ none. refl } }, (record { count = refl; words = refl; choices = record { picked = record { canary = tt; place = refl }; source = λ none. absurd (some_none 2 none) } }, (record { count = refl; words = refl; choices = record { picked = record { canary = tt; place = refl }; source = λ none. refl } }, (record { count = refl; words = refl; choices = record { released = refl; unparked = refl } }, (record { count = refl; words = refl; choices = record { released = refl; unparked = refl } }, (record { count = refl; words = refl; choices = record { picked = record { canary = tt; place = refl }; source = λ none. refl } }, (record { count = refl; words = refl; choices = record { picked = record { canary = tt; place = refl }; source = λ none. refl } }, tt))))))))

pub latest_source_drawn : IsLegal paired latest_source → AreDrawn paired [] latest_source
latest_source_drawn legal = stepped_drawn 0 1 paired latest_source (lit≤ tt) paired_shape legal latest_source_steps

waiting_room_shape : IsShape waiting_room.shape
waiting_room_shape = record { class_below = lit< tt; slots_some = lit≤ tt; slots_most = lit≤ tt; slot_least = lit≤ tt; slots_fit = lit≤ tt; slab_pages = refl; slab_most = lit≤ tt; first_pages = refl; first_least = lit≤ tt; space = lit≤ tt; limit_most = lit≤ tt; guards_some = lit≤ tt; guards_most = lit≤ tt }

oldest_released_steps : Legal (next waiting_room) (IsSteppedEntry waiting_room) (first_cells 0 1 waiting_room) oldest_released
unfolding u32_at block_word double_rounds diagonal_round quarter_round column_round
oldest_released_steps = (record { count = refl; words = refl; choices = record { picked = record { canary = tt; place = refl }; source = λ none. absurd (some_none 0 none) } }, (record { count = refl; words = refl; choices = record { picked = record { canary = tt; place = refl }; source = λ none. refl } }, (record { count = refl; words = refl; choices = record { picked = record { canary = tt; place = refl }; source = λ none. refl } }, (record { count = refl; words = refl; choices = record { picked = record { canary = tt; place = refl }; source = λ none. refl } }, (record { count = refl; words = refl; choices = record { released = refl; unparked = refl } }, (record { count = refl; words = refl; choices = record { released = refl; unparked = refl } }, (record { count = refl; words = refl; choices = record { released = refl; unparked = refl } }, (record { count = refl; words = refl; choices = record { released = refl; unparked = refl } }, tt))))))))

pub oldest_released_drawn : IsLegal waiting_room oldest_released → AreDrawn waiting_room [] oldest_released
oldest_released_drawn legal = stepped_drawn 0 1 waiting_room oldest_released (lit≤ tt) waiting_room_shape legal oldest_released_steps

parked_shape : IsShape parked.shape
parked_shape = record { class_below = lit< tt; slots_some = lit≤ tt; slots_most = lit≤ tt; slot_least = lit≤ tt; slots_fit = lit≤ tt; slab_pages = refl; slab_most = lit≤ tt; first_pages = refl; first_least = lit≤ tt; space = lit≤ tt; limit_most = lit≤ tt; guards_some = lit≤ tt; guards_most = lit≤ tt }

same_index_steps : Legal (next parked) (IsSteppedEntry parked) (first_cells 0 1 parked) same_index
unfolding u32_at block_word double_rounds diagonal_round quarter_round column_round
same_index_steps = (record { count = refl; words = refl; choices = record { picked = record { canary = tt; place = refl }; source = λ none. absurd (some_none 0 none) } }, (record { count = refl; words = refl; choices = record { picked = record { canary = tt; place = refl }; source = λ none. absurd (some_none 2 none) } }, (record { count = refl; words = refl; choices = record { picked = record { canary = tt; place = refl }; source = λ none. absurd (some_none 4 none) } }, (record { count = refl; words = refl; choices = record { released = refl; unparked = refl } }, (record { count = refl; words = refl; choices = record { released = refl; unparked = refl } }, (record { count = refl; words = refl; choices = record { released = refl; unparked = refl } }, (record { count = refl; words = refl; choices = record { picked = record { canary = tt; place = refl }; source = λ none. refl } }, (record { count = refl; words = refl; choices = record { picked = record { canary = tt; place = refl }; source = λ none. absurd (some_none 6 none) } }, (record { count = refl; words = refl; choices = record { released = refl; unparked = refl } }, (record { count = refl; words = refl; choices = record { released = refl; unparked = refl } }, (record { count = refl; words = refl; choices = record { picked = record { canary = tt; place = refl }; source = λ none. refl } }, (record { count = refl; words = refl; choices = record { picked = record { canary = tt; place = refl }; source = λ none. absurd (some_none 2 none) } }, tt))))))))))))

pub same_index_drawn : IsLegal parked same_index → AreDrawn parked [] same_index
same_index_drawn legal = stepped_drawn 0 1 parked same_index (lit≤ tt) parked_shape legal same_index_steps

parked_later_shape : IsShape parked_later.shape
parked_later_shape = record { class_below = lit< tt; slots_some = lit≤ tt; slots_most = lit≤ tt; slot_least = lit≤ tt; slots_fit = lit≤ tt; slab_pages = refl; slab_most = lit≤ tt; first_pages = refl; first_least = lit≤ tt; space = lit≤ tt; limit_most = lit≤ tt; guards_some = lit≤ tt; guards_most = lit≤ tt }

second_word_steps : Legal (next parked_later) (IsSteppedEntry parked_later) (first_cells 1 1 parked_later) second_word
unfolding u32_at block_word double_rounds diagonal_round quarter_round column_round
second_word_steps = (record { count = refl; words = refl; choices = record { picked = record { canary = tt; place = refl }; source = λ none. absurd (some_none 0 none) } }, (record { count = refl; words = refl; choices = record { picked = record { canary = tt; place = refl }; source = λ none. absurd (some_none 2 none) } }, (record { count = refl; words = refl; choices = record { picked = record { canary = tt; place = refl }; source = λ none. absurd (some_none 4 none) } }, (record { count = refl; words = refl; choices = record { released = refl; unparked = refl } }, (record { count = refl; words = refl; choices = record { released = refl; unparked = refl } }, (record { count = refl; words = refl; choices = record { released = refl; unparked = refl } }, (record { count = refl; words = refl; choices = record { picked = record { canary = tt; place = refl }; source = λ none. refl } }, (record { count = refl; words = refl; choices = record { picked = record { canary = tt; place = refl }; source = λ none. absurd (some_none 6 none) } }, (record { count = refl; words = refl; choices = record { released = refl; unparked = refl } }, (record { count = refl; words = refl; choices = record { released = refl; unparked = refl } }, tt))))))))))

pub second_word_drawn : IsLegal parked_later second_word → AreDrawn parked_later [] second_word
second_word_drawn legal = stepped_drawn 1 1 parked_later second_word (lit≤ tt) parked_later_shape legal second_word_steps

undrawn_shape : IsShape undrawn.shape
undrawn_shape = paired_shape

first_slots_steps : Legal (next undrawn) (IsSteppedEntry undrawn) (first_cells 0 1 undrawn) first_slots
first_slots_steps = (
  record { count = refl; words = refl; choices = record { picked = record { canary = tt; place = refl }; source = λ none. absurd (some_none 0 none) } },
  (record { count = refl; words = refl; choices = record { picked = record { canary = tt; place = refl }; source = λ none. refl } }, tt),
)

pub first_slots_drawn : IsLegal undrawn first_slots → AreDrawn undrawn [] first_slots
first_slots_drawn legal = stepped_drawn 0 1 undrawn first_slots (lit≤ tt) undrawn_shape legal first_slots_steps

-- slab 2 became partial after slab 0
pub earlier_not_drawn : AreDrawn paired [] earlier_source → ⊥
earlier_not_drawn h = ⊎_elim (λ last. omega (arith, last.last 2 refl)) (λ none. none.0 0 refl) (h.1.1.1.1.1.1.0.choices.source refl)
