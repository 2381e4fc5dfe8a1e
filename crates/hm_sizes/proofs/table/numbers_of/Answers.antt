use Rattle.std.proofs.Common.{ℕ, ◌∙◌, ap}
use Rattle.hm_sizes.proofs.ClassTable.{row, is_row}
use Rattle.hm_sizes.proofs.table.numbers_of.Goals as goal

pub returns-clause-slot : goal.returns-clause-slot
returns-clause-slot c = ap (λ (k : ℕ). (row k).slot) c.from.ensures ∙ (is_row c.args.class.0 c.requires).slot

pub returns-clause-slots : goal.returns-clause-slots
returns-clause-slots c = ap (λ (k : ℕ). (row k).slots) c.from.ensures ∙ (is_row c.args.class.0 c.requires).slots

pub returns-clause-slab : goal.returns-clause-slab
returns-clause-slab c = ap (λ (k : ℕ). (row k).slab) c.from.ensures ∙ (is_row c.args.class.0 c.requires).slab

pub returns-clause-length : goal.returns-clause-length
returns-clause-length c = ap (λ (k : ℕ). (row k).length) c.from.ensures ∙ (is_row c.args.class.0 c.requires).length
