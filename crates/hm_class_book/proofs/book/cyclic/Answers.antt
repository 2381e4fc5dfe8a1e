use Rattle.std.proofs.Common.{◌≡◌, ◌-◌, ℕ, List, Bool, get_or, not, true, find, sym, ◌∙◌, ap, arith}
use Rattle.std.specs.List.{range_with_len}
use Rattle.hm_class_book.proofs.Lookups.{find_on, find_past, find_below}
use Rattle.hm_class_book.proofs.book.cyclic.Goals as goal

pub returns-in-Some-clause-value : goal.returns-in-Some-clause-value
returns-in-Some-clause-value c =
    sym (find_on (λ (i : ℕ). not (get_or c.args.marks.now i true)) (range_with_len c.args.from (c.args.to - c.args.from)) (range_with_len 0 c.args.from) c.in-Some.index (sym c.in-Some.ensures))

pub returns-in-Some-clause-below : goal.returns-in-Some-clause-below
returns-in-Some-clause-below c = find_below (λ (i : ℕ). not (get_or c.args.marks.now i true)) c.args.from (c.args.to - c.args.from) c.args.to _ c.in-Some.ensures (omega arith)

pub returns-in-None-clause-value : goal.returns-in-None-clause-value
returns-in-None-clause-value c =
    let f : ℕ → Bool = λ (i : ℕ). not (get_or c.args.marks.now i true) in
    c.first_unmarked-in-None.ensures
    ∙ ap (λ (n : ℕ). find f (range_with_len 0 n)) (omega arith)
    ∙ sym (find_past f (range_with_len c.args.from (c.args.to - c.args.from)) (range_with_len 0 c.args.from) (sym c.in-None.ensures))

pub returns-in-None-clause-below : goal.returns-in-None-clause-below
returns-in-None-clause-below c = find_below (λ (i : ℕ). not (get_or c.args.marks.now i true)) 0 (c.args.from - 0) c.args.to _ c.first_unmarked-in-None.ensures (omega arith)
