use Rattle.std.proofs.Common.{◌≡◌, ◌-◌, ◌||◌, ℕ, List, take, length, ◌++◌, sym, ◌∙◌, ap, rules}
use Rattle.hm_model.specs.Maps.{among}
use Rattle.hm_class_book.proofs.Queues.{among_first}
use Rattle.hm_class_book.proofs.book.is_among_first.Goals as goal

pub returns : goal.returns
returns c =
    let n = c.args.number in
    let len = c.args.len in
    let front = c.as_slices.result.0.now in
    let back = c.as_slices.result.1.now in
    let parts : (among n (take len front) || among n (take (len - length front) back)) ≡ among n (take len c.args.numbers.now.items) = sym (among_first n len front back)
    ∙ ap (λ (xs : List ℕ). among n (take len xs)) c.as_slices.ensures.items in
    search rules ∙ parts
