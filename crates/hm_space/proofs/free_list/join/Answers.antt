use Rattle.std.proofs.Common.{◌≡◌, ◌+◌, ◌-◌, ◌<◌, ℕ, suc, length, slice_get, Some, List, set, drop, sym, ap, subst, ◌∙◌, arith}
use Rattle.std.specs.List.{remove}
use Rattle.std.proofs.lemmas.Option.{slice_get_within}
use Rattle.hm_space.specs.declared.free_range.FreeRange.{FreeRange}
use Rattle.hm_space.specs.Ranges.{AreApart, Gives}
use Rattle.hm_space.proofs.Joins.{IsLower, IsUpper, is_lower, is_upper, no_lower, no_upper, joins_both, joins_lower, joins_upper, joins_none}
use Rattle.hm_space.proofs.Indices.{grown, range_at, set_is, remove_is, begun_within, behind_at, rest_at}
use Rattle.hm_space.proofs.free_list.join.Goals as goal

-- the index of the lower one, counted from the index of the new one
pred : (n : ℕ) → 0 < n → suc (n - 1) ≡ n
pred n some = omega arith

both :
    (rs new : List FreeRange) (index at len : ℕ) (l u : FreeRange) → AreApart 0 rs → IsLower rs index at l → IsUpper rs index (at + len) u
    → new ≡ remove (set rs (index - 1) record { start = l.start; len = l.len + len + u.len }) index → Gives rs new at len
both rs new index at len l u apart low high is =
    let e = pred index low.some in
    let next : slice_get rs (suc (index - 1)) ≡ Some u = ap (λ (k : ℕ). slice_get rs k) e ∙ high.here in
    let v : FreeRange = record { start = l.start; len = l.len + len + u.len } in
    subst (λ (x : List FreeRange). Gives rs x at len)
    (sym (is ∙ ap (λ (k : ℕ). remove (set rs (index - 1) v) k) (sym e) ∙ remove_is rs (index - 1) v (slice_get_within rs (suc (index - 1)) u next)))
    (joins_both rs (index - 1) at len l u apart low.here next low.ends high.starts)

pub ending_at-lower-requires-clause-index : goal.ending_at-lower-requires-clause-index
ending_at-lower-requires-clause-index c = omega (arith, begun_within c.args.ranges.now.items c.args.at, c.requires.index, ap length c.deref.ensures.value)

pub overflow_add-lower-in-Some-Some : goal.overflow_add-lower-in-Some-Some
overflow_add-lower-in-Some-Some c =
    let rs = c.args.ranges.now.items in
    let low = is_lower rs c.deref.result.now c.args.index c.args.at c.ending_at-lower.result c.in-Some-Some.lower c.deref.ensures.value c.in-Some-Some.is-0 c.ending_at-lower.ensures.some in
    let high = is_upper rs c.deref-2.result.now c.args.index (c.args.at + c.args.len) c.starting_at-upper.result c.in-Some-Some.upper c.deref-2.ensures.value c.in-Some-Some.is-1 c.starting_at-upper.ensures.some in
    omega (arith, low.ends, high.starts, (range_at 0 rs c.args.index _ c.requires.apart high.here).below)

pub index_mut-requires : goal.index_mut-requires
index_mut-requires c =
    let rs = c.args.ranges.now.items in
    let low = is_lower rs c.deref.result.now c.args.index c.args.at c.ending_at-lower.result c.in-Some-Some.lower c.deref.ensures.value c.in-Some-Some.is-0 c.ending_at-lower.ensures.some in
    omega (arith, slice_get_within rs (c.args.index - 1) _ low.here, c.args.ranges.now.ok.0)

pub remove-upper-requires : goal.remove-upper-requires
remove-upper-requires c =
    let rs = c.args.ranges.now.items in
    let high = is_upper rs c.deref-2.result.now c.args.index (c.args.at + c.args.len) c.starting_at-upper.result c.in-Some-Some.upper c.deref-2.ensures.value c.in-Some-Some.is-1 c.starting_at-upper.ensures.some in
    omega (arith, slice_get_within rs c.args.index _ high.here, c.args.ranges.now.ok.0)

pub index_mut-requires-in-Some-None : goal.index_mut-requires-in-Some-None
index_mut-requires-in-Some-None c =
    let rs = c.args.ranges.now.items in
    let low = is_lower rs c.deref.result.now c.args.index c.args.at c.ending_at-lower.result c.in-Some-None.lower c.deref.ensures.value c.in-Some-None.is-0 c.ending_at-lower.ensures.some in
    omega (arith, slice_get_within rs (c.args.index - 1) _ low.here, c.args.ranges.now.ok.0)

pub overflow_add-len : goal.overflow_add-len
overflow_add-len c =
    let rs = c.args.ranges.now.items in
    let high = is_upper rs c.deref-2.result.now c.args.index (c.args.at + c.args.len) c.starting_at-upper.result c.in-None-Some.upper c.deref-2.ensures.value c.in-None-Some.is-1 c.starting_at-upper.ensures.some in
    omega (arith, high.starts, (range_at 0 rs c.args.index _ c.requires.apart high.here).below)

pub index_mut-requires-in-None-Some : goal.index_mut-requires-in-None-Some
index_mut-requires-in-None-Some c =
    let rs = c.args.ranges.now.items in
    let high = is_upper rs c.deref-2.result.now c.args.index (c.args.at + c.args.len) c.starting_at-upper.result c.in-None-Some.upper c.deref-2.ensures.value c.in-None-Some.is-1 c.starting_at-upper.ensures.some in
    omega (arith, slice_get_within rs c.args.index _ high.here, c.args.ranges.now.ok.0)

pub insert-requires : goal.insert-requires
insert-requires c = omega (arith, begun_within c.args.ranges.now.items c.args.at, c.requires.index, c.args.ranges.now.ok.0)

pub returns-in-Some-Some-clause-given : goal.returns-in-Some-Some-clause-given
returns-in-Some-Some-clause-given c =
    let rs = c.args.ranges.now.items in
    let low = is_lower rs c.deref.result.now c.args.index c.args.at c.ending_at-lower.result c.in-Some-Some.lower c.deref.ensures.value c.in-Some-Some.is-0 c.ending_at-lower.ensures.some in
    let high = is_upper rs c.deref-2.result.now c.args.index (c.args.at + c.args.len) c.starting_at-upper.result c.in-Some-Some.upper c.deref-2.ensures.value c.in-Some-Some.is-1 c.starting_at-upper.ensures.some in
    both rs _ c.args.index c.args.at c.args.len c.in-Some-Some.lower c.in-Some-Some.upper c.requires.apart low high c.remove-upper.ensures.items

pub returns-in-Some-None-clause-given : goal.returns-in-Some-None-clause-given
returns-in-Some-None-clause-given c =
    let rs = c.args.ranges.now.items in
    let i = c.args.index - 1 in
    let low = is_lower rs c.deref.result.now c.args.index c.args.at c.ending_at-lower.result c.in-Some-None.lower c.deref.ensures.value c.in-Some-None.is-0 c.ending_at-lower.ensures.some in
    let none = no_upper rs c.deref-2.result.now c.args.index (c.args.at + c.args.len) c.starting_at-upper.result c.deref-2.ensures.value c.in-Some-None.is-1 c.starting_at-upper.ensures.none in
    let past = rest_at rs c.args.index c.args.at c.args.len c.requires.apart (record { none = c.requires.alone }) c.requires.index none in
    subst (λ (x : List FreeRange). Gives rs x c.args.at c.args.len) (sym (set_is rs i _ (slice_get_within rs i _ low.here)))
    (joins_lower rs i c.args.at c.args.len c.in-Some-None.lower c.requires.apart low.here low.ends c.requires.below (subst (λ (k : ℕ). AreApart (c.args.at + c.args.len + 1) (drop k rs)) (sym (pred c.args.index low.some)) past))

pub returns-in-None-Some-clause-given : goal.returns-in-None-Some-clause-given
returns-in-None-Some-clause-given c =
    let rs = c.args.ranges.now.items in
    let none = no_lower rs c.deref.result.now c.args.index c.args.at c.ending_at-lower.result c.deref.ensures.value c.in-None-Some.is-0 c.ending_at-lower.ensures.none in
    let high = is_upper rs c.deref-2.result.now c.args.index (c.args.at + c.args.len) c.starting_at-upper.result c.in-None-Some.upper c.deref-2.ensures.value c.in-None-Some.is-1 c.starting_at-upper.ensures.some in
    let before = behind_at rs c.args.index c.args.at c.args.len c.requires.apart (record { none = c.requires.alone }) c.requires.some (omega (arith, c.requires.index)) none in
    subst (λ (x : List FreeRange). Gives rs x c.args.at c.args.len) (sym (set_is rs c.args.index _ (slice_get_within rs c.args.index _ high.here)))
    (joins_upper rs c.args.index c.args.at c.args.len c.in-None-Some.upper c.requires.apart high.here high.starts c.requires.some before)

pub returns-in-None-None-clause-given : goal.returns-in-None-None-clause-given
returns-in-None-None-clause-given c =
    let rs = c.args.ranges.now.items in
    let no_low = no_lower rs c.deref.result.now c.args.index c.args.at c.ending_at-lower.result c.deref.ensures.value c.in-None-None.is-0 c.ending_at-lower.ensures.none in
    let no_high = no_upper rs c.deref-2.result.now c.args.index (c.args.at + c.args.len) c.starting_at-upper.result c.deref-2.ensures.value c.in-None-None.is-1 c.starting_at-upper.ensures.none in
    let before = behind_at rs c.args.index c.args.at c.args.len c.requires.apart (record { none = c.requires.alone }) c.requires.some (omega (arith, c.requires.index)) no_low in
    let past = rest_at rs c.args.index c.args.at c.args.len c.requires.apart (record { none = c.requires.alone }) c.requires.index no_high in
    subst (λ (x : List FreeRange). Gives rs x c.args.at c.args.len) (sym (grown c.insert.result c.unwrap.result _ _ _ c.unwrap.ensures c.insert.ensures.items))
    (joins_none rs c.args.index c.args.at c.args.len c.requires.apart c.requires.some c.requires.below before past)
