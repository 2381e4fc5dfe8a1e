use Rattle.std.proofs.Common.{◌≡◌, ◌+◌, ◌-◌, ◌<◌, ◌≤◌, ℕ, suc, length, slice_get, Some, None, IsSomeAnd, Bool, true, false, cond, List, [], ◌∷◌, ◌++◌, slice_index_or, set, take, drop, refl, sym, ap, subst, ◌∙◌, arith, ◌==◌}
use Rattle.std.specs.List.{insert}
use Rattle.std.proofs.lemmas.Option.{slice_get_within, get_or_from_slice_get}
use Rattle.hm_space.specs.declared.free_range.FreeRange.{FreeRange}
use Rattle.hm_space.specs.Ranges.{end_of, IsRangeFrom, LiesIn, AreApart, Takes}
use Rattle.hm_space.proofs.Cuts.{cuts, left_of}
use Rattle.hm_space.proofs.Indices.{grown, range_at, split_one, set_is, insert_is}
use Rattle.hm_space.proofs.free_list.cut.Goals as goal

-- the range that is cut
record Cut (ranges : List FreeRange) (index at len : ℕ) (r : FreeRange) : Type 0 where
  here : slice_get ranges index ≡ Some r
  within : index < length ranges
  lies : LiesIn r at len
  is : IsRangeFrom 0 r
  -- what becomes of it
  takes : (new : List FreeRange) → new ≡ take index ranges ++ (left_of r at len ++ drop (suc index) ranges) → Takes ranges new at len

the_cut : (ranges : List FreeRange) (index at len : ℕ) (r : FreeRange) → AreApart 0 ranges → 1 ≤ len → IsSomeAnd (slice_get ranges index) (λ x. LiesIn x at len) → r ≡ slice_index_or ranges index r → Cut ranges index at len r
the_cut ranges index at len r apart some has read =
    elim (slice_get ranges index) as (λ o. slice_get ranges index ≡ o → IsSomeAnd o (λ x. LiesIn x at len) → Cut ranges index at len r) [
      | None ↦ λ e h. absurd h
      | Some x ↦ λ e h. (
          let same : x ≡ r = sym (get_or_from_slice_get ranges index x r e) ∙ sym read in
          let here : slice_get ranges index ≡ Some r = e ∙ ap (λ (y : FreeRange). Some y) same in
          let lies : LiesIn r at len = subst (λ (y : FreeRange). LiesIn y at len) same h in
          let split = split_one ranges index r here in record {
            here = here;
            within = slice_get_within ranges index r here;
            lies = lies;
            is = range_at 0 ranges index r apart here;
            takes = λ new e. subst (λ (l : List FreeRange). Takes l new at len) (sym split) (subst (λ (l : List FreeRange). Takes (take index ranges ++ r ∷ drop (suc index) ranges) l at len) (sym e)
                (cuts (take index ranges) r (drop (suc index) ranges) at len (subst (AreApart 0) split apart) lies some));
          })
    ] refl has

-- what is left of it, as the tests say

abbrev sides : FreeRange → ℕ → ℕ → ℕ → Bool → Bool → List FreeRange
sides r at len e b d = cond b [] (record { start = r.start; len = at - r.start } ∷ []) ++ cond d [] (record { start = at + len; len = e - (at + len) } ∷ [])

sides_are : (r : FreeRange) (at len e : ℕ) (b d : Bool) → e ≡ end_of r → b ≡ (at - r.start == 0) → d ≡ (e - (at + len) == 0) → sides r at len e b d ≡ left_of r at len
sides_are r at len e b d is p q =
    ap (λ (x : Bool). sides r at len e x d) p ∙ ap (λ (x : Bool). sides r at len e (at - r.start == 0) x) q ∙ ap (λ (x : ℕ). sides r at len x (at - r.start == 0) (x - (at + len) == 0)) is

takes_sides :
    (ranges : List FreeRange) (index at len : ℕ) (r : FreeRange) (e : ℕ) (b d : Bool) (new : List FreeRange) → Cut ranges index at len r → e ≡ end_of r → b ≡ (at - r.start == 0) → d ≡ (e - (at + len) == 0)
    → new ≡ take index ranges ++ (sides r at len e b d ++ drop (suc index) ranges) → Takes ranges new at len
takes_sides ranges index at len r e b d new cut is p q same =
    cut.takes new (same ∙ ap (λ (l : List FreeRange). take index ranges ++ (l ++ drop (suc index) ranges)) (sides_are r at len e b d is p q))

-- both sides are left: one is written over it, and the other is put in behind
inserted : (ranges new : List FreeRange) (index : ℕ) (v w : FreeRange) → index < length ranges → new ≡ insert (set ranges index v) (index + 1) w → new ≡ take index ranges ++ v ∷ w ∷ drop (suc index) ranges
inserted ranges new index v w within is = is ∙ ap (λ (k : ℕ). insert (set ranges index v) k w) (let e : index + 1 ≡ suc index = omega arith in e) ∙ insert_is ranges index v w within

pub overflow_add-right : goal.overflow_add-right
overflow_add-right c =
    let cut = the_cut c.args.ranges.now.items c.args.index c.args.at c.args.len c.index.result.now c.requires.apart c.requires.some c.requires.here c.index.ensures in
    omega (arith, cut.lies.to, cut.is.below)

pub end-requires : goal.end-requires
end-requires c = (the_cut c.args.ranges.now.items c.args.index c.args.at c.args.len c.index.result.now c.requires.apart c.requires.some c.requires.here c.index.ensures).is.below

pub overflow_add-right-2 : goal.overflow_add-right-2
overflow_add-right-2 c =
    let cut = the_cut c.args.ranges.now.items c.args.index c.args.at c.args.len c.index.result.now c.requires.apart c.requires.some c.requires.here c.index.ensures in
    omega (arith, cut.lies.to, cut.is.below)

pub overflow_sub-right : goal.overflow_sub-right
overflow_sub-right c =
    let cut = the_cut c.args.ranges.now.items c.args.index c.args.at c.args.len c.index.result.now c.requires.apart c.requires.some c.requires.here c.index.ensures in
    omega (arith, cut.lies.to, c.end.ensures)

pub remove-whole-requires : goal.remove-whole-requires
remove-whole-requires c =
    let cut = the_cut c.args.ranges.now.items c.args.index c.args.at c.args.len c.index.result.now c.requires.apart c.requires.some c.requires.here c.index.ensures in
    omega (arith, cut.within, c.args.ranges.now.ok.0)

pub index_mut-requires : goal.index_mut-requires
index_mut-requires c =
    let cut = the_cut c.args.ranges.now.items c.args.index c.args.at c.args.len c.index.result.now c.requires.apart c.requires.some c.requires.here c.index.ensures in
    omega (arith, cut.within, c.args.ranges.now.ok.0)

pub index_mut-requires-in-false-true : goal.index_mut-requires-in-false-true
index_mut-requires-in-false-true c =
    let cut = the_cut c.args.ranges.now.items c.args.index c.args.at c.args.len c.index.result.now c.requires.apart c.requires.some c.requires.here c.index.ensures in
    omega (arith, cut.within, c.args.ranges.now.ok.0)

pub index_mut-requires-in-false-false : goal.index_mut-requires-in-false-false
index_mut-requires-in-false-false c =
    let cut = the_cut c.args.ranges.now.items c.args.index c.args.at c.args.len c.index.result.now c.requires.apart c.requires.some c.requires.here c.index.ensures in
    omega (arith, cut.within, c.args.ranges.now.ok.0)

pub overflow_add-index : goal.overflow_add-index
overflow_add-index c =
    let cut = the_cut c.args.ranges.now.items c.args.index c.args.at c.args.len c.index.result.now c.requires.apart c.requires.some c.requires.here c.index.ensures in
    omega (arith, cut.within, c.args.ranges.now.ok)

pub insert-requires : goal.insert-requires
insert-requires c =
    let cut = the_cut c.args.ranges.now.items c.args.index c.args.at c.args.len c.index.result.now c.requires.apart c.requires.some c.requires.here c.index.ensures in
    omega (arith, cut.within, c.args.ranges.now.ok.0)

pub returns-in-true-true-clause-taken : goal.returns-in-true-true-clause-taken
returns-in-true-true-clause-taken c =
    let cut = the_cut c.args.ranges.now.items c.args.index c.args.at c.args.len c.index.result.now c.requires.apart c.requires.some c.requires.here c.index.ensures in
    takes_sides c.args.ranges.now.items c.args.index c.args.at c.args.len c.index.result.now c.end.result true true _ cut c.end.ensures c.in-true-true.ensures c.in-true-true.ensures' c.remove-whole.ensures.items

pub returns-in-true-false-clause-taken : goal.returns-in-true-false-clause-taken
returns-in-true-false-clause-taken c =
    let cut = the_cut c.args.ranges.now.items c.args.index c.args.at c.args.len c.index.result.now c.requires.apart c.requires.some c.requires.here c.index.ensures in
    takes_sides c.args.ranges.now.items c.args.index c.args.at c.args.len c.index.result.now c.end.result true false _ cut c.end.ensures c.in-true-false.ensures c.in-true-false.ensures'
    (set_is c.args.ranges.now.items c.args.index _ cut.within)

pub returns-in-false-true-clause-taken : goal.returns-in-false-true-clause-taken
returns-in-false-true-clause-taken c =
    let cut = the_cut c.args.ranges.now.items c.args.index c.args.at c.args.len c.index.result.now c.requires.apart c.requires.some c.requires.here c.index.ensures in
    takes_sides c.args.ranges.now.items c.args.index c.args.at c.args.len c.index.result.now c.end.result false true _ cut c.end.ensures c.in-false-true.ensures c.in-false-true.ensures'
    (set_is c.args.ranges.now.items c.args.index _ cut.within)

pub returns-in-false-false-clause-taken : goal.returns-in-false-false-clause-taken
returns-in-false-false-clause-taken c =
    let cut = the_cut c.args.ranges.now.items c.args.index c.args.at c.args.len c.index.result.now c.requires.apart c.requires.some c.requires.here c.index.ensures in
    takes_sides c.args.ranges.now.items c.args.index c.args.at c.args.len c.index.result.now c.end.result false false _ cut c.end.ensures c.in-false-false.ensures c.in-false-false.ensures'
    (inserted c.args.ranges.now.items c.insert.new.self.items c.args.index _ _ cut.within (grown c.insert.result c.unwrap.result _ _ _ c.unwrap.ensures c.insert.ensures.items))
