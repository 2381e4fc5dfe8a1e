use Rattle.std.proofs.Common.{◌≡◌, ◌≢◌, ℕ, ◌-◌, ◌<◌, List, length, slice_index_or, sym, ap, ◌∙◌, subst, arith}
use Rattle.hm_model.specs.Runs.{expand, AreRuns}
use Rattle.hm_model.proofs.Appending.{goes_on, length_fits, all_lent, one_more}
use Rattle.hm_model.proofs.runs.append_run.Goals as goal
use Rattle.hm_model.proofs.runs.append_run.Goals.{else-count-gt0-via-then-count-gt0+else-deref-count, else-count-gt0-via-else-count-gt0}

pub overflow_add-deref_mut : goal.overflow_add-deref_mut
overflow_add-deref_mut c =
    let i = c.len-count.result - 1 in
    let at : i ≡ length c.args.pairs.now.items - 1 = omega (arith, c.len-count.ensures.value) in
    omega (arith, length_fits c.args.pairs.now.items i c.args.len c.requires.below (omega (arith, c.if-count-gt0.true, c.len-count.ensures.value)) at, ap (λ (l : List (ℕ × ℕ)). (slice_index_or l i (0, 0)).1) c.deref_mut.ensures.value)

pub returns-then-deref-count-clause-runs : goal.returns-then-deref-count-clause-runs
returns-then-deref-count-clause-runs c =
    let xs = c.args.pairs.now.items in let i = c.len-count.result - 1 in
    let some : 0 < length xs = omega (arith, c.if-count-gt0.true, c.len-count.ensures.value) in
    let at : i ≡ length xs - 1 = omega (arith, c.len-count.ensures.value) in
    let is : (slice_index_or xs i (0, 0)).0 ≡ c.args.byte = ap (λ (l : List (ℕ × ℕ)). (slice_index_or l i (0, 0)).0) (sym c.deref.ensures) ∙ c.if-deref-count.true in
    subst AreRuns (sym (all_lent xs c.deref_mut.result.now i c.args.len c.deref_mut.ensures.value)) (goes_on xs i c.args.byte c.args.len c.requires.runs c.requires.below some at is).runs_are

pub returns-then-deref-count-clause-appended : goal.returns-then-deref-count-clause-appended
returns-then-deref-count-clause-appended c =
    let xs = c.args.pairs.now.items in let i = c.len-count.result - 1 in
    let some : 0 < length xs = omega (arith, c.if-count-gt0.true, c.len-count.ensures.value) in
    let at : i ≡ length xs - 1 = omega (arith, c.len-count.ensures.value) in
    let is : (slice_index_or xs i (0, 0)).0 ≡ c.args.byte = ap (λ (l : List (ℕ × ℕ)). (slice_index_or l i (0, 0)).0) (sym c.deref.ensures) ∙ c.if-deref-count.true in
    ap expand (all_lent xs c.deref_mut.result.now i c.args.len c.deref_mut.ensures.value) ∙ (goes_on xs i c.args.byte c.args.len c.requires.runs c.requires.below some at is).bytes

pub returns-in_ok-push-clause-runs : goal.returns-in_ok-push-clause-runs
returns-in_ok-push-clause-runs c =
    let xs = c.args.pairs.now.items in let i = c.len-count.result - 1 in
    let at : i ≡ length xs - 1 = omega (arith, c.len-count.ensures.value) in
    let other : 0 < length xs → (slice_index_or xs i (0, 0)).0 ≢ c.args.byte = elim c.else-count-gt0.branch as (λ _. 0 < length xs → (slice_index_or xs i (0, 0)).0 ≢ c.args.byte) [
      | else-count-gt0-via-then-count-gt0+else-deref-count w ↦ λ some e. w.if-deref-count.false (ap (λ (l : List (ℕ × ℕ)). (slice_index_or l i (0, 0)).0) w.deref.ensures ∙ e)
      | else-count-gt0-via-else-count-gt0 w ↦ λ some e. absurd (omega (arith, some, w.if-count-gt0.false, c.len-count.ensures.value))
    ] in
    let more = one_more xs i c.args.byte c.args.len c.requires.runs c.requires.below c.requires.some at other in
    subst AreRuns (sym c.in_ok-push.ensures.ok) more.runs_are

pub returns-in_ok-push-clause-appended : goal.returns-in_ok-push-clause-appended
returns-in_ok-push-clause-appended c =
    let xs = c.args.pairs.now.items in let i = c.len-count.result - 1 in
    let at : i ≡ length xs - 1 = omega (arith, c.len-count.ensures.value) in
    let other : 0 < length xs → (slice_index_or xs i (0, 0)).0 ≢ c.args.byte = elim c.else-count-gt0.branch as (λ _. 0 < length xs → (slice_index_or xs i (0, 0)).0 ≢ c.args.byte) [
      | else-count-gt0-via-then-count-gt0+else-deref-count w ↦ λ some e. w.if-deref-count.false (ap (λ (l : List (ℕ × ℕ)). (slice_index_or l i (0, 0)).0) w.deref.ensures ∙ e)
      | else-count-gt0-via-else-count-gt0 w ↦ λ some e. absurd (omega (arith, some, w.if-count-gt0.false, c.len-count.ensures.value))
    ] in
    let more = one_more xs i c.args.byte c.args.len c.requires.runs c.requires.below c.requires.some at other in
    ap expand c.in_ok-push.ensures.ok ∙ more.bytes
