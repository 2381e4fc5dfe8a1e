-- One turn of a pass is changed.
use Rattle.std.proofs.Common.{◌≡◌, ◌≢◌, ℕ, ◌<◌, true, List, length, slice_index_or, slice_set, Result, Option, Some, None, sym, ◌∙◌, ap, subst, arith}
use Rattle.std.proofs.lemmas.Grind.{common_steps}
use Rattle.std.proofs.lemmas.Bool.{cases_lt}
use Rattle.std.proofs.lemmas.List.{get_or-set_same, get_or-set_other}
use mathlib.Core.Logic.{inl, inr}
use Rattle.hm_base.specs.declared.memory.NoMemory.{NoMemory}
use Rattle.hm_model.specs.declared.entry.Call.{Call}
use Rattle.hm_model.specs.declared.entry.Reply.{Reply}
use Rattle.hm_model.specs.declared.entry.Who.{Who}
use Rattle.hm_turn.specs.Callers.{is_among}
use Rattle.hm_turn.specs.Knowledge.{Knowledge}
use Rattle.hm_turn.specs.Known.{Lock, Known, IsOf}
use Rattle.hm_heap.specs.Called.{Called, Tried}
use Rattle.hm_heap.specs.Passes.{AreOf, HasNumbers, IsPass}

pub set_length : {X : Type 0} (xs : List X) (index : ℕ) (u : X) → length (slice_set xs index u) ≡ length xs
set_length xs index u = grind (arith, common_steps)

set_each : {X : Type 0} (A : ℕ → X → Type 0) (xs : List X) (index : ℕ) (u : X) → index < length xs → ((r : ℕ) (d : X) → r < length xs → A r (slice_index_or xs r d)) → A index u
    → (r : ℕ) (d : X) → r < length xs → A r (slice_index_or (slice_set xs index u) r d)
set_each A xs index u below all one r d l =
    let other : r ≢ index → A r (slice_index_or (slice_set xs index u) r d) = λ n. subst (A r) (sym (get_or-set_other xs index r u d n)) (all r d l) in
    elim (cases_lt r index) [
      | inl b ↦ other (λ e. omega (arith, b, e))
      | inr b ↦ elim (cases_lt index r) [
        | inl b' ↦ other (λ e. omega (arith, b', e))
        | inr b' ↦ let e : index ≡ r = omega (arith, b, b') in
            subst (λ (n : ℕ). A n (slice_index_or (slice_set xs index u) n d)) e (subst (A index) (sym (get_or-set_same xs index u d below)) one)
      ]
    ]

-- what no call changes of a turn
pub record Stays (t u : Known) : Type 0 where
  pub lock : u.lock ≡ t.lock
  pub caller : u.knows.caller ≡ t.knows.caller
  pub origin : u.knows.origin ≡ t.knows.origin
  pub used : u.knows.used ≡ t.knows.used
  pub out : u.knows.out ≡ t.knows.out

pub called_stays : (t u : Known) (who : Who) (call : Call) (r : Result Reply NoMemory) → u.lock ≡ t.lock → Called who call r t.knows u.knows → Stays t u
called_stays t u who call r lock c = record {
  lock = lock;
  caller = ap (λ (k : Knowledge). k.caller) c.same;
  origin = ap (λ (k : Knowledge). k.origin) c.same;
  used = ap (λ (k : Knowledge). k.used) c.same;
  out = ap (λ (k : Knowledge). k.out) c.same;
}

pub tried_stays : (t u : Known) (who : Who) (call : Call) (o : Option (Result Reply NoMemory)) → u.lock ≡ t.lock → Tried who call o t.knows u.knows → Stays t u
tried_stays t u who call (Some r) lock c = called_stays t u who call r lock c
tried_stays t u who call None lock c = record {
  lock = lock;
  caller = ap (λ (k : Knowledge). k.caller) c;
  origin = ap (λ (k : Knowledge). k.origin) c;
  used = ap (λ (k : Knowledge). k.used) c;
  out = ap (λ (k : Knowledge). k.out) c;
}

pub pass_set : (caller thread splits out : ℕ) (ts : List Known) (index : ℕ) (t u : Known) → IsPass caller thread splits out ts → index < length ts → t ≡ slice_index_or ts index t → Stays t u
    → IsPass caller thread splits out (slice_set ts index u)
pass_set caller thread splits out ts index t u h below at s =
    let was : HasNumbers caller splits out t = subst (HasNumbers caller splits out) (sym at) (h.each index t below) in
    let now : HasNumbers caller splits out u = record {
      caller_is = s.caller ∙ was.caller_is;
      out_is = s.out ∙ was.out_is;
      used_below = λ c m. was.used_below c (subst (λ (l : List ℕ). is_among c l ≡ true) s.used m);
    } in
    record {
      thread_some = h.thread_some;
      out_most = h.out_most;
      each = λ r d l. set_each (λ n x. HasNumbers caller splits out x) ts index u below (λ n x b. h.each n x b) now r d (omega (arith, l, set_length ts index u));
    }

pub of_set : (locks : List Lock) (ts : List Known) (index : ℕ) (t u : Known) → AreOf locks ts → index < length locks → t ≡ slice_index_or ts index t → Stays t u → AreOf locks (slice_set ts index u)
of_set locks ts index t u of below at s =
    let below' : index < length ts = omega (arith, below, of.same) in
    record {
      same = set_length ts index u ∙ of.same;
      each = λ r l d b. set_each (λ n x. (k : Lock) → IsOf (slice_index_or locks n k) x) ts index u below'
          (λ n x m k. of.each n k x (omega (arith, m, of.same)))
          (λ k. let was : IsOf (slice_index_or locks index k) t = subst (λ (x : Known). IsOf (slice_index_or locks index k) x) (sym at) (of.each index k t below) in (s.lock ∙ was.0, s.origin ∙ was.1))
          r d (omega (arith, b, of.same)) l;
    }
