-- One more pass is split off.
use Rattle.std.proofs.Common.{◌≡◌, ◌≢◌, ◌⊎◌, ℕ, ◌+◌, ◌<◌, ◌≤◌, List, [], ◌∷◌, ◌++◌, length, length-append, slice_index_or, map, arith, refl, ap, ◌∙◌, sym, subst, zero, suc}
use Rattle.std.proofs.lemmas.Grind.{common_steps}
use Rattle.std.proofs.lemmas.List.{get_or_append_left, get_or-map}
use Rattle.std.proofs.lemmas.Bool.{cases_lt}
use Rattle.std.proofs.Math.Seq.{get_or-append_seam}
use mathlib.Core.Logic.{inl, inr}
use Rattle.hm_turn.specs.Known.{Lock, Known}
use Rattle.hm_turn.specs.Callers.{is_among}
use Rattle.hm_heap.specs.Passes.{PassView, AreOf, cut, born, with_split_off, split_off}
use Rattle.hm_heap.proofs.Splitting.{map_long, of_cut, of_born}
use Rattle.hm_trace.specs.Views.{ScriptView}
use Rattle.hm_replay.specs.Names.{Names, no_name, own_names, seen_in}
use Rattle.hm_replay.specs.Gains.{mine_of}
use Rattle.hm_replay.specs.declared.round.Worker.{Worker}
use Rattle.hm_replay.specs.Workers.{IsReady, HasParted, IsBegun, HasCut}

-- the workers that were started so far, each for the script at its index
pub record StartedTo (locks : List Lock) (round : ℕ) (p q : PassView) (scripts : List ScriptView) (names : Names)
    (workers : List Worker) : Type 0 where
  pub parted : HasParted locks (length workers) p q
  pub each : (i : ℕ) (w : Worker) → i < length workers
      → IsBegun locks (p.splits + 1 + i) round p names (slice_index_or workers i w)
  pub scripts_are : (i : ℕ) (w : Worker) (s : ScriptView) → i < length workers
      → (slice_index_or workers i w).script.now ≡ slice_index_or scripts i s

still_unused : (first count c : ℕ) (used : List ℕ) → (c < first) ⊎ (first + (count + 1) ≤ c)
    → is_among c ((first + count) ∷ used) ≡ is_among c used
still_unused first count c used o =
    let away : c ≢ first + count = λ e. elim o [ inl l ↦ omega (arith, e, l) | inr l ↦ omega (arith, e, l) ] in
    grind (arith, common_steps, away)

parted_more : (locks : List Lock) (n : ℕ) (p q q' : PassView) → HasParted locks n p q → q' ≡ with_split_off q
    → HasParted locks (n + 1) p q'
parted_more locks n p q q' i e =
    let c : ℕ = q.splits + 1 in
    let t : q'.turns ≡ map (cut c) q.turns = ap (λ (z : PassView). z.turns) e in
    let s : q.splits ≡ p.splits + n = ap (λ (z : PassView). z.splits) i.same in
    let k : c ≡ p.splits + 1 + n = omega (arith, s) in
    record {
      same = grind (arith, i.same, e);
      of = subst (AreOf locks) (sym t) (of_cut locks c q.turns i.of);
      turns = λ r d b.
          let was : Known = slice_index_or q.turns r d in
          let u : slice_index_or q'.turns r d ≡ cut c was =
          ap (λ z. slice_index_or z r d) t ∙ get_or-map (cut c) q.turns r d d (omega (arith, i.of.same)) in
          let v = i.turns r d b in
          subst (HasCut (p.splits + 1) (n + 1) (slice_index_or p.turns r d)) (sym u) (record {
            is = ap (cut c) v.is;
            used = λ k' o.
                ap (λ (m : ℕ). is_among k' (m ∷ was.knows.used)) k ∙ still_unused (p.splits + 1) n k' was.knows.used o
                ∙ v.used k' (elim o [ inl l ↦ inl l | inr l ↦ inr (omega (arith, l)) ]);
          });
    }

pub mine_born : (c : ℕ) (ts : List Known) (index : ℕ) → mine_of (map (born c) ts) index ≡ []
mine_born c [] index = refl
mine_born c (t ∷ ts) zero = refl
mine_born c (t ∷ ts) (suc index) = mine_born c ts index

ready_born : (locks : List Lock) (q p' : PassView) (c : ℕ) (s : ScriptView) → AreOf locks q.turns → p'.caller ≡ c
    → p'.thread ≡ s.thread → p'.turns ≡ map (born c) q.turns → IsReady locks p' s
ready_born locks q p' c s o k th e =
    let n : length p'.turns ≡ length q.turns = ap (λ (z : List Known). length z) e ∙ map_long (born c) q.turns in
    record {
      of = subst (AreOf locks) (sym e) (of_born locks c q.turns o);
      callers = λ r t b.
          let u : slice_index_or p'.turns r t ≡ born c (slice_index_or q.turns r t) =
          ap (λ z. slice_index_or z r t) e ∙ get_or-map (born c) q.turns r t t (omega arith) in
          ap (λ (z : Known). z.knows.caller) u ∙ sym k;
      thread = th;
      fresh = λ index. ap (λ (z : List Known). mine_of z index) e ∙ mine_born c q.turns index;
    }

-- what holds of each element and of one more holds of each with that
pub each_pushed : {X : Type 0} (P : ℕ → X → Type 0) (xs : List X) (x : X)
    → ((i : ℕ) (d : X) → i < length xs → P i (slice_index_or xs i d)) → P (length xs) x
    → (i : ℕ) (d : X) → i < length (xs ++ x ∷ []) → P i (slice_index_or (xs ++ x ∷ []) i d)
each_pushed {X} P xs x each last i d b = elim (cases_lt i (length xs)) [
  | inl l ↦ subst (P i) (sym (get_or_append_left xs (x ∷ []) d i l)) (each i d l)
  | inr l ↦
      let at_end : length xs ≡ i = omega (arith, l, b, length-append xs (x ∷ [])) in
      subst (λ (k : ℕ). P k (slice_index_or (xs ++ x ∷ []) k d)) at_end
      (subst (P (length xs)) (sym (get_or-append_seam xs x [] d)) last)
]

pub started_more : (locks : List Lock) (round : ℕ) (p q q' : PassView) (scripts : List ScriptView) (names : Names)
    (workers : List Worker) (w : Worker) → StartedTo locks round p q scripts names workers
    → q' ≡ with_split_off q → w.pass ≡ split_off q round w.script.now.thread
    → ((s : ScriptView) → w.script.now ≡ slice_index_or scripts (length workers) s) → seen_in w.scope ≡ names
    → own_names w.scope ≡ no_name
    → StartedTo locks round p q' scripts names (workers ++ w ∷ [])
started_more locks round p q q' scripts names workers w i e k here agree untouched =
    let m : length (workers ++ w ∷ []) ≡ length workers + 1 = length-append workers (w ∷ []) in
    let n : q.splits ≡ p.splits + length workers = ap (λ (z : PassView). z.splits) i.parted.same in
    let kc : w.pass.caller ≡ q.splits + 1 = ap (λ (z : PassView). z.caller) k in
    let kt : w.pass.turns ≡ map (born (q.splits + 1)) q.turns = ap (λ (z : PassView). z.turns) k in
    record {
      parted = subst (λ n. HasParted locks n p q') (sym m) (parted_more locks (length workers) p q q' i.parted e);
      each =
          each_pushed (λ (j : ℕ) (z : Worker). IsBegun locks (p.splits + 1 + j) round p names z) workers w i.each
          (record {
            seen = λ r t b.
                ap (λ (z : List Known). (slice_index_or z r t).knows.seen) kt
                ∙ ap (λ (z : Known). z.knows.seen)
                (get_or-map (born (q.splits + 1)) q.turns r t t (omega (arith, b, i.parted.of.same)))
                ∙ ap (λ (z : Known). z.knows.seen) (i.parted.turns r t b).is;
            caller_is = omega (arith, kc, n);
            round_is = ap (λ (z : PassView). z.round) k;
            ready =
                ready_born locks q w.pass (q.splits + 1) w.script.now i.parted.of kc (ap (λ (z : PassView). z.thread) k) kt;
            names_are = agree;
            untouched = untouched;
          });
      scripts_are = λ j d x b.
          each_pushed (λ (j : ℕ) (z : Worker). z.script.now ≡ slice_index_or scripts j x) workers w
          (λ j d l. i.scripts_are j d x l) (here x) j d b;
    }
