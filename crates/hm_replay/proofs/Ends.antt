-- What the first pass knows of the callers after their passes are joined.
use Rattle.std.proofs.Common.{◌≡◌, ℕ, ◌+◌, ◌-◌, ◌<◌, ◌≤◌, ◌⊎◌, List, [], ◌∷◌, length, slice_index_or, Some, arith, refl, ap, ◌∙◌, sym, subst, suc, zero}
use mathlib.Core.Logic.{inl, inr}
use Rattle.hm_model.specs.declared.entry.Entry.{Entry}
use Rattle.hm_turn.specs.Known.{Known}
use Rattle.hm_turn.specs.Callers.{ended_of}
use Rattle.hm_turn.proofs.Callers.{ended_first, ended_other}
use Rattle.hm_heap.specs.Passes.{met, all_met}
use Rattle.hm_heap.proofs.Splitting.{met_index, met_long}
use Rattle.hm_replay.specs.declared.round.Worker.{Worker}
use Rattle.hm_replay.specs.Workers.{after_joins}

-- the passes have a turn for each region
abbrev pub AllLong : ℕ → List Worker → Type 0
AllLong count ws = (i : ℕ) (w : Worker) → i < length ws → length (slice_index_or ws i w).pass.turns ≡ count

-- and their callers in region r are first, first + 1 ..
pub record InOrder (count r first : ℕ) (ws : List Worker) : Type 0 where
  pub long : AllLong count ws
  pub caller : (i : ℕ) (w : Worker) (t : Known) → i < length ws
      → (slice_index_or (slice_index_or ws i w).pass.turns r t).knows.caller ≡ first + i

rest_in_order : (count r first : ℕ) (w : Worker) (ws : List Worker) → InOrder count r first (w ∷ ws)
    → InOrder count r (first + 1) ws
rest_in_order count r first w ws o = record {
  long = λ i d b. o.long (suc i) d (omega arith);
  caller = λ i d t b. let c = o.caller (suc i) d t (omega arith) in omega arith;
}

-- the turn of region r
module _ (count r : ℕ) (t : Known) (inside : r < count) where
  abbrev pub in_pass : Worker → Known
  in_pass w = slice_index_or w.pass.turns r t

  abbrev pub after : List Known → List Worker → Known
  after ts ws = slice_index_or (after_joins ts ws) r t

  met_here : (ts : List Known) (w : Worker) → length ts ≡ count → length w.pass.turns ≡ count
      → slice_index_or (all_met ts w.pass.turns) r t ≡ met (slice_index_or ts r t) (in_pass w)
  met_here ts w n l = met_index ts w.pass.turns r t t (omega (arith, n, l)) (omega (arith, n, inside))

  -- what each join keeps of it stays
  pub joins_keep : (P : Known → Type 0) (ts : List Known) (ws : List Worker) → length ts ≡ count → AllLong count ws
      → ((i : ℕ) (w : Worker) (s : Known) → i < length ws → P s → P (met s (in_pass (slice_index_or ws i w))))
      → P (slice_index_or ts r t) → P (after ts ws)
  joins_keep P ts [] n l step p = p
  joins_keep P ts (w ∷ ws) n l step p =
      joins_keep P (all_met ts w.pass.turns) ws (met_long ts w.pass.turns ∙ n)
      (λ i v b. l (suc i) v (omega arith)) (λ i v s b. step (suc i) v s (omega arith))
      (subst P (sym (met_here ts w n (l 0 w (omega arith)))) (step 0 w (slice_index_or ts r t) (omega arith) p))

  -- joining changes neither what the first pass made itself, nor which caller it is, nor which callers it split off
  pub own_stays : (ts : List Known) (ws : List Worker) → length ts ≡ count → AllLong count ws
      → ((after ts ws).knows.mine ≡ (slice_index_or ts r t).knows.mine)
      × ((after ts ws).knows.caller ≡ (slice_index_or ts r t).knows.caller)
      × ((after ts ws).knows.used ≡ (slice_index_or ts r t).knows.used)
  own_stays ts ws n l =
      let k = (slice_index_or ts r t).knows in
      joins_keep (λ (z : Known). (z.knows.mine ≡ k.mine) × (z.knows.caller ≡ k.caller) × (z.knows.used ≡ k.used)) ts
      ws n l
      (λ i w s b e. e) (refl, refl, refl)

  -- nor what is known of a caller that none of the passes has
  pub keeps : (first c : ℕ) (ts : List Known) (ws : List Worker) → length ts ≡ count → InOrder count r first ws
      → (c < first) ⊎ (first + length ws ≤ c)
      → ended_of c (after ts ws).knows.ended ≡ ended_of c (slice_index_or ts r t).knows.ended
  keeps first c ts ws n o outside =
      joins_keep (λ (z : Known). ended_of c z.knows.ended ≡ ended_of c (slice_index_or ts r t).knows.ended) ts ws n o.long
      (λ i w s b e.
      let u : Known = in_pass (slice_index_or ws i w) in
      let is : u.knows.caller ≡ first + i = o.caller i w t b in
      ended_other c u.knows.caller u.knows.mine s.knows.ended
      (λ z. elim outside [ inl l ↦ omega (arith, z, is, b, l) | inr l ↦ omega (arith, z, is, b, l) ])
      ∙ e)
      refl

  -- of the caller of each pass it is what that made
  pub knows : (first i : ℕ) (ts : List Known) (ws : List Worker) (d : Worker) → length ts ≡ count
      → InOrder count r first ws
      → i < length ws → ended_of (first + i) (after ts ws).knows.ended ≡ Some (in_pass (slice_index_or ws i d)).knows.mine
  knows first i ts [] d n o l = absurd (omega arith)
  knows first zero ts (w ∷ ws) d n o l =
      let u : Known = in_pass w in
      let is : u.knows.caller ≡ first + 0 = o.caller 0 w t (omega arith) in
      keeps (first + 1) (first + 0) (all_met ts w.pass.turns) ws (met_long ts w.pass.turns ∙ n)
      (rest_in_order count r first w ws o) (inl (omega arith))
      ∙ ap (λ (z : Known). ended_of (first + 0) z.knows.ended) (met_here ts w n (o.long 0 w (omega arith)))
      ∙ ended_first (first + 0) u.knows.caller u.knows.mine (slice_index_or ts r t).knows.ended (sym is)
  knows first (suc i) ts (w ∷ ws) d n o l =
      let e : first + suc i ≡ first + 1 + i = omega arith in
      ap (λ c. ended_of c (after (all_met ts w.pass.turns) ws).knows.ended) e
      ∙ knows (first + 1) i (all_met ts w.pass.turns) ws d (met_long ts w.pass.turns ∙ n)
      (rest_in_order count r first w ws o) (omega arith)

  -- and each of these callers is joined
  pub these_end : (first c : ℕ) (ts : List Known) (ws : List Worker) → length ts ≡ count → InOrder count r first ws
      → first ≤ c → c < first + length ws → (calls : List Entry) × (ended_of c (after ts ws).knows.ended ≡ Some calls)
  these_end first c ts [] n o l k = absurd (omega (arith, l, k))
  these_end first c ts (w ∷ ws) n o l k =
      let i : ℕ = c - first in
      let is : first + i ≡ c = omega (arith, l) in
      let calls : List Entry = (in_pass (slice_index_or (w ∷ ws) i w)).knows.mine in (
        calls,
        subst (λ (e : ℕ). ended_of e (after ts (w ∷ ws)).knows.ended ≡ Some calls) is
            (knows first i ts (w ∷ ws) w n o (omega (arith, l, k))),
      )
