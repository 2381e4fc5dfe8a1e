-- A whole round.
use Rattle.std.proofs.Common.{◌≡◌, ◌≢◌, ℕ, ◌+◌, ◌-◌, ◌<◌, ◌≤◌, ◌⊎◌, Bool, true, false, ◌==◌, ltb, cond, List, [], ◌∷◌, length, slice_index_or, map, Option, Some, None, IfSome, Result, Ok, Err, IfOk, arith, refl, ap, ◌∙◌, sym, subst, zero, suc}
use Rattle.std.proofs.lemmas.Bool.{cases_lt, cond_both}
use Rattle.std.proofs.lemmas.List.{get_or-map, length-map, same_lists}
use Rattle.std.specs.Result.{result_ok}
use mathlib.Core.Logic.{inl, inr}
use mathlib.Core.Path.{fun_ext, transport}
use Rattle.hm_base.specs.declared.memory.NoMemory.{NoMemory}
use Rattle.hm_model.specs.declared.entry.Entry.{Entry}
use Rattle.hm_model.specs.Entries.{calls_of}
use Rattle.hm_report.specs.declared.results.Results.{Results}
use Rattle.hm_sizes.specs.declared.config.Config.{Config}
use Rattle.hm_trace.specs.Views.{ScriptView}
use Rattle.hm_turn.specs.Callers.{is_among, ended_of}
use Rattle.hm_turn.specs.Histories.{StartsWith}
use Rattle.hm_turn.specs.Knowledge.{Knowledge}
use Rattle.hm_turn.specs.Known.{Lock, Known, KnowsCallers}
use Rattle.hm_turn.proofs.Histories.{starts_itself}
use Rattle.hm_heap.specs.Passes.{PassView, AreOf, AllKnow}
use Rattle.hm_replay.specs.declared.round.Worker.{Worker}
use Rattle.hm_replay.specs.Gains.{WentOn, mine_of}
use Rattle.hm_replay.specs.Names.{Names, seen_in, settled}
use Rattle.hm_replay.specs.RoundOf.{calls_in, ended_in, IsGathered, Stays, SeesMore, AllSeeMore, LeavesRoot}
use Rattle.hm_replay.specs.Rounds.{AreOfCallers, RunsRound}
use Rattle.hm_replay.specs.Scripts.{RunsAllSteps}
use Rattle.hm_replay.specs.Uses.{Own}
use Rattle.hm_replay.specs.Workers.{AllCalledBy, HasMade, KeepsMade, HasParted, IsBegun, FinishedTo, after_joins}
use Rattle.hm_replay.proofs.Ends.{InOrder, joins_keep, keeps, knows, own_stays, these_end}
use Rattle.hm_replay.proofs.Gaining.{starts_trans}
use Rattle.hm_replay.proofs.Merging.{all_settled, kept_ok}
use Rattle.hm_replay.proofs.Order.{AllJoined, has_one, none_after, seen_calls}
use Rattle.hm_replay.proofs.Turns.{read_alike, some_of}

-- ---- the passes that are to be joined
pub record AreWorked (locks : List Lock) (first : ℕ) (ws : List Worker) : Type 0 where
  pub of : (i : ℕ) (w : Worker) → i < length ws → AreOf locks (slice_index_or ws i w).pass.turns
  pub callers : (i : ℕ) (w : Worker) → i < length ws → AllCalledBy (slice_index_or ws i w).pass
  pub caller_is : (i : ℕ) (w : Worker) → i < length ws → (slice_index_or ws i w).pass.caller ≡ first + i

in_order : (locks : List Lock) (first r : ℕ) (ws : List Worker) → AreWorked locks first ws → r < length locks
    → InOrder (length locks) r first ws
in_order locks first r ws o b = record {
  long = λ i w l. (o.of i w l).same;
  caller = λ i w t l. let n = (o.of i w l).same in o.callers i w l r t (omega arith) ∙ o.caller_is i w l;
}

abbrev pub AllRan : List Lock → List Worker → List Worker → Type 0
AllRan locks ws vs = (i : ℕ) (w : Worker) → i < length ws
    → WentOn locks (slice_index_or ws i w).pass (slice_index_or vs i w).pass

-- what was seen by the passes goes on from what the first pass had seen
abbrev AllGoOn : List Lock → PassView → List Worker → Type 0
AllGoOn locks root ws = (i : ℕ) (w : Worker) (r : ℕ) (t : Known) → i < length ws → r < length locks
    → StartsWith (slice_index_or (slice_index_or ws i w).pass.turns r t).knows.seen (slice_index_or root.turns r t).knows.seen

module _ (locks : List Lock) (first round : ℕ) (root : PassView) (names : Names) where
  abbrev pub AllStarted : List Worker → Type 0
  AllStarted ws =
      (i : ℕ) (w : Worker) → i < length ws → IsBegun locks (first + i) round root names (slice_index_or ws i w)

  pub worked_begun : (ws : List Worker) → AllStarted ws → AreWorked locks first ws
  worked_begun ws e = record {
    of = λ i w l. (e i w l).ready.of;
    callers = λ i w l. (e i w l).ready.callers;
    caller_is = λ i w l. (e i w l).caller_is;
  }

  worked_run : (ws vs : List Worker) → length vs ≡ length ws → AllStarted ws → AllRan locks ws vs
      → AreWorked locks first vs
  worked_run ws vs n e h = record {
    of = λ i w l. (h i w (omega arith)).of;
    callers = λ i w l r t b.
        let k = h i w (omega arith) in
        let started = e i w (omega arith) in
        let m : r < length (slice_index_or ws i w).pass.turns = omega (arith, b, k.grew.as_many) in
        ap (λ (z : Knowledge). z.caller) (k.grew.each r t).same ∙ started.ready.callers r t m
        ∙ sym (ap (λ (z : PassView). z.caller) k.same);
    caller_is = λ i w l. ap (λ (z : PassView). z.caller) (h i w (omega arith)).same ∙ (e i w (omega arith)).caller_is;
  }

  begun_seen : (ws : List Worker) → AllStarted ws → AllGoOn locks root ws
  begun_seen ws e i w r t l b =
      let was : List Entry = (slice_index_or root.turns r t).knows.seen in
      subst (λ (y : List Entry). StartsWith y was) (sym ((e i w l).seen r t b)) (starts_itself was)

  run_seen : (ws vs : List Worker) → length vs ≡ length ws → AllStarted ws → AllRan locks ws vs → AllGoOn locks root vs
  run_seen ws vs n e h i w r t l b =
      let m : i < length ws = omega arith in
      starts_trans (slice_index_or (slice_index_or vs i w).pass.turns r t).knows.seen
      (slice_index_or (slice_index_or ws i w).pass.turns r t).knows.seen (slice_index_or root.turns r t).knows.seen
      ((h i w m).grew.each r t).begins (begun_seen ws e i w r t m b)

-- ---- one turn of the first pass, before and after the round
record Joined (first count : ℕ) (t u : Known) : Type 0 where
  pub mine : u.knows.mine ≡ t.knows.mine
  pub caller : u.knows.caller ≡ t.knows.caller
  pub used : (c : ℕ) → (c < first) ⊎ (first + count ≤ c) → is_among c u.knows.used ≡ is_among c t.knows.used
  pub others : (c : ℕ) → (c < first) ⊎ (first + count ≤ c) → ended_of c u.knows.ended ≡ ended_of c t.knows.ended
  pub these : (c : ℕ) → first ≤ c → c < first + count → (calls : List Entry) × (ended_of c u.knows.ended ≡ Some calls)
  pub seen : StartsWith u.knows.seen t.knows.seen
  pub idle : count ≡ 0 → u.knows.seen ≡ t.knows.seen

-- what a whole round does to the first pass
record IsWholeRound (locks : List Lock) (count : ℕ) (p z : PassView) : Type 0 where
  pub of : AreOf locks p.turns
  pub of_after : AreOf locks z.turns
  pub each : (r : ℕ) (t : Known) → r < length locks
      → Joined (p.splits + 1) count (slice_index_or p.turns r t) (slice_index_or z.turns r t)
  pub knows : 0 < count → AllKnow z.turns

whole : (locks : List Lock) (p q z : PassView) (ws : List Worker) (rs : List (Option Results)) → AreOf locks p.turns
    → HasParted locks (length ws) p q → AreWorked locks (p.splits + 1) ws → AllGoOn locks p ws
    → FinishedTo locks q z ws rs → IsWholeRound locks (length ws) p z
whole locks p q z ws rs a i o s f = record {
  of = a;
  of_after = f.of;
  each = λ r t b.
      let n : ℕ = length locks in
      let first : ℕ = p.splits + 1 in
      let order = in_order locks first r ws o b in
      let same = i.of.same in
      let v = i.turns r t b in
      let own = own_stays n r t b q.turns ws same order.long in
      let was : List Entry = (slice_index_or p.turns r t).knows.seen in
      let cut_seen : StartsWith (slice_index_or q.turns r t).knows.seen was =
      subst (λ (y : Known). StartsWith y.knows.seen was) (sym v.is) (starts_itself was) in
      subst (λ (y : PassView). Joined first (length ws) (slice_index_or p.turns r t) (slice_index_or y.turns r t))
      (sym f.same) (record {
        mine = own.0 ∙ ap (λ (y : Known). y.knows.mine) v.is;
        caller = own.1 ∙ ap (λ (y : Known). y.knows.caller) v.is;
        used = λ c l. ap (is_among c) own.2 ∙ v.used c l;
        others = λ c l. keeps n r t b first c q.turns ws same order l ∙ ap (λ (y : Known). ended_of c y.knows.ended) v.is;
        these = λ c l k. these_end n r t b first c q.turns ws same order l k;
        seen = joins_keep n r t b (λ (y : Known). StartsWith y.knows.seen was) q.turns ws same order.long
            (λ k w y l here.
            let there : List Entry = (slice_index_or (slice_index_or ws k w).pass.turns r t).knows.seen in
            cond_both (ltb (length y.knows.seen) (length there)) there y.knows.seen (λ (h : List Entry). StartsWith h was)
            (λ e. s k w r t l b) (λ e. here))
            cut_seen;
        idle = λ none. idle_joins q.turns ws r t none ∙ ap (λ (y : Known). y.knows.seen) v.is;
      });
  knows = f.knows;
}
  where
    idle_joins : (ts : List Known) (ws : List Worker) (r : ℕ) (t : Known) → length ws ≡ 0
        → (slice_index_or (after_joins ts ws) r t).knows.seen ≡ (slice_index_or ts r t).knows.seen
    idle_joins ts [] r t none = refl
    idle_joins ts (w ∷ ws) r t none = absurd (omega (arith, none))

-- ---- all entries of what was seen more are of the round's callers
of_callers : (first count : ℕ) (es : List Entry) → ((c : ℕ) → (c < first) ⊎ (first + count ≤ c) → calls_of es c ≡ [])
    → AreOfCallers first count es
of_callers first count [] none = tt
of_callers first count (e ∷ es) none =
    let c : ℕ = e.who.caller in
    let below : first ≤ c = elim (cases_lt c first) [ inl l ↦ absurd (has_one e es (none c (inl l))) | inr l ↦ l ] in
    let above : c < first + count =
    elim (cases_lt c (first + count)) [ inl l ↦ l | inr l ↦ absurd (has_one e es (none c (inr l))) ] in
    (below, above, of_callers first count es (λ d o. rest_none e es d (none d o)))
  where
    rest_by : (b : Bool) (e : Entry) (xs : List Entry) → cond b (e ∷ xs) xs ≡ [] → xs ≡ []
    rest_by true e xs h = absurd cc
    rest_by false e xs h = h

    rest_none : (e : Entry) (es : List Entry) (d : ℕ) → calls_of (e ∷ es) d ≡ [] → calls_of es d ≡ []
    rest_none e es d h = rest_by (e.who.caller == d) e (calls_of es d) h

-- ---- a turn that knows what its callers did, before and after
-- callers outside of more are outside of fewer
wider : (first count total c : ℕ) → count ≤ total → (c < first) ⊎ (first + total ≤ c) → (c < first) ⊎ (first + count ≤ c)
wider first count total c fewer (inl l) = inl l
wider first count total c fewer (inr l) = inr (omega (arith, fewer, l))

module _ (first count : ℕ) (t u : Known) (j : Joined first count t u) (root : t.knows.caller ≡ 0)
    (a : KnowsCallers t.knows) (b : KnowsCallers u.knows) (before : AllJoined t.knows) (after : AllJoined u.knows) where
  calls_stay : (c : ℕ) → (c < first) ⊎ (first + count ≤ c) → calls_of u.knows.seen c ≡ calls_of t.knows.seen c
  calls_stay zero o =
      subst (λ (k : ℕ). calls_of u.knows.seen k ≡ u.knows.mine) (j.caller ∙ root) b.own ∙ j.mine
      ∙ sym (subst (λ (k : ℕ). calls_of t.knows.seen k ≡ t.knows.mine) root a.own)
  calls_stay (suc c) o =
      let some : suc c ≢ 0 = λ e. absurd (omega (arith, e)) in
      seen_calls u.knows (suc c) some b after ∙ ap calls_in (j.others (suc c) o)
      ∙ sym (seen_calls t.knows (suc c) some a before)

  sees_more : (total : ℕ) → count ≤ total → SeesMore first total t.knows.seen u.knows.seen
  sees_more total fewer = record {
    more = j.seen.0;
    is = j.seen.1;
    callers = of_callers first total j.seen.0
        (λ c o. none_after c u.knows.seen t.knows.seen j.seen (calls_stay c (wider first count total c fewer o)));
  }

-- ---- the clauses of a round
-- a turn of which nothing changed but numbers
knows_still : (t u : Knowledge) → u.seen ≡ t.seen → u.mine ≡ t.mine → u.caller ≡ t.caller
    → ((c : ℕ) → is_among c u.used ≡ is_among c t.used) → ((c : ℕ) → ended_of c u.ended ≡ ended_of c t.ended)
    → KnowsCallers t → KnowsCallers u
knows_still t u seen mine caller used ended k = record {
  own = transport (λ i. calls_of (sym seen i) (sym caller i) ≡ sym mine i) k.own;
  of_ended = λ c calls e. ap (λ (s : List Entry). calls_of s c) seen ∙ k.of_ended c calls (sym (ended c) ∙ e);
  of_others = λ c some unused. ap (λ (s : List Entry). calls_of s c) seen ∙ k.of_others c some (sym (used c) ∙ unused);
}

outside_none : (first count c : ℕ) → count ≤ 0 → (c < first) ⊎ (first + count ≤ c)
outside_none first count c none = elim (cases_lt c first) [ inl l ↦ inl l | inr l ↦ inr (omega (arith, l, none)) ]

module _ (locks : List Lock) (count : ℕ) (p z : PassView) (h : IsWholeRound locks count p z) where
  inside : (r : ℕ) → r < length z.turns → r < length locks
  inside r l = omega (arith, l, h.of_after.same)

  inside_before : (r : ℕ) → r < length z.turns → r < length p.turns
  inside_before r l = omega (arith, l, h.of_after.same, h.of.same)

  gathered : IsGathered p → IsGathered z
  gathered g = record {
    first = λ r t l. (h.each r t (inside r l)).caller ∙ g.first r t (inside_before r l);
    knows = λ r t l. elim (cases_lt 0 count) [
      | inl some ↦ h.knows some r t l
      | inr none ↦
          let j = h.each r t (inside r l) in
          knows_still (slice_index_or p.turns r t).knows (slice_index_or z.turns r t).knows
          (j.idle (omega (arith, none))) j.mine j.caller
          (λ c. j.used c (outside_none (p.splits + 1) count c none))
          (λ c. j.others c (outside_none (p.splits + 1) count c none))
          (g.knows r t (inside_before r l))
    ];
    joined = λ r c t l free.
        let j = h.each r t (inside r l) in
        let stays : (c < p.splits + 1) ⊎ (p.splits + 1 + count ≤ c)
        → is_among c (slice_index_or z.turns r t).knows.used ≡ false =
        λ o. j.used c o ∙ g.joined r c t (inside_before r l) (sym (j.others c o) ∙ free) in
        elim (cases_lt c (p.splits + 1)) [
          | inl below ↦ stays (inl below)
          | inr least ↦ elim (cases_lt c (p.splits + 1 + count)) [
            | inl among ↦ let e = j.these c least among in let none : Some e.0 ≡ None = sym e.1 ∙ free in absurd cc
            | inr above ↦ stays (inr above)
          ]
        ];
  }

  stays : (total : ℕ) → count ≤ total → Stays (p.splits + 1) total p.turns z.turns
  stays total fewer =
      let n : length z.turns ≡ length p.turns = h.of_after.same ∙ sym h.of.same in
      let at : List (List Entry) → ℕ → List Entry = λ l index. slice_index_or l index [] in
      record {
        as_many = n;
        mine = λ index. ap (λ l. at l index)
            (read_alike (λ (t : Known). t.knows.mine) (λ (t : Known). t.knows.mine) z.turns p.turns n
            (λ r t l. (h.each r t (inside r l)).mine));
        others = λ c o index.
            let calls : Known → List Entry = λ t. calls_in (ended_of c t.knows.ended) in
            ap (λ l. at l index) (read_alike calls calls z.turns p.turns n
            (λ r t l. ap calls_in ((h.each r t (inside r l)).others c (wider (p.splits + 1) count total c fewer o))));
      }

  all_see_more : (total : ℕ) → count ≤ total → IsGathered p → AllSeeMore (p.splits + 1) total p.turns z.turns
  all_see_more total fewer g r t l =
      let b : r < length locks = omega (arith, l, h.of.same) in
      let l' : r < length z.turns = omega (arith, l, h.of.same, h.of_after.same) in
      let g' = gathered g in
      sees_more (p.splits + 1) count (slice_index_or p.turns r t) (slice_index_or z.turns r t) (h.each r t b)
      (g.first r t l) (g.knows r t l) (g'.knows r t l') (λ c. g.joined r c t l) (λ c. g'.joined r c t l') total fewer

leaves : (locks : List Lock) (total : ℕ) (p q z : PassView) (ws : List Worker) (rs : List (Option Results))
    → AreOf locks p.turns → HasParted locks (length ws) p q → AreWorked locks (p.splits + 1) ws → AllGoOn locks p ws
    → length ws ≤ total → FinishedTo locks q z ws rs → LeavesRoot total p z
leaves locks total p q z ws rs a i o s fewer f =
    let count : ℕ = length ws in
    let h : IsWholeRound locks count p z = whole locks p q z ws rs a i o s f in
    let m : p.out + count - count ≡ p.out = omega arith in
    record {
      same = let e = i.same in let e' = f.same in grind (arith, e, e', m);
      stays = stays locks count p z h total fewer;
      gathered = gathered locks count p z h;
      seen = all_see_more locks count p z h total fewer;
    }

-- ---- a round that was started
-- a pass was split off for each of these workers, for at most so many scripts
pub record IsStartedBy (locks : List Lock) (round total : ℕ) (p q : PassView) (names : Names)
    (ws : List Worker) : Type 0 where
  pub of : AreOf locks p.turns
  pub parted : HasParted locks (length ws) p q
  pub begun : AllStarted locks (p.splits + 1) round p names ws
  pub few : length ws ≤ total

pub started_by : (locks : List Lock) (round scripts total : ℕ) (p q : PassView) (names : Names) (ws : List Worker) (n : ℕ)
    → n ≡ length ws → AreOf locks p.turns → HasParted locks n p q
    → ((i : ℕ) (w : Worker) → i < n → IsBegun locks (p.splits + 1 + i) round p names (slice_index_or ws i w))
    → n ≤ scripts → scripts ≡ total → IsStartedBy locks round total p q names ws
started_by locks round scripts total p q names ws n same of parted begun few all = record {
  of = of;
  parted = subst (λ (k : ℕ). HasParted locks k p q) same parted;
  begun = λ i w l. begun i w (omega (arith, l, same));
  few = omega (arith, few, same, all);
}

module _ (locks : List Lock) (round total : ℕ) (p q : PassView) (names : Names) (ws : List Worker)
    (s : IsStartedBy locks round total p q names ws) where
  -- it may end before the scripts are run
  pub leaves_begun : (z : PassView) (rs : List (Option Results)) → FinishedTo locks q z ws rs → LeavesRoot total p z
  leaves_begun z rs =
      leaves locks total p q z ws rs s.of s.parted (worked_begun locks (p.splits + 1) round p names ws s.begun)
      (begun_seen locks (p.splits + 1) round p names ws s.begun) s.few

  -- or after they were
  pub worked : (vs : List Worker) → length vs ≡ length ws → AllRan locks ws vs → AreWorked locks (p.splits + 1) vs
  worked vs n ran = worked_run locks (p.splits + 1) round p names ws vs n s.begun ran

  pub parted_run : (vs : List Worker) → length vs ≡ length ws → HasParted locks (length vs) p q
  parted_run vs n = subst (λ (k : ℕ). HasParted locks k p q) (sym n) s.parted

  pub leaves_run : (vs : List Worker) → length vs ≡ length ws → AllRan locks ws vs → (z : PassView)
      (rs : List (Option Results)) → FinishedTo locks q z vs rs → LeavesRoot total p z
  leaves_run vs n ran z rs =
      leaves locks total p q z vs rs s.of (parted_run vs n) (worked vs n ran)
      (run_seen locks (p.splits + 1) round p names ws vs n s.begun ran) (omega (arith, n, s.few))

-- ---- the results
-- the entries of a worker are those of its script
pub record IsMade (c : Config) (round : ℕ) (names : Names) (caller : ℕ) (own : Own) (w : Worker)
    (rs : Results) : Type 0 where
  pub round_is : rs.round ≡ round
  pub thread_is : rs.thread ≡ w.script.now.thread
  pub run : RunsAllSteps (record { config = c; caller = caller; round = round; thread = w.script.now.thread }) names
      w.script.now.steps rs.items (seen_in w.scope) own

pub runs_round : (c : Config) (own : ℕ → Own) (caller round : ℕ) (names now : Names) (ws : List Worker) (rs : List Results)
    → map (λ (r : Results). Some r) rs ≡ map (λ (w : Worker). w.results) ws
    → ((i : ℕ) (w : Worker) (r : Results) → i < length ws → (slice_index_or ws i w).results ≡ Some r
    → IsMade c round names (caller + i) (own (caller + i)) (slice_index_or ws i w) r)
    → RunsRound c own caller round names now (map (λ (w : Worker). w.script.now) ws) rs (all_settled now ws)
runs_round c own caller round names now [] [] e all = (refl, refl)
runs_round c own caller round names now [] (r ∷ rs) e all = absurd cc
runs_round c own caller round names now (w ∷ ws) [] e all = absurd cc
runs_round c own caller round names now (w ∷ ws) (r ∷ rs) e all =
    let first : Some r ≡ w.results = cc in
    let others : map (λ (r : Results). Some r) rs ≡ map (λ (w : Worker). w.results) ws = cc in
    let here : caller + 0 ≡ caller = omega arith in
    let m : IsMade c round names caller (own caller) w r =
    subst (λ (k : ℕ). IsMade c round names k (own k) w r) here (all 0 w r (omega arith) (sym first)) in
    record {
      result = r;
      later = rs;
      results_are = refl;
      round_is = m.round_is;
      thread_is = m.thread_is;
      last = seen_in w.scope;
      run = m.run;
      rest = runs_round c own (caller + 1) round names (settled now w.script.now.steps (seen_in w.scope)) ws rs others
          (λ i v x l is.
          let next : caller + suc i ≡ caller + 1 + i = omega arith in
          subst (λ (k : ℕ). IsMade c round names k (own k) (slice_index_or ws i v) x) next
          (all (suc i) v x (omega (arith, l)) is));
    }

-- what a joined worker made is what the first pass knows of its caller
pub ended_is : (locks : List Lock) (p q z : PassView) (vs : List Worker) (rs : List (Option Results)) (i : ℕ) (w : Worker)
    → HasParted locks (length vs) p q → AreWorked locks (p.splits + 1) vs → FinishedTo locks q z vs rs → i < length vs
    → mine_of (slice_index_or vs i w).pass.turns ≡ ended_in z.turns (p.splits + 1 + i)
ended_is locks p q z vs rs i w a o f l =
    let us : List Known = (slice_index_or vs i w).pass.turns in
    let c : ℕ = p.splits + 1 + i in
    let long : length us ≡ length locks = (o.of i w l).same in
    let alike : map (λ (y : Known). y.knows.mine) us ≡ map (λ (y : Known). calls_in (ended_of c y.knows.ended)) z.turns =
    read_alike (λ (y : Known). y.knows.mine) (λ (y : Known). calls_in (ended_of c y.knows.ended)) us z.turns
    (long ∙ sym f.of.same)
    (λ r t b.
    let inside : r < length locks = omega (arith, b, long) in
    let order = in_order locks (p.splits + 1) r vs o inside in
    sym (ap calls_in (ap (λ (h : PassView). ended_of c (slice_index_or h.turns r t).knows.ended) f.same
    ∙ knows (length locks) r t inside (p.splits + 1) i q.turns vs w a.of.same order l))) in
    fun_ext (λ index. ap (λ (calls : List (List Entry)). slice_index_or calls index []) alike)

abbrev pub AllMade : Config → List Worker → List Worker → Type 0
AllMade c ws vs = (i : ℕ) (w : Worker) → i < length ws → KeepsMade c (slice_index_or ws i w) (slice_index_or vs i w)

abbrev pub AllSame : List Worker → List Worker → Type 0
AllSame ws vs = (i : ℕ) (w : Worker) → i < length ws → (slice_index_or vs i w).script ≡ (slice_index_or ws i w).script

pub is_made : (c : Config) (locks : List Lock) (round total : ℕ) (p q z : PassView) (names : Names) (ws vs : List Worker)
    (found : List (Option Results)) → IsStartedBy locks round total p q names ws → length vs ≡ length ws
    → AllRan locks ws vs → AllMade c ws vs → AllSame ws vs → FinishedTo locks q z vs found
    → (i : ℕ) (w : Worker) (r : Results) → i < length vs → (slice_index_or vs i w).results ≡ Some r
    → IsMade c round names (p.splits + 1 + i) (ended_in z.turns (p.splits + 1 + i)) (slice_index_or vs i w) r
is_made c locks round total p q z names ws vs found s n ran h same f i w r l is =
    let l' : i < length ws = omega (arith, l, n) in
    let v : Worker = slice_index_or vs i w in
    let u : Worker = slice_index_or ws i w in
    let begun = s.begun i w l' in
    let script : u.script.now ≡ v.script.now = sym (ap (λ s. s.now) (same i w l')) in
    let thread : u.pass.thread ≡ v.script.now.thread = begun.ready.thread ∙ ap (λ (s : ScriptView). s.thread) script in
    let own : mine_of v.pass.turns ≡ ended_in z.turns (p.splits + 1 + i) =
    ended_is locks p q z vs found i w (parted_run locks round total p q names ws s vs n)
    (worked locks round total p q names ws s vs n ran) f l in
    let m : HasMade c u.pass v.pass u.script.now (seen_in u.scope) r (seen_in v.scope) =
    subst (λ (x : Option Results). IfSome x (λ rs. HasMade c u.pass v.pass u.script.now (seen_in u.scope) rs (seen_in v.scope)))
    is (h i w l') in
    record {
      round_is = m.round_is ∙ begun.round_is;
      thread_is = m.thread_is ∙ ap (λ (s : ScriptView). s.thread) script;
      run =
          transport
          (λ j. RunsAllSteps (record { config = c; caller = begun.caller_is j; round = begun.round_is j; thread = thread j })
          (begun.names_are j) (script j).steps r.items (seen_in v.scope) (own j)) m.run;
    }

-- what a run answered, as a worker keeps it
pub made_of : (r : Result Results NoMemory) (o : Option Results) (c : Config) (p q : PassView) (s : ScriptView)
    (names last : Names) → o ≡ result_ok r → IfOk r (λ rs. (rs.round ≡ p.round) × (rs.thread ≡ s.thread))
    → IfOk r (λ rs. RunsAllSteps (record { config = c; caller = p.caller; round = p.round; thread = p.thread }) names s.steps
    rs.items last (mine_of q.turns))
    → IfSome o (λ rs. HasMade c p q s names rs last)
made_of r o c p q s names last e numbers ran = kept_ok r o (λ rs. HasMade c p q s names rs last) e (by r numbers ran)
  where
    by : (r : Result Results NoMemory) → IfOk r (λ rs. (rs.round ≡ p.round) × (rs.thread ≡ s.thread))
        → IfOk r (λ rs. RunsAllSteps (record { config = c; caller = p.caller; round = p.round; thread = p.thread }) names s.steps
        rs.items last (mine_of q.turns))
        → IfOk r (λ rs. HasMade c p q s names rs last)
    by (Err none) numbers ran = tt
    by (Ok rs) numbers ran = record { round_is = numbers.0; thread_is = numbers.1; run = ran }

-- the scripts of the workers are those of the round
pub scripts_are : (ws vs : List Worker) (scripts : List ScriptView) → length vs ≡ length ws
    → length ws ≡ length scripts → AllSame ws vs
    → ((i : ℕ) (w : Worker) (s : ScriptView) → i < length ws → (slice_index_or ws i w).script.now ≡ slice_index_or scripts i s)
    → map (λ (w : Worker). w.script.now) vs ≡ scripts
scripts_are ws vs scripts n m same is =
    let long : length (map (λ (w : Worker). w.script.now) vs) ≡ length vs =
    length-map vs (λ (w : Worker). w.script.now) in
    same_lists (map (λ (w : Worker). w.script.now) vs) scripts (long ∙ n ∙ m)
    (λ i s l.
    let b : i < length vs = omega (arith, l, long) in
    let w : Worker = some_of vs i b in
    get_or-map (λ (w : Worker). w.script.now) vs i w s b ∙ ap (λ s. s.now) (same i w (omega (arith, b, n)))
    ∙ is i w s (omega (arith, b, n)))
