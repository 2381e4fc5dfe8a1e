-- Each entry of the histories is of a step of a script of the trace.
use Rattle.std.proofs.Common.{◌≡◌, ℕ, ◌+◌, ◌<◌, ◌≤◌, ◌==◌, Bool, true, false, cond, List, [], ◌∷◌, ◌++◌, length, slice_index_or, Option, Some, None, arith, refl, ap, sym, subst, eq-eqb}
use Rattle.std.specs.List.{AllByRecursion as EachIs}
use Rattle.std.proofs.lemmas.Bool.{cases_eq, cases_lt}
use Rattle.std.proofs.lemmas.List.{get_or-map}
use mathlib.Core.Logic.{inl, inr}
use Rattle.hm_model.specs.declared.answer.Answer.{Answer}
use Rattle.hm_model.specs.declared.entry.Entry.{Entry}
use Rattle.hm_model.specs.declared.entry.Who.{Who}
use Rattle.hm_model.specs.Entries.{calls_of}
use Rattle.hm_report.specs.declared.results.Results.{Results}
use Rattle.hm_report.specs.declared.results.StepResult.{StepResult}
use Rattle.hm_sizes.specs.declared.config.Config.{Config}
use Rattle.hm_trace.specs.Views.{ScriptView, StepView}
use Rattle.hm_heap.specs.declared.close.History.{History}
use Rattle.hm_heap.specs.Plans.{Plan, Done, Part}
use Rattle.hm_replay.specs.Names.{Names, no_names, settled}
use Rattle.hm_replay.specs.Replays.{AreReplayed}
use Rattle.hm_replay.specs.Rounds.{RunsRound, RunsRounds, AreOfCallers, InRounds, IsOfRound, IsOfTrace, script_count, own_in}
use Rattle.hm_replay.specs.Scripts.{RunsSteps}
use Rattle.hm_replay.specs.Steps.{Terms, who_at, Steps, base_of, names_after}
use Rattle.hm_replay.specs.Uses.{Own, Stay, Takes, Uses, used_up}

module _ (P : Entry → Type 0) where
  -- ---- entries that are used up
  -- where each entry that is left passes, each one before passes too
  abbrev AllBefore : Own → Own → Type 0
  AllBefore xs ys = (index : ℕ) → EachIs P (ys index) → EachIs P (xs index)

  stayed : (xs ys : Own) → Stay xs ys → AllBefore xs ys
  stayed xs ys same index = subst (λ (l : List Entry). EachIs P l) (same index)

  taken : (p : ℕ) (e : Entry) (xs left : Own) → Takes p e xs left → P e → AllBefore xs left
  taken p e xs left takes of index rest = elim (cases_eq index p) [
    | inl s ↦
        subst (λ (n : ℕ). EachIs P (xs n)) (sym s)
        (subst (λ (l : List Entry). EachIs P l) (sym takes.here) (of, subst (λ (n : ℕ). EachIs P (left n)) s rest))
    | inr n ↦ subst (λ (l : List Entry). EachIs P l) (takes.elsewhere index n) rest
  ]

  uses_all : (who : ℕ → Who) (n : ℕ) (plan : Plan) (a : Answer) (xs ys : Own)
      → ((part : ℕ) (e : Entry) → e.who ≡ who part → P e) → Uses who n plan a xs ys → AllBefore xs ys
  uses_all who n (Done b) a xs ys of u index rest = stayed xs ys u.1 index rest
  uses_all who n (Part p call next) a xs ys of u index rest =
      taken p u.entry xs u.left u.takes (of n u.entry u.who_is) index
      (uses_all who (n + 1) (next u.entry.reply) a u.left ys of u.rest index rest)

  step_all : (t : Terms) (number : ℕ) (step : StepView) (o : Option ℕ) (r : StepResult) (xs ys : Own)
      → ((part : ℕ) (e : Entry) → e.who ≡ who_at t number part → P e) → Steps t number step o r xs ys → AllBefore xs ys
  step_all t number step None r xs ys of s = stayed xs ys s.1
  step_all t number step (Some base) r xs ys of s =
      uses_all (λ part. who_at t number part) 1 s.answers.plan s.answer xs ys of s.answers.uses

  runs_all : (t : Terms) (n : ℕ) (names : Names) (steps : List StepView) (rs : List StepResult) (last : Names) (xs ys : Own)
      → ((number part : ℕ) (e : Entry) → n ≤ number → number < n + length steps → e.who ≡ who_at t number part → P e)
      → RunsSteps t n names steps rs last xs ys → AllBefore xs ys
  runs_all t n names [] rs last xs ys of ran index rest = stayed xs ys ran.2 index rest
  runs_all t n names (s ∷ steps) rs last xs ys of ran index rest =
      step_all t n s (base_of names s) ran.result xs ran.left
      (λ part e. of n part e (omega arith) (omega arith)) ran.this index
      (runs_all t (n + 1) (names_after names s ran.result.answer) steps ran.later last ran.left ys
      (λ number part e l m. of number part e (omega (arith, l)) (omega (arith, m))) ran.rest index rest)

  round_all : (c : Config) (own : ℕ → Own) (caller round : ℕ) (names now after : Names) (scripts : List ScriptView)
      (results : List Results) (k index : ℕ) → ((e : Entry) → IsOfRound caller round scripts e → P e) → caller ≤ k
      → k < caller + length scripts → RunsRound c own caller round names now scripts results after
      → EachIs P (own k index)
  round_all c own caller round names now after [] results k index of l m ran = absurd (omega (arith, l, m))
  round_all c own caller round names now after (s ∷ scripts) results k index of l m ran = elim (cases_eq k caller) [
    | inl same ↦ subst (λ (n : ℕ). EachIs P (own n index)) (sym same)
        (runs_all (record { config = c; caller = caller; round = round; thread = s.thread }) 1 names s.steps
        ran.result.items ran.last (own caller) used_up
        (λ number part e least most is. of e (inl (record {
          caller_is = ap (λ (w : Who). w.caller) is;
          round_is = ap (λ (w : Who). w.round) is;
          thread_is = ap (λ (w : Who). w.thread) is;
          step_least = subst (λ (n : ℕ). 1 ≤ n) (sym (ap (λ (w : Who). w.step) is)) least;
          step_most = subst (λ (n : ℕ). n ≤ length s.steps) (sym (ap (λ (w : Who). w.step) is)) (omega (arith, most));
        }))) ran.run index tt)
    | inr other ↦
        round_all c own (caller + 1) round names (settled now s.steps ran.last) after scripts ran.later k index
        (λ e is. of e (inr is))
        (omega (arith, l, other)) (omega (arith, m)) ran.rest
  ]

  rounds_all : (c : Config) (own : ℕ → Own) (caller round : ℕ) (names last : Names) (rounds : List (List ScriptView))
      (results : List Results) (k index : ℕ) → ((e : Entry) → IsOfTrace caller round rounds e → P e) → caller ≤ k
      → k < caller + script_count rounds → RunsRounds c own caller round names rounds results last
      → EachIs P (own k index)
  rounds_all c own caller round names last [] results k index of l m ran = absurd (omega (arith, l, m))
  rounds_all c own caller round names last (scripts ∷ rounds) results k index of l m ran =
      elim (cases_lt k (caller + length scripts)) [
        | inl below ↦
            round_all c own caller round names names ran.after scripts ran.these k index
            (λ e is. of e (inl is)) l below ran.this
        | inr above ↦
            rounds_all c own (caller + length scripts) (round + 1) ran.after last rounds ran.later k index
            (λ e is. of e (inr is))
            above (omega (arith, m)) ran.rest
      ]

  -- ---- entries of a history
  head_of : (b : Bool) (e : Entry) (es : List Entry) → b ≡ true → EachIs P (cond b (e ∷ es) es) → P e
  head_of true e es is all = all.0
  head_of false e es is all = absurd cc

  tail_of : (b : Bool) (e : Entry) (es : List Entry) → EachIs P (cond b (e ∷ es) es) → EachIs P es
  tail_of true e es all = all.1
  tail_of false e es all = all

  all_of : (first count : ℕ) (es : List Entry) → ((k : ℕ) → first ≤ k → k < first + count → EachIs P (calls_of es k))
      → AreOfCallers first count es → EachIs P es
  all_of first count [] each of = tt
  all_of first count (e ∷ es) each of = (
    head_of (e.who.caller == e.who.caller) e (calls_of es e.who.caller) (eq-eqb e.who.caller e.who.caller refl)
        (each e.who.caller of.0 of.1),
    all_of first count es (λ k l m. tail_of (e.who.caller == k) e (calls_of es k) (each k l m)) of.2,
  )

-- callers of fewer are callers of more
more_callers : (first count least total : ℕ) (es : List Entry) → least ≤ first → first + count ≤ least + total
    → AreOfCallers first count es → AreOfCallers least total es
more_callers first count least total [] l m of = tt
more_callers first count least total (e ∷ es) l m of = (
  let a = of.0 in omega (arith, a, l),
  let b = of.1 in omega (arith, b, m),
  more_callers first count least total es l m of.2,
)

both_callers : (first count : ℕ) (es fs : List Entry) → AreOfCallers first count es → AreOfCallers first count fs
    → AreOfCallers first count (es ++ fs)
both_callers first count [] fs a b = b
both_callers first count (e ∷ es) fs a b = (a.0, a.1, both_callers first count es fs a.2 b)

pub callers_of : (caller : ℕ) (rounds : List (List ScriptView)) (es : List Entry) → InRounds caller rounds es
    → AreOfCallers caller (script_count rounds) es
callers_of caller [] es seen = subst (AreOfCallers caller 0) (sym seen) tt
callers_of caller (scripts ∷ rounds) es seen =
    let here : ℕ = length scripts in
    let rest : ℕ = script_count rounds in
    subst (AreOfCallers caller (here + rest)) (sym seen.2)
    (both_callers caller (here + rest) seen.0 seen.1
    (more_callers caller here caller (here + rest) seen.0 (omega arith) (omega arith) seen.3)
    (more_callers (caller + here) rest caller (here + rest) seen.1 (omega arith) (omega arith)
    (callers_of (caller + here) rounds seen.1 seen.4)))

pub all_of_trace : (c : Config) (hs : List History) (rounds : List (List ScriptView)) (results : List Results) (last : Names)
    → AreReplayed c hs rounds results last
    → (r : ℕ) (h : History) → r < length hs → EachIs (IsOfTrace 1 1 rounds) (slice_index_or hs r h).entries
all_of_trace c hs rounds results last a r h l =
    let P : Entry → Type 0 = IsOfTrace 1 1 rounds in
    all_of P 1 (script_count rounds) (slice_index_or hs r h).entries
    (λ k least most.
    subst (λ (l : List Entry). EachIs P (calls_of l k)) (get_or-map (λ (h : History). h.entries) hs r h [] l)
    (rounds_all P c (own_in hs) 1 1 no_names last rounds results k r (λ e is. is) least most a.ran))
    (callers_of 1 rounds (slice_index_or hs r h).entries (a.histories r h l))
