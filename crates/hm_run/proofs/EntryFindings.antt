-- A trace that was run has a finding exactly where an entry's reply is one, or an answer is one of a step's own.
use Rattle.std.proofs.Common.{◌≡◌, ⊎_elim, ℕ, zero, suc, ◌+◌, ◌<◌, ◌≤◌, ◌==◌, Bool, true, false, cond, ◌||◌, List, [], ◌∷◌, ◌++◌, length, map, slice_index_or, count_by, Option, Some, None, arith, refl, ap, sym, ◌∙◌, subst, eq-eqb, true≢false}
use Rattle.std.specs.List.{AllByRecursion as EachIs, list_any, flat_map}
use Rattle.std.proofs.lemmas.Bool.{cases_Bool, cases_eq, cases_lt, cond_both, lt-ltb, le-ltb}
use Rattle.std.proofs.lemmas.List.{get_or-map}
use Rattle.std.proofs.lemmas.List.Folds.{list_any-append}
use Rattle.std.proofs.lemmas.List.Sums.{sum_by-cons}
use mathlib.Core.Logic.{inl, inr}
use Rattle.hm_model.specs.declared.answer.Answer.{Answer}
use Rattle.hm_model.specs.declared.entry.Entry.{Entry}
use Rattle.hm_model.specs.declared.entry.Who.{Who}
use Rattle.hm_model.specs.Entries.{calls_of}
use Rattle.hm_report.specs.declared.results.Results.{Results}
use Rattle.hm_report.specs.declared.results.StepResult.{StepResult}
use Rattle.hm_report.specs.Findings.{is_finding_reply, is_finding_answer, is_finding, is_found_in, has_finding}
use Rattle.hm_sizes.specs.declared.config.Config.{Config}
use Rattle.hm_trace.specs.Views.{ScriptView, StepView}
use Rattle.hm_heap.specs.declared.close.History.{History}
use Rattle.hm_heap.specs.Plans.{Plan, Done, Part}
use Rattle.hm_replay.specs.Names.{Names, no_names, settled}
use Rattle.hm_replay.specs.Replays.{AreReplayed}
use Rattle.hm_replay.specs.Rounds.{RunsRound, RunsRounds, AreOfCallers, script_count, own_in}
use Rattle.hm_replay.specs.Scripts.{RunsSteps}
use Rattle.hm_replay.specs.Steps.{Terms, who_at, Steps, base_of, names_after}
use Rattle.hm_replay.specs.Uses.{Own, Stay, Takes, Uses, used_up}
use Rattle.hm_replay.proofs.Entries.{callers_of}
use Rattle.hm_stats.specs.Tables.{entries_of, table_of}
use Rattle.hm_stats.specs.Tallies.{tally_of}
use Rattle.hm_run.specs.Findings.{is_own_answer, is_own, is_own_in, has_own_finding, counts_finding}
use Rattle.hm_run.proofs.PlanFindings.{Stops, Tells, step_tells}

or_right : (a b : Bool) → b ≡ true → (a || b) ≡ true
or_right true b h = refl
or_right false b h = h

or_left : (a b : Bool) → a ≡ true → (a || b) ≡ true
or_left a b h = ap (λ x. x || b) h

stops_at : (who : ℕ → Who) (n : ℕ) (plan : Plan) (a : Answer) (xs ys : Own) → Stops plan → Uses who n plan a xs ys
    → (is_finding_answer a ≡ true) × Stay xs ys
stops_at who n (Done b) a xs ys s u = (ap is_finding_answer u.0 ∙ s, u.1)
stops_at who n (Part p call next) a xs ys s u = absurd s

-- ---- where an entry's reply is a finding, an answer is one
module _ (G : Type 0) where
  abbrev Shows : Entry → Type 0
  Shows e = is_finding_reply e.reply ≡ true → G

  -- where each entry that is left passes, each one before passes too
  abbrev AllBefore : Own → Own → Type 0
  AllBefore xs ys = (index : ℕ) → EachIs Shows (ys index) → EachIs Shows (xs index)

  stayed : (xs ys : Own) → Stay xs ys → AllBefore xs ys
  stayed xs ys same index = subst (λ (l : List Entry). EachIs Shows l) (same index)

  taken : (p : ℕ) (e : Entry) (xs left : Own) → Takes p e xs left → Shows e → AllBefore xs left
  taken p e xs left takes of index rest = elim (cases_eq index p) [
    | inl s ↦
        subst (λ (n : ℕ). EachIs Shows (xs n)) (sym s)
        (subst (λ (l : List Entry). EachIs Shows l) (sym takes.here) (of, subst (λ (n : ℕ). EachIs Shows (left n)) s rest))
    | inr n ↦ subst (λ (l : List Entry). EachIs Shows l) (takes.elsewhere index n) rest
  ]

  uses_show : (who : ℕ → Who) (n : ℕ) (plan : Plan) (a : Answer) (xs ys : Own) → Tells plan
      → (is_finding_answer a ≡ true → G) → Uses who n plan a xs ys → AllBefore xs ys
  uses_show who n (Done b) a xs ys tells shows u index rest = stayed xs ys u.1 index rest
  uses_show who n (Part p call next) a xs ys tells shows u index rest =
      let reply = u.entry.reply in
      ⊎_elim
      (λ (found : is_finding_reply reply ≡ true).
      let s = stops_at who (n + 1) (next reply) a u.left ys ((tells reply).0 found) u.rest in
      taken p u.entry xs u.left u.takes (λ is. shows s.0) index (stayed u.left ys s.1 index rest))
      (λ (none : is_finding_reply reply ≡ false).
      taken p u.entry xs u.left u.takes (λ is. absurd (true≢false (sym is ∙ none))) index
      (uses_show who (n + 1) (next reply) a u.left ys ((tells reply).1 none) shows u.rest index rest))
      (cases_Bool (is_finding_reply reply))

  step_show : (t : Terms) (number : ℕ) (step : StepView) (o : Option ℕ) (r : StepResult) (xs ys : Own)
      → (is_finding r ≡ true → G) → Steps t number step o r xs ys → AllBefore xs ys
  step_show t number step None r xs ys shows s = stayed xs ys s.1
  step_show t number step (Some base) r xs ys shows s =
      uses_show (λ part. who_at t number part) 1 s.answers.plan s.answer xs ys
      (step_tells t.config t.thread step base s.answers.plan s.answers.is)
      (λ found. shows (ap is_finding s.result ∙ found)) s.answers.uses

  runs_show : (t : Terms) (n : ℕ) (names : Names) (steps : List StepView) (rs : List StepResult) (last : Names) (xs ys : Own)
      → (list_any is_finding rs ≡ true → G) → RunsSteps t n names steps rs last xs ys → AllBefore xs ys
  runs_show t n names [] rs last xs ys shows ran index rest = stayed xs ys ran.2 index rest
  runs_show t n names (s ∷ steps) rs last xs ys shows ran index rest =
      let all = ap (list_any is_finding) ran.results_are in
      step_show t n s (base_of names s) ran.result xs ran.left
      (λ found. shows (all ∙ or_left (is_finding ran.result) (list_any is_finding ran.later) found)) ran.this index
      (runs_show t (n + 1) (names_after names s ran.result.answer) steps ran.later last ran.left ys
      (λ found. shows (all ∙ or_right (is_finding ran.result) (list_any is_finding ran.later) found)) ran.rest index rest)

  round_show : (c : Config) (own : ℕ → Own) (caller round : ℕ) (names now after : Names) (scripts : List ScriptView)
      (results : List Results) (k index : ℕ) → (has_finding results ≡ true → G) → caller ≤ k
      → k < caller + length scripts → RunsRound c own caller round names now scripts results after
      → EachIs Shows (own k index)
  round_show c own caller round names now after [] results k index shows l m ran = absurd (omega (arith, l, m))
  round_show c own caller round names now after (s ∷ scripts) results k index shows l m ran =
      let all = ap has_finding ran.results_are in
      elim (cases_eq k caller) [
        | inl same ↦
            subst (λ (n : ℕ). EachIs Shows (own n index)) (sym same)
            (runs_show (record { config = c; caller = caller; round = round; thread = s.thread }) 1 names s.steps
            ran.result.items ran.last (own caller) used_up
            (λ found. shows (all ∙ or_left (is_found_in ran.result) (has_finding ran.later) found)) ran.run index tt)
        | inr other ↦
            round_show c own (caller + 1) round names (settled now s.steps ran.last) after scripts ran.later k index
            (λ found. shows (all ∙ or_right (is_found_in ran.result) (has_finding ran.later) found))
            (omega (arith, l, other)) (omega (arith, m)) ran.rest
      ]

  rounds_show : (c : Config) (own : ℕ → Own) (caller round : ℕ) (names last : Names) (rounds : List (List ScriptView))
      (results : List Results) (k index : ℕ) → (has_finding results ≡ true → G) → caller ≤ k
      → k < caller + script_count rounds → RunsRounds c own caller round names rounds results last
      → EachIs Shows (own k index)
  rounds_show c own caller round names last [] results k index shows l m ran = absurd (omega (arith, l, m))
  rounds_show c own caller round names last (scripts ∷ rounds) results k index shows l m ran =
      let all = ap has_finding ran.results_are ∙ list_any-append is_found_in ran.these ran.later in
      elim (cases_lt k (caller + length scripts)) [
        | inl below ↦
            round_show c own caller round names names ran.after scripts ran.these k index
            (λ found. shows (all ∙ or_left (has_finding ran.these) (has_finding ran.later) found)) l below ran.this
        | inr above ↦
            rounds_show c own (caller + length scripts) (round + 1) ran.after last rounds ran.later k index
            (λ found. shows (all ∙ or_right (has_finding ran.these) (has_finding ran.later) found))
            above (omega (arith, m)) ran.rest
      ]

  -- ---- entries of a history
  head_of : (b : Bool) (e : Entry) (es : List Entry) → b ≡ true → EachIs Shows (cond b (e ∷ es) es) → Shows e
  head_of true e es is all = all.0
  head_of false e es is all = absurd (true≢false (sym is))

  tail_of : (b : Bool) (e : Entry) (es : List Entry) → EachIs Shows (cond b (e ∷ es) es) → EachIs Shows es
  tail_of true e es all = all.1
  tail_of false e es all = all

  all_of : (first count : ℕ) (es : List Entry) → ((k : ℕ) → first ≤ k → k < first + count → EachIs Shows (calls_of es k))
      → AreOfCallers first count es → EachIs Shows es
  all_of first count [] each of = tt
  all_of first count (e ∷ es) each of = (
    head_of (e.who.caller == e.who.caller) e (calls_of es e.who.caller) (eq-eqb e.who.caller e.who.caller refl)
        (each e.who.caller of.0 of.1),
    all_of first count es (λ k l m. tail_of (e.who.caller == k) e (calls_of es k) (each k l m)) of.2,
  )

  history_shows : (c : Config) (hs : List History) (rounds : List (List ScriptView)) (results : List Results) (last : Names)
      → (has_finding results ≡ true → G) → AreReplayed c hs rounds results last
      → (r : ℕ) (h : History) → r < length hs → EachIs Shows (slice_index_or hs r h).entries
  history_shows c hs rounds results last shows a r h l =
      all_of 1 (script_count rounds) (slice_index_or hs r h).entries
      (λ k least most.
      subst (λ (es : List Entry). EachIs Shows (calls_of es k)) (get_or-map (λ (h : History). h.entries) hs r h [] l)
      (rounds_show c (own_in hs) 1 1 no_names last rounds results k r shows least most a.ran))
      (callers_of 1 rounds (slice_index_or hs r h).entries (a.histories r h l))

  some_shows : (es : List Entry) → EachIs Shows es → 0 < count_by (λ (e : Entry). is_finding_reply e.reply) es → G
  some_shows [] all some = absurd (omega (arith, some))
  some_shows (e ∷ es) all some =
      ⊎_elim
      (λ (found : is_finding_reply e.reply ≡ true). all.0 found)
      (λ (none : is_finding_reply e.reply ≡ false).
      let zero : ◌≡◌ {A = ℕ} (cond (is_finding_reply e.reply) 1 0) 0 = ap (λ b. cond b 1 0) none in
      some_shows es all.1 (omega (arith, some, zero, sum_by-cons (λ (e : Entry). cond (is_finding_reply e.reply) 1 0) e es)))
      (cases_Bool (is_finding_reply e.reply))

-- ---- where no entry's reply is a finding, an answer is one of the step's own alone
abbrev IsQuiet : Entry → Type 0
IsQuiet e = is_finding_reply e.reply ≡ false

abbrev Quiet : Own → Type 0
Quiet xs = (index : ℕ) → EachIs IsQuiet (xs index)

stay_quiet : (xs ys : Own) → Stay xs ys → Quiet xs → Quiet ys
stay_quiet xs ys same quiet index = subst (λ (l : List Entry). EachIs IsQuiet l) (sym (same index)) (quiet index)

take_quiet : (p : ℕ) (e : Entry) (xs left : Own) → Takes p e xs left → Quiet xs → IsQuiet e × Quiet left
take_quiet p e xs left takes quiet =
    let both = subst (λ (l : List Entry). EachIs IsQuiet l) takes.here (quiet p) in (
      both.0,
      λ index. elim (cases_eq index p) [
        | inl s ↦ subst (λ (n : ℕ). EachIs IsQuiet (left n)) (sym s) both.1
        | inr n ↦ subst (λ (l : List Entry). EachIs IsQuiet l) (sym (takes.elsewhere index n)) (quiet index)
      ],
    )

uses_quiet : (who : ℕ → Who) (n : ℕ) (plan : Plan) (a : Answer) (xs ys : Own) → Tells plan → Uses who n plan a xs ys
    → Quiet xs → (is_finding_answer a ≡ is_own_answer a) × Quiet ys
uses_quiet who n (Done b) a xs ys tells u quiet =
    (subst (λ (x : Answer). is_finding_answer x ≡ is_own_answer x) (sym u.0) tells, stay_quiet xs ys u.1 quiet)
uses_quiet who n (Part p call next) a xs ys tells u quiet =
    let rest = take_quiet p u.entry xs u.left u.takes quiet in
    uses_quiet who (n + 1) (next u.entry.reply) a u.left ys ((tells u.entry.reply).1 rest.0) u.rest rest.1

step_quiet : (t : Terms) (number : ℕ) (step : StepView) (o : Option ℕ) (r : StepResult) (xs ys : Own)
    → Steps t number step o r xs ys → Quiet xs → (is_finding r ≡ is_own r) × Quiet ys
step_quiet t number step None r xs ys s quiet =
    (subst (λ (x : StepResult). is_finding x ≡ is_own x) (sym s.0) refl, stay_quiet xs ys s.1 quiet)
step_quiet t number step (Some base) r xs ys s quiet =
    let used = uses_quiet (λ part. who_at t number part) 1 s.answers.plan s.answer xs ys
    (step_tells t.config t.thread step base s.answers.plan s.answers.is) s.answers.uses quiet in
    (ap is_finding s.result ∙ (used.0 ∙ sym (ap is_own s.result)), used.1)

both_or : (a b c d : Bool) → a ≡ b → c ≡ d → (a || c) ≡ (b || d)
both_or a b c d first second = ap (λ x. x || c) first ∙ ap (λ x. b || x) second

runs_quiet : (t : Terms) (n : ℕ) (names : Names) (steps : List StepView) (rs : List StepResult) (last : Names) (xs ys : Own)
    → RunsSteps t n names steps rs last xs ys → Quiet xs → list_any is_finding rs ≡ list_any is_own rs
runs_quiet t n names [] rs last xs ys ran quiet = ap (list_any is_finding) ran.0 ∙ sym (ap (list_any is_own) ran.0)
runs_quiet t n names (s ∷ steps) rs last xs ys ran quiet =
    let one = step_quiet t n s (base_of names s) ran.result xs ran.left ran.this quiet in
    let rest = runs_quiet t (n + 1) (names_after names s ran.result.answer) steps ran.later last ran.left ys ran.rest one.1 in
    ap (list_any is_finding) ran.results_are
    ∙ (both_or (is_finding ran.result) (is_own ran.result) (list_any is_finding ran.later) (list_any is_own ran.later) one.0 rest
    ∙ sym (ap (list_any is_own) ran.results_are))

module _ (c : Config) (own : ℕ → Own) (quiet : (caller : ℕ) → Quiet (own caller)) where
  round_quiet : (caller round : ℕ) (names now after : Names) (scripts : List ScriptView) (results : List Results)
      → RunsRound c own caller round names now scripts results after → has_finding results ≡ has_own_finding results
  round_quiet caller round names now after [] results ran = ap has_finding ran.0 ∙ sym (ap has_own_finding ran.0)
  round_quiet caller round names now after (s ∷ scripts) results ran =
      let one = runs_quiet (record { config = c; caller = caller; round = round; thread = s.thread }) 1 names s.steps
      ran.result.items ran.last (own caller) used_up ran.run (quiet caller) in
      let rest = round_quiet (caller + 1) round names (settled now s.steps ran.last) after scripts ran.later ran.rest in
      ap has_finding ran.results_are
      ∙ (both_or (is_found_in ran.result) (is_own_in ran.result) (has_finding ran.later) (has_own_finding ran.later) one rest
      ∙ sym (ap has_own_finding ran.results_are))

  rounds_quiet : (caller round : ℕ) (names last : Names) (rounds : List (List ScriptView)) (results : List Results)
      → RunsRounds c own caller round names rounds results last → has_finding results ≡ has_own_finding results
  rounds_quiet caller round names last [] results ran = ap has_finding ran.0 ∙ sym (ap has_own_finding ran.0)
  rounds_quiet caller round names last (scripts ∷ rounds) results ran =
      let one = round_quiet caller round names names ran.after scripts ran.these ran.this in
      let rest = rounds_quiet (caller + length scripts) (round + 1) ran.after last rounds ran.later ran.rest in
      ap has_finding ran.results_are
      ∙ (list_any-append is_found_in ran.these ran.later
      ∙ (both_or (has_finding ran.these) (has_own_finding ran.these) (has_finding ran.later) (has_own_finding ran.later) one rest
      ∙ (sym (list_any-append is_own_in ran.these ran.later) ∙ sym (ap has_own_finding ran.results_are))))

none_quiet : (es : List Entry) → count_by (λ (e : Entry). is_finding_reply e.reply) es ≡ 0 → EachIs IsQuiet es
none_quiet [] none = tt
none_quiet (e ∷ es) none =
    let all = sum_by-cons (λ (e : Entry). cond (is_finding_reply e.reply) 1 0) e es in (
      ⊎_elim
          (λ (found : is_finding_reply e.reply ≡ true).
          let one : ◌≡◌ {A = ℕ} (cond (is_finding_reply e.reply) 1 0) 1 = ap (λ b. cond b 1 0) found in
          absurd (omega (arith, none, one, all)))
          (λ (not : is_finding_reply e.reply ≡ false). not) (cases_Bool (is_finding_reply e.reply)),
      none_quiet es (omega (arith, none, all)),
    )

calls_quiet : (es : List Entry) (k : ℕ) → EachIs IsQuiet es → EachIs IsQuiet (calls_of es k)
calls_quiet [] k all = tt
calls_quiet (e ∷ es) k all =
    cond_both (e.who.caller == k) (e ∷ calls_of es k) (calls_of es k) (λ (l : List Entry). EachIs IsQuiet l)
    (λ is. (all.0, calls_quiet es k all.1)) (λ not. calls_quiet es k all.1)

-- ---- all histories
module _ (R : Entry → Type 0) where
  each_both : (es fs : List Entry) → EachIs R es → EachIs R fs → EachIs R (es ++ fs)
  each_both [] fs first second = second
  each_both (e ∷ es) fs first second = (first.0, each_both es fs first.1 second)

  each_first : (es fs : List Entry) → EachIs R (es ++ fs) → EachIs R es
  each_first [] fs all = tt
  each_first (e ∷ es) fs all = (all.0, each_first es fs all.1)

  each_second : (es fs : List Entry) → EachIs R (es ++ fs) → EachIs R fs
  each_second [] fs all = all
  each_second (e ∷ es) fs all = each_second es fs all.1

  all_histories : (hs : List History) → ((r : ℕ) (h : History) → r < length hs → EachIs R (slice_index_or hs r h).entries)
      → EachIs R (flat_map (λ (h : History). h.entries) hs)
  all_histories [] each = tt
  all_histories (h ∷ hs) each =
      each_both h.entries (flat_map (λ (h : History). h.entries) hs) (each 0 h (omega arith))
      (all_histories hs (λ r d l. each (suc r) d (omega (arith, l))))

  history_at : (hs : List History) (r : ℕ) → EachIs R (flat_map (λ (h : History). h.entries) hs)
      → EachIs R (slice_index_or (map (λ (h : History). h.entries) hs) r [])
  history_at [] r all = tt
  history_at (h ∷ hs) zero all = each_first h.entries (flat_map (λ (h : History). h.entries) hs) all
  history_at (h ∷ hs) (suc r) all = history_at hs r (each_second h.entries (flat_map (λ (h : History). h.entries) hs) all)

findings_are : (hs : List History)
    → (table_of hs).all.findings ≡ count_by (λ (e : Entry). is_finding_reply e.reply) (flat_map (λ (h : History). h.entries) hs)
unfolding table_of tally_of entries_of
findings_are hs = refl

pub findings_counted : (c : Config) (hs : List History) (rounds : List (List ScriptView)) (results : List Results) (last : Names)
    → AreReplayed c hs rounds results last → has_finding results ≡ (counts_finding hs || has_own_finding results)
findings_counted c hs rounds results last a = elim (cases_lt 0 (table_of hs).all.findings) [
  | inl some ↦
      let found : has_finding results ≡ true =
      some_shows (has_finding results ≡ true) (flat_map (λ (h : History). h.entries) hs)
      (all_histories _ hs (history_shows (has_finding results ≡ true) c hs rounds results last (λ is. is) a))
      (subst (λ (n : ℕ). 0 < n) (findings_are hs) some) in
      found ∙ sym (or_left (counts_finding hs) (has_own_finding results) (lt-ltb 0 (table_of hs).all.findings some))
  | inr none ↦
      let zero : count_by (λ (e : Entry). is_finding_reply e.reply) (flat_map (λ (h : History). h.entries) hs) ≡ 0 =
      omega (arith, none, findings_are hs) in
      let quiet : (caller : ℕ) → Quiet (own_in hs caller) =
      λ caller index. calls_quiet _ caller (history_at IsQuiet hs index (none_quiet _ zero)) in
      rounds_quiet c (own_in hs) quiet 1 1 no_names last rounds results a.ran
      ∙ sym (ap (λ b. b || has_own_finding results) (le-ltb 0 (table_of hs).all.findings none))
]
