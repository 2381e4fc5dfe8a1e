-- The entries that each step of a run added: from the parts of its plan, step by step, script by script, round by round.
use Rattle.std.proofs.Common.{◌≡◌, ◌≢◌, ◌⊎◌, inl, inr, ⊎_elim, ℕ, zero, suc, ◌+◌, ◌-◌, ◌<◌, ◌≤◌, ◌==◌, Bool, true, false, cond, List, [], ◌∷◌, ◌++◌, length, Option, Some, None, sym, ◌∙◌, ap, subst, refl, arith}
use Rattle.std.specs.Prelude.{slice_get, ⊤}
use Rattle.std.specs.List.{filter}
use Rattle.std.proofs.lemmas.Bool.{cases_eq, cases_lt, eq-eqb, ne_eqb}
use Rattle.std.proofs.lemmas.Option.{none-some, same_Some}
use Rattle.hm_model.specs.declared.answer.Answer.{Answer}
use Rattle.hm_model.specs.declared.entry.Entry.{Entry}
use Rattle.hm_model.specs.declared.entry.Who.{Who}
use Rattle.hm_report.specs.declared.results.Results.{Results}
use Rattle.hm_report.specs.declared.results.StepResult.{StepResult}
use Rattle.hm_sizes.specs.declared.config.Config.{Config}
use Rattle.hm_trace.specs.Views.{ScriptView, StepView}
use Rattle.hm_heap.specs.Plans.{Plan, Done, Part}
use Rattle.hm_replay.specs.Names.{Names, settled}
use Rattle.hm_replay.specs.Rounds.{RunsRound, RunsRounds}
use Rattle.hm_replay.specs.Scripts.{RunsSteps}
use Rattle.hm_replay.specs.Steps.{Terms, who_at, skipped, IsStepPlan, Steps, base_of, names_after}
use Rattle.hm_replay.specs.Uses.{Own, Takes, Uses, used_up}
use Rattle.hm_laws.specs.Steps.{Added, added_at, ArePartsFrom, all_scripts}

-- ---- the parts of a plan
-- these entries, in order, are its parts, and this is its answer
abbrev pub Runs : Plan → List Added → Answer → Type 0
Runs (Done b) [] a = a ≡ b
Runs (Done b) (x ∷ xs) a = ⊥
Runs (Part index call next) [] a = ⊥
Runs (Part index call next) (x ∷ xs) a = (x.index ≡ index) × (x.entry.call ≡ call) × Runs (next x.entry.reply) xs a

-- what is used up is these entries
abbrev Uses_up : List Added → Own → Own → Type 0
Uses_up added xs ys = (index : ℕ) → xs index ≡ added_at index added ++ ys index

-- they are parts of one step, numbered from this one on
abbrev AreParts : (ℕ → Who) → ℕ → List Added → Type 0
AreParts who n [] = ⊤
AreParts who n (x ∷ xs) = (x.entry.who ≡ who n) × AreParts who (n + 1) xs

record Parts_of (who : ℕ → Who) (n : ℕ) (plan : Plan) (a : Answer) (xs ys : Own) : Type 0 where
  added : List Added
  runs : Runs plan added a
  parts : AreParts who n added
  up : Uses_up added xs ys

taken : (index : ℕ) (e : Entry) (xs left ys : Own) (added : List Added) → Takes index e xs left → Uses_up added left ys
    → Uses_up (record { index = index; entry = e } ∷ added) xs ys
taken index e xs left ys added takes up other = ⊎_elim
    (λ same. subst (λ (n : ℕ). xs n ≡ added_at n (record { index = index; entry = e } ∷ added) ++ ys n) same
    (takes.here ∙ ap (λ (l : List Entry). e ∷ l) (up index)
    ∙ ap (λ (b : Bool). cond b (e ∷ added_at index added) (added_at index added) ++ ys index) (sym (eq-eqb index index refl))))
    (λ ne. sym (takes.elsewhere other (λ s. ne (sym s))) ∙ up other
    ∙ ap (λ (b : Bool). cond b (e ∷ added_at other added) (added_at other added) ++ ys other) (sym (ne_eqb index other ne)))
    (cases_eq index other)

parts_of : (who : ℕ → Who) (n : ℕ) (plan : Plan) (a : Answer) (xs ys : Own) → Uses who n plan a xs ys → Parts_of who n plan a xs ys
parts_of who n (Done b) a xs ys u = record { added = []; runs = u.0; parts = tt; up = λ index. sym (u.1 index) }
parts_of who n (Part index call next) a xs ys u =
    let later = parts_of who (n + 1) (next u.entry.reply) a u.left ys u.rest in
    record {
      added = record { index = index; entry = u.entry } ∷ later.added;
      runs = (refl, u.call_is, later.runs);
      parts = (u.who_is, later.parts);
      up = taken index u.entry xs u.left ys later.added u.takes later.up;
    }

-- ---- a step
-- its result: it was skipped, or some plan of it was answered so
abbrev pub IsDone : Config → ℕ → StepView → List Added → StepResult → Type 0
IsDone c thread step added r = ((r ≡ skipped) × (added ≡ []))
    ⊎ ((a : Answer) × (r ≡ record { base = r.base; answer = Some a }) × ((plan : Plan) × IsStepPlan c thread step r.base plan × Runs plan added a))

record Step_of (t : Terms) (number : ℕ) (step : StepView) (r : StepResult) (xs ys : Own) : Type 0 where
  added : List Added
  done : IsDone t.config t.thread step added r
  parts : AreParts (λ part. who_at t number part) 1 added
  up : Uses_up added xs ys

step_of : (t : Terms) (number : ℕ) (step : StepView) (o : Option ℕ) (r : StepResult) (xs ys : Own) → Steps t number step o r xs ys → Step_of t number step r xs ys
step_of t number step None r xs ys s = record { added = []; done = inl (s.0, refl); parts = tt; up = λ index. sym (s.1 index) }
step_of t number step (Some base) r xs ys s =
    let p = parts_of (λ part. who_at t number part) 1 s.answers.plan s.answer xs ys s.answers.uses in
    let base_is : r.base ≡ base = ap (λ (x : StepResult). x.base) s.result in
    record {
      added = p.added;
      done = inr (
        s.answer,
        s.result ∙ ap (λ (b : ℕ). record { base = b; answer = Some s.answer }) (sym base_is),
        (s.answers.plan, subst (λ (b : ℕ). IsStepPlan t.config t.thread step b s.answers.plan) (sym base_is) s.answers.is, p.runs),
      );
      parts = p.parts;
      up = p.up;
    }

-- ---- those of one step among all of a caller
filter_append : (f : Entry → Bool) (xs ys : List Entry) → filter f (xs ++ ys) ≡ filter f xs ++ filter f ys
filter_append f [] ys = refl
filter_append f (x ∷ xs) ys = by (f x) (filter_append f xs ys)
  where
    by : (b : Bool) → filter f (xs ++ ys) ≡ filter f xs ++ filter f ys
        → cond b (x ∷ filter f (xs ++ ys)) (filter f (xs ++ ys)) ≡ cond b (x ∷ filter f xs) (filter f xs) ++ filter f ys
    by true later = ap (λ (l : List Entry). x ∷ l) later
    by false later = later

-- all of this step, or none
all_of : (t : Terms) (number part : ℕ) (index : ℕ) (added : List Added) → AreParts (λ part. who_at t number part) part added
    → filter (λ (e : Entry). e.who.step == number) (added_at index added) ≡ added_at index added
all_of t number part index [] are = refl
all_of t number part index (x ∷ xs) are = by (x.index == index) (all_of t number (part + 1) index xs are.1)
  where
    step_is : (x.entry.who.step == number) ≡ true
    step_is = eq-eqb x.entry.who.step number (ap (λ (w : Who). w.step) are.0)

    by : (b : Bool) → filter (λ (e : Entry). e.who.step == number) (added_at index xs) ≡ added_at index xs
        → filter (λ (e : Entry). e.who.step == number) (cond b (x.entry ∷ added_at index xs) (added_at index xs)) ≡ cond b (x.entry ∷ added_at index xs) (added_at index xs)
    by true later = ap (λ (t : Bool). cond t (x.entry ∷ filter (λ (e : Entry). e.who.step == number) (added_at index xs)) (filter (λ (e : Entry). e.who.step == number) (added_at index xs))) step_is
        ∙ ap (λ (l : List Entry). x.entry ∷ l) later
    by false later = later

none_of : (t : Terms) (number other part : ℕ) (index : ℕ) (added : List Added) → number ≢ other → AreParts (λ part. who_at t number part) part added
    → filter (λ (e : Entry). e.who.step == other) (added_at index added) ≡ []
none_of t number other part index [] ne are = refl
none_of t number other part index (x ∷ xs) ne are = by (x.index == index) (none_of t number other (part + 1) index xs ne are.1)
  where
    step_is : (x.entry.who.step == other) ≡ false
    step_is = ne_eqb x.entry.who.step other (λ s. ne (sym (ap (λ (w : Who). w.step) are.0) ∙ s))

    by : (b : Bool) → filter (λ (e : Entry). e.who.step == other) (added_at index xs) ≡ []
        → filter (λ (e : Entry). e.who.step == other) (cond b (x.entry ∷ added_at index xs) (added_at index xs)) ≡ []
    by true later = ap (λ (t : Bool). cond t (x.entry ∷ filter (λ (e : Entry). e.who.step == other) (added_at index xs)) (filter (λ (e : Entry). e.who.step == other) (added_at index xs))) step_is
        ∙ later
    by false later = later

-- the steps from a number on add none of an earlier number
none_earlier : (t : Terms) (number other : ℕ) (names last : Names) (steps : List StepView) (results : List StepResult) (xs : Own) (index : ℕ) → other < number
    → RunsSteps t number names steps results last xs used_up → filter (λ (e : Entry). e.who.step == other) (xs index) ≡ []
none_earlier t number other names last [] results xs index lt ran = ap (λ (l : List Entry). filter (λ (e : Entry). e.who.step == other) l) (sym (ran.2 index))
none_earlier t number other names last (step ∷ steps) results xs index lt ran =
    let s = step_of t number step (base_of names step) ran.result xs ran.left ran.this in
    let is : Entry → Bool = λ (e : Entry). e.who.step == other in
    ap (λ (l : List Entry). filter is l) (s.up index) ∙ filter_append is (added_at index s.added) (ran.left index)
    ∙ ap (λ (l : List Entry). l ++ filter is (ran.left index)) (none_of t number other 1 index s.added (apart number other lt) s.parts)
    ∙ none_earlier t (number + 1) other (names_after names step ran.result.answer) last steps ran.later ran.left index (omega (arith, lt)) ran.rest
  where
    apart : (n m : ℕ) → m < n → n ≢ m
    apart n m lt same = omega (arith, lt, same)

append_none : (l : List Entry) → l ++ [] ≡ l
append_none [] = refl
append_none (x ∷ l) = ap (λ (m : List Entry). x ∷ m) (append_none l)

-- ---- the step at an index of a script
record At (c : Config) (thread number : ℕ) (step : StepView) (r : StepResult) (xs : Own) : Type 0 where
  added : List Added
  done : IsDone c thread step added r
  parts : ArePartsFrom 1 added
  all : (index : ℕ) → filter (λ (e : Entry). e.who.step == number) (xs index) ≡ added_at index added

numbered : (t : Terms) (number n : ℕ) (added : List Added) → AreParts (λ part. who_at t number part) n added → ArePartsFrom n added
numbered t number n [] are = tt
numbered t number n (x ∷ xs) are = (ap (λ (w : Who). w.part) are.0, numbered t number (n + 1) xs are.1)

at_step : (t : Terms) (number : ℕ) (names last : Names) (steps : List StepView) (results : List StepResult) (xs : Own) (k : ℕ) (step : StepView) (r : StepResult)
    → RunsSteps t number names steps results last xs used_up → slice_get steps k ≡ Some step → slice_get results k ≡ Some r → At t.config t.thread (number + k) step r xs
at_step t number names last [] results xs k step r ran is result_is = absurd (none-some step is)
at_step t number names last (first ∷ steps) results xs zero step r ran is result_is =
    let s = step_of t number first (base_of names first) ran.result xs ran.left ran.this in
    let f : Entry → Bool = λ (e : Entry). e.who.step == number in
    let same : ran.result ≡ r = same_Some ran.result r (sym (ap (λ (l : List StepResult). slice_get l 0) ran.results_are) ∙ result_is) in
    let here : At t.config t.thread number first ran.result xs = record {
      added = s.added;
      done = s.done;
      parts = numbered t number 1 s.added s.parts;
      all = λ index. ap (λ (l : List Entry). filter f l) (s.up index) ∙ filter_append f (added_at index s.added) (ran.left index)
          ∙ ap (λ (l : List Entry). l ++ filter f (ran.left index)) (all_of t number 1 index s.added s.parts)
          ∙ ap (λ (l : List Entry). added_at index s.added ++ l) (none_earlier t (number + 1) number (names_after names first ran.result.answer) last steps ran.later ran.left index (omega arith) ran.rest)
          ∙ append_none (added_at index s.added);
    } in
    subst (λ (n : ℕ). At t.config t.thread n step r xs) (next number)
    (subst (λ (x : StepResult). At t.config t.thread number step x xs) same
    (subst (λ (x : StepView). At t.config t.thread number x ran.result xs) (same_Some first step is) here))
  where
    next : (n : ℕ) → n ≡ n + 0
    next n = omega arith
at_step t number names last (first ∷ steps) results xs (suc k) step r ran is result_is =
    let s = step_of t number first (base_of names first) ran.result xs ran.left ran.this in
    let f : Entry → Bool = λ (e : Entry). e.who.step == number + suc k in
    let later = at_step t (number + 1) (names_after names first ran.result.answer) last steps ran.later ran.left k step r ran.rest is
    (sym (ap (λ (l : List StepResult). slice_get l (suc k)) ran.results_are) ∙ result_is) in
    record {
      added = later.added;
      done = later.done;
      parts = later.parts;
      all = λ index. ap (λ (l : List Entry). filter f l) (s.up index) ∙ filter_append f (added_at index s.added) (ran.left index)
          ∙ ap (λ (l : List Entry). l ++ filter f (ran.left index)) (none_of t number (number + suc k) 1 index s.added (apart number k) s.parts)
          ∙ ap (λ (n : ℕ). filter (λ (e : Entry). e.who.step == n) (ran.left index)) (next number k)
          ∙ later.all index;
    }
  where
    apart : (n k : ℕ) → n ≢ n + suc k
    apart n k same = omega (arith, same)

    next : (n k : ℕ) → n + suc k ≡ n + 1 + k
    next n k = omega arith

-- ---- the script at an index of a round, and of all rounds
-- the caller with this number ran it
record Script_at (c : Config) (own : Own) (s : ScriptView) (results : Results) : Type 0 where
  caller : ℕ
  round : ℕ
  names : Names
  last : Names
  runs : RunsSteps (record { config = c; caller = caller; round = round; thread = s.thread }) 1 names s.steps results.items last own used_up

in_round : (c : Config) (own : ℕ → Own) (caller round : ℕ) (names now after : Names) (scripts : List ScriptView) (results : List Results) (j : ℕ) (s : ScriptView) (r : Results)
    → RunsRound c own caller round names now scripts results after → slice_get scripts j ≡ Some s → slice_get results j ≡ Some r → Script_at c (own (caller + j)) s r
in_round c own caller round names now after [] results j s r ran is result_is = absurd (none-some s is)
in_round c own caller round names now after (first ∷ scripts) results zero s r ran is result_is =
    let same : ran.result ≡ r = same_Some ran.result r (sym (ap (λ (l : List Results). slice_get l 0) ran.results_are) ∙ result_is) in
    subst (λ (n : ℕ). Script_at c (own n) s r) (next caller)
    (subst (λ (x : Results). Script_at c (own caller) s x) same
    (subst (λ (x : ScriptView). Script_at c (own caller) x ran.result) (same_Some first s is)
    (record { caller = caller; round = round; names = names; last = ran.last; runs = ran.run })))
  where
    next : (n : ℕ) → n ≡ n + 0
    next n = omega arith
in_round c own caller round names now after (first ∷ scripts) results (suc j) s r ran is result_is =
    subst (λ (n : ℕ). Script_at c (own n) s r) (next caller j)
    (in_round c own (caller + 1) round names (settled now first.steps ran.last) after scripts ran.later j s r ran.rest is
    (sym (ap (λ (l : List Results). slice_get l (suc j)) ran.results_are) ∙ result_is))
  where
    next : (n j : ℕ) → n + 1 + j ≡ n + suc j
    next n j = omega arith

as_many : (c : Config) (own : ℕ → Own) (caller round : ℕ) (names now after : Names) (scripts : List ScriptView) (results : List Results)
    → RunsRound c own caller round names now scripts results after → length results ≡ length scripts
as_many c own caller round names now after [] results ran = ap (λ (l : List Results). length l) ran.0
as_many c own caller round names now after (s ∷ scripts) results ran =
    ap (λ (l : List Results). length l) ran.results_are ∙ ap (λ (n : ℕ). suc n) (as_many c own (caller + 1) round names (settled now s.steps ran.last) after scripts ran.later ran.rest)

module _ {X : Type 0} where
  get_front : (xs ys : List X) (j : ℕ) → j < length xs → slice_get (xs ++ ys) j ≡ slice_get xs j
  get_front [] ys j lt = absurd (omega (arith, lt))
  get_front (x ∷ xs) ys zero lt = refl
  get_front (x ∷ xs) ys (suc j) lt = get_front xs ys j (omega (arith, lt))

  get_behind : (xs ys : List X) (j : ℕ) → length xs ≤ j → slice_get (xs ++ ys) j ≡ slice_get ys (j - length xs)
  get_behind [] ys j le = ap (λ (n : ℕ). slice_get ys n) (less j)
    where
      less : (n : ℕ) → n ≡ n - 0
      less n = omega arith
  get_behind (x ∷ xs) ys zero le = absurd (omega (arith, le))
  get_behind (x ∷ xs) ys (suc j) le = get_behind xs ys j (omega (arith, le)) ∙ ap (λ (n : ℕ). slice_get ys n) (less j (length xs))
    where
      less : (j n : ℕ) → j - n ≡ suc j - suc n
      less j n = omega arith

in_rounds : (c : Config) (own : ℕ → Own) (caller round : ℕ) (names last : Names) (rounds : List (List ScriptView)) (results : List Results) (j : ℕ) (s : ScriptView) (r : Results)
    → RunsRounds c own caller round names rounds results last → slice_get (all_scripts rounds) j ≡ Some s → slice_get results j ≡ Some r → Script_at c (own (caller + j)) s r
in_rounds c own caller round names last [] results j s r ran is result_is = absurd (none-some s is)
in_rounds c own caller round names last (scripts ∷ rounds) results j s r ran is result_is =
    let many : length ran.these ≡ length scripts = as_many c own caller round names names ran.after scripts ran.these ran.this in
    let at_result : slice_get (ran.these ++ ran.later) j ≡ Some r = sym (ap (λ (l : List Results). slice_get l j) ran.results_are) ∙ result_is in
    ⊎_elim
    (λ lt. in_round c own caller round names names ran.after scripts ran.these j s r ran.this
    (sym (get_front scripts (all_scripts rounds) j lt) ∙ is)
    (sym (get_front ran.these ran.later j (omega (arith, lt, many))) ∙ at_result))
    (λ le. subst (λ (n : ℕ). Script_at c (own n) s r) (back caller j (length scripts) le)
    (in_rounds c own (caller + length scripts) (round + 1) ran.after last rounds ran.later (j - length scripts) s r ran.rest
    (sym (get_behind scripts (all_scripts rounds) j le) ∙ is)
    (ap (λ (n : ℕ). slice_get ran.later (j - n)) (sym many) ∙ sym (get_behind ran.these ran.later j (omega (arith, le, many))) ∙ at_result)))
    (cases_lt j (length scripts))
  where
    back : (caller j n : ℕ) → n ≤ j → caller + n + (j - n) ≡ caller + j
    back caller j n le = omega (arith, le)

-- ---- a step of a run
-- the step with so many before it, of the script with so many before it
pub record StepRan (c : Config) (own : ℕ → Own) (thread scripts steps : ℕ) (step : StepView) (r : StepResult) : Type 0 where
  pub added : List Added
  pub done : IsDone c thread step added r
  pub parts : ArePartsFrom 1 added
  pub all : (index : ℕ) → filter (λ (e : Entry). e.who.step == steps + 1) (own (scripts + 1) index) ≡ added_at index added

pub step_ran : (c : Config) (own : ℕ → Own) (names last : Names) (rounds : List (List ScriptView)) (results : List Results) (scripts steps : ℕ) (s : ScriptView) (rs : Results) (step : StepView) (r : StepResult)
    → RunsRounds c own 1 1 names rounds results last → slice_get (all_scripts rounds) scripts ≡ Some s → slice_get results scripts ≡ Some rs
    → slice_get s.steps steps ≡ Some step → slice_get rs.items steps ≡ Some r → StepRan c own s.thread scripts steps step r
step_ran c own names last rounds results scripts steps s rs step r ran script_is results_is step_is result_is =
    let at_script = in_rounds c own 1 1 names last rounds results scripts s rs ran script_is results_is in
    let at_it = at_step (record { config = c; caller = at_script.caller; round = at_script.round; thread = s.thread }) 1 at_script.names at_script.last s.steps rs.items (own (1 + scripts)) steps step r at_script.runs step_is result_is in
    record {
      added = at_it.added;
      done = at_it.done;
      parts = at_it.parts;
      all = λ index. ap (λ (n : ℕ). filter (λ (e : Entry). e.who.step == n) (own (scripts + 1) index)) (turn steps)
          ∙ ap (λ (n : ℕ). filter (λ (e : Entry). e.who.step == 1 + steps) (own n index)) (turn scripts) ∙ at_it.all index;
    }
  where
    turn : (n : ℕ) → n + 1 ≡ 1 + n
    turn n = omega arith
