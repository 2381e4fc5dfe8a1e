-- The histories of a trace have together at most five entries for each step.
use Rattle.std.proofs.Common.{◌≡◌, ℕ, zero, suc, ◌+◌, ◌-◌, ◌*◌, ◌<◌, ◌≤◌, ◌==◌, Bool, List, [], ◌∷◌, length, take, map, slice_index_or, Option, Some, None, arith, refl, ap, sym, subst, eq-eqb, add-one, length-append}
use Rattle.std.specs.Prelude.{◌^◌, ⊤, min}
use Rattle.std.specs.List.{sum_by, flat_map}
use Rattle.std.proofs.lemmas.Bool.{cases_eq, cases_lt, cond_both, cond-true}
use Rattle.std.proofs.lemmas.List.{get_or-map, take_all}
use Rattle.std.proofs.lemmas.List.Sums.{sum_by_more}
use mathlib.Core.Logic.{inl, inr}
use Rattle.hm_model.specs.declared.answer.Answer.{Answer}
use Rattle.hm_model.specs.declared.entry.Entry.{Entry}
use Rattle.hm_model.specs.declared.entry.Call.{Call}
use Rattle.hm_model.specs.declared.entry.Call.TheVariants.{GiveBack, Measure, Fetch}
use Rattle.hm_model.specs.declared.entry.Reply.{Reply}
use Rattle.hm_model.specs.declared.entry.Reply.TheVariants.{Given, Freed, Usable, Bytes, Filled}
use Rattle.hm_model.specs.declared.entry.Who.{Who}
use Rattle.hm_model.specs.Entries.{calls_of}
use Rattle.hm_report.specs.declared.results.Results.{Results}
use Rattle.hm_report.specs.declared.results.StepResult.{StepResult}
use Rattle.hm_sizes.specs.declared.class.Kind.{Kind}
use Rattle.hm_sizes.specs.declared.class.Kind.TheVariants.{Small, Large, TooLarge}
use Rattle.hm_sizes.specs.declared.config.Config.{Config}
use Rattle.hm_trace.specs.Traces.{total_steps}
use Rattle.hm_trace.specs.Views.{ScriptView, StepView, Malloc, Calloc, Aligned, Realloc, Free, Sfree, Write, Read, Size}
use Rattle.hm_heap.specs.declared.close.History.{History}
use Rattle.hm_heap.specs.Calls.{IsMallocPlan, allot_plan, aligned_plan, at_home, freed, freeing, filled, fetched, copying, allotted, measured, moving_plan, resize_plan, index_for, home_index, keeps}
use Rattle.hm_heap.specs.Plans.{Plan, Done, Part}
use Rattle.hm_replay.specs.Names.{Names, no_names, settled}
use Rattle.hm_replay.specs.Replays.{AreReplayed}
use Rattle.hm_replay.specs.Rounds.{RunsRound, RunsRounds, AreOfCallers, script_count, own_in}
use Rattle.hm_replay.specs.Scripts.{RunsSteps}
use Rattle.hm_replay.specs.Steps.{Terms, who_at, IsStepPlan, Steps, base_of, names_after}
use Rattle.hm_replay.specs.Uses.{Own, Stay, Takes, Uses, used_up}
use Rattle.hm_replay.proofs.Entries.{callers_of}

-- ---- sums
-- over the numbers below n
abbrev sum_below : (ℕ → ℕ) → ℕ → ℕ
sum_below f zero = 0
sum_below f (suc n) = sum_below f n + f n

-- over so many numbers from the first on
abbrev sum_from : (ℕ → ℕ) → ℕ → ℕ → ℕ
sum_from f first zero = 0
sum_from f first (suc n) = f first + sum_from f (first + 1) n

below-le : (f g : ℕ → ℕ) (n : ℕ) → ((k : ℕ) → k < n → f k ≤ g k) → sum_below f n ≤ sum_below g n
below-le f g zero le = omega arith
below-le f g (suc n) le = omega (arith, below-le f g n (λ k l. le k (omega arith)), le n (omega arith))

-- at one index there is one more
below-one : (f g : ℕ → ℕ) (p n : ℕ) → f p ≤ g p + 1 → ((k : ℕ) → (k ≡ p → ⊥) → f k ≤ g k) → sum_below f n ≤ sum_below g n + 1
below-one f g p zero here others = omega arith
below-one f g p (suc n) here others = elim (cases_eq n p) [
  | inl e ↦
      let at : f n ≤ g n + 1 = subst (λ (m : ℕ). f m ≤ g m + 1) (sym e) here in
      omega (arith, at, below-le f g n (λ k l. others k (λ s. omega arith)))
  | inr ne ↦ omega (arith, below-one f g p n here others, others n ne)
]

below-plus : (f g : ℕ → ℕ) (n : ℕ) → sum_below (λ k. f k + g k) n ≡ sum_below f n + sum_below g n
below-plus f g zero = refl
below-plus f g (suc n) = omega (arith, below-plus f g n)

below-none : (n : ℕ) → sum_below (λ k. 0) n ≡ 0
below-none zero = refl
below-none (suc n) = omega (arith, below-none n)

from-le : (f g : ℕ → ℕ) (first n : ℕ) → ((k : ℕ) → f k ≤ g k) → sum_from f first n ≤ sum_from g first n
from-le f g first zero le = omega arith
from-le f g first (suc n) le = omega (arith, le first, from-le f g (first + 1) n le)

-- one number has one more
from-more : (f g : ℕ → ℕ) (c first n : ℕ) → first ≤ c → c < first + n → g c + 1 ≤ f c → ((k : ℕ) → g k ≤ f k) → sum_from g first n + 1 ≤ sum_from f first n
from-more f g c first zero least most here le = absurd (omega (arith, least, most))
from-more f g c first (suc n) least most here le = elim (cases_eq c first) [
  | inl e ↦
      let at : g first + 1 ≤ f first = subst (λ (m : ℕ). g m + 1 ≤ f m) e here in
      omega (arith, at, from-le g f (first + 1) n le)
  | inr ne ↦ omega (arith, le first, from-more f g c (first + 1) n (omega (arith, least, ne)) (omega (arith, most)) here le)
]

from-append : (f : ℕ → ℕ) (first m n : ℕ) → sum_from f first (m + n) ≡ sum_from f first m + sum_from f (first + m) n
from-append f first zero n =
    let none : 0 + n ≡ n = omega arith in
    let same : first + 0 ≡ first = omega arith in
    omega (arith, ap (sum_from f first) none, ap (λ (k : ℕ). sum_from f k n) same)
from-append f first (suc m) n =
    let later : suc m + n ≡ suc (m + n) = omega arith in
    let same : (first + 1) + m ≡ first + suc m = omega arith in
    omega (arith, ap (sum_from f first) later, from-append f (first + 1) m n, ap (λ (k : ℕ). sum_from f k n) same)

exchanged : (g : ℕ → ℕ → ℕ) (n first count : ℕ) → sum_below (λ r. sum_from (g r) first count) n ≡ sum_from (λ k. sum_below (λ r. g r k) n) first count
exchanged g n first zero = below-none n
exchanged g n first (suc count) =
    omega (arith, below-plus (λ r. g r first) (λ r. sum_from (g r) (first + 1) count) n, exchanged g n (first + 1) count)

-- ---- entries of callers
counted : (first count : ℕ) (es : List Entry) → AreOfCallers first count es → length es ≤ sum_from (λ k. length (calls_of es k)) first count
counted first count [] of = omega arith
counted first count (e ∷ es) of =
    let c = e.who.caller in
    let more = from-more (λ k. length (calls_of (e ∷ es) k)) (λ k. length (calls_of es k)) c first count of.0 of.1
    (omega (arith, ap length (cond-true (c == c) (e ∷ calls_of es c) (calls_of es c) (eq-eqb c c refl))))
    (λ k. cond_both (c == k) (e ∷ calls_of es k) (calls_of es k) (λ (l : List Entry). length (calls_of es k) ≤ length l) (λ is. omega arith) (λ not. omega arith)) in
    omega (arith, more, counted first count es of.2)

-- ---- plans of few parts
abbrev AtMost : ℕ → Plan → Type 0
AtMost n (Done a) = ⊤
AtMost n (Part index call next) = (0 < n) × ((reply : Reply) → AtMost (n - 1) (next reply))

-- the entries at all places below n
abbrev total : ℕ → Own → ℕ
total n xs = sum_below (λ index. length (xs index)) n

stayed : (n : ℕ) (xs ys : Own) → Stay xs ys → total n xs ≤ total n ys
stayed n xs ys same = below-le (λ index. length (xs index)) (λ index. length (ys index)) n (λ index l. omega (arith, ap length (same index)))

taken : (n p : ℕ) (e : Entry) (xs left : Own) → Takes p e xs left → total n xs ≤ total n left + 1
taken n p e xs left takes =
    below-one (λ index. length (xs index)) (λ index. length (left index)) p n
    (omega (arith, ap length takes.here)) (λ index ne. omega (arith, ap length (takes.elsewhere index ne)))

used : (n : ℕ) (who : ℕ → Who) (number : ℕ) (plan : Plan) (a : Answer) (xs ys : Own) (k : ℕ) → AtMost k plan → Uses who number plan a xs ys → total n xs ≤ total n ys + k
used n who number (Done b) a xs ys k few u = omega (arith, stayed n xs ys u.1)
used n who number (Part p call next) a xs ys k few u =
    omega (arith, few.0, taken n p u.entry xs u.left u.takes, used n who (number + 1) (next u.entry.reply) a u.left ys (k - 1) (few.1 u.entry.reply) u.rest)

-- ---- the plans of steps have at most five parts
allot_few : (c : Config) (thread asked align : ℕ) (kind : Kind) → AtMost 5 (allot_plan c thread asked align kind)
allot_few c thread asked align TooLarge = tt
allot_few c thread asked align (Small class) = (omega arith, λ reply. tt)
allot_few c thread asked align (Large size) = (omega arith, λ reply. tt)

home_few : (o : Option ℕ) (call : Call) → AtMost 5 (at_home o call)
home_few None call = tt
home_few (Some index) call = (omega arith, λ reply. tt)

freed_few : (moved : _) (n : ℕ) (reply : Reply) → AtMost n (freed moved reply)
freed_few moved n Freed = tt
freed_few moved n _ = tt

freeing_few : (moved : _) (n : ℕ) → 0 < n → AtMost n (freeing moved)
freeing_few moved n some = (some, λ reply. freed_few moved (n - 1) reply)

filled_few : (moved : _) (reply : Reply) → AtMost 1 (filled moved reply)
filled_few moved Filled = freeing_few moved 1 (omega arith)
filled_few moved _ = tt

fetched_few : (moved : _) (reply : Reply) → AtMost 2 (fetched moved reply)
fetched_few moved (Bytes runs) = (omega arith, λ reply. filled_few moved reply)
fetched_few moved _ = tt

copying_few : (moved : _) (count : ℕ) → AtMost 3 (copying moved count)
copying_few moved count =
    cond_both (count == 0) _ _ (AtMost 3)
    (λ none. freeing_few moved 3 (omega arith)) (λ some. (omega arith, λ reply. fetched_few moved reply))

allotted_few : (source : _) (count : ℕ) (reply : Reply) → AtMost 3 (allotted source count reply)
allotted_few source count (Given new usable) = copying_few (record { source = source; new = new; usable = usable }) count
allotted_few source count _ = tt

measured_few : (source : _) (stays : ℕ → Bool) (reply : Reply) → AtMost 4 (measured source stays reply)
measured_few source stays (Usable old) =
    cond_both (stays old) _ _ (AtMost 4) (λ kept. tt) (λ moves. (omega arith, λ reply. allotted_few source (min old source.asked) reply))
measured_few source stays _ = tt

moving_few : (c : Config) (index a asked : ℕ) (kind : Kind) (o : Option ℕ) → AtMost 5 (moving_plan c index a asked kind o)
moving_few c index a asked kind None = tt
moving_few c index a asked kind (Some home) =
    (omega arith, λ reply. measured_few (record { home = home; index = index; addr = a; asked = asked }) (keeps c home kind) reply)

resize_few : (c : Config) (thread a asked : ℕ) (kind : Kind) (o : Option ℕ) → AtMost 5 (resize_plan c thread a asked kind o)
resize_few c thread a asked kind None = tt
resize_few c thread a asked kind (Some index) =
    cond_both (a == 0) _ _ (AtMost 5) (λ null. allot_few c thread asked 1 kind) (λ some. moving_few c index a asked kind (home_index c a))

aligned_few : (c : Config) (thread asked align : ℕ) (o : Option Kind) → AtMost 5 (aligned_plan c thread asked align o)
aligned_few c thread asked align None = tt
aligned_few c thread asked align (Some kind) = allot_few c thread asked align kind

malloc_few : (c : Config) (thread asked : ℕ) (plan : Plan) → IsMallocPlan c thread asked plan → AtMost 5 plan
malloc_few c thread asked plan is = subst (AtMost 5) (sym is.is) (allot_few c thread asked 1 is.kind)

step_few : (c : Config) (thread : ℕ) (step : StepView) (a : ℕ) (plan : Plan) → IsStepPlan c thread step a plan → AtMost 5 plan
step_few c thread (Malloc name size) a plan is = malloc_few c thread size plan is
step_few c thread (Calloc name count size) a plan is = elim (cases_lt (count * size) (2 ^ 64)) [
  | inl fits ↦ malloc_few c thread (count * size) plan (is.fits fits)
  | inr over ↦ subst (AtMost 5) (sym (is.overflow over)) tt
]
step_few c thread (Aligned name align size) a plan is = subst (AtMost 5) (sym is.is) (aligned_few c thread size align is.kind)
step_few c thread (Realloc name place size) a plan is =
    subst (AtMost 5) (sym is.is) (resize_few c thread a size is.kind (index_for c thread is.kind))
step_few c thread (Free place) a plan is =
    subst (AtMost 5) (sym is) (cond_both (a == 0) _ _ (AtMost 5) (λ null. tt) (λ some. home_few (home_index c a) (GiveBack a None)))
step_few c thread (Sfree place size) a plan is =
    subst (AtMost 5) (sym is) (cond_both (a == 0) _ _ (AtMost 5) (λ null. tt) (λ some. home_few (home_index c a) (GiveBack a (Some size))))
step_few c thread (Write place len byte) a plan is = subst (AtMost 5) (sym is) (home_few (home_index c a) _)
step_few c thread (Read place len) a plan is = subst (AtMost 5) (sym is) (home_few (home_index c a) (Fetch a len))
step_few c thread (Size place) a plan is =
    subst (AtMost 5) (sym is) (cond_both (a == 0) _ _ (AtMost 5) (λ null. tt) (λ some. home_few (home_index c a) (Measure a)))

-- ---- steps, scripts and rounds
step_total : (n : ℕ) (t : Terms) (number : ℕ) (step : StepView) (o : Option ℕ) (r : StepResult) (xs ys : Own) → Steps t number step o r xs ys → total n xs ≤ total n ys + 5
step_total n t number step None r xs ys s = omega (arith, stayed n xs ys s.1)
step_total n t number step (Some base) r xs ys s =
    used n (λ part. who_at t number part) 1 s.answers.plan s.answer xs ys 5 (step_few t.config t.thread step base s.answers.plan s.answers.is) s.answers.uses

runs_total : (n : ℕ) (t : Terms) (number : ℕ) (names : Names) (steps : List StepView) (rs : List StepResult) (last : Names) (xs ys : Own)
    → RunsSteps t number names steps rs last xs ys → total n xs ≤ total n ys + 5 * length steps
runs_total n t number names [] rs last xs ys ran = omega (arith, stayed n xs ys ran.2)
runs_total n t number names (s ∷ steps) rs last xs ys ran =
    omega (
      arith,
      step_total n t number s (base_of names s) ran.result xs ran.left ran.this,
      runs_total n t (number + 1) (names_after names s ran.result.answer) steps ran.later last ran.left ys ran.rest,
    )

abbrev steps_of : List ScriptView → List StepView
steps_of scripts = flat_map (λ (s : ScriptView). s.steps) scripts

module _ (c : Config) (own : ℕ → Own) (n : ℕ) where
  round_total : (caller round : ℕ) (names now after : Names) (scripts : List ScriptView) (results : List Results)
      → RunsRound c own caller round names now scripts results after
      → sum_from (λ k. total n (own k)) caller (length scripts) ≤ 5 * length (steps_of scripts)
  round_total caller round names now after [] results ran = omega arith
  round_total caller round names now after (s ∷ scripts) results ran =
      omega (
        arith,
        runs_total n (record { config = c; caller = caller; round = round; thread = s.thread }) 1 names s.steps ran.result.items ran.last (own caller) used_up ran.run,
        below-none n,
        round_total (caller + 1) round names (settled now s.steps ran.last) after scripts ran.later ran.rest,
        length-append s.steps (steps_of scripts),
      )

  rounds_total : (caller round : ℕ) (names last : Names) (rounds : List (List ScriptView)) (results : List Results)
      → RunsRounds c own caller round names rounds results last
      → sum_from (λ k. total n (own k)) caller (script_count rounds) ≤ 5 * total_steps rounds
  rounds_total caller round names last [] results ran = omega arith
  rounds_total caller round names last (scripts ∷ rounds) results ran =
      omega (
        arith,
        from-append (λ k. total n (own k)) caller (length scripts) (script_count rounds),
        round_total caller round names names ran.after scripts ran.these ran.this,
        rounds_total (caller + length scripts) (round + 1) ran.after last rounds ran.later ran.rest,
        length-append (steps_of scripts) (flat_map steps_of rounds),
      )

-- ---- all histories
abbrev entries_at : List History → ℕ → List Entry
entries_at hs index = slice_index_or (map (λ (h : History). h.entries) hs) index []

lengths : (hs : List History) (h : History) (i : ℕ) → i ≤ length hs → sum_by (λ (h : History). length h.entries) (take i hs) ≡ sum_below (λ r. length (entries_at hs r)) i
lengths hs h zero l = refl
lengths hs h (suc i) l =
    let f : History → ℕ = λ h. length h.entries in
    omega (
      arith,
      ap (λ (k : ℕ). sum_by f (take k hs)) (add-one i),
      sum_by_more f hs i h (omega arith),
      lengths hs h i (omega arith),
      ap length (get_or-map (λ (h : History). h.entries) hs i h [] (omega arith)),
    )

pub few_entries : (c : Config) (hs : List History) (rounds : List (List ScriptView)) (results : List Results) (last : Names)
    → AreReplayed c hs rounds results last → sum_by (λ (h : History). length h.entries) hs ≤ 5 * total_steps rounds
few_entries c [] rounds results last a = omega arith
few_entries c (h ∷ rest) rounds results last a =
    let hs = h ∷ rest in
    let n = length hs in
    let count = script_count rounds in
    let f : History → ℕ = λ h. length h.entries in
    let each : (r : ℕ) → r < n → length (entries_at hs r) ≤ sum_from (λ k. length (own_in hs k r)) 1 count =
    λ r l. counted 1 count (entries_at hs r)
    (subst (AreOfCallers 1 count) (sym (get_or-map (λ (h : History). h.entries) hs r h [] l)) (callers_of 1 rounds (slice_index_or hs r h).entries (a.histories r h l))) in
    omega (
      arith,
      ap (sum_by f) (take_all n hs (omega arith)),
      lengths hs h n (omega arith),
      below-le (λ r. length (entries_at hs r)) (λ r. sum_from (λ k. length (own_in hs k r)) 1 count) n each,
      exchanged (λ r k. length (own_in hs k r)) n 1 count,
      rounds_total c (own_in hs) n 1 1 no_names last rounds results a.ran,
    )
