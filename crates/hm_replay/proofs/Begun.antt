-- How far the scripts of a round were run.
use Rattle.std.proofs.Common.{◌≡◌, ℕ, ◌+◌, ◌-◌, ◌<◌, ◌≤◌, List, [], ◌∷◌, length, slice_index_or, map, Option, Result, Ok, Err, IfOk, OnErr, take, Vec, vec_len, arith, refl, ap, ◌∙◌, sym, subst, suc}
use Rattle.std.specs.declared.alloc.Global.{Global}
use Rattle.std.proofs.lemmas.List.{append-nil, get_or-take, length-take-le}
use mathlib.Core.Path.{fun_ext, transport}
use Rattle.hm_base.specs.declared.memory.NoMemory.{NoMemory}
use Rattle.hm_report.specs.declared.results.Results.{Results}
use Rattle.hm_sizes.specs.declared.config.Config.{Config}
use Rattle.hm_trace.specs.Views.{ScriptView, StepView}
use Rattle.hm_turn.specs.Known.{Lock}
use Rattle.hm_heap.specs.Passes.{PassView, AreOf}
use Rattle.hm_replay.specs.declared.round.Worker.{Worker}
use Rattle.hm_replay.specs.Gains.{mine_of}
use Rattle.hm_replay.specs.Names.{Names, seen_in}
use Rattle.hm_replay.specs.RoundOf.{BeginsRound, LeavesRoot, ended_in}
use Rattle.hm_replay.specs.Rounds.{AreFronts}
use Rattle.hm_replay.specs.Scripts.{IsFront, RunsAllSteps}
use Rattle.hm_replay.specs.Steps.{Terms}
use Rattle.hm_replay.specs.Uses.{Own, used_up}
use Rattle.hm_replay.specs.Workers.{HasParted, IsBegun, FinishedTo, MakesFront}
use Rattle.hm_replay.proofs.Fronts.{stops_none}
use Rattle.hm_replay.proofs.Rounding.{AllRan, AllSame, IsStartedBy, ended_is, leaves_begun, leaves_run, parted_run, scripts_are, started_by, worked, worked_begun}

pub record IsFrontMade (c : Config) (round : ℕ) (names : Names) (caller : ℕ) (own : Own) (w : Worker) : Type 0 where
  pub last : Names
  pub front : IsFront (record { config = c; caller = caller; round = round; thread = w.script.now.thread }) names
      w.script.now.steps last own

are_fronts : (c : Config) (own : ℕ → Own) (caller round : ℕ) (names : Names) (ws : List Worker)
    → ((i : ℕ) (w : Worker) → i < length ws → IsFrontMade c round names (caller + i) (own (caller + i)) (slice_index_or ws i w))
    → AreFronts c own caller round names (map (λ (w : Worker). w.script.now) ws)
are_fronts c own caller round names [] all = tt
are_fronts c own caller round names (w ∷ ws) all =
    let here : caller + 0 ≡ caller = omega arith in
    let first : IsFrontMade c round names caller (own caller) w =
    subst (λ (k : ℕ). IsFrontMade c round names k (own k) w) here (all 0 w (omega arith)) in (
      (first.last, first.front),
      are_fronts c own (caller + 1) round names ws
          (λ i v l.
          let next : caller + suc i ≡ caller + 1 + i = omega arith in
          subst (λ (k : ℕ). IsFrontMade c round names k (own k) (slice_index_or ws i v)) next
          (all (suc i) v (omega (arith, l)))),
    )

-- a script that was run to its end, or for want of memory to a front of it
pub front_made : (r : Result Results NoMemory) (t : Terms) (names last : Names) (steps : List StepView) (own : Own)
    → IfOk r (λ rs. RunsAllSteps t names steps rs.items last own) → OnErr r (IsFront t names steps last own)
    → IsFront t names steps last own
front_made (Err none) t names last steps own ran stops = stops
front_made (Ok rs) t names last steps own ran stops = record {
  done = steps;
  later = [];
  steps_are = sym (append-nil steps);
  results = rs.items;
  left = used_up;
  runs = ran;
  stops = λ index. refl;
}

abbrev pub AllFronts : Config → List Worker → List Worker → Type 0
AllFronts c ws vs = (i : ℕ) (w : Worker) → i < length ws → MakesFront c (slice_index_or ws i w) (slice_index_or vs i w)

-- the scripts of so many workers are the first of the round
first_scripts : (ws vs : List Worker) (scripts : List ScriptView) (n : ℕ) → length vs ≡ length ws → n ≡ length ws
    → n ≤ length scripts → AllSame ws vs
    → ((i : ℕ) (w : Worker) (s : ScriptView) → i < length ws → (slice_index_or ws i w).script.now ≡ slice_index_or scripts i s)
    → map (λ (w : Worker). w.script.now) vs ≡ take n scripts
first_scripts ws vs scripts n long n_is few same is =
    scripts_are ws vs (take n scripts) long (omega (arith, n_is, length-take-le n scripts few)) same
    (λ i w s l. is i w s l ∙ sym (get_or-take n scripts i s (omega (arith, l, n_is))))

module _ (c : Config) (locks : List Lock) (round total : ℕ) (p q z : PassView) (names : Names) (ws : List Worker)
    (found : List (Option Results)) (s : IsStartedBy locks round total p q names ws) (scripts : List ScriptView)
    (all : length scripts ≡ total)
    (is : (i : ℕ) (w : Worker) (x : ScriptView) → i < length ws → (slice_index_or ws i w).script.now ≡ slice_index_or scripts i x)
  where
    -- as many passes were split off as there are workers
    splits_of : (vs : List Worker) → FinishedTo locks q z vs found → z.splits - p.splits ≡ length ws
    splits_of vs f = omega (arith, ap (λ (y : PassView). y.splits) f.same, ap (λ (y : PassView). y.splits) s.parted.same)

    exact : IsStartedBy locks round (length ws) p q names ws
    exact = record { of = s.of; parted = s.parted; begun = s.begun; few = omega arith }

    -- no script was run
    fronts_begun : FinishedTo locks q z ws found
        → AreFronts c (ended_in z.turns) (p.splits + 1) round names (take (z.splits - p.splits) scripts)
    fronts_begun f =
        subst (λ (l : List ScriptView). AreFronts c (ended_in z.turns) (p.splits + 1) round names l)
        (first_scripts ws ws scripts (z.splits - p.splits) refl (splits_of ws f) (omega (arith, splits_of ws f, s.few, all)) (λ i w l. refl) is)
        (are_fronts c (ended_in z.turns) (p.splits + 1) round names ws (λ i w l. record {
          last = names;
          front =
              let own : mine_of (slice_index_or ws i w).pass.turns ≡ ended_in z.turns (p.splits + 1 + i) =
              ended_is locks p q z ws found i w s.parted (worked_begun locks (p.splits + 1) round p names ws s.begun) f l in
              let none : used_up ≡ ended_in z.turns (p.splits + 1 + i) =
              fun_ext (λ index. sym ((s.begun i w l).ready.fresh index)) ∙ own in
              let v = slice_index_or ws i w in
              subst (λ (o : Own). IsFront (record { config = c; caller = p.splits + 1 + i; round = round; thread = v.script.now.thread }) names v.script.now.steps names o)
              none
              (record {
                done = [];
                later = v.script.now.steps;
                steps_are = refl;
                results = [];
                left = used_up;
                runs = (refl, refl, λ index. refl);
                stops = stops_none _ 1 names v.script.now.steps used_up;
              });
        }))

    pub begins_begun : FinishedTo locks q z ws found → BeginsRound c round names scripts p z
    begins_begun f = record {
      alone = subst (λ (n : ℕ). LeavesRoot n p z) (sym (splits_of ws f)) (leaves_begun locks round (length ws) p q names ws exact z found f);
      fronts = fronts_begun f;
    }

    -- each was run, to its end or to a front of it
    fronts_run : (vs : List Worker) → length vs ≡ length ws → AllRan locks ws vs → AllFronts c ws vs → AllSame ws vs
        → FinishedTo locks q z vs found
        → AreFronts c (ended_in z.turns) (p.splits + 1) round names (take (z.splits - p.splits) scripts)
    fronts_run vs n ran fronts same f =
        subst (λ (l : List ScriptView). AreFronts c (ended_in z.turns) (p.splits + 1) round names l)
        (first_scripts ws vs scripts (z.splits - p.splits) n (splits_of vs f) (omega (arith, splits_of vs f, s.few, all)) same is)
        (are_fronts c (ended_in z.turns) (p.splits + 1) round names vs (λ i w l.
        let l' : i < length ws = omega (arith, l, n) in
        let v : Worker = slice_index_or vs i w in
        let u : Worker = slice_index_or ws i w in
        let begun = s.begun i w l' in
        let script : u.script.now ≡ v.script.now = sym (ap (λ s. s.now) (same i w l')) in
        let thread : u.pass.thread ≡ v.script.now.thread = begun.ready.thread ∙ ap (λ (s : ScriptView). s.thread) script in
        let own : mine_of v.pass.turns ≡ ended_in z.turns (p.splits + 1 + i) =
        ended_is locks p q z vs found i w (parted_run locks round total p q names ws s vs n)
        (worked locks round total p q names ws s vs n ran) f l in
        record {
          last = seen_in v.scope;
          front =
              transport
              (λ j. IsFront (record { config = c; caller = begun.caller_is j; round = begun.round_is j; thread = thread j })
              (begun.names_are j) (script j).steps (seen_in v.scope) (own j)) (fronts i w l');
        }))

    pub begins_run : (vs : List Worker) → length vs ≡ length ws → AllRan locks ws vs → AllFronts c ws vs → AllSame ws vs
        → FinishedTo locks q z vs found → BeginsRound c round names scripts p z
    begins_run vs n ran fronts same f = record {
      alone = subst (λ (k : ℕ). LeavesRoot k p z) (sym (splits_of vs f)) (leaves_run locks round (length ws) p q names ws exact vs n ran z found f);
      fronts = fronts_run vs n ran fronts same f;
    }

-- ---- what a round has of its parts
-- the passes were split off, for the first of these scripts
module _ (locks : List Lock) (round : ℕ) (p q : PassView) (names : Names) (ws : Vec Worker Global)
    (scripts theirs : List ScriptView) (all : theirs ≡ scripts) (of : AreOf locks p.turns)
    (parted : HasParted locks (vec_len ws) p q)
    (begun : (i : ℕ) (w : Worker) → i < vec_len ws → IsBegun locks (p.splits + 1 + i) round p names (slice_index_or ws.items i w))
    (few : vec_len ws ≤ length theirs) where
  pub started : IsStartedBy locks round (length scripts) p q names ws.items
  started =
      started_by locks round (length theirs) (length scripts) p q names ws.items (vec_len ws) ws.ok.0 of parted begun few
      (ap (λ (l : List ScriptView). length l) all)

  pub unrun_root : (z : PassView) (found : List (Option Results)) → FinishedTo locks q z ws.items found
      → LeavesRoot (length scripts) p z
  unrun_root = leaves_begun locks round (length scripts) p q names ws.items started

  module _ (vs : Vec Worker Global) (len : vec_len vs ≡ vec_len ws) (ran : AllRan locks ws.items vs.items) where
    as_many : length vs.items ≡ length ws.items
    as_many = sym vs.ok.0 ∙ len ∙ ws.ok.0

    pub run_root : (z : PassView) (found : List (Option Results)) → FinishedTo locks q z vs.items found
        → LeavesRoot (length scripts) p z
    run_root = leaves_run locks round (length scripts) p q names ws.items started vs.items as_many ran

  module _ (c : Config)
      (is : (i : ℕ) (w : Worker) (x : ScriptView) → i < vec_len ws → (slice_index_or ws.items i w).script.now ≡ slice_index_or theirs i x)
    where
      of_round : (i : ℕ) (w : Worker) (x : ScriptView) → i < length ws.items
          → (slice_index_or ws.items i w).script.now ≡ slice_index_or scripts i x
      of_round i w x l = is i w x (omega (arith, l, ws.ok.0)) ∙ ap (λ (y : List ScriptView). slice_index_or y i x) all

      pub unrun_begins : (z : PassView) (found : List (Option Results)) → FinishedTo locks q z ws.items found
          → BeginsRound c round names scripts p z
      unrun_begins z found =
          begins_begun c locks round (length scripts) p q z names ws.items found started scripts refl of_round

      pub run_begins : (vs : Vec Worker Global) → vec_len vs ≡ vec_len ws → AllRan locks ws.items vs.items
          → AllFronts c ws.items vs.items → AllSame ws.items vs.items → (z : PassView) (found : List (Option Results))
          → FinishedTo locks q z vs.items found → BeginsRound c round names scripts p z
      run_begins vs len ran fronts same z found =
          begins_run c locks round (length scripts) p q z names ws.items found started scripts refl of_round vs.items
          (sym vs.ok.0 ∙ len ∙ ws.ok.0) ran fronts same
