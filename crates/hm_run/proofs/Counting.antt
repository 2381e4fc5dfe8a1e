-- How many steps a trace has, and how many scripts its rounds have.
use Rattle.std.proofs.Common.{◌≡◌, ℕ, ◌+◌, ◌*◌, ◌<◌, ◌≤◌, ◌^◌, Bool, true, List, [], ◌∷◌, length, map, get_or, take, drop, ap, sym, ◌∙◌, subst, arith}
use Rattle.std.proofs.lemmas.Bool.{and_parts, true_from_ne_false, true≢false}
use Rattle.std.proofs.lemmas.List.{length-take-le, take-append-drop}
use Rattle.std.proofs.lemmas.List.Folds.{list_all-append, list_all-map, list_all_at}
use Rattle.std.specs.List.{list_all}
use Rattle.hm_trace.specs.declared.version.Version.{Version}
use Rattle.hm_trace.proofs.Scripts.{scripts_are_rounds}
use Rattle.hm_trace.specs.Traces.{is_round, is_round_of}
use Rattle.hm_trace.specs.Views.{RoundView, ScriptView}
use Rattle.hm_replay.specs.Replays.{RoundsAreSmall}
use Rattle.hm_replay.specs.Rounds.{script_count}

all_front : {X : Type 0} (test : X → Bool) (xs : List X) (i : ℕ) → list_all test xs ≡ true → list_all test (take i xs) ≡ true
all_front test xs i all =
    (and_parts _ _ (sym (list_all-append test (take i xs) (drop i xs)) ∙ ap (list_all test) (take-append-drop i xs) ∙ all)).0

pub all_at : {X : Type 0} (test : X → Bool) (xs : List X) (i : ℕ) (d : X) → list_all test xs ≡ true → i < length xs → test (get_or xs i d) ≡ true
all_at test xs i d all lt = true_from_ne_false _ (λ no. true≢false (sym all ∙ list_all_at test xs i d lt no))

abbrev pub scripts_in : List RoundView → List (List ScriptView)
scripts_in rounds = map (λ (r : RoundView). r.scripts) rounds

abbrev valid : RoundView → Bool
valid r = is_round r.scripts

few_scripts : RoundsAreSmall → (rounds : List RoundView) → list_all valid rounds ≡ true
    → script_count (scripts_in rounds) ≤ 64 * length rounds
few_scripts small [] all = omega arith
few_scripts small (r ∷ rounds) all =
    let h = and_parts (valid r) (list_all valid rounds) all in
    let one = small r.scripts h.0 in
    let rest = few_scripts small rounds h.1 in
    omega (arith, one, rest)

pub rounds_valid : (version : Version) (rounds : List RoundView) → list_all (is_round_of version) rounds ≡ true
    → list_all valid rounds ≡ true
rounds_valid version rounds h =
    sym (list_all-map is_round (λ (r : RoundView). r.scripts) rounds) ∙ scripts_are_rounds version rounds h

-- a trace has fewer than 2 ^ 32 scripts
pub fewer : RoundsAreSmall → (rounds : List RoundView) (i : ℕ) (round : RoundView) → list_all valid rounds ≡ true
    → length rounds ≤ 1024 → i < length rounds → round ≡ get_or rounds i round
    → script_count (scripts_in (take i rounds)) + length round.scripts < 2 ^ 32
fewer small rounds i round all few lt is =
    let front = few_scripts small (take i rounds) (all_front valid rounds i all) in
    let this =
    small round.scripts (subst (λ (r : RoundView). valid r ≡ true) (sym is) (all_at valid rounds i round all lt)) in
    omega (arith, front, this, length-take-le i rounds (omega arith), few)
