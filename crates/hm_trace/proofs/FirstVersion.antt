-- Version 1 of the text is what it is by itself.
use Rattle.std.proofs.Common.{◌≡◌, ℕ, ◌<◌, ◌≤◌, true, List, [], ◌∷◌, ◌++◌, length, get_or, map, codes, refl, ◌∙◌, ap, arith, length-append}
use Rattle.std.specs.List.{list_all, flat_map}
use Rattle.std.proofs.lemmas.Bool.{and_parts, and_from}
use Rattle.std.proofs.lemmas.List.{length-map}
use Rattle.std.proofs.lemmas.List.Folds.{flat_map-map}
use Rattle.hm_trace.specs.declared.version.Version.{Version}
use Rattle.hm_trace.specs.declared.version.Version.TheVariants.{One, Two}
use Rattle.hm_trace.specs.ReadLines.{round_of}
use Rattle.hm_trace.specs.Spelling.{line_of, round_lines, spelling, text_of}
use Rattle.hm_trace.specs.Traces.{IsTrace, are_up_to, is_round, is_round_of, note_count, total_steps}
use Rattle.hm_trace.specs.VersionOne.{AreRoundsOfOne, unnoted_spelling, unnoted_trace, unnoted}
use Rattle.hm_trace.specs.Views.{RoundView, ScriptView, TraceView}
use Rattle.hm_trace.proofs.Scripts.{parts_round, round_parts, scripts_are_rounds}

-- the scripts of each round
abbrev bare : List RoundView → List (List ScriptView)
bare rounds = map (λ (r : RoundView). r.scripts) rounds

-- a trace of these rounds
abbrev of_rounds : Version → List RoundView → TraceView
of_rounds v rounds = record { version = v; rounds = rounds }

-- ---- only such rounds

differ : (a b : ℕ) → a ≡ b → b < a → ⊥
differ a b e less = omega (arith, e, less)

-- the ninth byte tells the version
named : (v : Version) (rounds : List RoundView) (rest : List ℕ)
    → spelling (of_rounds v rounds) ≡ codes "hmtrace 1" ++ 10 ∷ rest → v ≡ One
named One rounds rest e = refl
named Two rounds rest e = absurd (differ 50 49 (ap (λ (l : List ℕ). get_or l 8 0) e) (omega arith))

none : {A : Type 0} (xs : List A) → length xs ≤ 0 → xs ≡ []
none [] few = refl
none (x ∷ xs) few = absurd (omega (arith, few))

-- where there are no notes, the scripts are all
all_scripts : (rounds : List RoundView) → note_count rounds ≤ 0 → rounds ≡ map unnoted (bare rounds)
all_scripts [] few = refl
all_scripts (r ∷ rounds) few =
    let count = length-append r.notes (flat_map (λ (r : RoundView). r.notes) rounds) in
    ap (λ (ns : List (List ℕ)). round_of ns r.scripts ∷ rounds)
    (none r.notes (omega (arith, few, count)))
    ∙ ap (λ (rs : List RoundView). unnoted r.scripts ∷ rs) (all_scripts rounds (omega (arith, few, count)))

thread_limits : (rounds : List RoundView) → list_all (is_round_of One) rounds ≡ true
    → list_all (are_up_to 16) (bare rounds) ≡ true
thread_limits [] h = refl
thread_limits (r ∷ rounds) h =
    let b = and_parts (is_round_of One r) (list_all (is_round_of One) rounds) h in
    and_from _ _ (round_parts One r b.0).threads (thread_limits rounds b.1)

are_rounds : (rounds : List RoundView) → IsTrace (of_rounds One rounds) → AreRoundsOfOne (bare rounds)
are_rounds rounds h = record {
  each = scripts_are_rounds One rounds h.each;
  threads = thread_limits rounds h.each;
  rounds_fit = omega (arith, length-map rounds (λ (r : RoundView). r.scripts), h.rounds_fit);
  steps_fit = h.steps_fit;
}

only_at : (v : Version) (rounds : List RoundView) → v ≡ One → IsTrace (of_rounds v rounds)
    → (plain : List (List ScriptView)) × AreRoundsOfOne plain × (of_rounds v rounds ≡ unnoted_trace plain)
only_at Two rounds e h = absurd cc
only_at One rounds e h =
    (bare rounds, are_rounds rounds h, ap (of_rounds One) (all_scripts rounds h.notes_fit))

pub only : (trace : TraceView) (rest : List ℕ) → IsTrace trace → spelling trace ≡ codes "hmtrace 1" ++ 10 ∷ rest
    → (rounds : List (List ScriptView)) × AreRoundsOfOne rounds × (trace ≡ unnoted_trace rounds)
only trace rest h e = only_at trace.version trace.rounds (named trace.version trace.rounds rest e) h

-- ---- all such rounds

scripts_again : (rounds : List (List ScriptView)) → bare (map unnoted rounds) ≡ rounds
scripts_again [] = refl
scripts_again (scripts ∷ rounds) = ap (λ (rs : List (List ScriptView)). scripts ∷ rs) (scripts_again rounds)

no_notes : (rounds : List (List ScriptView)) → note_count (map unnoted rounds) ≡ 0
no_notes [] = refl
no_notes (scripts ∷ rounds) = no_notes rounds

rounds_of_one : (rounds : List (List ScriptView)) → list_all is_round rounds ≡ true → list_all (are_up_to 16) rounds ≡ true
    → list_all (is_round_of One) (map unnoted rounds) ≡ true
rounds_of_one [] h k = refl
rounds_of_one (scripts ∷ rounds) h k =
    let a = and_parts (is_round scripts) (list_all is_round rounds) h in
    let b = and_parts (are_up_to 16 scripts) (list_all (are_up_to 16) rounds) k in
    and_from _ _
    (parts_round One (unnoted scripts) (record { scripts = a.0; threads = b.0; notes = refl }))
    (rounds_of_one rounds a.1 b.1)

is_trace : (rounds : List (List ScriptView)) → AreRoundsOfOne rounds → IsTrace (unnoted_trace rounds)
is_trace rounds h = record {
  each = rounds_of_one rounds h.each h.threads;
  rounds_fit = omega (arith, length-map rounds unnoted, h.rounds_fit);
  steps_fit = omega (arith, ap total_steps (scripts_again rounds), h.steps_fit);
  notes_fit = omega (arith, no_notes rounds);
}

pub all : (rounds : List (List ScriptView)) → AreRoundsOfOne rounds
    → IsTrace (unnoted_trace rounds) × (spelling (unnoted_trace rounds) ≡ unnoted_spelling rounds)
all rounds h = (
  is_trace rounds h,
  ap (λ (lines : List (List (List ℕ))). text_of (codes "hmtrace 1" ∷ map line_of lines ++ codes "end" ∷ []))
      (flat_map-map round_lines unnoted rounds),
)
