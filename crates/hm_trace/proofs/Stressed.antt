-- A stress trace is a trace.
use Rattle.std.proofs.Common.{◌≡◌, ◌≢◌, ℕ, zero, suc, ◌+◌, ◌*◌, ◌%◌, ◌^◌, ◌<◌, ◌≤◌, Bool, true, false, not, ◌||◌, cond, leb, List, [], ◌∷◌, ◌++◌, length, refl, ◌∙◌, ap, arith, length-append, pos}
use Rattle.std.specs.List.{list_all, list_any, flat_map}
use Rattle.std.proofs.lemmas.Bool.{le-leb, and_from}
use Rattle.std.proofs.lemmas.Grind.{flat_map-append}
use Rattle.std.proofs.lemmas.List.{append-nil, length-map}
use Rattle.std.proofs.lemmas.List.Folds.{list_any-append}
use Rattle.hm_trace.specs.Names.{is_name}
use Rattle.hm_trace.specs.Stress.{drawn, group, groups, name_at, script, scripts, size_for, stress}
use Rattle.hm_trace.specs.Traces.{IsTrace, are_up_to, avoids, is_round, is_script, is_set, is_step, is_u64, sets_again, sets_name, step_count}
use Rattle.hm_trace.specs.declared.step.Step.{Step}
use Rattle.hm_trace.specs.Views.{Free, Malloc, Named, Read, ScriptView, Size, Write, step_view, steps_view}
use Rattle.hm_trace.specs.declared.version.Version.TheVariants.{One}
use Rattle.hm_trace.proofs.Scripts.{parts_round}
use Rattle.hm_trace.proofs.Stays.{are_push, last_of, last_push}
use Rattle.hm_trace.proofs.StressNames.{is_name_at, list_all_both, names_differ}

-- ---- the steps of a thread are steps

fits_either : (b : Bool) (x y : ℕ) → is_u64 x ≡ true → is_u64 y ≡ true → is_u64 (cond b x y) ≡ true
fits_either true x y h k = h
fits_either false x y h k = k

size_fits : (v : ℕ) → is_u64 (size_for v) ≡ true
size_fits v = fits_either _ 200000 (1 + v % 4096) refl (le-leb _ _ (omega arith))

five_fit : (name other : List ℕ) (size : ℕ) → is_name name ≡ true → is_name other ≡ true → is_u64 size ≡ true
    → list_all is_step (Malloc name size ∷ Write (Named name (pos 0)) 1 0x41 ∷ Size (Named name (pos 0)) ∷ Read (Named name (pos 0)) 1 ∷ Free (Named other (pos 0)) ∷ []) ≡ true
five_fit name other size n o s = rw (n, o, s) refl

group_fits : (t j v : ℕ) → t < 2 ^ 32 → list_all is_step (group t j v) ≡ true
group_fits t j v few = five_fit (name_at t (j % 50)) (name_at t ((j + 25) % 50)) (size_for v) (is_name_at t _ few (omega arith)) (is_name_at t _ few (omega arith)) (size_fits v)

groups_fit : (seed t n : ℕ) → t < 2 ^ 32 → list_all is_step (groups seed t n) ≡ true
unfolding groups
groups_fit seed t zero few = refl
groups_fit seed t (suc j) few = list_all_both is_step (groups seed t j) (group t j (drawn seed t j)) (groups_fit seed t j few) (group_fits t j (drawn seed t j) few)

pub script_fits : (seed t : ℕ) → 1 ≤ t → t ≤ 64 → is_script (script seed t) ≡ true
script_fits seed t low high = and_from _ _ (and_from _ _ (le-leb _ _ low) (le-leb _ _ high)) (groups_fit seed t 2500 (omega arith))

-- ---- how many steps there are

length_groups : (seed t n : ℕ) → length (groups seed t n) ≡ 5 * n
unfolding groups
length_groups seed t zero = refl
length_groups seed t (suc j) = omega (arith, length-append (groups seed t j) (group t j (drawn seed t j)), length_groups seed t j)

pub script_few : (steps : List Step) (seed t : ℕ) → steps_view steps ≡ groups seed t 2500 → length steps ≤ 400000
script_few steps seed t is = omega (arith, length_groups seed t 2500, ap length is, length-map steps step_view)

length_scripts : (seed n : ℕ) → length (flat_map (λ (s : ScriptView). s.steps) (scripts seed n)) ≡ 12500 * n
unfolding scripts
length_scripts seed zero = refl
length_scripts seed (suc t) =
    ap length (flat_map-append (λ (s : ScriptView). s.steps) (scripts seed t) (script seed (suc t) ∷ []))
    ∙ omega (arith, length-append (flat_map (λ (s : ScriptView). s.steps) (scripts seed t)) (groups seed (suc t) 2500 ++ []), length-append (groups seed (suc t) 2500) [], length_groups seed (suc t) 2500, length_scripts seed t)

-- ---- no name is set by two threads

group_differs : (t j v u i : ℕ) → t < 2 ^ 32 → u < 2 ^ 32 → t ≢ u → list_any (sets_name (name_at u i)) (group t j v) ≡ false
group_differs t j v u i few small other = ap (λ b. b || false) (names_differ t u (j % 50) i few small other)

groups_differ : (seed t n u i : ℕ) → t < 2 ^ 32 → u < 2 ^ 32 → t ≢ u → list_any (sets_name (name_at u i)) (groups seed t n) ≡ false
unfolding groups
groups_differ seed t zero u i few small other = refl
groups_differ seed t (suc j) u i few small other =
    let v = drawn seed t j in
    list_any-append (sets_name (name_at u i)) (groups seed t j) (group t j v)
    ∙ ap (λ b. b || list_any (sets_name (name_at u i)) (group t j v)) (groups_differ seed t j u i few small other)
    ∙ group_differs t j v u i few small other

scripts_differ : (seed n u i : ℕ) → n < u → u < 2 ^ 32 → is_set (name_at u i) (scripts seed n) ≡ false
unfolding scripts
scripts_differ seed zero u i later small = refl
scripts_differ seed (suc t) u i later small =
    let sets : ScriptView → Bool = λ s. list_any (sets_name (name_at u i)) s.steps in
    list_any-append sets (scripts seed t) (script seed (suc t) ∷ [])
    ∙ ap (λ b. b || (list_any (sets_name (name_at u i)) (groups seed (suc t) 2500) || false)) (scripts_differ seed t u i (omega arith) small)
    ∙ ap (λ b. b || false) (groups_differ seed (suc t) 2500 u i (omega arith) small (omega arith))

group_avoids : (ss : List ScriptView) (t j v : ℕ) → is_set (name_at t (j % 50)) ss ≡ false → avoids ss (group t j v) ≡ true
group_avoids ss t j v h = rw h refl

groups_avoid : (seed t n : ℕ) (ss : List ScriptView) → ((i : ℕ) → is_set (name_at t i) ss ≡ false) → avoids ss (groups seed t n) ≡ true
unfolding groups
groups_avoid seed t zero ss h = refl
groups_avoid seed t (suc j) ss h = list_all_both (λ s. not (sets_again ss s)) (groups seed t j) (group t j (drawn seed t j)) (groups_avoid seed t j ss h) (group_avoids ss t j (drawn seed t j) (h (j % 50)))

-- ---- the round and the trace

up_to : (seed n most : ℕ) → n ≤ most → are_up_to most (scripts seed n) ≡ true
unfolding scripts
up_to seed zero most le = refl
up_to seed (suc t) most le =
    list_all_both (λ s. leb s.thread most) (scripts seed t) (script seed (suc t) ∷ []) (up_to seed t most (omega arith))
    (and_from _ _ (le-leb _ _ le) refl)

last_thread : (seed n : ℕ) → last_of 0 (scripts seed n) ≡ n
unfolding scripts
last_thread seed zero = refl
last_thread seed (suc t) = last_push 0 (scripts seed t) (script seed (suc t))

pub round_fits : (seed n : ℕ) → n ≤ 64 → is_round (scripts seed n) ≡ true
unfolding scripts
round_fits seed zero few = refl
round_fits seed (suc t) few =
    are_push [] 0 (scripts seed t) (script seed (suc t)) (round_fits seed t (omega arith))
    (record {
      later = omega (arith, last_thread seed t);
      fits = script_fits seed (suc t) (omega arith) few;
      apart = groups_avoid seed (suc t) 2500 (scripts seed t) (λ i. scripts_differ seed t (suc t) i (omega arith) (omega arith));
    })

count_is : (seed : ℕ) → step_count (stress seed).rounds ≡ 200000
count_is seed = ap length (append-nil (flat_map (λ (s : ScriptView). s.steps) (scripts seed 16))) ∙ omega (arith, length_scripts seed 16)

pub traces : (seed : ℕ) → IsTrace (stress seed)
traces seed = record {
  each = and_from _ _ (parts_round One (record { notes = []; scripts = scripts seed 16 }) (record { scripts = round_fits seed 16 (omega arith); threads = up_to seed 16 16 (omega arith); notes = refl })) refl;
  rounds_fit = omega arith;
  steps_fit = omega (arith, count_is seed);
  notes_fit = omega arith;
}
