-- The names that the scripts of a round leave.
use Rattle.hm_replay.specs.Names.{Names, ScopeView, Touched, held, no_name, own_names, seen_in, settled, touched_all, with_all, with_name, with_own, with_lists, AreLeft}
use Rattle.hm_replay.specs.Workers.{LeavesNames}
use Rattle.hm_replay.proofs.Held.{word_sym}
use Rattle.hm_replay.specs.declared.left.NameLeft.{NameLeft}
use Rattle.hm_replay.specs.declared.round.Worker.{Worker}
use Rattle.hm_trace.specs.Names.{is_word}
use Rattle.hm_trace.specs.Views.{StepView, name_view}
use Rattle.hm_trace.specs.declared.names.Name.{Name}
use Rattle.std.proofs.Common.{◌≡◌, ℕ, Bool, true, false, cond, List, [], ◌∷◌, ◌++◌, Option, Some, None, Result, Ok, Err, IfOk, IfSome, refl, sym, ◌∙◌, ap, subst, ◌<◌, length, slice_index_or, map, Vec, arith, suc}
use Rattle.std.specs.Cmp.Lexicographic.{same_text}
use Rattle.std.specs.Option.{is_some, option_map_or}
use mathlib.Core.Path.{fun_ext}
use Rattle.std.specs.Result.{result_ok}
use Rattle.std.specs.declared.alloc.Global.{Global}

-- the names that each worker's script sets, among others
abbrev pub all_settled : Names → List Worker → Names
all_settled names [] = names
all_settled names (w ∷ ws) = all_settled (settled names w.script.now.steps (seen_in w.scope)) ws

-- ---- what a script leaves of its names
-- the first of the names that a script has set, which it has not set otherwise
pub own_one : (names : Names) (round : List (Name × ℕ)) (e : Name × Option ℕ) (es : List (Name × Option ℕ))
    → held es (name_view e.0) ≡ None
    → with_own (with_name names (name_view e.0) e.1) (round, es) ≡ with_own names (round, e ∷ es)
own_one names round e es none = fun_ext (λ q. by q (is_word q (name_view e.0)) refl)
  where
    by : (q : List ℕ) (b : Bool) → is_word q (name_view e.0) ≡ b
        → with_own (with_name names (name_view e.0) e.1) (round, es) q
        ≡ option_map_or (λ (given : Option ℕ). given) (cond b (Some e.1) (held es q)) (names q)
    by q true is =
        ap (λ (o : Option (Option ℕ)). option_map_or (λ (given : Option ℕ). given) o (with_name names (name_view e.0) e.1 q))
        (ap (λ (n : List ℕ). held es n) (same_text q (name_view e.0) (sym is)) ∙ none)
        ∙ ap (λ (b : Bool). cond b e.1 (names q)) (word_sym (name_view e.0) q ∙ is)
    by q false is =
        ap (λ (b : Bool). option_map_or (λ (given : Option ℕ). given) (held es q) (cond b e.1 (names q)))
        (word_sym (name_view e.0) q ∙ is)

-- where a script has touched what its steps set, these are settled
pub own_settled : (names : Names) (s : ScopeView) (steps : List StepView) → own_names s ≡ touched_all no_name steps
    → with_own names s ≡ settled names steps (seen_in s)
own_settled names s steps is = fun_ext (λ q.
    by (held s.1 q) (held s.0 q) (names q)
    ∙ ap (λ (touched : Touched). cond (touched q) (seen_in s q) (names q)) is)
  where
    by : (o : Option (Option ℕ)) (round name : Option ℕ) → option_map_or (λ (given : Option ℕ). given) o name
        ≡ cond (is_some o) (option_map_or (λ (given : Option ℕ). given) o round) name
    by None round name = refl
    by (Some given) round name = refl

pub left_settled : {E : Type 0} (s : ScopeView) (steps : List StepView) (r : Result (Vec NameLeft Global) E)
    → IfOk r (λ left. (names : Names) → with_all names left.items ≡ with_own names s)
    → own_names s ≡ touched_all no_name steps → IfOk r (λ left. AreLeft steps (seen_in s) left.items)
left_settled s steps (Err e) left touched = tt
left_settled s steps (Ok v) left touched = record { settle = λ names. left names ∙ own_settled names s steps touched }

-- what was answered, and what is known of it
pub was_ok : {X E P : Type 0} {x : X} (r : Result X E) → result_ok r ≡ Some x → IfOk r (λ y. P) → P
was_ok (Err e) is p = absurd cc
was_ok (Ok y) is p = p

-- ---- lists one after another
pub with_all_then : (names : Names) (left more : List NameLeft)
    → with_all names (left ++ more) ≡ with_all (with_all names left) more
with_all_then names [] more = refl
with_all_then names (m ∷ left) more = with_all_then (with_name names (name_view m.name) m.address) left more

-- ---- the lists of all workers
-- what was answered, as a worker keeps it
pub kept_ok : {X E : Type 0} (r : Result X E) (o : Option X) (P : X → Type 0) → o ≡ result_ok r → IfOk r P → IfSome o P
kept_ok {X} {E} r o P is all = subst (λ (x : Option X). IfSome x P) (sym is) (by r all)
  where
    by : (r : Result X E) → IfOk r P → IfSome (result_ok r) P
    by (Err e) all = tt
    by (Ok x) all = all

-- the names of all scripts are settled, list by list
pub settles_all : (names : Names) (ws : List Worker) (lists : List (Vec NameLeft Global))
    → ((i : ℕ) (w : Worker) → i < length ws → LeavesNames (slice_index_or ws i w))
    → map (λ (v : Vec NameLeft Global). Some v) lists ≡ map (λ (w : Worker). w.left) ws
    → with_lists names lists ≡ all_settled names ws
settles_all names [] [] left is = refl
settles_all names [] (v ∷ lists) left is = absurd cc
settles_all names (w ∷ ws) [] left is = absurd cc
settles_all names (w ∷ ws) (v ∷ lists) left is =
    let first : Some v ≡ w.left = cc in
    let others : map (λ (v : Vec NameLeft Global). Some v) lists ≡ map (λ (w : Worker). w.left) ws = cc in
    let this : AreLeft w.script.now.steps (seen_in w.scope) v.items =
    subst (λ (o : Option (Vec NameLeft Global)). IfSome o (λ left. AreLeft w.script.now.steps (seen_in w.scope) left.items))
    (sym first) (left 0 w (omega arith)) in
    ap (λ (z : Names). with_lists z lists) (this.settle names)
    ∙ settles_all (settled names w.script.now.steps (seen_in w.scope)) ws lists
    (λ i x l. left (suc i) x (omega (arith, l))) others
