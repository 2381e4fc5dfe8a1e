-- No slab serves exactly where the two lists are empty.
use Rattle.std.proofs.Common.{◌≡◌, ◌⊎◌, ℕ, ◌==◌, Bool, true, false, not, ◌&&◌, ◌||◌, List, [], ◌∷◌, Some, None, inl, inr, ⊎_elim, sym, ◌∙◌, ap, refl, true≢false}
use Rattle.std.specs.List.{list_any}
use Rattle.hm_model.specs.Maps.{among, keys}
use Rattle.hm_sizes.specs.declared.shape.Shape.{Shape}
use Rattle.hm_sizes.specs.Shapes.{IsShape}
use Rattle.hm_class_rules.specs.State.{State, is_open, is_partial, is_empty, none_partial, none_empty, unopened}
use Rattle.hm_class_rules.specs.Rules.{Source}
use Rattle.hm_model.proofs.Lists.{eq_same, same_eq}
use Rattle.hm_class_rules.proofs.Delay.{among_here}
use Rattle.hm_class_rules.proofs.Legal.{empty_open}
use Rattle.hm_class_rules.proofs.Listed.{any_none}
use Rattle.hm_class_book.specs.Sources.{is_nil, Holds, serves_by}
use Rattle.hm_class_rules.proofs.SameSlab.{any_at, open_key, partial_open}

none_by : (s : State) (test : ℕ → Bool) (list : List ℕ) → Holds list test → ((n : ℕ) → test n ≡ true → is_open s n ≡ true) → not (list_any test (keys s.opens)) ≡ is_nil list
none_by s test [] holds opens = ap (λ b. not b) (any_none test (keys s.opens) (λ n. sym (holds n)))
none_by s test (x ∷ xs) holds opens =
    let yes : test x ≡ true = sym (holds x) ∙ among_here x xs in
    ap (λ b. not b) (any_at test x (keys s.opens) (open_key s x (opens x yes)) yes)

pub none_partial_is : (p : Shape) (s : State) (list : List ℕ) → Holds list (is_partial p s) → none_partial p s ≡ is_nil list
none_partial_is p s list holds = none_by s (is_partial p s) list holds (partial_open p s)

pub none_empty_is : (p : Shape) (s : State) (list : List ℕ) → IsShape p → Holds list (is_empty p s) → none_empty p s ≡ is_nil list
none_empty_is p s list shape holds = none_by s (is_empty p s) list holds (λ n. empty_open p s n shape)

-- ---- the source, where none is opened, and where one is
or_parts : (x y z : Bool) → (x || (y && z)) ≡ true → (x ≡ true) ⊎ ((y ≡ true) × (z ≡ true))
or_parts true y z e = inl refl
or_parts false true z e = inr (refl, e)
or_parts false false z e = absurd (true≢false (sym e))

or_first : (x y : Bool) → x ≡ true → (x || y) ≡ true
or_first x y e = ap (λ b. b || y) e

or_second : (x y z : Bool) → y ≡ true → z ≡ true → (x || (y && z)) ≡ true
or_second true y z e f = refl
or_second false y z e f = ap (λ b. b && z) e ∙ f

pub serves_is : (p : Shape) (s : State) (partial empty : List ℕ) (n : ℕ) (r : Bool) → Holds partial (is_partial p s) → Holds empty (is_empty p s) → r ≡ serves_by partial empty n
    → (r ≡ true → Source p s None n) × (Source p s None n → r ≡ true)
serves_is p s partial empty n r hp he is = (
  λ e. ⊎_elim
      (λ h. inl (sym (hp n) ∙ h))
      (λ h. inr (none_partial_is p s partial hp ∙ h.0, sym (he n) ∙ h.1))
      (or_parts (among n partial) (is_nil partial) (among n empty) (sym is ∙ e)),
  λ source. is ∙ ⊎_elim
      (λ h. or_first (among n partial) (is_nil partial && among n empty) (hp n ∙ h))
      (λ h. or_second (among n partial) (is_nil partial) (among n empty) (sym (none_partial_is p s partial hp) ∙ h.0) (he n ∙ h.1))
      source,
)

pub three_parts : (x y z w : Bool) → (((x && y) && z) && w) ≡ true → (x ≡ true) × (y ≡ true) × (z ≡ true) × (w ≡ true)
three_parts true true true w e = (refl, refl, refl, e)
three_parts true true false w e = absurd (true≢false (sym e))
three_parts true false z w e = absurd (true≢false (sym e))
three_parts false y z w e = absurd (true≢false (sym e))

pub all_three : (x y z w : Bool) → x ≡ true → y ≡ true → z ≡ true → w ≡ true → (((x && y) && z) && w) ≡ true
all_three x y z w a b c d = λ i. ((a i && b i) && c i) && d i

pub opens_is : (p : Shape) (s : State) (partial empty : List ℕ) (n m : ℕ) (r same : Bool) → IsShape p → Holds partial (is_partial p s) → Holds empty (is_empty p s)
    → r ≡ (((is_nil partial && is_nil empty) && (m == n)) && same)
    → (same ≡ true → unopened p s.shut s.next ≡ Some m) → (unopened p s.shut s.next ≡ Some m → same ≡ true)
    → (r ≡ true → Source p s (Some m) n) × (Source p s (Some m) n → r ≡ true)
opens_is p s partial empty n m r same shape hp he is to from = (
  λ e. let all = three_parts (is_nil partial) (is_nil empty) (m == n) same (sym is ∙ e) in
      (sym (eq_same m n all.2), (none_partial_is p s partial hp ∙ all.0, none_empty_is p s empty shape he ∙ all.1), to all.3),
  λ source. is ∙ all_three (is_nil partial) (is_nil empty) (m == n) same (sym (none_partial_is p s partial hp) ∙ source.1.0) (sym (none_empty_is p s empty shape he) ∙ source.1.1) (same_eq m n (sym source.0)) (from source.2),
)
