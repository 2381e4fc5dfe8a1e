-- Addresses by names, searched by the order of names, are searched by their bytes.
use Rattle.std.proofs.Common.{◌≡◌, ◌⊎◌, inl, inr, ℕ, Bool, true, false, cond, List, [], ◌∷◌, Option, Some, None, Result, Ok, Err, nat_eq, refl, sym, ◌∙◌, ap, subst}
use Rattle.std.specs.Prelude.{◌&&◌, ◌||◌, IfSome, OnOk, OnErr}
use Rattle.std.proofs.lemmas.Bool.{cond_both, eq-eqb}
use mathlib.Core.Path.{fun_ext}
use Rattle.std.specs.BTreeMap.{is_at}
use Rattle.std.specs.Map.{lookup}
use Rattle.std.specs.Cmp.Lexicographic.{pointwise, same_text, slice_cmp, texts_ties}
use Rattle.std.specs.Option.{is_some, option_map_or}
use Rattle.std.specs.Ordering.{nat_cmp, eq_by_cmp}
use Rattle.std.specs.declared.cmp.Ordering.{Ordering}
use Rattle.hm_trace.specs.declared.names.Name.{Name}
use Rattle.hm_trace.specs.Names.{is_word}
use Rattle.hm_trace.specs.Views.{name_view}
use Rattle.hm_replay.specs.Names.{held, own_names, seen_in, touched_too, with_name}

-- the order of names, which is that of their bytes
abbrev pub by_bytes : Name → Name → Ordering
by_bytes n m = slice_cmp nat_cmp (name_view n) (name_view m)

-- ---- one text is another
pub word_itself : (text : List ℕ) → is_word text text ≡ true
word_itself [] = refl
word_itself (c ∷ text) = ap (λ (b : Bool). b && is_word text text) (eq-eqb c c refl) ∙ word_itself text

pub word_sym : (name other : List ℕ) → is_word name other ≡ is_word other name
word_sym name other = by (is_word name other) (is_word other name) refl refl
  where
    turned : (n m : List ℕ) → n ≡ m → is_word n m ≡ is_word m n
    turned n m is = λ i. is_word (is i) (sym is i)

    by : (b d : Bool) → is_word name other ≡ b → is_word other name ≡ d → is_word name other ≡ is_word other name
    by true d is that = turned name other (same_text name other (sym is))
    by false true is that = sym (turned other name (same_text other name (sym that)))
    by false false is that = is ∙ sym that

-- ---- what is held
module _ {X : Type 0} where
  -- a lookup by the order is a lookup by the text
  abbrev pub by_order : List ℕ → List (Name × X) → Option X
  by_order q es = lookup (is_at (λ (n : Name). slice_cmp nat_cmp q (name_view n))) es

  pub looked : (es : List (Name × X)) (q : List ℕ) → by_order q es ≡ held es q
  looked [] q = refl
  looked (e ∷ es) q =
      ap (λ b. cond b (Some e.1) (by_order q es)) (sym (texts_ties q (name_view e.0)))
      ∙ ap (λ (r : Option X). cond (pointwise nat_eq q (name_view e.0)) (Some e.1) r) (looked es q)

  -- what an update says of each name
  abbrev pub Updated : List (Name × X) → List (Name × X) → Name → Option X → Type 0
  Updated es fs name given = (q : Name)
      → by_order (name_view q) fs ≡ cond (eq_by_cmp (slice_cmp nat_cmp) (name_view name) (name_view q)) given (by_order (name_view q) es)

  -- what is held after it
  abbrev pub held_with : List (Name × X) → Name → Option X → List ℕ → Option X
  held_with es name given q = cond (is_word (name_view name) q) given (held es q)

  -- so it says of their bytes
  updated_name : (es fs : List (Name × X)) (name : Name) (given : Option X) → Updated es fs name given → (q : Name)
      → held fs (name_view q) ≡ held_with es name given (name_view q)
  updated_name es fs name given h q =
      sym (looked fs (name_view q)) ∙ h q
      ∙ ap (λ b. cond b given (by_order (name_view q) es)) (sym (texts_ties (name_view name) (name_view q)))
      ∙ ap (λ (r : Option X). cond (pointwise nat_eq (name_view name) (name_view q)) given r) (looked es (name_view q))

  -- a text is a name's, or nothing is kept for it
  abbrev IsKnown : List (Name × X) → List ℕ → Type 0
  IsKnown es q = ((n : Name) × (name_view n ≡ q)) ⊎ (held es q ≡ None)

  known_by : (e : Name × X) (es : List (Name × X)) (q : List ℕ) (b : Bool) → is_word q (name_view e.0) ≡ b
      → IsKnown es q → IsKnown (e ∷ es) q
  known_by e es q true is k = inl (e.0, sym (same_text q (name_view e.0) (sym is)))
  known_by e es q false is (inl k) = inl k
  known_by e es q false is (inr none) = inr (ap (λ (b : Bool). cond b (Some e.1) (held es q)) is ∙ none)

  known : (es : List (Name × X)) (q : List ℕ) → IsKnown es q
  known [] q = inr refl
  known (e ∷ es) q = known_by e es q (is_word q (name_view e.0)) refl (known es q)

  -- and of all texts
  module _ (es fs : List (Name × X)) (name : Name) (given : Option X) (says : Updated es fs name given) where
    named_text : (q : List ℕ) → (n : Name) × (name_view n ≡ q) → held fs q ≡ held_with es name given q
    named_text q n =
        subst (λ (z : List ℕ). held fs z ≡ held_with es name given z) n.1 (updated_name es fs name given says n.0)

    other_text : (q : List ℕ) (b : Bool) → is_word (name_view name) q ≡ b → held fs q ≡ None → held es q ≡ None
        → held fs q ≡ held_with es name given q
    other_text q true is f e = named_text q (name, same_text (name_view name) q (sym is))
    other_text q false is f e = f ∙ sym (ap (λ (b : Bool). cond b given (held es q)) is ∙ e)

    pub updated : (q : List ℕ) → held fs q ≡ held_with es name given q
    updated q = elim (known fs q) [
      | inl n ↦ named_text q n
      | inr f ↦ elim (known es q) [
        | inl n ↦ named_text q n
        | inr e ↦ other_text q (is_word (name_view name) q) refl f e
      ]
    ]

    -- what is true of all that is held stays so
    pub updated_each : (Is : X → Type 0) → ((q : List ℕ) → IfSome (held es q) Is) → IfSome given Is → (q : List ℕ)
        → IfSome (held fs q) Is
    updated_each Is all new q =
        subst (λ (o : Option X). IfSome o Is) (sym (updated q))
        (cond_both (is_word (name_view name) q) given (held es q) (λ (o : Option X). IfSome o Is) (λ e. new)
        (λ e. all q))

  -- also where memory may have lacked
  pub inserted_each : {A B U : Type 0} (r : Result A B) (es fs : List (Name × X)) (name : Name) (given : Option X)
      (Is : X → Type 0) → (U → Updated es fs name given) → OnOk r U → OnErr r (fs ≡ es)
      → ((q : List ℕ) → IfSome (held es q) Is) → IfSome given Is → (q : List ℕ) → IfSome (held fs q) Is
  inserted_each (Ok x) es fs name given Is says h same all new = updated_each es fs name given (says h) Is all new
  inserted_each (Err e) es fs name given Is says h same all new =
      subst (λ (l : List (Name × X)). (q : List ℕ) → IfSome (held l q) Is) (sym same) all

-- ---- what a script has set or unset stands over the names of the round
over : (b : Bool) (given names : Option ℕ) (own : Option (Option ℕ))
    → option_map_or (λ (o : Option ℕ). o) (cond b (Some given) own) names
    ≡ cond b given (option_map_or (λ (o : Option ℕ). o) own names)
over true given names own = refl
over false given names own = refl

pub set_over : (round : List (Name × ℕ)) (own after : List (Name × Option ℕ)) (name : Name) (given : Option ℕ)
    → Updated own after name (Some given)
    → seen_in (round, after) ≡ with_name (seen_in (round, own)) (name_view name) given
set_over round own after name given says = fun_ext (λ q.
    ap (λ (o : Option (Option ℕ)). option_map_or (λ (o : Option ℕ). o) o (held round q)) (updated own after name (Some given) says q)
    ∙ over (is_word (name_view name) q) given (held round q) (held own q))

some_or : {X : Type 0} (b : Bool) (x : X) (o : Option X) → is_some (cond b (Some x) o) ≡ (is_some o || b)
some_or true x None = refl
some_or true x (Some y) = refl
some_or false x None = refl
some_or false x (Some y) = refl

pub own_more : (round : List (Name × ℕ)) (own after : List (Name × Option ℕ)) (name : Name) (given : Option ℕ)
    → Updated own after name (Some given)
    → own_names (round, after) ≡ touched_too (own_names (round, own)) (name_view name)
own_more round own after name given says = fun_ext (λ q.
    ap (λ (o : Option (Option ℕ)). is_some o) (updated own after name (Some given) says q)
    ∙ some_or (is_word (name_view name) q) given (held own q))
