-- Lists of views, and who is known after a change of one.
use Rattle.std.proofs.Common.{◌≡◌, ◌≢◌, ℕ, zero, suc, true, false, ◌⊎◌, List, [], ◌∷◌, ◌++◌, length, set, sym, refl, ap, ◌∙◌, subst, inl, inr, ⊎_elim, Some, ne_eqb}
use mathlib.Core.Option.{some, some-injective, some-ne-none}
use mathlib.Core.Logic.{dite}
use native.Mathlib.Decide.{ℕ_discrete}
use lib.ListN.{get_elem?}
use Rattle.atomic_table.proofs.Lists.{at_set, set_else}
use Rattle.std.proofs.lemmas.List.{append-nil}
use Rattle.hm_model.specs.declared.entry.Entry.{Entry}
use Rattle.hm_turn.proofs.Histories.{calls_by, calls_by-append}
use Rattle.hm_turn.specs.declared.view.View.{View}
use Rattle.hm_turn.specs.Callers.{is_among, Ended, ended_of}
use Rattle.hm_turn.specs.Rule.{At, AreKnown}

pub at_one : {A : Type 0} (a b : A) (j : ℕ) → get_elem? (a ∷ []) j ≡ some b → (j ≡ 0) × (a ≡ b)
at_one a b zero e = (refl, some-injective a b e)
at_one a b (suc j) e = absurd (some-ne-none b (sym e))

pub set_at : {A : Type 0} (l : List A) (i : ℕ) (a b : A) → get_elem? l i ≡ some a → get_elem? (set l i b) i ≡ some b
set_at [] i a b e = absurd (some-ne-none a (sym e))
set_at (x ∷ xs) zero a b e = refl
set_at (x ∷ xs) (suc i) a b e = set_at xs i a b e

pub one_at : {A : Type 0} (l : List A) (i : ℕ) (a b : A) → get_elem? l i ≡ some a → get_elem? l i ≡ some b → a ≡ b
one_at l i a b p q = some-injective a b (sym p ∙ q)

pub at_snoc : {A : Type 0} (l : List A) (a b : A) (j : ℕ) → get_elem? (l ++ a ∷ []) j ≡ some b → (get_elem? l j ≡ some b) ⊎ ((j ≡ length l) × (a ≡ b))
at_snoc [] a b zero e = inr (refl, some-injective a b e)
at_snoc [] a b (suc j) e = absurd (some-ne-none b (sym e))
at_snoc (x ∷ xs) a b zero e = inl e
at_snoc (x ∷ xs) a b (suc j) e = ⊎_elim (λ p. inl p) (λ t. inr (ap suc t.0, t.1)) (at_snoc xs a b j e)

pub calls_by-other : (c : ℕ) (h : List Entry) (e : Entry) → e.who.caller ≢ c → calls_by c (h ++ e ∷ []) ≡ calls_by c h
calls_by-other c h e other = calls_by-append c h (e ∷ []) ∙ (rw (ne_eqb e.who.caller c other) (append-nil (calls_by c h)))

-- the callers of views that came from those before, under a chief that has the same books
pub rebuilt : (history history' : List Entry) (views views' : List View) (k : AreKnown history views) (chief' : View) → At views' k.root chief' → chief'.spent ≡ false → chief'.caller ≡ 0
    → (chief'.used ≡ k.chief.used) → (chief'.out ≡ k.chief.out) → (chief'.ended ≡ k.chief.ended)
    → ((c : ℕ) (calls : List Entry) → ended_of c k.chief.ended ≡ Some calls → (calls_by c chief'.seen ≡ calls) × (calls_by c history' ≡ calls))
    → ((c : ℕ) → c ≢ 0 → is_among c k.chief.used ≡ false → calls_by c history' ≡ [])
    → ((j : ℕ) (u : View) → At views' j u → u.spent ≡ false → (v : View) × At views j v × (v.spent ≡ false) × (v.caller ≡ u.caller))
    → ((j : ℕ) (v : View) → At views j v → v.spent ≡ false → (u : View) × At views' j u × (u.spent ≡ false) × (u.caller ≡ v.caller))
    → AreKnown history' views'
rebuilt history history' views views' k chief' at live zero_is used out ended over strange back forth = record {
  root = k.root;
  chief = chief';
  outs = k.outs;
  seats = record {
    at_root = at;
    root_live = live;
    root_zero = zero_is;
    counted = out ∙ k.seats.counted;
    distinct = k.seats.distinct;
    apart = λ i j v w p q lv lw e. let a = back i v p lv in let b = back j w q lw in k.seats.apart i j a.0 b.0 a.1 b.1 a.2 b.2 (a.3 ∙ (e ∙ sym b.3));
    live = λ j u p lu. let a = back j u p lu in subst (λ (c : ℕ). (c ≡ 0) ⊎ (is_among c k.outs ≡ true)) a.3 (k.seats.live j a.0 a.1 a.2);
    present = λ c h. let p = k.seats.present c h in let a = forth p.0 p.1 p.2 p.3 in (p.0, a.0, a.1, a.2, a.3 ∙ p.4);
  };
  calls = record {
    gone = λ j u p lu. let a = back j u p lu in ap (λ (es : Ended). ended_of u.caller es) ended ∙ (ap (λ (c : ℕ). ended_of c k.chief.ended) (sym a.3) ∙ k.calls.gone j a.0 a.1 a.2);
    out_used = λ c h. ap (is_among c) used ∙ k.calls.out_used c h;
    used_are = λ c h. let t = k.calls.used_are c (ap (is_among c) (sym used) ∙ h) in
        ⊎_elim (λ (p : is_among c k.outs ≡ true). inl p) (λ (p : (calls : List Entry) × (ended_of c k.chief.ended ≡ Some calls)). inr (p.0, ap (λ (es : Ended). ended_of c es) ended ∙ p.1)) t;
    ended_used = λ c calls h. ap (is_among c) used ∙ k.calls.ended_used c calls (ap (λ (es : Ended). ended_of c es) (sym ended) ∙ h);
    ended_are = λ c calls h. over c calls (ap (λ (es : Ended). ended_of c es) (sym ended) ∙ h);
    strangers = λ c n h. strange c n (ap (is_among c) (sym used) ∙ h);
  };
}

-- what one view's change leaves: the others as they were, and the one with its caller
pub backwards : (views : List View) (id : ℕ) (v w : View) → At views id v → v.spent ≡ false → v.caller ≡ w.caller
    → (j : ℕ) (u : View) → At (set views id w) j u → u.spent ≡ false → (x : View) × At views j x × (x.spent ≡ false) × (x.caller ≡ u.caller)
backwards views id v w at lives same j u p lu = ⊎_elim (λ (t : (j ≡ id) × (w ≡ u)). (v, ap (get_elem? views) t.0 ∙ at, lives, same ∙ ap (λ (x : View). x.caller) t.1))
    (λ (t : (j ≢ id) × At views j u). (u, t.1, lu, refl)) (at_set views id j w u p)

-- and the other way round
pub forwards : (views : List View) (id : ℕ) (v w : View) → At views id v → w.spent ≡ false → w.caller ≡ v.caller
    → (j : ℕ) (u : View) → At views j u → u.spent ≡ false → (x : View) × At (set views id w) j x × (x.spent ≡ false) × (x.caller ≡ u.caller)
forwards views id v w at livew same j u p lu = dite (ℕ_discrete j id)
    (λ e. (w, ap (get_elem? (set views id w)) e ∙ set_at views id v w at, livew, same ∙ ap (λ (x : View). x.caller) (one_at views id v u at (ap (get_elem? views) (sym e) ∙ p))))
    (λ n. (u, set_else views id j w n ∙ p, lu, refl))
