-- The tickets and notes after a change of one view.
use Rattle.std.proofs.Common.{◌≡◌, ◌≢◌, ◌≤◌, ◌<◌, ◌+◌, le_refl, ℕ, zero, suc, List, [], ◌∷◌, ◌++◌, length, set, sym, ap, ◌∙◌, ⊎_elim, arith, Option, None, Some}
use Rattle.std.specs.Option.{option_len}
use mathlib.Core.Option.{some-injective, some-ne-none}
use Rattle.std.proofs.lemmas.Option.{same_Some}
use Rattle.atomic_table.proofs.Lists.{at_set}
use Rattle.hm_turn.specs.declared.view.View.{View}
use Rattle.hm_turn.specs.Rule.{At, tickets_out, AreQueued}
use Rattle.hm_turn.proofs.Views.{at_snoc}

pub no_number : (o : Option ℕ) (t : ℕ) → o ≡ None → o ≡ Some t → ⊥
no_number o t p q = cc

pub out_set : (views : List View) (id : ℕ) (v w : View) → At views id v
    → tickets_out (set views id w) + option_len v.ticket ≡ tickets_out views + option_len w.ticket
out_set [] id v w at = absurd (some-ne-none v (sym at))
out_set (x ∷ xs) zero v w at = let e = ap (λ (u : View). option_len u.ticket) (some-injective x v at) in omega arith
out_set (x ∷ xs) (suc id) v w at = let e = out_set xs id v w at in omega arith

pub out_snoc : (views : List View) (w : View) → tickets_out (views ++ w ∷ []) ≡ tickets_out views + option_len w.ticket
out_snoc [] w = omega arith
out_snoc (x ∷ xs) w = let e = out_snoc xs w in omega arith

-- a view changes, and what is drawn or served may have gone on
pub queue_set : (ticket serving ticket' serving' : ℕ) (views : List View) (id : ℕ) (w : View) → AreQueued ticket serving views → serving' ≤ ticket'
    → ((t : ℕ) → w.ticket ≡ Some t → (serving' ≤ t) × (t < ticket') × ((j : ℕ) (u : View) → j ≢ id → At views j u → u.ticket ≡ Some t → ⊥))
    → ((j : ℕ) (u : View) (t : ℕ) → j ≢ id → At views j u → u.ticket ≡ Some t → (serving' ≤ t) × (t < ticket'))
    → ((n : ℕ) → w.note ≡ Some n → n ≤ serving') → serving ≤ serving' → serving' + tickets_out (set views id w) ≡ ticket'
    → AreQueued ticket' serving' (set views id w)
queue_set ticket serving ticket' serving' views id w old order mine others note up count = record {
  in_order = order;
  many = count;
  between = λ j u t p h. ⊎_elim (λ (x : (j ≡ id) × (w ≡ u)). let m = mine t (ap (λ (z : View). z.ticket) x.1 ∙ h) in (m.0, m.1))
      (λ (x : (j ≢ id) × At views j u). others j u t x.0 x.1 h) (at_set views id j w u p);
  differ = λ i j a b t p q h k. ⊎_elim
      (λ (x : (i ≡ id) × (w ≡ a)). ⊎_elim (λ (y : (j ≡ id) × (w ≡ b)). x.0 ∙ sym y.0)
      (λ (y : (j ≢ id) × At views j b). absurd ((mine t (ap (λ (z : View). z.ticket) x.1 ∙ h)).2 j b y.0 y.1 k)) (at_set views id j w b q))
      (λ (x : (i ≢ id) × At views i a). ⊎_elim (λ (y : (j ≡ id) × (w ≡ b)). absurd ((mine t (ap (λ (z : View). z.ticket) y.1 ∙ k)).2 i a x.0 x.1 h))
      (λ (y : (j ≢ id) × At views j b). old.differ i j a b t x.1 y.1 h k) (at_set views id j w b q))
      (at_set views id i w a p);
  noted = λ j u n p h. ⊎_elim (λ (x : (j ≡ id) × (w ≡ u)). note n (ap (λ (z : View). z.note) x.1 ∙ h))
      (λ (x : (j ≢ id) × At views j u). let a = old.noted j u n x.1 h in omega arith) (at_set views id j w u p);
}

-- a view keeps its ticket
pub queue_kept : (ticket serving : ℕ) (views : List View) (id : ℕ) (v w : View) → AreQueued ticket serving views → At views id v → w.ticket ≡ v.ticket
    → ((n : ℕ) → w.note ≡ Some n → n ≤ serving) → AreQueued ticket serving (set views id w)
queue_kept ticket serving views id v w l at same note = queue_set ticket serving ticket serving views id w l l.in_order
    (λ t e. let x = l.between id v t at (sym same ∙ e) in (x.0, x.1, λ j u n p h. n (l.differ j id u v t p at h (sym same ∙ e))))
    (λ j u t n p h. l.between j u t p h) note (le_refl serving) (let c = out_set views id v w at in let m = l.many in let e = ap option_len same in omega arith)

-- a view with no ticket draws the next
pub queue_drawn : (ticket serving : ℕ) (views : List View) (id : ℕ) (v w : View) → AreQueued ticket serving views → At views id v → v.ticket ≡ None
    → w.ticket ≡ Some ticket → w.note ≡ None → AreQueued (ticket + 1) serving (set views id w)
queue_drawn ticket serving views id v w l at none is no_note = let order = l.in_order in queue_set ticket serving (ticket + 1) serving views id w l (omega arith)
    (λ t e. let same = same_Some ticket t (sym is ∙ e) in (omega arith, omega arith, λ j u n p h. let x = l.between j u t p h in absurd (omega arith)))
    (λ j u t n p h. let x = l.between j u t p h in (x.0, omega arith)) (λ n e. absurd (no_number w.note n no_note e)) (le_refl serving)
    (let c = out_set views id v w at in let m = l.many in let e = ap option_len none in let f = ap option_len is in omega arith)

-- the view whose ticket is served gives it up, and the next is served
pub queue_served : (ticket serving : ℕ) (views : List View) (id : ℕ) (v w : View) → AreQueued ticket serving views → At views id v → v.ticket ≡ Some serving
    → w.ticket ≡ None → w.note ≡ None → AreQueued ticket (serving + 1) (set views id w)
queue_served ticket serving views id v w l at is none no_note = let drawn = l.between id v serving at is in queue_set ticket serving ticket (serving + 1) views id w l (omega arith)
    (λ t e. absurd (no_number w.ticket t none e))
    (λ j u t other p h. let y = l.between j u t p h in let apart : t ≢ serving = λ e. other (l.differ j id u v serving p at (h ∙ ap Some e) is) in (omega arith, y.1))
    (λ n e. absurd (no_number w.note n no_note e)) (omega arith)
    (let c = out_set views id v w at in let m = l.many in let e = ap option_len is in let f = ap option_len none in omega arith)

-- a view with neither goes, or one comes in its place
pub queue_spent : (ticket serving : ℕ) (views : List View) (id : ℕ) (v w : View) → AreQueued ticket serving views → At views id v → v.ticket ≡ None
    → w.ticket ≡ None → w.note ≡ None → AreQueued ticket serving (set views id w)
queue_spent ticket serving views id v w l at none gone no_note = queue_kept ticket serving views id v w l at (gone ∙ sym none) (λ n e. absurd (no_number w.note n no_note e))

-- a view comes with neither a ticket nor a note
pub queue_snoc : (ticket serving : ℕ) (views : List View) (w : View) → AreQueued ticket serving views → w.ticket ≡ None → w.note ≡ None
    → AreQueued ticket serving (views ++ w ∷ [])
queue_snoc ticket serving views w l none no_note = let no : (u : View) (t : ℕ) → w ≡ u → u.ticket ≡ Some t → ⊥ = λ u t e h. no_number u.ticket t (ap (λ (z : View). z.ticket) (sym e) ∙ none) h in record {
  in_order = l.in_order;
  many = let c = out_snoc views w in let m = l.many in let e = ap option_len none in omega arith;
  between = λ j u t p h. ⊎_elim (λ (x : At views j u). l.between j u t x h) (λ (x : (j ≡ length views) × (w ≡ u)). absurd (no u t x.1 h)) (at_snoc views w u j p);
  differ = λ i j a b t p q h k. ⊎_elim
      (λ (x : At views i a). ⊎_elim (λ (y : At views j b). l.differ i j a b t x y h k) (λ (y : (j ≡ length views) × (w ≡ b)). absurd (no b t y.1 k)) (at_snoc views w b j q))
      (λ (x : (i ≡ length views) × (w ≡ a)). absurd (no a t x.1 h)) (at_snoc views w a i p);
  noted = λ j u n p h. ⊎_elim (λ (x : At views j u). l.noted j u n x h)
      (λ (x : (j ≡ length views) × (w ≡ u)). absurd (no_number u.note n (ap (λ (z : View). z.note) (sym x.1) ∙ no_note) h)) (at_snoc views w u j p);
}
