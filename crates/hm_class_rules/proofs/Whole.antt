-- Each open slab has all its bytes.
use Rattle.std.proofs.Common.{◌≡◌, ◌≢◌, ⊎_elim, ℕ, ◌+◌, ◌==◌, Bool, true, false, cond, not, List, [], ◌∷◌, length, replicate, Option, Some, None, unwrap_or, sym, ◌∙◌, ap, refl}
use Rattle.std.specs.Int.{to_le_bytes}
use mir.Syntax.{w64}
use Rattle.std.proofs.lemmas.Bool.{cases_eq}
use Rattle.std.proofs.lemmas.List.{length-replicate}
use Rattle.std.proofs.lemmas.Option.{none-some, same_Some}
use Rattle.hm_base.specs.Lists.{zeros}
use Rattle.hm_model.specs.declared.entry.Call.{Call}
use Rattle.hm_model.specs.declared.entry.Call.TheVariants.{Allot, GiveBack, Fill}
use Rattle.hm_model.specs.declared.entry.Reply.{Reply}
use Rattle.hm_model.specs.declared.entry.Reply.TheVariants.{Given, Overwritten, Freed, Filled}
use Rattle.hm_model.specs.declared.entry.Choices.{Choices}
use Rattle.hm_model.specs.Machine.{legal_keeps}
use Rattle.hm_model.specs.Maps.{at, removed, put}
use Rattle.hm_model.specs.Overlaid.{overlaid}
use Rattle.hm_model.specs.Runs.{expand}
use Rattle.hm_model.proofs.Lists.{eq_same, eq_other, other_eq}
use Rattle.hm_model.proofs.Overlaid.{length_overlaid}
use Rattle.hm_sizes.specs.declared.shape.Shape.{Shape}
use Rattle.hm_sizes.specs.Shapes.{has_bytes, usable, slab_at}
use Rattle.hm_class_rules.specs.State.{State, Slab, start}
use Rattle.hm_class_rules.specs.Bytes.{overlaid_slabs, kept_canary}
use Rattle.hm_class_rules.specs.Steps.{new_slab, opened, takes_back, releases, unparks, retires, purges, changed, step}
use Rattle.hm_class_rules.specs.Rules.{Allowed}
use Rattle.hm_class_rules.specs.Laws.{bytes_of_slab, AllWhole, WholeSlabs}

-- ---- a slab with bytes written over its own
abbrev pub over : Shape → ℕ → List ℕ → ℕ → Slab → Slab
over p a w n b = record { bytes = overlaid a w (slab_at p n) b.bytes; canary = b.canary }

pub at_over : (p : Shape) (a : ℕ) (w : List ℕ) (n : ℕ) (m : List (ℕ × Slab)) (b : Slab) → at n m ≡ Some b → at n (overlaid_slabs p a w m) ≡ Some (over p a w n b)
at_over p a w n [] b is = absurd (none-some b is)
at_over p a w n (e ∷ m) b is =
    elim (e.0 == n) as (λ t. (e.0 == n) ≡ t → cond t (Some e.1) (at n m) ≡ Some b → cond t (Some (over p a w e.0 e.1)) (at n (overlaid_slabs p a w m)) ≡ Some (over p a w n b)) [
      | true ↦ λ key h. ap (λ (k : ℕ). Some (over p a w k e.1)) (eq_same e.0 n key) ∙ ap (λ (x : Slab). Some (over p a w n x)) (same_Some e.1 b h)
      | false ↦ λ key h. at_over p a w n m b h
    ] refl is

pub over_at : (p : Shape) (a : ℕ) (w : List ℕ) (n : ℕ) (m : List (ℕ × Slab)) (x : Slab) → at n (overlaid_slabs p a w m) ≡ Some x → (b : Slab) × (at n m ≡ Some b)
over_at p a w n [] x is = absurd (none-some x is)
over_at p a w n (e ∷ m) x is =
    elim (e.0 == n) as (λ t. cond t (Some (over p a w e.0 e.1)) (at n (overlaid_slabs p a w m)) ≡ Some x → (b : Slab) × (cond t (Some e.1) (at n m) ≡ Some b)) [
      | true ↦ λ h. (e.1, refl)
      | false ↦ λ h. over_at p a w n m x h
    ] is

-- ---- every step keeps slabs whole
module _ {X : Type 0} where
  pub at_removed : (n k : ℕ) (m : List (ℕ × X)) → n ≢ k → at k (removed n m) ≡ at k m
  at_removed n k [] ne = refl
  at_removed n k (e ∷ m) ne =
      elim (e.0 == n) as (λ t. (e.0 == n) ≡ t → at k (cond (not t) (e ∷ removed n m) (removed n m)) ≡ at k (e ∷ m)) [
        | true ↦ λ is. at_removed n k m ne ∙ sym (ap (λ (t : Bool). cond t (Some e.1) (at k m)) (other_eq e.0 k (λ same. ne (sym (eq_same e.0 n is) ∙ same))))
        | false ↦ λ is. ap (λ (o : Option X). cond (e.0 == k) (Some e.1) o) (at_removed n k m ne)
      ] refl

  pub at_removed_same : (n : ℕ) (m : List (ℕ × X)) → at n (removed n m) ≡ None
  at_removed_same n [] = refl
  at_removed_same n (e ∷ m) =
      elim (e.0 == n) as (λ t. (e.0 == n) ≡ t → at n (cond (not t) (e ∷ removed n m) (removed n m)) ≡ None) [
        | true ↦ λ is. at_removed_same n m
        | false ↦ λ is. ap (λ (t : Bool). cond t (Some e.1) (at n (removed n m))) is ∙ at_removed_same n m
      ] refl

whole_put : (w n : ℕ) (x : Slab) (m : List (ℕ × Slab)) → length x.bytes ≡ w → AllWhole w m → AllWhole w (put n x m)
whole_put w n x m len h k b is =
    elim (n == k) as (λ t. (n == k) ≡ t → cond t (Some x) (at k (removed n m)) ≡ Some b → length b.bytes ≡ w) [
      | true ↦ λ e i. ap (λ (y : Slab). length y.bytes) (sym (same_Some x b i)) ∙ len
      | false ↦ λ e i. h k b (sym (at_removed n k m (eq_other n k e)) ∙ i)
    ] refl is

whole_removed : (w n : ℕ) (m : List (ℕ × Slab)) → AllWhole w m → AllWhole w (removed n m)
whole_removed w n m h k b is =
    ⊎_elim
    (λ e. absurd (none-some b (sym (at_removed_same n m) ∙ ap (λ (x : ℕ). at x (removed n m)) e ∙ is)))
    (λ ne. h k b (sym (at_removed n k m ne) ∙ is))
    (cases_eq n k)

pub whole_write : (w : ℕ) (p : Shape) (a : ℕ) (v : List ℕ) (m : List (ℕ × Slab)) → AllWhole w m → AllWhole w (overlaid_slabs p a v m)
whole_write w p a v m h n x is =
    let o = over_at p a v n m x is in
    ap (λ (y : Slab). length y.bytes) (same_Some x (over p a v n o.0) (sym is ∙ at_over p a v n m o.0 o.1)) ∙ length_overlaid a v (slab_at p n) o.0.bytes ∙ h n o.0 o.1

length_new : (p : Shape) (k : ℕ) → length (new_slab p k).bytes ≡ bytes_of_slab p
length_new p k = elim (has_bytes p) as (λ b. length (cond {A = List ℕ} b (replicate {A = ℕ} p.slab 0) []) ≡ cond b p.slab 0) [ true ↦ length-replicate {A = ℕ} p.slab 0 | false ↦ refl ]

pub whole_opened : (p : Shape) (o canary : Option ℕ) (s : State) → AllWhole (bytes_of_slab p) s.opens → AllWhole (bytes_of_slab p) (opened p o canary s).opens
whole_opened p None canary s h = h
whole_opened p (Some n) canary s h = whole_put (bytes_of_slab p) n (new_slab p (unwrap_or canary 0)) s.opens (length_new p (unwrap_or canary 0)) h

whole_unparks : (w : ℕ) (u : Option ℕ) (s : State) → AllWhole w s.opens → AllWhole w (unparks u s).opens
whole_unparks w None s h = h
whole_unparks w (Some u) s h = h

whole_releases : (w : ℕ) (u : Option ℕ) (s : State) → AllWhole w s.opens → AllWhole w (releases u s).opens
whole_releases w None s h = h
whole_releases w (Some u) s h = h

whole_retires : (w : ℕ) (u : Option ℕ) (s : State) → AllWhole w s.opens → AllWhole w (retires u s).opens
whole_retires w None s h = h
whole_retires w (Some m) s h = whole_removed w m s.opens h

whole_purges : (p : Shape) (w : ℕ) (u : Option ℕ) (s : State) → AllWhole w s.opens → AllWhole w (purges p u s).opens
whole_purges p w None s h = h
whole_purges p w (Some m) s h = whole_write w p (slab_at p m) (zeros p.slab) s.opens h

whole_changed : (p : Shape) (c : Choices) (call : Call) (reply : Reply) (s : State) → AllWhole (bytes_of_slab p) s.opens → AllWhole (bytes_of_slab p) (changed p c call reply s).opens
whole_changed p c (Allot asked align) (Given a size) s h = whole_write (bytes_of_slab p) p (a + usable p) (to_le_bytes w64 (kept_canary p (opened p c.opened c.canary s) a)) (opened p c.opened c.canary s).opens (whole_opened p c.opened c.canary s h)
whole_changed p c (Allot asked align) (Overwritten a place found) s h = whole_opened p c.opened c.canary s h
whole_changed p c (GiveBack a stated) Freed s h =
    whole_purges p (bytes_of_slab p) c.purged (retires c.retired (unparks c.unparked (releases c.released (takes_back p a s)))) (whole_retires (bytes_of_slab p) c.retired (unparks c.unparked (releases c.released (takes_back p a s))) (whole_unparks (bytes_of_slab p) c.unparked (releases c.released (takes_back p a s)) (whole_releases (bytes_of_slab p) c.released (takes_back p a s) (whole_write (bytes_of_slab p) p a (zeros (usable p)) s.opens h))))
whole_changed p c (Fill a runs) Filled s h = whole_write (bytes_of_slab p) p a (expand runs) s.opens h
whole_changed p c call reply s h = h

pub whole_run : WholeSlabs
whole_run t es legal =
    legal_keeps (step t.shape) (Allowed t) (λ s. AllWhole (bytes_of_slab t.shape) s.opens) (λ s e h allowed. whole_changed t.shape e.choices e.call e.reply s h) start es (λ n b is. absurd (none-some b is)) legal
