-- Single bytes of open slabs.
use Rattle.std.proofs.Common.{◌≡◌, ◌≢◌, ◌⊎◌, inl, inr, ⊎_elim, ℕ, zero, suc, ◌+◌, ◌-◌, ◌<◌, ◌≤◌, Bool, true, false, cond, ◌&&◌, nat_lt, List, [], ◌∷◌, length, get_or, Option, Some, None, unwrap_or, sym, ◌∙◌, ap, subst, refl, arith}
use Rattle.std.specs.Prelude.{slice_get, nat_le}
use Rattle.std.specs.Option.{option_and_then, option_map_or}
use Rattle.std.proofs.lemmas.Bool.{cases_lt}
use Rattle.std.proofs.lemmas.Bool.Decides.{nat_tests}
use Rattle.std.proofs.lemmas.List.{length-replicate}
use Rattle.std.proofs.lemmas.Option.{none-some, same_Some, slice_get_past, slice_get-get_or}
use Rattle.hm_base.specs.Lists.{zeros}
use Rattle.hm_model.specs.Maps.{at, removed, put}
use Rattle.hm_model.specs.Overlaid.{overlaid}
use Rattle.hm_model.proofs.Lists.{other_eq}
use Rattle.hm_sizes.specs.declared.shape.Shape.{Shape}
use Rattle.hm_sizes.specs.Shapes.{slab_at}
use Rattle.hm_class_rules.specs.State.{State, Slab}
use Rattle.hm_class_rules.specs.Bytes.{byte_at, overlaid_slabs, kept_canary}
use Rattle.hm_class_rules.specs.Steps.{new_slab, opened, releases, unparks, retires, purges}
use Rattle.hm_class_rules.proofs.Legal.{slab_row}
use Rattle.hm_class_rules.proofs.Whole.{over, at_over, at_removed}
use Rattle.hm_class_rules.proofs.Zeroed.{slab_is, byte_of, byte_in}

-- ---- writing
-- what w, written from x on, has at q
abbrev pub written : ℕ → List ℕ → ℕ → Option ℕ
written x w q = cond (nat_lt q x) None (slice_get w (q - x))

abbrev pub over_byte : ℕ → List ℕ → ℕ → ℕ → ℕ
over_byte x w q was = unwrap_or (written x w q) was

pub past_start : (x q : ℕ) → x ≤ q → nat_lt q x ≡ false
past_start x q le = grind (arith, nat_tests)

before_start : (x q : ℕ) → q < x → nat_lt q x ≡ true
before_start x q lt = grind (arith, nat_tests)

pub outside : (x q was : ℕ) (w : List ℕ) → (q < x) ⊎ (x + length w ≤ q) → over_byte x w q was ≡ was
outside x q was w (inl lt) = ap (λ (t : Bool). unwrap_or (cond t None (slice_get w (q - x))) was) (before_start x q lt)
outside x q was w (inr le) =
    ap (λ (t : Bool). unwrap_or (cond t None (slice_get w (q - x))) was) (past_start x q (omega (arith, le)))
    ∙ ap (λ (o : Option ℕ). unwrap_or o was) (slice_get_past w (q - x) (omega (arith, le)))

pub get_over : (x : ℕ) (w : List ℕ) (base j q : ℕ) (b : List ℕ) (was : ℕ) → q ≡ base + j → slice_get b j ≡ Some was → slice_get (overlaid x w base b) j ≡ Some (over_byte x w q was)
get_over x w base j q [] was is e = absurd (none-some was e)
get_over x w base zero q (y ∷ b) was is e =
    let at_base : base ≡ q = omega (arith, is) in
    here ∙ ap (λ (z : ℕ). Some (over_byte x w base z)) (same_Some y was e) ∙ ap (λ (z : ℕ). Some (over_byte x w z was)) at_base
  where
    here : Some (cond (nat_le x base && nat_lt base (x + length w)) (get_or w (base - x) 0) y) ≡ Some (over_byte x w base y)
    here =
        ⊎_elim
        (λ lt. ap (λ (t : Bool). Some (cond t (get_or w (base - x) 0) y)) (below x (length w) base lt) ∙ sym (ap (λ (z : ℕ). Some z) (outside x base y w (inl lt))))
        (λ ge. ⊎_elim
        (λ lt. ap (λ (t : Bool). Some (cond t (get_or w (base - x) 0) y)) (within x (length w) base ge lt)
        ∙ sym (ap (λ (t : Bool). Some (unwrap_or (cond t None (slice_get w (base - x))) y)) (past_start x base ge) ∙ ap (λ (o : Option ℕ). Some (unwrap_or o y)) (slice_get-get_or w (base - x) 0 (omega (arith, ge, lt)))))
        (λ past. ap (λ (t : Bool). Some (cond t (get_or w (base - x) 0) y)) (beyond x (length w) base past) ∙ sym (ap (λ (z : ℕ). Some z) (outside x base y w (inr past))))
        (cases_lt base (x + length w)))
        (cases_lt base x)
      where
        below : (a n q : ℕ) → q < a → (nat_le a q && nat_lt q (a + n)) ≡ false
        below a n q lt = grind (arith, nat_tests)

        within : (a n q : ℕ) → a ≤ q → q < a + n → (nat_le a q && nat_lt q (a + n)) ≡ true
        within a n q ge lt = grind (arith, nat_tests)

        beyond : (a n q : ℕ) → a + n ≤ q → (nat_le a q && nat_lt q (a + n)) ≡ false
        beyond a n q past = grind (arith, nat_tests)
get_over x w base (suc j) q (y ∷ b) was is e = get_over x w (base + 1) j q b was (omega (arith, is)) e

-- ---- bytes of open slabs
-- slab n is open with canary k, and x is its byte r
pub record Holds (m : List (ℕ × Slab)) (n r x k : ℕ) : Type 0 where
  pub slab : Slab
  pub there : at n m ≡ Some slab
  pub byte : slice_get slab.bytes r ≡ Some x
  pub canary : slab.canary ≡ k

pub hold_write : (p : Shape) (x : ℕ) (w : List ℕ) (m : List (ℕ × Slab)) (n r q was k : ℕ) → q ≡ slab_at p n + r → Holds m n r was k → Holds (overlaid_slabs p x w m) n r (over_byte x w q was) k
hold_write p x w m n r q was k is h = record {
  slab = over p x w n h.slab;
  there = at_over p x w n m h.slab h.there;
  byte = get_over x w (slab_at p n) r q h.slab.bytes was is h.byte;
  canary = h.canary;
}

pub hold_apart : (p : Shape) (x : ℕ) (w : List ℕ) (m : List (ℕ × Slab)) (n r was k : ℕ) → (slab_at p n + r < x) ⊎ (x + length w ≤ slab_at p n + r) → Holds m n r was k → Holds (overlaid_slabs p x w m) n r was k
hold_apart p x w m n r was k out h =
    subst (λ (z : ℕ). Holds (overlaid_slabs p x w m) n r z k) (outside x (slab_at p n + r) was w out) (hold_write p x w m n r (slab_at p n + r) was k refl h)

pub hold_removed : (l : ℕ) (m : List (ℕ × Slab)) (n r x k : ℕ) → l ≢ n → Holds m n r x k → Holds (removed l m) n r x k
hold_removed l m n r x k ne h = record { slab = h.slab; there = at_removed l n m ne ∙ h.there; byte = h.byte; canary = h.canary }

hold_put : (l : ℕ) (b : Slab) (m : List (ℕ × Slab)) (n r x k : ℕ) → l ≢ n → Holds m n r x k → Holds (put l b m) n r x k
hold_put l b m n r x k ne h = record {
  slab = h.slab;
  there = ap (λ (t : Bool). cond t (Some b) (at n (removed l m))) (other_eq l n ne) ∙ at_removed l n m ne ∙ h.there;
  byte = h.byte;
  canary = h.canary;
}

pub hold_opened : (p : Shape) (o canary : Option ℕ) (s : State) (n r x k : ℕ) → ((m : ℕ) → o ≡ Some m → m ≢ n) → Holds s.opens n r x k → Holds (opened p o canary s).opens n r x k
hold_opened p None canary s n r x k ne h = h
hold_opened p (Some m) canary s n r x k ne h = hold_put m (new_slab p (unwrap_or canary 0)) s.opens n r x k (ne m refl) h

hold_released : (o : Option ℕ) (s : State) (n r x k : ℕ) → Holds s.opens n r x k → Holds (releases o s).opens n r x k
hold_released None s n r x k h = h
hold_released (Some b) s n r x k h = h

hold_unparked : (o : Option ℕ) (s : State) (n r x k : ℕ) → Holds s.opens n r x k → Holds (unparks o s).opens n r x k
hold_unparked None s n r x k h = h
hold_unparked (Some u) s n r x k h = h

hold_retired : (o : Option ℕ) (s : State) (n r x k : ℕ) → ((m : ℕ) → o ≡ Some m → m ≢ n) → Holds s.opens n r x k → Holds (retires o s).opens n r x k
hold_retired None s n r x k ne h = h
hold_retired (Some m) s n r x k ne h = hold_removed m s.opens n r x k (ne m refl) h

hold_purged : (p : Shape) (o : Option ℕ) (s : State) (n r x k : ℕ) → r < p.slab → ((m : ℕ) → o ≡ Some m → m ≢ n) → Holds s.opens n r x k → Holds (purges p o s).opens n r x k
hold_purged p None s n r x k lt ne h = h
hold_purged p (Some m) s n r x k lt ne h = hold_apart p (slab_at p m) (zeros p.slab) s.opens n r x k (other (cases_lt m n)) h
  where
    other : (m < n) ⊎ (n ≤ m) → (slab_at p n + r < slab_at p m) ⊎ (slab_at p m + length (zeros p.slab) ≤ slab_at p n + r)
    other (inl below) = inr (omega (arith, slab_row p.first p.slab m n below, length-replicate {A = ℕ} p.slab 0))
    other (inr le) = inl (omega (arith, lt, slab_row p.first p.slab n m (above n m le (λ same. ne m refl (sym same)))))
      where
        above : (n m : ℕ) → n ≤ m → n ≢ m → n < m
        above n m le ne = omega (arith, le, ne)

-- what follows a free leaves the bytes of a slab that is neither retired nor purged
pub hold_emptied : (p : Shape) (released unparked retired purged : Option ℕ) (s : State) (n r x k : ℕ) → r < p.slab → ((m : ℕ) → retired ≡ Some m → m ≢ n) → ((m : ℕ) → purged ≡ Some m → m ≢ n)
    → Holds s.opens n r x k → Holds (purges p purged (retires retired (unparks unparked (releases released s)))).opens n r x k
hold_emptied p released unparked retired purged s n r x k lt kept whole h =
    let s₁ : State = releases released s in
    let s₂ : State = unparks unparked s₁ in
    hold_purged p purged (retires retired s₂) n r x k lt whole (hold_retired retired s₂ n r x k kept (hold_unparked unparked s₁ n r x k (hold_released released s n r x k h)))

-- ---- and the byte at an address
-- the canary of an address within an open slab
pub canary_at : (p : Shape) (s : State) (n r q : ℕ) (b : Slab) → q ≡ slab_at p n + r → r < p.slab → at n s.opens ≡ Some b → kept_canary p s q ≡ b.canary
canary_at p s n r q b is lt on =
    ap (λ (m : ℕ). option_map_or (λ (b : Slab). b.canary) (at m s.opens) 0) (slab_is p n r q is lt)
    ∙ ap (λ (o : Option Slab). option_map_or (λ (b : Slab). b.canary) o 0) on

pub holds_at : (p : Shape) (s : State) (n r q x : ℕ) → q ≡ slab_at p n + r → r < p.slab → byte_at p s q ≡ Some x → Holds s.opens n r x (kept_canary p s q)
holds_at p s n r q x is lt e = found (at n s.opens) refl (sym (byte_of p s n r q is lt) ∙ e)
  where
    found : (o : Option Slab) → at n s.opens ≡ o → option_and_then (λ (b : Slab). slice_get b.bytes r) o ≡ Some x → Holds s.opens n r x (kept_canary p s q)
    found None on h = absurd (none-some x h)
    found (Some b) on h = record { slab = b; there = on; byte = h; canary = sym (canary_at p s n r q b is lt on) }

pub at_holds : (p : Shape) (s : State) (n r q x k : ℕ) → q ≡ slab_at p n + r → r < p.slab → Holds s.opens n r x k → byte_at p s q ≡ Some x
at_holds p s n r q x k is lt h = byte_in p s n r q h.slab is lt h.there ∙ h.byte

pub canary_holds : (p : Shape) (s : State) (n r q x k : ℕ) → q ≡ slab_at p n + r → r < p.slab → Holds s.opens n r x k → kept_canary p s q ≡ k
canary_holds p s n r q x k is lt h = canary_at p s n r q h.slab is lt h.there ∙ h.canary
