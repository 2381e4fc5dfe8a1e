-- The same entry keeps two states alike.
use Rattle.std.proofs.Common.{◌≡◌, ◌≢◌, ◌⊎◌, inl, inr, ⊎_elim, ℕ, ◌+◌, ◌*◌, ◌<◌, ◌≤◌, Bool, true, false, List, ◌∷◌, length, Option, Some, None, sym, ◌∙◌, ap, subst, refl, arith, true≢false}
use Rattle.std.specs.Int.{to_le_bytes}
use mir.Syntax.{w64}
use Rattle.std.proofs.lemmas.Bool.{cases_lt}
use Rattle.std.proofs.lemmas.List.{length-replicate}
use Rattle.hm_base.specs.Lists.{zeros}
use Rattle.hm_model.specs.declared.entry.Call.{Call}
use Rattle.hm_model.specs.declared.entry.Call.TheVariants.{Allot, GiveBack, Measure, Fetch, Fill}
use Rattle.hm_model.specs.declared.entry.Reply.{Reply}
use Rattle.hm_model.specs.declared.entry.Reply.TheVariants.{Given, Overwritten, Freed, Filled}
use Rattle.hm_model.specs.declared.entry.Choices.{Choices}
use Rattle.hm_model.specs.Maps.{has, removed}
use Rattle.hm_model.specs.Runs.{expand}
use Rattle.hm_sizes.specs.declared.shape.Shape.{Shape}
use Rattle.hm_sizes.specs.Shapes.{IsShape, usable, slab_at, slab_of, slot_of}
use Rattle.hm_sizes.proofs.PlaceTest.{slot_row}
use Rattle.hm_class_rules.specs.State.{State, Slab, is_live}
use Rattle.hm_class_rules.specs.Bytes.{overlaid_slabs, kept_canary}
use Rattle.hm_class_rules.specs.Steps.{opened, gives, takes_back, releases, unparks, retires, purges, changed}
use Rattle.hm_class_rules.specs.Rules.{Terms, Allows}
use Rattle.hm_class_rules.proofs.Legal.{picked_place}
use Rattle.hm_class_rules.proofs.Changes.{opened_live, out_live, has_removed}
use Rattle.hm_guarantees.proofs.Parts.{released_live}
use Rattle.hm_guarantees.proofs.KeptBytes.{live_changed}
use Rattle.hm_guarantees.proofs.AlikeSlabs.{AlikeSlabs, alike_write, alike_removed, alike_more}
use Rattle.hm_guarantees.proofs.Alike.{at_slabs, IsUsable, opened_slabs, opened_same, opened_alike, releases_same, releases_opens, kept_same}

-- a state and one with other slabs, after entries that ask alike
pub record AreAlike (p : Shape) (s s' : State) (f : ℕ) : Type 0 where
  pub slabs : List (ℕ × Slab)
  pub is : s' ≡ at_slabs slabs f s
  pub alike : AlikeSlabs p (IsUsable p s) s.opens slabs

-- what is usable stays so
more_usable : (p : Shape) (s s₁ : State) → ((a : ℕ) → is_live s a ≡ true → is_live s₁ a ≡ true) → (q : ℕ) → IsUsable p s q → IsUsable p s₁ q
more_usable p s s₁ more q u = record { slot = u.slot; live = more u.slot u.live; low = u.low; high = u.high }

-- ---- what follows a free
abbrev pub retired_slabs : Option ℕ → List (ℕ × Slab) → List (ℕ × Slab)
retired_slabs None m = m
retired_slabs (Some k) m = removed k m

abbrev pub purged_slabs : Shape → Option ℕ → List (ℕ × Slab) → List (ℕ × Slab)
purged_slabs p None m = m
purged_slabs p (Some k) m = overlaid_slabs p (slab_at p k) (zeros p.slab) m

pub unparks_same : (o : Option ℕ) (m : List (ℕ × Slab)) (f : ℕ) (s : State) → unparks o (at_slabs m f s) ≡ at_slabs m f (unparks o s)
unparks_same None m f s = refl
unparks_same (Some u) m f s = refl

pub retires_same : (o : Option ℕ) (m : List (ℕ × Slab)) (f : ℕ) (s : State) → retires o (at_slabs m f s) ≡ at_slabs (retired_slabs o m) f (retires o s)
retires_same None m f s = refl
retires_same (Some k) m f s = refl

pub purges_same : (p : Shape) (o : Option ℕ) (m : List (ℕ × Slab)) (f : ℕ) (s : State) → purges p o (at_slabs m f s) ≡ at_slabs (purged_slabs p o m) f (purges p o s)
purges_same p None m f s = refl
purges_same p (Some k) m f s = refl

pub unparks_opens : (o : Option ℕ) (s : State) → (unparks o s).opens ≡ s.opens
unparks_opens None s = refl
unparks_opens (Some u) s = refl

pub retires_alike : (p : Shape) (W : ℕ → Type 0) (o : Option ℕ) (s : State) (m : List (ℕ × Slab)) → AlikeSlabs p W s.opens m → AlikeSlabs p W (retires o s).opens (retired_slabs o m)
retires_alike p W None s m h = h
retires_alike p W (Some k) s m h = alike_removed p W k s.opens m h

pub purges_alike : (p : Shape) (W : ℕ → Type 0) (o : Option ℕ) (s : State) (m : List (ℕ × Slab)) → AlikeSlabs p W s.opens m → AlikeSlabs p W (purges p o s).opens (purged_slabs p o m)
purges_alike p W None s m h = h
purges_alike p W (Some k) s m h = alike_write p W W (slab_at p k) (zeros p.slab) s.opens m (λ q out. inl out) h

freed_alike : (p : Shape) (c : Choices) (b : ℕ) (stated : Option ℕ) (s : State) (m : List (ℕ × Slab)) (f : ℕ) → AlikeSlabs p (IsUsable p s) s.opens m
    → AreAlike p (changed p c (GiveBack b stated) Freed s) (changed p c (GiveBack b stated) Freed (at_slabs m f s)) f
freed_alike p c b stated s m f h =
    let V : ℕ → Type 0 = IsUsable p (takes_back p b s) in
    let s₁ : State = takes_back p b s in
    let m₁ : List (ℕ × Slab) = overlaid_slabs p b (zeros (usable p)) m in
    let s₂ : State = releases c.released s₁ in
    let s₃ : State = unparks c.unparked s₂ in
    let s₄ : State = retires c.retired s₃ in
    let first : AlikeSlabs p V s₁.opens m₁ = alike_write p (IsUsable p s) V b (zeros (usable p)) s.opens m split h in
    let second : AlikeSlabs p V s₃.opens m₁ = subst (λ (l : List (ℕ × Slab)). AlikeSlabs p V l m₁) (sym (unparks_opens c.unparked s₂ ∙ releases_opens c.released s₁)) first in
    let third : AlikeSlabs p V s₄.opens (retired_slabs c.retired m₁) = retires_alike p V c.retired s₃ m₁ second in
    let last : AlikeSlabs p V (purges p c.purged s₄).opens (purged_slabs p c.purged (retired_slabs c.retired m₁)) = purges_alike p V c.purged s₄ (retired_slabs c.retired m₁) third in
    let live : (purges p c.purged s₄).live ≡ s₁.live = out_live p s₂ c.retired c.purged c.unparked ∙ released_live c.released s₁ in
    record {
      slabs = purged_slabs p c.purged (retired_slabs c.retired m₁);
      is = ap (λ (x : State). purges p c.purged (retires c.retired (unparks c.unparked x))) (releases_same c.released m₁ f s₁)
          ∙ ap (λ (x : State). purges p c.purged (retires c.retired x)) (unparks_same c.unparked m₁ f s₂)
          ∙ ap (λ (x : State). purges p c.purged x) (retires_same c.retired m₁ f s₃)
          ∙ purges_same p c.purged (retired_slabs c.retired m₁) f s₄;
      alike = alike_more p V (IsUsable p (purges p c.purged s₄)) (purges p c.purged s₄).opens _
          (more_usable p s₁ (purges p c.purged s₄) (λ a is. ap (λ (l : List (ℕ × ℕ)). has a l) live ∙ is)) last;
    }
  where
    split : (q : ℕ) → (IsUsable p (takes_back p b s) q → ⊥) → (IsUsable p s q → ⊥) ⊎ ((b ≤ q) × (q < b + length (zeros (usable p))))
    split q out =
        ⊎_elim
        (λ lt. inl (λ u. out (kept u (λ same. omega (arith, same, u.low, lt)))))
        (λ ge. ⊎_elim
        (λ lt. inr (ge, omega (arith, lt, length-replicate {A = ℕ} (usable p) 0)))
        (λ past. inl (λ u. out (kept u (λ same. omega (arith, same, u.high, past)))))
        (cases_lt q (b + usable p)))
        (cases_lt q b)
      where
        kept : (u : IsUsable p s q) → b ≢ u.slot → IsUsable p (takes_back p b s) q
        kept u ne = record { slot = u.slot; live = has_removed b u.slot s.live ne ∙ u.live; low = u.low; high = u.high }

-- ---- the same call with the same reply
pub same_call_alike : (t : Terms) (s : State) (m : List (ℕ × Slab)) (f before now : ℕ) (c : Choices) (call : Call) (reply : Reply) → IsShape t.shape → AlikeSlabs t.shape (IsUsable t.shape s) s.opens m
    → Allows t s before now c call reply → AreAlike t.shape (changed t.shape c call reply s) (changed t.shape c call reply (at_slabs m f s)) f
same_call_alike t s m f before now c (Allot asked align) (Given b size) shape h allows =
    let p : Shape = t.shape in
    let s₁ : State = opened p c.opened c.canary s in
    let m₁ : List (ℕ × Slab) = opened_slabs p c.opened c.canary m in
    let first : AlikeSlabs p (IsUsable p s) s₁.opens m₁ = opened_alike p (IsUsable p s) c.opened c.canary s m h in
    let at_b = picked_place p s s₁ c b allows.0 in
    let row : slot_of p b * p.slot + p.slot ≤ p.slab = omega (arith, slot_row p.slot (slot_of p b) p.slots at_b.slot, shape.slots_fit) in
    let kept : kept_canary p s₁ b ≡ kept_canary p (at_slabs m₁ f s₁) b = kept_same p (IsUsable p s) s₁ m₁ f first (slab_of p b) (slot_of p b) b at_b (omega (arith, row, shape.slot_least)) allows.0.open_slab in
    let w : List ℕ = to_le_bytes w64 (kept_canary p s₁ b) in
    let s₂ : State = gives p b asked s₁ in
    let more : (a : ℕ) → is_live s a ≡ true → is_live s₂ a ≡ true = λ a is. live_changed p c (Allot asked align) (Given b size) s a (λ stated e told. other asked align stated a e) is in
    record {
      slabs = overlaid_slabs p (b + usable p) w m₁;
      is = ap (λ (x : State). gives p b asked x) (opened_same p c.opened c.canary m f s)
          ∙ (λ i. at_slabs (overlaid_slabs p (b + usable p) (to_le_bytes w64 (sym kept i)) m₁) f s₂);
      alike = alike_write p (IsUsable p s) (IsUsable p s₂) (b + usable p) w s₁.opens m₁ (λ q out. inl (λ u. out (more_usable p s s₂ more q u))) first;
    }
  where
    other : (x y : ℕ) (stated : Option ℕ) (a : ℕ) → Allot x y ≡ GiveBack a stated → ⊥
    other x y stated a e = true≢false (ap (λ (k : Call). elim k as (λ k. Bool) [ Allot u v ↦ true | GiveBack u v ↦ false | Measure u ↦ false | Fetch u v ↦ false | Fill u v ↦ false ]) e)
same_call_alike t s m f before now c (Allot asked align) (Overwritten b at found) shape h allows =
    let p : Shape = t.shape in
    let s₁ : State = opened p c.opened c.canary s in
    record {
      slabs = opened_slabs p c.opened c.canary m;
      is = ap (λ (x : State). record x { condemned = b ∷ x.condemned }) (opened_same p c.opened c.canary m f s);
      alike = alike_more p (IsUsable p s) (IsUsable p (record s₁ { condemned = b ∷ s₁.condemned })) s₁.opens (opened_slabs p c.opened c.canary m)
          (more_usable p s (record s₁ { condemned = b ∷ s₁.condemned }) (λ a is. ap (λ (l : List (ℕ × ℕ)). has a l) (opened_live p c.opened c.canary s) ∙ is))
          (opened_alike p (IsUsable p s) c.opened c.canary s m h);
    }
same_call_alike t s m f before now c (GiveBack b stated) Freed shape h allows = freed_alike t.shape c b stated s m f h
same_call_alike t s m f before now c (Fill b runs) Filled shape h allows = record {
  slabs = overlaid_slabs t.shape b (expand runs) m;
  is = refl;
  alike = alike_write t.shape (IsUsable t.shape s) (IsUsable t.shape (changed t.shape c (Fill b runs) Filled s)) b (expand runs) s.opens m
      (λ q out. inl (λ u. out (record { slot = u.slot; live = u.live; low = u.low; high = u.high }))) h;
}
same_call_alike t s m f before now c call reply shape h allows = record { slabs = m; is = refl; alike = h }
