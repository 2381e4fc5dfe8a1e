-- One reply only.
use Rattle.std.proofs.Common.{◌≡◌, ℕ, Bool, true, false, Option, None, sym, ◌∙◌, ap}
use Rattle.std.proofs.lemmas.Bool.{false_from_ne_true}
use Rattle.hm_model.specs.declared.entry.Reply.{Reply}
use Rattle.hm_model.specs.declared.entry.Reply.TheVariants.{NoSlot, Unused, DoubleFree, WrongSize, Canary, Freed}
use Rattle.hm_model.specs.Maps.{among}
use Rattle.hm_class_rules.specs.State.{State, is_live}
use Rattle.hm_sizes.specs.Shapes.{is_slot, slab_of, slot_of}
use Rattle.hm_class_rules.specs.Rules.{Terms, wrong_size, wrong_canary}
use Rattle.hm_class_rules.specs.Judged.{differs, first_reply, Judged}

last_is : (p g l : Bool) (r : Reply) → p ≡ true → g ≡ true → l ≡ true → r ≡ first_reply p g l r
last_is p g l r e f h = sym (ap (λ (b : Bool). first_reply b g l r) e ∙ ap (λ (b : Bool). first_reply true b l r) f ∙ ap (λ (b : Bool). first_reply true true b r) h)

block_is : (t : Terms) (s : State) (a : ℕ) (p : Bool) (r q : Reply) → p ≡ true → among a s.given ≡ true → is_live s a ≡ true → r ≡ q → r ≡ first_reply p (among a s.given) (is_live s a) q
block_is t s a p r q e f h same = same ∙ last_is p (among a s.given) (is_live s a) q e f h

no_slot : (p g l : Bool) (r : Reply) → p ≡ false → NoSlot ≡ first_reply p g l r
no_slot p g l r e = sym (ap (λ (b : Bool). first_reply b g l r) e)

unused : (p g l : Bool) (r : Reply) → p ≡ true → g ≡ false → Unused ≡ first_reply p g l r
unused p g l r e f = sym (ap (λ (b : Bool). first_reply b g l r) e ∙ ap (λ (b : Bool). first_reply true b l r) f)

double_free : (p g l : Bool) (r : Reply) → p ≡ true → g ≡ true → l ≡ false → DoubleFree ≡ first_reply p g l r
double_free p g l r e f h = sym (ap (λ (b : Bool). first_reply b g l r) e ∙ ap (λ (b : Bool). first_reply true b l r) f ∙ ap (λ (b : Bool). first_reply true true b r) h)

pub judged_law : Judged
judged_law t s before now c a stated NoSlot told allows = no_slot (is_slot t.shape a (slab_of t.shape a) (slot_of t.shape a)) (among a s.given) (is_live s a) (differs (wrong_size t.shape stated) (wrong_canary t.shape s a)) (false_from_ne_true (is_slot t.shape a (slab_of t.shape a) (slot_of t.shape a)) allows.0)
judged_law t s before now c a stated Unused told allows = unused (is_slot t.shape a (slab_of t.shape a) (slot_of t.shape a)) (among a s.given) (is_live s a) (differs (wrong_size t.shape stated) (wrong_canary t.shape s a)) allows.0.0 allows.0.1
judged_law t s before now c a stated DoubleFree told allows = double_free (is_slot t.shape a (slab_of t.shape a) (slot_of t.shape a)) (among a s.given) (is_live s a) (differs (wrong_size t.shape stated) (wrong_canary t.shape s a)) allows.0.0 allows.0.1 allows.0.2
judged_law t s before now c a stated (WrongSize block other) told allows =
    block_is t s a _ (WrongSize block other) _ allows.0.place allows.0.given allows.0.live (sym (ap (λ (o : Option (ℕ × ℕ)). differs o (wrong_canary t.shape s a)) allows.1))
judged_law t s before now c a stated (Canary kept found) told allows =
    block_is t s a _ (Canary kept found) _ allows.0.place allows.0.given allows.0.live
    (sym (ap (λ (o : Option (ℕ × ℕ)). differs o (wrong_canary t.shape s a)) allows.1 ∙ ap (λ (o : Option (ℕ × ℕ)). differs None o) (allows.3 told)))
judged_law t s before now c a stated Freed told allows =
    block_is t s a _ Freed _ allows.block.place allows.block.given allows.block.live
    (sym (ap (λ (o : Option (ℕ × ℕ)). differs o (wrong_canary t.shape s a)) allows.size ∙ ap (λ (o : Option (ℕ × ℕ)). differs None o) (allows.canary told)))
judged_law t s before now c a stated reply told allows = absurd allows
