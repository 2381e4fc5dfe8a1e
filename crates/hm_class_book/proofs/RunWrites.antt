-- Writing one run after another.
use Rattle.std.proofs.Common.{◌≡◌, ℕ, zero, suc, ◌+◌, ◌<◌, ◌≤◌, List, [], ◌∷◌, ◌++◌, length, take, replicate, get_or, sym, ◌∙◌, ap, refl, arith, append_assoc, length-append}
use Rattle.std.proofs.lemmas.List.{append-nil, length-replicate}
use Rattle.hm_model.specs.Runs.{expand, total}
use Rattle.hm_model.specs.Overlaid.{overlaid}
use Rattle.hm_model.proofs.Overlaid.{overlaid_two, overlaid_nil}
use Rattle.hm_model.proofs.RunsOf.{length_expand}
use Rattle.hm_sizes.specs.declared.shape.Shape.{Shape}
use Rattle.hm_sizes.specs.Shapes.{slab_at}
use Rattle.hm_class_rules.specs.State.{Slab}
use Rattle.hm_class_rules.specs.Bytes.{overlaid_slabs}

abbrev slab_with : List ℕ → ℕ → Slab
slab_with l k = record { bytes = l; canary = k }

slabs_two : (p : Shape) (a : ℕ) (w v : List ℕ) (m : List (ℕ × Slab)) → overlaid_slabs p (a + length w) v (overlaid_slabs p a w m) ≡ overlaid_slabs p a (w ++ v) m
slabs_two p a w v [] = refl
slabs_two p a w v (e ∷ m) =
    ap (λ (l : List ℕ). (e.0, slab_with l e.1.canary) ∷ overlaid_slabs p (a + length w) v (overlaid_slabs p a w m)) (overlaid_two a w v (slab_at p e.0) e.1.bytes)
    ∙ ap (λ (l : List (ℕ × Slab)). (e.0, slab_with (overlaid a (w ++ v) (slab_at p e.0) e.1.bytes) e.1.canary) ∷ l) (slabs_two p a w v m)

pub slabs_nil : (p : Shape) (a : ℕ) (m : List (ℕ × Slab)) → overlaid_slabs p a [] m ≡ m
slabs_nil p a [] = refl
slabs_nil p a (e ∷ m) =
    ap (λ (l : List ℕ). (e.0, slab_with l e.1.canary) ∷ overlaid_slabs p a [] m) (overlaid_nil a (slab_at p e.0) e.1.bytes)
    ∙ ap (λ (l : List (ℕ × Slab)). e ∷ l) (slabs_nil p a m)

-- ---- one run more
expand_front : (pairs : List (ℕ × ℕ)) (i : ℕ) → i < length pairs → expand (take (i + 1) pairs) ≡ expand (take i pairs) ++ replicate (get_or pairs i (0, 0)).1 (get_or pairs i (0, 0)).0
expand_front [] i lt = absurd (omega arith)
expand_front (run ∷ pairs) zero lt = append-nil (replicate run.1 run.0)
expand_front (run ∷ pairs) (suc i) lt =
    ap (λ (k : ℕ). expand (take k (run ∷ pairs))) {x = suc i + 1} {y = suc (i + 1)} (omega arith)
    ∙ ap (λ (l : List ℕ). replicate run.1 run.0 ++ l) (expand_front pairs i (omega (arith, lt)))
    ∙ sym (append_assoc (replicate run.1 run.0) (expand (take i pairs)) (replicate (get_or pairs i (0, 0)).1 (get_or pairs i (0, 0)).0))

total_front : (pairs : List (ℕ × ℕ)) (i : ℕ) → total (take i pairs) ≤ total pairs
total_front [] zero = omega arith
total_front [] (suc i) = omega arith
total_front (run ∷ pairs) zero = omega arith
total_front (run ∷ pairs) (suc i) = omega (arith, total_front pairs i)

module _ (pairs : List (ℕ × ℕ)) (i byte n : ℕ) (lt : i < length pairs) (is : (byte, n) ≡ get_or pairs i (0, 0)) where
  front : expand (take (i + 1) pairs) ≡ expand (take i pairs) ++ replicate n byte
  front = expand_front pairs i lt ∙ ap (λ (r : ℕ × ℕ). expand (take i pairs) ++ replicate r.1 r.0) (sym is)

  pub next_length : length (expand (take (i + 1) pairs)) ≡ length (expand (take i pairs)) + n
  next_length = ap (λ (l : List ℕ). length l) front ∙ length-append (expand (take i pairs)) (replicate n byte) ∙ ap (λ (k : ℕ). length (expand (take i pairs)) + k) (length-replicate {A = ℕ} n byte)

  pub next_within : length (expand (take i pairs)) + n ≤ length (expand pairs)
  next_within = omega (arith, next_length, length_expand (take (i + 1) pairs), length_expand pairs, total_front pairs (i + 1))

  pub next_written : (p : Shape) (a q : ℕ) (old now new : List (ℕ × Slab)) → q ≡ a + length (expand (take i pairs)) → now ≡ overlaid_slabs p a (expand (take i pairs)) old
      → new ≡ overlaid_slabs p q (replicate n byte) now → new ≡ overlaid_slabs p a (expand (take (i + 1) pairs)) old
  next_written p a q old now new at_is so_far written =
      let w = expand (take i pairs) in
      written ∙ ap (overlaid_slabs p q (replicate n byte)) so_far
      ∙ ap (λ (k : ℕ). overlaid_slabs p k (replicate n byte) (overlaid_slabs p a w old)) at_is
      ∙ slabs_two p a w (replicate n byte) old
      ∙ ap (λ (l : List ℕ). overlaid_slabs p a l old) (sym front)
