-- The next number that is no guard.
use Rattle.std.proofs.Common.{◌≡◌, ℕ, ◌+◌, ◌*◌, ◌/◌, ◌%◌, ◌≤◌, Bool, true, false, cond, ◌∙◌, ap, subst, refl, arith}
use Rattle.std.proofs.lemmas.Bool.{eqb-true, eqb-false}
use Rattle.std.proofs.lemmas.Nat.{div-add-mod', mod-mul-add}
use Rattle.hm_sizes.specs.declared.shape.Shape.{Shape}
use Rattle.hm_sizes.specs.Shapes.{is_guard, after, IsGuard}
use Rattle.hm_sizes.specs.Laws.{IsNextAfter}

-- no two guards stand side by side
turns : (n g : ℕ) → n % (g + 1) ≡ g → (n + 1) % (g + 1) ≡ 0
turns n g is =
    let q : ℕ = n / (g + 1) in
    let whole : q * (g + 1) + n % (g + 1) ≡ n = div-add-mod' n (g + 1) in
    let next : n + 1 ≡ (q + 1) * (g + 1) + 0 = omega arith in
    ap (λ (k : ℕ). k % (g + 1)) next ∙ mod-mul-add (q + 1) (g + 1) 0 (omega arith)

pub next_after : (p : Shape) (n : ℕ) → 1 ≤ p.guard_interval → IsNextAfter p n (after p n)
next_after p n some =
    elim (is_guard p (n + 1)) as (λ (b : Bool). is_guard p (n + 1) ≡ b → IsNextAfter p n (cond b (n + 2) (n + 1))) [
      | true ↦ λ e.
          let here : IsGuard p (n + 1) = eqb-true _ _ e in
          let e2 : n + 1 + 1 ≡ n + 2 = omega arith in
          let turned : (n + 2) % (p.guard_interval + 1) ≡ 0 =
          subst (λ (k : ℕ). k % (p.guard_interval + 1) ≡ 0) e2 (turns (n + 1) p.guard_interval here) in
          record {
            above = omega arith;
            no_guard = λ h. omega arith;
            least = λ k above below. let is : n + 1 ≡ k = omega arith in subst (λ (m : ℕ). IsGuard p m) is here;
          }
      | false ↦ λ e. record {
        above = omega arith;
        no_guard = eqb-false _ _ e;
        least = λ k above below. absurd (omega arith);
      }
    ] refl
