-- A set of names that is searched by their order is searched by their bytes.
use Rattle.std.proofs.Common.{◌≡◌, ℕ, Bool, true, ◌||◌, cond, nat_eq, List, [], ◌∷◌, refl, sym, ◌∙◌, ap}
use Rattle.std.specs.BTreeMap.{is_at}
use Rattle.std.specs.List.{list_any}
use Rattle.std.specs.Cmp.Lexicographic.{pointwise, slice_cmp, texts_ties}
use Rattle.std.specs.Ordering.{nat_cmp, eq_by_cmp}
use Rattle.hm_trace.specs.declared.names.Name.{Name}
use Rattle.hm_trace.specs.ReadState.{has_name}
use Rattle.hm_trace.specs.Views.{name_view}

-- whether the order finds the text
abbrev finds : List ℕ → List Name → Bool
finds q names = list_any (is_at (λ (n : Name). slice_cmp nat_cmp q (name_view n))) names

pub found : (names : List Name) (q : List ℕ) → finds q names ≡ has_name names q
found [] q = refl
found (n ∷ ns) q =
    ap (λ b. b || finds q ns) (sym (texts_ties q (name_view n)))
    ∙ ap (λ b. pointwise nat_eq q (name_view n) || b) (found ns q)

pub joined_by : (olds news : List Name) (name q : List ℕ)
    → finds q news ≡ cond (eq_by_cmp (slice_cmp nat_cmp) name q) true (finds q olds)
    → has_name news q ≡ cond (pointwise nat_eq name q) true (has_name olds q)
joined_by olds news name q h =
    sym (found news q) ∙ h ∙ ap (λ b. cond b true (finds q olds)) (sym (texts_ties name q))
    ∙ ap (λ b. cond (pointwise nat_eq name q) true b) (found olds q)
