use Rattle.std.proofs.Common.{◌≡◌, ◌-◌, ◌≤◌, ℕ, List, slice_get, refl, sym, ap, subst, ◌∙◌, arith}
use Rattle.std.specs.Prelude.{Option, IsSomeAnd}
use Rattle.hm_space.specs.declared.free_range.FreeRange.{FreeRange}
use Rattle.hm_space.specs.Ranges.{begun, LiesIn, IsWithin, IsInSome, AreApart}
use Rattle.hm_space.specs.Space.{FreeSpace}
use Rattle.hm_space.proofs.Indices.{found}
use Rattle.hm_space.proofs.space.Space.take.Goals as goal

-- the range that is taken lies in the last one that begins at its address or below
holder : (rs read : List FreeRange) (space now : FreeSpace) (at len n : ℕ) → AreApart 0 rs → 1 ≤ len → read ≡ rs → space ≡ now → rs ≡ space.ranges → ((a : ℕ) → IsWithin at len a → IsInSome now.ranges a) → n ≡ begun read at → (1 ≤ n) × IsSomeAnd (slice_get rs (n - 1)) (λ r. LiesIn r at len)
holder rs read space now at len n apart some same view is free count =
    let all = subst (λ (l : List FreeRange). (a : ℕ) → IsWithin at len a → IsInSome l a) (sym (is ∙ ap (λ (s : FreeSpace). s.ranges) view)) free in
    let f = found rs at len apart some all in
    let e : n ≡ begun rs at = count ∙ ap (λ (l : List FreeRange). begun l at) same in (
      omega (arith, f.some, e),
      subst (λ (o : Option FreeRange). IsSomeAnd o (λ r. LiesIn r at len)) (sym (ap (λ (k : ℕ). slice_get rs (k - 1)) e ∙ f.here)) f.holds,
    )

pub overflow_sub-index : goal.overflow_sub-index
overflow_sub-index c =
    (holder c.self.inside.ranges.items c.deref.result.now _ c.args.self.now c.args.at c.args.len c.count_begun-index.result c.self.invariant.0 c.requires.some c.deref.ensures.value c.self.view_is refl c.requires.free c.count_begun-index.ensures).0

pub cut-requires-clause-here : goal.cut-requires-clause-here
cut-requires-clause-here c =
    (holder c.self.inside.ranges.items c.deref.result.now _ c.args.self.now c.args.at c.args.len c.count_begun-index.result c.self.invariant.0 c.requires.some c.deref.ensures.value c.self.view_is refl c.requires.free c.count_begun-index.ensures).1
