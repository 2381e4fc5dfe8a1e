-- Where a block fits, as the free ranges are looked at one after another.
use Rattle.std.proofs.Common.{◌≡◌, ◌+◌, ◌<◌, ◌≤◌, ℕ, zero, suc, length, List, [], ◌∷◌, ◌⊎◌, inl, inr, get_or, drop, sym, subst, arith}
use Rattle.std.proofs.Math.Seq.{drop-cons}
use Rattle.std.proofs.lemmas.Option.{slice_get-get_or}
use Rattle.hm_space.specs.declared.free_range.FreeRange.{FreeRange}
use Rattle.hm_space.specs.Ranges.{end_of, IsInSome, AreApart, LiesIn, IsFitIn}
use Rattle.hm_space.specs.Space.{FreeSpace, IsFit, IsLowestFit}
use Rattle.hm_space.proofs.Apart.{lower_apart}
use Rattle.hm_space.proofs.Indices.{LiesInSome, lies, lies_from, in_at}

-- each fit lies in one of the ranges from this index on
pub record AreLeft (space : FreeSpace) (len align front : ℕ) (rs : List FreeRange) (i : ℕ) : Type 0 where
  pub left : (at : ℕ) → IsFit space len align front at → LiesInSome (drop i rs) at len
  pub apart : AreApart 0 (drop i rs)

module _ (space : FreeSpace) (len align front : ℕ) (rs : List FreeRange) where
  pub all_left : space.ranges ≡ rs → AreApart 0 rs → 1 ≤ len → AreLeft space len align front rs 0
  all_left same apart some = record {
    left = λ at fit. lies 0 rs at len apart some (λ a w. subst (λ (l : List FreeRange). IsInSome l a) same (fit.free a w));
    apart = apart;
  }

  module _ (i : ℕ) (d : FreeRange) (h : AreLeft space len align front rs i) (lt : i < length rs) where
    -- the range at the index, and those behind it
    here_or_later : (at : ℕ) → IsFit space len align front at → LiesIn (get_or rs i d) at len ⊎ LiesInSome (drop (suc i) rs) at len
    here_or_later at fit = subst (λ (l : List FreeRange). LiesInSome l at len) (drop-cons rs i d lt) (h.left at fit)

    later_apart : AreApart (end_of (get_or rs i d) + 1) (drop (suc i) rs)
    later_apart = (subst (AreApart 0) (drop-cons rs i d lt) h.apart).1

    -- the lowest fit in it is the lowest of all
    pub lowest_here : (at : ℕ) → space.ranges ≡ rs → IsFitIn (get_or rs i d) len align front at → ((other : ℕ) → IsFitIn (get_or rs i d) len align front other → at ≤ other) → IsLowestFit space len align front at
    lowest_here at same fits low = record {
      fits = record {
        free = λ a w. subst (λ (l : List FreeRange). IsInSome l a) (sym same) (in_at rs i a (get_or rs i d) (slice_get-get_or rs i d lt) (record { from = omega (arith, fits.lies.from, w.from); below = omega (arith, fits.lies.to, w.below) }));
        aligned = fits.aligned;
      };
      lowest = λ other fit. elim (here_or_later other fit) as (λ _. at ≤ other) [
        | inl lies ↦ low other (record { lies = lies; aligned = fit.aligned })
        | inr later ↦ omega (arith, lies_from (end_of (get_or rs i d) + 1) (drop (suc i) rs) other len later_apart later, fits.lies.to)
      ];
    }

    -- where it has none, each lies in a later one
    pub later_left : ((at : ℕ) → IsFitIn (get_or rs i d) len align front at → ⊥) → AreLeft space len align front rs (i + 1)
    later_left none =
        subst (AreLeft space len align front rs) (let e : suc i ≡ i + 1 = omega arith in e) (record {
          left = λ at fit. elim (here_or_later at fit) as (λ _. LiesInSome (drop (suc i) rs) at len) [
            | inl lies ↦ absurd (none at (record { lies = lies; aligned = fit.aligned }))
            | inr later ↦ later
          ];
          apart = lower_apart 0 (end_of (get_or rs i d) + 1) (drop (suc i) rs) (omega arith) later_apart;
        })

  -- where none is left, there is none
  nowhere : (xs : List FreeRange) (i at : ℕ) → length xs ≤ i → LiesInSome (drop i xs) at len → ⊥
  nowhere [] zero at le l = l
  nowhere [] (suc i) at le l = l
  nowhere (x ∷ xs) zero at le l = omega arith
  nowhere (x ∷ xs) (suc i) at le l = nowhere xs i at (omega arith) l

  pub none_left : (i at : ℕ) → length rs ≤ i → AreLeft space len align front rs i → IsFit space len align front at → ⊥
  none_left i at le h fit = nowhere rs i at le (h.left at fit)
