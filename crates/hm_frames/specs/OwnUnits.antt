-- Which units of a run have bytes of their own: none at first, those that a lend meets, and after a fill none of those
-- that it covers.
use Rattle.std.specs.Prelude.{◌≡◌, ℕ, ◌+◌, ◌*◌, ◌/◌, ◌≤◌, ◌⊎◌, List, map, length, get_or, replicate, Bool, false, ◌&&◌, ◌||◌, nat_lt, refl}
use Rattle.std.specs.List.{range_with_len}
use Rattle.std.specs.Coded.{Coded, code_by, coded×, coded_list, coded_bool, coded_ℕ}
use Rattle.hm_frames.specs.Part.{with_part}

-- a run of pages: its bytes, and whether each of its units has bytes of its own
pub record KeptRun : Type 0 where
  pub bytes : List ℕ
  pub own : List Bool

-- stored as its fields
abbrev pub kept_run_code : Coded KeptRun
kept_run_code =
    code_by (List ℕ × List Bool) (coded× (coded_list coded_ℕ) (coded_list coded_bool))
    (λ r. (r.bytes, r.own)) (λ t. record { bytes = t.0; own = t.1 }) (λ _. refl)

-- in so many bytes no unit has
abbrev pub none_own : ℕ → List Bool
none_own len = replicate (len / 512) false

-- the range ends past where the unit begins, and begins before it ends
abbrev pub is_met : ℕ → ℕ → ℕ → Bool
is_met from len unit = nat_lt (512 * unit) (from + len) && nat_lt from (512 * unit + 512)

-- the units that the range meets have bytes of their own too
abbrev pub with_lent : List Bool → ℕ → ℕ → List Bool
with_lent own from len = map (λ unit. is_met from len unit || get_or own unit false) (range_with_len 0 (length own))

-- the run once a range of it was lent and w written over it
abbrev pub with_lent_part : KeptRun → ℕ → ℕ → List ℕ → KeptRun
with_lent_part run from len w = record { bytes = with_part run.bytes from len w; own = with_lent run.own from len }

-- once one byte was written over a range: no unit that it covers has bytes of its own, and those beside it are as before
pub record OwnFilled (old : List Bool) (from len : ℕ) (new : List Bool) : Type 0 where
  pub count : length new ≡ length old
  pub whole : (unit : ℕ) → from ≤ 512 * unit → 512 * unit + 512 ≤ from + len → get_or new unit false ≡ false
  pub beside : (unit : ℕ) → (512 * unit + 512 ≤ from) ⊎ (from + len ≤ 512 * unit) → get_or new unit false ≡ get_or old unit false
