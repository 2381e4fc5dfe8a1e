-- The first row of the table that serves an alignment is that of the least class that does.
use Rattle.std.proofs.Common.{◌≡◌, ◌⊎◌, inl, inr, ⊎_elim, ℕ, zero, suc, ◌+◌, ◌*◌, ◌%◌, ◌^◌, ◌<◌, ◌≤◌, sym, subst, arith, Option, Some, None, MatchOption}
use Rattle.std.specs.List.{AllWithin, HoldsAt}
use Rattle.std.proofs.lemmas.Bool.{cases_lt}
use Rattle.std.proofs.lemmas.Nat.{mod-mul-add}
use Rattle.hm_sizes.specs.declared.table.SizeClass.{SizeClass}
use Rattle.hm_sizes.specs.declared.table.TheConstants.{SIZE_CLASSES}
use Rattle.hm_sizes.specs.declared.class.ClassId.{ClassId}
use Rattle.hm_sizes.specs.declared.class.Kind.TheVariants.{Small, Large}
use Rattle.hm_sizes.specs.Sizes.{raised, large_size}
use Rattle.hm_sizes.specs.Aligned.{IsAlignment, ServesAligned, IsLeastAligned, IsAlignedKindOf}
use Rattle.hm_sizes.proofs.Alignments.{page_whole}
use Rattle.hm_sizes.proofs.ClassTable.{row, unlisted, is_row, is_bounded}

-- the row's slots hold r and are multiples of the alignment
pub record Serves (r align : ℕ) (class : SizeClass) : Type 0 where
  pub holds : r ≤ class.slot
  pub multiple : class.slot % align ≡ 0

abbrev pub NotServes : ℕ → ℕ → SizeClass → Type 0
NotServes r align class = Serves r align class → ⊥

-- class 0 has slots of 16 bytes
not_first : (r align : ℕ) → 16 < align → Serves r align (row 0) → ⊥
not_first r align above h =
    let rest : (0 * align + 16) % align ≡ 16 = mod-mul-add 0 align 16 above in
    let sum : 0 * align + 16 ≡ 16 = omega arith in
    let left : 16 % align ≡ 16 = subst (λ (n : ℕ). n % align ≡ 16) sum rest in
    let whole : 16 % align ≡ 0 = h.multiple in
    omega arith

class_some : (r align class : ℕ) → 16 < align → Serves r align (row class) → 1 ≤ class
class_some r align zero above h = absurd (not_first r align above h)
class_some r align (suc class) above h = omega arith

row_serves : (r align class : ℕ) → ServesAligned r align class → Serves r align (row class)
row_serves r align class h =
    let e = sym (is_row class h.below).slot in
    record { holds = subst (λ (n : ℕ). r ≤ n) e h.holds; multiple = subst (λ (n : ℕ). n % align ≡ 0) e h.multiple }

least_of : (r align class : ℕ) → 16 < align → class < 49 → HoldsAt (Serves r align) SIZE_CLASSES class
    → AllWithin (NotServes r align) SIZE_CLASSES 0 class → IsLeastAligned r align class
least_of r align class above below here before =
    let e = (is_row class below).slot in
    let serves : Serves r align (row class) = here unlisted in
    record {
      serves = record {
        some = class_some r align class above serves;
        below = below;
        holds = subst (λ (n : ℕ). r ≤ n) e serves.holds;
        multiple = subst (λ (n : ℕ). n % align ≡ 0) e serves.multiple;
      };
      least = λ smaller less h. before smaller unlisted (omega arith) less (row_serves r align smaller h);
    }

none_of : (r align : ℕ) → AllWithin (NotServes r align) SIZE_CLASSES 0 49 → (class : ℕ) → ServesAligned r align class → ⊥
none_of r align all class h = all class unlisted (omega arith) h.below (row_serves r align class h)

-- what a search of the table found
abbrev pub IsFound : ℕ → ℕ → Option ℕ → Type 0
IsFound r align found =
    MatchOption found (AllWithin (NotServes r align) SIZE_CLASSES 0 49)
    (λ class. (class < 49) × HoldsAt (Serves r align) SIZE_CLASSES class × AllWithin (NotServes r align) SIZE_CLASSES 0 class)

pub least_found : (r align : ℕ) (found : Option ℕ) (class : ℕ) → 16 < align → IsFound r align found → found ≡ Some class → IsLeastAligned r align class
least_found r align (Some first) class above h e =
    let same : first ≡ class = cc in
    subst (λ (n : ℕ). IsLeastAligned r align n) same (least_of r align first above h.0 h.1 h.2)
least_found r align None class above h e = cc

pub none_found : (r align : ℕ) (found : Option ℕ) → IsFound r align found → found ≡ None → (class : ℕ) → ServesAligned r align class → ⊥
none_found r align (Some first) h e = cc
none_found r align None h e = none_of r align h

-- ---- where a request goes
pub small_wide : (asked align size : ℕ) (class : ClassId) → size ≡ raised asked → 16 < align → align ≤ 4096
    → IsLeastAligned size align class.0 → IsAlignedKindOf asked align (Small class)
small_wide asked align size class e above most least = record {
  narrow = λ le. absurd (omega arith);
  wide = λ lt. (
    most,
    omega (arith, least.serves.holds, (is_bounded class.0 least.serves.below).slot_most),
    subst (λ (n : ℕ). IsLeastAligned n align class.0) e least,
  );
}

pub large_wide : (asked align size large : ℕ) → size ≡ raised asked → large ≡ large_size size → asked ≤ 2 ^ 30 → 16 < align
    → (4096 < align) ⊎ (131072 < size) → IsAlignedKindOf asked align (Large large)
large_wide asked align size large e is most above why = record {
  narrow = λ le. absurd (omega arith);
  wide = λ lt. (subst (λ (n : ℕ). (4096 < align) ⊎ (131072 < n)) e why, most, subst (λ (n : ℕ). large ≡ large_size n) e is);
}

-- the last class serves each alignment up to a page
past_all : (r align : ℕ) → IsAlignment align → align ≤ 4096 → ((class : ℕ) → ServesAligned r align class → ⊥) → 131072 < r
past_all r align h most none =
    ⊎_elim (λ (above : 131072 < r). above)
    (λ (fits : r ≤ 131072).
    absurd (none 48 (record { some = omega arith; below = omega arith; holds = fits; multiple = page_whole align 131072 h most (omega arith) })))
    (cases_lt 131072 r)

pub large_why : (r align : ℕ) → IsAlignment align → ((class : ℕ) → ServesAligned r align class → ⊥) → (4096 < align) ⊎ (131072 < r)
large_why r align h none =
    ⊎_elim (λ (above : 4096 < align). inl above) (λ (most : align ≤ 4096). inr (past_all r align h most none)) (cases_lt 4096 align)
