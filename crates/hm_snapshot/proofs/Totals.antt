-- The sum of the sizes after one change.
use Rattle.std.proofs.Common.{◌≡◌, ◌≤◌, ◌<◌, ◌+◌, ◌*◌, ◌^◌, ℕ, List, length, refl, ap, sym, ◌∙◌, arith}
use Rattle.std.specs.Prelude.{Option, Some, None}
use Rattle.std.specs.Option.{unwrap_or, option_map}
use Rattle.std.specs.Ordering.{nat_cmp}
use Rattle.std.specs.BTreeMap.{insert_entry, is_at}
use Rattle.std.specs.List.Sorted.{IsStrictlySortedBy}
use Rattle.std.specs.Map.{keys_of, values_of, remove_entry}
use Rattle.std.proofs.lemmas.Cmp.{nat_cmp_total}
use Rattle.std.proofs.lemmas.List.Sums.{sum_by-le}
use Rattle.std.proofs.lemmas.Map.Entries.{sum_by-insert_entry, sum_by-remove_entry, length-values_of}
use Rattle.std.proofs.lemmas.Map.Views.{All-values-insert_entry, All-map-remove_entry}
use Rattle.hm_model.specs.Changes.{total_of, size_at}
use Rattle.hm_snapshot.specs.Shown.{AreSmall}

itself : (o : Option ℕ) → unwrap_or (option_map (λ n. n) o) 0 ≡ unwrap_or o 0
itself None = refl
itself (Some n) = refl

-- what a map has at an address, 0 where it has nothing
abbrev pub size_or : List (ℕ × ℕ) → ℕ → ℕ
size_or es addr = unwrap_or (size_at es addr) 0

pub total_put : (es : List (ℕ × ℕ)) (addr size : ℕ) → IsStrictlySortedBy nat_cmp (keys_of es) → total_of (insert_entry nat_cmp es addr size) + size_or es addr ≡ total_of es + size
total_put es addr size s = ap (λ z. total_of (insert_entry nat_cmp es addr size) + z) (sym (itself (size_at es addr))) ∙ sum_by-insert_entry (λ n. n) nat_cmp_total es addr size s

pub total_gone : (es : List (ℕ × ℕ)) (addr : ℕ) → total_of (remove_entry (is_at (nat_cmp addr)) es) + size_or es addr ≡ total_of es
total_gone es addr = ap (λ z. total_of (remove_entry (is_at (nat_cmp addr)) es) + z) (sym (itself (size_at es addr))) ∙ sum_by-remove_entry (λ n. n) (is_at (nat_cmp addr)) es

pub small_put : (es : List (ℕ × ℕ)) (addr size : ℕ) → AreSmall es → size < 2 ^ 64 → AreSmall (insert_entry nat_cmp es addr size)
small_put es addr size = All-values-insert_entry nat_cmp addr size (λ n. n < 2 ^ 64) es

pub small_gone : (es : List (ℕ × ℕ)) (addr : ℕ) → AreSmall es → AreSmall (remove_entry (is_at (nat_cmp addr)) es)
small_gone es addr = All-map-remove_entry (is_at (nat_cmp addr)) (λ e. e.1) (λ n. n < 2 ^ 64) es

lt_le : {a b : ℕ} → a < b → a ≤ b
lt_le h = omega arith

-- a sum of so few sizes, and one more
pub total_fits : (es : List (ℕ × ℕ)) (size : ℕ) → AreSmall es → length es < 2 ^ 63 → size < 2 ^ 64 → total_of es + size < 2 ^ 128
total_fits es size small few s = let b : total_of es ≤ length (values_of es) * 18446744073709551616 = sum_by-le (λ n. n) 18446744073709551616 (values_of es) (λ k d h. lt_le (small k d h)) in
    let n : length (values_of es) ≡ length es = length-values_of es in omega arith
