-- What the maps say of one slot, and what contracts see of it.
use Rattle.std.proofs.Common.{◌≡◌, ℕ, ◌<◌, ◌≤◌, Bool, true, false, List, length, get_or, inl, inr, refl, sym, ap, ◌∙◌, arith}
use Rattle.std.proofs.lemmas.Bool.{cases_lt}
use Rattle.std.proofs.lemmas.List.{get_or_past, length-replicate, get_or-replicate}
use Rattle.std.proofs.lemmas.List.FromFn.{length-map-range_with_len, get_or-map-range_with_len, fill_by_all}
use Rattle.std.proofs.lemmas.Option.{slice_get-get_or, slice_get_within, get_or_from_slice_get}
use Rattle.std.specs.Prelude.{◌||◌, not, slice_get, option_map, Option, Some, None, replicate}
use Rattle.hm_slab_meta.specs.declared.bit_map.BitMap.{BitMap}
use Rattle.hm_slab_meta.specs.Maps.{has, IsClear}
use Rattle.hm_slab_meta.specs.Marks.{Marks}
use Rattle.hm_slab_meta.specs.Uses.{SlotUse, SlabUse, Never, is_available, was_given, fresh_slab}
use Rattle.hm_slab_meta.specs.Kept.{use_of, use_in, uses_of, fits, IsKept}

pub length-uses_of : (live quarantined condemned given : BitMap) (slots : ℕ) → length (uses_of live quarantined condemned given slots) ≡ slots
length-uses_of live quarantined condemned given slots = length-map-range_with_len (use_in live quarantined condemned given) 0 slots

pub get_or-uses_of : (live quarantined condemned given : BitMap) (slots i : ℕ) (d : SlotUse) → i < slots
    → get_or (uses_of live quarantined condemned given slots) i d ≡ use_in live quarantined condemned given i
get_or-uses_of live quarantined condemned given slots i d below =
    get_or-map-range_with_len (use_in live quarantined condemned given) 0 slots i i d below (omega arith)

-- past the last slot too
pub use_at_is : (live quarantined condemned given : BitMap) (slots i : ℕ) → IsKept live quarantined condemned given slots → i < 256
    → get_or (uses_of live quarantined condemned given slots) i Never ≡ use_in live quarantined condemned given i
use_at_is live quarantined condemned given slots i kept below =
    elim (cases_lt i slots) as (λ _. get_or (uses_of live quarantined condemned given slots) i Never ≡ use_in live quarantined condemned given i) [
      | inl lt ↦ get_or-uses_of live quarantined condemned given slots i Never lt
      | inr ge ↦
          let past : length (uses_of live quarantined condemned given slots) ≤ i = omega (arith, length-uses_of live quarantined condemned given slots) in
          get_or_past (uses_of live quarantined condemned given slots) i Never past ∙ sym (kept.past i ge below)
    ]

-- ---- a slot that contracts speak of
pub record Reads (live quarantined condemned given : BitMap) (slots slot : ℕ) (u : SlotUse) : Type 0 where
  pub below : slot < slots
  pub is : use_in live quarantined condemned given slot ≡ u

pub reads : (live quarantined condemned given : BitMap) (slots canary slot : ℕ) (now : SlabUse) (u : SlotUse)
    → ◌≡◌ {A = SlabUse} (record { slots = uses_of live quarantined condemned given slots; canary = canary }) now
    → slice_get now.slots slot ≡ Some u → Reads live quarantined condemned given slots slot u
reads live quarantined condemned given slots canary slot now u view is =
    let there : slice_get (uses_of live quarantined condemned given slots) slot ≡ Some u = ap (λ (s : SlabUse). slice_get s.slots slot) view ∙ is in
    let within = slice_get_within (uses_of live quarantined condemned given slots) slot u there in
    let below : slot < slots = omega (arith, within, length-uses_of live quarantined condemned given slots) in
    record {
      below = below;
      is = sym (get_or-uses_of live quarantined condemned given slots slot Never below) ∙ get_or_from_slice_get (uses_of live quarantined condemned given slots) slot u Never there;
    }

pub slice_get-uses_of : (live quarantined condemned given : BitMap) (slots canary slot : ℕ) (now : SlabUse)
    → ◌≡◌ {A = SlabUse} (record { slots = uses_of live quarantined condemned given slots; canary = canary }) now
    → slot < length now.slots → (slot < slots) × (slice_get now.slots slot ≡ Some (use_in live quarantined condemned given slot))
slice_get-uses_of live quarantined condemned given slots canary slot now view below =
    let long : length now.slots ≡ slots = sym (ap (λ (s : SlabUse). length s.slots) view) ∙ length-uses_of live quarantined condemned given slots in
    let lt : slot < slots = omega (arith, below, long) in (
      lt,
      sym (ap (λ (s : SlabUse). slice_get s.slots slot) view)
          ∙ slice_get-get_or (uses_of live quarantined condemned given slots) slot Never (omega (arith, lt, length-uses_of live quarantined condemned given slots))
          ∙ ap (λ (u : SlotUse). Some u) (get_or-uses_of live quarantined condemned given slots slot Never lt),
    )

-- an option whose value passes
pub passing : (o : Option SlotUse) → option_map is_available o ≡ Some true → (u : SlotUse) × (o ≡ Some u) × (is_available u ≡ true)
passing None e = cc
passing (Some u) e = (u, refl, cc)

-- ---- the map of all that are not available
in_some : (live quarantined condemned given : Bool) → ((live || quarantined) || condemned) ≡ not (is_available (use_of live quarantined condemned given))
in_some true quarantined condemned given = refl
in_some false true condemned given = refl
in_some false false true given = refl
in_some false false false true = refl
in_some false false false false = refl

pub marks : (live quarantined condemned given first taken : BitMap) (slots canary : ℕ) (now : SlabUse) → IsKept live quarantined condemned given slots
    → ◌≡◌ {A = SlabUse} (record { slots = uses_of live quarantined condemned given slots; canary = canary }) now
    → ((i : ℕ) → i < 256 → has first i ≡ (has live i || has quarantined i)) → ((i : ℕ) → i < 256 → has taken i ≡ (has first i || has condemned i))
    → Marks taken now.slots
marks live quarantined condemned given first taken slots canary now kept view one two i below =
    two i below ∙ ap (λ t. t || has condemned i) (one i below)
    ∙ in_some (has live i) (has quarantined i) (has condemned i) (has given i)
    ∙ ap (λ (u : SlotUse). not (is_available u)) (sym (use_at_is live quarantined condemned given slots i kept below) ∙ ap (λ (s : SlabUse). get_or s.slots i Never) view)

-- ---- the bits of one slot
pub given_bit : (live quarantined condemned given : Bool) → fits live quarantined condemned given ≡ true → was_given (use_of live quarantined condemned given) ≡ given
given_bit true true condemned given f = cc
given_bit true false true given f = cc
given_bit true false false given f = sym f
given_bit false true true given f = cc
given_bit false true false given f = sym f
given_bit false false true given f = refl
given_bit false false false true f = refl
given_bit false false false false f = refl

-- ---- a fresh slab
none_used : (live quarantined condemned given : BitMap) (i : ℕ) → has live i ≡ false → has quarantined i ≡ false → has condemned i ≡ false → has given i ≡ false
    → use_in live quarantined condemned given i ≡ Never
none_used live quarantined condemned given i l h c g =
    ap (λ b. use_of b (has quarantined i) (has condemned i) (has given i)) l ∙ ap (λ b. use_of false b (has condemned i) (has given i)) h
    ∙ ap (λ b. use_of false false b (has given i)) c ∙ ap (λ b. use_of false false false b) g

pub fresh_uses : (live quarantined condemned given : BitMap) (slots : ℕ) → slots ≤ 256 → IsClear live → IsClear quarantined → IsClear condemned → IsClear given
    → ◌≡◌ {A = SlabUse} (record { slots = uses_of live quarantined condemned given slots; canary = 0 }) (fresh_slab slots)
fresh_uses live quarantined condemned given slots few l h c g =
    ap (λ (xs : List SlotUse). record { slots = xs; canary = 0 })
    (sym (fill_by_all (use_in live quarantined condemned given) (replicate slots Never) slots Never (length-replicate slots Never)
    (λ k below. get_or-replicate slots k Never Never below ∙ sym (none_used live quarantined condemned given k (l k (omega arith)) (h k (omega arith)) (c k (omega arith)) (g k (omega arith))))))
