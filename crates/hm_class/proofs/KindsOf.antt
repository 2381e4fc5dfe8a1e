-- What a slab is, by what is kept of its slots.
use Rattle.std.proofs.Common.{◌≡◌, ◌≤◌, Bool, true, false, cond, not, ◌&&◌, length, Option, Some, None, option_map, sym, ◌∙◌, ap, refl, true≢false}
use Rattle.std.specs.List.{list_all, list_any}
use Rattle.std.specs.Option.{option_map_or}
use Rattle.std.proofs.lemmas.Option.{none-some, same_Some}
use Rattle.hm_class_rules.specs.Kinds.{Kind, Partial, Empty, Neither, same_kind}
use Rattle.hm_slab_lists.specs.declared.slab.ListName.TheVariants as name
use Rattle.hm_slab_lists.specs.Named.{list_named}
use Rattle.hm_slab_meta.specs.declared.slab_meta.SlotState.{SlotState}
use Rattle.hm_slab_meta.specs.declared.slab_meta.SlotState.TheVariants as state
use Rattle.hm_slab_meta.specs.Uses as meta
use Rattle.hm_slab_meta.specs.Uses.{SlotUse, Never, Free, Live, Quarantined, Condemned, state_of, was_given}
use Rattle.hm_class.specs.Slabs.{shown, list_of}
use Rattle.hm_class.specs.Uses.{lives, has_occupied, has_available, kind_of}
use Rattle.hm_class.proofs.Shown.{all_available, unused_is}

-- ---- one slot
abbrev pub is_live_state : SlotState → Bool
is_live_state state.Never = false
is_live_state state.Free = false
is_live_state state.Live = true
is_live_state state.Quarantined = false
is_live_state state.Condemned = false

lives_by : (u : SlotUse) → lives u ≡ is_live_state (state_of u)
lives_by Never = refl
lives_by Free = refl
lives_by Live = refl
lives_by Quarantined = refl
lives_by (Condemned given) = refl

pub live_by : (o : Option SlotUse) (s : SlotState) → option_map state_of o ≡ Some s → is_live_state s ≡ option_map_or lives o false
live_by None s e = absurd (none-some s e)
live_by (Some u) s e = ap is_live_state (sym (same_Some (state_of u) s e)) ∙ sym (lives_by u)

pub not_live : (s : SlotState) → (s ≡ state.Live → ⊥) → is_live_state s ≡ false
not_live state.Never ne = refl
not_live state.Free ne = refl
not_live state.Live ne = absurd (ne refl)
not_live state.Quarantined ne = refl
not_live state.Condemned ne = refl

pub given_by : (o : Option SlotUse) (b : Bool) → option_map was_given o ≡ Some b → b ≡ option_map_or was_given o false
given_by None b e = absurd (none-some b e)
given_by (Some u) b e = sym (same_Some (was_given u) b e)

-- ---- one slab
abbrev kind_by : Bool → Bool → Kind
kind_by some none = cond (some && none) Partial (cond (not some && none) Empty Neither)

empty_by : (o a : Bool) → same_kind (kind_by o a) Empty ≡ (not o && a)
empty_by true true = refl
empty_by true false = refl
empty_by false true = refl
empty_by false false = refl

named_by : (o a : Bool) → not o ≡ (not o && a) → cond (not o) name.Empty (cond a name.Partial name.Full) ≡ list_of (kind_by o a)
named_by true true e = refl
named_by true false e = refl
named_by false true e = refl
named_by false false e = absurd (true≢false e)

module _ (slab : meta.SlabUse) (some : 1 ≤ length slab.slots) where
  all_free : list_all meta.is_available slab.slots ≡ not (has_occupied slab.slots)
  all_free = all_available slab.slots

  pub empty_kind_is : list_all meta.is_available slab.slots ≡ same_kind (kind_of (shown true slab)) Empty
  empty_kind_is = all_free ∙ unused_is slab.slots some ∙ sym (empty_by (has_occupied slab.slots) (has_available slab.slots))

  pub named_is : list_named slab ≡ list_of (kind_of (shown true slab))
  named_is =
      ap (λ (b : Bool). cond b name.Empty (cond (list_any meta.is_available slab.slots) name.Partial name.Full)) all_free
      ∙ named_by (has_occupied slab.slots) (has_available slab.slots) (unused_is slab.slots some)
