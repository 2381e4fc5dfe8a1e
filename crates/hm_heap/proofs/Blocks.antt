-- Where live blocks lie.
use Rattle.std.proofs.Common.{◌≡◌, ◌≢◌, ℕ, ◌+◌, ◌*◌, ◌/◌, ◌%◌, ◌<◌, ◌≤◌, ◌⊎◌, true, List, Some, sym, ◌∙◌, subst, arith}
use Rattle.std.proofs.lemmas.Bool.{cases_lt}
use Rattle.std.proofs.lemmas.Nat.{div-add-mod'}
use mathlib.Core.Logic.{inl, inr}
use Rattle.hm_choice.specs.Stream.{next_word, drawn}
use Rattle.hm_model.specs.declared.entry.Entry.{Entry}
use Rattle.hm_model.specs.Maps.{at}
use Rattle.hm_sizes.specs.declared.config.Config.{Config}
use Rattle.hm_sizes.specs.Configs.{IsValid}
use Rattle.hm_sizes.specs.Homes.{IsInRegion, IsInLargeSpace}
use Rattle.hm_sizes.specs.Laws.{HomesOfRegions, HomesOfLarge, RegionsShareNone, LargeSharesNone}
use Rattle.hm_sizes.specs.Origins.{Origin, large_region_number}
use Rattle.hm_sizes.specs.Shapes.{IsShape}
use Rattle.hm_sizes.proofs.PlaceTest.{slot_row}
use Rattle.hm_sizes.proofs.Ranges.{slab_in}
use Rattle.hm_class_rules.specs.Draws.{stream_of, gap_of}
use Rattle.hm_class_rules.specs.Rules as class
use Rattle.hm_class_rules.specs.State.{is_live}
use Rattle.hm_class_rules.proofs.Alike.{drawn_below}
use Rattle.hm_class_rules.proofs.Legal as class_legal
use Rattle.hm_class_rules.proofs.NextEntry.{drawn_shape_fits, gap_most, pages_some, pages_within}
use Rattle.hm_class_rules.proofs.Sound.{has_times}
use Rattle.hm_class_rules.proofs.Streams.{next_below}
use Rattle.hm_large_rules.specs.State.{Block}
use Rattle.hm_large_rules.specs.Rules as large
use Rattle.hm_large_rules.proofs.BlockLists.{in_space_at}
use Rattle.hm_large_rules.proofs.Legal as large_legal
use Rattle.hm_heap.specs.Lawful.{arena_of, class_in, class_terms, large_terms, IsRegionOf}
use Rattle.hm_heap.specs.Laws.{LiesIn, HomesOfBlocks, BlocksApart, RegionsApart}

-- ---- a class region
gap_within : (o : Origin) → IsValid o.config → gap_of o.config (next_word (stream_of o.seed (arena_of o.region) (class_in o.region))) ≤ o.config.class_region
gap_within o valid =
    let size : ℕ = o.config.class_region in
    let stream = stream_of o.seed (arena_of o.region) (class_in o.region) in
    gap_most (drawn (size / 4096) (next_word stream)) (size / 4096) size
    (drawn_below (size / 4096) (next_word stream) (pages_some size valid.region_least) (next_below stream)) (pages_within size)

arena_below : (o : Origin) → IsRegionOf o → o.region < large_region_number → arena_of o.region < o.config.arenas
arena_below o of lt = elim of.region [
  | inl below ↦ omega (arith, below)
  | inr is ↦ absurd (omega (arith, is, lt))
]

class_below : (o : Origin) → (class_in o.region).0 < 49
class_below o = omega arith

number_back : (region : ℕ) → region / 49 * 49 + region % 49 ≡ region
number_back region = omega (arith, div-add-mod' region 49)

pub shape_fits : (o : Origin) → IsRegionOf o → o.region < large_region_number → IsShape (class_terms o).shape
shape_fits o of lt = drawn_shape_fits o.seed o.config (arena_of o.region) (class_in o.region) of.valid (arena_below o of lt) (class_below o)

slot_in : (first slab slot i slots a q : ℕ) → a ≡ first + i * slot → a ≤ q → q < a + slot → i * slot + slot ≤ slots * slot → slots * slot ≤ slab → (first ≤ q) × (q < first + slab)
slot_in first slab slot i slots a q is from to row fits = (omega arith, omega arith)

class_lies : (o : Origin) (es : List Entry) (a q : ℕ) → IsRegionOf o → o.region < large_region_number → class.IsLegal (class_terms o) es → is_live (class.state (class_terms o) es) a ≡ true
    → a ≤ q → q < a + (class_terms o).shape.slot → IsInRegion o.config o.region q
class_lies o es a q of lt legal live from to =
    let t = class_terms o in
    let p = t.shape in
    let s = class.state t es in
    let fit = shape_fits o of lt in
    let stands = (class_legal.sound t es fit legal).placed a (omega (arith, has_times a s.live live)) in
    let within = slot_in (p.first + stands.slab * p.slab) p.slab p.slot stands.slot p.slots a q stands.is_place.is from to (slot_row p.slot stands.slot p.slots stands.is_place.slot) fit.slots_fit in
    subst (λ (r : ℕ). IsInRegion o.config r q) (number_back o.region)
    (slab_in o.config (arena_of o.region) (class_in o.region) _ stands.slab q (arena_below o of lt) (class_below o) (gap_within o of.valid) stands.is_place.below within.0 within.1)

-- ---- the large region
large_lies : (o : Origin) (es : List Entry) (a q : ℕ) (x : Block) → large.IsLegal (large_terms o) es → at a (large.state (large_terms o) es).live ≡ Some x → a ≤ q → q < a + x.size → IsInLargeSpace o.config q
large_lies o es a q x legal is from to =
    let t = large_terms o in
    let s = large.state t es in
    let placed = in_space_at o.config a x s.live (large_legal.sound t es legal).live is in
    record { from_start = omega (arith, placed.from, from); to_end = omega (arith, placed.to, to) }

-- ---- homes
pub lies_in : HomesOfRegions → HomesOfLarge → HomesOfBlocks
lies_in regions space o es a q of lawful block = record {
  class = λ lt.
      let b = block.class lt in
      let is = class_lies o es a q of lt (lawful.class lt).legal b.0 block.from_start b.1 in
      (is, regions o.config (record { 0 = o.region }) q of.valid is);
  large = λ e.
      let b = block.large e in
      let is = large_lies o es a q b.0 (lawful.large e).legal b.1 block.from_start b.2 in
      (is, space o.config q of.valid is);
}

-- ---- apart
ends_meet : (a b x y q : ℕ) → (a + x ≤ b) ⊎ (b + y ≤ a) → a ≤ q → q < a + x → b ≤ q → q < b + y → ⊥
ends_meet a b x y q (inl le) from to from' to' = omega arith
ends_meet a b x y q (inr le) from to from' to' = omega arith

same_start : (a b x y q : ℕ) → (a ≢ b → (a + x ≤ b) ⊎ (b + y ≤ a)) → a ≤ q → q < a + x → b ≤ q → q < b + y → a ≡ b
same_start a b x y q apart from to from' to' = elim (cases_lt a b) [
  | inl lt ↦ absurd (ends_meet a b x y q (apart (λ e. omega (arith, e, lt))) from to from' to')
  | inr le ↦ elim (cases_lt b a) [
    | inl lt ↦ absurd (ends_meet a b x y q (apart (λ e. omega (arith, e, lt))) from to from' to')
    | inr le' ↦ omega (arith, le, le')
  ]
]

is_class : (o : Origin) → IsRegionOf o → (o.region < large_region_number) ⊎ (o.region ≡ large_region_number)
is_class o of = elim of.region [
  | inl lt ↦ inl (omega (arith, lt, of.valid.arenas_most))
  | inr is ↦ inr is
]

pub blocks_apart : BlocksApart
blocks_apart o es a b q of lawful x y = elim (is_class o of) [
  | inl lt ↦ let p = x.class lt in
      let r = y.class lt in
      same_start a b (class_terms o).shape.slot (class_terms o).shape.slot q
      (λ ne. class_legal.apart (class_terms o) es a b (shape_fits o of lt) (lawful.class lt).legal p.0 r.0 ne) x.from_start p.1 y.from_start r.1
  | inr is ↦ let p = x.large is in
      let r = y.large is in
      same_start a b p.0.size r.0.size q
      (λ ne. large_legal.apart (large_terms o) es a b p.0 r.0 (lawful.large is).legal p.1 r.1 ne) x.from_start p.2 y.from_start r.2
]

pub regions_apart : RegionsShareNone → LargeSharesNone → HomesOfBlocks → RegionsApart
regions_apart share space lies o other es fs a b q same of of' lawful lawful' x y =
    let here = lies o es a q of lawful x in
    let there : LiesIn o.config other.region q = subst (λ (c : Config). LiesIn c other.region q) same (lies other fs b q of' lawful' y) in
    elim (is_class o of) [
      | inl lt ↦ elim (is_class other of') [
        | inl lt' ↦ share o.config o.region other.region q (here.class lt).0 (there.class lt').0
        | inr is' ↦ absurd (space o.config o.region q of.valid (here.class lt).0 (there.large is').0)
      ]
      | inr is ↦ elim (is_class other of') [
        | inl lt' ↦ absurd (space o.config other.region q of.valid (there.class lt').0 (here.large is).0)
        | inr is' ↦ is ∙ sym is'
      ]
    ]
