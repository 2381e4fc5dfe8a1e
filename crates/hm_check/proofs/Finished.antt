-- What was read of a journal so far can be read on to an end: the open region makes the calls that are to come, and the
-- regions that are left make none.
use Rattle.std.proofs.Common.{◌≡◌, ◌⊎◌, inl, inr, ℕ, zero, suc, ◌+◌, ◌-◌, ◌*◌, ◌<◌, ◌≤◌, ltb, Bool, true, false, cond, List, [], ◌∷◌, refl, sym, ap, subst, arith}
use Rattle.std.proofs.lemmas.Bool.{ltb-true}
use Rattle.hm_model.specs.declared.entry.Entry.{Entry}
use Rattle.hm_sizes.specs.declared.config.Config.{Config}
use Rattle.hm_sizes.specs.Classes.{class_count}
use Rattle.hm_sizes.specs.Configs.{IsValid, standard}
use Rattle.hm_sizes.specs.Origins.{Origin, large_region_number}
use Rattle.hm_sizes.specs.Shapes.{large_start}
use Rattle.hm_class_rules.proofs.NextEntry.{drawn_shape_fits}
use Rattle.hm_heap.specs.Lawful.{arena_of, class_in, class_terms, fault_count, first_address}
use Rattle.hm_journal.specs.Ranges.{Fits64}
use Rattle.hm_check.specs.Readers.{Stage, AtHeader, AtConfig, AtSeed, AtRegion, AtEntry, Ended, Said, Header, Configured, Seeded, Region, Made, Closed, End, Reader, class_regions, one_less, origin_of, read, region_at, region_count, start}
use Rattle.hm_check.specs.Verdicts.{IsDrawnHistory, IsLegalHistory}
use Rattle.hm_check.proofs.Chains.{Chain, IsGood, after}
use Rattle.hm_check.proofs.Histories.{drawn_none, legal_none}
use Rattle.hm_check.proofs.Idle.{count_after, count_none, idle, idle_drawn, idle_fits, idle_legal, idle_runs}
use Rattle.hm_check.proofs.OneVerdict.{standard_valid}

-- ---- where a region begins
region_is : (c : Config) (place : ℕ) (b : Bool) → ltb place (class_regions c) ≡ b
    → (region_at c place < class_regions c) ⊎ (region_at c place ≡ large_region_number)
region_is c place true is =
    inl (subst (λ (n : ℕ). n < class_regions c) (ap (λ (b : Bool). cond b place large_region_number) (sym is))
    (ltb-true place (class_regions c) is))
region_is c place false is = inr (ap (λ (b : Bool). cond b place large_region_number) is)

arena_below : (region arenas : ℕ) → region < large_region_number
    → (region < arenas * class_count) ⊎ (region ≡ large_region_number) → arena_of region < arenas
arena_below region arenas small (inl below) = omega (arith, below)
arena_below region arenas small (inr is) = absurd (omega (arith, is, small))

class_below : (region : ℕ) → (class_in region).0 < class_count
class_below region = omega arith

first_in : (o : Origin) → IsValid o.config → (o.region < class_regions o.config) ⊎ (o.region ≡ large_region_number)
    → (b : Bool) → ltb o.region large_region_number ≡ b → Fits64 (cond b (class_terms o).shape.first large_start)
first_in o valid of true is =
    let small : o.region < large_region_number = ltb-true o.region large_region_number is in
    let shape = drawn_shape_fits o.seed o.config (arena_of o.region) (class_in o.region) valid
    (arena_below o.region o.config.arenas small of) (class_below o.region) in
    omega (arith, shape.space)
first_in o valid of false is = omega arith

first_fits : (r : Reader) → IsValid r.config → Fits64 (first_address (origin_of r))
first_fits r valid = first_in (origin_of r) valid (region_is r.config r.regions _ refl) _ refl

-- ---- ends
-- lines that may be said, after which nothing is to come
abbrev pub Ends : Type 0 → Type 0 → Reader → Type 0
Ends L D r = (rest : List Said) × Chain L D r rest × ((after r rest).stage ≡ Ended)

-- what is known of the open region
pub record IsOpen (L D : Type 0) (r : Reader) : Type 0 where
  pub more : r.regions < region_count r.config
  pub legal : L → IsLegalHistory (origin_of r) r.past
  pub drawn : D → IsDrawnHistory (origin_of r) r.past
  pub small : Fits64 (fault_count (origin_of r) r.past)

module _ (L D : Type 0) where
  say_on : (r : Reader) (said : Said) → IsGood L D r said → Ends L D (read r said) → Ends L D r
  say_on r said good ends = (said ∷ ends.0, (good, ends.1), ends.2)

  -- the region is closed, and none is open
  close : (r : Reader) → r.stage ≡ AtEntry 0 → IsOpen L D r
      → Ends L D (read r (Closed (fault_count (origin_of r) r.past))) → Ends L D r
  close r at known ends = say_on r (Closed (fault_count (origin_of r) r.past))
      (record { stands = at; fits = known.small; legal = λ asked. refl; drawn = λ asked. tt }) ends

  opened : (r : Reader) (first count : ℕ) → r.regions < region_count r.config
      → IsOpen L D (read r (Region first count))
  opened r first count more = record {
    more = more;
    legal = λ asked. legal_none (origin_of r);
    drawn = λ asked. drawn_none (origin_of r);
    small = subst Fits64 (sym (count_none (origin_of r))) (omega arith);
  }

  -- so many regions are left
  regions_end : (left : ℕ) (r : Reader) → r.stage ≡ AtRegion → IsValid r.config → r.regions + left ≡ region_count r.config
      → Ends L D r
  regions_end zero r at valid count =
      (End ∷ [], (record { stands = (at, omega (arith, count)); fits = tt; legal = λ asked. tt; drawn = λ asked. tt }, tt), refl)
  regions_end (suc left) r at valid count =
      let first : ℕ = first_address (origin_of r) in
      let more : r.regions < region_count r.config = omega (arith, count) in
      let q : Reader = read r (Region first 0) in
      say_on r (Region first 0)
      (record { stands = (at, more); fits = (first_fits r valid, omega arith); legal = λ asked. tt; drawn = λ asked. refl })
      (close q refl (opened r first 0 more)
      (regions_end left (read q (Closed (fault_count (origin_of q) q.past))) refl valid
      (one_done r.regions left (region_count r.config) count)))
    where
      one_done : (regions left count : ℕ) → regions + suc left ≡ count → (regions + 1) + left ≡ count
      one_done regions left count e = omega (arith, e)

  regions_left : (r : Reader) → r.stage ≡ AtRegion → IsValid r.config → r.regions ≤ region_count r.config → Ends L D r
  regions_left r at valid most = regions_end (left_of r.regions (region_count r.config) most).0 r at valid
      (left_of r.regions (region_count r.config) most).1
    where
      left_of : (a b : ℕ) → a ≤ b → (left : ℕ) × (a + left ≡ b)
      left_of a b h = (b - a, omega (arith, h))

  -- one entry more
  made : (r : Reader) (e : Entry) → IsOpen L D r → IsGood L D r (Made e) → IsOpen L D (read r (Made e))
  made r e known good = record {
    more = known.more;
    legal = good.legal;
    drawn = good.drawn;
    small = subst Fits64 (sym (count_after (origin_of r) r.past e)) good.fits.0.after;
  }

  -- so many entries of the open region are to come
  entries_end : (left : ℕ) (r : Reader) → r.stage ≡ AtEntry left → IsValid r.config → IsOpen L D r → Ends L D r
  entries_end zero r at valid known =
      close r at known (regions_left (read r (Closed (fault_count (origin_of r) r.past))) refl valid
      (one_closed r.regions (region_count r.config) known.more))
    where
      one_closed : (regions count : ℕ) → regions < count → regions + 1 ≤ count
      one_closed regions count more = omega (arith, more)
  entries_end (suc left) r at valid known =
      let e : Entry = idle (origin_of r) r.past in
      let good : IsGood L D r (Made e) = record {
        stands = (left, at);
        fits = (idle_fits (origin_of r) r.past known.small, idle_runs (origin_of r) r.past);
        legal = λ asked. idle_legal (origin_of r) r.past (known.legal asked);
        drawn = λ asked. idle_drawn (origin_of r) r.past (known.drawn asked);
      } in
      say_on r (Made e) good (entries_end left (read r (Made e)) (ap one_less at) valid (made r e known good))

  -- ---- what is kept while lines are read
  abbrev Kept : Stage → Reader → Type 0
  Kept AtHeader r = r.regions ≡ 0
  Kept AtConfig r = r.regions ≡ 0
  Kept AtSeed r = r.regions ≡ 0
  Kept AtRegion r = r.regions ≤ region_count r.config
  Kept (AtEntry left) r = IsOpen L D r
  Kept Ended r = Unit {0}

  abbrev pub IsKept : Reader → Type 0
  IsKept r = IsValid r.config × Kept r.stage r

  none_of : (n m : ℕ) → n ≡ 0 → n ≤ m
  none_of n m e = omega (arith, e)

  kept_on : (r : Reader) (said : Said) → IsKept r → IsGood L D r said → IsKept (read r said)
  kept_on r Header k good = (k.0, subst (λ (s : Stage). Kept s r) good.stands k.1)
  kept_on r (Configured c) k good = (good.fits, subst (λ (s : Stage). Kept s r) good.stands k.1)
  kept_on r (Seeded n) k good =
      (k.0, none_of r.regions (region_count r.config) (subst (λ (s : Stage). Kept s r) good.stands k.1))
  kept_on r (Region first count) k good = (k.0, opened r first count good.stands.1)
  kept_on r (Made e) k good =
      let known : IsOpen L D r = subst (λ (s : Stage). Kept s r) good.stands.1 k.1 in
      (k.0, subst (λ (s : Stage). Kept s (read r (Made e))) (sym (ap one_less good.stands.1)) (made r e known good))
  kept_on r (Closed faults) k good =
      let known : IsOpen L D r = subst (λ (s : Stage). Kept s r) good.stands k.1 in
      (k.0, closed_one r.regions (region_count r.config) known.more)
    where
      closed_one : (regions count : ℕ) → regions < count → regions + 1 ≤ count
      closed_one regions count more = omega (arith, more)
  kept_on r End k good = (k.0, tt)

  pub kept_after : (all : List Said) (r : Reader) → IsKept r → Chain L D r all → IsKept (after r all)
  kept_after [] r k chain = k
  kept_after (said ∷ more) r k chain = kept_after more (read r said) (kept_on r said k chain.0) chain.1

  pub kept_start : IsKept start
  kept_start = (standard_valid, refl)

  -- ---- from any stage on
  seed_ends : (r : Reader) → r.stage ≡ AtSeed → IsValid r.config → r.regions ≡ 0 → Ends L D r
  seed_ends r at valid none = say_on r (Seeded 0)
      (record { stands = at; fits = omega arith; legal = λ asked. tt; drawn = λ asked. tt })
      (regions_left (read r (Seeded 0)) refl valid (none_of r.regions (region_count r.config) none))

  config_ends : (r : Reader) → r.stage ≡ AtConfig → r.regions ≡ 0 → Ends L D r
  config_ends r at none = say_on r (Configured standard)
      (record { stands = at; fits = standard_valid; legal = λ asked. tt; drawn = λ asked. tt })
      (seed_ends (read r (Configured standard)) refl standard_valid none)

  ends_from : (s : Stage) (r : Reader) → r.stage ≡ s → IsValid r.config → Kept s r → Ends L D r
  ends_from AtHeader r at valid none = say_on r Header
      (record { stands = at; fits = tt; legal = λ asked. tt; drawn = λ asked. tt }) (config_ends (read r Header) refl none)
  ends_from AtConfig r at valid none = config_ends r at none
  ends_from AtSeed r at valid none = seed_ends r at valid none
  ends_from AtRegion r at valid most = regions_left r at valid most
  ends_from (AtEntry left) r at valid known = entries_end left r at valid known
  ends_from Ended r at valid k = ([], tt, at)

  -- whatever was read can be read on to an end
  pub ends_well : (r : Reader) → IsKept r → Ends L D r
  ends_well r k = ends_from r.stage r refl k.0 k.1
