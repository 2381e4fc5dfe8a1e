-- Which rules the history at an index follows, and the byte at an address by its kind.
use Rattle.std.proofs.Common.{◌≡◌, ℕ, ◌<◌, ◌≤◌, ◌*◌, Bool, true, false, cond, nat_lt, List, ap, ⊎_elim, arith}
use Rattle.std.proofs.lemmas.Bool.Decides.{nat_tests}
use Rattle.hm_outside.specs.declared.pages.Pages as pages
use Rattle.hm_model.specs.declared.entry.Entry.{Entry}
use Rattle.hm_sizes.specs.Origins.{Origin, large_region_number}
use Rattle.hm_sizes.specs.Shapes.{IsShape}
use Rattle.hm_class_rules.specs.Bytes as slots
use Rattle.hm_heap.specs.ClassRules as class
use Rattle.hm_large_rules.specs.Bytes as blocks
use Rattle.hm_heap.specs.LargeRules as large
use Rattle.hm_heap.specs.Lawful.{class_terms, large_terms, IsRegionOf}
use Rattle.hm_heap.specs.declared.close.Closed.{Closed}
use Rattle.hm_heap.proofs.Blocks.{shape_fits}
use Rattle.hm_run.specs.declared.words.Options.{Options}
use Rattle.hm_run.specs.Laws.{Begins}
use Rattle.hm_run.specs.Replayed.{origin_at}
use Rattle.hm_run.proofs.Outcomes.{is_region, lawful}
use Rattle.hm_laws.specs.Kept.{byte_in}

module _ (o : Origin) (history : List Entry) (q : ℕ) where
  pub class_byte : o.region < large_region_number → byte_in o history q ≡ slots.byte_at (class_terms o).shape (class.state (class_terms o) history) q
  class_byte lt =
      ap (λ (b : Bool). cond b (slots.byte_at (class_terms o).shape (class.state (class_terms o) history) q) (blocks.byte_at (large.state (large_terms o) history).live q))
      (below o.region lt)
    where
      below : (r : ℕ) → r < 196 → nat_lt r 196 ≡ true
      below r lt = grind (arith, nat_tests)

  pub large_byte : o.region ≡ large_region_number → byte_in o history q ≡ blocks.byte_at (large.state (large_terms o) history).live q
  large_byte is =
      ap (λ (b : Bool). cond b (slots.byte_at (class_terms o).shape (class.state (class_terms o) history) q) (blocks.byte_at (large.state (large_terms o) history).live q))
      (past o.region is)
    where
      past : (r : ℕ) → r ≡ 196 → nat_lt r 196 ≡ false
      past r is = grind (arith, nat_tests)

-- either kind
pub by_kind : (o : Origin) {P : Type 0} → IsRegionOf o → (o.region < large_region_number → P) → (o.region ≡ large_region_number → P) → P
by_kind o of class large = ⊎_elim (λ below. class (few o.region o.config.arenas of.valid.arenas_most below)) large of.region
  where
    few : (r n : ℕ) → n ≤ 4 → r < n * 49 → r < 196
    few r n most below = omega (arith, most, below)

module _ {P : Type 0} (meaning : pages.Ghosts P) (o : Options) (closed : Closed P) (index : ℕ) (p : P) (entries : List Entry) (begins : Begins meaning o closed index p entries) where
  pub class_shape : (origin_at meaning o index p).region < large_region_number → IsShape (class_terms (origin_at meaning o index p)).shape
  class_shape lt = shape_fits (origin_at meaning o index p) (is_region meaning o closed index p entries begins) lt

  pub class_legal : (origin_at meaning o index p).region < large_region_number → class.IsLegal (class_terms (origin_at meaning o index p)) entries
  class_legal lt = ((lawful meaning o closed index p entries begins).class lt).legal

  pub large_legal : (origin_at meaning o index p).region ≡ large_region_number → large.IsLegal (large_terms (origin_at meaning o index p)) entries
  large_legal is = ((lawful meaning o closed index p entries begins).large is).legal
