-- The bytes of a live block are kept, in the histories that a run hands out.
use Rattle.std.proofs.Common.{◌≡◌, ℕ, ◌++◌, Some, sym, ◌∙◌}
use Rattle.hm_outside.specs.declared.pages.Pages as pages
use Rattle.hm_sizes.specs.Origins.{Origin}
use Rattle.hm_heap.specs.Lawful.{class_terms, large_terms}
use Rattle.hm_heap.specs.declared.close.Closed.{Closed}
use Rattle.hm_run.specs.declared.words.Options.{Options}
use Rattle.hm_run.specs.Replayed.{origin_at}
use Rattle.hm_run.proofs.Outcomes.{is_region}
use Rattle.hm_laws.specs.Kept.{byte_after, byte_in, BytesKept}
use Rattle.hm_laws.proofs.KeptBlocks.{kept_blocks}
use Rattle.hm_laws.proofs.KeptSlots.{kept_slots}
use Rattle.hm_laws.proofs.Regions.{class_byte, large_byte, by_kind, class_shape, class_legal, large_legal}

pub bytes_kept : {P : Type 0} (meaning : pages.Ghosts P) (o : Options) (closed : Closed P) (index : ℕ) (p : P) → BytesKept meaning o closed index p
bytes_kept meaning o closed index p before middle a q was begins of none is =
    let r : Origin = origin_at meaning o index p in
    by_kind r {P = byte_in r (before ++ middle) q ≡ Some (byte_after middle q was)} (is_region meaning o closed index p (before ++ middle) begins)
    (λ lt. class_byte r (before ++ middle) q lt ∙ kept_slots (class_terms r) before middle a q was
    (class_shape meaning o closed index p (before ++ middle) begins lt) (class_legal meaning o closed index p (before ++ middle) begins lt)
    (of.class lt).0 none of.from_start (of.class lt).1 (sym (class_byte r before q lt) ∙ is))
    (λ large. large_byte r (before ++ middle) q large ∙ kept_blocks (large_terms r) before middle a q was (of.large large).0
    (large_legal meaning o closed index p (before ++ middle) begins large)
    (of.large large).1 none of.from_start (of.large large).2 (sym (large_byte r before q large) ∙ is))
