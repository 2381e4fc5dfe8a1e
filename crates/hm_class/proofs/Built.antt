-- A region with no entry keeps what it is to keep.
use Rattle.std.proofs.Common.{◌≡◌, ℕ, Bool, IsTrue, List, [], Option, sym, subst, refl, arith, true≢false}
use Rattle.std.specs.FinMap as map
use Rattle.std.proofs.lemmas.Option.{none-some}
use Rattle.hm_choice.specs.Stream.{after_word}
use Rattle.hm_quarantine.specs.Quarantine.{nothing_kept}
use Rattle.hm_outside.specs.Makers.{IsOwned}
use Rattle.hm_outside.specs.PageRuns.{PageRuns}
use Rattle.hm_model.specs.declared.entry.Entry.{Entry}
use Rattle.hm_sizes.specs.Origins.{class_region_number}
use Rattle.hm_class_rules.specs.Draws.{stream_of}
use Rattle.hm_class_rules.specs.State.{start}
use Rattle.hm_class.specs.Slabs.{Slabs, no_slabs}
use Rattle.hm_class.specs.Uses.{numbers_of}
use Rattle.hm_class.specs.declared.identity.Identity.{Identity}
use Rattle.hm_class.specs.declared.store.Store.{Store}
use Rattle.hm_class.specs.Kept.{IsKept}
use Rattle.hm_class.proofs.Listed.{same_cells}
use Rattle.hm_class.proofs.Paged.{holds_nothing}

pub kept_built : {told : Bool} {owner : Option ℕ} (runs : PageRuns) {faults : ℕ} (region : Identity) {es : List Entry} (store : Store) → (IsTrue told → runs ≡ map.empty) → faults ≡ 0 → IsOwned owner (class_region_number region.arena region.shape.class) → es ≡ []
    → store.slabs ≡ no_slabs (numbers_of region.shape) region.config.park_length → store.stream ≡ after_word (stream_of region.seed region.arena region.shape.class)
    → store.quarantine ≡ nothing_kept region.shape.array region.shape.ring → IsKept told owner runs faults region es store
kept_built {told = told} {owner = owner} runs {faults = faults} region store nothing count owned no_entries none taken empty =
    subst (λ (l : List Entry). IsKept told owner runs faults region l store) (sym no_entries)
    (subst (λ (k : Slabs). IsKept told owner runs faults region [] (record store { slabs = k })) (sym none) (record {
      legal = tt;
      stepped = record { shape = region.served.is; entries = tt };
      count = count;
      follows = record {
        shows = record {
          opens = λ n. refl;
          slots = λ n b e. absurd (none-some b e);
          canary = λ n. refl;
          live = λ n i lt. refl;
          quarantined = λ n i lt. refl;
          condemned = λ n i lt. refl;
          given = λ n i lt. refl;
          parked = λ n e. absurd (true≢false (sym e));
          shut = λ n e. absurd (true≢false (sym e));
          next = refl;
        };
        shut = refl;
        full = λ n e. absurd (true≢false (sym e));
        numbers = refl;
        live_all = omega arith;
      };
      slabs = λ y. holds_nothing region.shape runs (nothing y);
      lists = same_cells start (sym taken) refl refl (sym empty) refl;
      owned = owned;
    }))
