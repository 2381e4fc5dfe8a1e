-- Pages that tell alike and belong to the same region.
use Rattle.std.proofs.Common.{◌≡◌, ℕ, Bool, List, Option, sym, subst}
use Rattle.hm_outside.specs.declared.pages.Pages as pages
use Rattle.hm_outside.specs.PageRuns.{PageRuns}
use Rattle.hm_model.specs.declared.entry.Entry.{Entry}
use Rattle.hm_class.specs.declared.identity.Identity.{Identity}
use Rattle.hm_class.specs.declared.store.Store.{Store}
use Rattle.hm_class.specs.Kept.{IsKept}

abbrev pub AreAlike : {P : Type 0} → pages.Ghosts P → P → P → Type 0
AreAlike meaning before now = (meaning.told now ≡ meaning.told before) × (meaning.owner now ≡ meaning.owner before)

-- what a region keeps over pages it keeps over pages that are alike
pub kept_alike : {P : Type 0} (meaning : pages.Ghosts P) {before now : P} {runs : PageRuns} {faults : ℕ} {region : Identity} {es : List Entry} {store : Store} → AreAlike meaning before now
    → IsKept (meaning.told before) (meaning.owner before) runs faults region es store → IsKept (meaning.told now) (meaning.owner now) runs faults region es store
kept_alike meaning {runs = runs} {faults = faults} {region = region} {es = es} {store = store} alike kept =
    subst (λ (x : Bool × Option ℕ). IsKept x.0 x.1 runs faults region es store) (λ i. (sym alike.0 i, sym alike.1 i)) kept
