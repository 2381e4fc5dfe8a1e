use Rattle.std.proofs.Common.{◌≡◌, ◌≢◌, ℕ, ◌≤◌, Option, Some, None, sym, ◌∙◌}
use Rattle.std.specs.Prelude.{IfSome, IfNone}
use Rattle.std.specs.Option.{unwrap_or}
use Rattle.hm_slab_lists.specs.Numbers.{nth_slab}
use Rattle.hm_slab_lists.proofs.Numbering.{same_index}
use Rattle.hm_slab_lists.proofs.slab_lists.index_in.Goals as goal

found_at : (o : Option ℕ) (interval number past index : ℕ) → 1 ≤ interval → interval ≤ 8 → IfSome o (λ i. nth_slab interval i ≡ number)
    → IfNone o ((i : ℕ) → nth_slab interval i ≢ number) → nth_slab interval index ≡ number → unwrap_or o past ≡ index
found_at None interval number past index some few found guard is = absurd (guard index is)
found_at (Some i) interval number past index some few found guard is = same_index interval i index some few (found ∙ sym is)

pub returns-clause-opened : goal.returns-clause-opened
returns-clause-opened c index below is =
    c.unwrap_or.ensures ∙ found_at c.index_of.result c.args.interval c.args.number c.len.result index c.requires.some c.requires.few c.index_of.ensures.found c.index_of.ensures.guard is
