use Rattle.std.proofs.Common.{ℕ, max, ◌∙◌, ap}
use Rattle.hm_sizes.specs.Classes.{round_up}
use Rattle.hm_sizes.proofs.Digits.{rounded_up}
use Rattle.hm_sizes.proofs.large.large_size.Goals as goal

pub returns : goal.returns
returns c =
    let rounded = c.next_multiple_of.ensures in
    rounded_up c.spacing.result c.max.result c.next_multiple_of.result c.spacing.ensures.some rounded.lower_bound rounded.upper_bound rounded.multiple
    ∙ ap (λ (x : ℕ). round_up c.spacing.result x) c.max.ensures ∙ ap (λ (x : ℕ). round_up x (max c.args.raised 1)) c.spacing.ensures.value
