use Rattle.std.proofs.Common.{◌∙◌, sym}
use Rattle.hm_sizes.specs.declared.class.Kind.TheVariants.{Small}
use Rattle.hm_sizes.proofs.Requests.{agrees}
use Rattle.hm_sizes.proofs.class.block_size.Goals as goal

pub returns-in-Small : goal.returns-in-Small
returns-in-Small c = c.class_size.ensures ∙ sym (agrees c.args.asked (Small c.in-Small.class) c.in-Small.ensures)
