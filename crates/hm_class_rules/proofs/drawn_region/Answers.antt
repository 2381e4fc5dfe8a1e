use Rattle.hm_class_rules.proofs.NextEntry.{drawn_shape_fits}
use Rattle.hm_class_rules.proofs.drawn_region.Goals as goal

pub returns : goal.returns
returns c = drawn_shape_fits
