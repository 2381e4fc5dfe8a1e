use Rattle.std.proofs.Common.{◌∙◌}
use Rattle.hm_trace.specs.Views.{name_view}
use Rattle.hm_trace.proofs.NameSets.{found}
use Rattle.hm_trace.proofs.setters.has.Goals as goal

pub returns : goal.returns
returns c = c.contains.ensures ∙ found c.args.names.now.keys (name_view c.args.name.now)
