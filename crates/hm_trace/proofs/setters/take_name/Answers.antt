use Rattle.hm_trace.specs.Views.{name_view}
use Rattle.hm_trace.proofs.NameSets.{joined_by}
use Rattle.hm_trace.proofs.setters.take_name.Goals as goal

pub returns : goal.returns
returns c =
    λ q.
    joined_by c.args.names.now.keys c.insert.new.self.keys (name_view c.args.name) (name_view q)
    (c.in_ok-insert.ensures.updates.0 q)
