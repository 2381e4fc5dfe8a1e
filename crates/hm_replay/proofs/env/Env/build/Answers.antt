use Rattle.std.proofs.Common.{ℕ, List, Option, ap}
use Rattle.hm_trace.specs.declared.names.Name.{Name}
use Rattle.hm_replay.specs.Names.{held}
use Rattle.hm_replay.specs.Rooms.{set_in}
use Rattle.hm_replay.proofs.env.Env.build.Goals as goal

pub returns : goal.returns
returns c = ap (λ (es : List (Name × Option ℕ)). held (set_in es)) c.new.ensures.empty
