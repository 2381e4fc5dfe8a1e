use Rattle.std.proofs.Common.{sym, subst}
use Rattle.hm_model.specs.Served.{ServesCall}
use Rattle.hm_class.specs.Calls.{class_regions}
use Rattle.hm_large.specs.Calls.{large_regions}
use Rattle.hm_heap.specs.Requests.{call_of}
use Rattle.hm_heap.proofs.ClassRegions.{class_serves}
use Rattle.hm_heap.proofs.LargeRegions.{large_serves}
use Rattle.hm_heap.proofs.region.Region.serve.Goals as goal

pub returns-in-Class : goal.returns-in-Class
returns-in-Class g c = record {
  served = class_serves g.P.Pages c.in-Class.heap c.serve_class.new.heap (sym c.in-Class.is)
      (subst (λ r. ServesCall (class_regions g.P.Pages) c.args.who (call_of c.args.request) r c.serve_class.new.heap c.serve_class.result) c.deref_mut.ensures.value c.serve_class.ensures.served);
}

pub returns-in-Large : goal.returns-in-Large
returns-in-Large g c = record {
  served = large_serves g.P.Pages c.in-Large.heap c.serve_large.new.heap (sym c.in-Large.is)
      (subst (λ r. ServesCall (large_regions g.P.Pages) c.args.who (call_of c.args.request) r c.serve_large.new.heap c.serve_large.result) c.deref_mut-in-Large.ensures.value c.serve_large.ensures.served);
}
