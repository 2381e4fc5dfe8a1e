use Rattle.std.proofs.Common.{◌-◌, ◌+◌, ◌≤◌, ◌∙◌, ◌↔◌, ℕ, Bool, IsTrue, Option, length, is_some, refl, sym, ap, subst, arith}
use Rattle.std.specs.Borrow.{Bor}
use Rattle.std.proofs.lemmas.Option.{slice_get-map}
use Rattle.std.specs.Option.{option_map}
use Rattle.std.specs.Map.{values_of}
use Rattle.std.specs.FinMap as map
use Rattle.hm_outside.specs.OwnParts.{OwnParts}
use Rattle.hm_outside.specs.PageRuns.{IsHeld}
use Rattle.hm_outside.specs.RunLists.{CanWrite}
use Rattle.hm_outside.proofs.Indices.{can_is, held_is, here_told}
use Rattle.hm_outside.proofs.Tables.{ranged, range_found, filled_in, own_in, own_set_in, lent_some, lent_is}
use Rattle.hm_outside.proofs.OwnEdits.{runs_is, own_is}
use Rattle.hm_outside.proofs.run_map.RunMap.fill.Goals as goal

pub returns-in_default-clause-held : goal.returns-in_default-clause-held
returns-in_default-clause-held g c =
    subst (λ (o : Option (Bor g.row.R.Denot)). IsTrue (is_some o) ↔ IsHeld c.args.self.now.runs c.args.addr c.args.len) c.in_default.is
    (held_is g.R.HasPageRun.entry c.self.inside.runs.entries c.args.self.now.runs c.args.addr c.args.len c.run_of.result (runs_is c.self.view_is) c.self.invariant c.run_of.ensures.run c.run_of.ensures.nowhere)

pub returns-clause-held : goal.returns-clause-held
returns-clause-held g c =
    subst (λ (o : Option (Bor g.row.R.Denot)). IsTrue (is_some o) ↔ IsHeld c.args.self.now.runs c.args.addr c.args.len) c.in-Some.is
    (held_is g.R.HasPageRun.entry c.self.inside.runs.entries c.args.self.now.runs c.args.addr c.args.len c.run_of.result (runs_is c.self.view_is) c.self.invariant c.run_of.ensures.run c.run_of.ensures.nowhere)

pub unwrap-run-requires : goal.unwrap-run-requires
unwrap-run-requires g c =
    let entry = g.R.HasPageRun.entry in
    let runs = c.self.inside.runs.entries in
    let x = c.in-Some.found.now in
    let h = ranged entry runs c.args.addr c.args.len c.run_of.result c.in-Some.found c.in-Some.is c.run_of.ensures.run in
    lent_some entry runs c.first-first.result c.get_mut.result x (range_found entry runs c.args.addr c.args.len c.first-first.result x c.self.invariant h c.first-first.ensures) c.get_mut.ensures.value

pub overflow_sub-addr : goal.overflow_sub-addr
overflow_sub-addr g c =
    let h = ranged g.R.HasPageRun.entry c.self.inside.runs.entries c.args.addr c.args.len c.run_of.result c.in-Some.found c.in-Some.is c.run_of.ensures.run in
    omega (arith, h.lies.from, c.first-first.ensures)

pub fill-requires : goal.fill-requires
fill-requires g c =
    let entry = g.R.HasPageRun.entry in
    let runs = c.self.inside.runs.entries in
    let x = c.in-Some.found.now in
    let first = c.first-first.result in
    let h = ranged entry runs c.args.addr c.args.len c.run_of.result c.in-Some.found c.in-Some.is c.run_of.ensures.run in
    let is = lent_is entry runs first c.get_mut.result c.unwrap-run.result x (range_found entry runs c.args.addr c.args.len first x c.self.invariant h c.first-first.ensures) c.get_mut.ensures.value c.unwrap-run.ensures in
    subst (λ (r : g.row.R.Denot). c.args.addr - first + c.args.len ≤ length (entry r).1) (sym is) (omega (arith, c.first-first.ensures, h.lies.from, h.lies.to))

pub invariant_of-self : goal.invariant_of-self
invariant_of-self g c =
    let entry = g.R.HasPageRun.entry in
    let runs = c.self.inside.runs.entries in
    let x = c.in-Some.found.now in
    let first = c.first-first.result in
    let h = ranged entry runs c.args.addr c.args.len c.run_of.result c.in-Some.found c.in-Some.is c.run_of.ensures.run in
    let is = lent_is entry runs first c.get_mut.result c.unwrap-run.result x (range_found entry runs c.args.addr c.args.len first x c.self.invariant h c.first-first.ensures) c.get_mut.ensures.value c.unwrap-run.ensures in
    let can = subst (λ (o : Option (Bor g.row.R.Denot)). IsTrue (is_some o) → CanWrite c.args.self.now.runs c.args.addr c.args.len) c.in-Some.is
    (can_is entry runs c.args.self.now.runs c.args.addr c.args.len c.run_of.result (runs_is c.self.view_is) c.self.invariant c.run_of.ensures.run c.run_of.ensures.nowhere).0 refl in
    (filled_in entry runs _ c.args.self.now.runs c.args.addr c.args.len first c.args.byte x c.unwrap-run.result.now c.fill.new.self c.self.invariant (runs_is c.self.view_is) can h is c.first-first.ensures c.fill.ensures.first c.fill.ensures.bytes
    (c.get_mut.follows.holds c.fill.new.self).0).0

pub returns-clause-filled : goal.returns-clause-filled
returns-clause-filled g c _ =
    let entry = g.R.HasPageRun.entry in
    let runs = c.self.inside.runs.entries in
    let x = c.in-Some.found.now in
    let first = c.first-first.result in
    let h = ranged entry runs c.args.addr c.args.len c.run_of.result c.in-Some.found c.in-Some.is c.run_of.ensures.run in
    let is = lent_is entry runs first c.get_mut.result c.unwrap-run.result x (range_found entry runs c.args.addr c.args.len first x c.self.invariant h c.first-first.ensures) c.get_mut.ensures.value c.unwrap-run.ensures in
    let can = subst (λ (o : Option (Bor g.row.R.Denot)). IsTrue (is_some o) → CanWrite c.args.self.now.runs c.args.addr c.args.len) c.in-Some.is
    (can_is entry runs c.args.self.now.runs c.args.addr c.args.len c.run_of.result (runs_is c.self.view_is) c.self.invariant c.run_of.ensures.run c.run_of.ensures.nowhere).0 refl in
    (filled_in entry runs _ c.args.self.now.runs c.args.addr c.args.len first c.args.byte x c.unwrap-run.result.now c.fill.new.self c.self.invariant (runs_is c.self.view_is) can h is c.first-first.ensures c.fill.ensures.first c.fill.ensures.bytes
    (c.get_mut.follows.holds c.fill.new.self).0).1

pub returns-clause-own : goal.returns-clause-own
returns-clause-own g c _ =
    let entry = g.R.HasPageRun.entry in
    let own = g.R.HasPageRun.own in
    let filled = g.R.HasPageRun.own_filled in
    let runs = c.self.inside.runs.entries in
    let kept = c.args.self.now in
    let x = c.in-Some.found.now in
    let first = c.first-first.result in
    let w = c.fill.new.self in
    let h = ranged entry runs c.args.addr c.args.len c.run_of.result c.in-Some.found c.in-Some.is c.run_of.ensures.run in
    let is = lent_is entry runs first c.get_mut.result c.unwrap-run.result x (range_found entry runs c.args.addr c.args.len first x c.self.invariant h c.first-first.ensures) c.get_mut.ensures.value c.unwrap-run.ensures in
    let same_first = c.fill.ensures.first ∙ ap (λ (r : g.row.R.Denot). (entry r).0) is in
    record {
      first = (entry x).0;
      bytes = (entry x).1;
      is_run = here_told entry (values_of runs) kept.runs h.index (entry x) c.self.invariant.ordered (runs_is c.self.view_is) (slice_get-map entry (values_of runs) h.index ∙ ap (λ (o : Option g.row.R.Denot). option_map entry o) h.here);
      lies = h.lies;
      before = own x;
      had = ap (λ (m : OwnParts). map.get m (entry x).0) (sym (own_is c.self.view_is)) ∙ own_in entry own runs h.index x c.self.invariant h.here;
      after = own w;
      is_filled = subst (λ (p : g.row.R.Denot × ℕ). filled (own p.0) (c.args.addr - p.1) c.args.len (own w)) (λ i. (is i, c.first-first.ensures i)) c.fill.ensures.own;
      value = own_set_in entry own runs _ h.index first x w c.self.invariant h.here (sym c.first-first.ensures) same_first (c.get_mut.follows.holds w).0
          ∙ ap (λ (m : OwnParts). map.insert m first (own w)) (own_is c.self.view_is)
          ∙ ap (λ (n : ℕ). map.insert kept.own n (own w)) c.first-first.ensures;
    }
