use Rattle.std.proofs.Common.{◌≡◌, ◌==◌, ◌∙◌, false, None, Some, sym, arith}
use Rattle.hm_model.specs.declared.answer.Answer.TheVariants.{TooLarge, Outside}
use Rattle.hm_heap.specs.Plans.{Done}
use Rattle.hm_heap.specs.Calls.{moving_plan}
use Rattle.hm_heap.proofs.Answering.{answers_at_once, too_large, moves, index_seen, home_seen}
use Rattle.hm_heap.proofs.heap.Heap.realloc.Goals as goal

pub returns-in_default : goal.returns-in_default
returns-in_default g c =
    let h = c.args.self.now in
    let p = c.args.pass.now in
    let a = c.args.addr in
    let kind = c.class_of-kind.result in
    let at = index_seen kind c.self.view_is c.pass.view_is c.index_for.ensures.index in
    record {
      served = record {
        plan = Done TooLarge;
        is = too_large h.config p.thread a c.args.asked kind c.class_of-kind.ensures (sym c.in_default.is ∙ at);
        carried = answers_at_once h p c.args.step TooLarge c.requires.of tt;
      };
    }

pub returns-in-None : goal.returns-in-None
returns-in-None g c =
    let h = c.args.self.now in
    let p = c.args.pass.now in
    let a = c.args.addr in
    let kind = c.class_of-kind.result in
    let at = index_seen kind c.self.view_is c.pass.view_is c.index_for.ensures.index in
    let home = home_seen a c.self.view_is c.home_index.ensures.index in
    let some : (a == 0) ≡ false = grind (arith, c.if-addr-eq0.false) in
    record {
      served = record {
        plan = Done Outside;
        is = moves h.config p.thread a c.args.asked kind c.class_of-kind.ensures c.in-Some.index None (sym c.in-Some.is ∙ at) some (sym c.in-None.is ∙ home);
        carried = answers_at_once h p c.args.step Outside c.requires.of tt;
      };
    }

pub returns-in-Some-home_index : goal.returns-in-Some-home_index
returns-in-Some-home_index g c =
    let h = c.args.self.now in
    let p = c.args.pass.now in
    let a = c.args.addr in
    let kind = c.class_of-kind.result in
    let at = index_seen kind c.self.view_is c.pass.view_is c.index_for.ensures.index in
    let home = home_seen a c.self.view_is c.home_index.ensures.index in
    let some : (a == 0) ≡ false = grind (arith, c.if-addr-eq0.false) in
    let there = Some c.in-Some-home_index.home in
    record {
      served = record {
        plan = moving_plan h.config c.in-Some.index a c.args.asked kind there;
        is = moves h.config p.thread a c.args.asked kind c.class_of-kind.ensures c.in-Some.index there (sym c.in-Some.is ∙ at) some (sym c.in-Some-home_index.is ∙ home);
        carried = c.resize.ensures.carried;
      };
    }
