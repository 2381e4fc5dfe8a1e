use Rattle.std.proofs.Common.{◌∙◌, sym}
use Rattle.hm_model.specs.declared.answer.Answer.TheVariants.{TooLarge}
use Rattle.hm_model.specs.declared.entry.Call.TheVariants.{Allot}
use Rattle.hm_heap.specs.Plans.{Done, Part}
use Rattle.hm_heap.specs.Calls.{replied}
use Rattle.hm_heap.proofs.Answering.{allots_nowhere, allots_there, index_seen, tries_at_once}
use Rattle.hm_heap.proofs.heap.Heap.try_malloc.Goals as goal

pub returns-in_default : goal.returns-in_default
returns-in_default g c =
    let h = c.args.self.now in
    let p = c.args.pass.now in
    let kind = c.class_of-kind.result in
    let at = index_seen kind c.self.view_is c.pass.view_is c.index_for.ensures.index in
    record {
      served = record {
        plan = Done TooLarge;
        is = record { kind = kind; kind_is = c.class_of-kind.ensures; is = allots_nowhere h.config p.thread c.args.asked 1 kind (sym c.in_default.is ∙ at) };
        tried = tries_at_once h p c.args.step TooLarge c.requires.of tt;
      };
    }

pub returns : goal.returns
returns g c =
    let h = c.args.self.now in
    let p = c.args.pass.now in
    let kind = c.class_of-kind.result in
    let at = index_seen kind c.self.view_is c.pass.view_is c.index_for.ensures.index in
    record {
      served = record {
        plan = Part c.in-Some.index (Allot c.args.asked 1) replied;
        is = record { kind = kind; kind_is = c.class_of-kind.ensures; is = allots_there h.config p.thread c.args.asked c.in-Some.index kind (sym c.in-Some.is ∙ at) };
        tried = c.try_reply_of.ensures.tried;
      };
    }
