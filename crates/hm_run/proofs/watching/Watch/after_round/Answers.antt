use Rattle.std.proofs.Common.{ℕ, [], ◌∷◌, ◌++◌, length, length-append, ◌∙◌, ap, arith}
use Rattle.hm_heap.specs.Calls.{large_index}
use Rattle.hm_heap.specs.Passes.{PassView}
use Rattle.hm_run.specs.Watches.{large_seen}
use Rattle.hm_run.proofs.Tracking.{all_ok, each_ok, follows_on, has_looked, looked_more, own_sum, seen_before}
use Rattle.hm_run.proofs.watching.Watch.after_round.Goals as goal

pub large_changes-requires-clause-from : goal.large_changes-requires-clause-from
large_changes-requires-clause-from g c κs within t =
    let index : ℕ = large_index c.args.heap.now.config in
    let front = c.requires.front in
    let known = ap (λ es. length es) (seen_before c.args.root.now index t c.requires.index) in
    let all = ap (λ es. length es) front.begins.1 in
    omega (arith, known, all, length-append front.front front.begins.0, front.follows.upto)

pub returns-in_err-changes-clause-looked : goal.returns-in_err-changes-clause-looked
returns-in_err-changes-clause-looked g c =
    let e = c.in_err-changes.ensures in
    has_looked c.args.heap.now.config c.args.root.now c.large_changes.new.pass c.args.self.now.upto _ e.same e.looked

pub count-requires : goal.count-requires
count-requires g c = record { none = c.requires.front.follows.none_waits }

pub returns-clause-looked : goal.returns-clause-looked
returns-clause-looked g c =
    let e = c.in_ok-changes.ensures in
    has_looked c.args.heap.now.config c.args.root.now c.large_changes.new.pass c.args.self.now.upto _ e.same e.looked

pub returns-clause-follows : goal.returns-clause-follows
returns-clause-follows g c =
    let config = c.args.heap.now.config in
    let p : PassView = c.args.root.now in
    let q : PassView = c.large_changes.new.pass in
    let front = c.requires.front in
    let changes = c.in_ok-changes.changes in
    let more = looked_more p q (large_index config) c.args.self.now.upto changes front.front c.in_ok-changes.ensures.looked front.begins front.follows.upto in
    each_ok c.count.result
    (λ list waiting own upto. follows_on c.args.self.now c.count.new.self front.front (large_seen config q) changes.list.items front.follows more.1 list waiting own (upto ∙ more.0))
    c.count.ensures.list c.count.ensures.waiting c.count.ensures.own c.count.ensures.upto

pub returns-clause-totals : goal.returns-clause-totals
returns-clause-totals g c =
    let seen = large_seen c.args.heap.now.config c.large_changes.new.pass in
    all_ok c.count.result
    (λ follows totals same. totals ∙ ap (λ (n : ℕ). c.args.self.now.totals.items ++ n ∷ []) (own_sum c.count.new.self seen follows))
    (returns-clause-follows g c) c.count.ensures.totals c.count.ensures.totals
