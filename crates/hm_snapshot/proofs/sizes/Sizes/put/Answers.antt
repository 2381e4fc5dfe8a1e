use Rattle.std.proofs.Common.{rules, ◌≡◌, ◌+◌, ◌<◌, ◌^◌, ℕ, ap, sym, ◌∙◌, subst, arith}
use Rattle.std.specs.Prelude.{Option}
use Rattle.std.specs.Option.{unwrap_or}
use Rattle.std.specs.Ordering.{nat_cmp}
use Rattle.std.specs.BTreeMap.{insert_entry}
use Rattle.hm_model.specs.Changes.{total_of, size_at}
use Rattle.hm_snapshot.specs.Shown.{AreSmall}
use Rattle.hm_snapshot.proofs.Totals.{size_or, total_put, total_fits, small_put}
use Rattle.hm_snapshot.proofs.sizes.Sizes.put.Goals as goal

pub overflow_add-self : goal.overflow_add-self
overflow_add-self c = let es = c.self.inside.map.entries in let size = c.args.size in
    let few : total_of es + size < 2 ^ 128 = total_fits es size c.self.invariant.1 (search rules) c.ranges.size.fits in
    let t : c.self.inside.total ≡ total_of es = c.self.invariant.0 in
    let f : c.from.result ≡ size = search rules in omega arith

pub overflow_sub-self : goal.overflow_sub-self
overflow_sub-self c = let es = c.self.inside.map.entries in let size = c.args.size in
    let t : c.self.inside.total ≡ total_of es = c.self.invariant.0 in
    let f : c.from.result ≡ size = search rules in
    let was : c.in-Ok.old ≡ size_at es c.args.addr = search rules in
    let o : c.from-2.result ≡ size_or es c.args.addr = c.from-2.ensures ∙ (c.unwrap_or.ensures ∙ ap (λ (z : Option ℕ). unwrap_or z 0) was) in
    let e : total_of (insert_entry nat_cmp es c.args.addr size) + size_or es c.args.addr ≡ total_of es + size = total_put es c.args.addr size (search rules) in omega arith

pub invariant_of-self-2 : goal.invariant_of-self-2
invariant_of-self-2 c = let es = c.self.inside.map.entries in let size = c.args.size in
    let new : c.insert.new.self.entries ≡ insert_entry nat_cmp es c.args.addr size = search rules in
    let t : c.self.inside.total ≡ total_of es = c.self.invariant.0 in
    let f : c.from.result ≡ size = search rules in
    let was : c.in-Ok.old ≡ size_at es c.args.addr = search rules in
    let o : c.from-2.result ≡ size_or es c.args.addr = c.from-2.ensures ∙ (c.unwrap_or.ensures ∙ ap (λ (z : Option ℕ). unwrap_or z 0) was) in
    let e : total_of (insert_entry nat_cmp es c.args.addr size) + size_or es c.args.addr ≡ total_of es + size = total_put es c.args.addr size (search rules) in
    let n : total_of c.insert.new.self.entries ≡ total_of (insert_entry nat_cmp es c.args.addr size) = ap total_of new in
    (omega arith, subst AreSmall (sym new) (small_put es c.args.addr size c.self.invariant.1 c.ranges.size.fits))
