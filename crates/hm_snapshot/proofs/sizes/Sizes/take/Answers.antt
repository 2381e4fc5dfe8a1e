use Rattle.std.proofs.Common.{rules, ◌≡◌, ◌+◌, ℕ, ap, sym, ◌∙◌, subst, arith}
use Rattle.std.specs.Prelude.{Option}
use Rattle.std.specs.Option.{unwrap_or}
use Rattle.std.specs.Ordering.{nat_cmp}
use Rattle.std.specs.BTreeMap.{is_at}
use Rattle.std.specs.Map.{remove_entry}
use Rattle.hm_model.specs.Changes.{total_of, size_at}
use Rattle.hm_snapshot.specs.Shown.{AreSmall}
use Rattle.hm_snapshot.proofs.Totals.{size_or, total_gone, small_gone}
use Rattle.hm_snapshot.proofs.sizes.Sizes.take.Goals as goal

pub overflow_sub-self : goal.overflow_sub-self
overflow_sub-self c = let es = c.self.inside.map.entries in
    let t : c.self.inside.total ≡ total_of es = c.self.invariant.0 in
    let was : c.remove-old.result ≡ size_at es c.args.addr = search rules in
    let o : c.from.result ≡ size_or es c.args.addr = c.from.ensures ∙ (c.unwrap_or.ensures ∙ ap (λ (z : Option ℕ). unwrap_or z 0) was) in
    let e : total_of (remove_entry (is_at (nat_cmp c.args.addr)) es) + size_or es c.args.addr ≡ total_of es = total_gone es c.args.addr in omega arith

pub invariant_of-self : goal.invariant_of-self
invariant_of-self c = let es = c.self.inside.map.entries in
    let new : c.remove-old.new.self.entries ≡ remove_entry (is_at (nat_cmp c.args.addr)) es = search rules in
    let t : c.self.inside.total ≡ total_of es = c.self.invariant.0 in
    let was : c.remove-old.result ≡ size_at es c.args.addr = search rules in
    let o : c.from.result ≡ size_or es c.args.addr = c.from.ensures ∙ (c.unwrap_or.ensures ∙ ap (λ (z : Option ℕ). unwrap_or z 0) was) in
    let e : total_of (remove_entry (is_at (nat_cmp c.args.addr)) es) + size_or es c.args.addr ≡ total_of es = total_gone es c.args.addr in
    let n : total_of c.remove-old.new.self.entries ≡ total_of (remove_entry (is_at (nat_cmp c.args.addr)) es) = ap total_of new in
    (omega arith, subst AreSmall (sym new) (small_gone es c.args.addr c.self.invariant.1))
