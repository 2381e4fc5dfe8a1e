use Rattle.std.proofs.Common.{◌≡◌, ℕ, List, length, None, subst, sym, ◌∙◌, ap, rules}
use Rattle.std.specs.Bool.{MatchBool}
use Rattle.std.specs.Vec.{with_items}
use Rattle.std.proofs.lemmas.List.{with_items_is}
use Rattle.hm_model.specs.Runs.{expand}
use Rattle.hm_large_rules.specs.Bytes.{first_trap, overlaid_blocks}
use Rattle.hm_large_book.specs.declared.blocks.LiveBlock.{LiveBlock}
use Rattle.hm_large_book.specs.Book.{blocks_in}
use Rattle.hm_large_book.proofs.bytes.write_live.Goals as goal

pub returns : goal.returns
returns c = λ config s sound guarded is.
    let long : length c.write.new.live ≡ c.args.live.now.len = search rules in
    let kept : (with_items c.args.live.now c.write.new.live).items ≡ c.write.new.live = with_items_is c.args.live.now c.write.new.live long in
    let writes : MatchBool c.write.result ((first_trap s.live c.args.addr (length (expand c.args.runs.now)) ≡ None) × (blocks_in c.write.new.live ≡ overlaid_blocks c.args.addr (expand c.args.runs.now) s.live))
    (first_trap s.live c.args.addr (length (expand c.args.runs.now)) ≡ None → ⊥) = c.write.ensures config s sound guarded (ap blocks_in c.deref_mut.ensures.value ∙ is) in
    subst (λ (l : List (ℕ × LiveBlock)). MatchBool c.write.result ((first_trap s.live c.args.addr (length (expand c.args.runs.now)) ≡ None) × (blocks_in l ≡ overlaid_blocks c.args.addr (expand c.args.runs.now) s.live))
    (first_trap s.live c.args.addr (length (expand c.args.runs.now)) ≡ None → ⊥)) (sym kept) writes
