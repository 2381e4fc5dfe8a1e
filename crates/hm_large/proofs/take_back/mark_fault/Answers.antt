use Rattle.std.proofs.Common.{◌≡◌, ◌==◌, ◌+◌, true, false, cond, Some, sym, ◌∙◌, ap, subst, arith}
use Rattle.std.specs.FinMap as map
use Rattle.hm_region_table.specs.declared.entry.Block.{Block as KeptBlock}
use Rattle.hm_large.specs.declared.store.Store.{Store}
use Rattle.hm_large.specs.Kept.{kept_of}
use Rattle.hm_large.proofs.Shown.{shows_marked}
use Rattle.hm_large.proofs.Released.{kept_live, same_block, owed_some}
use Rattle.hm_large.proofs.take_back.mark_fault.Goals as goal

pub uncount-requires : goal.uncount-requires
uncount-requires c =
    λ fresh. let t = c.requires in
    let some = owed_some t.config t.s c.args.addr t.block t.sound t.live (sym (ap (λ (b : KeptBlock). b.failed) t.is) ∙ fresh) in
    omega (arith, some, t.shows.owed_is)

pub returns-clause-owed : goal.returns-clause-owed
returns-clause-owed c = ap (λ (k : Store). k.owed + cond c.args.block.failed 0 1) c.replace.ensures.others ∙ c.uncount.ensures.owed

pub returns-clause-shows : goal.returns-clause-shows
returns-clause-shows c =
    λ config n s x sound shows live. let t = c.requires in
    let old = c.args.store.now in
    let a = c.args.addr in
    let u = c.uncount.new.store in
    let is : c.args.block ≡ kept_of false x = same_block config n s old a x c.args.block shows live (kept_live t.config t.seed t.s old a t.block t.shows t.live ∙ ap Some (sym t.is)) in
    shows_marked config n s old c.replace.new.store a x sound live shows
    (λ q. c.replace.ensures.blocks q ∙ (ap (λ (b : KeptBlock). cond (a == q) (Some (record b { failed = true })) (map.get u.blocks.blocks q)) is ∙ ap (λ (k : Store). cond (a == q) (Some (record (kept_of false x) { failed = true })) (map.get k.blocks.blocks q)) c.uncount.ensures.others))
    (ap (λ (k : Store). k.space) c.replace.ensures.others ∙ ap (λ (k : Store). k.space) c.uncount.ensures.others)
    (ap (λ (k : Store). k.quarantine) c.replace.ensures.others ∙ ap (λ (k : Store). k.quarantine) c.uncount.ensures.others)
    (ap (λ (k : Store). k.words) c.replace.ensures.others ∙ ap (λ (k : Store). k.words) c.uncount.ensures.others)
    (subst (λ (b : KeptBlock). c.replace.new.store.owed + cond b.failed 0 1 ≡ old.owed) is (returns-clause-owed c))
