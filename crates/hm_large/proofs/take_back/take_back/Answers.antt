use Rattle.std.proofs.Common.{◌≡◌, ◌+◌, ◌-◌, ◌==◌, ℕ, true, false, cond, length, Option, Some, None, refl, sym, ◌∙◌, ap, subst, arith}
use Rattle.std.specs.Option.{IfSome}
use Rattle.std.specs.FinMap as map
use Rattle.std.proofs.lemmas.Bool.{le-ltb, lt-ltb}
use Rattle.hm_quarantine.specs.LookingBack.{kept_after}
use Rattle.hm_quarantine.specs.Quarantine.{Kept, IsArrayIndex}
use Rattle.hm_quarantine.proofs.Passes.{length_array}
use Rattle.hm_region_table.specs.declared.entry.Block.{Block as KeptBlock}
use Rattle.hm_large.specs.declared.store.Store.{Store}
use Rattle.hm_large_rules.specs.State.{is_quarantined, quarantined_below}
use Rattle.hm_large.specs.Kept.{kept_of}
use Rattle.hm_large.specs.Frees.{GoesBack, GaveBack, Frees}
use Rattle.hm_large.specs.declared.take_back.Freeing.{Freeing}
use Rattle.hm_large.proofs.Released.{table_left, frees_left, kept_live, same_block, owed_some, live_goes_back, quarantined_goes_back, holds_from, holds_table, holds_sound, quarantined_state, left_quarantined, frees_none, frees_some}
use Rattle.hm_large.proofs.take_back.take_back.Goals as goal

none_of : (o : Option ℕ) → ((x : ℕ) → o ≡ Some x → ⊥) → o ≡ None
none_of None none = refl
none_of (Some x) none = absurd (none x refl)

pub uncount-requires : goal.uncount-requires
uncount-requires c =
    λ fresh. let t = c.requires in
    let some = owed_some t.config t.s c.args.addr t.block t.sound t.live (sym (ap (λ (b : KeptBlock). b.failed) t.is) ∙ fresh) in
    omega (arith, some, t.shows.owed_is)

pub put_back-requires : goal.put_back-requires
put_back-requires c =
    let t = c.requires in
    subst (λ (k : Store). IfSome (map.get k.blocks.blocks c.args.addr) (GoesBack k.space c.args.addr)) (sym c.uncount.ensures.others)
    (live_goes_back t.config t.seed t.s c.args.store.now c.args.addr t.block t.valid t.sound t.shows t.live)

pub returns-then-block-ge-QUARANTINED_BELOW-clause-frees : goal.returns-then-block-ge-QUARANTINED_BELOW-clause-frees
returns-then-block-ge-QUARANTINED_BELOW-clause-frees c =
    λ config n s x sound shows live. let t = c.requires in
    let old = c.args.store.now in
    let u = c.uncount.new.store in
    let new = c.put_back.new.store in
    let a = c.args.addr in
    let is : c.args.block ≡ kept_of false x = same_block config n s old a x c.args.block shows live (kept_live t.config t.seed t.s old a t.block t.shows t.live ∙ ap Some (sym t.is)) in
    let great : is_quarantined x ≡ false = le-ltb x.size quarantined_below (omega (arith, ap (λ (b : KeptBlock). b.size) is, c.if-block-ge-QUARANTINED_BELOW.true)) in
    let gave : GaveBack old.space new.space a (kept_of false x) =
    subst (λ o. IfSome o (GaveBack old.space new.space a)) (kept_live config n s old a x shows live)
    (subst (λ (k : Store). IfSome (map.get k.blocks.blocks a) (GaveBack k.space new.space a)) c.uncount.ensures.others c.put_back.ensures.gave) in
    let table = table_left config n s old new a x sound live shows
    (λ q. c.put_back.ensures.blocks_are q ∙ ap (λ (k : Store). cond (a == q) None (map.get k.blocks.blocks q)) c.uncount.ensures.others)
    gave
    ((ap (λ (k : Store). k.owed) c.put_back.ensures.others) ∙ (ap (λ (k : Store). k.owed) c.uncount.ensures.others ∙ ap (λ (b : KeptBlock). old.owed - cond b.failed 0 1) is)) in
    frees_left config n s old new a x sound live great shows table ((ap (λ (k : Store). k.quarantine) c.put_back.ensures.others) ∙ ap (λ (k : Store). k.quarantine) c.uncount.ensures.others) ((ap (λ (k : Store). k.words) c.put_back.ensures.others) ∙ ap (λ (k : Store). k.words) c.uncount.ensures.others)

pub pass-released-requires : goal.pass-released-requires
pass-released-requires c =
    let t = c.requires in
    let same : c.replace.new.store.quarantine ≡ kept_after 256 1024 t.s.frees = ap (λ (k : Store). k.quarantine) c.replace.ensures.others ∙ (ap (λ (k : Store). k.quarantine) c.uncount.ensures.others ∙ t.shows.quarantine) in
    let count : length c.replace.new.store.quarantine.array ≡ 256 = ap (λ (q : Kept). length q.array) same ∙ length_array 256 1024 t.s.frees in
    subst (λ (m : ℕ). IsArrayIndex m c.draw-word.result.1) (sym count) c.draw-word.ensures.below

pub put_back-requires-in-Some : goal.put_back-requires-in-Some
put_back-requires-in-Some c =
    let t = c.requires in
    let config = t.config in
    let n = t.seed in
    let s = t.s in
    let x = t.block in
    let shows = t.shows in
    let live = t.live in
    let sound = t.sound in
    let old = c.args.store.now in
    let a = c.args.addr in
    let is : c.args.block ≡ kept_of false x = same_block config n s old a x c.args.block shows live (kept_live t.config t.seed t.s old a t.block t.shows t.live ∙ ap Some (sym t.is)) in
    let small : is_quarantined x ≡ true = lt-ltb x.size quarantined_below (omega (arith, ap (λ (b : KeptBlock). b.size) is, c.if-block-ge-QUARANTINED_BELOW.false)) in
    let holds = holds_from old c.uncount.new.store c.replace.new.store a c.draw-word.result x c.args.block c.draw-word.new.self c.uncount.ensures.others is c.draw-word.ensures.drawn c.draw-word.ensures.below c.draw-word.ensures.taken c.replace.ensures.blocks c.replace.ensures.others in
    let word = c.draw-word.result.0 in
    let place = c.draw-word.result.1 in
    let y = left_quarantined config n s old c.replace.new.store a word place x c.in-Some.left sound live shows holds c.in-Some.ensures.released in
    quarantined_goes_back config (quarantined_state config n s old c.replace.new.store a word place x) c.replace.new.store c.in-Some.left y.0 t.valid (holds_sound config n s old c.replace.new.store a word place x sound live small) (holds_table config n s old c.replace.new.store a word place x sound live shows holds) y.1

pub returns-in-Some-clause-frees : goal.returns-in-Some-clause-frees
returns-in-Some-clause-frees c =
    λ config n s x sound shows live. let t = c.requires in
    let old = c.args.store.now in
    let a = c.args.addr in
    let is : c.args.block ≡ kept_of false x = same_block config n s old a x c.args.block shows live (kept_live t.config t.seed t.s old a t.block t.shows t.live ∙ ap Some (sym t.is)) in
    let small : is_quarantined x ≡ true = lt-ltb x.size quarantined_below (omega (arith, ap (λ (b : KeptBlock). b.size) is, c.if-block-ge-QUARANTINED_BELOW.false)) in
    let holds = holds_from old c.uncount.new.store c.replace.new.store a c.draw-word.result x c.args.block c.draw-word.new.self c.uncount.ensures.others is c.draw-word.ensures.drawn c.draw-word.ensures.below c.draw-word.ensures.taken c.replace.ensures.blocks c.replace.ensures.others in
    frees_some config n s old c.replace.new.store a c.draw-word.result.0 c.draw-word.result.1 x c.pass-released.new.self c.in-Some.left c.put_back-in-Some.new.store sound live small shows holds c.in-Some.ensures.released c.in-Some.ensures.kept
    c.put_back-in-Some.ensures.blocks_are c.put_back-in-Some.ensures.gave (ap (λ (k : Store). k.quarantine) c.put_back-in-Some.ensures.others) (ap (λ (k : Store). k.words) c.put_back-in-Some.ensures.others) (ap (λ (k : Store). k.owed) c.put_back-in-Some.ensures.others)

pub returns-in_default-clause-frees : goal.returns-in_default-clause-frees
returns-in_default-clause-frees c =
    λ config n s x sound shows live. let t = c.requires in
    let old = c.args.store.now in
    let a = c.args.addr in
    let is : c.args.block ≡ kept_of false x = same_block config n s old a x c.args.block shows live (kept_live t.config t.seed t.s old a t.block t.shows t.live ∙ ap Some (sym t.is)) in
    let small : is_quarantined x ≡ true = lt-ltb x.size quarantined_below (omega (arith, ap (λ (b : KeptBlock). b.size) is, c.if-block-ge-QUARANTINED_BELOW.false)) in
    let holds = holds_from old c.uncount.new.store c.replace.new.store a c.draw-word.result x c.args.block c.draw-word.new.self c.uncount.ensures.others is c.draw-word.ensures.drawn c.draw-word.ensures.below c.draw-word.ensures.taken c.replace.ensures.blocks c.replace.ensures.others in
    let stays : Freeing → Type 0 = Frees config n s a x (record c.replace.new.store { quarantine = c.pass-released.new.self }) in
    subst (λ (o : Option ℕ). stays (record { released = o; word = Some c.draw-word.result.0 }))
    (sym (none_of c.pass-released.result c.in_default.not-Some))
    (frees_none config n s old c.replace.new.store a c.draw-word.result.0 c.draw-word.result.1 x c.pass-released.new.self sound live small shows holds c.in_default.ensures.released c.in_default.ensures.kept)

pub returns-then-block-ge-QUARANTINED_BELOW-clause-owed : goal.returns-then-block-ge-QUARANTINED_BELOW-clause-owed
returns-then-block-ge-QUARANTINED_BELOW-clause-owed c = ap (λ (n : ℕ). n + cond c.args.block.failed 0 1) (ap (λ (k : Store). k.owed) c.put_back.ensures.others) ∙ c.uncount.ensures.owed

pub returns-in-Some-clause-owed : goal.returns-in-Some-clause-owed
returns-in-Some-clause-owed c = ap (λ (n : ℕ). n + cond c.args.block.failed 0 1) ((ap (λ (k : Store). k.owed) c.put_back-in-Some.ensures.others) ∙ ap (λ (k : Store). k.owed) c.replace.ensures.others) ∙ c.uncount.ensures.owed

pub returns-in_default-clause-owed : goal.returns-in_default-clause-owed
returns-in_default-clause-owed c = ap (λ (n : ℕ). n + cond c.args.block.failed 0 1) (ap (λ (k : Store). k.owed) c.replace.ensures.others) ∙ c.uncount.ensures.owed
