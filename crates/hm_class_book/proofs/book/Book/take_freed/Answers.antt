use Rattle.std.proofs.Common.{◌≡◌, ◌+◌, ℕ, true, length, Option, sym, ◌∙◌, ap, subst, refl, arith, true≢false}
use Rattle.std.specs.Prelude.{IfSome}
use Rattle.hm_sizes.specs.Shapes.{slab_of}
use Rattle.hm_class_rules.specs.State.{State, is_empty, empty_slabs}
use Rattle.hm_class_rules.specs.Steps.{takes_back, releases, unparks, retires, purges}
use Rattle.hm_class_rules.specs.Rules.{Releases, Empties, surplus}
use Rattle.hm_class_book.specs.Book.{state_in, terms}
use Rattle.hm_class_book.proofs.Addresses.{place_below, usable_most}
use Rattle.hm_class_book.proofs.Frees.{counted, purged_below, freed_sound}
use Rattle.hm_class_book.proofs.book.Book.take_freed.Goals as goal

pub returns-then-not-may_free-clause-legal : goal.returns-then-not-may_free-clause-legal
returns-then-not-may_free-clause-legal c = (
  λ e. absurd (true≢false (sym e)),
  λ k. absurd (true≢false (sym (c.may_free.ensures.1 (k.block, k.size, k.canary refl, k.choices)) ∙ c.if-not-may_free.true)),
)

pub take_back-requires : goal.take_back-requires
take_back-requires c =
    let p = c.args.region.now.shape in
    let block = (c.may_free.ensures.0 c.if-not-may_free.false).0 in
    omega (arith, place_below p c.args.addr c.requires.kept.shape block.place, usable_most p c.requires.kept.shape)

pub returns-then-not-release-clause-legal : goal.returns-then-not-release-clause-legal
returns-then-not-release-clause-legal c =
    let p = c.args.region.now.shape in (
      λ e. absurd (true≢false (sym e)),
      λ k. absurd (true≢false (sym (c.release.ensures.may.1 (subst (λ (x : State). Releases p x c.args.choices.now.released) (sym c.in_ok-take_back.ensures) k.release)) ∙ c.if-not-release.true)),
    )

pub surplus-surplus-requires-clause-count : goal.surplus-surplus-requires-clause-count
surplus-surplus-requires-clause-count c =
    let p = c.args.region.now.shape in
    let o = c.args.choices.now.released in
    let s = state_in c.args.self.now in
    let block = (c.may_free.ensures.0 c.if-not-may_free.false).0 in
    let may : Releases p (takes_back p c.args.addr s) o = subst (λ (x : State). Releases p x o) c.in_ok-take_back.ensures (c.release.ensures.may.0 c.if-not-release.false) in
    let is : state_in c.release.new.self ≡ releases o (takes_back p c.args.addr s) = c.release.ensures.state c.if-not-release.false ∙ ap (releases o) c.in_ok-take_back.ensures in
    subst (λ (x : State). IfSome o (λ b. is_empty p x (slab_of p b) ≡ true → length (empty_slabs p x) ≡ c.args.others + 1)) (sym is)
    (counted p s c.args.addr o c.args.others c.requires.kept block.live may c.requires.count)

pub returns-then-not-may_empty-clause-legal : goal.returns-then-not-may_empty-clause-legal
returns-then-not-may_empty-clause-legal c =
    let p = c.args.region.now.shape in
    let t = terms c.args.region.now in
    let ch = c.args.choices.now in
    let s = state_in c.args.self.now in
    let is : state_in c.release.new.self ≡ releases ch.released (takes_back p c.args.addr s) = c.release.ensures.state c.if-not-release.false ∙ ap (releases ch.released) c.in_ok-take_back.ensures in (
      λ e. absurd (true≢false (sym e)),
      λ k. absurd (true≢false (sym (c.may_empty.ensures.1
          (subst (λ (o : Option ℕ). Empties t (state_in c.release.new.self) c.args.counts.0 c.args.counts.1 ch o) (sym c.surplus-surplus.ensures)
          (subst (λ (x : State). Empties t x c.args.counts.0 c.args.counts.1 ch (surplus p x ch.released)) (sym is) k.emptied)))
          ∙ c.if-not-may_empty.true)),
    )

pub purge-requires-clause-below : goal.purge-requires-clause-below
purge-requires-clause-below c =
    let p = c.args.region.now.shape in
    let t = terms c.args.region.now in
    let ch = c.args.choices.now in
    let s = state_in c.args.self.now in
    let block = (c.may_free.ensures.0 c.if-not-may_free.false).0 in
    let is : state_in c.release.new.self ≡ releases ch.released (takes_back p c.args.addr s) = c.release.ensures.state c.if-not-release.false ∙ ap (releases ch.released) c.in_ok-take_back.ensures in
    let emptied = subst (λ (x : State). Empties t x c.args.counts.0 c.args.counts.1 ch (surplus p x ch.released)) is
    (subst (λ (o : Option ℕ). Empties t (state_in c.release.new.self) c.args.counts.0 c.args.counts.1 ch o) c.surplus-surplus.ensures (c.may_empty.ensures.0 c.if-not-may_empty.false)) in
    purged_below t (releases ch.released (takes_back p c.args.addr s)) c.args.counts.0 c.args.counts.1 ch ch.released
    (surplus p (releases ch.released (takes_back p c.args.addr s)) ch.released) c.requires.kept.shape (freed_sound p s c.args.addr ch.released c.requires.kept.sound block.live) refl emptied

pub returns-clause-legal : goal.returns-clause-legal
returns-clause-legal c =
    let p = c.args.region.now.shape in
    let t = terms c.args.region.now in
    let ch = c.args.choices.now in
    let s = state_in c.args.self.now in
    let may = c.may_free.ensures.0 c.if-not-may_free.false in
    let is : state_in c.release.new.self ≡ releases ch.released (takes_back p c.args.addr s) = c.release.ensures.state c.if-not-release.false ∙ ap (releases ch.released) c.in_ok-take_back.ensures in
    let emptied = subst (λ (x : State). Empties t x c.args.counts.0 c.args.counts.1 ch (surplus p x ch.released)) is
    (subst (λ (o : Option ℕ). Empties t (state_in c.release.new.self) c.args.counts.0 c.args.counts.1 ch o) c.surplus-surplus.ensures (c.may_empty.ensures.0 c.if-not-may_empty.false)) in (
      λ e. record {
        block = may.0;
        size = may.1;
        canary = λ told. may.2;
        release = subst (λ (x : State). Releases p x ch.released) c.in_ok-take_back.ensures (c.release.ensures.may.0 c.if-not-release.false);
        emptied = emptied;
        choices = may.3;
      },
      λ k. refl,
    )

pub returns-clause-state : goal.returns-clause-state
returns-clause-state c = λ e.
    (let p = c.args.region.now.shape in
    let ch = c.args.choices.now in
    let is = c.release.ensures.state c.if-not-release.false ∙ ap (releases ch.released) c.in_ok-take_back.ensures in
    c.purge.ensures
    ∙ ap (purges p ch.purged) (c.in_ok-retire.ensures ∙ ap (retires ch.retired) (c.in_ok-unpark.ensures ∙ ap (unparks ch.unparked) is)))
