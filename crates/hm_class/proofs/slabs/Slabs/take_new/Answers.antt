use Rattle.std.proofs.Common.{rules, ◌≡◌, ℕ, ◌∙◌, List, is_some, true, sym, ap, subst}
use Rattle.hm_slab_lists.specs.declared.slab_lists.Place.TheVariants.{Retired, Fresh, Exhausted}
use Rattle.hm_slab_lists.specs.Table.{Table}
use Rattle.hm_class.specs.Slabs.{Slabs, IsFiled, uses_of, numbers_in, slabs_of, taken_of}
use Rattle.hm_class.specs.Uses.{Uses, slab_in, canary_at, taken_uses, with_open, live_count}
use Rattle.hm_class.proofs.Listing.{uses_reopened, filed_reopened, uses_opened, filed_opened}
use Rattle.hm_class.proofs.SourceOf.{opens_by}
use Rattle.hm_class.proofs.Tables.{meta_there}
use Rattle.hm_class.proofs.Used.{live_opened}
use Rattle.hm_class.proofs.slabs.Slabs.take_new.Goals as goal

-- the slots of a table, once a slab of it is opened
abbrev taken_in : Table → Uses
taken_in t = taken_uses (numbers_in t) t.lists.retired (uses_of t)

abbrev opened_in : Table → ℕ → Uses
opened_in t n = with_open (taken_in t) n (canary_at (uses_of t) n)

-- the slab that comes next, as the table has it, is among them
there : (t : Table) (n : ℕ) (k : Slabs) → slabs_of t ≡ k → is_some (slab_in (taken_of k) n) ≡ true → is_some (slab_in (taken_in t) n) ≡ true
there t n k view some = ap (λ (k : Slabs). is_some (slab_in (taken_of k) n)) view ∙ some

reopened : (c : goal.After-open_retired) → uses_of c.open_retired.new.self ≡ opened_in c.self.inside.lists c.args.slab
reopened c =
    let t = c.self.inside.lists in
    let r = opens_by c.self.inside.lists c.args.slab c.args.self.now c.self.view_is c.requires.next.0 c.requires.next.1 (Retired c.in-Retired.field-0) (sym c.in-Retired.is ∙ c.next_source.ensures) in
    let some = ap (λ (l : List ℕ). is_some (slab_in (taken_uses (numbers_in t) l (uses_of t)) c.args.slab)) (sym r.1.is) ∙ there t c.args.slab c.args.self.now c.self.view_is c.requires.there in
    let slab = meta_there t c.args.slab c.self.invariant.0 some in
    ap uses_of c.open_retired.ensures ∙ uses_reopened t c.args.slab slab.0 c.self.invariant.0 slab.1
    ∙ ap (λ (l : List ℕ). with_open (taken_uses (numbers_in t) l (uses_of t)) c.args.slab (canary_at (uses_of t) c.args.slab)) (sym r.1.is)

opened : (c : goal.After-open_fresh) → uses_of c.open_fresh.new.self ≡ opened_in c.self.inside.lists c.args.slab
opened c =
    let t = c.self.inside.lists in
    let r = opens_by c.self.inside.lists c.args.slab c.args.self.now c.self.view_is c.requires.next.0 c.requires.next.1 (Fresh c.in-Fresh.field-0) (sym c.in-Fresh.is ∙ c.next_source.ensures) in
    ap uses_of c.open_fresh.ensures ∙ uses_opened t c.args.slab c.self.invariant.0 r.1.is
    ∙ ap (λ (l : List ℕ). with_open (taken_uses (numbers_in t) l (uses_of t)) c.args.slab (canary_at (uses_of t) c.args.slab)) (sym r.1.none)

pub invariant_of-self : goal.invariant_of-self
invariant_of-self c =
    let t = c.self.inside.lists in
    let r = opens_by c.self.inside.lists c.args.slab c.args.self.now c.self.view_is c.requires.next.0 c.requires.next.1 (Retired c.in-Retired.field-0) (sym c.in-Retired.is ∙ c.next_source.ensures) in
    let some = there t c.args.slab c.args.self.now c.self.view_is c.requires.there in
    let slab = meta_there t c.args.slab c.self.invariant.0 (ap (λ (l : List ℕ). is_some (slab_in (taken_uses (numbers_in t) l (uses_of t)) c.args.slab)) (sym r.1.is) ∙ some) in (
      subst IsFiled (sym c.open_retired.ensures) (filed_reopened t c.args.slab slab.0 c.self.invariant.0 slab.1),
      c.self.invariant.1 ∙ sym (ap live_count (reopened c) ∙ live_opened (numbers_in t) t.lists.retired (uses_of t) c.args.slab (canary_at (uses_of t) c.args.slab) some),
    )

pub open_fresh-requires-clause-next : goal.open_fresh-requires-clause-next
open_fresh-requires-clause-next c =
    let r = opens_by c.self.inside.lists c.args.slab c.args.self.now c.self.view_is c.requires.next.0 c.requires.next.1 (Fresh c.in-Fresh.field-0) (sym c.in-Fresh.is ∙ c.next_source.ensures) in
    sym c.next_source.ensures ∙ c.in-Fresh.is ∙ ap (λ (m : ℕ). Fresh m) r.0

pub invariant_of-self-in-Fresh : goal.invariant_of-self-in-Fresh
invariant_of-self-in-Fresh c =
    let t = c.self.inside.lists in
    let r = opens_by c.self.inside.lists c.args.slab c.args.self.now c.self.view_is c.requires.next.0 c.requires.next.1 (Fresh c.in-Fresh.field-0) (sym c.in-Fresh.is ∙ c.next_source.ensures) in (
      subst IsFiled (sym c.open_fresh.ensures) (filed_opened t c.args.slab c.self.invariant.0 r.1.is),
      c.self.invariant.1 ∙ sym (ap live_count (opened c) ∙ live_opened (numbers_in t) t.lists.retired (uses_of t) c.args.slab (canary_at (uses_of t) c.args.slab)
          (there t c.args.slab c.args.self.now c.self.view_is c.requires.there)),
    )

pub unreachable-requires-in-Exhausted : goal.unreachable-requires-in-Exhausted
unreachable-requires-in-Exhausted c = opens_by c.self.inside.lists c.args.slab c.args.self.now c.self.view_is c.requires.next.0 c.requires.next.1 Exhausted (sym c.in-Exhausted.is ∙ c.next_source.ensures)

pub returns-in-Retired : goal.returns-in-Retired
returns-in-Retired c = record {
  slabs = reopened c ∙ ap (λ (k : Slabs). with_open (taken_of k) c.args.slab (canary_at k.slabs c.args.slab)) c.self.view_is;
  lists = search rules;
  parking = search rules;
  numbers = search rules;
}

pub returns-in-Fresh : goal.returns-in-Fresh
returns-in-Fresh c = record {
  slabs = opened c ∙ ap (λ (k : Slabs). with_open (taken_of k) c.args.slab (canary_at k.slabs c.args.slab)) c.self.view_is;
  lists = search rules;
  parking = search rules;
  numbers = search rules;
}
