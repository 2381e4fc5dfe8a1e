-- A call that tries first, and waits only where the turn was not free.
use Rattle.std.proofs.Common.{◌≡◌, ◌==◌, true, ℕ, ◌<◌, List, [], length, slice_index_or, slice_set, Option, Some, None, Result, Ok, Err, IsOkAnd, refl, sym, ◌∙◌, ap, subst, true≢false}
use Rattle.std.specs.Prelude.{IfOk, MatchOption}
use Rattle.std.proofs.lemmas.Bool.{cond_both}
use Rattle.std.proofs.lemmas.List.{append-nil}
use Rattle.std.proofs.Math.Seq.{map-set_same}
use Rattle.hm_base.specs.declared.memory.NoMemory.{NoMemory}
use Rattle.hm_model.specs.declared.answer.Answer.{Answer}
use Rattle.hm_model.specs.declared.answer.Answer.TheVariants as answer
use Rattle.hm_model.specs.declared.entry.Call.{Call}
use Rattle.hm_model.specs.declared.entry.Entry.{Entry}
use Rattle.hm_model.specs.declared.entry.Reply.{Reply}
use Rattle.hm_model.specs.declared.entry.Who.{Who}
use Rattle.hm_sizes.specs.declared.class.Kind.{Kind}
use Rattle.hm_sizes.specs.declared.class.Kind.TheVariants.{Small, Large, TooLarge}
use Rattle.hm_sizes.specs.declared.config.Config.{Config}
use Rattle.hm_turn.specs.Histories.{StartsWith}
use Rattle.hm_turn.specs.Knowledge.{Knowledge, with_lost}
use Rattle.hm_turn.specs.Known.{Known}
use Rattle.hm_turn.proofs.Histories.{starts_itself}
use Rattle.hm_heap.specs.Calls.{replied, at_home, home_index, allot_plan, free_plan, IsMallocPlan}
use Rattle.hm_heap.specs.Passes.{PassView}
use Rattle.hm_heap.specs.Parts.{who_of, HasTried}
use Rattle.hm_heap.specs.Plans.{Plan, Done, Part, Follows, GoesOn, Tries}
use Rattle.hm_replay.specs.Uses.{Own}
use Rattle.hm_replay.specs.Steps.{Answers}
use Rattle.hm_replay.specs.Gains.{is_busy, mine_of, Gains, Grew, AllGrew}
use Rattle.hm_replay.proofs.Gaining.{all_grew_one, all_grew_none, gains_none, gains_then}

-- ---- the answer Busy
abbrev pub IsBusy : Result Answer NoMemory → Type 0
IsBusy r = IsOkAnd r (λ a. is_busy a ≡ true)

-- ---- plans of one part
abbrev pub IsSingle : Plan → Type 0
IsSingle (Done a) = Unit {0}
IsSingle (Part index call next) = (reply : Reply) → next reply ≡ replied reply

allot_single : (c : Config) (thread asked align : ℕ) (kind : Kind) → IsSingle (allot_plan c thread asked align kind)
allot_single c thread asked align TooLarge = tt
allot_single c thread asked align (Small class) = λ reply. refl
allot_single c thread asked align (Large size) = λ reply. refl

pub malloc_single : (c : Config) (thread asked : ℕ) (plan : Plan) → IsMallocPlan c thread asked plan → IsSingle plan
malloc_single c thread asked plan m = subst IsSingle (sym m.is) (allot_single c thread asked 1 m.kind)

home_single : (home : Option ℕ) (call : Call) → IsSingle (at_home home call)
home_single None call = tt
home_single (Some index) call = λ reply. refl

pub free_single : (c : Config) (a : ℕ) (stated : Option ℕ) → IsSingle (free_plan c a stated)
free_single c a stated =
    cond_both (a == 0) (Done answer.Nothing) _ IsSingle (λ e. tt) (λ e. home_single (home_index c a) _)

-- ---- the turn was not free: nothing was gained
pub record Idles (ts us : List Known) : Type 0 where
  pub gains : Gains ts us (λ xs ys. xs ≡ ys)
  pub grew : AllGrew ts us

idles_none : (ts us : List Known) → us ≡ ts → Idles ts us
idles_none ts us e = record { gains = gains_none ts us (λ xs ys. xs ≡ ys) e (λ xs. refl); grew = all_grew_none ts us e }

lost_grew : (t u : Known) → u.lock ≡ t.lock → u.knows ≡ with_lost t.knows → Grew t u
lost_grew t u lock e = record {
  lock = lock;
  same = subst (λ (k : Knowledge). k ≡ record t.knows { seen = k.seen; mine = k.mine; lost = k.lost }) (sym e) refl;
  begins = subst (λ (k : Knowledge). StartsWith k.seen t.knows.seen) (sym e) (starts_itself t.knows.seen);
}

idles_one : (ts us : List Known) (index : ℕ) (u : Known) → index < length ts → us ≡ slice_set ts index u
    → ((t : Known) → (u.lock ≡ (slice_index_or ts index t).lock) × (u.knows ≡ with_lost (slice_index_or ts index t).knows))
    → Idles ts us
idles_one ts us index u inside set lost = record {
  gains = record {
    own = λ other. [];
    mine = λ other.
        ap (λ z. mine_of z other) set
        ∙ ap (λ (z : List (List Entry)). slice_index_or z other [])
        (map-set_same (λ (t : Known). t.knows.mine) ts index u u (ap (λ (k : Knowledge). k.mine) (lost u).1))
        ∙ sym (append-nil (mine_of ts other));
    is = λ left. refl;
  };
  grew = all_grew_one ts us index u inside set (λ t. lost_grew (slice_index_or ts index t) u (lost t).0 (lost t).1);
}

part_idle : (p m q : PassView) (step index : ℕ) (who : Who) (call : Call) (next : Reply → Plan) (r : Result Answer NoMemory)
    (tried : Option (Result Reply NoMemory)) → ((reply : Reply) → next reply ≡ replied reply) → IsBusy r
    → HasTried p m index who call tried
    → MatchOption tried ((q ≡ m) × (r ≡ Ok answer.Busy)) (GoesOn m q r (λ between reply. Follows between q step 2 (next reply) r))
    → Idles p.turns q.turns
part_idle p m q step index who call next r None single busy h rest =
    subst (λ (z : PassView). Idles p.turns z.turns) (sym rest.0)
    (idles_one p.turns m.turns index h.turn h.inside h.turns_are h.tried)
part_idle p m q step index who call next r (Some (Err e)) single busy h rest = absurd (subst IsBusy rest.1 busy)
part_idle p m q step index who call next r (Some (Ok reply)) single busy h rest =
    absurd (true≢false (sym (subst IsBusy (subst (λ (z : Plan). Follows m q step 2 z r) (single reply) rest).0 busy)))

pub tries_idle : (p q : PassView) (step : ℕ) (plan : Plan) (r : Result Answer NoMemory) → IsSingle plan → IsBusy r
    → Tries p q step plan r → Idles p.turns q.turns
tries_idle p q step (Done a) r single busy t = idles_none p.turns q.turns (ap (λ (z : PassView). z.turns) t.1)
tries_idle p q step (Part index call next) r single busy t =
    part_idle p t.between q step index (who_of p step 1) call next r t.tried single busy t.part t.rest

-- ---- it was free: the plan was followed
part_follows : (p m q : PassView) (step index : ℕ) (call : Call) (next : Reply → Plan) (r : Result Answer NoMemory)
    (tried : Option (Result Reply NoMemory)) → (IsBusy r → ⊥) → m ≡ record p { turns = m.turns }
    → HasTried p m index (who_of p step 1) call tried
    → MatchOption tried ((q ≡ m) × (r ≡ Ok answer.Busy)) (GoesOn m q r (λ between reply. Follows between q step 2 (next reply) r))
    → Follows p q step 1 (Part index call next) r
part_follows p m q step index call next r None not same h rest = absurd (not (subst IsBusy (sym rest.1) refl))
part_follows p m q step index call next r (Some made) not same h rest = record {
  between = m;
  made = made;
  same = same;
  part = record { inside = h.inside; turn = h.turn; turns_are = h.turns_are; called = h.tried };
  rest = rest;
}

pub tries_follows : (p q : PassView) (step : ℕ) (plan : Plan) (r : Result Answer NoMemory) → (IsBusy r → ⊥)
    → Tries p q step plan r → Follows p q step 1 plan r
tries_follows p q step (Done a) r not t = t
tries_follows p q step (Part index call next) r not t =
    part_follows p t.between q step index call next r t.tried not t.same t.part t.rest

-- ---- the call that waits, after one that found the turn not free
pub after_busy : (IsPlan : ℕ → Plan → Type 0) (p m q : PassView) (step : ℕ) (r : Result Answer NoMemory)
    → m ≡ record p { turns = m.turns } → Idles p.turns m.turns
    → IfOk r (λ a. Gains m.turns q.turns (Answers (IsPlan m.thread) (λ part. who_of m step part) a))
    → IfOk r (λ a. Gains p.turns q.turns (Answers (IsPlan p.thread) (λ part. who_of p step part) a))
after_busy IsPlan p m q step (Err e) same idle g = tt
after_busy IsPlan p m q step (Ok a) same idle g =
    let B : Own → Own → Type 0 = Answers (IsPlan p.thread) (λ part. who_of p step part) a in
    gains_then p.turns m.turns q.turns (λ xs ys. xs ≡ ys) B B
    (λ xs ys zs e b. subst (λ (z : Own). B z zs) (sym e) b) idle.gains
    (subst (λ (z : PassView). Gains m.turns q.turns (Answers (IsPlan z.thread) (λ part. who_of z step part) a)) same g)
