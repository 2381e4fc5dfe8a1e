-- What a plan that was followed adds to the own entries, and what it leaves.
use Rattle.std.proofs.Common.{◌≡◌, ℕ, ◌+◌, ◌<◌, ◌==◌, Bool, true, cond, List, [], ◌∷◌, ◌++◌, length, map, slice_index_or, slice_set, Result, Ok, Err, append_assoc, refl, sym, ◌∙◌, ap, subst, arith, eq-eqb, ne_eqb}
use Rattle.std.specs.Prelude.{IfOk}
use Rattle.std.proofs.lemmas.Grind.{common_steps}
use Rattle.std.proofs.lemmas.Bool.{cases_eq}
use Rattle.std.proofs.lemmas.List.{append-nil, map-set, length-map, get_or-map, get_or-set_same, get_or-set_other}
use mathlib.Core.Logic.{inl, inr}
use mathlib.Core.Path.{fun_ext}
use Rattle.hm_base.specs.declared.memory.NoMemory.{NoMemory}
use Rattle.hm_model.specs.declared.answer.Answer.{Answer}
use Rattle.hm_model.specs.declared.entry.Call.{Call}
use Rattle.hm_model.specs.declared.entry.Entry.{Entry}
use Rattle.hm_model.specs.declared.entry.Reply.{Reply}
use Rattle.hm_model.specs.declared.entry.Who.{Who}
use Rattle.hm_turn.specs.Histories.{StartsWith}
use Rattle.hm_turn.specs.Knowledge.{Knowledge}
use Rattle.hm_turn.specs.Known.{Lock, Known}
use Rattle.hm_turn.proofs.Histories.{starts_itself, starts_longer}
use Rattle.hm_heap.specs.Called.{Called, Makes}
use Rattle.hm_heap.specs.Passes.{PassView, AreOf}
use Rattle.hm_heap.specs.Parts.{who_of, HasPart}
use Rattle.hm_heap.specs.Plans.{Plan, Done, Part, Follows, GoesOn}
use Rattle.hm_replay.specs.Uses.{Own, Takes, TakesPart, Uses}
use Rattle.hm_replay.specs.Gains.{mine_of, Gains, Grew, AllGrew, WentOn}
use Rattle.hm_replay.specs.Steps.{Answers}

-- ---- what is gained
pub gains_none : (ts us : List Known) (Is : Own → Own → Type 0) → us ≡ ts → ((xs : Own) → Is xs xs) → Gains ts us Is
gains_none ts us Is e all = record {
  own = λ index. [];
  mine = λ index. ap (λ z. mine_of z index) e ∙ sym (append-nil (mine_of ts index));
  is = λ left. all left;
}

pub gains_then : (ts us vs : List Known) (A B C : Own → Own → Type 0) → ((xs ys zs : Own) → A xs ys → B ys zs → C xs zs)
    → Gains ts us A → Gains us vs B → Gains ts vs C
gains_then ts us vs A B C both a b = record {
  own = λ index. a.own index ++ b.own index;
  mine =
      λ index. b.mine index ∙ ap (λ z. z ++ b.own index) (a.mine index)
      ∙ append_assoc (mine_of ts index) (a.own index) (b.own index);
  is = λ left.
      let later : Own = λ index. b.own index ++ left index in
      subst (λ (xs : Own). C xs left) (fun_ext (λ index. sym (append_assoc (a.own index) (b.own index) (left index))))
      (both (λ index. a.own index ++ later index) later left (a.is later) (b.is left));
}

pub gains_as : (ts us : List Known) (A B : Own → Own → Type 0) → ((xs ys : Own) → A xs ys → B xs ys) → Gains ts us A
    → Gains ts us B
gains_as ts us A B f a = record {
  own = a.own;
  mine = a.mine;
  is = λ left. f (λ index. a.own index ++ left index) left (a.is left);
}

-- one entry more at an index
abbrev one_at : ℕ → Entry → Own
one_at index e other = cond (other == index) (e ∷ []) []

pub gains_one : (ts us : List Known) (index : ℕ) (u : Known) (e : Entry) → index < length ts → us ≡ slice_set ts index u
    → u.knows.mine ≡ (slice_index_or ts index u).knows.mine ++ e ∷ [] → Gains ts us (λ xs ys. Takes index e xs ys)
gains_one ts us index u e inside set one =
    let mines : List (List Entry) = map (λ (t : Known). t.knows.mine) ts in
    let long : index < length mines = omega (arith, inside, length-map ts (λ (t : Known). t.knows.mine)) in
    let was : mine_of ts index ≡ (slice_index_or ts index u).knows.mine =
    get_or-map (λ (t : Known). t.knows.mine) ts index u [] inside in
    let here : (index == index) ≡ true = eq-eqb index index refl in
    let now : (other : ℕ) → mine_of us other ≡ slice_index_or (slice_set mines index u.knows.mine) other [] =
    λ other. ap (λ z. mine_of z other) set
    ∙ ap (λ (z : List (List Entry)). slice_index_or z other []) (map-set (λ (t : Known). t.knows.mine) ts index u) in
    record {
      own = one_at index e;
      mine = λ other. elim (cases_eq other index) [
        | inl s ↦
            subst (λ (n : ℕ). mine_of us n ≡ mine_of ts n ++ one_at index e n) (sym s)
            (now index ∙ get_or-set_same mines index u.knows.mine [] long ∙ one ∙ ap (λ z. z ++ e ∷ []) (sym was)
            ∙ ap (λ (b : Bool). mine_of ts index ++ cond b (e ∷ []) []) (sym here))
        | inr n ↦
            now other ∙ get_or-set_other mines index other u.knows.mine [] n ∙ sym (append-nil (mine_of ts other))
            ∙ ap (λ (b : Bool). mine_of ts other ++ cond b (e ∷ []) []) (sym (ne_eqb other index n))
      ];
      is = λ left. record {
        here = ap (λ (b : Bool). cond b (e ∷ []) [] ++ left index) here;
        elsewhere = λ other n. sym (ap (λ (b : Bool). cond b (e ∷ []) [] ++ left other) (ne_eqb other index n));
      };
    }

-- ---- what is left of a turn
pub starts_trans : (a b c : List Entry) → StartsWith a b → StartsWith b c → StartsWith a c
starts_trans a b c p q = subst (λ (h : List Entry). StartsWith h c) (sym p.1) (starts_longer b c p.0 q)

pub grew_none : (t : Known) → Grew t t
grew_none t = record { lock = refl; same = refl; begins = starts_itself t.knows.seen }

pub grew_then : (t u v : Known) → Grew t u → Grew u v → Grew t v
grew_then t u v a b = record {
  lock = b.lock ∙ a.lock;
  same =
      b.same ∙ ap (λ (k : Knowledge). record k { seen = v.knows.seen; mine = v.knows.mine; lost = v.knows.lost })
      a.same;
  begins = starts_trans v.knows.seen u.knows.seen t.knows.seen b.begins a.begins;
}

pub all_grew_none : (ts us : List Known) → us ≡ ts → AllGrew ts us
all_grew_none ts us e = record {
  as_many = ap (λ (z : List Known). length z) e;
  each = λ index t.
      subst (λ (z : List Known). Grew (slice_index_or ts index t) (slice_index_or z index t)) (sym e)
      (grew_none (slice_index_or ts index t));
}

pub all_grew_then : (ts us vs : List Known) → AllGrew ts us → AllGrew us vs → AllGrew ts vs
all_grew_then ts us vs a b = record {
  as_many = b.as_many ∙ a.as_many;
  each = λ index t.
      grew_then (slice_index_or ts index t) (slice_index_or us index t) (slice_index_or vs index t) (a.each index t)
      (b.each index t);
}

pub run_none : (locks : List Lock) (p : PassView) → AreOf locks p.turns → WentOn locks p p
run_none locks p of = record { same = refl; of = of; grew = all_grew_none p.turns p.turns refl }

pub run_then : (locks : List Lock) (p m q : PassView) → WentOn locks p m → WentOn locks m q → WentOn locks p q
run_then locks p m q a b = record {
  same = b.same ∙ ap (λ (z : PassView). record z { turns = q.turns }) a.same;
  of = b.of;
  grew = all_grew_then p.turns m.turns q.turns a.grew b.grew;
}

pub all_grew_one : (ts us : List Known) (index : ℕ) (u : Known) → index < length ts → us ≡ slice_set ts index u
    → ((t : Known) → Grew (slice_index_or ts index t) u) → AllGrew ts us
all_grew_one ts us index u inside set one =
    let vs : List Known = slice_set ts index u in
    subst (λ (z : List Known). AllGrew ts z) (sym set) (record {
      as_many = grind (arith, common_steps);
      each = λ other t. elim (cases_eq other index) [
        | inl s ↦
            subst (λ (n : ℕ). Grew (slice_index_or ts n t) (slice_index_or vs n t)) (sym s)
            (subst (λ (z : Known). Grew (slice_index_or ts index t) z) (sym (get_or-set_same ts index u t inside))
            (one t))
        | inr n ↦
            subst (λ (z : Known). Grew (slice_index_or ts other t) z) (sym (get_or-set_other ts index other u t n))
            (grew_none (slice_index_or ts other t))
      ];
    })

-- ---- one part
called_grew : (t u : Known) (who : Who) (call : Call) (r : Result Reply NoMemory) → u.lock ≡ t.lock
    → Called who call r t.knows u.knows → Grew t u
called_grew t u who call r lock c = record { lock = lock; same = c.same; begins = c.begins }

pub part_grew : (p q : PassView) (index : ℕ) (who : Who) (call : Call) (r : Result Reply NoMemory)
    → HasPart p q index who call r → AllGrew p.turns q.turns
part_grew p q index who call r h =
    all_grew_one p.turns q.turns index h.turn h.inside h.turns_are
    (λ t. called_grew (slice_index_or p.turns index t) h.turn who call r (h.called t).0 (h.called t).1)

-- one part that was replied to: its entry is taken, and the rest follows
pub part_gains : (p m q : PassView) (index : ℕ) (who : Who) (call : Call) (reply : Reply) (Rest : Own → Reply → Own → Type 0)
    → HasPart p m index who call (Ok reply) → Gains m.turns q.turns (λ xs ys. Rest xs reply ys)
    → Gains p.turns q.turns (λ xs ys. TakesPart index who call xs (λ left again. Rest left again ys))
part_gains p m q index who call reply Rest h later =
    let made : Makes who call reply (slice_index_or p.turns index h.turn).knows h.turn.knows = (h.called h.turn).1.made in
    let e : Entry = made.entry in
    gains_then p.turns m.turns q.turns (λ xs ys. Takes index e xs ys) (λ xs ys. Rest xs reply ys)
    (λ xs ys. TakesPart index who call xs (λ left again. Rest left again ys))
    (λ xs ys zs takes rest. record {
      entry = e;
      who_is = made.is.who_is;
      call_is = made.is.call_is;
      left = ys;
      takes = takes;
      rest = subst (λ (r : Reply). Rest ys r zs) (sym made.is.reply_is) rest;
    })
    (gains_one p.turns m.turns index h.turn e h.inside h.turns_are made.mine) later

-- ---- a plan
pub follows_gains : (p q : PassView) (step n : ℕ) (plan : Plan) (a : Answer) → Follows p q step n plan (Ok a)
    → Gains p.turns q.turns (λ xs ys. Uses (λ part. who_of p step part) n plan a xs ys)
follows_gains p q step n (Done b) a f =
    let is : Ok a ≡ Ok b = f.0 in
    let same : a ≡ b = cc in
    gains_none p.turns q.turns (λ xs ys. Uses (λ part. who_of p step part) n (Done b) a xs ys)
    (ap (λ (z : PassView). z.turns) f.1)
    (λ xs. (same, λ index. refl))
follows_gains p q step n (Part index call next) a f =
    rest_gains p q f.between step n index call next a f.made f.same f.part f.rest
    (λ reply g. follows_gains f.between q step (n + 1) (next reply) a g)
  where
    rest_gains : (p q m : PassView) (step n index : ℕ) (call : Call) (next : Reply → Plan) (a : Answer) (r : Result Reply NoMemory)
        → m ≡ record p { turns = m.turns } → HasPart p m index (who_of p step n) call r
        → GoesOn m q (Ok a) (λ between reply. Follows between q step (n + 1) (next reply) (Ok a)) r
        → ((reply : Reply) → Follows m q step (n + 1) (next reply) (Ok a)
        → Gains m.turns q.turns (λ xs ys. Uses (λ part. who_of m step part) (n + 1) (next reply) a xs ys))
        → Gains p.turns q.turns (λ xs ys. Uses (λ part. who_of p step part) n (Part index call next) a xs ys)
    rest_gains p q m step n index call next a (Err e) same h rest deeper = let no : Ok a ≡ Err e = rest.1 in absurd cc
    rest_gains p q m step n index call next a (Ok reply) same h rest deeper =
        part_gains p m q index (who_of p step n) call reply
        (λ xs again ys. Uses (λ part. who_of p step part) (n + 1) (next again) a xs ys) h
        (subst (λ (z : PassView). Gains m.turns q.turns
        (λ xs ys. Uses (λ part. who_of z step part) (n + 1) (next reply) a xs ys)) same (deeper reply rest))

pub follows_grew : (p q : PassView) (step n : ℕ) (plan : Plan) (r : Result Answer NoMemory) → Follows p q step n plan r
    → AllGrew p.turns q.turns
follows_grew p q step n (Done b) r f = all_grew_none p.turns q.turns (ap (λ (z : PassView). z.turns) f.1)
follows_grew p q step n (Part index call next) r f =
    all_grew_then p.turns f.between.turns q.turns (part_grew p f.between index (who_of p step n) call f.made f.part)
    (rest_grew f.between q step n next r f.made f.rest
    (λ reply g. follows_grew f.between q step (n + 1) (next reply) r g))
  where
    rest_grew : (m q : PassView) (step n : ℕ) (next : Reply → Plan) (r : Result Answer NoMemory) (made : Result Reply NoMemory)
        → GoesOn m q r (λ between reply. Follows between q step (n + 1) (next reply) r) made
        → ((reply : Reply) → Follows m q step (n + 1) (next reply) r → AllGrew m.turns q.turns)
        → AllGrew m.turns q.turns
    rest_grew m q step n next r (Err e) rest deeper =
        all_grew_none m.turns q.turns (ap (λ (z : PassView). z.turns) rest.0)
    rest_grew m q step n next r (Ok reply) rest deeper = deeper reply rest

-- ---- a call
pub follows_answer : (IsPlan : Plan → Type 0) (plan : Plan) (p q : PassView) (step : ℕ) (r : Result Answer NoMemory)
    → IsPlan plan → Follows p q step 1 plan r
    → IfOk r (λ a. Gains p.turns q.turns (Answers IsPlan (λ part. who_of p step part) a))
follows_answer IsPlan plan p q step (Err e) is f = tt
follows_answer IsPlan plan p q step (Ok a) is f =
    gains_as p.turns q.turns (λ xs ys. Uses (λ part. who_of p step part) 1 plan a xs ys)
    (Answers IsPlan (λ part. who_of p step part) a) (λ xs ys uses. record { plan = plan; is = is; uses = uses })
    (follows_gains p q step 1 plan a f)
