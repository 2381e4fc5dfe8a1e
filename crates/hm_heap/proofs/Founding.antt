-- A heap is built, region by region.
use Rattle.std.proofs.Common.{◌≡◌, ℕ, ◌+◌, ◌<◌, Bool, if◌then◌else◌, List, [], ◌∷◌, ◌++◌, length, length-append, slice_index_or, Result, Ok, Err, IfOk, sym, ◌∙◌, ap, subst, arith}
use Rattle.std.proofs.lemmas.Bool.{cases_lt, lt-ltb, le-ltb}
use Rattle.std.proofs.lemmas.List.{get_or_append_left}
use Rattle.std.proofs.Math.Seq.{get_or-append_seam}
use mathlib.Core.Logic.{inl, inr}
use Rattle.hm_base.specs.declared.memory.NoMemory.{NoMemory}
use Rattle.hm_sizes.specs.declared.config.Config.{Config}
use Rattle.hm_sizes.specs.Configs.{IsValid}
use Rattle.hm_turn.specs.Knowledge.{Knowledge, founding}
use Rattle.hm_turn.specs.Known.{Lock, Known}
use Rattle.hm_sizes.specs.Homes.{region_count}
use Rattle.hm_sizes.specs.Origins.{large_region_number}
use Rattle.hm_heap.specs.Origins.{numbers_of}
use Rattle.hm_heap.specs.Passes.{AreLocks, AreOf, IsPass, region_at}
use Rattle.hm_heap.specs.Founds.{IsFounded, Founds}
use Rattle.hm_heap.proofs.Splitting.{founder_has}
use Rattle.hm_heap.proofs.Loops.{BuildsTo}

pub region_class : (c : Config) (r : ℕ) → r < region_count c → region_at c r ≡ r
region_class c r lt = ap (λ (b : Bool). if b then r else large_region_number) (lt-ltb r (region_count c) lt)

pub region_last : (c : Config) → region_at c (region_count c) ≡ large_region_number
region_last c = ap (λ (b : Bool). if b then region_count c else large_region_number) (le-ltb (region_count c) (region_count c) (omega arith))

pub founded : (c : Config) (seed region : ℕ) (told : Bool) (origin : List ℕ) (r : Result (Lock × Known) NoMemory) → origin ≡ numbers_of (record { config = c; seed = seed; region = region; told = told })
    → IfOk r (λ x. x.0.origin ≡ origin) → IfOk r (λ x. (x.1.lock ≡ x.0.id) × (x.1.knows ≡ founding origin)) → IfOk r (λ x. IsFounded c seed region x.0 x.1)
founded c seed region told origin (Ok x) is lock turn = record {
  origin = record { told = told; is = lock ∙ is };
  of = turn.0;
  knows = turn.1 ∙ ap founding (sym lock);
}
founded c seed region told origin (Err e) is lock turn = tt

pub builds_more : (c : Config) (seed : ℕ) (locks : List Lock) (turns : List Known) (k : ℕ) (l : Lock) (t : Known) → BuildsTo c seed locks turns k → IsFounded c seed (region_at c k) l t
    → BuildsTo c seed (locks ++ l ∷ []) (turns ++ t ∷ []) (k + 1)
builds_more c seed locks turns k l t b one = record {
  locks_long = length-append locks (l ∷ []) ∙ ap (λ n. n + 1) b.locks_long;
  turns_long = length-append turns (t ∷ []) ∙ ap (λ n. n + 1) b.turns_long;
  each = λ r l' t' lt. elim (cases_lt r k) [
    | inl below ↦ subst (λ (z : Known). IsFounded c seed (region_at c r) (slice_index_or (locks ++ l ∷ []) r l') z) (sym (get_or_append_left turns (t ∷ []) t' r (omega (arith, below, b.turns_long))))
        (subst (λ (z : Lock). IsFounded c seed (region_at c r) z (slice_index_or turns r t')) (sym (get_or_append_left locks (l ∷ []) l' r (omega (arith, below, b.locks_long)))) (b.each r l' t' below))
    | inr above ↦ let at_lock : length locks ≡ r = omega (arith, above, lt, b.locks_long) in
        let at_turn : length turns ≡ r = omega (arith, above, lt, b.turns_long) in
        let is : k ≡ r = omega (arith, above, lt) in
        subst (λ (z : Known). IsFounded c seed (region_at c r) (slice_index_or (locks ++ l ∷ []) r l') z) (sym (sym (ap (λ n. slice_index_or (turns ++ t ∷ []) n t') at_turn) ∙ get_or-append_seam turns t [] t'))
        (subst (λ (z : Lock). IsFounded c seed (region_at c r) z t) (sym (sym (ap (λ n. slice_index_or (locks ++ l ∷ []) n l') at_lock) ∙ get_or-append_seam locks l [] l'))
        (subst (λ (n : ℕ). IsFounded c seed (region_at c n) l t) is one))
  ];
}

-- the class regions, and then the large one
pub built_all : (c : Config) (seed : ℕ) (locks : List Lock) (turns : List Known) (k : ℕ) (l : Lock) (t : Known) (all_locks : List Lock) (all_turns : List Known)
    → BuildsTo c seed locks turns k → k ≡ region_count c → IsFounded c seed large_region_number l t → all_locks ≡ locks ++ l ∷ [] → all_turns ≡ turns ++ t ∷ []
    → BuildsTo c seed all_locks all_turns (region_count c + 1)
built_all c seed locks turns k l t all_locks all_turns b is one locks_are turns_are =
    let last : IsFounded c seed (region_at c (region_count c)) l t = subst (λ (r : ℕ). IsFounded c seed r l t) (sym (region_last c)) one in
    let all = builds_more c seed locks turns (region_count c) l t (subst (λ (n : ℕ). BuildsTo c seed locks turns n) is b) last in
    subst (λ (z : List Lock). BuildsTo c seed z all_turns (region_count c + 1)) (sym locks_are)
    (subst (λ (z : List Known). BuildsTo c seed (locks ++ l ∷ []) z (region_count c + 1)) (sym turns_are) all)

module _ (c : Config) (seed : ℕ) (locks : List Lock) (turns : List Known) (b : BuildsTo c seed locks turns (region_count c + 1)) where
  pub built_locks : IsValid c → AreLocks c seed locks
  built_locks valid = record { valid = valid; count = b.locks_long; each = λ r l lt. (b.each r l (record { lock = l.id; knows = founding l.origin }) (omega (arith, lt, b.locks_long))).origin }

  pub built_of : AreOf locks turns
  built_of = record {
    same = b.turns_long ∙ sym b.locks_long;
    each = λ r l t lt. (let one = b.each r l t (omega (arith, lt, b.locks_long)) in ((one.of, ap (λ (k : Knowledge). k.origin) one.knows)));
  }

  pub built_founds : Founds locks turns
  built_founds r l t lt = (b.each r l t (omega (arith, lt, b.locks_long))).knows

  pub built_pass : IsPass 0 1 0 0 turns
  built_pass = record {
    thread_some = omega arith;
    out_most = omega arith;
    each = λ r t lt. (let l : Lock = record { id = t.lock; origin = [] } in founder_has (slice_index_or locks r l).origin (slice_index_or turns r t) (b.each r l t (omega (arith, lt, b.turns_long))).knows);
  }
