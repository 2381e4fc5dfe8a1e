-- What the turns of a pass have after a split or a join of all of them.
use Rattle.std.proofs.Common.{◌≡◌, ℕ, false, ◌+◌, ◌-◌, ◌<◌, ◌≤◌, List, [], ◌∷◌, length, map, slice_index_or, arith, refl, ap, zero, suc, ◌∙◌, sym, subst}
use Rattle.std.proofs.lemmas.Grind.{common_steps}
use Rattle.hm_turn.specs.Known.{Lock, Known, IsOf}
use Rattle.hm_turn.specs.Callers.{is_among}
use Rattle.hm_turn.specs.Knowledge.{founding}
use Rattle.hm_heap.specs.Passes.{AreOf, AllHave, HasNumbers, IsPass, cut, born, met, all_met}

pub map_index : {X : Type 0} (f : X → X) (xs : List X) (k : ℕ) (x : X) → k < length xs → slice_index_or (map f xs) k x ≡ f (slice_index_or xs k x)
map_index f xs k x b = grind (arith, common_steps)

pub map_long : {X : Type 0} (f : X → X) (xs : List X) → length (map f xs) ≡ length xs
map_long f xs = grind (arith, common_steps)

pub born_have : (c : ℕ) (ts : List Known) → AllHave c 0 0 (map (born c) ts)
born_have c ts r t b = let q : r < length ts = omega (arith, map_long (born c) ts) in subst (HasNumbers c 0 0) (sym (map_index (born c) ts r t q)) (record { caller_is = refl; out_is = refl; used_below = λ d e. grind arith })

pub cut_has : (caller splits out : ℕ) (t : Known) → HasNumbers caller splits out t → HasNumbers caller (splits + 1) (out + 1) (cut (splits + 1) t)
cut_has caller splits out t h = record { caller_is = h.caller_is; out_is = grind (arith, h.out_is); used_below = λ d e. let u = h.used_below d in grind arith }

pub cut_have : (caller splits out : ℕ) (ts : List Known) → AllHave caller splits out ts → AllHave caller (splits + 1) (out + 1) (map (cut (splits + 1)) ts)
cut_have caller splits out ts h r t b = let q : r < length ts = omega (arith, map_long (cut (splits + 1)) ts) in subst (HasNumbers caller (splits + 1) (out + 1)) (sym (map_index (cut (splits + 1)) ts r t q)) (cut_has caller splits out (slice_index_or ts r t) (h r t q))

pub met_long : (ts us : List Known) → length (all_met ts us) ≡ length ts
met_long [] us = refl
met_long (t ∷ ts) [] = refl
met_long (t ∷ ts) (u ∷ us) = ap suc (met_long ts us)

pub met_index : (ts us : List Known) (k : ℕ) (t u : Known) → length us ≡ length ts → k < length ts → slice_index_or (all_met ts us) k t ≡ met (slice_index_or ts k t) (slice_index_or us k u)
met_index [] us k t u p b = absurd (omega arith)
met_index (t ∷ ts) [] k d e p b = absurd (omega arith)
met_index (t ∷ ts) (u ∷ us) zero d e p b = refl
met_index (t ∷ ts) (u ∷ us) (suc k) d e p b = met_index ts us k d e (omega arith) (omega arith)

pub met_has : (caller splits out : ℕ) (t u : Known) → HasNumbers caller splits out t → HasNumbers caller splits (out - 1) (met t u)
met_has caller splits out t u h = record { caller_is = h.caller_is; out_is = ap (λ n. n - 1) h.out_is; used_below = h.used_below }

pub met_have : (caller splits out : ℕ) (ts us : List Known) → length us ≡ length ts → AllHave caller splits out ts → AllHave caller splits (out - 1) (all_met ts us)
met_have caller splits out ts us p h r t b = let q : r < length ts = omega (arith, met_long ts us) in subst (HasNumbers caller splits (out - 1)) (sym (met_index ts us r t t p q)) (met_has caller splits out (slice_index_or ts r t) (slice_index_or us r t) (h r t q))

pub founder_has : (origin : List ℕ) (t : Known) → t.knows ≡ founding origin → HasNumbers 0 0 0 t
founder_has origin t e = record { caller_is = ap (λ v. v.caller) e; out_is = ap (λ v. v.out) e; used_below = λ c h. let n : is_among c t.knows.used ≡ false = ap (λ v. is_among c v.used) e in grind (arith, n, h) }

pub pass_born : (c thread : ℕ) (ts : List Known) → 1 ≤ thread → IsPass c thread 0 0 (map (born c) ts)
pass_born c thread ts some = record { thread_some = some; out_most = omega arith; each = born_have c ts }

pub pass_cut : (caller thread splits out : ℕ) (ts : List Known) → IsPass caller thread splits out ts → IsPass caller thread (splits + 1) (out + 1) (map (cut (splits + 1)) ts)
pass_cut caller thread splits out ts h = record { thread_some = h.thread_some; out_most = omega (arith, h.out_most); each = cut_have caller splits out ts h.each }

pub pass_met : (caller thread splits out : ℕ) (ts us : List Known) → length us ≡ length ts → IsPass caller thread splits out ts → IsPass caller thread splits (out - 1) (all_met ts us)
pass_met caller thread splits out ts us p h = record { thread_some = h.thread_some; out_most = omega (arith, h.out_most); each = met_have caller splits out ts us p h.each }

pub of_cut : (locks : List Lock) (c : ℕ) (ts : List Known) → AreOf locks ts → AreOf locks (map (cut c) ts)
of_cut locks c ts of = record {
  same = map_long (cut c) ts ∙ of.same;
  each = λ r l t b. subst (λ (z : Known). IsOf (slice_index_or locks r l) z) (sym (map_index (cut c) ts r t (omega (arith, b, of.same)))) (of.each r l t b);
}

pub of_born : (locks : List Lock) (c : ℕ) (ts : List Known) → AreOf locks ts → AreOf locks (map (born c) ts)
of_born locks c ts of = record {
  same = map_long (born c) ts ∙ of.same;
  each = λ r l t b. subst (λ (z : Known). IsOf (slice_index_or locks r l) z) (sym (map_index (born c) ts r t (omega (arith, b, of.same)))) (of.each r l t b);
}

pub of_met : (locks : List Lock) (ts us : List Known) → AreOf locks ts → AreOf locks us → AreOf locks (all_met ts us)
of_met locks ts us of other = record {
  same = met_long ts us ∙ of.same;
  each = λ r l t b. subst (λ (z : Known). IsOf (slice_index_or locks r l) z) (sym (met_index ts us r t t (other.same ∙ sym of.same) (omega (arith, b, of.same)))) (of.each r l t b);
}
