-- Splitting, joining and closing keep the rule.
use Rattle.std.proofs.Common.{◌≡◌, ◌≢◌, ℕ, ◌<◌, ◌≤◌, Bool, true, false, eqb, cond, ◌⊎◌, List, [], ◌∷◌, ◌++◌, length, set, sym, refl, ap, ◌∙◌, subst, inl, inr, ⊎_elim, arith, Option, None, Some, eq-eqb, ne_eqb}
use Rattle.std.proofs.lemmas.Bool.{both_ways, ltb-true, ltb-false, false_from_ne_true, or_right, or_parts}
use lib.Dec.{ltb}
use mathlib.Core.Option.{Option as Place, some}
use mathlib.Core.Logic.{dite}
use native.Mathlib.Decide.{ℕ_discrete}
use lib.ListN.{get_elem?}
use Rattle.atomic_table.specs.Table.{State, Splits, Joins, Final, Seen}
use Rattle.atomic_table.proofs.Lists.{at_set, set_else, at_longer}
use Rattle.hm_model.specs.declared.entry.Entry.{Entry}
use Rattle.hm_turn.specs.Histories.{StartsWith, longer}
use Rattle.hm_turn.proofs.Histories.{calls_by, calls_between, calls_by_begun}
use Rattle.hm_turn.specs.declared.view.View.{View}
use Rattle.hm_turn.specs.Callers.{is_among, Ended, ended_of}
use Rattle.hm_turn.specs.Rule.{At, Fits, IsHome, IsOut, Orderly}
use Rattle.hm_turn.specs.Knowledge.{Knowledge}
use Rattle.hm_turn.specs.Views.{knowledge, view_in, splitting, entering, joining, spent}
use Rattle.hm_turn.specs.Known.{IsWhole}
use Rattle.hm_turn.proofs.Views.{set_at, one_at, at_snoc, backwards, forwards}
use Rattle.hm_turn.proofs.Queues.{queue_kept, queue_spent, queue_snoc}
use Rattle.hm_turn.proofs.Numbers.{without, in_without, in_before, length-without, gone_without, distinct-without}

at_end : {A : Type 0} (l : List A) (a : A) → get_elem? (l ++ a ∷ []) (length l) ≡ some a
at_end [] a = refl
at_end (x ∷ xs) a = at_end xs a

in_first : (c : ℕ) (xs : List ℕ) → is_among c (c ∷ xs) ≡ true
in_first c xs = rw (eq-eqb c c refl) refl

in_cases : (x c : ℕ) (xs : List ℕ) → is_among x (c ∷ xs) ≡ true → (x ≡ c) ⊎ (is_among x xs ≡ true)
in_cases x c xs h = dite (ℕ_discrete x c) (λ e. inl e) (λ n. inr (rw (ne_eqb x c n) at h))

pub ended_first : (x c : ℕ) (m : List Entry) (es : Ended) → x ≡ c → ended_of x ((c, m) ∷ es) ≡ Some m
ended_first x c m es e = rw (eq-eqb x c e) refl

pub ended_other : (x c : ℕ) (m : List Entry) (es : Ended) → x ≢ c → ended_of x ((c, m) ∷ es) ≡ ended_of x es
ended_other x c m es n = rw (ne_eqb x c n) refl

no_numbers : (xs : List ℕ) → length xs ≡ 0 → xs ≡ []
no_numbers [] e = refl
no_numbers (x ∷ xs) e = absurd (omega arith)

never_ended : (o : Option (List Entry)) → ((calls : List Entry) → o ≡ Some calls → ⊥) → o ≡ None
never_ended None h = refl
never_ended (Some calls) h = absurd (h calls refl)

longer_cases : (P : List Entry → Type 0) (a b : List Entry) → (length a < length b → P b) → (length b ≤ length a → P a) → P (longer a b)
longer_cases P a b hit miss = go (ltb (length a) (length b)) refl
  where
    go : (t : Bool) → ltb (length a) (length b) ≡ t → P (cond t b a)
    go true e = hit (ltb-true (length a) (length b) e)
    go false e = miss (ltb-false (length a) (length b) e)

longer_has : (c : ℕ) (h a b k : List Entry) → StartsWith h a → StartsWith h b → calls_by c h ≡ k → (calls_by c a ≡ k) ⊎ (calls_by c b ≡ k) → calls_by c (longer a b) ≡ k
longer_has c h a b k p q all one = longer_cases (λ (z : List Entry). calls_by c z ≡ k) a b
    (λ l. ⊎_elim (λ e. calls_between c h a b k p q (omega arith) e all) (λ e. e) one)
    (λ l. ⊎_elim (λ e. e) (λ e. calls_between c h b a k q p l e all) one)

module _ {T : Type 0} (entries : T → List Entry) (origin_of : T → List ℕ) (origin : List ℕ) where
  abbrev St : Type 0
  St = State (Option T) View

  abbrev Rule : St → Type 0
  Rule = Orderly entries origin_of origin

  abbrev Where : ℕ → List Entry → St → Type 0
  Where serving history s = IsHome entries origin_of origin history s ⊎ IsOut entries origin_of serving history s

  -- where those who hold the turn stay the same
  home_or_out_stays : (serving : ℕ) (history : List Entry) (s : St) (views' : List View) → ((j : ℕ) (u : View) → At views' j u → u.holds ≡ true → At s.views j u)
      → ((j : ℕ) (u : View) → At s.views j u → u.holds ≡ true → At views' j u) → Where serving history s → Where serving history record { words = s.words; homes = s.homes; views = views' }
  home_or_out_stays serving history s views' there back home_or_out = ⊎_elim
      (λ (h : IsHome entries origin_of origin history s). inl record { value = h.value; homes = h.homes; entries_are = h.entries_are; origin_is = h.origin_is; none_holds = λ j u p. false_from_ne_true u.holds (λ q. both_ways u.holds (h.none_holds j u (there j u p q)) q) })
      (λ (o : IsOut entries origin_of serving history s). inr record { holder = o.holder; view = o.view; homes = o.homes; at_holder = back o.holder o.view o.at_holder o.holds; holds = o.holds; served = o.served; holder_live = o.holder_live; knows = o.knows; only = λ j u p q. o.only j u (there j u p q) q })
      home_or_out

  pub splits : (id : ℕ) (v : View) (c : ℕ) → v.spent ≡ false → v.holds ≡ false → v.caller ≡ 0 → c ≢ 0 → is_among c v.used ≡ false → Splits Rule id v (splitting v c) (entering v c)
  splits id v c lives rests zero_is pos fresh s r at = let left : View = splitting v c in let right : View = entering v c in let mid : List View = set s.views id left in let vs : List View = mid ++ right ∷ [] in let k = r.callers in
      let root_is : k.root ≡ id = k.seats.apart k.root id k.chief v k.seats.at_root at k.seats.root_live lives (k.seats.root_zero ∙ sym zero_is) in
      let chief_is : k.chief ≡ v = one_at s.views id k.chief v (ap (get_elem? s.views) (sym root_is) ∙ k.seats.at_root) at in
      let used_is : k.chief.used ≡ v.used = ap (λ (z : View). z.used) chief_is in let ended_is : k.chief.ended ≡ v.ended = ap (λ (z : View). z.ended) chief_is in
      let strange : calls_by c r.history ≡ [] = k.calls.strangers c pos (ap (is_among c) used_is ∙ fresh) in
      let old : (j : ℕ) (u : View) → At mid j u → u.spent ≡ false → (x : View) × At s.views j x × (x.spent ≡ false) × (x.caller ≡ u.caller) = backwards s.views id v left at lives refl in
      let not_used : (u : View) (j : ℕ) → At mid j u → u.spent ≡ false → u.caller ≢ c = λ u j p lu e. let x = old j u p lu in ⊎_elim (λ (z : x.0.caller ≡ 0). pos (sym e ∙ (sym x.3 ∙ z)))
      (λ (z : is_among x.0.caller k.outs ≡ true). both_ways (is_among c v.used) fresh (ap (λ (m : ℕ). is_among m v.used) (sym e) ∙ (ap (λ (m : ℕ). is_among m v.used) (sym x.3) ∙ (ap (is_among x.0.caller) (sym used_is) ∙ k.calls.out_used x.0.caller z)))) (k.seats.live j x.0 x.1 x.2) in
      let fits = r.each id v at lives in record {
        history = r.history;
        ticket = r.ticket;
        serving = r.serving;
        words = r.words;
        queue = queue_snoc r.ticket r.serving mid right (queue_kept r.ticket r.serving s.views id v left r.queue at refl (λ n q. r.queue.noted id v n at q)) refl refl;
        home_or_out = home_or_out_stays r.serving r.history s vs
            (λ j u p q. ⊎_elim (λ (t : At mid j u). ⊎_elim (λ (w : (j ≡ id) × (left ≡ u)). absurd (both_ways u.holds (ap (λ (z : View). z.holds) (sym w.1) ∙ rests) q)) (λ (w : (j ≢ id) × At s.views j u). w.1) (at_set s.views id j left u t))
            (λ (t : (j ≡ length mid) × (right ≡ u)). absurd (both_ways u.holds (ap (λ (z : View). z.holds) (sym t.1)) q)) (at_snoc mid right u j p))
            (λ j u p q. at_longer mid (right ∷ []) j u (set_else s.views id j left (λ e. both_ways u.holds (ap (λ (z : View). z.holds) (one_at s.views id u v (ap (get_elem? s.views) (sym e) ∙ p) at) ∙ rests) q) ∙ p))
            r.home_or_out;
        each = λ j u p lu. ⊎_elim (λ (t : At mid j u). ⊎_elim (λ (w : (j ≡ id) × (left ≡ u)). subst (Fits origin r.history) w.1 record { origin_is = fits.origin_is; begins = fits.begins; own_seen = fits.own_seen; own_all = fits.own_all }) (λ (w : (j ≢ id) × At s.views j u). r.each j u w.1 lu) (at_set s.views id j left u t))
            (λ (t : (j ≡ length mid) × (right ≡ u)). subst (Fits origin r.history) t.1 record { origin_is = fits.origin_is; begins = fits.begins; own_seen = calls_by_begun c r.history v.seen fits.begins strange; own_all = strange }) (at_snoc mid right u j p);
        callers = record {
          root = id;
          chief = left;
          outs = c ∷ k.outs;
          seats = record {
            at_root = at_longer mid (right ∷ []) id left (set_at s.views id v left at);
            root_live = lives;
            root_zero = zero_is;
            counted = let n = k.seats.counted in let m = ap (λ (z : View). z.out) chief_is in omega arith;
            distinct = (false_from_ne_true (is_among c k.outs) (λ p. both_ways (is_among c v.used) fresh (ap (is_among c) (sym used_is) ∙ k.calls.out_used c p)), k.seats.distinct);
            apart = λ i j a b p q la lb e. ⊎_elim
                (λ (x : At mid i a). ⊎_elim (λ (y : At mid j b). let a' = old i a x la in let b' = old j b y lb in k.seats.apart i j a'.0 b'.0 a'.1 b'.1 a'.2 b'.2 (a'.3 ∙ (e ∙ sym b'.3)))
                (λ (y : (j ≡ length mid) × (right ≡ b)). absurd (not_used a i x la (e ∙ ap (λ (z : View). z.caller) (sym y.1)))) (at_snoc mid right b j q))
                (λ (x : (i ≡ length mid) × (right ≡ a)). ⊎_elim (λ (y : At mid j b). absurd (not_used b j y lb (sym e ∙ ap (λ (z : View). z.caller) (sym x.1)))) (λ (y : (j ≡ length mid) × (right ≡ b)). x.0 ∙ sym y.0) (at_snoc mid right b j q))
                (at_snoc mid right a i p);
            live = λ j u p lu. ⊎_elim (λ (t : At mid j u). let x = old j u t lu in ⊎_elim (λ (z : x.0.caller ≡ 0). inl (sym x.3 ∙ z)) (λ (z : is_among x.0.caller k.outs ≡ true). inr (or_right (eqb u.caller c) (is_among u.caller k.outs) (ap (λ (m : ℕ). is_among m k.outs) (sym x.3) ∙ z))) (k.seats.live j x.0 x.1 x.2))
                (λ (t : (j ≡ length mid) × (right ≡ u)). inr (subst (λ (m : ℕ). is_among m (c ∷ k.outs) ≡ true) (ap (λ (z : View). z.caller) t.1) (in_first c k.outs))) (at_snoc mid right u j p);
            present = λ x h. ⊎_elim (λ (e : x ≡ c). (length mid, right, at_end mid right, refl, sym e))
                (λ (t : is_among x k.outs ≡ true). let p = k.seats.present x t in let f = forwards s.views id v left at lives refl p.0 p.1 p.2 p.3 in (p.0, f.0, at_longer mid (right ∷ []) p.0 f.0 f.1, f.2, f.3 ∙ p.4)) (in_cases x c k.outs h);
          };
          calls = record {
            gone = λ j u p lu. ⊎_elim (λ (t : At mid j u). let x = old j u t lu in ap (ended_of u.caller) (sym ended_is) ∙ (ap (λ (m : ℕ). ended_of m k.chief.ended) (sym x.3) ∙ k.calls.gone j x.0 x.1 x.2))
                (λ (t : (j ≡ length mid) × (right ≡ u)). subst (λ (m : ℕ). ended_of m v.ended ≡ None) (ap (λ (z : View). z.caller) t.1) (never_ended (ended_of c v.ended) (λ calls h. both_ways (is_among c v.used) fresh (ap (is_among c) (sym used_is) ∙ k.calls.ended_used c calls (ap (ended_of c) ended_is ∙ h))))) (at_snoc mid right u j p);
            out_used = λ x h. ⊎_elim (λ (e : x ≡ c). subst (λ (m : ℕ). is_among m (c ∷ v.used) ≡ true) (sym e) (in_first c v.used)) (λ (t : is_among x k.outs ≡ true). or_right (eqb x c) (is_among x v.used) (ap (is_among x) (sym used_is) ∙ k.calls.out_used x t)) (in_cases x c k.outs h);
            used_are = λ x h. ⊎_elim (λ (e : x ≡ c). inl (subst (λ (m : ℕ). is_among m (c ∷ k.outs) ≡ true) (sym e) (in_first c k.outs)))
                (λ (t : is_among x v.used ≡ true). ⊎_elim (λ (z : is_among x k.outs ≡ true). inl (or_right (eqb x c) (is_among x k.outs) z)) (λ (z : (calls : List Entry) × (ended_of x k.chief.ended ≡ Some calls)). inr (z.0, ap (ended_of x) (sym ended_is) ∙ z.1)) (k.calls.used_are x (ap (is_among x) used_is ∙ t))) (in_cases x c v.used h);
            ended_used = λ x calls h. or_right (eqb x c) (is_among x v.used) (ap (is_among x) (sym used_is) ∙ k.calls.ended_used x calls (ap (ended_of x) ended_is ∙ h));
            ended_are = λ x calls h. let t = k.calls.ended_are x calls (ap (ended_of x) ended_is ∙ h) in (ap (λ (z : View). calls_by x z.seen) (sym chief_is) ∙ t.0, t.1);
            strangers = λ x n h. k.calls.strangers x n (ap (is_among x) used_is ∙ (or_parts (eqb x c) (is_among x v.used) h).1);
          };
        };
      }

  pub joins : (id : ℕ) (v : View) (other : ℕ) (w : View) → v.spent ≡ false → v.holds ≡ false → v.caller ≡ 0 → w.spent ≡ false → w.holds ≡ false → w.ticket ≡ None → Joins Rule id v other w (joining v w) spent
  joins id v other w lives rests zero_is livew restw no_ticket s r at other_one there = let both : View = joining v w in let mid : List View = set s.views id both in let vs : List View = set mid other spent in let k = r.callers in
      let root_is : k.root ≡ id = k.seats.apart k.root id k.chief v k.seats.at_root at k.seats.root_live lives (k.seats.root_zero ∙ sym zero_is) in
      let chief_is : k.chief ≡ v = one_at s.views id k.chief v (ap (get_elem? s.views) (sym root_is) ∙ k.seats.at_root) at in
      let used_is : k.chief.used ≡ v.used = ap (λ (z : View). z.used) chief_is in let ended_is : k.chief.ended ≡ v.ended = ap (λ (z : View). z.ended) chief_is in
      let at_other : At s.views other w = sym (set_else s.views id other both other_one) ∙ there in
      let w_out : is_among w.caller k.outs ≡ true = ⊎_elim (λ (z : w.caller ≡ 0). absurd (other_one (k.seats.apart other id w v at_other at livew lives (z ∙ sym zero_is)))) (λ (z : is_among w.caller k.outs ≡ true). z) (k.seats.live other w at_other livew) in
      let old : (j : ℕ) (u : View) → At vs j u → u.spent ≡ false → (x : View) × At s.views j x × (x.spent ≡ false) × (x.caller ≡ u.caller) × (u.caller ≢ w.caller) = λ j u p lu.
      ⊎_elim (λ (t : (j ≡ other) × (spent ≡ u)). absurd (both_ways u.spent lu (ap (λ (z : View). z.spent) (sym t.1))))
      (λ (t : (j ≢ other) × At mid j u). let x = backwards s.views id v both at lives refl j u t.1 lu in (x.0, x.1, x.2, x.3, λ e. t.0 (k.seats.apart j other x.0 w x.1 at_other x.2 livew (x.3 ∙ e)))) (at_set mid other j spent u p) in
      let fv = r.each id v at lives in let fw = r.each other w at_other livew in record {
        history = r.history;
        ticket = r.ticket;
        serving = r.serving;
        words = r.words;
        queue = queue_spent r.ticket r.serving mid other w spent (queue_kept r.ticket r.serving s.views id v both r.queue at refl (λ n q. r.queue.noted id v n at q)) there no_ticket refl refl;
        home_or_out = home_or_out_stays r.serving r.history s vs
            (λ j u p q. ⊎_elim (λ (t : (j ≡ other) × (spent ≡ u)). absurd (both_ways u.holds (ap (λ (z : View). z.holds) (sym t.1)) q))
            (λ (t : (j ≢ other) × At mid j u). ⊎_elim (λ (x : (j ≡ id) × (both ≡ u)). absurd (both_ways u.holds (ap (λ (z : View). z.holds) (sym x.1) ∙ rests) q)) (λ (x : (j ≢ id) × At s.views j u). x.1) (at_set s.views id j both u t.1)) (at_set mid other j spent u p))
            (λ j u p q. set_else mid other j spent (λ e. both_ways u.holds (ap (λ (z : View). z.holds) (one_at s.views other u w (ap (get_elem? s.views) (sym e) ∙ p) at_other) ∙ restw) q)
            ∙ (set_else s.views id j both (λ e. both_ways u.holds (ap (λ (z : View). z.holds) (one_at s.views id u v (ap (get_elem? s.views) (sym e) ∙ p) at) ∙ rests) q) ∙ p))
            r.home_or_out;
        each = λ j u p lu. ⊎_elim (λ (t : (j ≡ other) × (spent ≡ u)). absurd (both_ways u.spent lu (ap (λ (z : View). z.spent) (sym t.1))))
            (λ (t : (j ≢ other) × At mid j u). ⊎_elim (λ (x : (j ≡ id) × (both ≡ u)). subst (Fits origin r.history) x.1 record {
              origin_is = fv.origin_is;
              begins = longer_cases (StartsWith r.history) v.seen w.seen (λ _. fw.begins) (λ _. fv.begins);
              own_seen = longer_has v.caller r.history v.seen w.seen v.mine fv.begins fw.begins fv.own_all (inl fv.own_seen);
              own_all = fv.own_all;
            }) (λ (x : (j ≢ id) × At s.views j u). r.each j u x.1 lu) (at_set s.views id j both u t.1)) (at_set mid other j spent u p);
        callers = record {
          root = id;
          chief = both;
          outs = without w.caller k.outs;
          seats = record {
            at_root = set_else mid other id spent (λ e. other_one (sym e)) ∙ set_at s.views id v both at;
            root_live = lives;
            root_zero = zero_is;
            counted = let n = k.seats.counted in let m = ap (λ (z : View). z.out) chief_is in let l = length-without w.caller k.outs w_out in omega arith;
            distinct = distinct-without w.caller k.outs k.seats.distinct;
            apart = λ i j a b p q la lb e. let x = old i a p la in let y = old j b q lb in k.seats.apart i j x.0 y.0 x.1 y.1 x.2 y.2 (x.3 ∙ (e ∙ sym y.3));
            live = λ j u p lu. let x = old j u p lu in ⊎_elim (λ (z : x.0.caller ≡ 0). inl (sym x.3 ∙ z)) (λ (z : is_among x.0.caller k.outs ≡ true). inr (in_without u.caller w.caller k.outs x.4 (ap (λ (m : ℕ). is_among m k.outs) (sym x.3) ∙ z))) (k.seats.live j x.0 x.1 x.2);
            present = λ c h. let n : c ≢ w.caller = λ e. both_ways (is_among c (without w.caller k.outs)) (ap (λ (m : ℕ). is_among m (without w.caller k.outs)) e ∙ gone_without w.caller k.outs k.seats.distinct) h in
                let p = k.seats.present c (in_before c w.caller k.outs h) in let f = forwards s.views id v both at lives refl p.0 p.1 p.2 p.3 in
                (p.0, f.0, set_else mid other p.0 spent (λ e. n (sym p.4 ∙ ap (λ (z : View). z.caller) (one_at s.views other p.1 w (ap (get_elem? s.views) (sym e) ∙ p.2) at_other))) ∙ f.1, f.2, f.3 ∙ p.4);
          };
          calls = record {
            gone = λ j u p lu. let x = old j u p lu in ended_other u.caller w.caller w.mine v.ended x.4 ∙ (ap (ended_of u.caller) (sym ended_is) ∙ (ap (λ (m : ℕ). ended_of m k.chief.ended) (sym x.3) ∙ k.calls.gone j x.0 x.1 x.2));
            out_used = λ c h. ap (is_among c) (sym used_is) ∙ k.calls.out_used c (in_before c w.caller k.outs h);
            used_are = λ c h. dite (ℕ_discrete c w.caller) (λ e. inr (w.mine, ended_first c w.caller w.mine v.ended e))
                (λ n. ⊎_elim (λ (z : is_among c k.outs ≡ true). inl (in_without c w.caller k.outs n z)) (λ (z : (calls : List Entry) × (ended_of c k.chief.ended ≡ Some calls)). inr (z.0, ended_other c w.caller w.mine v.ended n ∙ (ap (ended_of c) (sym ended_is) ∙ z.1))) (k.calls.used_are c (ap (is_among c) used_is ∙ h)));
            ended_used = λ c calls h. dite (ℕ_discrete c w.caller) (λ e. ap (is_among c) (sym used_is) ∙ k.calls.out_used c (ap (λ (m : ℕ). is_among m k.outs) e ∙ w_out))
                (λ n. ap (is_among c) (sym used_is) ∙ k.calls.ended_used c calls (ap (ended_of c) ended_is ∙ (sym (ended_other c w.caller w.mine v.ended n) ∙ h)));
            ended_are = λ c calls h. dite (ℕ_discrete c w.caller)
                (λ e. let m : Some w.mine ≡ Some calls = sym (ended_first c w.caller w.mine v.ended e) ∙ h in let q : w.mine ≡ calls = cc in
                let all : calls_by c r.history ≡ calls = ap (λ (n : ℕ). calls_by n r.history) e ∙ (fw.own_all ∙ q) in
                (longer_has c r.history v.seen w.seen calls fv.begins fw.begins all (inr (ap (λ (n : ℕ). calls_by n w.seen) e ∙ (fw.own_seen ∙ q))), all))
                (λ n. let t = k.calls.ended_are c calls (ap (ended_of c) ended_is ∙ (sym (ended_other c w.caller w.mine v.ended n) ∙ h)) in
                (longer_has c r.history v.seen w.seen calls fv.begins fw.begins t.1 (inl (ap (λ (z : View). calls_by c z.seen) (sym chief_is) ∙ t.0)), t.1));
            strangers = λ c n h. k.calls.strangers c n (ap (is_among c) used_is ∙ h);
          };
        };
      }

  pub record Closes (v : View) (s : St) : Type 0 where
    pub value : T
    pub homes : s.homes ≡ some (Some value) ∷ []
    pub origin_is : origin_of value ≡ origin
    pub whole : IsWhole (entries value) (knowledge v)

  pub closes : (s : St) (r : Rule s) (id : ℕ) (v : View) → At s.views id v → v.spent ≡ false → v.holds ≡ false → v.caller ≡ 0 → v.out ≡ 0 → Closes v s
  closes s r id v at lives rests zero_is all_in = let k = r.callers in
      let root_is : k.root ≡ id = k.seats.apart k.root id k.chief v k.seats.at_root at k.seats.root_live lives (k.seats.root_zero ∙ sym zero_is) in
      let chief_is : k.chief ≡ v = one_at s.views id k.chief v (ap (get_elem? s.views) (sym root_is) ∙ k.seats.at_root) at in
      let ended_is : k.chief.ended ≡ v.ended = ap (λ (z : View). z.ended) chief_is in
      let none_out : k.outs ≡ [] = no_numbers k.outs (sym k.seats.counted ∙ (ap (λ (z : View). z.out) chief_is ∙ all_in)) in
      let fits = r.each id v at lives in
      let whole : IsWhole r.history (knowledge v) = record {
        begins = fits.begins;
        own = ap (λ (c : ℕ). calls_by c r.history) (sym zero_is) ∙ fits.own_all;
        of_ended = λ c calls h. (k.calls.ended_are c calls (ap (ended_of c) ended_is ∙ h)).1;
        of_others = λ c n h. k.calls.strangers c n (false_from_ne_true (is_among c k.chief.used) (λ u. ⊎_elim (λ (z : is_among c k.outs ≡ true). both_ways (is_among c []) refl (ap (is_among c) (sym none_out) ∙ z))
            (λ (z : (calls : List Entry) × (ended_of c k.chief.ended ≡ Some calls)). let q : Some z.0 ≡ None = sym z.1 ∙ (ap (ended_of c) ended_is ∙ h) in absurd (cc)) (k.calls.used_are c u)));
      } in
      ⊎_elim (λ (h : IsHome entries origin_of origin r.history s). record { value = h.value; homes = h.homes; origin_is = h.origin_is; whole = subst (λ (l : List Entry). IsWhole l (knowledge v)) (sym h.entries_are) whole })
      (λ (o : IsOut entries origin_of r.serving r.history s). absurd (⊎_elim
      (λ (z : o.view.caller ≡ 0). let e = k.seats.apart o.holder id o.view v o.at_holder at o.holder_live lives (z ∙ sym zero_is) in both_ways v.holds rests (ap (λ (u : View). u.holds) (sym (one_at s.views id o.view v (ap (get_elem? s.views) (sym e) ∙ o.at_holder) at)) ∙ o.holds))
      (λ (z : is_among o.view.caller k.outs ≡ true). both_ways (is_among o.view.caller []) refl (ap (is_among o.view.caller) (sym none_out) ∙ z)) (k.seats.live o.holder o.view o.at_holder o.holder_live)))
      r.home_or_out

  -- what is found in a closed table by the turn of caller 0, which knew k
  pub record Finishes (k : Knowledge) (slots : List (Option T)) : Type 0 where
    pub value : T
    pub there : get_elem? slots 0 ≡ some (Some value)
    pub origin_is : origin_of value ≡ origin
    pub whole : IsWhole (entries value) k

  pub finishes : (words : List ℕ) (slots : List (Option T)) (id : ℕ) (v : View) (views : List View) (k : Knowledge) → Final (Seen Rule id v) words slots → view_in views ≡ v → knowledge (view_in views) ≡ k
      → (view_in views).spent ≡ false → (view_in views).holds ≡ false → k.caller ≡ 0 → k.out ≡ 0 → Finishes k slots
  finishes words slots id v views k f one known lives rests zero_is all_in = let same : v ≡ view_in views = sym one in let is : knowledge v ≡ k = ap knowledge same ∙ known in
      let c = closes f.0 f.1.0 id v f.1.1 (ap (λ (u : View). u.spent) same ∙ lives) (ap (λ (u : View). u.holds) same ∙ rests) (ap (λ (u : Knowledge). u.caller) is ∙ zero_is) (ap (λ (u : Knowledge). u.out) is ∙ all_in) in
      record { value = c.value; there = f.4 0 (Some c.value) (ap (λ (l : List (Place (Option T))). get_elem? l 0) c.homes); origin_is = c.origin_is; whole = subst (IsWhole (entries c.value)) is c.whole }
