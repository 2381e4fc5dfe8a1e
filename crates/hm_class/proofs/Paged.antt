-- The runs of the pages are the open slabs, and stay so where slabs are opened and bytes are written.
use Rattle.std.proofs.Common.{◌≡◌, ◌≢◌, inl, inr, ⊎_elim, ℕ, zero, suc, subst, ◌+◌, ◌-◌, ◌<◌, ◌≤◌, Bool, true, false, cond, List, [], ◌∷◌, length, take, drop, ◌++◌, Option, Some, None, is_some, sym, ◌∙◌, ap, refl, arith, true≢false, append-nil}
use Rattle.std.specs.FinMap as map
use Rattle.std.specs.FinMap.{FinMap, get-insert, get-remove, get-empty}
use Rattle.std.specs.Ordering.{nat_cmp, eq_by_cmp}
use Rattle.std.proofs.lemmas.Cmp.{nat_cmp_total}
use Rattle.std.proofs.lemmas.Bool.{cases_eq, cases_lt}
use Rattle.std.proofs.lemmas.Bool.Decides.{nat_tests}
use Rattle.std.proofs.lemmas.List.{length-replicate}
use Rattle.std.proofs.lemmas.Option.{none-some, same_Some}
use Rattle.hm_base.specs.Lists.{written, zeros}
use Rattle.hm_outside.specs.PageRuns.{PageRuns, MeetsNone, IsPageRun, IsHeld, Reads, Writes}
use Rattle.hm_sizes.specs.declared.shape.Shape.{Shape}
use Rattle.hm_sizes.specs.Shapes.{IsShape, slab_at, has_bytes}
use Rattle.hm_model.specs.Maps.{at, has, put, removed}
use Rattle.hm_model.specs.Overlaid.{overlaid}
use Rattle.hm_model.proofs.Overlaid.{overlaid_apart, overlaid_written, length_overlaid}
use Rattle.hm_class_rules.specs.State.{State, Slab, start, is_open}
use Rattle.hm_class_rules.specs.Bytes.{overlaid_slabs, bytes_from}
use Rattle.hm_class_rules.specs.Laws.{AllWhole, bytes_of_slab}
use Rattle.hm_class_rules.specs.Steps.{new_slab}
use Rattle.hm_class_rules.proofs.Legal.{slab_row}
use Rattle.hm_class_rules.proofs.Whole.{over, at_over, over_at, at_removed}
use Rattle.hm_class_rules.proofs.Zeroed.{opens_some, bytes_in}
use Rattle.hm_class.specs.Region.{HoldsSlabs}
use Rattle.hm_class.proofs.Entered.{at_put_same, at_put_other, has_removed_same}
use Rattle.hm_class.specs.Finds.{made_page_runs}
use Rattle.hm_class.proofs.Places.{slab_apart, slab_some}

-- ---- finite maps
module _ {X : Type 0} (m : FinMap nat_cmp X) (k : ℕ) (v : X) (q : ℕ) where
  get_same : q ≡ k → map.get (map.insert m k v) q ≡ Some v
  get_same e = get-insert nat_cmp_total m k v q ∙ ap (λ (b : Bool). cond b (Some v) (map.get m q)) (same q k e)
    where
      same : (q k : ℕ) → q ≡ k → eq_by_cmp nat_cmp q k ≡ true
      same q k e = grind (arith, nat_tests)

  get_other : q ≢ k → map.get (map.insert m k v) q ≡ map.get m q
  get_other ne = get-insert nat_cmp_total m k v q ∙ ap (λ (b : Bool). cond b (Some v) (map.get m q)) (apart q k ne)
    where
      apart : (q k : ℕ) → q ≢ k → eq_by_cmp nat_cmp q k ≡ false
      apart q k ne = grind (arith, nat_tests)

-- ---- open slabs
-- a slab that is not open is none of the open ones
not_on : (m : List (ℕ × Slab)) (n k : ℕ) (b : Slab) → has n m ≡ false → at k m ≡ Some b → n ≢ k
not_on m n k b off is e = true≢false (sym (ap (λ (o : Option Slab). is_some o) (ap (λ (x : ℕ). at x m) e ∙ is)) ∙ off)

pub bytes_new : (p : Shape) (k : ℕ) → has_bytes p ≡ true → (new_slab p k).bytes ≡ zeros p.slab
bytes_new p k e = ap (λ (t : Bool). cond {A = List ℕ} t (zeros p.slab) []) e

bytes_of : (p : Shape) → has_bytes p ≡ true → bytes_of_slab p ≡ p.slab
bytes_of p own = ap (λ (b : Bool). cond b p.slab 0) own

pub all_bytes : (p : Shape) (opens : List (ℕ × Slab)) (runs : PageRuns) → HoldsSlabs p opens runs → has_bytes p ≡ true → (n : ℕ) (b : Slab) → at n opens ≡ Some b → length b.bytes ≡ p.slab
all_bytes p opens runs h own n b is = h.whole n b is ∙ bytes_of p own

-- ---- nothing is open
pub holds_nothing : (p : Shape) (runs : PageRuns) → runs ≡ map.empty → HoldsSlabs p start.opens runs
holds_nothing p runs none = record {
  each = λ own n b is. absurd (none-some b is);
  only = λ q bytes is. absurd (none-some bytes (sym (get-empty nat_cmp q) ∙ ap (λ (m : PageRuns). map.get m q) (sym none) ∙ is));
  whole = λ n b is. absurd (none-some b is);
}

-- ---- a slab is opened
-- where slab n is not open its range is free
pub meets_none : (p : Shape) (opens : List (ℕ × Slab)) (n : ℕ) (runs : PageRuns) → IsShape p → has n opens ≡ false → HoldsSlabs p opens runs → MeetsNone runs (slab_at p n) p.slab
meets_none p opens n runs shape off h = record {
  fresh = by_none (map.get runs (slab_at p n)) (λ b is. let r = h.only (slab_at p n) b is in not_on opens n r.number r.slab off r.slab_is (slab_apart p.first p.slab n r.number (omega (arith, slab_some p shape)) r.first_is));
  apart = λ q b is. (let r = h.only q b is in
      let l : length b ≡ p.slab = ap (λ (y : List ℕ). length y) r.bytes_is ∙ all_bytes p opens runs h r.own r.number r.slab r.slab_is in
      let ne : n ≢ r.number = not_on opens n r.number r.slab off r.slab_is in
      ⊎_elim
      (λ lt. inr (omega (arith, slab_row p.first p.slab n r.number lt, r.first_is)))
      (λ ge. inl (omega (arith, slab_row p.first p.slab r.number n (below n r.number ge ne), r.first_is, l)))
      (cases_lt n r.number));
}
  where
    by_none : (o : Option (List ℕ)) → ((b : List ℕ) → o ≡ Some b → ⊥) → o ≡ None
    by_none None no_run = refl
    by_none (Some b) no_run = absurd (no_run b refl)

    below : (n m : ℕ) → m ≤ n → n ≢ m → m < n
    below n m le ne = omega arith

pub holds_opened : (p : Shape) (opens : List (ℕ × Slab)) (n k : ℕ) (runs : PageRuns) → IsShape p → has_bytes p ≡ true → HoldsSlabs p opens runs
    → HoldsSlabs p (put n (new_slab p k) opens) (map.insert runs (slab_at p n) (zeros p.slab))
holds_opened p opens n k runs shape own h =
    let x : Slab = new_slab p k in
    let is_new : x.bytes ≡ zeros p.slab = bytes_new p k own in
    let some : 1 ≤ p.slab = omega (arith, slab_some p shape) in
    record {
      each = λ o m b is. ⊎_elim
          (λ e. get_same runs (slab_at p n) (zeros p.slab) (slab_at p m) (ap (λ (y : ℕ). slab_at p y) (sym e)) ∙ ap (λ (y : List ℕ). Some y) (sym is_new)
          ∙ ap (λ (y : Slab). Some y.bytes) (same_Some x b (sym (at_put_same n m x opens e) ∙ is)))
          (λ ne. get_other runs (slab_at p n) (zeros p.slab) (slab_at p m) (λ e. ne (slab_apart p.first p.slab n m some (sym e))) ∙ h.each o m b (sym (at_put_other n m x opens ne) ∙ is))
          (cases_eq n m);
      only = λ q bytes is. ⊎_elim
          (λ e. record { own = own; number = n; slab = x; first_is = e; slab_is = at_put_same n n x opens refl; bytes_is = same_Some bytes (zeros p.slab) (sym is ∙ get_same runs (slab_at p n) (zeros p.slab) q e) ∙ sym is_new })
          (λ ne. let o = h.only q bytes (sym (get_other runs (slab_at p n) (zeros p.slab) q ne) ∙ is) in record {
            own = own;
            number = o.number;
            slab = o.slab;
            first_is = o.first_is;
            slab_is = at_put_other n o.number x opens (λ e. ne (o.first_is ∙ ap (λ (y : ℕ). slab_at p y) (sym e))) ∙ o.slab_is;
            bytes_is = o.bytes_is;
          })
          (cases_eq q (slab_at p n));
      whole = λ m b is. ⊎_elim
          (λ e. ap (λ (y : Slab). length y.bytes) (same_Some b x (sym is ∙ at_put_same n m x opens e)) ∙ ap (λ (y : List ℕ). length y) is_new ∙ length-replicate p.slab 0 ∙ sym (bytes_of p own))
          (λ ne. h.whole m b (sym (at_put_other n m x opens ne) ∙ is))
          (cases_eq n m);
    }

-- ---- bytes are written
pub holds_write : {p : Shape} {opens : List (ℕ × Slab)} (a len : ℕ) (w : List ℕ) {runs : PageRuns} (after : PageRuns) → IsShape p → length w ≡ len → HoldsSlabs p opens runs → Writes runs a len w after → HoldsSlabs p (overlaid_slabs p a w opens) after
holds_write {p = p} {opens = opens} a len w {runs = runs} after shape long h wrote =
    let some : 1 ≤ p.slab = omega (arith, slab_some p shape) in
    let r = h.only wrote.first wrote.bytes wrote.is_run in
    let k : ℕ = r.number in
    let len_is : length r.slab.bytes ≡ p.slab = all_bytes p opens runs h r.own k r.slab r.slab_is in
    let from : slab_at p k ≤ a = omega (arith, wrote.lies.from, r.first_is) in
    let to : a + length w ≤ slab_at p k + p.slab = omega (arith, wrote.lies.to, r.first_is, ap (λ (l : List ℕ). length l) r.bytes_is, len_is, long) in
    let here : overlaid a w (slab_at p k) r.slab.bytes ≡ written wrote.bytes (a - wrote.first) w =
    ap (λ (x : ℕ). overlaid x w (slab_at p k) r.slab.bytes) (omega arith) ∙ overlaid_written (a - slab_at p k) (slab_at p k) w r.slab.bytes (omega arith)
    ∙ ap (λ (x : ℕ). written r.slab.bytes (a - x) w) (sym r.first_is) ∙ ap (λ (x : List ℕ). written x (a - wrote.first) w) (sym r.bytes_is) in
    let now : (q : ℕ) → map.get after q ≡ map.get (map.insert runs wrote.first (written wrote.bytes (a - wrote.first) w)) q = λ q. ap (λ (m : PageRuns). map.get m q) wrote.value in
    -- the bytes of a slab after the write
    let new : (n : ℕ) (b : Slab) → at n opens ≡ Some b → map.get after (slab_at p n) ≡ Some (overlaid a w (slab_at p n) b.bytes) = λ n b is. now (slab_at p n) ∙ ⊎_elim
    (λ e. get_same runs wrote.first (written wrote.bytes (a - wrote.first) w) (slab_at p n) (ap (λ (x : ℕ). slab_at p x) e ∙ sym r.first_is)
    ∙ ap (λ (x : List ℕ). Some x) (sym here) ∙ ap (λ (x : ℕ). Some (overlaid a w (slab_at p x) r.slab.bytes)) (sym e)
    ∙ ap (λ (x : Slab). Some (overlaid a w (slab_at p n) x.bytes)) (same_Some r.slab b (sym r.slab_is ∙ ap (λ (x : ℕ). at x opens) (sym e) ∙ is)))
    (λ ne. get_other runs wrote.first (written wrote.bytes (a - wrote.first) w) (slab_at p n) (λ e. ne (slab_apart p.first p.slab n k some (e ∙ r.first_is)))
    ∙ h.each r.own n b is ∙ ap (λ (x : List ℕ). Some x) (sym (overlaid_apart a w (slab_at p n) b.bytes (⊎_elim
    (λ lt. inl (omega (arith, slab_row p.first p.slab n k lt, all_bytes p opens runs h r.own n b is)))
    (λ ge. inr (omega (arith, slab_row p.first p.slab k n (omega arith))))
    (cases_lt n k)))))
    (cases_eq n k) in
    record {
      each = λ own n x is. let o = over_at p a w n opens x is in
          new n o.0 o.1 ∙ ap (λ (y : Slab). Some y.bytes) (same_Some (over p a w n o.0) x (sym (at_over p a w n opens o.0 o.1) ∙ is));
      only = λ q bytes is. ⊎_elim
          (λ e. record {
            own = r.own;
            number = k;
            slab = over p a w k r.slab;
            first_is = e ∙ r.first_is;
            slab_is = at_over p a w k opens r.slab r.slab_is;
            bytes_is = same_Some bytes (overlaid a w (slab_at p k) r.slab.bytes) (sym is ∙ ap (λ (x : ℕ). map.get after x) (e ∙ r.first_is) ∙ new k r.slab r.slab_is);
          })
          (λ ne. let o = h.only q bytes (sym (get_other runs wrote.first (written wrote.bytes (a - wrote.first) w) q ne) ∙ sym (now q) ∙ is) in record {
            own = o.own;
            number = o.number;
            slab = over p a w o.number o.slab;
            first_is = o.first_is;
            slab_is = at_over p a w o.number opens o.slab o.slab_is;
            bytes_is = same_Some bytes (overlaid a w (slab_at p o.number) o.slab.bytes) (sym is ∙ ap (λ (x : ℕ). map.get after x) o.first_is ∙ new o.number o.slab o.slab_is);
          })
          (cases_eq q wrote.first);
      whole = λ n x is. let o = over_at p a w n opens x is in
          ap (λ (y : Slab). length y.bytes) (same_Some x (over p a w n o.0) (sym is ∙ at_over p a w n opens o.0 o.1)) ∙ length_overlaid a w (slab_at p n) o.0.bytes ∙ h.whole n o.0 o.1;
    }

-- ---- bytes are read
-- a range within an open slab can be read and written
pub held_in : {p : Shape} (s : State) (n r : ℕ) {a : ℕ} (len : ℕ) {runs : PageRuns} → has_bytes p ≡ true → is_open s n ≡ true → a ≡ slab_at p n + r → r + len ≤ p.slab → 0 < len → HoldsSlabs p s.opens runs → IsHeld runs a len
held_in {p = p} s n r len {runs = runs} own on is fits some h =
    let b = opens_some s.opens n on in
    let l : length b.0.bytes ≡ p.slab = all_bytes p s.opens runs h own n b.0 b.1 in
    (slab_at p n, b.0.bytes, h.each own n b.0 b.1, record { some = some; from = omega arith; to = omega arith })

-- and what is read there are the bytes of the state
pub reads_bytes : (p : Shape) (s : State) (a len : ℕ) (runs : PageRuns) (slice : List ℕ) → HoldsSlabs p s.opens runs → Reads runs a len slice → slice ≡ bytes_from p s a len
reads_bytes p s a len runs slice h reads =
    let r = h.only reads.first reads.bytes reads.is_run in
    let l : length reads.bytes ≡ p.slab = ap (λ (y : List ℕ). length y) r.bytes_is ∙ all_bytes p s.opens runs h r.own r.number r.slab r.slab_is in
    let off : a - reads.first ≡ a - slab_at p r.number = ap (λ (y : ℕ). a - y) r.first_is in
    reads.value ∙ ap (λ (y : ℕ). take len (drop y reads.bytes)) off ∙ ap (λ (y : List ℕ). take len (drop (a - slab_at p r.number) y)) r.bytes_is
    ∙ sym (bytes_in p s r.number (a - slab_at p r.number) a len r.slab (omega (arith, reads.lies.from, r.first_is)) (omega (arith, reads.lies.some, reads.lies.to, reads.lies.from, r.first_is, l)) r.slab_is)

-- ---- slabs without bytes
no_own : (p : Shape) (own : Bool) → own ≡ false → own ≡ true → ⊥
no_own p own off on = true≢false (sym on ∙ off)

pub holds_without : (p : Shape) (opens opens' : List (ℕ × Slab)) (runs : PageRuns) → has_bytes p ≡ false → AllWhole (bytes_of_slab p) opens' → HoldsSlabs p opens runs → HoldsSlabs p opens' runs
holds_without p opens opens' runs off whole h = record {
  each = λ own. absurd (no_own p (has_bytes p) off own);
  only = λ q bytes is. absurd (no_own p (has_bytes p) off (h.only q bytes is).own);
  whole = whole;
}

whole_put : (p : Shape) (opens : List (ℕ × Slab)) (n k : ℕ) → has_bytes p ≡ false → AllWhole (bytes_of_slab p) opens → AllWhole (bytes_of_slab p) (put n (new_slab p k) opens)
whole_put p opens n k off h m b is =
    ⊎_elim
    (λ e. ap (λ (y : Slab). length y.bytes) (same_Some b (new_slab p k) (sym is ∙ at_put_same n m (new_slab p k) opens e)) ∙ ap (λ (t : Bool). length (cond {A = List ℕ} t (zeros p.slab) [])) off ∙ ap (λ (t : Bool). cond t p.slab 0) (sym off))
    (λ ne. h m b (sym (at_put_other n m (new_slab p k) opens ne) ∙ is))
    (cases_eq n m)

-- a slab was opened, with bytes or without
pub holds_made : (p : Shape) (opens : List (ℕ × Slab)) (n k : ℕ) (runs : PageRuns) → IsShape p → HoldsSlabs p opens runs → HoldsSlabs p (put n (new_slab p k) opens) (made_page_runs p n runs)
holds_made p opens n k runs shape h = of (has_bytes p) refl
  where
    of : (own : Bool) → has_bytes p ≡ own → HoldsSlabs p (put n (new_slab p k) opens) (made_page_runs p n runs)
    of true own = subst (λ (r : PageRuns). HoldsSlabs p (put n (new_slab p k) opens) r) (ap (λ (t : Bool). cond t (map.insert runs (slab_at p n) (zeros p.slab)) runs) (sym own)) (holds_opened p opens n k runs shape own h)
    of false off = subst (λ (r : PageRuns). HoldsSlabs p (put n (new_slab p k) opens) r) (ap (λ (t : Bool). cond t (map.insert runs (slab_at p n) (zeros p.slab)) runs) (sym off))
        (holds_without p opens (put n (new_slab p k) opens) runs off (whole_put p opens n k off h.whole) h)

-- ---- a slab is shut
module _ {X : Type 0} (m : FinMap nat_cmp X) (k q : ℕ) where
  gone_same : q ≡ k → map.get (map.remove m k) q ≡ None
  gone_same e = get-remove nat_cmp_total m k q ∙ ap (λ (b : Bool). cond b None (map.get m q)) (same q k e)
    where
      same : (q k : ℕ) → q ≡ k → eq_by_cmp nat_cmp q k ≡ true
      same q k e = grind (arith, nat_tests)

  gone_other : q ≢ k → map.get (map.remove m k) q ≡ map.get m q
  gone_other ne = get-remove nat_cmp_total m k q ∙ ap (λ (b : Bool). cond b None (map.get m q)) (apart q k ne)
    where
      apart : (q k : ℕ) → q ≢ k → eq_by_cmp nat_cmp q k ≡ false
      apart q k ne = grind (arith, nat_tests)

-- the bytes of an open slab are a run
pub slab_page_run : (p : Shape) (opens : List (ℕ × Slab)) (n : ℕ) (runs : PageRuns) → has_bytes p ≡ true → has n opens ≡ true → HoldsSlabs p opens runs → IsPageRun runs (slab_at p n) p.slab
slab_page_run p opens n runs own on h = let b = opens_some opens n on in (b.0.bytes, h.each own n b.0 b.1, all_bytes p opens runs h own n b.0 b.1)

still : (n m : ℕ) (b : Slab) (opens : List (ℕ × Slab)) → at m (removed n opens) ≡ Some b → n ≢ m
still n m b opens is e = true≢false (sym (ap (λ (o : Option Slab). is_some o) (ap (λ (x : ℕ). at x (removed n opens)) e ∙ is)) ∙ has_removed_same n opens)

pub holds_retired : (p : Shape) (opens : List (ℕ × Slab)) (n : ℕ) (runs : PageRuns) → IsShape p → HoldsSlabs p opens runs
    → HoldsSlabs p (removed n opens) (cond (has_bytes p) (map.remove runs (slab_at p n)) runs)
holds_retired p opens n runs shape h = of (has_bytes p) refl
  where
    some : 1 ≤ p.slab
    some = omega (arith, slab_some p shape)

    whole : AllWhole (bytes_of_slab p) (removed n opens)
    whole m b is = h.whole m b (sym (at_removed n m opens (still n m b opens is)) ∙ is)

    with_bytes : has_bytes p ≡ true → HoldsSlabs p (removed n opens) (map.remove runs (slab_at p n))
    with_bytes own = record {
      each = λ o m b is. (let ne = still n m b opens is in
          gone_other runs (slab_at p n) (slab_at p m) (λ e. ne (slab_apart p.first p.slab n m some (sym e))) ∙ h.each o m b (sym (at_removed n m opens ne) ∙ is));
      only = λ q bytes is. ⊎_elim
          (λ e. absurd (none-some bytes (sym (gone_same runs (slab_at p n) q e) ∙ is)))
          (λ ne. let o = h.only q bytes (sym (gone_other runs (slab_at p n) q ne) ∙ is) in record {
            own = own;
            number = o.number;
            slab = o.slab;
            first_is = o.first_is;
            slab_is = at_removed n o.number opens (λ e. ne (o.first_is ∙ ap (λ (y : ℕ). slab_at p y) (sym e))) ∙ o.slab_is;
            bytes_is = o.bytes_is;
          })
          (cases_eq q (slab_at p n));
      whole = whole;
    }

    of : (own : Bool) → has_bytes p ≡ own → HoldsSlabs p (removed n opens) (cond (has_bytes p) (map.remove runs (slab_at p n)) runs)
    of true own = subst (λ (r : PageRuns). HoldsSlabs p (removed n opens) r) (ap (λ (t : Bool). cond t (map.remove runs (slab_at p n)) runs) (sym own)) (with_bytes own)
    of false off = subst (λ (r : PageRuns). HoldsSlabs p (removed n opens) r) (ap (λ (t : Bool). cond t (map.remove runs (slab_at p n)) runs) (sym off)) (holds_without p opens (removed n opens) runs off whole h)

-- ---- a slab is purged
drop_whole : (n : ℕ) (b : List ℕ) → length b ≤ n → drop n b ≡ []
drop_whole zero [] le = refl
drop_whole (suc n) [] le = refl
drop_whole zero (x ∷ b) le = absurd (omega arith)
drop_whole (suc n) (x ∷ b) le = drop_whole n b (omega arith)

-- bytes that are all written over
all_over : (b w : List ℕ) (i : ℕ) → i ≡ 0 → length b ≡ length w → w ≡ written b i w
all_over b w i e same = sym (ap (λ (j : ℕ). written b j w) e ∙ ap (λ (l : List ℕ). w ++ l) (drop_whole (0 + length w) b (omega arith)) ∙ append-nil w)

pub holds_purged : (p : Shape) (opens : List (ℕ × Slab)) (n : ℕ) (runs : PageRuns) → IsShape p → has_bytes p ≡ true → has n opens ≡ true → HoldsSlabs p opens runs
    → HoldsSlabs p (overlaid_slabs p (slab_at p n) (zeros p.slab) opens) (map.insert runs (slab_at p n) (zeros p.slab))
holds_purged p opens n runs shape own on h =
    let b = opens_some opens n on in
    let z : length (zeros p.slab) ≡ p.slab = length-replicate {A = ℕ} p.slab 0 in
    let len : length b.0.bytes ≡ p.slab = all_bytes p opens runs h own n b.0 b.1 in
    let some : 1 ≤ p.slab = omega (arith, slab_some p shape) in
    holds_write (slab_at p n) p.slab (zeros p.slab) (map.insert runs (slab_at p n) (zeros p.slab)) shape z h (record {
      first = slab_at p n;
      bytes = b.0.bytes;
      is_run = h.each own n b.0 b.1;
      lies = record { some = omega (arith, some); from = omega arith; to = omega (arith, len) };
      value = ap (λ (l : List ℕ). map.insert runs (slab_at p n) l) (all_over b.0.bytes (zeros p.slab) (slab_at p n - slab_at p n) (omega arith) (len ∙ sym z));
    })
