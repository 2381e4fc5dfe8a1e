-- Where the entries of a step stand.
use Rattle.std.proofs.Common.{◌≡◌, ℕ, zero, suc, ◌<◌, ◌==◌, Bool, true, false, cond, List, [], ◌∷◌, ◌++◌, length, map, slice_index_or, Some, sym, ◌∙◌, ap, subst, refl, arith, append_assoc}
use Rattle.std.specs.Prelude.{slice_get}
use Rattle.std.specs.List.{filter}
use Rattle.std.proofs.lemmas.Bool.{eq-eqb}
use Rattle.std.proofs.lemmas.Option.{none-some, same_Some, slice_get_within}
use Rattle.hm_outside.specs.declared.pages.Pages as pages
use Rattle.hm_model.specs.declared.entry.Entry.{Entry}
use Rattle.hm_heap.specs.declared.close.Closed.{Closed}
use Rattle.hm_heap.specs.declared.close.History.{History}
use Rattle.hm_run.specs.declared.words.Options.{Options}
use Rattle.hm_run.specs.Replayed.{AreEnds}
use Rattle.hm_laws.specs.Steps.{Added, added_at, AreOfStep, Stands}

-- an entry stands among these
abbrev Has : List Entry → Entry → Type 0
Has l e = (n : ℕ) × (slice_get l n ≡ Some e)

one_later : (x e : Entry) (l : List Entry) → Has l e → Has (x ∷ l) e
one_later x e l h = (suc h.0, h.1)

in_added : (added : List Added) (n : ℕ) (x : Added) → slice_get added n ≡ Some x → Has (added_at x.index added) x.entry
in_added [] n x is = absurd (none-some x is)
in_added (y ∷ ys) zero x is =
    subst (λ (z : Added). Has (added_at z.index (y ∷ ys)) z.entry) (same_Some y x is)
    (subst (λ (b : Bool). Has (cond b (y.entry ∷ added_at y.index ys) (added_at y.index ys)) y.entry) (sym (eq-eqb y.index y.index refl)) (0, refl))
in_added (y ∷ ys) (suc n) x is = by (y.index == x.index) (in_added ys n x is)
  where
    by : (b : Bool) → Has (added_at x.index ys) x.entry → Has (cond b (y.entry ∷ added_at x.index ys) (added_at x.index ys)) x.entry
    by true later = one_later y.entry x.entry (added_at x.index ys) later
    by false later = later

out_filter : (f : Entry → Bool) (l : List Entry) (e : Entry) → Has (filter f l) e → Has l e
out_filter f [] e h = h
out_filter f (x ∷ l) e h = by (f x) (λ later. out_filter f l e later) h
  where
    by : (b : Bool) → (Has (filter f l) e → Has l e) → Has (cond b (x ∷ filter f l) (filter f l)) e → Has (x ∷ l) e
    by true more (zero, is) = (0, is)
    by true more (suc n, is) = one_later x e l (more (n, is))
    by false more h = one_later x e l (more h)

-- the history at an index that has an entry
record HasHistory (hs : List History) (index : ℕ) (e : Entry) : Type 0 where
  history : History
  is : slice_get hs index ≡ Some history
  has : Has history.entries e

history_at : (hs : List History) (index : ℕ) (e : Entry) → Has (slice_index_or (map (λ (h : History). h.entries) hs) index []) e → HasHistory hs index e
history_at [] index e h = absurd (none-some e h.1)
history_at (x ∷ hs) zero e h = record { history = x; is = refl; has = h }
history_at (x ∷ hs) (suc index) e h = let later = history_at hs index e h in record { history = later.history; is = later.is; has = later.has }

page_at : {P : Type 0} (ps : List P) (index : ℕ) → index < length ps → (p : P) × (slice_get ps index ≡ Some p)
page_at [] index lt = absurd (omega (arith, lt))
page_at (p ∷ ps) zero lt = (p, refl)
page_at (p ∷ ps) (suc index) lt = page_at ps index (omega (arith, lt))

split_at : (l : List Entry) (e : Entry) → Has l e → (before : List Entry) × (later : List Entry) × (l ≡ before ++ e ∷ later)
split_at [] e h = absurd (none-some e h.1)
split_at (x ∷ l) e (zero, is) = ([], l, ap (λ (y : Entry). y ∷ l) (same_Some x e is))
split_at (x ∷ l) e (suc n, is) = let later = split_at l e (n, is) in (x ∷ later.0, later.1, ap (λ (m : List Entry). x ∷ m) later.2)

-- the same front with the entry at its end
joined : (l before later : List Entry) (e : Entry) → l ≡ before ++ e ∷ later → l ≡ (before ++ e ∷ []) ++ later
joined l before later e is = is ∙ sym (append_assoc before (e ∷ []) later)

module _ {P : Type 0} (meaning : pages.Ghosts P) (o : Options) (closed : Closed P) where
  -- the entry at an index among those of a step
  pub stands : (caller step n : ℕ) (added : List Added) (x : Added) → AreEnds meaning o closed → AreOfStep closed.histories caller step added
      → slice_get added n ≡ Some x → Stands meaning o closed x
  stands caller step n added x ends of is =
      let among : Has (added_at x.index added) x.entry = in_added added n x is in
      let of_caller = out_filter (λ (e : Entry). e.who.step == step) (filter (λ (e : Entry). e.who.caller == caller) (slice_index_or (map (λ (h : History). h.entries) closed.histories) x.index [])) x.entry
      (subst (λ (l : List Entry). Has l x.entry) (sym (of.all x.index)) among) in
      let here = history_at closed.histories x.index x.entry
      (out_filter (λ (e : Entry). e.who.caller == caller) (slice_index_or (map (λ (h : History). h.entries) closed.histories) x.index []) x.entry of_caller) in
      let page = page_at closed.pages x.index (omega (arith, ends.pages, slice_get_within closed.histories x.index here.history here.is)) in
      let parts = split_at here.history.entries x.entry here.has in
      record {
        page = page.0;
        before = parts.0;
        begins = record {
          ends = ends;
          pages_are = page.1;
          history = here.history;
          history_is = here.is;
          later = parts.1;
          is = joined here.history.entries parts.0 parts.1 x.entry parts.2;
        };
      }
