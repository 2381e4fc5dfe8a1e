-- What holds of a region after a legal and drawn history, and that an entry that may come next leads to such a one.
use Rattle.std.proofs.Common.{◌≡◌, ℕ, ◌+◌, Bool, true, false, cond, List, [], ◌∷◌, ◌++◌, length, sym, ◌∙◌, ap, subst, arith}
use Rattle.hm_model.specs.Maps.{among, times}
use Rattle.hm_model.proofs.Lists.{among_times, among_none}
use Rattle.hm_model.specs.declared.entry.Entry.{Entry}
use Rattle.hm_class_rules.specs.State.{State, is_partial, is_empty, empty_slabs}
use Rattle.hm_class_rules.specs.Rules.{Terms, Allowed, state}
use Rattle.hm_class_rules.specs.Stepped.{Cells, next, IsSteppedEntry}
use Rattle.hm_class_rules.specs.DrawnLaws.{AreKept}
use Rattle.hm_class_rules.proofs.Legal.{sound, one_more}
use Rattle.hm_class_rules.proofs.Whole.{whole_run}
use Rattle.hm_class_rules.proofs.NextEntry.{lists_are_kept, one_more_stepped, next_cells}
use Rattle.hm_class_book.specs.Book.{IsKept}
use Rattle.hm_class_book.specs.Sources.{Holds}
use Rattle.hm_class_book.specs.Reached.{Reached}

by_times : (n : ℕ) (list : List ℕ) (b : Bool) → times n list ≡ cond b 1 0 → among n list ≡ b
by_times n list true h = among_times n list (omega (arith, h))
by_times n list false h = among_none n list h

module _ (seed arena : ℕ) (t : Terms) (c : Cells) (r : Reached seed arena t c) where
  lists : AreKept t (state t r.past) c
  lists = subst (λ (x : Cells). AreKept t (state t r.past) x) (sym r.cells_are) (lists_are_kept seed arena t r.past r.parks r.shape r.legal r.stepped)

  pub kept_after : IsKept t.shape c.state
  kept_after = subst (λ (s : State). IsKept t.shape s) (sym lists.state_is)
      (record { shape = r.shape; sound = sound t r.past r.shape r.legal; whole = whole_run t r.past r.legal })

  pub partial_after : Holds c.partial (is_partial t.shape c.state)
  partial_after n = subst (λ (s : State). among n c.partial ≡ is_partial t.shape s n) (sym lists.state_is)
      (by_times n c.partial (is_partial t.shape (state t r.past) n) (lists.partial n))

  pub empty_after : Holds c.empty (is_empty t.shape c.state)
  empty_after n = subst (λ (s : State). among n c.empty ≡ is_empty t.shape s n) (sym lists.state_is)
      (by_times n c.empty (is_empty t.shape (state t r.past) n) (lists.empty n))

  pub empty_count_after : length c.empty ≡ length (empty_slabs t.shape c.state)
  empty_count_after = lists.empty_count ∙ ap (λ (s : State). length (empty_slabs t.shape s)) (sym lists.state_is)

  pub array_after : length c.quarantine.array ≡ t.shape.array
  array_after = lists.array_length

  pub parking_after : length c.parking ≡ t.config.park_length
  parking_after = lists.parking_length

pub next_reached : (seed arena : ℕ) (t : Terms) (c : Cells) (e : Entry) → Reached seed arena t c → Allowed t c.state e → IsSteppedEntry t c e
    → Reached seed arena t (next t c e)
next_reached seed arena t c e r allowed stepped =
    let before = lists seed arena t c r in
    record {
      parks = r.parks;
      shape = r.shape;
      past = r.past ++ e ∷ [];
      legal = one_more t r.past e r.legal (subst (λ (s : State). Allowed t s e) before.state_is allowed);
      stepped = one_more_stepped seed arena t r.past e r.stepped (subst (λ (x : Cells). IsSteppedEntry t x e) r.cells_are stepped);
      cells_are = ap (λ (x : Cells). next t x e) r.cells_are ∙ sym (next_cells seed arena t r.past e);
    }
