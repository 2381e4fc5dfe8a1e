-- What a book says after an entry that is allowed and drawn.
use Rattle.std.proofs.Common.{◌≡◌, ◌≢◌, ℕ, ◌+◌, Bool, true, false, cond, not, ◌&&◌, List, [], ◌∷◌, take, Option, Some, None, sym, ◌∙◌, ap, subst, refl, true≢false}
use Rattle.std.specs.Prelude.{IfSome, slice_index_or}
use Rattle.hm_model.specs.declared.entry.Entry.{Entry}
use Rattle.hm_model.specs.declared.entry.Choices.{Choices}
use Rattle.hm_model.specs.declared.entry.Call.{Call}
use Rattle.hm_model.specs.declared.entry.Call.TheVariants.{Allot, GiveBack, Fill}
use Rattle.hm_model.specs.declared.entry.Reply.{Reply}
use Rattle.hm_model.specs.declared.entry.Reply.TheVariants.{Given, Overwritten, Freed, Filled}
use Rattle.hm_model.specs.Maps.{without}
use Rattle.hm_model.specs.Runs.{expand}
use Rattle.hm_choice.specs.Stream.{Words, canary_of}
use Rattle.hm_quarantine.specs.Quarantine.{Kept, kept_with, let_go}
use Rattle.hm_sizes.specs.declared.shape.Shape.{Shape}
use Rattle.hm_sizes.specs.Shapes.{slab_of, place}
use Rattle.hm_class_rules.specs.State.{State, is_taken}
use Rattle.hm_class_rules.specs.Bytes.{write}
use Rattle.hm_class_rules.specs.Steps.{changed, step}
use Rattle.hm_class_rules.specs.Rules.{Terms, Allowed}
use Rattle.hm_class_rules.specs.Draws.{Event, Picked, Returned, Undrawn, event, event_of, word_count, words_of, words_from, after_words, canary_words, start_words, array_words, parking_words, array_index, parking_index}
use Rattle.hm_class_rules.specs.Kinds.{Kind, Partial, Empty, Neither, kind, same_kind}
use Rattle.hm_class_rules.specs.Stepped.{Cells, next, touched, listed, front, quarantine_with, parking_with, parking_after, IsSteppedEntry, IsSteppedEvent}
use Rattle.hm_class_rules.specs.Drawn.{unparked_by}
use Rattle.hm_class_rules.proofs.Changes.{kind_alike, open_write}
use Rattle.hm_class_book.specs.Reached.{Said, at_state, IsReached, Takes, Found, FoundPicked, FoundFreed}
use Rattle.hm_class_book.proofs.Reaching.{next_reached}

-- ---- the cells after an entry, by what it draws
abbrev next_by : Terms → Cells → Entry → Event → Cells
next_by t c e ev =
    let n = touched t.shape e.choices.released ev in
    let after = step t.shape c.state e in
    record {
      state = after;
      stream = after_words c.stream e.draws.used;
      partial = listed Partial n (kind t.shape c.state n) (kind t.shape after n) c.partial;
      empty = listed Empty n (kind t.shape c.state n) (kind t.shape after n) c.empty;
      quarantine = quarantine_with t.shape e ev c.quarantine;
      parking = parking_after t e ev c.parking;
    }

next_is : (t : Terms) (c : Cells) (e : Entry) (ev : Event) → event e ≡ ev → next t c e ≡ next_by t c e ev
next_is t c e ev is = ap (next_by t c e) is

-- ---- nothing is drawn
same_is : (k : Kind) → same_kind k k ≡ true
same_is Partial = refl
same_is Empty = refl
same_is Neither = refl

listed_same : (wanted : Kind) (n : ℕ) (k j : Kind) (list : List ℕ) → j ≡ k → listed wanted n k j list ≡ list
listed_same wanted n k j list e =
    ap (λ (x : Kind). listed wanted n k x list) e
    ∙ ap (λ (b : Bool). cond b list (cond (same_kind k wanted) (n ∷ list) (cond (same_kind k wanted) (without n list) list))) (same_is k)

plain_kind : (p : Shape) (s : State) (c : Choices) (call : Call) (reply : Reply) (n f : ℕ) → event_of call reply ≡ Undrawn
    → kind p (record (changed p c call reply s) { faults = f }) n ≡ kind p s n
plain_kind p s c (Allot asked align) (Given a size) n f e = absurd (cc)
plain_kind p s c (Allot asked align) (Overwritten a at found) n f e = absurd (cc)
plain_kind p s c (GiveBack a stated) Freed n f e = absurd (cc)
plain_kind p s c (Fill a runs) Filled n f e = kind_alike p (record (write p a (expand runs) s) { faults = f }) s n (λ i lt. ap (λ (b : Bool). b && not (is_taken s (place p n i))) (open_write p a (expand runs) s n))
plain_kind p s c call reply n f e = refl

-- with the entry's count of page faults
abbrev pub counted : State → ℕ → State
counted s f = record s { faults = f }

plain_cells : (t : Terms) (c : Cells) (e : Entry) → event e ≡ Undrawn → e.draws.used ≡ 0 → record c { state = step t.shape c.state e } ≡ next_by t c e Undrawn
plain_cells t c e none used =
    let same = plain_kind t.shape c.state e.choices e.call e.reply 0 e.faults_after none in
    λ i. record {
      state = step t.shape c.state e;
      stream = after_words c.stream (sym used i);
      partial = sym (listed_same Partial 0 (kind t.shape c.state 0) (kind t.shape (step t.shape c.state e) 0) c.partial same) i;
      empty = sym (listed_same Empty 0 (kind t.shape c.state 0) (kind t.shape (step t.shape c.state e) 0) c.empty same) i;
      quarantine = c.quarantine;
      parking = c.parking;
    }

plain_drawn : (t : Terms) (c : Cells) (e : Entry) → event e ≡ Undrawn → e.draws.used ≡ 0 → IsSteppedEntry t c e
plain_drawn t c e none used = record {
  count = used ∙ sym (ap (word_count t e.choices) none);
  words = ap (λ (n : ℕ). take n (e.draws.w0 ∷ e.draws.w1 ∷ e.draws.w2 ∷ [])) used ∙ sym (ap (words_from c.stream) used);
  choices = subst (λ (ev : Event). IsSteppedEvent t c e ev) (sym none) tt;
}

not_plain : (t : Terms) (c : Cells) (e : Entry) → event e ≡ Undrawn → IsSteppedEntry t c e → e.draws.used ≡ 0
not_plain t c e none d = d.count ∙ ap (word_count t e.choices) none

-- what is taken
takes : (b new : Said) (e : Entry) → IsReached b → Allowed b.terms b.cells.state e → IsSteppedEntry b.terms b.cells e → new ≡ record b { cells = next b.terms b.cells e } → Takes b new e
takes b new e r allowed drawn said = record {
  allowed = allowed;
  drawn = drawn;
  said = said;
  reached = subst (λ (x : Said). IsReached x) (sym said) (next_reached b.seed b.arena b.terms b.cells e r allowed drawn);
}

-- ---- of an entry at which nothing is drawn
module _ (b : Said) (now : State) (e : Entry) (legal : Bool) (f : Found b e legal now) where
  pub plain_illegal : legal ≡ false → Allowed b.terms b.cells.state e → ⊥
  plain_illegal fails allowed = true≢false (sym (f.allows.1 allowed) ∙ fails)

  pub plain_undrawn : legal ≡ true → e.draws.used ≢ 0 → Allowed b.terms b.cells.state e × (IsSteppedEntry b.terms b.cells e → ⊥)
  plain_undrawn holds some = (f.allows.0 holds, λ d. some (not_plain b.terms b.cells e f.undrawn d))

  pub plain_taken : legal ≡ true → e.draws.used ≡ 0 → Takes b (at_state b (counted now e.faults_after)) e
  plain_taken holds none =
      takes b (at_state b (counted now e.faults_after)) e f.reached (f.allows.0 holds) (plain_drawn b.terms b.cells e f.undrawn none)
      (ap (λ (s : State). at_state b (counted s e.faults_after)) (f.changed holds)
      ∙ ap (λ (c : Cells). record b { cells = c }) (plain_cells b.terms b.cells e f.undrawn none ∙ sym (next_is b.terms b.cells e Undrawn f.undrawn)))

-- the words of an entry are so many, and the next ones of a stream
abbrev pub AreWords : Words → Entry → ℕ → Type 0
AreWords stream e count = (e.draws.used ≡ count) × (words_of e.draws ≡ words_from stream e.draws.used)

-- ---- of one in which a slot was picked
module _ (b : Said) (now : State) (e : Entry) (a : ℕ) (k : Kind) (first : Bool) (f : FoundPicked b e a k (Some first) now) where
  abbrev count : ℕ
  count = canary_words b.terms.shape e.choices + start_words b.terms.config

  abbrev Canary : Type 0
  Canary = IfSome e.choices.canary (λ n. n ≡ canary_of e.draws.w0 e.draws.w1)

  abbrev FromFront : Type 0
  FromFront = e.choices.opened ≡ None → front b.cells.partial b.cells.empty ≡ Some (slab_of b.terms.shape a)

  pub picked_parts : IsSteppedEntry b.terms b.cells e → AreWords b.cells.stream e count × Canary × FromFront × (first ≡ true)
  picked_parts d =
      let picks : IsSteppedEvent b.terms b.cells e (Picked a) = subst (λ (ev : Event). IsSteppedEvent b.terms b.cells e ev) f.event_is d.choices in (
        (d.count ∙ ap (λ (ev : Event). word_count b.terms e.choices ev) f.event_is, d.words),
        picks.picked.canary,
        picks.source,
        f.judged.1.1 picks.picked.place,
      )

  pub picked_stepped : AreWords b.cells.stream e count → Canary → FromFront → first ≡ true → IsSteppedEntry b.terms b.cells e
  picked_stepped words canary source is = record {
    count = words.0 ∙ sym (ap (λ (ev : Event). word_count b.terms e.choices ev) f.event_is);
    words = words.1;
    choices = subst (λ (ev : Event). IsSteppedEvent b.terms b.cells e ev) (sym f.event_is)
        (record { picked = record { canary = canary; place = f.judged.1.0 is }; source = source });
  }

  pub picked_taken : (stream : Words) (partial empty : List ℕ) (j : Kind) → AreWords b.cells.stream e count → Canary → FromFront → first ≡ true
      → stream ≡ after_words b.cells.stream e.draws.used
      → partial ≡ listed Partial (slab_of b.terms.shape a) k j b.cells.partial → empty ≡ listed Empty (slab_of b.terms.shape a) k j b.cells.empty
      → j ≡ kind b.terms.shape (counted now e.faults_after) (slab_of b.terms.shape a)
      → Takes b (record b { cells = record b.cells { state = counted now e.faults_after; stream = stream; partial = partial; empty = empty } }) e
  picked_taken stream partial empty j words canary source is s p q to =
      let n : ℕ = slab_of b.terms.shape a in
      let moves : counted now e.faults_after ≡ step b.terms.shape b.cells.state e = ap (λ (x : State). counted x e.faults_after) f.judged.2 in
      let after : j ≡ kind b.terms.shape (step b.terms.shape b.cells.state e) n = to ∙ ap (λ (x : State). kind b.terms.shape x n) moves in
      takes b _ e f.reached f.judged.0 (picked_stepped words canary source is)
      (ap (λ (c : Cells). record b { cells = c })
      ((λ i. record {
        state = moves i;
        stream = s i;
        partial = (p ∙ (λ h. listed Partial n (f.kind_is h) (after h) b.cells.partial)) i;
        empty = (q ∙ (λ h. listed Empty n (f.kind_is h) (after h) b.cells.empty)) i;
        quarantine = b.cells.quarantine;
        parking = b.cells.parking;
      }) ∙ sym (next_is b.terms b.cells e (Picked a) f.event_is)))

-- ---- of one in which a block was taken back
module _ (b : Said) (now : State) (e : Entry) (a : ℕ) (k : Kind) (legal : Bool) (f : FoundFreed b e a k legal now) where
  abbrev free_count : ℕ
  free_count = array_words b.terms.shape + parking_words e.choices

  abbrev Leaves : Type 0
  Leaves = e.choices.released ≡ let_go b.cells.quarantine a (array_index b.terms.shape e.draws)

  abbrev IsUnparked : Type 0
  IsUnparked = e.choices.unparked ≡ unparked_by e.choices.retired (slice_index_or b.cells.parking (parking_index b.terms e.draws) None)

  pub freed_illegal : legal ≡ false → Allowed b.terms b.cells.state e → ⊥
  freed_illegal fails allowed = true≢false (sym (f.allows.1 allowed) ∙ fails)

  pub freed_parts : IsSteppedEntry b.terms b.cells e → AreWords b.cells.stream e free_count × Leaves × IsUnparked
  freed_parts d =
      let frees : IsSteppedEvent b.terms b.cells e (Returned a) = subst (λ (ev : Event). IsSteppedEvent b.terms b.cells e ev) f.event_is d.choices in (
        (d.count ∙ ap (λ (ev : Event). word_count b.terms e.choices ev) f.event_is, d.words),
        frees.released,
        frees.unparked,
      )

  pub freed_stepped : AreWords b.cells.stream e free_count → Leaves → IsUnparked → IsSteppedEntry b.terms b.cells e
  freed_stepped words released unparked = record {
    count = words.0 ∙ sym (ap (λ (ev : Event). word_count b.terms e.choices ev) f.event_is);
    words = words.1;
    choices = subst (λ (ev : Event). IsSteppedEvent b.terms b.cells e ev) (sym f.event_is) (record { released = released; unparked = unparked });
  }

  pub freed_taken : (stream : Words) (partial empty : List ℕ) (quarantine : Kept) (parking : List (Option ℕ)) (j : Kind) → legal ≡ true
      → AreWords b.cells.stream e free_count → Leaves → IsUnparked
      → stream ≡ after_words b.cells.stream e.draws.used
      → partial ≡ listed Partial (touched b.terms.shape e.choices.released (Returned a)) k j b.cells.partial
      → empty ≡ listed Empty (touched b.terms.shape e.choices.released (Returned a)) k j b.cells.empty
      → quarantine ≡ kept_with b.cells.quarantine a (array_index b.terms.shape e.draws)
      → parking ≡ parking_with (parking_index b.terms e.draws) e.choices.retired b.cells.parking
      → j ≡ kind b.terms.shape (counted now e.faults_after) (touched b.terms.shape e.choices.released (Returned a))
      → Takes b (record b {
        cells = record {
          state = counted now e.faults_after;
          stream = stream;
          partial = partial;
          empty = empty;
          quarantine = quarantine;
          parking = parking;
        };
      }) e
  freed_taken stream partial empty quarantine parking j holds words released unparked s p q o r to =
      let n : ℕ = touched b.terms.shape e.choices.released (Returned a) in
      let moves : counted now e.faults_after ≡ step b.terms.shape b.cells.state e = ap (λ (x : State). counted x e.faults_after) (f.changed holds) in
      let after : j ≡ kind b.terms.shape (step b.terms.shape b.cells.state e) n = to ∙ ap (λ (x : State). kind b.terms.shape x n) moves in
      takes b _ e f.reached (f.allows.0 holds) (freed_stepped words released unparked)
      (ap (λ (c : Cells). record b { cells = c })
      ((λ i. record {
        state = moves i;
        stream = s i;
        partial = (p ∙ (λ h. listed Partial n (f.kind_is h) (after h) b.cells.partial)) i;
        empty = (q ∙ (λ h. listed Empty n (f.kind_is h) (after h) b.cells.empty)) i;
        quarantine = o i;
        parking = r i;
      }) ∙ sym (next_is b.terms b.cells e (Returned a) f.event_is)))
