-- What the books of both kinds of region say of an entry, as what is legal and drawn after their histories.
use Rattle.std.proofs.Common.{◌≡◌, ℕ, ◌<◌, true, List, [], ◌∷◌, ◌++◌, refl, sym, ◌∙◌, ap, subst, arith}
use Rattle.std.proofs.lemmas.Bool.{cond_below}
use Rattle.hm_model.specs.declared.entry.Entry.{Entry}
use Rattle.hm_sizes.specs.declared.config.Config.{Config}
use Rattle.hm_sizes.specs.Origins.{large_region_number}
use Rattle.hm_class_rules.specs.Drawn.{IsDrawn}
use Rattle.hm_class_rules.specs.Rules.{Allowed, IsLegal, state}
use Rattle.hm_class_rules.specs.State.{State}
use Rattle.hm_class_rules.specs.Stepped.{Cells, IsStepped, IsSteppedEntry, cells}
use Rattle.hm_class_rules.proofs.Alike.{drawn_is_stepped}
use Rattle.hm_class_rules.proofs.Legal.{one_more, one_less}
use Rattle.hm_class_rules.proofs.NextEntry.{lists_are_kept, next_cells, one_less_stepped, one_more_stepped}
use Rattle.hm_class_book.specs.declared.class_book.ClassBook.{ClassBook}
use Rattle.hm_class_book.specs.Reached.{Said, Takes}
use Rattle.hm_class_book.specs.Said.{said}
use Rattle.hm_large_rules.specs.Drawn as large_drawn
use Rattle.hm_large_rules.specs.Rules as large
use Rattle.hm_large_rules.specs.State as large_state
use Rattle.hm_large_rules.specs.Steps as large_steps
use Rattle.hm_large_rules.proofs.Legal.{state_same}
use Rattle.hm_large_rules.proofs.Legal as large_legal
use Rattle.hm_large_book.specs.declared.book.LargeBook.{LargeBook}
use Rattle.hm_large_book.specs.Judged.{terms_of}
use Rattle.hm_large_book.specs.Reached.{IsBookOf}
use Rattle.hm_model.specs.Machine.{Legal_split}
use Rattle.hm_heap.specs.Lawful.{arena_of, fault_count}
use Rattle.hm_check.specs.RegionBooks.{IsClassBook, told_origin, terms_at}
use Rattle.hm_check.specs.Verdicts.{IsDrawnHistory, IsLegalHistory}

-- what a class book says after a history
abbrev says_after : Config → ℕ → ℕ → List Entry → Said
says_after c seed region past = record {
  seed = seed;
  arena = arena_of region;
  terms = terms_at c seed region;
  cells = cells seed (arena_of region) (terms_at c seed region) past;
}

-- ---- a class region
module _ (c : Config) (seed region : ℕ) (past : List Entry) (old : ClassBook)
    (h : IsClassBook c seed region past old) where
  -- the state that the book keeps is that of the history
  state_is : (cells seed (arena_of region) (terms_at c seed region) past).state ≡ state (terms_at c seed region) past
  state_is =
      (lists_are_kept seed (arena_of region) (terms_at c seed region) past h.parks h.shape h.legal h.stepped).state_is

  not_large : region ≡ large_region_number → ⊥
  not_large is = omega (arith, is, h.small)

  legal_class : (es : List Entry) → IsLegal (terms_at c seed region) es → IsLegalHistory (told_origin c seed region) es
  legal_class es legal = record { class = λ small. legal; large = λ is. absurd (not_large is) }

  drawn_class : (es : List Entry) → IsDrawn seed (arena_of region) (terms_at c seed region) es
      → IsDrawnHistory (told_origin c seed region) es
  drawn_class es drawn = record { class = λ small. drawn; large = λ is. absurd (not_large is) }

  module _ (e : Entry) where
    more_legal : Allowed (terms_at c seed region) (cells seed (arena_of region) (terms_at c seed region) past).state e
        → IsLegal (terms_at c seed region) (past ++ e ∷ [])
    more_legal allowed = one_more (terms_at c seed region) past e h.legal
        (subst (λ (s : State). Allowed (terms_at c seed region) s e) state_is allowed)

    pub taken_class : (new : ClassBook) → Takes (said old) (said new) e
        → IsLegalHistory (told_origin c seed region) (past ++ e ∷ [])
        × IsDrawnHistory (told_origin c seed region) (past ++ e ∷ [])
        × IsClassBook c seed region (past ++ e ∷ []) new
    taken_class new takes =
        let k : Takes (says_after c seed region past) (said new) e =
        subst (λ (s : Said). Takes s (said new) e) h.says takes in
        let legal : IsLegal (terms_at c seed region) (past ++ e ∷ []) = more_legal k.allowed in
        let stepped : IsStepped seed (arena_of region) (terms_at c seed region) (past ++ e ∷ []) =
        one_more_stepped seed (arena_of region) (terms_at c seed region) past e h.stepped k.drawn in
        let drawn : IsDrawn seed (arena_of region) (terms_at c seed region) (past ++ e ∷ []) =
        (drawn_is_stepped seed (arena_of region) (terms_at c seed region) (past ++ e ∷ []) h.parks h.shape legal).1
        stepped in (
          legal_class (past ++ e ∷ []) legal,
          drawn_class (past ++ e ∷ []) drawn,
          record {
            small = h.small;
            parks = h.parks;
            shape = h.shape;
            legal = legal;
            stepped = stepped;
            says = k.said ∙ ap (λ (x : Cells). record (says_after c seed region past) { cells = x })
                (sym (next_cells seed (arena_of region) (terms_at c seed region) past e));
          },
        )

    pub refused_class : (Allowed (said old).terms (said old).cells.state e → ⊥)
        → IsLegalHistory (told_origin c seed region) (past ++ e ∷ []) → ⊥
    refused_class refused legal =
        let k : Allowed (terms_at c seed region)
        (cells seed (arena_of region) (terms_at c seed region) past).state e → ⊥ =
        subst (λ (s : Said). Allowed s.terms s.cells.state e → ⊥) h.says refused in
        k (subst (λ (s : State). Allowed (terms_at c seed region) s e) (sym state_is)
        (one_less (terms_at c seed region) past e (legal.class h.small)).1)

    pub undrawn_class : Allowed (said old).terms (said old).cells.state e
        × (IsSteppedEntry (said old).terms (said old).cells e → ⊥)
        → IsLegalHistory (told_origin c seed region) (past ++ e ∷ [])
        × (IsDrawnHistory (told_origin c seed region) (past ++ e ∷ []) → ⊥)
    undrawn_class undrawn =
        let k : Allowed (terms_at c seed region) (cells seed (arena_of region) (terms_at c seed region) past).state e
        × (IsSteppedEntry (terms_at c seed region)
        (cells seed (arena_of region) (terms_at c seed region) past) e → ⊥) =
        subst (λ (s : Said). Allowed s.terms s.cells.state e × (IsSteppedEntry s.terms s.cells e → ⊥)) h.says undrawn in
        let legal : IsLegal (terms_at c seed region) (past ++ e ∷ []) = more_legal k.0 in (
          legal_class (past ++ e ∷ []) legal,
          λ drawn. k.1 (one_less_stepped seed (arena_of region) (terms_at c seed region) past e
              ((drawn_is_stepped seed (arena_of region) (terms_at c seed region) (past ++ e ∷ []) h.parks h.shape
              legal).0 (drawn.class h.small))).1,
        )

  pub faults_class : (said old).cells.state.faults ≡ fault_count (told_origin c seed region) past
  faults_class = ap (λ (s : Said). s.cells.state.faults) h.says
      ∙ ap (λ (s : State). s.faults) state_is
      ∙ cond_below region large_region_number (state (terms_at c seed region) past).faults
      (large.state (record { config = c; told = true }) past).faults h.small

-- ---- the large region
module _ (c : Config) (seed : ℕ) (past : List Entry) where
  large_small : large_region_number < large_region_number → ⊥
  large_small lt = omega (arith, lt)

  legal_large : (es : List Entry) → large.IsLegal (terms_of c) es
      → IsLegalHistory (told_origin c seed large_region_number) es
  legal_large es legal = record { class = λ small. absurd (large_small small); large = λ is. legal }

  pub refused_large : (e : Entry) → (large.Allowed (terms_of c) (large.state (terms_of c) past) e → ⊥)
      → IsLegalHistory (told_origin c seed large_region_number) (past ++ e ∷ []) → ⊥
  refused_large e refused legal = refused (large_legal.one_less (terms_of c) past e (legal.large refl)).1

  pub undrawn_large : (e : Entry) (old : LargeBook) → IsBookOf c seed past old
      → large.Allowed (terms_of c) (large.state (terms_of c) past) e
      × (large_drawn.IsDrawnEntry seed (large.state (terms_of c) past) e → ⊥)
      → IsLegalHistory (told_origin c seed large_region_number) (past ++ e ∷ [])
      × (IsDrawnHistory (told_origin c seed large_region_number) (past ++ e ∷ []) → ⊥)
  undrawn_large e old is undrawn = (
    legal_large (past ++ e ∷ []) (large_legal.one_more (terms_of c) past e is.legal undrawn.0),
    λ drawn. undrawn.1 (subst (λ (s : large_state.State). large_drawn.IsDrawnEntry seed s e)
        (state_same (large_drawn.IsDrawnEntry seed) (large.Allowed (terms_of c)) large_state.start past)
        (Legal_split large_steps.step (large_drawn.IsDrawnEntry seed) large_state.start past (e ∷ []) (drawn.large refl)).1.0),
  )
