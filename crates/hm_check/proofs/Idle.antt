-- A call that any region may make after any history: it asks for the size of address 0, where no block begins.
use Rattle.std.proofs.Common.{◌≡◌, ℕ, ◌+◌, ◌^◌, ◌<◌, ◌≤◌, ltb, Bool, true, false, cond, List, [], ◌∷◌, ◌++◌, length, Option, Some, None, append-nil, refl, sym, ◌∙◌, ap, subst, arith}
use Rattle.std.proofs.lemmas.Bool.{cond_below}
use Rattle.hm_choice.specs.Stream.{after_word}
use Rattle.hm_model.specs.declared.entry.Call.TheVariants.{Measure}
use Rattle.hm_model.specs.declared.entry.Entry.{Entry}
use Rattle.hm_model.specs.declared.entry.Reply.{Reply}
use Rattle.hm_model.specs.declared.entry.Reply.TheVariants.{NoSlot, NotLive}
use Rattle.hm_model.specs.declared.entry.Who.{Who}
use Rattle.hm_model.specs.Calls.{entry_of, no_choices, no_words}
use Rattle.hm_model.specs.Entries.{AreDraws}
use Rattle.hm_model.specs.Machine.{Legal_push, state_push}
use Rattle.hm_model.specs.Maps.{at, has}
use Rattle.hm_sizes.specs.Origins.{Origin, large_region_number}
use Rattle.hm_sizes.specs.Shapes.{slab_of, slot_of}
use Rattle.hm_sizes.proofs.PlaceTest.{place_is}
use Rattle.hm_class_rules.specs.Drawn.{AreDrawn, IsDrawn, IsDrawnEntry}
use Rattle.hm_class_rules.specs.Draws.{all_words, stream_of, words_from}
use Rattle.hm_class_rules.specs.Rules as class
use Rattle.hm_class_rules.specs.State as class_state
use Rattle.hm_class_rules.specs.Steps as class_steps
use Rattle.hm_class_rules.proofs.Legal as class_legal
use Rattle.hm_large_rules.specs.State.{Block}
use Rattle.hm_large_rules.specs.Drawn as large_draws
use Rattle.hm_large_rules.specs.Rules as large
use Rattle.hm_large_rules.specs.State as block_state
use Rattle.hm_large_rules.specs.Steps as block_steps
use Rattle.hm_large_rules.proofs.BlockLists.{in_space_at}
use Rattle.hm_large_rules.proofs.Legal as large_legal
use Rattle.hm_heap.specs.Lawful.{arena_of, class_terms, fault_count, large_terms}
use Rattle.hm_model.specs.Typed.{EntryFits, EntryRuns, Fits64, ReplyFits}
use Rattle.hm_model.specs.Replies.{HasRuns}
use Rattle.hm_check.specs.Verdicts.{IsDrawnHistory, IsLegalHistory}
use Rattle.hm_check.proofs.Fronts.{all_words_append}

-- ---- the count of page faults
same_either : {X : Type 0} (b : Bool) (x y z : X) → x ≡ z → y ≡ z → cond b x y ≡ z
same_either true x y z e f = e
same_either false x y z e f = f

-- after an entry it is what the entry says
pub count_after : (o : Origin) (es : List Entry) (e : Entry) → fault_count o (es ++ e ∷ []) ≡ e.faults_after
count_after o es e = same_either (ltb o.region large_region_number) _ _ e.faults_after
    (ap (λ (s : class_state.State). s.faults)
    (state_push (class_steps.step (class_terms o).shape) (class.Allowed (class_terms o)) class_state.start es e))
    (ap (λ (s : block_state.State). s.faults)
    (state_push block_steps.step (large.Allowed (large_terms o)) block_state.start es e))

pub count_none : (o : Origin) → fault_count o [] ≡ 0
count_none o = same_either (ltb o.region large_region_number) 0 0 0 refl refl

class_count : (o : Origin) (es : List Entry) → o.region < large_region_number
    → fault_count o es ≡ (class.state (class_terms o) es).faults
class_count o es small = sym (cond_below o.region large_region_number (class.state (class_terms o) es).faults
    (large.state (large_terms o) es).faults small)

large_count : (o : Origin) (es : List Entry) → o.region ≡ large_region_number
    → fault_count o es ≡ (large.state (large_terms o) es).faults
large_count o es is = ap (λ (n : ℕ). cond (ltb n large_region_number) (class.state (class_terms o) es).faults
    (large.state (large_terms o) es).faults) is

-- ---- the entry
abbrev pub nobody : Who
nobody = record { caller = 0; round = 0; thread = 0; step = 0; part = 0 }

abbrev pub reply_of : Origin → Reply
reply_of o = cond (ltb o.region large_region_number) NoSlot NotLive

abbrev pub idle_with : Reply → ℕ → Entry
idle_with reply faults = entry_of nobody (Measure 0) reply no_choices no_words faults faults

abbrev pub idle : Origin → List Entry → Entry
idle o es = idle_with (reply_of o) (fault_count o es)

class_reply : (o : Origin) → o.region < large_region_number → NoSlot ≡ reply_of o
class_reply o small = cond_below o.region large_region_number NoSlot NotLive small

large_reply : (o : Origin) → o.region ≡ large_region_number → reply_of o ≡ NotLive
large_reply o is = ap (λ (n : ℕ). cond (ltb n large_region_number) NoSlot NotLive) is

undrawn_words : AreDraws no_words
undrawn_words = record { first = λ few. refl; second = λ few. refl; third = λ few. refl }

pub idle_fits : (o : Origin) (es : List Entry) → Fits64 (fault_count o es) → EntryFits (idle o es)
idle_fits o es small = record {
  who = (omega arith, omega arith, omega arith, omega arith, omega arith);
  call = omega arith;
  reply = elim (ltb o.region large_region_number) as (λ b. ReplyFits (cond b NoSlot NotLive)) [ true ↦ tt | false ↦ tt ];
  choices = (tt, tt, tt, tt, tt, tt, tt);
  draws = (omega arith, omega arith, omega arith, omega arith);
  before = small;
  after = small;
}

pub idle_runs : (o : Origin) (es : List Entry) → EntryRuns (idle o es)
idle_runs o es = record {
  call = tt;
  reply = elim (ltb o.region large_region_number) as (λ b. HasRuns (cond b NoSlot NotLive)) [ true ↦ tt | false ↦ tt ];
}

-- ---- it is legal
-- a class region begins far above address 0
begins_above : (a b : ℕ) → 1 ≤ (2 ^ 40 + a) + b
begins_above a b = omega arith

none_below : (first rows slots : ℕ) → 1 ≤ first → 0 ≡ (first + rows) + slots → ⊥
none_below first rows slots some is = omega (arith, some, is)

class_allowed : (o : Origin) (s : class_state.State) → class.Allowed (class_terms o) s (idle_with NoSlot s.faults)
class_allowed o s = record {
  draws = undrawn_words;
  asks = tt;
  follows = refl;
  later = omega arith;
  allows = (
    λ place.
        let p = (class_terms o).shape in
        none_below p.first _ _ (begins_above _ _) (place_is p 0 (slab_of p 0) (slot_of p 0) place).is,
    refl,
  );
}

-- no block begins at address 0
none_at : (c : large.Terms) (es : List Entry) → large.IsLegal c es → has 0 (large.state c es).live ≡ false
none_at c es legal = by_found (at 0 (large.state c es).live) refl
  where
    by_found : (o : Option Block) → at 0 (large.state c es).live ≡ o → has 0 (large.state c es).live ≡ false
    by_found None is = rw is refl
    by_found (Some b) is =
        absurd (omega (arith, (in_space_at c.config 0 b (large.state c es).live (large_legal.sound c es legal).live is).from))

large_allowed : (c : large.Terms) (es : List Entry) → large.IsLegal c es
    → large.Allowed c (large.state c es) (idle_with NotLive (large.state c es).faults)
large_allowed c es legal = record {
  draws = undrawn_words;
  asks = tt;
  follows = refl;
  later = omega arith;
  allows = (none_at c es legal, refl);
}

pub idle_legal : (o : Origin) (es : List Entry) → IsLegalHistory o es → IsLegalHistory o (es ++ idle o es ∷ [])
idle_legal o es h = record {
  class = λ small.
      let t = class_terms o in
      class_legal.one_more t es (idle o es) (h.class small)
      (subst (λ (e : Entry). class.Allowed t (class.state t es) e)
      (λ i. idle_with (class_reply o small i) (sym (class_count o es small) i))
      (class_allowed o (class.state t es)));
  large = λ is.
      let t = large_terms o in
      large_legal.one_more t es (idle o es) (h.large is)
      (subst (λ (e : Entry). large.Allowed t (large.state t es) e)
      (λ i. idle_with (sym (large_reply o is) i) (sym (large_count o es is) i))
      (large_allowed t es (h.large is)));
}

-- ---- and drawn
choices_push : (t : class.Terms) (past es : List Entry) (e : Entry) → ((ps : List Entry) → IsDrawnEntry t ps e)
    → AreDrawn t past es → AreDrawn t past (es ++ e ∷ [])
choices_push t past [] e any drawn = (any past, tt)
choices_push t past (x ∷ es) e any drawn = (drawn.0, choices_push t (x ∷ past) es e any drawn.1)

class_drawn : (o : Origin) (es : List Entry) (faults : ℕ) → IsDrawn o.seed (arena_of o.region) (class_terms o) es
    → IsDrawn o.seed (arena_of o.region) (class_terms o) (es ++ idle_with NoSlot faults ∷ [])
class_drawn o es faults h =
    let t = class_terms o in
    let w = after_word (stream_of o.seed (arena_of o.region) t.shape.class) in
    let e : Entry = idle_with NoSlot faults in
    let same : all_words (es ++ e ∷ []) ≡ all_words es = all_words_append es (e ∷ []) ∙ append-nil (all_words es) in
    record {
      shape = h.shape;
      words = subst (λ (l : List ℕ). l ≡ words_from w (length l)) (sym same) h.words;
      choices = choices_push t [] es e (λ ps. record { words = refl; choices = tt }) h.choices;
    }

pub idle_drawn : (o : Origin) (es : List Entry) → IsDrawnHistory o es → IsDrawnHistory o (es ++ idle o es ∷ [])
idle_drawn o es h = record {
  class = λ small.
      subst (λ (reply : Reply). IsDrawn o.seed (arena_of o.region) (class_terms o)
      (es ++ idle_with reply (fault_count o es) ∷ []))
      (class_reply o small) (class_drawn o es (fault_count o es) (h.class small));
  large = λ is.
      subst (λ (reply : Reply). large_draws.IsDrawn o.seed (es ++ idle_with reply (fault_count o es) ∷ []))
      (sym (large_reply o is))
      (Legal_push block_steps.step (large_draws.IsDrawnEntry o.seed) block_state.start es
      (idle_with NotLive (fault_count o es)) (h.large is) refl);
}
