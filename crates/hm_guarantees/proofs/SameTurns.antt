-- Histories of one region with the same turns are the same.
use Rattle.std.proofs.Common.{◌≡◌, ⊎_elim, ℕ, suc, ◌≤◌, false, ◌||◌, List, [], ◌∷◌, ◌++◌, map, length, get_or, drop, Option, Some, None, is_some, sym, ◌∙◌, ap, subst, refl, arith, append_assoc}
use Rattle.std.specs.Prelude.{IsTrue}
use Rattle.hm_model.specs.declared.entry.Entry.{Entry}
use Rattle.hm_model.specs.declared.entry.Call.{Call}
use Rattle.hm_model.specs.declared.entry.Call.TheVariants.{Allot, GiveBack, Measure, Fetch, Fill}
use Rattle.hm_model.specs.declared.entry.Reply.{Reply}
use Rattle.hm_model.specs.declared.entry.Reply.TheVariants.{Given, Overwritten, Exhausted, PagesFailed, Freed, NoSlot, Unused, DoubleFree, WrongSize, Canary, Usable, Bytes, Filled, Trap}
use Rattle.hm_model.specs.declared.entry.Choices.{Choices}
use Rattle.hm_model.specs.Machine.{Legal, Legal_split}
use Rattle.hm_sizes.specs.Shapes.{IsShape}
use Rattle.hm_class_rules.specs.State.{State, start}
use Rattle.hm_class_rules.specs.Steps.{takes_back, releases, step}
use Rattle.hm_class_rules.specs.Rules.{Terms, Allows, Allowed, Empties, IsLegal, surplus}
use Rattle.hm_class_rules.specs.Drawn.{IsDrawn}
use Rattle.hm_class_rules.specs.Stepped.{first_cells, next, IsSteppedEntry, IsStepped}
use Rattle.hm_model.specs.Replies.{is_page_fault}
use Rattle.hm_class_rules.specs.OneEntry.{has_page_fault, IsNext}
use Rattle.hm_class_rules.proofs.Alike.{drawn_is_stepped}
use Rattle.hm_class_rules.proofs.SameEntry.{one_next}
use Rattle.hm_guarantees.specs.SameTurns.{Turn, turn_of, Asked, asked_of, HaveRuns, HaveNoFault, SameTurns, SameCalls}

-- ---- two histories
-- what has the same turns has them one by one
first_turn : (e f : Entry) (es fs : List Entry) → map turn_of (e ∷ es) ≡ map turn_of (f ∷ fs) → turn_of e ≡ turn_of f
first_turn e f es fs same = ap (λ (l : List Turn). get_or l 0 (turn_of e)) same

later_turns : (e f : Entry) (es fs : List Entry) → map turn_of (e ∷ es) ≡ map turn_of (f ∷ fs) → map turn_of es ≡ map turn_of fs
later_turns e f es fs same = ap (λ (l : List Turn). drop 1 l) same

-- both go on from what they have in common
record GoOn (seed arena : ℕ) (t : Terms) (done es : List Entry) : Type 0 where
  legal : IsLegal t (done ++ es)
  stepped : IsStepped seed arena t (done ++ es)
  runs : HaveRuns es

record FirstGoesOn (seed arena : ℕ) (t : Terms) (done : List Entry) (e : Entry) : Type 0 where
  legal : IsLegal t done
  stepped : IsStepped seed arena t done
  next_is : IsNext seed arena t done e

first_goes_on : (seed arena : ℕ) (t : Terms) (done es : List Entry) (e : Entry) → GoOn seed arena t done (e ∷ es) → FirstGoesOn seed arena t done e
first_goes_on seed arena t done es e h =
    let l = Legal_split (step t.shape) (Allowed t) start done (e ∷ es) h.legal in
    let d = Legal_split (next t) (IsSteppedEntry t) (first_cells seed arena t) done (e ∷ es) h.stepped.entries in
    record {
      legal = l.0;
      stepped = record { shape = h.stepped.shape; entries = d.0 };
      next_is = record { allowed = l.1.0; drawn = d.1.0; runs = h.runs.0 };
    }

rest_goes_on : (seed arena : ℕ) (t : Terms) (done es : List Entry) (e : Entry) → GoOn seed arena t done (e ∷ es) → GoOn seed arena t (done ++ e ∷ []) es
rest_goes_on seed arena t done es e h =
    let same : done ++ (e ∷ es) ≡ (done ++ e ∷ []) ++ es = sym (append_assoc done (e ∷ []) es) in
    record {
      legal = subst (λ (l : List Entry). IsLegal t l) same h.legal;
      stepped = subst (λ (l : List Entry). IsStepped seed arena t l) same h.stepped;
      runs = h.runs.1;
    }

same_from : (seed arena : ℕ) (t : Terms) (done es fs : List Entry) → 1 ≤ t.config.park_length → IsShape t.shape → IsTrue t.told
    → GoOn seed arena t done es → GoOn seed arena t done fs → map turn_of es ≡ map turn_of fs → es ≡ fs
same_from seed arena t done [] [] parks shape told x y same = refl
same_from seed arena t done [] (f ∷ fs) parks shape told x y same = let none : 0 ≡ suc (length (map turn_of fs)) = ap (λ (l : List Turn). length l) same in absurd (omega (arith, none))
same_from seed arena t done (e ∷ es) [] parks shape told x y same = let none : suc (length (map turn_of es)) ≡ 0 = ap (λ (l : List Turn). length l) same in absurd (omega (arith, none))
same_from seed arena t done (e ∷ es) (f ∷ fs) parks shape told x y same =
    let a = first_goes_on seed arena t done es e x in
    let b = first_goes_on seed arena t done fs f y in
    let turn = first_turn e f es fs same in
    let one : e ≡ f = one_next seed arena t done e f parks shape told a.legal a.stepped a.next_is b.next_is (ap (λ (u : Turn). u.who) turn) (ap (λ (u : Turn). u.call) turn) (ap (λ (u : Turn). u.faults) turn) (ap (λ (u : Turn). u.page_fault) turn) in
    let there : GoOn seed arena t (done ++ e ∷ []) fs = subst (λ (z : Entry). GoOn seed arena t (done ++ z ∷ []) fs) (sym one) (rest_goes_on seed arena t done fs f y) in
    let rest : es ≡ fs = same_from seed arena t (done ++ e ∷ []) es fs parks shape told (rest_goes_on seed arena t done es e x) there (later_turns e f es fs same) in
    λ i. one i ∷ rest i

-- ---- the laws
goes_on : (seed arena : ℕ) (t : Terms) (es : List Entry) → 1 ≤ t.config.park_length → IsShape t.shape → IsLegal t es → IsDrawn seed arena t es → HaveRuns es → GoOn seed arena t [] es
goes_on seed arena t es parks shape legal drawn runs = record { legal = legal; stepped = (drawn_is_stepped seed arena t es parks shape legal).0 drawn; runs = runs }

pub same_turns : SameTurns
same_turns seed arena t es fs h runs others same =
    same_from seed arena t [] es fs h.parks h.shape h.told (goes_on seed arena t es h.parks h.shape h.legal h.drawn runs) (goes_on seed arena t fs h.parks h.shape h.other_legal h.other_drawn others) same

-- ---- where there is no page fault
unpurged : (t : Terms) (s : State) (before now : ℕ) (c : Choices) (o : Option ℕ) → now ≡ 0 → Empties t s before now c o → is_some c.purged ≡ false
unpurged t s before now c None none e = ap (λ (q : Option ℕ). is_some q) e.1
unpurged t s before now c (Some m) none e = ⊎_elim (λ l. ap (λ (q : Option ℕ). is_some q) l.1) (λ r. absurd (omega (arith, none, r.4))) e

no_choice : (c d : Choices) → c ≡ d → is_some d.purged ≡ false → is_some c.purged ≡ false
no_choice c d same none = ap (λ (x : Choices). is_some x.purged) same ∙ none

no_page_fault : (t : Terms) (s : State) (before now : ℕ) (c : Choices) (call : Call) (reply : Reply) → now ≡ 0 → Allows t s before now c call reply → (is_page_fault reply || is_some c.purged) ≡ false
no_page_fault t s before now c (Allot asked align) (Given a size) none h = no_choice c _ h.0.choices refl
no_page_fault t s before now c (Allot asked align) (Overwritten a at found) none h = no_choice c _ h.0.choices refl
no_page_fault t s before now c (Allot asked align) Exhausted none h = no_choice c _ h.2 refl
no_page_fault t s before now c (Allot asked align) PagesFailed none h = absurd (omega (arith, none, h.3))
no_page_fault t s before now c (GiveBack a stated) NoSlot none h = no_choice c _ h.1 refl
no_page_fault t s before now c (GiveBack a stated) Unused none h = no_choice c _ h.1 refl
no_page_fault t s before now c (GiveBack a stated) DoubleFree none h = no_choice c _ h.1 refl
no_page_fault t s before now c (GiveBack a stated) (WrongSize block other) none h = no_choice c _ h.2 refl
no_page_fault t s before now c (GiveBack a stated) (Canary kept found) none h = no_choice c _ h.4 refl
no_page_fault t s before now c (GiveBack a stated) Freed none h = unpurged t (releases c.released (takes_back t.shape a s)) before now c (surplus t.shape (releases c.released (takes_back t.shape a s)) c.released) none h.emptied
no_page_fault t s before now c (Measure a) NoSlot none h = no_choice c _ h.1 refl
no_page_fault t s before now c (Measure a) Unused none h = no_choice c _ h.1 refl
no_page_fault t s before now c (Measure a) DoubleFree none h = no_choice c _ h.1 refl
no_page_fault t s before now c (Measure a) (Usable size) none h = no_choice c _ h.2 refl
no_page_fault t s before now c (Fetch a len) (Bytes runs) none h = no_choice c _ h.2 refl
no_page_fault t s before now c (Fetch a len) (Trap q) none h = no_choice c _ h.1 refl
no_page_fault t s before now c (Fill a runs) Filled none h = no_choice c _ h.1 refl
no_page_fault t s before now c (Fill a runs) (Trap q) none h = no_choice c _ h.1 refl
no_page_fault t s before now c call reply none h = absurd h

plain_turns : (t : Terms) (s : State) (es : List Entry) → Legal (step t.shape) (Allowed t) s es → HaveNoFault es
    → map turn_of es ≡ map (λ (a : Asked). record { who = a.who; call = a.call; faults = 0; page_fault = false }) (map asked_of es)
plain_turns t s [] legal none = refl
plain_turns t s (e ∷ es) legal none =
    let page_fault : has_page_fault e ≡ false = no_page_fault t s e.faults_before e.faults_after e.choices e.call e.reply none.0 legal.0.allows in
    let rest = plain_turns t (step t.shape s e) es legal.1 none.1 in
    λ i. record { who = e.who; call = e.call; faults = none.0 i; page_fault = page_fault i } ∷ rest i

pub same_calls : SameCalls
same_calls seed arena t es fs h runs more none others same =
    same_turns seed arena t es fs h runs more
    (plain_turns t start es h.legal none ∙ ap (λ (l : List Asked). map (λ (a : Asked). record { who = a.who; call = a.call; faults = 0; page_fault = false }) l) same
    ∙ sym (plain_turns t start fs h.other_legal others))
