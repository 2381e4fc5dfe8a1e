-- Histories of the large region with the same turns are the same.
use Rattle.std.proofs.Common.{◌≡◌, ℕ, suc, false, List, [], ◌∷◌, map, length, get_or, drop, sym, ◌∙◌, ap, subst, refl, arith}
use Rattle.std.specs.Prelude.{IsTrue}
use Rattle.hm_model.specs.declared.entry.Entry.{Entry}
use Rattle.hm_model.specs.declared.entry.Call.{Call}
use Rattle.hm_model.specs.declared.entry.Call.TheVariants.{Allot, GiveBack, Measure, Fetch, Fill}
use Rattle.hm_model.specs.declared.entry.Reply.{Reply}
use Rattle.hm_model.specs.declared.entry.Reply.TheVariants.{PagesFailed}
use Rattle.hm_model.specs.Machine.{Legal}
use Rattle.hm_large_rules.specs.State.{State, start}
use Rattle.hm_large_rules.specs.Drawn.{IsDrawnEntry}
use Rattle.hm_model.specs.Replies.{is_page_fault}
use Rattle.hm_large_rules.specs.OneEntry.{IsNext}
use Rattle.hm_large_rules.specs.Rules.{Terms, Allows, Allowed}
use Rattle.hm_large_rules.specs.Steps.{step}
use Rattle.hm_large_rules.proofs.SameEntry.{one_next as one_large}
use Rattle.hm_guarantees.specs.SameTurns.{Turn, Asked, asked_of, HaveRuns, HaveNoFault}
use Rattle.hm_guarantees.specs.SameLargeTurns.{large_turn_of, SameLargeTurns, SameLargeCalls}

-- ---- two histories
all_follow : (seed : ℕ) (t : Terms) (s : State) (es : List Entry) → Legal step (Allowed t) s es → Legal step (IsDrawnEntry seed) s es → HaveRuns es → Legal step (IsNext seed t) s es
all_follow seed t s [] h d runs = tt
all_follow seed t s (e ∷ es) h d runs = (record { allowed = h.0; drawn = d.0; runs = runs.0 }, all_follow seed t (step s e) es h.1 d.1 runs.1)

same_from : (seed : ℕ) (t : Terms) (s : State) (es fs : List Entry) → IsTrue t.told → Legal step (IsNext seed t) s es → Legal step (IsNext seed t) s fs → map large_turn_of es ≡ map large_turn_of fs → es ≡ fs
same_from seed t s [] [] told x y same = refl
same_from seed t s [] (f ∷ fs) told x y same = let none : 0 ≡ suc (length (map large_turn_of fs)) = ap (λ (l : List Turn). length l) same in absurd (omega (arith, none))
same_from seed t s (e ∷ es) [] told x y same = let none : suc (length (map large_turn_of es)) ≡ 0 = ap (λ (l : List Turn). length l) same in absurd (omega (arith, none))
same_from seed t s (e ∷ es) (f ∷ fs) told x y same =
    let turn : large_turn_of e ≡ large_turn_of f = ap (λ (l : List Turn). get_or l 0 (large_turn_of e)) same in
    let one : e ≡ f = one_large seed t s e f told x.0 y.0 (ap (λ (u : Turn). u.who) turn) (ap (λ (u : Turn). u.call) turn) (ap (λ (u : Turn). u.faults) turn) (ap (λ (u : Turn). u.page_fault) turn) in
    let rest : es ≡ fs = same_from seed t (step s e) es fs told x.1 (subst (λ (z : Entry). Legal step (IsNext seed t) (step s z) fs) (sym one) y.1) (ap (λ (l : List Turn). drop 1 l) same) in
    λ i. one i ∷ rest i

pub same_large_turns : SameLargeTurns
same_large_turns seed t es fs h runs others same =
    same_from seed t start es fs h.told (all_follow seed t start es h.legal h.drawn runs) (all_follow seed t start fs h.other_legal h.other_drawn others) same

-- ---- where there is no page fault
no_page_fault : (t : Terms) (s : State) (e : Entry) (call : Call) (reply : Reply) → e.faults_after ≡ 0 → Allows t s e call reply → is_page_fault reply ≡ false
no_page_fault t s e (Allot asked align) PagesFailed none h = absurd (omega (arith, none, h.0.1))
no_page_fault t s e (GiveBack a stated) PagesFailed none h = absurd (omega (arith, none, h.2))
no_page_fault t s e (Measure a) PagesFailed none h = absurd h
no_page_fault t s e (Fetch a len) PagesFailed none h = absurd h
no_page_fault t s e (Fill a runs) PagesFailed none h = absurd h
no_page_fault t s e call reply none h = refl

plain_turns : (t : Terms) (s : State) (es : List Entry) → Legal step (Allowed t) s es → HaveNoFault es
    → map large_turn_of es ≡ map (λ (a : Asked). record { who = a.who; call = a.call; faults = 0; page_fault = false }) (map asked_of es)
plain_turns t s [] legal none = refl
plain_turns t s (e ∷ es) legal none =
    let page_fault : is_page_fault e.reply ≡ false = no_page_fault t s e e.call e.reply none.0 legal.0.allows in
    let rest = plain_turns t (step s e) es legal.1 none.1 in
    λ i. record { who = e.who; call = e.call; faults = none.0 i; page_fault = page_fault i } ∷ rest i

pub same_large_calls : SameLargeCalls
same_large_calls seed t es fs h runs more none others same =
    same_large_turns seed t es fs h runs more
    (plain_turns t start es h.legal none ∙ ap (λ (l : List Asked). map (λ (a : Asked). record { who = a.who; call = a.call; faults = 0; page_fault = false }) l) same
    ∙ sym (plain_turns t start fs h.other_legal others))
