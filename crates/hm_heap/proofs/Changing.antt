-- The changes that a front of a history makes.
use Rattle.std.proofs.Common.{◌≡◌, ◌<◌, ◌+◌, ℕ, List, [], ◌∷◌, ◌++◌, length, take, get_or, sym, refl, ap, ◌∙◌, append_assoc, length-append, Option, Some, None, eq-eqb, arith}
use Rattle.std.proofs.lemmas.List.{append-nil, take_more}
use Rattle.hm_model.specs.declared.entry.Entry.{Entry}
use native.Mathlib.Decide.{ℕ_discrete}
use Rattle.hm_turn.specs.Callers.{is_among, ended_of, Ended}
use Rattle.hm_turn.specs.Histories.{StartsWith}
use Rattle.hm_turn.specs.Knowledge.{Knowledge}
use Rattle.hm_turn.specs.Known.{KnowsCallers}
use Rattle.hm_turn.proofs.Histories.{calls_by, calls_by-append}
use Rattle.hm_model.specs.declared.change.SizeChange.{SizeChange}
use Rattle.hm_model.specs.Changes.{change, changes_of}
use Rattle.hm_heap.specs.Changes.{HasJoined}

pub changes-append : (a b : List Entry) → changes_of (a ++ b) ≡ changes_of a ++ changes_of b
changes-append [] b = refl
changes-append (e ∷ a) b = ap (λ (z : List SizeChange). change e.call e.reply ++ z) (changes-append a b) ∙ sym (append_assoc (change e.call e.reply) (changes_of a) (changes_of b))

pub changes_next : (es : List Entry) (i : ℕ) (d : Entry) → i < length es → changes_of (take (i + 1) es) ≡ changes_of (take i es) ++ change (get_or es i d).call (get_or es i d).reply
changes_next es i d h = let e : Entry = get_or es i d in
    ap changes_of (take_more es i d h) ∙ (changes-append (take i es) (e ∷ []) ∙ ap (λ (z : List SizeChange). changes_of (take i es) ++ z) (append-nil (change e.call e.reply)))

-- who knows the same calls of every caller, and goes on from what was known, knows no more
longer_by : (c : ℕ) (old : List Entry) (e : Entry) (more : List Entry) → e.who.caller ≡ c → calls_by c (old ++ e ∷ more) ≡ calls_by c old → ⊥
longer_by c old e more is same =
    let here : calls_by c (e ∷ more) ≡ e ∷ calls_by c more = rw (eq-eqb e.who.caller c is) refl in
    let all : calls_by c (old ++ e ∷ more) ≡ calls_by c old ++ (e ∷ calls_by c more) = calls_by-append c old (e ∷ more) ∙ ap (λ (z : List Entry). calls_by c old ++ z) here in
    let n : length (calls_by c old) ≡ length (calls_by c old ++ (e ∷ calls_by c more)) = ap (λ (z : List Entry). length z) (sym same ∙ all) in
    let m : length (calls_by c old ++ (e ∷ calls_by c more)) ≡ length (calls_by c old) + length (e ∷ calls_by c more) = length-append (calls_by c old) (e ∷ calls_by c more) in
    omega arith

no_more : (old more : List Entry) → ((c : ℕ) → calls_by c (old ++ more) ≡ calls_by c old) → old ++ more ≡ old
no_more old [] h = append-nil old
no_more old (e ∷ more) h = absurd (longer_by e.who.caller old e more refl (h e.who.caller))

same_calls : (k k' : Knowledge) (c : ℕ) → k'.mine ≡ k.mine → k'.caller ≡ k.caller → k'.used ≡ k.used → k'.ended ≡ k.ended → k.caller ≡ 0
    → HasJoined k → KnowsCallers k → KnowsCallers k' → (o : Option (List Entry)) → ended_of c k.ended ≡ o → Dec (c ≡ 0) → calls_by c k'.seen ≡ calls_by c k.seen
same_calls k k' c mine caller used ended root joined before after o e (yes zero_is) =
    let at : c ≡ k.caller = zero_is ∙ sym root in
    ap (λ (z : ℕ). calls_by z k'.seen) (at ∙ sym caller) ∙ (after.own ∙ (mine ∙ (sym before.own ∙ ap (λ (z : ℕ). calls_by z k.seen) (sym at))))
same_calls k k' c mine caller used ended root joined before after (Some calls) e (no other) =
    after.of_ended c calls (ap (λ (z : Ended). ended_of c z) ended ∙ e) ∙ sym (before.of_ended c calls e)
same_calls k k' c mine caller used ended root joined before after None e (no other) =
    after.of_others c other (ap (λ (z : List ℕ). is_among c z) used ∙ joined c e) ∙ sym (before.of_others c other (joined c e))

pub sees_no_more : (k k' : Knowledge) → StartsWith k'.seen k.seen → k'.mine ≡ k.mine → k'.caller ≡ k.caller → k'.used ≡ k.used → k'.ended ≡ k.ended → k.caller ≡ 0
    → HasJoined k → KnowsCallers k → KnowsCallers k' → k'.seen ≡ k.seen
sees_no_more k k' s mine caller used ended root joined before after =
    s.1 ∙ no_more k.seen s.0 (λ c. sym (ap (calls_by c) s.1) ∙ same_calls k k' c mine caller used ended root joined before after (ended_of c k.ended) refl (ℕ_discrete c 0))
