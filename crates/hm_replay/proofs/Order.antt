-- The calls of one caller in what was seen, and in what goes on from it.
use Rattle.std.proofs.Common.{◌≡◌, ◌≢◌, ℕ, false, List, [], ◌∷◌, Option, Some, None, append-nil, arith, ap, sym, ◌∙◌, refl}
use Rattle.std.proofs.lemmas.Grind.{common_steps}
use Rattle.std.proofs.lemmas.List.{append_cancel_left}
use Rattle.hm_model.specs.declared.entry.Entry.{Entry}
use Rattle.hm_model.specs.Entries.{calls_of}
use Rattle.hm_turn.specs.Callers.{is_among, ended_of}
use Rattle.hm_turn.specs.Histories.{StartsWith}
use Rattle.hm_turn.specs.Knowledge.{Knowledge}
use Rattle.hm_turn.specs.Known.{KnowsCallers}
use Rattle.hm_turn.proofs.Histories.{calls_by-append}
use Rattle.hm_replay.specs.RoundOf.{calls_in}

-- the caller of an entry has made a call
pub has_one : (e : Entry) (es : List Entry) → calls_of (e ∷ es) e.who.caller ≡ [] → ⊥
has_one e es h = grind (arith, common_steps, h)

-- who has no more calls than in a beginning has none after it
pub none_after : (c : ℕ) (h seen : List Entry) (s : StartsWith h seen) → calls_of h c ≡ calls_of seen c
    → calls_of s.0 c ≡ []
none_after c h seen s same = append_cancel_left (calls_of seen c) (calls_of s.0 c) []
    (sym (calls_by-append c seen s.0) ∙ ap (λ (z : List Entry). calls_of z c) (sym s.1) ∙ same
    ∙ sym (append-nil (calls_of seen c)))

-- all callers that were split off are joined
abbrev pub AllJoined : Knowledge → Type 0
AllJoined k = (c : ℕ) → ended_of c k.ended ≡ None → is_among c k.used ≡ false

-- what was seen has of each caller what the turn knows of it
pub seen_calls : (k : Knowledge) (c : ℕ) → c ≢ 0 → KnowsCallers k → AllJoined k
    → calls_of k.seen c ≡ calls_in (ended_of c k.ended)
seen_calls k c some knows joined = by (ended_of c k.ended) refl
  where
    by : (o : Option (List Entry)) → ended_of c k.ended ≡ o → calls_of k.seen c ≡ calls_in o
    by None e = knows.of_others c some (joined c e)
    by (Some calls) e = knows.of_ended c calls e
