-- Numbers that are made after each round.
use Rattle.std.proofs.Common.{◌≡◌, ℕ, ◌+◌, ◌<◌, ◌≤◌, nat_le, Bool, cond, List, [], ◌∷◌, ◌++◌, append_assoc, length, map, slice_index_or, arith, refl, ap, ◌∙◌, sym, subst}
use Rattle.std.specs.List.{AllByRecursion as EachIs}
use Rattle.std.proofs.lemmas.Bool.{cases_lt, le-leb, lt-leb}
use Rattle.std.proofs.lemmas.List.{append-nil, get_or-map, get_or_past, length-map}
use Rattle.std.proofs.lemmas.List.Elements.{filter-append}
use mathlib.Core.Logic.{inl, inr}
use Rattle.hm_model.specs.declared.entry.Entry.{Entry}
use Rattle.hm_report.specs.declared.results.Results.{Results}
use Rattle.hm_sizes.specs.declared.config.Config.{Config}
use Rattle.hm_trace.specs.Views.{ScriptView}
use Rattle.hm_turn.specs.Known.{Known, IsWhole}
use Rattle.hm_heap.specs.declared.close.History.{History}
use Rattle.hm_heap.specs.Passes.{PassView}
use Rattle.hm_replay.specs.Names.{Names}
use Rattle.hm_replay.specs.Replays.{HasReplayed}
use Rattle.hm_replay.specs.RoundOf.{LeavesRoot, SeesMore, AllSeeMore}
use Rattle.hm_replay.specs.Rounds.{AreOfCallers, InRounds, IsOfRound, IsOfTrace, script_count}
use Rattle.hm_replay.specs.Watched.{seen_of, entries_at, upto, numbers_upto, IsWatched}
use Rattle.hm_replay.proofs.Entries.{all_of_trace, callers_of}
use Rattle.hm_replay.proofs.Replaying.{all_seen, replays_close}
use Rattle.hm_replay.proofs.Turns.{some_of}

-- ---- what the turn at an index has seen
pub sees_more : (first count : ℕ) (ts us : List Known) → length us ≡ length ts → AllSeeMore first count ts us → (index : ℕ)
    → SeesMore first count (seen_of ts index) (seen_of us index)
sees_more first count ts us long all index = elim (cases_lt index (length ts)) [
  | inl b ↦
      let t : Known = some_of ts index b in
      let m = all index t b in
      record {
        more = m.more;
        is = get_or-map seen us index t [] (omega (arith, b, long)) ∙ m.is
            ∙ ap (λ (es : List Entry). es ++ m.more) (sym (get_or-map seen ts index t [] b));
        callers = m.callers;
      }
  | inr b ↦
      record {
        more = [];
        is = none us (omega (arith, b, long)) ∙ ap (λ (es : List Entry). es ++ []) (sym (none ts b));
        callers = tt;
      }
]
  where
    seen : Known → List Entry
    seen t = t.knows.seen

    none : (vs : List Known) → length vs ≤ index → seen_of vs index ≡ []
    none vs past = get_or_past (map seen vs) index [] (omega (arith, past, length-map vs seen))

-- ---- one more round
module _ (number : List Entry → ℕ) where
  watched_more : (caller : ℕ) (rounds : List (List ScriptView)) (scripts : List ScriptView) (before es more : List Entry)
      (numbers : List ℕ) → IsWatched number caller rounds before es numbers
      → AreOfCallers (caller + script_count rounds) (length scripts) more
      → IsWatched number caller (rounds ++ scripts ∷ []) before (es ++ more) (numbers ++ number (before ++ (es ++ more)) ∷ [])
  watched_more caller [] scripts before es more numbers w of =
      let all : es ++ more ≡ more = ap (λ (l : List Entry). l ++ more) w.0 in
      let first : caller + 0 ≡ caller = omega arith in (
        more,
        [],
        [],
        all ∙ sym (append-nil more),
        subst (λ (k : ℕ). AreOfCallers k (length scripts) more) first of,
        ap (λ (l : List ℕ). l ++ number (before ++ (es ++ more)) ∷ []) w.1
            ∙ ap (λ (l : List Entry). number (before ++ l) ∷ []) all,
        (refl, refl),
      )
  watched_more caller (r ∷ rounds) scripts before es more numbers w of =
      let first : caller + (length r + script_count rounds) ≡ caller + length r + script_count rounds = omega arith in
      let all : es ++ more ≡ w.0 ++ (w.1 ++ more) =
      ap (λ (l : List Entry). l ++ more) w.3 ∙ append_assoc w.0 w.1 more in
      let whole : (before ++ w.0) ++ (w.1 ++ more) ≡ before ++ (es ++ more) =
      append_assoc before w.0 (w.1 ++ more) ∙ ap (λ (l : List Entry). before ++ l) (sym all) in
      let rest = watched_more (caller + length r) rounds scripts (before ++ w.0) w.1 more w.2 w.6
      (subst (λ (k : ℕ). AreOfCallers k (length scripts) more) first of) in (
        w.0,
        w.1 ++ more,
        w.2 ++ number (before ++ (es ++ more)) ∷ [],
        all,
        w.4,
        ap (λ (l : List ℕ). l ++ number (before ++ (es ++ more)) ∷ []) w.5,
        subst (λ (l : List Entry). IsWatched number (caller + length r) (rounds ++ scripts ∷ []) (before ++ w.0) (w.1 ++ more) (w.2 ++ number l ∷ []))
            whole rest,
      )

pub goes_on : (c : Config) (p q : PassView) (rounds : List (List ScriptView)) (scripts : List ScriptView)
    (results : List Results) (names : Names) (index : ℕ) (number : List Entry → ℕ) (numbers : List ℕ)
    → HasReplayed c p rounds results names → LeavesRoot (length scripts) p q
    → IsWatched number 1 rounds [] (seen_of p.turns index) numbers
    → IsWatched number 1 (rounds ++ scripts ∷ []) [] (seen_of q.turns index) (numbers ++ number (seen_of q.turns index) ∷ [])
goes_on c p q rounds scripts results names index number numbers h left w =
    let caller : p.splits + 1 ≡ 1 + script_count rounds = omega (arith, h.splits) in
    let more = sees_more (p.splits + 1) (length scripts) p.turns q.turns left.stays.as_many (left.seen h.gathered) index in
    subst (λ (es : List Entry). IsWatched number 1 (rounds ++ scripts ∷ []) [] es (numbers ++ number es ∷ [])) (sym more.is)
    (watched_more number 1 rounds scripts [] (seen_of p.turns index) more.more numbers w
    (subst (λ (k : ℕ). AreOfCallers k (length scripts) more.more) caller more.callers))

-- ---- the rounds of entries
each_as : (P Q : Entry → Type 0) → ((e : Entry) → P e → Q e) → (es : List Entry) → EachIs P es → EachIs Q es
each_as P Q f [] all = tt
each_as P Q f (e ∷ es) all = (f e all.0, each_as P Q f es all.1)

both : (P : Entry → Type 0) (es fs : List Entry) → EachIs P es → EachIs P fs → EachIs P (es ++ fs)
both P [] fs a b = b
both P (e ∷ es) fs a b = (a.0, both P es fs a.1 b)

parts : (P : Entry → Type 0) (es fs : List Entry) → EachIs P (es ++ fs) → EachIs P es × EachIs P fs
parts P [] fs all = (tt, all)
parts P (e ∷ es) fs all = let rest = parts P es fs all.1 in ((all.0, rest.0), rest.1)

kept_all : (round : ℕ) (es : List Entry) → EachIs (λ (e : Entry). e.who.round ≤ round) es → upto round es ≡ es
kept_all round [] all = refl
kept_all round (e ∷ es) all =
    ap (λ (b : Bool). cond b (e ∷ upto round es) (upto round es)) (le-leb e.who.round round all.0)
    ∙ ap (λ (l : List Entry). e ∷ l) (kept_all round es all.1)

kept_none : (round : ℕ) (es : List Entry) → EachIs (λ (e : Entry). round < e.who.round) es → upto round es ≡ []
kept_none round [] all = refl
kept_none round (e ∷ es) all =
    ap (λ (b : Bool). cond b (e ∷ upto round es) (upto round es)) (lt-leb e.who.round round all.0)
    ∙ kept_none round es all.1

-- an entry of a round has its number and one of its callers
record IsIn (first count round : ℕ) (e : Entry) : Type 0 where
  round_is : e.who.round ≡ round
  least : first ≤ e.who.caller
  below : e.who.caller < first + count

in_round : (caller round : ℕ) (scripts : List ScriptView) (e : Entry) → IsOfRound caller round scripts e
    → IsIn caller (length scripts) round e
in_round caller round [] e of = absurd of
in_round caller round (s ∷ scripts) e (inl of) =
    let k = of.caller_is in
    record { round_is = of.round_is; least = omega (arith, k); below = omega (arith, k) }
in_round caller round (s ∷ scripts) e (inr of) =
    let rest = in_round (caller + 1) round scripts e of in
    let a = rest.least in
    let b = rest.below in
    record { round_is = rest.round_is; least = omega (arith, a); below = omega (arith, b) }

-- one of a trace has a caller and a round from the first ones on
from_first : (caller round : ℕ) (rounds : List (List ScriptView)) (e : Entry) → IsOfTrace caller round rounds e
    → (caller ≤ e.who.caller) × (round ≤ e.who.round)
from_first caller round [] e of = absurd of
from_first caller round (scripts ∷ rounds) e (inl of) =
    let one = in_round caller round scripts e of in
    let r = one.round_is in
    (one.least, omega (arith, r))
from_first caller round (scripts ∷ rounds) e (inr of) =
    let rest = from_first (caller + length scripts) (round + 1) rounds e of in
    let a = rest.0 in
    let b = rest.1 in
    (omega (arith, a), omega (arith, b))

module _ (caller round : ℕ) (scripts : List ScriptView) (rounds : List (List ScriptView)) where
  abbrev Of : Entry → Type 0
  Of e = IsOfTrace caller round (scripts ∷ rounds) e

  -- those of the first round's callers are of the first round
  of_this : (e : Entry) → e.who.caller < caller + length scripts → Of e → e.who.round ≡ round
  of_this e below (inl of) = (in_round caller round scripts e of).round_is
  of_this e below (inr of) =
      let rest = (from_first (caller + length scripts) (round + 1) rounds e of).0 in absurd (omega (arith, below, rest))

  these_are : (es : List Entry) → AreOfCallers caller (length scripts) es → EachIs Of es → EachIs (λ (e : Entry). e.who.round ≡ round) es
  these_are [] callers all = tt
  these_are (e ∷ es) callers all = (of_this e callers.1 all.0, these_are es callers.2 all.1)

  -- the others are of the rest
  of_rest : (e : Entry) → caller + length scripts ≤ e.who.caller → Of e
      → IsOfTrace (caller + length scripts) (round + 1) rounds e
  of_rest e least (inl of) = let below = (in_round caller round scripts e of).below in absurd (omega (arith, least, below))
  of_rest e least (inr of) = of

  later_are : (count : ℕ) (es : List Entry) → AreOfCallers (caller + length scripts) count es → EachIs Of es
      → EachIs (IsOfTrace (caller + length scripts) (round + 1) rounds) es
  later_are count [] callers all = tt
  later_are count (e ∷ es) callers all = (of_rest e callers.0 all.0, later_are count es callers.2 all.1)

-- ---- the numbers at the end
in_rounds : (number : List Entry → ℕ) (caller : ℕ) (rounds : List (List ScriptView)) (before es : List Entry) (numbers : List ℕ)
    → IsWatched number caller rounds before es numbers → InRounds caller rounds es
in_rounds number caller [] before es numbers w = w.0
in_rounds number caller (scripts ∷ rounds) before es numbers w =
    (w.0, w.1, w.3, w.4, in_rounds number (caller + length scripts) rounds (before ++ w.0) w.1 w.2 w.6)

module _ (number meant : List Entry → ℕ) where
  -- the number of each front is the one that is meant
  abbrev IsMeant : List Entry → Type 0
  IsMeant es = (front later : List Entry) → es ≡ front ++ later → number front ≡ meant front

  numbers_are : (caller round : ℕ) (rounds : List (List ScriptView)) (before es : List Entry) (numbers : List ℕ)
      → EachIs (λ (e : Entry). e.who.round < round) before → EachIs (IsOfTrace caller round rounds) es → IsMeant (before ++ es)
      → IsWatched number caller rounds before es numbers → numbers ≡ numbers_upto meant round rounds (before ++ es)
  numbers_are caller round [] before es numbers old of is w = w.1
  numbers_are caller round (scripts ∷ rounds) before es numbers old of is w =
      let these : List Entry = w.0 in
      let later : List Entry = w.1 in
      let whole : before ++ es ≡ (before ++ these) ++ later =
      ap (λ (l : List Entry). before ++ l) w.3 ∙ sym (append_assoc before these later) in
      let each = parts (IsOfTrace caller round (scripts ∷ rounds)) these later
      (subst (λ (l : List Entry). EachIs (IsOfTrace caller round (scripts ∷ rounds)) l) w.3 of) in
      let this = these_are caller round scripts rounds these w.4 each.0 in
      let callers = callers_of (caller + length scripts) rounds later
      (in_rounds number (caller + length scripts) rounds (before ++ these) later w.2 w.6) in
      let rest = later_are caller round scripts rounds (script_count rounds) later callers each.1 in
      let old_now = both (λ (e : Entry). e.who.round < round + 1) before these
      (each_as (λ (e : Entry). e.who.round < round) (λ (e : Entry). e.who.round < round + 1) (λ e l. omega (arith, l)) before old)
      (each_as (λ (e : Entry). e.who.round ≡ round) (λ (e : Entry). e.who.round < round + 1) (λ e s. omega (arith, s)) these this) in
      let front : upto round (before ++ es) ≡ before ++ these =
      ap (upto round) whole
      ∙ filter-append (λ (e : Entry). nat_le e.who.round round) (before ++ these) later
      ∙ ap (λ (l : List Entry). l ++ upto round later) (kept_all round (before ++ these)
      (each_as (λ (e : Entry). e.who.round < round + 1) (λ (e : Entry). e.who.round ≤ round) (λ e l. omega (arith, l)) (before ++ these) old_now))
      ∙ ap (λ (l : List Entry). (before ++ these) ++ l) (kept_none round later
      (each_as (IsOfTrace (caller + length scripts) (round + 1) rounds) (λ (e : Entry). round < e.who.round)
      (λ e o. let b = (from_first (caller + length scripts) (round + 1) rounds e o).1 in omega (arith, b)) later rest))
      ∙ append-nil (before ++ these) in
      let others : w.2 ≡ numbers_upto meant (round + 1) rounds (before ++ es) =
      numbers_are (caller + length scripts) (round + 1) rounds (before ++ these) later w.2 old_now rest
      (λ f l e. is f l (whole ∙ e)) w.6
      ∙ ap (numbers_upto meant (round + 1) rounds) (sym whole) in
      let one : number (before ++ these) ≡ meant (upto round (before ++ es)) =
      is (before ++ these) later whole ∙ ap meant (sym front) in
      w.5 ∙ (λ i. one i ∷ others i)

pub numbers_close : (c : Config) (p : PassView) (hs : List History) (rounds : List (List ScriptView)) (results : List Results)
    (last : Names) (index : ℕ) (number meant : List Entry → ℕ) (numbers : List ℕ) → HasReplayed c p rounds results last
    → length hs ≡ length p.turns
    → ((r : ℕ) (t : Known) (h : History) → r < length p.turns
    → IsWhole (slice_index_or hs r h).entries (slice_index_or p.turns r t).knows)
    → IsWatched number 1 rounds [] (seen_of p.turns index) numbers
    → ((front later : List Entry) → entries_at hs index ≡ front ++ later → number front ≡ meant front)
    → numbers ≡ numbers_upto meant 1 rounds (entries_at hs index)
numbers_close c p hs rounds results last index number meant numbers h long whole w is =
    numbers_are number meant 1 1 rounds [] (entries_at hs index) numbers tt of is
    (subst (λ (es : List Entry). IsWatched number 1 rounds [] es numbers) seen_is w)
  where
    entries : History → List Entry
    entries h = h.entries

    seen : Known → List Entry
    seen t = t.knows.seen

    seen_is : seen_of p.turns index ≡ entries_at hs index
    seen_is = elim (cases_lt index (length p.turns)) [
      | inl b ↦
          let t : Known = some_of p.turns index b in
          let b' : index < length hs = omega (arith, b, long) in
          let x : History = some_of hs index b' in
          get_or-map seen p.turns index t [] b
          ∙ sym (all_seen (slice_index_or hs index x).entries (slice_index_or p.turns index t).knows
          (h.gathered.first index t b) (whole index t x b) (h.gathered.knows index t b)
          (λ k e. h.gathered.joined index k t b e))
          ∙ sym (get_or-map entries hs index x [] b')
      | inr b ↦
          get_or_past (map seen p.turns) index [] (omega (arith, b, length-map p.turns seen))
          ∙ sym (get_or_past (map entries hs) index [] (omega (arith, b, long, length-map hs entries)))
    ]

    of : EachIs (IsOfTrace 1 1 rounds) (entries_at hs index)
    of = elim (cases_lt index (length hs)) [
      | inl b ↦
          let x : History = some_of hs index b in
          subst (λ (es : List Entry). EachIs (IsOfTrace 1 1 rounds) es) (sym (get_or-map entries hs index x [] b))
          (all_of_trace c hs rounds results last (replays_close c p hs rounds results last h long whole) index x b)
      | inr b ↦
          subst (λ (es : List Entry). EachIs (IsOfTrace 1 1 rounds) es)
          (sym (get_or_past (map entries hs) index [] (omega (arith, b, length-map hs entries)))) tt
    ]
