-- Rounds one after another.
use Rattle.std.proofs.Common.{◌≡◌, ◌≢◌, ℕ, ◌+◌, ◌<◌, ◌≤◌, List, [], ◌∷◌, ◌++◌, append_assoc, length, map, slice_index_or, Option, Some, None, arith, refl, ap, ◌∙◌, sym, subst, zero, suc}
use Rattle.std.proofs.lemmas.Bool.{cases_lt}
use Rattle.std.proofs.lemmas.List.{append-nil, get_or-map, get_or_past, length-map}
use mathlib.Core.Logic.{inl, inr}
use mathlib.Core.Path.{fun_ext, transport}
use Rattle.hm_model.specs.declared.entry.Entry.{Entry}
use Rattle.hm_model.specs.Entries.{calls_of}
use Rattle.hm_report.specs.declared.results.Results.{Results}
use Rattle.hm_sizes.specs.declared.config.Config.{Config}
use Rattle.hm_trace.specs.Views.{ScriptView}
use Rattle.hm_turn.specs.Callers.{is_among, ended_of}
use Rattle.hm_turn.specs.Knowledge.{Knowledge, founding}
use Rattle.hm_turn.specs.Known.{Lock, Known, KnowsCallers, IsWhole}
use Rattle.hm_heap.specs.declared.close.History.{History}
use Rattle.hm_heap.specs.Founds.{Founds}
use Rattle.hm_heap.specs.Passes.{PassView}
use Rattle.hm_replay.specs.Names.{Names, no_names, settled}
use Rattle.hm_replay.specs.RoundOf.{calls_in, ended_in, LeavesRoot}
use Rattle.hm_replay.specs.Rounds.{RunsRound, RunsRounds, AreOfCallers, InRounds, script_count, own_in}
use Rattle.hm_replay.specs.Replays.{HasReplayed, AreReplayed}
use Rattle.hm_replay.specs.Scripts.{RunsAllSteps}
use Rattle.hm_replay.specs.Uses.{Own}
use Rattle.hm_replay.proofs.Order.{AllJoined, has_one, none_after, seen_calls}
use Rattle.hm_replay.proofs.Turns.{some_of}

-- ---- the entries of callers elsewhere do not matter
abbrev Alike : (ℕ → Own) → (ℕ → Own) → ℕ → ℕ → Type 0
Alike own own' first count = (k : ℕ) → first ≤ k → k < first + count → own k ≡ own' k

round_as : (c : Config) (own own' : ℕ → Own) (caller round : ℕ) (names now : Names) (scripts : List ScriptView)
    (results : List Results) (last : Names) → Alike own own' caller (length scripts)
    → RunsRound c own caller round names now scripts results last
    → RunsRound c own' caller round names now scripts results last
round_as c own own' caller round names now [] results last same ran = ran
round_as c own own' caller round names now (s ∷ scripts) results last same ran = record {
  result = ran.result;
  later = ran.later;
  results_are = ran.results_are;
  round_is = ran.round_is;
  thread_is = ran.thread_is;
  last = ran.last;
  run = subst (λ (o : Own). RunsAllSteps (record { config = c; caller = caller; round = round; thread = s.thread }) names s.steps
      ran.result.items ran.last o) (same caller (omega arith) (omega arith)) ran.run;
  rest = round_as c own own' (caller + 1) round names (settled now s.steps ran.last) scripts ran.later last
      (λ k l m. same k (omega (arith, l)) (omega (arith, m))) ran.rest;
}

rounds_as : (c : Config) (own own' : ℕ → Own) (caller round : ℕ) (names : Names) (rounds : List (List ScriptView))
    (results : List Results) (last : Names) → Alike own own' caller (script_count rounds)
    → RunsRounds c own caller round names rounds results last → RunsRounds c own' caller round names rounds results last
rounds_as c own own' caller round names [] results last same ran = ran
rounds_as c own own' caller round names (scripts ∷ rounds) results last same ran = record {
  these = ran.these;
  later = ran.later;
  results_are = ran.results_are;
  after = ran.after;
  this =
      round_as c own own' caller round names names scripts ran.these ran.after
      (λ k l m. same k l (omega (arith, m))) ran.this;
  rest = rounds_as c own own' (caller + length scripts) (round + 1) ran.after rounds ran.later last
      (λ k l m. same k (omega (arith, l)) (omega (arith, m))) ran.rest;
}

-- ---- one more round
count_more : (rounds : List (List ScriptView)) (scripts : List ScriptView)
    → script_count (rounds ++ scripts ∷ []) ≡ script_count rounds + length scripts
count_more [] scripts = omega arith
count_more (r ∷ rounds) scripts = omega (arith, count_more rounds scripts)

rounds_more : (c : Config) (own : ℕ → Own) (caller round : ℕ) (names between last : Names) (rounds : List (List ScriptView))
    (scripts : List ScriptView) (results these : List Results) → RunsRounds c own caller round names rounds results
    between
    → RunsRound c own (caller + script_count rounds) (round + length rounds) between between scripts these last
    → RunsRounds c own caller round names (rounds ++ scripts ∷ []) (results ++ these) last
rounds_more c own caller round names between last [] scripts results these ran one =
    let first : caller + 0 ≡ caller = omega arith in
    let number : round + 0 ≡ round = omega arith in
    record {
      these = these;
      later = [];
      results_are = ap (λ (l : List Results). l ++ these) ran.0 ∙ sym (append-nil these);
      after = last;
      this = transport (λ i. RunsRound c own (first i) (number i) (ran.1 i) (ran.1 i) scripts these last) one;
      rest = (refl, refl);
    }
rounds_more c own caller round names between last (r ∷ rounds) scripts results these ran one =
    let first : caller + (length r + script_count rounds) ≡ caller + length r + script_count rounds = omega arith in
    let number : round + suc (length rounds) ≡ round + 1 + length rounds = omega arith in
    record {
      these = ran.these;
      later = ran.later ++ these;
      results_are = ap (λ (l : List Results). l ++ these) ran.results_are ∙ append_assoc ran.these ran.later these;
      after = ran.after;
      this = ran.this;
      rest =
          rounds_more c own (caller + length r) (round + 1) ran.after between last rounds scripts ran.later these
          ran.rest
          (transport (λ i. RunsRound c own (first i) (number i) between between scripts these last) one);
    }

seen_more : (caller : ℕ) (rounds : List (List ScriptView)) (scripts : List ScriptView) (es more : List Entry)
    → InRounds caller rounds es → AreOfCallers (caller + script_count rounds) (length scripts) more
    → InRounds caller (rounds ++ scripts ∷ []) (es ++ more)
seen_more caller [] scripts es more seen of =
    let first : caller + 0 ≡ caller = omega arith in (
      more,
      [],
      ap (λ (l : List Entry). l ++ more) seen ∙ sym (append-nil more),
      subst (λ (k : ℕ). AreOfCallers k (length scripts) more) first of,
      refl,
    )
seen_more caller (r ∷ rounds) scripts es more seen of =
    let first : caller + (length r + script_count rounds) ≡ caller + length r + script_count rounds = omega arith in (
      seen.0,
      seen.1 ++ more,
      ap (λ (l : List Entry). l ++ more) seen.2 ∙ append_assoc seen.0 seen.1 more,
      seen.3,
      seen_more (caller + length r) rounds scripts seen.1 more seen.4
          (subst (λ (k : ℕ). AreOfCallers k (length scripts) more) first of),
    )

pub goes_on : (c : Config) (p q : PassView) (rounds : List (List ScriptView)) (scripts : List ScriptView)
    (results these : List Results) (names last : Names) → HasReplayed c p rounds results names
    → LeavesRoot (length scripts) p q → q.splits ≡ p.splits + length scripts
    → RunsRound c (ended_in q.turns) (p.splits + 1) (length rounds + 1) names names scripts these last
    → HasReplayed c q (rounds ++ scripts ∷ []) (results ++ these) last
goes_on c p q rounds scripts results these names last h left splits ran =
    let n : p.splits ≡ script_count rounds = h.splits in
    let caller : p.splits + 1 ≡ 1 + script_count rounds = omega (arith, n) in
    let number : length rounds + 1 ≡ 1 + length rounds = omega arith in
    record {
      splits = omega (arith, n, splits, count_more rounds scripts);
      gathered = left.gathered h.gathered;
      own = λ index. left.stays.mine index ∙ h.own index;
      ran = rounds_more c (ended_in q.turns) 1 1 no_names names last rounds scripts results these
          (rounds_as c (ended_in p.turns) (ended_in q.turns) 1 1 no_names rounds results names
          (λ k l m. sym (fun_ext (left.stays.others k (inl (omega (arith, m, n)))))) h.ran)
          (transport (λ i. RunsRound c (ended_in q.turns) (caller i) (number i) names names scripts these last) ran);
      seen = λ r t l.
          let l' : r < length p.turns = omega (arith, l, left.stays.as_many) in
          let more = left.seen h.gathered r t l' in
          subst (λ (es : List Entry). InRounds 1 (rounds ++ scripts ∷ []) es) (sym more.is)
          (seen_more 1 rounds scripts (slice_index_or p.turns r t).knows.seen more.more (h.seen r t l')
          (subst (λ (k : ℕ). AreOfCallers k (length scripts) more.more) caller more.callers));
    }

-- ---- a new heap
founding_knows : (origin : List ℕ) → KnowsCallers (founding origin)
founding_knows origin = record { own = refl; of_ended = λ c calls e. absurd cc; of_others = λ c some e. refl }

pub new_replays : (c : Config) (locks : List Lock) (p : PassView) → length p.turns ≡ length locks → Founds locks p.turns
    → p.splits ≡ 0 → HasReplayed c p [] [] no_names
new_replays c locks p long founds none = record {
  splits = none;
  gathered = record {
    first = λ r t l. ap (λ (k : Knowledge). k.caller) (knows r t l);
    knows = λ r t l. subst KnowsCallers (sym (knows r t l)) (founding_knows (origin r t l));
    joined = λ r k t l e. ap (λ (z : Knowledge). is_among k z.used) (knows r t l);
  };
  own = λ index. elim (cases_lt index (length p.turns)) [
    | inl l ↦
        let t : Known = some_of p.turns index l in
        get_or-map (λ (t : Known). t.knows.mine) p.turns index t [] l ∙ ap (λ (k : Knowledge). k.mine) (knows index t l)
    | inr l ↦
        get_or_past (map (λ (t : Known). t.knows.mine) p.turns) index []
        (omega (arith, l, length-map p.turns (λ (t : Known). t.knows.mine)))
  ];
  ran = (refl, refl);
  seen = λ r t l. ap (λ (k : Knowledge). k.seen) (knows r t l);
}
  where
    origin : (r : ℕ) (t : Known) → r < length p.turns → List ℕ
    origin r t l = (slice_index_or locks r (record { id = t.lock; origin = [] })).origin

    knows : (r : ℕ) (t : Known) (l : r < length p.turns) → (slice_index_or p.turns r t).knows ≡ founding (origin r t l)
    knows r t l = founds r (record { id = t.lock; origin = [] }) t (omega (arith, l, long))

-- ---- the histories
-- a whole history has of each caller what the turn knows of it
whole_calls : (h : List Entry) (k : Knowledge) (c : ℕ) → c ≢ 0 → IsWhole h k
    → calls_of h c ≡ calls_in (ended_of c k.ended)
whole_calls h k c some w = by (ended_of c k.ended) refl
  where
    by : (o : Option (List Entry)) → ended_of c k.ended ≡ o → calls_of h c ≡ calls_in o
    by None e = w.of_others c some e
    by (Some calls) e = w.of_ended c calls e

none_left : (es : List Entry) → ((c : ℕ) → calls_of es c ≡ []) → es ≡ []
none_left [] none = refl
none_left (e ∷ es) none = absurd (has_one e es (none e.who.caller))

-- the history is what was seen
pub all_seen : (h : List Entry) (k : Knowledge) → k.caller ≡ 0 → IsWhole h k → KnowsCallers k → AllJoined k → h ≡ k.seen
all_seen h k root w know joined =
    w.begins.1 ∙ ap (λ (l : List Entry). k.seen ++ l)
    (none_left w.begins.0 (λ c. none_after c h k.seen w.begins (same c)))
    ∙ append-nil k.seen
  where
    same : (c : ℕ) → calls_of h c ≡ calls_of k.seen c
    same zero = w.own ∙ sym (subst (λ (c : ℕ). calls_of k.seen c ≡ k.mine) root know.own)
    same (suc c) =
        whole_calls h k (suc c) (λ e. absurd (omega (arith, e))) w
        ∙ sym (seen_calls k (suc c) (λ e. absurd (omega (arith, e))) know joined)

-- the histories of closed regions, whole to what the turns know
abbrev AreWhole : List History → List Known → Type 0
AreWhole hs ts = (r : ℕ) (t : Known) (h : History) → r < length ts
    → IsWhole (slice_index_or hs r h).entries (slice_index_or ts r t).knows

own_is : (ts : List Known) (hs : List History) (k : ℕ) → length hs ≡ length ts → AreWhole hs ts → k ≢ 0
    → ended_in ts k ≡ own_in hs k
own_is ts hs k long whole some =
    let calls : Known → List Entry = λ t. calls_in (ended_of k t.knows.ended) in
    let entries : History → List Entry = λ h. h.entries in
    fun_ext (λ r. elim (cases_lt r (length ts)) [
      | inl l ↦
          let t : Known = some_of ts r l in
          let l' : r < length hs = omega (arith, l, long) in
          let h : History = some_of hs r l' in
          get_or-map calls ts r t [] l
          ∙ sym (whole_calls (slice_index_or hs r h).entries (slice_index_or ts r t).knows k some (whole r t h l))
          ∙ ap (λ (es : List Entry). calls_of es k) (sym (get_or-map entries hs r h [] l'))
      | inr l ↦
          get_or_past (map calls ts) r [] (omega (arith, l, length-map ts calls))
          ∙ ap (λ (es : List Entry). calls_of es k)
          (sym (get_or_past (map entries hs) r [] (omega (arith, l, long, length-map hs entries))))
    ])

pub replays_close : (c : Config) (p : PassView) (hs : List History) (rounds : List (List ScriptView)) (results : List Results)
    (last : Names) → HasReplayed c p rounds results last → length hs ≡ length p.turns
    → ((r : ℕ) (t : Known) (h : History) → r < length p.turns
    → IsWhole (slice_index_or hs r h).entries (slice_index_or p.turns r t).knows) → AreReplayed c hs rounds results last
replays_close c p hs rounds results last h long whole = record {
  ran = rounds_as c (ended_in p.turns) (own_in hs) 1 1 no_names rounds results last
      (λ k l m. own_is p.turns hs k long whole (λ e. omega (arith, e, l))) h.ran;
  histories = λ r x l.
      let l' : r < length p.turns = omega (arith, l, long) in
      let t : Known = some_of p.turns r l' in
      subst (λ (es : List Entry). InRounds 1 rounds es)
      (sym (all_seen (slice_index_or hs r x).entries (slice_index_or p.turns r t).knows (h.gathered.first r t l')
      (whole r t x l')
      (h.gathered.knows r t l') (λ k e. h.gathered.joined r k t l' e)))
      (h.seen r t l');
}
