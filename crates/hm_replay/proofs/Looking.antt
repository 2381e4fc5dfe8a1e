-- A look at a region's entries by the first pass.
use Rattle.std.proofs.Common.{◌≡◌, ℕ, ◌<◌, List, [], length, map, slice_index_or, Result, arith, ap, ◌∙◌, sym, subst}
use Rattle.std.proofs.lemmas.List.{get_or-map, length-set}
use Rattle.std.proofs.Math.Seq.{map-set_same}
use mathlib.Core.Path.{fun_ext}
use Rattle.hm_base.specs.declared.memory.NoMemory.{NoMemory}
use Rattle.hm_model.specs.declared.entry.Entry.{Entry}
use Rattle.hm_report.specs.declared.results.Results.{Results}
use Rattle.hm_sizes.specs.declared.config.Config.{Config}
use Rattle.hm_trace.specs.Views.{ScriptView}
use Rattle.hm_turn.specs.Callers.{is_among, ended_of}
use Rattle.hm_turn.specs.Knowledge.{Knowledge}
use Rattle.hm_turn.specs.Known.{Known, KnowsCallers}
use Rattle.hm_heap.specs.declared.changes.Changes.{Changes}
use Rattle.hm_heap.specs.Changes.{HasLooked}
use Rattle.hm_heap.specs.Passes.{PassView}
use Rattle.hm_replay.specs.Gains.{mine_of}
use Rattle.hm_replay.specs.Names.{Names, no_names}
use Rattle.hm_replay.specs.Replays.{HasReplayed}
use Rattle.hm_replay.specs.RoundOf.{calls_in, ended_in, IsGathered}
use Rattle.hm_replay.specs.Rounds.{RunsRounds, InRounds}
use Rattle.hm_replay.specs.Uses.{Own}
use Rattle.hm_replay.specs.Watched.{seen_of}

-- what a turn knows, but for how often its steps found other tickets
abbrev stripped : Knowledge → Knowledge
stripped k = record k { lost = 0 }

strip_callers : (k : Knowledge) → KnowsCallers k → KnowsCallers (stripped k)
strip_callers k w = record { own = w.own; of_ended = w.of_ended; of_others = w.of_others }

clothe_callers : (k : Knowledge) → KnowsCallers (stripped k) → KnowsCallers k
clothe_callers k w = record { own = w.own; of_ended = w.of_ended; of_others = w.of_others }

knows_as : (k l : Knowledge) → stripped k ≡ stripped l → KnowsCallers l → KnowsCallers k
knows_as k l e w = clothe_callers k (subst KnowsCallers (sym e) (strip_callers l w))

module _ (p q : PassView) (index from : ℕ) (result : Result Changes NoMemory) (l : HasLooked p q index from result)
    (g : IsGathered p) where
  abbrev before : Knowledge
  before = (slice_index_or p.turns index l.turn).knows

  still : l.turn.knows.seen ≡ before.seen
  still = (l.looked l.turn).3 (λ k e. g.joined index k l.turn l.inside e) (g.knows index l.turn l.inside)

  looked : stripped l.turn.knows ≡ stripped before
  looked = ap stripped (l.looked l.turn).1.same ∙ ap (λ (es : List Entry). stripped (record before { seen = es })) still

  -- all else that is read of the turns is as before
  alike : {X : Type 0} (f : Knowledge → X) → map (λ (t : Known). f (stripped t.knows)) q.turns ≡ map (λ (t : Known). f (stripped t.knows)) p.turns
  alike f = ap (map (λ (t : Known). f (stripped t.knows))) l.turns_are
      ∙ map-set_same (λ (t : Known). f (stripped t.knows)) p.turns index l.turn l.turn (ap f looked)

  as_many : length q.turns ≡ length p.turns
  as_many = ap (λ (ts : List Known). length ts) l.turns_are ∙ length-set p.turns index l.turn

  at_place : (r : ℕ) (t : Known) → r < length p.turns
      → stripped (slice_index_or q.turns r t).knows ≡ stripped (slice_index_or p.turns r t).knows
  at_place r t b =
      let f : Known → Knowledge = λ t. stripped t.knows in
      sym (get_or-map f q.turns r t (f t) (omega (arith, b, as_many)))
      ∙ ap (λ (ks : List Knowledge). slice_index_or ks r (f t)) (alike (λ k. k))
      ∙ get_or-map f p.turns r t (f t) b

  gathered : IsGathered q
  gathered = record {
    first = λ r t b.
        let b' : r < length p.turns = omega (arith, b, as_many) in
        ap (λ (k : Knowledge). k.caller) (at_place r t b') ∙ g.first r t b';
    knows = λ r t b.
        let b' : r < length p.turns = omega (arith, b, as_many) in
        knows_as (slice_index_or q.turns r t).knows (slice_index_or p.turns r t).knows (at_place r t b') (g.knows r t b');
    joined = λ r k t b e.
        let b' : r < length p.turns = omega (arith, b, as_many) in
        ap (λ (z : Knowledge). is_among k z.used) (at_place r t b')
        ∙ g.joined r k t b' (sym (ap (λ (z : Knowledge). ended_of k z.ended) (at_place r t b')) ∙ e);
  }

  abbrev at : List (List Entry) → ℕ → List Entry
  at l index = slice_index_or l index []

  mine_alike : (other : ℕ) → mine_of q.turns other ≡ mine_of p.turns other
  mine_alike other = ap (λ (l : List (List Entry)). at l other) (alike (λ k. k.mine))

  seen_alike : (other : ℕ) → seen_of q.turns other ≡ seen_of p.turns other
  seen_alike other = ap (λ (l : List (List Entry)). at l other) (alike (λ k. k.seen))

  ended_alike : ended_in q.turns ≡ ended_in p.turns
  ended_alike = fun_ext (λ c. fun_ext (λ other.
      ap (λ (l : List (List Entry)). at l other) (alike (λ k. calls_in (ended_of c k.ended)))))

pub looks_keep : (c : Config) (p q : PassView) (rounds : List (List ScriptView)) (results : List Results) (last : Names)
    (index from : ℕ) (result : Result Changes NoMemory) → HasReplayed c p rounds results last
    → q ≡ record p { turns = q.turns } → HasLooked p q index from result
    → HasReplayed c q rounds results last × ((other : ℕ) → seen_of q.turns other ≡ seen_of p.turns other)
looks_keep c p q rounds results last index from result h same l =
    let g = h.gathered in (
      record {
        splits = ap (λ (v : PassView). v.splits) same ∙ h.splits;
        gathered = gathered p q index from result l g;
        own = λ other. mine_alike p q index from result l g other ∙ h.own other;
        ran = subst (λ (own : ℕ → Own). RunsRounds c own 1 1 no_names rounds results last)
            (sym (ended_alike p q index from result l g)) h.ran;
        seen = λ r t b.
            let b' : r < length p.turns = omega (arith, b, as_many p q index from result l g) in
            subst (λ (es : List Entry). InRounds 1 rounds es)
            (sym (ap (λ (k : Knowledge). k.seen) (at_place p q index from result l g r t b'))) (h.seen r t b');
      },
      seen_alike p q index from result l g,
    )
