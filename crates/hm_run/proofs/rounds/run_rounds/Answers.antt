use Rattle.std.proofs.Common.{◌≡◌, ℕ, ◌+◌, ◌<◌, List, [], ◌∷◌, ◌++◌, length, take, sym, ◌∙◌, ap, subst, refl, arith}
use Rattle.std.proofs.lemmas.List.{take_more, length-take-le, length-map, map-append}
use Rattle.hm_model.specs.declared.entry.Entry.{Entry}
use Rattle.hm_report.specs.declared.results.Results.{Results}
use Rattle.hm_trace.specs.Views.{RoundView, ScriptView}
use Rattle.hm_turn.specs.Known.{Known}
use Rattle.hm_heap.specs.Calls.{large_index}
use Rattle.hm_heap.specs.Passes.{PassView}
use Rattle.hm_replay.specs.Names.{Names, no_names, held}
use Rattle.hm_replay.specs.Replays.{HasReplayed}
use Rattle.hm_replay.specs.RoundOf.{ended_in}
use Rattle.hm_replay.specs.Rounds.{RunsRound}
use Rattle.hm_replay.specs.Watched.{IsWatched}
use Rattle.hm_replay.proofs.Turns.{some_of}
use Rattle.hm_replay.proofs.Watching.{sees_more}
use Rattle.hm_run.specs.Watches.{large_seen, size_sum, totals_of, Tracks}
use Rattle.hm_run.proofs.Counting.{fewer, scripts_in}
use Rattle.hm_run.proofs.Tracking.{may_keep, seen_before, tracks_front}
use Rattle.hm_run.proofs.rounds.run_rounds.Goals as goal

pub loop-index-init : goal.loop-index-init
loop-index-init g c =
    let heap = c.args.setting.now.heap.now in
    let root : PassView = c.args.root.now in
    let new = c.replayed_rounds.ensures.first heap.config heap.locks root c.requires.of.same c.requires.founds (ap (λ (p : PassView). p.splits) c.requires.first) in
    let index : ℕ = large_index heap.config in
    let below : index < length root.turns = omega (arith, c.requires.index, c.requires.of.same) in
    let t : Known = some_of root.turns index below in
    let none : large_seen heap.config root ≡ [] = seen_before root index t below ∙ new.seen index t below in
    record {
      of = c.requires.of;
      caller = ap (λ (p : PassView). p.caller) c.requires.first;
      out = ap (λ (p : PassView). p.out) c.requires.first;
      ran = subst (λ (n : Names). HasReplayed heap.config root [] c.new-all.result.items n) (sym c.build-env.ensures)
          (subst (λ (rs : List Results). HasReplayed heap.config root [] rs no_names) (sym c.new-all.ensures.items) new);
      on = refl;
      tracks = subst (λ (es : List Entry). Tracks c.args.watcher.now es) (sym none) c.requires.fresh.0;
      watched = λ on. (none, c.requires.fresh.1);
    }

pub run_round-requires-clause-few : goal.run_round-requires-clause-few
run_round-requires-clause-few g c κs within =
    let few = fewer c.small_rounds.ensures c.args.rounds.now c.loop-index.index c.index-rounds-index.result c.requires.valid c.requires.few (omega arith) c.index-rounds-index.is in
    omega (arith, few, c.loop-index.invariant.ran.splits)

pub after_round-requires-clause-root : goal.after_round-requires-clause-root
after_round-requires-clause-root g c κs within =
    ap (λ (v : PassView). v.caller) c.in_ok-results.ensures.root.same ∙ c.loop-index.invariant.caller

pub after_round-requires-clause-index : goal.after_round-requires-clause-index
after_round-requires-clause-index g c κs within = omega (arith, c.requires.index, c.in_ok-results.ensures.of.same)

pub after_round-requires-clause-front : goal.after_round-requires-clause-front
after_round-requires-clause-front g c κs within =
    let config = c.args.setting.now.heap.now.config in
    let p : PassView = c.loop-index.root in
    let q : PassView = c.run_round.new.root in
    let before = c.loop-index.invariant in
    let left = c.in_ok-results.ensures.root in
    let more = sees_more (p.splits + 1) (length c.index-rounds-index.result.scripts) p.turns q.turns left.stays.as_many (left.seen before.ran.gathered) (large_index config) in
    tracks_front c.loop-index.watcher (large_seen config p) (large_seen config q) (more.more, more.is) before.tracks

pub loop-index-preserved : goal.loop-index-preserved
loop-index-preserved g c =
    let config = c.args.setting.now.heap.now.config in
    let p : PassView = c.loop-index.root in
    let q : PassView = c.run_round.new.root in
    let last : PassView = c.after_round.new.root in
    let i = c.loop-index.index in
    let rounds = c.args.rounds.now in
    let round = c.index-rounds-index.result in
    let before = c.loop-index.invariant in
    let made = c.in_ok-results.ensures in
    let after = c.in_ok-after_round.ensures in
    let these : List Results = c.in_ok-results.results.items in
    let names : Names = held c.run_round.new.env in
    let done = scripts_in (take i rounds) in
    let number : i + 1 ≡ length done + 1 =
    omega (arith, length-take-le i rounds (omega arith), length-map (take i rounds) (λ (r : RoundView). r.scripts)) in
    let ran = subst (λ (n : ℕ). RunsRound config (ended_in q.turns) (p.splits + 1) n (held c.loop-index.env) (held c.loop-index.env) round.scripts these names) number made.ran in
    let more = c.replayed_rounds.ensures.more config p q done round.scripts c.loop-index.all.items these (held c.loop-index.env) names before.ran made.root made.splits ran in
    let kept = may_keep config q last (done ++ round.scripts ∷ []) (c.loop-index.all.items ++ these) names c.watched_rounds.ensures.looks more after.looked in
    let taken : scripts_in (take (i + 1) rounds) ≡ done ++ round.scripts ∷ [] =
    ap scripts_in (take_more rounds i round (omega arith)
    ∙ ap (λ (r : RoundView). take i rounds ++ r ∷ []) (sym c.index-rounds-index.is))
    ∙ map-append (λ (r : RoundView). r.scripts) (take i rounds) (round ∷ []) in
    let totals : List ℕ = totals_of c.loop-index.watcher in
    record {
      of = after.of;
      caller = ap (λ (v : PassView). v.caller) after.looked.same ∙ ap (λ (v : PassView). v.caller) made.root.same ∙ before.caller;
      out = ap (λ (v : PassView). v.out) after.looked.same ∙ ap (λ (v : PassView). v.out) made.root.same ∙ before.out;
      ran = subst (λ (rs : List Results). HasReplayed config last (scripts_in (take (i + 1) rounds)) rs names) (sym c.in_ok-append.ensures.items)
          (subst (λ (ts : List (List ScriptView)). HasReplayed config last ts (c.loop-index.all.items ++ these) names) (sym taken) kept.0);
      on = after.on ∙ before.on;
      tracks = after.tracks;
      watched = λ on.
          let next = c.watched_rounds.ensures.more config p q done round.scripts c.loop-index.all.items (held c.loop-index.env) (large_index config) size_sum totals before.ran made.root (before.watched on) in
          let here = subst (λ (es : List Entry). IsWatched size_sum 1 (done ++ round.scripts ∷ []) [] es (totals ++ size_sum es ∷ [])) (sym kept.1) next in
          subst (λ (ts : List (List ScriptView)). IsWatched size_sum 1 ts [] (large_seen config last) (totals_of c.after_round.new.self)) (sym taken)
          (subst (λ (ns : List ℕ). IsWatched size_sum 1 (done ++ round.scripts ∷ []) [] (large_seen config last) ns) (sym (after.totals (before.on ∙ on))) here);
    }
