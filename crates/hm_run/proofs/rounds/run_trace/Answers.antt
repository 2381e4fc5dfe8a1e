use Rattle.std.proofs.Common.{◌≡◌, ◌+◌, ◌∙◌, true, subst, sym, List, [], length, arith}
use Rattle.std.specs.List.{list_all}
use Rattle.hm_trace.specs.Traces.{is_round}
use Rattle.hm_trace.proofs.Scripts.{scripts_are_rounds}
use Rattle.hm_sizes.specs.declared.config.Config.{Config}
use Rattle.hm_sizes.specs.Homes.{region_count}
use Rattle.hm_trace.specs.Views.{RoundView, scripts_of}
use Rattle.hm_replay.specs.Replays.{HasReplayed}
use Rattle.hm_trace.proofs.Versions.{few_steps}
use Rattle.hm_run.proofs.Counting.{rounds_valid, scripts_in}
use Rattle.hm_replay.specs.Watched.{IsWatched}
use Rattle.hm_run.specs.Watches.{large_seen, size_sum}
use Rattle.hm_run.proofs.Outcomes.{replayed}
use Rattle.hm_run.proofs.Summing.{totals_are}
use Rattle.hm_run.proofs.rounds.run_trace.Goals as goal

pub returns-clause-replayed : goal.returns-clause-replayed
returns-clause-replayed g c =
    let heap = c.in_ok-heap.heap in
    let root = c.watch_rounds.new.root in
    let ran = c.in_ok-results.ensures.ran in
    replayed g.M.P.Pages c.args.options.now heap.config heap.seed heap.locks root c.in_ok-closed.closed c.args.trace.now c.in_ok-results.results.items ran.0
    c.replayed_rounds.ensures.closed c.replayed_rounds.ensures.entries (c.in_ok-heap.ensures.heap.0 ∙ c.config.ensures) c.in_ok-heap.ensures.heap.1
    c.in_ok-results.ensures.of (subst (λ (d : Config). length heap.locks ≡ region_count d + 1) c.config.ensures c.in_ok-heap.ensures.locks.count)
    (subst (λ (ts : List RoundView). HasReplayed heap.config root (scripts_in ts) c.in_ok-results.results.items ran.0) c.rounds.ensures.all ran.1) c.in_ok-closed.ensures

pub watch_rounds-requires-clause-valid : goal.watch_rounds-requires-clause-valid
watch_rounds-requires-clause-valid g c κs within =
    rw (c.rounds.ensures.all) (rounds_valid c.args.trace.now.version c.args.trace.now.rounds c.rounds.ensures.valid.each)

pub returns-clause-order : goal.returns-clause-order
returns-clause-order g c =
    let ran = c.in_ok-results.ensures.ran in
    let rounds = c.rounds.result.now in
    let trace = c.args.trace.now in
    let valid : list_all is_round (scripts_in rounds) ≡ true =
    subst (λ (rs : List RoundView). list_all is_round (scripts_in rs) ≡ true) (sym c.rounds.ensures.all)
    (scripts_are_rounds trace.version trace.rounds c.rounds.ensures.valid.each) in
    c.replayed_rounds.ensures.order c.in_ok-heap.heap.config _ (scripts_in rounds) c.in_ok-results.results.items _ ran.0
    valid ran.1.ran

pub returns-clause-few : goal.returns-clause-few
returns-clause-few g c =
    omega (
      arith,
      c.replayed_rounds.ensures.few _ _ _ _ _ (returns-clause-replayed g c).rounds,
      c.rounds.ensures.valid.steps_fit,
      few_steps c.args.trace.now.version,
    )

pub returns-clause-totals : goal.returns-clause-totals
returns-clause-totals g c = λ on.
    let heap = c.in_ok-heap.heap in
    let root = c.watch_rounds.new.root in
    let ran = c.in_ok-results.ensures.ran in
    let trace = c.args.trace.now in
    totals_are g.M.P.Pages c.args.options.now c.in_ok-closed.closed heap.config heap.seed root (scripts_of trace) c.in_ok-results.results.items ran.0
    c.in_ok-results.totals.items c.watched_rounds.ensures.closed c.live_block_sizes.ensures (returns-clause-replayed g c).ends
    (c.in_ok-heap.ensures.heap.0 ∙ c.config.ensures)
    (subst (λ (ts : List RoundView). HasReplayed heap.config root (scripts_in ts) c.in_ok-results.results.items ran.0) c.rounds.ensures.all ran.1)
    c.in_ok-closed.ensures
    (subst (λ (ts : List RoundView). IsWatched size_sum 1 (scripts_in ts) [] (large_seen heap.config root) c.in_ok-results.totals.items) c.rounds.ensures.all (c.in_ok-results.ensures.watched on))
