-- The sums of sizes are those of the blocks that are live.
use Rattle.std.proofs.Common.{◌≡◌, ℕ, ◌<◌, Bool, cond, true, List, [], ◌∷◌, ◌++◌, length, slice_index_or, arith, refl, ap, ◌∙◌, sym, subst}
use Rattle.std.specs.List.{sum_by}
use Rattle.std.proofs.lemmas.Bool.{le-ltb}
use Rattle.std.proofs.lemmas.List.{get_or-map}
use Rattle.std.proofs.lemmas.Option.{slice_get-get_or}
use Rattle.hm_outside.specs.declared.pages.Pages as pages
use Rattle.hm_model.specs.declared.entry.Entry.{Entry}
use Rattle.hm_model.specs.Machine.{state_after}
use Rattle.hm_report.specs.declared.results.Results.{Results}
use Rattle.hm_sizes.specs.declared.config.Config.{Config}
use Rattle.hm_sizes.specs.Homes.{region_count}
use Rattle.hm_sizes.specs.Origins.{large_region_number}
use Rattle.hm_trace.specs.Views.{ScriptView}
use Rattle.hm_large_rules.specs.State.{Block, State, start}
use Rattle.hm_large_rules.specs.LiveSizes.{LiveSizes}
use Rattle.hm_large_rules.specs.Rules.{Terms, Allowed}
use Rattle.hm_large_rules.specs.Steps.{step}
use Rattle.hm_heap.specs.declared.close.Closed.{Closed}
use Rattle.hm_heap.specs.declared.close.History.{History}
use Rattle.hm_heap.specs.Calls.{large_index}
use Rattle.hm_heap.specs.Closes.{Closes}
use Rattle.hm_heap.specs.Lawful.{large_terms}
use Rattle.hm_heap.specs.Passes.{PassView, region_at}
use Rattle.hm_replay.specs.Names.{Names}
use Rattle.hm_replay.specs.Replays.{HasReplayed}
use Rattle.hm_replay.specs.Watched.{entries_at, IsWatched, NumbersClose}
use Rattle.hm_replay.proofs.Turns.{some_of}
use Rattle.hm_run.specs.declared.words.Options.{Options}
use Rattle.hm_run.specs.Laws.{Begins}
use Rattle.hm_run.specs.LiveSums.{live_sum, live_sums}
use Rattle.hm_run.specs.Replayed.{origin_at, AreEnds}
use Rattle.hm_run.specs.Watches.{large_seen, size_sum}
use Rattle.hm_run.specs.Words.{config_of}
use Rattle.hm_run.proofs.Outcomes.{lawful}

-- what is kept is the same by whatever terms
same_state : (t u : Terms) (s : State) (es : List Entry) → state_after step (Allowed t) s es ≡ state_after step (Allowed u) s es
same_state t u s [] = refl
same_state t u s (e ∷ es) = same_state t u (step s e) es

large_there : (c : Config) → region_at c (large_index c) ≡ large_region_number
large_there c =
    ap (λ (b : Bool). cond b (large_index c) large_region_number) (le-ltb (region_count c) (region_count c) (omega arith))

module _ {P : Type 0} (meaning : pages.Ghosts P) (o : Options) (closed : Closed P) where
  -- of whatever the large region's history begins with
  sums_alike : LiveSizes → AreEnds meaning o closed → (front later : List Entry)
      → entries_at closed.histories (large_index (config_of o)) ≡ front ++ later
      → size_sum front ≡ live_sum (config_of o) front
  sums_alike law ends front later is =
      let index : ℕ = large_index (config_of o) in
      let b : index < length closed.histories = omega (arith, ends.histories) in
      let b' : index < length closed.pages = omega (arith, b, ends.pages) in
      let h : History = some_of closed.histories index b in
      let p : P = slice_index_or closed.pages index (some_of closed.pages index b') in
      let begins : Begins meaning o closed index p front =
      record {
        ends = ends;
        pages_are = slice_get-get_or closed.pages index (some_of closed.pages index b') b';
        history = slice_index_or closed.histories index h;
        history_is = slice_get-get_or closed.histories index h b;
        later = later;
        is = sym (get_or-map (λ (h : History). h.entries) closed.histories index h [] b) ∙ is;
      } in
      let terms : Terms = large_terms (origin_at meaning o index p) in
      let legal = ((lawful meaning o closed index p front begins).large (large_there (config_of o))).legal in
      (law terms front legal).total
      ∙ ap (λ (s : State). sum_by (λ (b : ℕ × Block). b.1.size) s.live)
      (same_state terms (record { config = config_of o; told = true }) start front)

  -- the sums that were read are those of the histories
  pub totals_are : (c : Config) (seed : ℕ) (p : PassView) (rounds : List (List ScriptView)) (results : List Results)
      (last : Names) (totals : List ℕ) → NumbersClose → LiveSizes → AreEnds meaning o closed → c ≡ config_of o
      → HasReplayed c p rounds results last → Closes meaning c seed p.turns closed.histories closed.pages
      → IsWatched size_sum 1 rounds [] (large_seen c p) totals → totals ≡ live_sums (config_of o) rounds closed.histories
  totals_are c seed p rounds results last totals close law ends is ran closes watched =
      close (config_of o) p closed.histories rounds results last (large_index (config_of o)) size_sum
      (live_sum (config_of o)) totals
      (subst (λ (d : Config). HasReplayed d p rounds results last) is ran) closes.histories
      (λ r t h below. (closes.each r t h (some_of closed.pages r (omega (arith, below, closes.pages))) below).whole)
      (subst (λ (d : Config). IsWatched size_sum 1 rounds [] (large_seen d p) totals) is watched)
      (sums_alike law ends)
