-- What the closing of a heap hands out, and the laws of its histories.
use Rattle.std.proofs.Common.{◌≡◌, ℕ, ◌+◌, ◌<◌, ◌≤◌, Bool, cond, nat_lt, List, length, slice_index_or, refl, sym, ◌∙◌, subst, arith}
use Rattle.std.specs.List.{AllByRecursion as EachIs}
use Rattle.std.proofs.lemmas.Option.{get_or_from_slice_get, slice_get_within}
use Rattle.std.proofs.lemmas.Bool.Decides.{nat_tests}
use Rattle.hm_outside.specs.declared.pages.Pages as pages
use Rattle.hm_model.specs.declared.entry.Entry.{Entry}
use Rattle.hm_report.specs.declared.results.Results.{Results}
use Rattle.hm_sizes.specs.declared.config.Config.{Config}
use Rattle.hm_sizes.specs.Homes.{region_count}
use Rattle.hm_trace.specs.Views.{TraceView, scripts_of}
use Rattle.hm_turn.specs.Known.{Lock, Known}
use Rattle.hm_heap.specs.declared.close.Closed.{Closed}
use Rattle.hm_heap.specs.declared.close.History.{History}
use Rattle.hm_heap.specs.Closes.{IsEnd, Closes}
use Rattle.hm_heap.specs.Lawful.{IsRegionOf, IsLawful}
use Rattle.hm_heap.specs.Laws as heap_laws
use Rattle.hm_heap.specs.Passes.{PassView, AreOf, region_at}
use Rattle.hm_replay.specs.Names.{Names}
use Rattle.hm_replay.specs.Replays.{HasReplayed, ReplaysClose, EntriesAreOfTrace}
use Rattle.hm_replay.specs.Rounds.{IsOfTrace}
use Rattle.hm_replay.proofs.Turns.{some_of}
use Rattle.hm_run.specs.declared.words.Options.{Options}
use Rattle.hm_run.specs.Words.{config_of}
use Rattle.hm_run.specs.Replayed.{origin_at, AreEnds, IsReplayed}
use Rattle.hm_run.specs.Laws.{Begins, RegionsApart}
use Rattle.hm_heap.proofs.Fronts.{lawful_front}

module _ {P : Type 0} (meaning : pages.Ghosts P) where
  -- ---- closing
  ends : (o : Options) (locks : List Lock) (turns : List Known) (closed : Closed P)
      → AreOf locks turns → length locks ≡ region_count (config_of o) + 1 → Closes meaning (config_of o) o.seed turns closed.histories closed.pages → AreEnds meaning o closed
  ends o locks turns closed of count closes = record {
    histories = closes.histories ∙ (of.same ∙ count);
    pages = closes.pages ∙ sym closes.histories;
    each = λ r h p h_is p_is.
        let below : r < length turns = omega (arith, slice_get_within closed.histories r h h_is, closes.histories) in
        let one = closes.each r (some_of turns r below) h p below in
        let end = subst (λ (told : Bool). IsEnd meaning (record { config = config_of o; seed = o.seed; region = region_at (config_of o) r; told = told }) (slice_index_or closed.histories r h) (slice_index_or closed.pages r p))
        (sym one.end.told_is) one.end in
        subst (λ (kept : P). IsEnd meaning (origin_at meaning o r kept) h kept) (get_or_from_slice_get closed.pages r p p p_is)
        (subst (λ (x : History). IsEnd meaning (origin_at meaning o r (slice_index_or closed.pages r p)) x (slice_index_or closed.pages r p)) (get_or_from_slice_get closed.histories r h h h_is) end);
  }

  pub replayed : (o : Options) (c : Config) (seed : ℕ) (locks : List Lock) (p : PassView) (closed : Closed P)
      (trace : TraceView) (results : List Results) (last : Names)
      → ReplaysClose → EntriesAreOfTrace → c ≡ config_of o → seed ≡ o.seed
      → AreOf locks p.turns → length locks ≡ region_count (config_of o) + 1 → HasReplayed c p (scripts_of trace) results last
      → Closes meaning c seed p.turns closed.histories closed.pages → IsReplayed meaning o closed trace results
  replayed o c seed locks p closed trace results last close of_trace c_is seed_is of count ran closes =
      let shut = subst (λ (n : ℕ). Closes meaning (config_of o) n p.turns closed.histories closed.pages) seed_is
      (subst (λ (d : Config). Closes meaning d seed p.turns closed.histories closed.pages) c_is closes) in
      let done = subst (λ (d : Config). HasReplayed d p (scripts_of trace) results last) c_is ran in
      let whole = close (config_of o) p closed.histories (scripts_of trace) results last done shut.histories
      (λ r t h below. (shut.each r t h (some_of closed.pages r (omega (arith, below, shut.pages))) below).whole) in
      record {
        ends = ends o locks p.turns closed of count shut;
        names = last;
        rounds = whole;
        entries = λ r h h_is. subst (λ (x : History). EachIs (IsOfTrace 1 1 (scripts_of trace)) x.entries) (get_or_from_slice_get closed.histories r h h h_is)
            (of_trace (config_of o) closed.histories (scripts_of trace) results last whole r h (slice_get_within closed.histories r h h_is));
      }

  -- ---- what the histories begin with
  module _ (o : Options) (closed : Closed P) (index : ℕ) (p : P) (entries : List Entry) (begins : Begins meaning o closed index p entries) where
    end : IsEnd meaning (origin_at meaning o index p) begins.history p
    end = begins.ends.each index begins.history p begins.history_is begins.pages_are

    pub is_region : IsRegionOf (origin_at meaning o index p)
    is_region = end.sound.is_region

    pub lawful : IsLawful (origin_at meaning o index p) entries
    lawful = lawful_front (origin_at meaning o index p) entries begins.later
        (subst (λ (es : List Entry). IsLawful (origin_at meaning o index p) es) begins.is end.sound.lawful)

    pub index_below : index < region_count (config_of o) + 1
    index_below = omega (arith, slice_get_within closed.histories index begins.history begins.history_is, begins.ends.histories)

  -- two indices of one region are one
  one_index : (count r s : ℕ) → count ≤ 196 → r < count + 1 → s < count + 1 → cond (nat_lt r count) r 196 ≡ cond (nat_lt s count) s 196 → r ≡ s
  one_index count r s most r_below s_below same = grind (arith, nat_tests)

  few_regions : (c : Config) → c.arenas ≤ 4 → region_count c ≤ 196
  few_regions c most = omega (arith, most)

  pub regions_apart : heap_laws.RegionsApart → (o : Options) (closed : Closed P) → RegionsApart meaning o closed
  regions_apart apart o closed index other p their_p entries theirs begins their_begins a b q one two =
      let of = is_region o closed index p entries begins in
      one_index (region_count (config_of o)) index other (few_regions (config_of o) of.valid.arenas_most)
      (index_below o closed index p entries begins) (index_below o closed other their_p theirs their_begins)
      (apart (origin_at meaning o index p) (origin_at meaning o other their_p) entries theirs a b q refl
      of (is_region o closed other their_p theirs their_begins) (lawful o closed index p entries begins) (lawful o closed other their_p theirs their_begins) one two)
