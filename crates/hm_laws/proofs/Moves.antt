-- What a realloc that moves a block keeps.
use Rattle.std.proofs.Common.{◌≡◌, ◌≢◌, inl, inr, ℕ, ◌+◌, ◌<◌, Bool, true, false, List, [], ◌∷◌, ◌++◌, Option, Some, None, sym, ◌∙◌, ap, subst, refl, arith, true≢false}
use Rattle.std.specs.Prelude.{slice_get, min, option_map}
use Rattle.std.specs.List.{AllByRecursion as EachIs}
use Rattle.std.proofs.lemmas.Option.{none-some, same_Some, slice_get-map, slice_get_within}
use Rattle.hm_outside.specs.declared.pages.Pages as pages
use Rattle.hm_model.specs.declared.answer.Answer.{Answer}
use Rattle.hm_model.specs.declared.answer.Answer.TheVariants.{Reply as Replied, Overflow, BadAlignment, TooLarge, Outside, Busy, HalfMoved, Kept, Nothing}
use Rattle.hm_model.specs.declared.entry.Call.{Call}
use Rattle.hm_model.specs.declared.entry.Call.TheVariants.{Allot, GiveBack, Measure, Fetch, Fill}
use Rattle.hm_model.specs.declared.entry.Reply.{Reply}
use Rattle.hm_model.specs.declared.entry.Reply.TheVariants.{Given, Freed, Usable, Bytes, Filled}
use Rattle.hm_model.specs.Calls.{IsFreedAt}
use Rattle.hm_model.specs.Machine.{Legal_split}
use Rattle.hm_model.specs.Runs.{expand}
use Rattle.hm_report.specs.declared.results.Results.{Results}
use Rattle.hm_report.specs.declared.results.StepResult.{StepResult}
use Rattle.hm_sizes.specs.Origins.{Origin}
use Rattle.hm_sizes.specs.declared.config.Config.{Config}
use Rattle.hm_trace.specs.Views.{StepView, Realloc, PlaceView, TraceView, scripts_of}
use Rattle.hm_class_rules.specs.State as slot_state
use Rattle.hm_class_rules.specs.Steps as slot_steps
use Rattle.hm_heap.specs.ClassRules as class
use Rattle.hm_large_rules.specs.State as block_state
use Rattle.hm_large_rules.specs.Steps as block_steps
use Rattle.hm_heap.specs.LargeRules as large
use Rattle.hm_heap.specs.Lawful.{class_terms, large_terms}
use Rattle.hm_heap.specs.declared.close.Closed.{Closed}
use Rattle.hm_replay.specs.Names.{no_names}
use Rattle.hm_replay.specs.Rounds.{own_in}
use Rattle.hm_run.specs.declared.words.Options.{Options}
use Rattle.hm_run.specs.Replayed.{origin_at, IsReplayed, AreEnds}
use Rattle.hm_run.specs.Words.{config_of}
use Rattle.hm_run.proofs.Outcomes.{is_region}
use Rattle.hm_laws.specs.Moves.{Copies, CopiesFirst, StopsBy, IsHalfMoved, IsCopied, MovesBytes, MovesKeep, HalvesKeep}
use Rattle.hm_stats.specs.Tallies.{is_given, is_freed}
use Rattle.hm_laws.specs.Steps.{Added, AreOfStep, IsStepOf, Stands, calls_in}
use Rattle.hm_laws.proofs.Adding.{IsDone, StepRan, step_ran}
use Rattle.hm_laws.proofs.Copied.{bytes_fetched, bytes_filled}
use Rattle.hm_laws.proofs.Moving.{Ends}
use Rattle.hm_laws.proofs.Regions.{by_kind, class_legal, large_legal}
use Rattle.hm_laws.proofs.Resizing.{Reallocated, reallocated}
use Rattle.hm_laws.proofs.Standing.{stands}

abbrev Calls : Type 0
Calls = List (Call × Reply)

-- ---- answers are told apart
abbrev pub tag_of : Answer → ℕ
tag_of (Replied reply) = 0
tag_of Overflow = 1
tag_of BadAlignment = 2
tag_of TooLarge = 3
tag_of Outside = 4
tag_of Busy = 5
tag_of (HalfMoved new usable cause) = 6
tag_of (Kept a usable) = 7
tag_of Nothing = 8

pub apart : {X : Type 0} (x y : Answer) (n m : ℕ) → x ≡ y → tag_of x ≡ n → tag_of y ≡ m → n ≢ m → X
apart x y n m same x_is y_is ne = absurd (ne (sym x_is ∙ ap tag_of same ∙ y_is))

abbrev pub reply_in : Answer → Reply
reply_in (Replied reply) = reply
reply_in (HalfMoved new usable cause) = cause
reply_in x = Freed

abbrev pub place_in : Answer → ℕ × ℕ
place_in (Replied (Given new usable)) = (new, usable)
place_in (HalfMoved new usable cause) = (new, usable)
place_in (Kept a usable) = (a, usable)
place_in x = (0, 0)

-- ---- a step of a run
module _ {P : Type 0} (meaning : pages.Ghosts P) (o : Options) (closed : Closed P) where
  pub ran : (trace : TraceView) (results : List Results) (scripts steps : ℕ) (step : StepView) (r : StepResult) (replayed : IsReplayed meaning o closed trace results)
      → (at : IsStepOf trace results scripts steps step r) → StepRan (config_of o) (own_in closed.histories) at.script.thread scripts steps step r
  ran trace results scripts steps step r replayed at =
      step_ran (config_of o) (own_in closed.histories) no_names replayed.names (scripts_of trace) results scripts steps at.script at.results_of step r
      replayed.rounds.ran at.script_is at.results_is at.step_is at.result_is

  -- of a realloc with an answer: what its calls come to
  realloc_done : (c : Config) (thread : ℕ) (name : List ℕ) (place : PlaceView) (size a : ℕ) (x : Answer) (added : List Added)
      → IsDone c thread (Realloc name place size) added (record { base = a; answer = Some x }) → Reallocated c a size (calls_in added) x
  realloc_done c thread name place size a x added (inl skip) = absurd (none-some x (sym (ap (λ (r : StepResult). r.answer) skip.0)))
  realloc_done c thread name place size a x added (inr done) =
      let same : done.0 ≡ x = sym (same_Some x done.0 (ap (λ (r : StepResult). r.answer) done.1)) in
      subst (λ (y : Answer). Reallocated c a size (calls_in added) y) same (reallocated c thread a size done.2.0 added done.0 done.2.1 done.2.2)

  -- no measuring is replied to by a block
  not_given : (x : Added) (a new usable : ℕ) → Stands meaning o closed x → x.entry.call ≡ Measure a → x.entry.reply ≡ Given new usable → ⊥
  not_given x a new usable s call reply =
      let r : Origin = origin_at meaning o x.index s.page in
      by_kind r {P = ⊥} (is_region meaning o closed x.index s.page (s.before ++ x.entry ∷ []) s.begins)
      (λ lt. let t : class.Terms = class_terms r in
      let last = (Legal_split (slot_steps.step t.shape) (class.Allowed t) slot_state.start s.before (x.entry ∷ []) (class_legal meaning o closed x.index s.page (s.before ++ x.entry ∷ []) s.begins lt)).1.0 in
      subst (λ (y : Reply). class.Allows t (class.state t s.before) x.entry.faults_before x.entry.faults_after x.entry.choices (Measure a) y) reply
      (subst (λ (y : Call). class.Allows t (class.state t s.before) x.entry.faults_before x.entry.faults_after x.entry.choices y x.entry.reply) call last.allows))
      (λ is. let t : large.Terms = large_terms r in
      let last = (Legal_split block_steps.step (large.Allowed t) block_state.start s.before (x.entry ∷ []) (large_legal meaning o closed x.index s.page (s.before ++ x.entry ∷ []) s.begins is)).1.0 in
      subst (λ (y : Reply). large.Allows t (large.state t s.before) x.entry (Measure a) y) reply
      (subst (λ (y : Call). large.Allows t (large.state t s.before) x.entry y x.entry.reply) call last.allows))

  -- the entry of the call at an index
  pub record IsNth (added : List Added) (n : ℕ) (call : Call) (reply : Reply) : Type 0 where
    pub one : Added
    pub is : slice_get added n ≡ Some one
    pub call_is : one.entry.call ≡ call
    pub reply_is : one.entry.reply ≡ reply

  pub nth : (added : List Added) (calls : Calls) (n : ℕ) (call : Call) (reply : Reply) → calls_in added ≡ calls → slice_get calls n ≡ Some (call, reply) → IsNth added n call reply
  nth added calls n call reply same is =
      by (slice_get added n) refl (sym (slice_get-map (λ (x : Added). (x.entry.call, x.entry.reply)) added n) ∙ ap (λ (l : Calls). slice_get l n) same ∙ is)
    where
      by : (found : Option Added) → slice_get added n ≡ found → option_map {U = Call × Reply} (λ (x : Added). (x.entry.call, x.entry.reply)) found ≡ Some (call, reply) → IsNth added n call reply
      by None there e = absurd (none-some (call, reply) e)
      by (Some x) there e =
          let pair = same_Some (x.entry.call, x.entry.reply) (call, reply) e in
          record { one = x; is = there; call_is = ap (λ (p : Call × Reply). p.0) pair; reply_is = ap (λ (p : Call × Reply). p.1) pair }

  -- the five calls of a move that copies
  five : (added : List Added) (first second third fourth last : Call × Reply) (rest copying : Calls) → calls_in added ≡ first ∷ second ∷ rest → rest ≡ copying ++ last ∷ []
      → copying ≡ third ∷ fourth ∷ [] → calls_in added ≡ first ∷ second ∷ third ∷ fourth ∷ last ∷ []
  five added first second third fourth last rest copying is rest_is copying_is =
      is ∙ ap (λ (l : Calls). first ∷ second ∷ l) (rest_is ∙ ap (λ (l : Calls). l ++ last ∷ []) copying_is)

  -- each byte is copied, where there are some
  copied : (caller step a new count : ℕ) (added : List Added) (first second : Call × Reply) (rest : Calls) (k : ℕ) → AreEnds meaning o closed
      → AreOfStep closed.histories caller step added → calls_in added ≡ first ∷ second ∷ rest → CopiesFirst a new count Freed rest → k < count → IsCopied meaning o closed added a new k
  copied caller step a new count added first second rest k ends of is moves lt = by moves.copies
    where
      by : Copies a new count moves.copying → IsCopied meaning o closed added a new k
      by (inl none) = absurd (omega (arith, lt, none.0))
      by (inr copying) =
          let all : calls_in added ≡ first ∷ second ∷ (Fetch a count, Bytes copying.0) ∷ (Fill new copying.0, Filled) ∷ (GiveBack a None, Freed) ∷ [] =
          five added first second (Fetch a count, Bytes copying.0) (Fill new copying.0, Filled) (GiveBack a None, Freed) rest moves.copying is moves.calls_are copying.1 in
          let fetch = nth added (first ∷ second ∷ (Fetch a count, Bytes copying.0) ∷ (Fill new copying.0, Filled) ∷ (GiveBack a None, Freed) ∷ []) 2 (Fetch a count) (Bytes copying.0) all refl in
          let fill = nth added (first ∷ second ∷ (Fetch a count, Bytes copying.0) ∷ (Fill new copying.0, Filled) ∷ (GiveBack a None, Freed) ∷ []) 3 (Fill new copying.0) Filled all refl in
          let fetched = stands meaning o closed caller step 2 added fetch.one ends of fetch.is in
          let filled = stands meaning o closed caller step 3 added fill.one ends of fill.is in
          record {
            fetch = fetch.one;
            fetch_is = fetch.is;
            fetched = fetched;
            fill = fill.one;
            fill_is = fill.is;
            filled = filled;
            same = λ told new_told.
                let read = bytes_fetched meaning o closed fetch.one.index a count k fetched.page fetched.before fetch.one.entry copying.0 fetched.begins told fetch.call_is fetch.reply_is lt in (
                  read.0,
                  read.1,
                  bytes_filled meaning o closed fill.one.index new k filled.page filled.before fill.one.entry copying.0 filled.begins new_told fill.call_is fill.reply_is
                      (slice_get_within (expand copying.0) k read.0 read.2) ∙ read.2,
                );
          }

  -- a given block, by what its calls come to
  moved : (caller step a size new usable : ℕ) (added : List Added) → AreEnds meaning o closed → AreOfStep closed.histories caller step added → a ≢ 0
      → Reallocated (config_of o) a size (calls_in added) (Replied (Given new usable)) → MovesBytes meaning o closed caller step a size new usable
  moved caller step a size new usable added ends of some (inl much) = apart (Replied (Given new usable)) TooLarge 0 3 much.0 refl refl cc
  moved caller step a size new usable added ends of some (inr (inl null)) = absurd (some null.0)
  moved caller step a size new usable added ends of some (inr (inr (inl out))) = apart (Replied (Given new usable)) Outside 0 4 out.0 refl refl cc
  moved caller step a size new usable added ends of some (inr (inr (inr (ne, inl kept)))) = apart (Replied (Given new usable)) (Kept a kept.0) 0 7 kept.1 refl refl cc
  moved caller step a size new usable added ends of some (inr (inr (inr (ne, inr (inl unmeasured))))) =
      let first = nth added ((Measure a, unmeasured.0) ∷ []) 0 (Measure a) unmeasured.0 unmeasured.3 refl in
      absurd (not_given first.one a new usable (stands meaning o closed caller step 0 added first.one ends of first.is) first.call_is
      (first.reply_is ∙ sym (ap reply_in unmeasured.1)))
  moved caller step a size new usable added ends of some (inr (inr (inr (ne, inr (inr (inl ungiven)))))) =
      absurd (true≢false (ap (λ (y : Answer). is_given (reply_in y)) ungiven.1 ∙ ungiven.2))
  moved caller step a size new usable added ends of some (inr (inr (inr (ne, inr (inr (inr m)))))) = by m.5
    where
      by : Ends a m.1 m.2 (min m.0 size) m.3 (Replied (Given new usable)) → MovesBytes meaning o closed caller step a size new usable
      by (inr half) = apart (Replied (Given new usable)) (HalfMoved m.1 m.2 half.0) 0 6 half.1 refl refl cc
      by (inl whole) =
          let place : ◌≡◌ {A = ℕ × ℕ} (new, usable) (m.1, m.2) = ap place_in whole.0 in
          let rest : CopiesFirst a new (min m.0 size) Freed m.3 = subst (λ (n : ℕ). CopiesFirst a n (min m.0 size) Freed m.3) (sym (ap (λ (p : ℕ × ℕ). p.0) place)) whole.1 in
          let calls : calls_in added ≡ (Measure a, Usable m.0) ∷ (Allot size 1, Given new usable) ∷ m.3 =
          m.4 ∙ ap (λ (p : ℕ × ℕ). (Measure a, Usable m.0) ∷ (Allot size 1, Given p.0 p.1) ∷ m.3) (sym place) in
          record {
            added = added;
            of_step = of;
            moved = record { old = m.0; rest = m.3; calls_are = calls; goes_on = rest };
            bytes = λ k lt. copied caller step a new (min m.0 size) added (Measure a, Usable m.0) (Allot size 1, Given new usable) m.3 k ends of calls rest lt;
          }

  pub moves_keep : MovesKeep meaning o closed
  moves_keep trace results scripts steps name place a size new usable replayed at some =
      let it = ran trace results scripts steps (Realloc name place size) (record { base = a; answer = Some (Replied (Given new usable)) }) replayed at in
      moved (scripts + 1) (steps + 1) a size new usable it.added replayed.ends (record { parts = it.parts; all = it.all }) some
      (realloc_done (config_of o) at.script.thread name place size a (Replied (Given new usable)) it.added it.done)

  -- ---- half way
  -- the call took nothing back
  abbrev TakesNone : Call × Reply → Type 0
  TakesNone p = (b : ℕ) (stated : Option ℕ) → p.0 ≡ GiveBack b stated → p.1 ≡ Freed → ⊥

  none_taken : (added : List Added) → EachIs TakesNone (calls_in added) → EachIs (λ (x : Added). (b : ℕ) → IsFreedAt x.entry b → ⊥) added
  none_taken [] each = tt
  none_taken (x ∷ xs) each = (λ b freed. each.0 b freed.stated freed.call freed.reply, none_taken xs each.1)

  by_reply : (call : Call) (reply : Reply) → is_freed reply ≡ false → TakesNone (call, reply)
  by_reply call reply isnt b stated call_is reply_is = true≢false (sym (ap is_freed reply_is) ∙ isnt)

  abbrev is_give_back : Call → Bool
  is_give_back (GiveBack a stated) = true
  is_give_back call = false

  by_call : (call : Call) (reply : Reply) → is_give_back call ≡ false → TakesNone (call, reply)
  by_call call reply isnt b stated call_is reply_is = true≢false (sym (ap is_give_back call_is) ∙ isnt)

  all_after : (a new count : ℕ) (cause : Reply) (calls : Calls) → StopsBy a new cause count calls → EachIs TakesNone calls
  all_after a new count cause calls (inl (isnt, first)) = subst (EachIs TakesNone) (sym first.calls_are) (by first.copies)
    where
      by : Copies a new count first.copying → EachIs TakesNone (first.copying ++ (GiveBack a None, cause) ∷ [])
      by (inl none) = subst (λ (l : Calls). EachIs TakesNone (l ++ (GiveBack a None, cause) ∷ [])) (sym none.1) (by_reply (GiveBack a None) cause isnt, tt)
      by (inr some) =
          subst (λ (l : Calls). EachIs TakesNone (l ++ (GiveBack a None, cause) ∷ [])) (sym some.1)
          (by_call (Fetch a count) (Bytes some.0) refl, (by_call (Fill new some.0) Filled refl, (by_reply (GiveBack a None) cause isnt, tt)))
  all_after a new count cause calls (inr (inl (isnt, lt, runs, is))) =
      subst (EachIs TakesNone) (sym is) (by_call (Fetch a count) (Bytes runs) refl, (by_call (Fill new runs) cause refl, tt))
  all_after a new count cause calls (inr (inr (isnt, lt, is))) = subst (EachIs TakesNone) (sym is) (by_call (Fetch a count) cause refl, tt)

  half_moved : (caller step a size new usable : ℕ) (cause : Reply) (added : List Added) → AreOfStep closed.histories caller step added
      → Reallocated (config_of o) a size (calls_in added) (HalfMoved new usable cause)
      → (added : List Added) × AreOfStep closed.histories caller step added × IsHalfMoved a size new usable cause (calls_in added)
      × EachIs (λ (x : Added). (b : ℕ) → IsFreedAt x.entry b → ⊥) added
  half_moved caller step a size new usable cause added of (inl much) = apart (HalfMoved new usable cause) TooLarge 6 3 much.0 refl refl cc
  half_moved caller step a size new usable cause added of (inr (inl null)) = apart (HalfMoved new usable cause) (Replied null.1.0) 6 0 null.1.1 refl refl cc
  half_moved caller step a size new usable cause added of (inr (inr (inl out))) = apart (HalfMoved new usable cause) Outside 6 4 out.0 refl refl cc
  half_moved caller step a size new usable cause added of (inr (inr (inr (ne, inl kept)))) = apart (HalfMoved new usable cause) (Kept a kept.0) 6 7 kept.1 refl refl cc
  half_moved caller step a size new usable cause added of (inr (inr (inr (ne, inr (inl unmeasured))))) = apart (HalfMoved new usable cause) (Replied unmeasured.0) 6 0 unmeasured.1 refl refl cc
  half_moved caller step a size new usable cause added of (inr (inr (inr (ne, inr (inr (inl ungiven)))))) = apart (HalfMoved new usable cause) (Replied ungiven.0) 6 0 ungiven.1 refl refl cc
  half_moved caller step a size new usable cause added of (inr (inr (inr (ne, inr (inr (inr m)))))) = by m.5
    where
      by : Ends a m.1 m.2 (min m.0 size) m.3 (HalfMoved new usable cause)
          → (added : List Added) × AreOfStep closed.histories caller step added × IsHalfMoved a size new usable cause (calls_in added)
          × EachIs (λ (x : Added). (b : ℕ) → IsFreedAt x.entry b → ⊥) added
      by (inl whole) = apart (HalfMoved new usable cause) (Replied (Given m.1 m.2)) 6 0 whole.0 refl refl cc
      by (inr half) =
          let place : ◌≡◌ {A = ℕ × ℕ} (new, usable) (m.1, m.2) = ap place_in half.1 in
          let stops : StopsBy a new cause (min m.0 size) m.3 =
          subst (λ (n : ℕ). StopsBy a n cause (min m.0 size) m.3) (sym (ap (λ (p : ℕ × ℕ). p.0) place))
          (subst (λ (r : Reply). StopsBy a m.1 r (min m.0 size) m.3) (sym (ap reply_in half.1)) half.2) in
          let calls : calls_in added ≡ (Measure a, Usable m.0) ∷ (Allot size 1, Given new usable) ∷ m.3 =
          m.4 ∙ ap (λ (p : ℕ × ℕ). (Measure a, Usable m.0) ∷ (Allot size 1, Given p.0 p.1) ∷ m.3) (sym place) in (
            added,
            of,
            record { old = m.0; rest = m.3; calls_are = calls; goes_on = stops },
            none_taken added (subst (EachIs TakesNone) (sym calls)
                (by_call (Measure a) (Usable m.0) refl, (by_call (Allot size 1) (Given new usable) refl, all_after a new (min m.0 size) cause m.3 stops))),
          )

  pub halves_keep : HalvesKeep meaning o closed
  halves_keep trace results scripts steps name place a size new usable cause replayed at =
      let it = ran trace results scripts steps (Realloc name place size) (record { base = a; answer = Some (HalfMoved new usable cause) }) replayed at in
      half_moved (scripts + 1) (steps + 1) a size new usable cause it.added (record { parts = it.parts; all = it.all })
      (realloc_done (config_of o) at.script.thread name place size a (HalfMoved new usable cause) it.added it.done)
