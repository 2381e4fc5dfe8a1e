-- What a realloc that moves a block keeps of its bytes.
use Rattle.std.specs.Prelude.{◌≡◌, ◌≢◌, ◌⊎◌, ℕ, ◌+◌, ◌<◌, min, false, IsTrue, List, [], ◌∷◌, ◌++◌, length, slice_get, Some, None}
use Rattle.std.specs.List.{AllByRecursion as EachIs}
use Rattle.hm_outside.specs.declared.pages.Pages as pages
use Rattle.hm_model.specs.declared.answer.Answer.TheVariants.{Reply as Replied, HalfMoved}
use Rattle.hm_model.specs.declared.entry.Call.{Call}
use Rattle.hm_model.specs.declared.entry.Call.TheVariants.{Allot, GiveBack, Measure, Fetch, Fill}
use Rattle.hm_model.specs.declared.entry.Entry.{Entry}
use Rattle.hm_model.specs.declared.entry.Reply.{Reply}
use Rattle.hm_model.specs.declared.entry.Reply.TheVariants.{Given, Freed, Usable, Bytes, Filled}
use Rattle.hm_model.specs.Calls.{IsFreedAt}
use Rattle.hm_model.specs.Runs.{expand}
use Rattle.hm_report.specs.declared.results.Results.{Results}
use Rattle.hm_trace.specs.Views.{PlaceView, Realloc, TraceView}
use Rattle.hm_heap.specs.declared.close.Closed.{Closed}
use Rattle.hm_run.specs.declared.words.Options.{Options}
use Rattle.hm_run.specs.Laws.{Begins}
use Rattle.hm_run.specs.Replayed.{origin_at, IsReplayed}
use Rattle.hm_laws.specs.Kept.{byte_in}
use Rattle.hm_stats.specs.Tallies.{is_freed}
use Rattle.hm_laws.specs.Replies.{is_bytes, is_filled}
use Rattle.hm_laws.specs.Steps.{Added, AreOfStep, IsStepOf, Stands, calls_in}

-- ---- the calls of a move, each with its reply
-- so many bytes of the old block at a were fetched, and a fill wrote them to the new one; none where there are none
abbrev pub Copies : ℕ → ℕ → ℕ → List (Call × Reply) → Type 0
Copies a new count calls = ((count ≡ 0) × (calls ≡ []))
    ⊎ ((runs : List (ℕ × ℕ)) × (calls ≡ (Fetch a count, Bytes runs) ∷ (Fill new runs, Filled) ∷ []))

-- they were copied, and then the old block was given back, with this reply
pub record CopiesFirst (a new count : ℕ) (reply : Reply) (calls : List (Call × Reply)) : Type 0 where
  pub copying : List (Call × Reply)
  pub copies : Copies a new count copying
  pub calls_are : calls ≡ copying ++ (GiveBack a None, reply) ∷ []

-- it was measured, a new block was given, and so many bytes, the lesser of the old usable size and the new asked size, go on
pub record Moves (a size new usable : ℕ) (Rest : ℕ → List (Call × Reply) → Type 0) (calls : List (Call × Reply))
    : Type 0 where
  pub old : ℕ
  pub rest : List (Call × Reply)
  pub calls_are : calls ≡ (Measure a, Usable old) ∷ (Allot size 1, Given new usable) ∷ rest
  pub goes_on : Rest (min old size) rest

-- it moved
abbrev pub IsMoved : ℕ → ℕ → ℕ → ℕ → List (Call × Reply) → Type 0
IsMoved a size new usable calls = Moves a size new usable (λ count rest. CopiesFirst a new count Freed rest) calls

-- the last call was refused for this cause: the free, the fill or the fetch
abbrev pub StopsBy : ℕ → ℕ → Reply → ℕ → List (Call × Reply) → Type 0
StopsBy a new cause count calls = ((is_freed cause ≡ false) × CopiesFirst a new count cause calls)
    ⊎ ((is_filled cause ≡ false) × (0 < count)
    × (runs : List (ℕ × ℕ)) × (calls ≡ (Fetch a count, Bytes runs) ∷ (Fill new runs, cause) ∷ []))
    ⊎ ((is_bytes cause ≡ false) × (0 < count) × (calls ≡ (Fetch a count, cause) ∷ []))

-- it moved by half
abbrev pub IsHalfMoved : ℕ → ℕ → ℕ → ℕ → Reply → List (Call × Reply) → Type 0
IsHalfMoved a size new usable cause calls = Moves a size new usable (λ count rest. StopsBy a new cause count rest) calls

-- ---- its bytes
module _ {P : Type 0} (meaning : pages.Ghosts P) (o : Options) (closed : Closed P) where
  -- over pages that tell, each byte that was fetched is that of its address then, and each byte that a fill wrote is that
  -- of its address after it
  abbrev pub BytesFetched : Type 0
  BytesFetched = (index a count k : ℕ) (p : P) (before : List Entry) (fetch : Entry) (runs : List (ℕ × ℕ))
      → Begins meaning o closed index p (before ++ fetch ∷ []) → IsTrue (meaning.told p)
      → fetch.call ≡ Fetch a count → fetch.reply ≡ Bytes runs → k < count
      → (byte : ℕ) × (byte_in (origin_at meaning o index p) before (a + k) ≡ Some byte)
      × (slice_get (expand runs) k ≡ Some byte)

  abbrev pub BytesFilled : Type 0
  BytesFilled = (index a k : ℕ) (p : P) (before : List Entry) (fill : Entry) (runs : List (ℕ × ℕ))
      → Begins meaning o closed index p (before ++ fill ∷ []) → IsTrue (meaning.told p)
      → fill.call ≡ Fill a runs → fill.reply ≡ Filled → k < length (expand runs)
      → byte_in (origin_at meaning o index p) (before ++ fill ∷ []) (a + k) ≡ slice_get (expand runs) k

  -- byte k of the new block after the fill is that of the old one at the fetch, where the pages of both tell
  pub record IsCopied (added : List Added) (a new k : ℕ) : Type 0 where
    pub fetch : Added
    pub fetch_is : slice_get added 2 ≡ Some fetch
    pub fetched : Stands meaning o closed fetch
    pub fill : Added
    pub fill_is : slice_get added 3 ≡ Some fill
    pub filled : Stands meaning o closed fill
    pub same : IsTrue (meaning.told fetched.page) → IsTrue (meaning.told filled.page) → (byte : ℕ)
        × (byte_in (origin_at meaning o fetch.index fetched.page) fetched.before (a + k) ≡ Some byte)
        × (byte_in (origin_at meaning o fill.index filled.page) (filled.before ++ fill.entry ∷ []) (new + k) ≡ Some byte)

  -- of a step of a caller that moved a block: its calls, and the first bytes of the new block
  pub record MovesBytes (caller step a size new usable : ℕ) : Type 0 where
    pub added : List Added
    pub of_step : AreOfStep closed.histories caller step added
    pub moved : IsMoved a size new usable (calls_in added)
    pub bytes : (k : ℕ) → k < min moved.old size → IsCopied added a new k

  -- where a realloc of a block answers that one is given, it was moved
  abbrev pub MovesKeep : Type 0
  MovesKeep = (trace : TraceView) (results : List Results) (scripts steps : ℕ) (name : List ℕ) (place : PlaceView)
      (a size new usable : ℕ) → IsReplayed meaning o closed trace results
      → IsStepOf trace results scripts steps (Realloc name place size)
      (record { base = a; answer = Some (Replied (Given new usable)) }) → a ≢ 0
      → MovesBytes (scripts + 1) (steps + 1) a size new usable

  -- where it answers that the move stopped half way, no entry of the step took any block back
  abbrev pub HalvesKeep : Type 0
  HalvesKeep = (trace : TraceView) (results : List Results) (scripts steps : ℕ) (name : List ℕ) (place : PlaceView)
      (a size new usable : ℕ) (cause : Reply) → IsReplayed meaning o closed trace results
      → IsStepOf trace results scripts steps (Realloc name place size)
      (record { base = a; answer = Some (HalfMoved new usable cause) })
      → (added : List Added) × AreOfStep closed.histories (scripts + 1) (steps + 1) added
      × IsHalfMoved a size new usable cause (calls_in added)
      × EachIs (λ (x : Added). (b : ℕ) → IsFreedAt x.entry b → ⊥) added
