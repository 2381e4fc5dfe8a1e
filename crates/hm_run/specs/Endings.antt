-- How a run ends, with its cause.
use Rattle.std.specs.Prelude.{◌≡◌, ◌⊎◌, ℕ, ◌+◌, ◌≤◌, if◌then◌else◌, List, ◌∷◌, [], ◌++◌, length, codes, String, Option, Some, None, ⊤}
use Rattle.std.specs.Fmt.{decimal}
use Rattle.std.specs.declared.alloc.Global.{Global}
use Rattle.hm_outside.specs.declared.pages.Pages as pages
use Rattle.hm_report.specs.declared.notes.RoundNotes.{RoundNotes}
use Rattle.hm_report.specs.declared.results.Results.{Results}
use Rattle.hm_report.specs.Summary.{summary_text}
use Rattle.hm_report.specs.Text.{report_text}
use Rattle.hm_report.specs.Totals.{totals_text}
use Rattle.hm_report.specs.Findings.{has_finding}
use Rattle.hm_trace.specs.declared.fault.FaultKind.{FaultKind}
use Rattle.hm_trace.specs.declared.fault.FaultKind.TheVariants.{AfterEnd, LineTooLong, NotAscii, BadHeader, BadWord, BadName, BadNumber, TooManyThreads, TooManyRounds, TooManySteps, TooManyNotes, NameSetTwice, NoEnd}
use Rattle.hm_trace.specs.declared.fault.TraceFault.{TraceFault}
use Rattle.hm_trace.specs.Faults.{text_fault}
use Rattle.hm_trace.specs.Spelling.{spelling}
use Rattle.hm_trace.specs.Stress.{stress}
use Rattle.hm_trace.specs.Traces.{IsTrace}
use Rattle.hm_trace.specs.Views.{RoundView, TraceView, scripts_of}
use Rattle.hm_heap.specs.declared.close.Closed.{Closed}
use Rattle.hm_check.specs.declared.verdict.Verdict.{Verdict}
use Rattle.hm_check.specs.Verdicts.{IsVerdict}
use Rattle.hm_journal.specs.Journals.{journal_text}
use Rattle.hm_journal.specs.Ranges.{JournalFits}
use Rattle.hm_run.specs.declared.refusal.Refusal.{Refusal}
use Rattle.hm_run.specs.declared.refusal.Refusal.TheVariants.{Usage, ReadFault, TooLong}
use Rattle.hm_run.specs.declared.run.Run.{Run}
use Rattle.hm_run.specs.declared.words.Asked.{Asked}
use Rattle.hm_run.specs.declared.words.Command.{Command}
use Rattle.hm_run.specs.declared.words.Command.TheVariants as command
use Rattle.hm_run.specs.declared.words.Options.{Options}
use Rattle.hm_run.specs.declared.words.Output.{Output}
use Rattle.hm_stats.specs.Tables.{table_of}
use Rattle.hm_stats.specs.Text.{table_text}
use Rattle.hm_run.specs.declared.words.Output.TheVariants.{Report, Journal, Stats, Watch}
use Rattle.hm_run.specs.LiveSums.{live_sums}
use Rattle.hm_run.specs.Words.{IfUnasked, asked_in, config_of}
use Rattle.hm_run.specs.Streams.{Stream, MetFault, IsSound, IsReadToEnd, IsTakenPast, IsTakenWithin, IsUntaken, IsWritten}
use Rattle.hm_run.specs.Replayed.{IsReplayed}
use Rattle.hm_run.specs.Verdicts.{check_text, status_told}
use Rattle.hm_run.specs.Limits.{most_bytes}
use Rattle.hm_run.specs.declared.status.Status.TheVariants as statuses
use Rattle.hm_run.specs.Statuses.{code_of}

-- ---- refusals
abbrev pub status_of : Refusal → ℕ
status_of Usage = code_of statuses.Usage
status_of ReadFault = code_of statuses.ReadFault
status_of TooLong = code_of statuses.TooLong

abbrev pub line_of : Refusal → List ℕ
line_of Usage = codes "fault: usage" ++ 10 ∷ []
line_of ReadFault = codes "fault: read" ++ 10 ∷ []
line_of TooLong = codes "fault: too long" ++ 10 ∷ []

-- why a source is refused: it failed, and no more bytes were taken than may be; or it has too many, and met no fault;
-- what the words are is no matter of the source
abbrev pub IsRefused : Refusal → Stream → Type 0
IsRefused Usage source = ⊥
IsRefused ReadFault source = MetFault source × IsTakenWithin most_bytes source
IsRefused TooLong source = IsTakenPast most_bytes source × IsSound source

-- ---- faults of a trace
abbrev pub kind_text : FaultKind → List ℕ
kind_text AfterEnd = codes "AfterEnd"
kind_text LineTooLong = codes "LineTooLong"
kind_text NotAscii = codes "NotAscii"
kind_text BadHeader = codes "BadHeader"
kind_text BadWord = codes "BadWord"
kind_text BadName = codes "BadName"
kind_text BadNumber = codes "BadNumber"
kind_text TooManyThreads = codes "TooManyThreads"
kind_text TooManyRounds = codes "TooManyRounds"
kind_text TooManySteps = codes "TooManySteps"
kind_text TooManyNotes = codes "TooManyNotes"
kind_text NameSetTwice = codes "NameSetTwice"
kind_text NoEnd = codes "NoEnd"

unfoldable pub fault_start : List ℕ
fault_start = codes "fault: trace line "

-- the number of a line and the kind of its fault
abbrev pub fault_text : ℕ → FaultKind → List ℕ
fault_text line kind = decimal line ++ 32 ∷ kind_text kind ++ 10 ∷ []

abbrev pub fault_line : TraceFault → List ℕ
fault_line fault = fault_start ++ fault_text fault.line fault.kind

-- ---- a run
-- 1 exactly where there is a finding
abbrev pub status_after : List Results → ℕ
status_after results = if has_finding results then code_of statuses.Finding else code_of statuses.Clean

-- the notes of the rounds, of which the first has this number
abbrev pub notes_in : ℕ → List RoundView → List RoundNotes
notes_in number [] = []
notes_in number (round ∷ rounds) = record { round = number; notes = round.notes } ∷ notes_in (number + 1) rounds

-- what is written of it: the report of its notes and the results, the journal of the histories, what these come to, or the
-- sums of the sizes of live large blocks after each round
abbrev pub output_text : {P : Type 0} → Options → Output → TraceView → Closed P → List Results → List ℕ
output_text o Report trace left results = report_text (notes_in 1 trace.rounds) results
output_text o Journal trace left results = journal_text (config_of o) o.seed left.histories
output_text o Stats trace left results = table_text (table_of left.histories)
output_text o Watch trace left results = totals_text (live_sums (config_of o) (scripts_of trace) left.histories)

-- a journal's numbers are in the ranges of their types, so that its text determines it
abbrev pub OutputFits : {P : Type 0} → Options → Output → Closed P → Type 0
OutputFits o Report left = ⊤
OutputFits o Journal left = JournalFits (config_of o) o.seed left.histories
OutputFits o Stats left = ⊤
OutputFits o Watch left = ⊤

-- ---- endings
module _ {P : Type 0} (meaning : pages.Ghosts P) (run : Run P) (sink : Stream) where
  -- the trace was run and the heap closed, and the text of what it left was written, or a front of it where the sink
  -- failed
  pub record RunsTrace (o : Options) (trace : TraceView) (text_of : Closed P → List Results → List ℕ)
      : Type 0 where
    pub left : Closed P
    pub closed_is : run.closed ≡ Some left
    pub results : List Results
    pub results_are : run.results ≡ Some results
    pub replayed : IsReplayed meaning o left trace results
    pub written : IsWritten run.status (status_after results) sink (text_of left results)

  -- memory was wanted: nothing was written
  pub record LacksMemory : Type 0 where
    pub status_is : run.status ≡ code_of statuses.NoMemory
    pub unwritten : sink.after ≡ sink.before
    pub sound : IsSound sink
    pub not_closed : run.closed ≡ None
    pub no_results : run.results ≡ None

  -- the text is a trace, which was run: what is asked for was written of it
  pub record RunsText (o : Options) (output : Output) (bytes : List ℕ) : Type 0 where
    pub trace : TraceView
    pub is_trace : IsTrace trace
    pub text : bytes ≡ spelling trace
    pub runs : RunsTrace o trace (output_text o output trace)
    pub fits : OutputFits o output runs.left

  -- the text is no trace, and the line that names its first fault was written, or a front of it where the sink failed
  pub record IsFaulty (bytes : List ℕ) : Type 0 where
    pub fault : TraceFault
    pub first : text_fault bytes ≡ Some fault
    pub not_closed : run.closed ≡ None
    pub no_results : run.results ≡ None
    pub written : IsWritten run.status (code_of statuses.NoTrace) sink (fault_line fault)

  -- how a text that was read ends
  abbrev pub TextEnds : Options → Output → List ℕ → Type 0
  TextEnds o output bytes = RunsText o output bytes ⊎ IsFaulty bytes

  -- the line of the bytes' verdict was written, or a front of it where the sink failed
  pub record TellsVerdict (bytes : List ℕ) : Type 0 where
    pub verdict : Verdict
    pub verdict_is : IsVerdict bytes verdict
    pub not_closed : run.closed ≡ None
    pub no_results : run.results ≡ None
    pub written : IsWritten run.status (status_told verdict) sink (check_text verdict)

  -- a line that says why a run is refused was written, or a front of it where the sink failed
  pub record TellsRefusal (refusal : Refusal) : Type 0 where
    pub not_closed : run.closed ≡ None
    pub no_results : run.results ≡ None
    pub written : IsWritten run.status (status_of refusal) sink (line_of refusal)

  module _ (source : Stream) where
    -- ---- by the source
    -- it failed, or has too many bytes
    pub record SourceRefused : Type 0 where
      pub refusal : Refusal
      pub cause : IsRefused refusal source
      pub tells : TellsRefusal refusal

    -- it was read to its end, with no fault, and has no more bytes than may be taken
    pub record SourceRead (Ended : List ℕ → Type 0) : Type 0 where
      pub bytes : List ℕ
      pub read : IsReadToEnd source bytes
      pub sound : IsSound source
      pub within : length bytes ≤ most_bytes
      pub ends : Ended bytes

    -- how a command that reads it ends, by the bytes
    abbrev pub SourceEnds : (List ℕ → Type 0) → Type 0
    SourceEnds Ended = SourceRead Ended ⊎ SourceRefused

    -- ---- by the command
    -- what is asked for was written of the source's trace; or the verdict on the source's journal; or the summary of the
    -- run of the stress trace of a seed
    abbrev pub CommandEnds : Options → Command → Type 0
    CommandEnds o (command.Run output) = SourceEnds (TextEnds o output)
    CommandEnds o command.Check = SourceEnds TellsVerdict
    CommandEnds o (command.Stress seed) = RunsTrace o (stress seed) (λ left. summary_text seed)

    -- ---- by the words
    -- as their command does, or for want of memory, and then the source met no fault; where they are not accepted, that
    -- is told
    abbrev pub EndsAsked : Option Asked → Type 0
    EndsAsked (Some asked) = CommandEnds asked.options asked.command ⊎ (LacksMemory × IsSound source)
    EndsAsked None = TellsRefusal Usage

-- the source was read to its end, has no more bytes than may be taken, and they have this first fault
pub record HasFirstFault (source : Stream) : Type 0 where
  pub bytes : List ℕ
  pub read : IsReadToEnd source bytes
  pub within : length bytes ≤ most_bytes
  pub fault : TraceFault
  pub first : text_fault bytes ≡ Some fault

-- how a run ends, by the words that it was given, its source and its sink: where they ask for no source, nothing was
-- taken from it, and it met no fault
abbrev pub Ends : {P : Type 0} → pages.Ghosts P → List (String Global) → Run P → Stream → Stream → Type 0
Ends meaning words run source sink =
    IfUnasked (asked_in words) (IsUntaken source) × EndsAsked meaning run sink source (asked_in words)
