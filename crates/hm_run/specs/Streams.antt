-- What a run takes from its source and puts to its sink.
use Rattle.std.specs.Prelude.{◌≡◌, ◌⊎◌, ℕ, ◌<◌, ◌≤◌, List, take, length}
use Rattle.std.specs.declared.option.Option.{Option}
use Rattle.hm_outside.specs.declared.streams.Source as sources
use Rattle.hm_outside.specs.declared.streams.Sink as sinks
use Rattle.hm_outside.specs.Causes.{Rose}
use Rattle.hm_outside.specs.Streams.{Taken, Put, IsEmptied}
use Rattle.hm_run.specs.declared.status.Status.TheVariants as statuses
use Rattle.hm_run.specs.Statuses.{code_of}

-- a stream before a run and after it: what a source has left, or a sink holds, where it tells that; and how often it
-- failed
pub record Stream : Type 0 where
  pub before : Option (List ℕ)
  pub after : Option (List ℕ)
  pub faults_before : ℕ
  pub faults_after : ℕ

abbrev pub stream_of : {S : Type 0} → (S → Option (List ℕ)) → (S → ℕ) → S → S → Stream
stream_of bytes faults old new = record {
  before = bytes old;
  after = bytes new;
  faults_before = faults old;
  faults_after = faults new;
}

abbrev pub source_of : {S : Type 0} → sources.Ghosts S → S → S → Stream
source_of meaning = stream_of meaning.left meaning.faults

abbrev pub sink_of : {K : Type 0} → sinks.Ghosts K → K → K → Stream
sink_of meaning = stream_of meaning.held meaning.faults

-- its count of faults rose, or stands at its last value
abbrev pub MetFault : Stream → Type 0
MetFault stream = Rose stream.faults_before stream.faults_after

-- it met no fault: its count is as before
abbrev pub IsSound : Stream → Type 0
IsSound stream = stream.faults_after ≡ stream.faults_before

-- ---- a source
-- nothing was taken from it, and it met no fault
abbrev pub IsUntaken : Stream → Type 0
IsUntaken source = (source.after ≡ source.before) × IsSound source

-- these bytes were taken, and none is left
abbrev pub IsReadToEnd : Stream → List ℕ → Type 0
IsReadToEnd source bytes = Taken source.before source.after bytes × IsEmptied source.after

-- more than so many bytes were taken
abbrev pub IsTakenPast : ℕ → Stream → Type 0
IsTakenPast limit source = (bytes : List ℕ) × Taken source.before source.after bytes × (limit < length bytes)

-- at most so many bytes were taken
abbrev pub IsTakenWithin : ℕ → Stream → Type 0
IsTakenWithin most source = (bytes : List ℕ) × Taken source.before source.after bytes × (length bytes ≤ most)

-- ---- a sink
-- a front of the text was put, and not all of it
abbrev pub IsFrontPut : Stream → List ℕ → Type 0
IsFrontPut sink text = (n : ℕ) × (n < length text) × Put sink.before sink.after (take n text)

-- the text was put, with no fault, and the status is the one planned; or the status is 5, the sink failed and a front
-- of the text was put
abbrev pub IsWritten : ℕ → ℕ → Stream → List ℕ → Type 0
IsWritten status planned sink text =
    ((status ≡ planned) × IsSound sink × Put sink.before sink.after text)
    ⊎ ((status ≡ code_of statuses.WriteFault) × MetFault sink × IsFrontPut sink text)
