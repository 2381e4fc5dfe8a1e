-- The summary of a run: how many results there are of each kind.
use Rattle.std.specs.Prelude.{ℕ, ◌==◌, Bool, true, false, if◌then◌else◌, List, [], ◌∷◌, ◌++◌, length, codes, Option, Some, None, count_by}
use Rattle.std.specs.List.{sum_by}
use Rattle.std.specs.Fmt.{decimal}
use Rattle.hm_model.specs.declared.entry.Reply.{Reply}
use Rattle.hm_model.specs.declared.entry.Reply.TheVariants as reply
use Rattle.hm_model.specs.declared.answer.Answer.{Answer}
use Rattle.hm_model.specs.declared.answer.Answer.TheVariants.{Reply as Replied}
use Rattle.hm_report.specs.declared.counts.Kind.{Kind}
use Rattle.hm_report.specs.declared.counts.Kind.TheVariants.{Given, Written, Size, Bytes, Freed, Skipped, Other}
use Rattle.hm_report.specs.declared.counts.Counts.{Counts}
use Rattle.hm_report.specs.declared.results.StepResult.{StepResult}
use Rattle.hm_report.specs.declared.results.Results.{Results}

abbrev pub reply_kind : Reply → Kind
reply_kind (reply.Given addr usable) = Given
reply_kind reply.Filled = Written
reply_kind (reply.Usable size) = Size
reply_kind (reply.Bytes runs) = Bytes
reply_kind reply.Freed = Freed
reply_kind _ = Other

abbrev pub answered_kind : Option Answer → Kind
answered_kind None = Skipped
answered_kind (Some (Replied reply)) = reply_kind reply
answered_kind (Some _) = Other

-- a result's kind: what its text says first, or that it is another one
abbrev pub kind_of : StepResult → Kind
kind_of result = answered_kind result.answer

abbrev pub is_same : Kind → Kind → Bool
is_same Given Given = true
is_same Written Written = true
is_same Size Size = true
is_same Bytes Bytes = true
is_same Freed Freed = true
is_same Skipped Skipped = true
is_same Other Other = true
is_same _ _ = false

-- the result is of this kind
abbrev pub is_of : Kind → StepResult → Bool
is_of kind result = is_same (kind_of result) kind

-- how many results of a script are of this kind
abbrev pub count_in : Kind → Results → ℕ
count_in kind script = count_by (λ result. is_of kind result) script.items

-- how many results of all scripts are of this kind
abbrev pub count : Kind → List Results → ℕ
count kind results = sum_by (λ script. count_in kind script) results

-- how many results there are
abbrev pub step_count : List Results → ℕ
step_count results = sum_by (λ (script : Results). length script.items) results

-- how many results of all scripts there are of each kind
abbrev pub counts_of : List Results → Counts
counts_of results =
    record {
      given = count Given results;
      written = count Written results;
      size = count Size results;
      bytes = count Bytes results;
      freed = count Freed results;
      skipped = count Skipped results;
      other = count Other results;
    }

-- a word, and a number
abbrev pub number_text : List ℕ → ℕ → List ℕ
number_text word number = 32 ∷ word ++ 32 ∷ decimal number

-- the end of the line names the others only where there are any
abbrev pub end_text : ℕ → List ℕ
end_text others = if others == 0 then 10 ∷ [] else codes " other " ++ decimal others ++ 10 ∷ []

-- the line of the run of this seed: its steps, and these counts
abbrev pub counts_line : ℕ → ℕ → Counts → List ℕ
counts_line seed steps counts =
    (codes "stress " ++ decimal seed ++ codes ": steps " ++ decimal steps)
    ++ number_text (codes "given") counts.given
    ++ number_text (codes "written") counts.written
    ++ number_text (codes "size") counts.size
    ++ number_text (codes "bytes") counts.bytes
    ++ number_text (codes "freed") counts.freed
    ++ number_text (codes "skipped") counts.skipped
    ++ end_text counts.other

-- the one line of the run of this seed
abbrev pub summary_text : ℕ → List Results → List ℕ
summary_text seed results = counts_line seed (step_count results) (counts_of results)
