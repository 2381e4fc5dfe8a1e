-- The line that tells the verdict on a journal, and the status that goes with it.
use Rattle.std.specs.Prelude.{ℕ, List, [], ◌∷◌, ◌++◌, codes}
use Rattle.std.specs.Fmt.{decimal}
use Rattle.hm_check.specs.declared.verdict.JournalFault.{JournalFault}
use Rattle.hm_check.specs.declared.verdict.JournalFault.TheVariants.{BadText, NotLegal, NotDrawn}
use Rattle.hm_check.specs.declared.verdict.Verdict.{Verdict}
use Rattle.hm_check.specs.declared.verdict.Verdict.TheVariants.{Yes, No}
use Rattle.hm_run.specs.declared.status.Status.TheVariants as statuses
use Rattle.hm_run.specs.Statuses.{code_of}

-- how a fault is spelled
abbrev pub fault_word : JournalFault → List ℕ
fault_word BadText = codes "BadText"
fault_word NotLegal = codes "NotLegal"
fault_word NotDrawn = codes "NotDrawn"

-- `check: yes N entries` and a line feed
abbrev pub yes_text : ℕ → List ℕ
yes_text entries = codes "check: yes " ++ decimal entries ++ codes " entries" ++ 10 ∷ []

unfoldable pub no_start : List ℕ
no_start = codes "check: no line "

-- the number of a line and its fault
abbrev pub position_text : ℕ → JournalFault → List ℕ
position_text line fault = decimal line ++ 32 ∷ fault_word fault ++ 10 ∷ []

-- `check: no line L FAULT` and a line feed
abbrev pub no_text : ℕ → JournalFault → List ℕ
no_text line fault = no_start ++ position_text line fault

abbrev pub check_text : Verdict → List ℕ
check_text (Yes entries) = yes_text entries
check_text (No line fault) = no_text line fault

-- 0 for yes, 1 for no
abbrev pub status_told : Verdict → ℕ
status_told (Yes entries) = code_of statuses.Clean
status_told (No line fault) = code_of statuses.Finding
