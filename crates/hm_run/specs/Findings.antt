-- Which findings are a step's own, and what a status says of findings.
use Rattle.std.specs.Prelude.{nat_lt, Bool, true, false, List, Option, Some, None}
use Rattle.std.specs.List.{list_any}
use Rattle.hm_model.specs.declared.answer.Answer.{Answer}
use Rattle.hm_model.specs.declared.answer.Answer.TheVariants.{Outside, HalfMoved}
use Rattle.hm_report.specs.declared.results.Results.{Results}
use Rattle.hm_report.specs.declared.results.StepResult.{StepResult}
use Rattle.hm_heap.specs.declared.close.History.{History}
use Rattle.hm_stats.specs.Tables.{table_of}

-- the address was in no region, or a block was moved by half: a step's answer, and no entry's reply
abbrev pub is_own_answer : Answer → Bool
is_own_answer Outside = true
is_own_answer (HalfMoved addr usable cause) = true
is_own_answer _ = false

abbrev pub is_own_answered : Option Answer → Bool
is_own_answered None = false
is_own_answered (Some answer) = is_own_answer answer

abbrev pub is_own : StepResult → Bool
is_own result = is_own_answered result.answer

-- some answer of a script is one
abbrev pub is_own_in : Results → Bool
is_own_in script = list_any is_own script.items

-- some answer is one
abbrev pub has_own_finding : List Results → Bool
has_own_finding scripts = list_any is_own_in scripts

-- statistics count a finding among the entries of the histories
abbrev pub counts_finding : List History → Bool
counts_finding histories = nat_lt 0 (table_of histories).all.findings
