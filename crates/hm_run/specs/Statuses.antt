-- The numbers of the statuses, and what two of them say.
use Rattle.std.specs.Prelude.{◌≡◌, ◌↔◌, ℕ, Bool, true, false}
use Rattle.hm_run.specs.declared.status.Status.{Status}
use Rattle.hm_run.specs.declared.status.Status.TheVariants.{Clean, Finding, Usage, NoTrace, ReadFault, WriteFault, NoMemory, TooLong, NoWords}

abbrev pub code_of : Status → ℕ
code_of Clean = 0
code_of Finding = 1
code_of Usage = 2
code_of NoTrace = 3
code_of ReadFault = 4
code_of WriteFault = 5
code_of NoMemory = 6
code_of TooLong = 7
code_of NoWords = 9

-- the status is 1 exactly where it is so, and 0 exactly where it is not
pub record Says (status : ℕ) (found : Bool) : Type 0 where
  pub finding : (status ≡ code_of Finding) ↔ (found ≡ true)
  pub clean : (status ≡ code_of Clean) ↔ (found ≡ false)
