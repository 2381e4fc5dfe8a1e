-- What reading a text answers.
use Rattle.std.specs.Prelude.{◌≡◌, Option, Some, None, Ok, Err}
use Rattle.std.specs.declared.result.Result.{Result}
use Rattle.hm_trace.specs.declared.fault.TraceFault.{TraceFault}
use Rattle.hm_trace.specs.declared.fault.ReadRefusal.{ReadRefusal}
use Rattle.hm_trace.specs.declared.fault.ReadRefusal.TheVariants.{Fault, NoMemory}

-- this was read, unless memory ran out
abbrev pub IsReadAs : {X : Type 0} → Result X ReadRefusal → X → Type 0
IsReadAs (Ok x) y = x ≡ y
IsReadAs (Err NoMemory) y = Unit {0}
IsReadAs (Err (Fault f)) y = ⊥

-- there is no fault where a text was read, and a fault that was answered is this one; want of memory says nothing
abbrev pub AnswersFault : {X : Type 0} → Result X ReadRefusal → Option TraceFault → Type 0
AnswersFault (Ok x) fault = fault ≡ None
AnswersFault (Err NoMemory) fault = Unit {0}
AnswersFault (Err (Fault f)) fault = fault ≡ Some f
