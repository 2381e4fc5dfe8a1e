-- Steps that may fail, and what a function gives of one.
use Rattle.std.specs.Prelude.{◌≡◌, Ok, Err, Option, Some, None}
use Rattle.std.specs.declared.result.Result.{Result}

infixl 10 ◌>>=◌
abbrev pub ◌>>=◌ : {A B E : Type 0} → Result A E → (A → Result B E) → Result B E
(Ok x) >>= f = f x
(Err e) >>= f = Err e

-- what a function returned, seen by view, is what reading gives
abbrev pub GivesBy : {X Y E : Type 0} → (X → Y) → Result X E → Result Y E → Type 0
GivesBy view (Ok x) read = read ≡ Ok (view x)
GivesBy view (Err e) read = read ≡ Err e

-- the value, or this fault where there is none
abbrev pub or_fault : {A E : Type 0} → E → Option A → Result A E
or_fault fault None = Err fault
or_fault fault (Some x) = Ok x
