-- What is read of several parameters in turn, of which the first fault is answered.
use Rattle.std.specs.Prelude.{◌≡◌, ◌≢◌, Option, Some, None, Result, Ok, Err}
use Rattle.sc_query.specs.declared.fault.QueryFault.{QueryFault}
use Rattle.sc_query.specs.declared.fault.QueryFault.TheVariants.{OutOfMemory}
use Rattle.sc_query.specs.Given.{Parameter}

-- the first is read, and then the rest by what it gave; a fault of the first is the fault of the whole
pub data Then {A B : Type 0} (First : Result A QueryFault → Type 0) (Rest : A → Result B QueryFault → Type 0) : Result B QueryFault → Type 0 where
  stops : (fault : QueryFault) → First (Err fault) → Then First Rest (Err fault)
  goes_on : (x : A) (result : Result B QueryFault) → First (Ok x) → Rest x result → Then First Rest result

-- this, whatever is given
abbrev pub Gives : {A : Type 0} → A → Result A QueryFault → Type 0
Gives x result = result ≡ Ok x

-- a parameter that need not be there: nothing where it isn't, else what is read of it
abbrev pub Optional : {A : Type 0} → (Parameter → Result A QueryFault → Type 0) → Option Parameter → Result (Option A) QueryFault → Type 0
Optional Reads None result = result ≡ Ok None
Optional Reads (Some given) (Ok None) = ⊥
Optional Reads (Some given) (Ok (Some x)) = Reads given (Ok x)
Optional Reads (Some given) (Err fault) = Reads given (Err fault)

-- what a function answers that reads this; want of memory may stand in the place of any answer, and is never what was read
abbrev pub Answers : {A : Type 0} → (Result A QueryFault → Type 0) → Result A QueryFault → Type 0
Answers Reads (Ok x) = Reads (Ok x)
Answers Reads (Err fault) = fault ≢ OutOfMemory → Reads (Err fault)
