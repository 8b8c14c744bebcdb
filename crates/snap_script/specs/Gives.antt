-- What a call answers, beside what the definitions give; cited by the public clause of `read_line`, and `GivesAll` by
-- private clauses alone.
use Rattle.std.specs.Prelude.{◌≡◌, Result, Ok, Err}
use Rattle.snap_script.specs.declared.fault.Fault.{Fault}
use Rattle.snap_script.specs.declared.fault.ReadError.{ReadError}
use Rattle.snap_script.specs.declared.fault.ReadError.TheVariants as errors

abbrev pub Fails : {B : Type 0} → ReadError → Result B Fault → Type 0
Fails (errors.Fault fault) reading = reading ≡ Err fault
Fails (errors.OutOfMemory want) reading = Unit {0}

-- what was answered, seen by view, is the reading; nothing is said where memory was refused
abbrev pub Gives : {A B : Type 0} → (A → B) → Result A ReadError → Result B Fault → Type 0
Gives view (Ok a) reading = reading ≡ Ok (view a)
Gives view (Err e) reading = Fails e reading

-- the same of a call that takes no memory
abbrev pub GivesAll : {A B : Type 0} → (A → B) → Result A Fault → Result B Fault → Type 0
GivesAll view (Ok a) reading = reading ≡ Ok (view a)
GivesAll view (Err fault) reading = reading ≡ Err fault
