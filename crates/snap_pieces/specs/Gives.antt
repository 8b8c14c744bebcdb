-- What a call answers, beside what the definitions give.
use Rattle.std.specs.Prelude.{◌≡◌, ℕ, List, Result, Ok, Err}
use Rattle.snap_pieces.specs.declared.error.LineError.{LineError}
use Rattle.snap_pieces.specs.declared.error.LineError.TheVariants as errors
use Rattle.snap_pieces.specs.declared.field.LineField.{LineField}

-- an error is the field of the reading; nothing is said where memory was refused
abbrev pub IsFieldOf : {X : Type 0} → LineError → Result X LineField → Type 0
IsFieldOf (errors.BadField field) reading = reading ≡ Err field
IsFieldOf (errors.OutOfMemory no_memory) reading = Unit {0}

-- what was answered is the reading
abbrev pub GivesLine : {X : Type 0} → Result X LineError → Result X LineField → Type 0
GivesLine (Ok x) reading = reading ≡ Ok x
GivesLine (Err e) reading = IsFieldOf e reading

-- the same of a text that is lent, where no memory is taken
abbrev pub Lends : {X : Type 0} → (X → List ℕ) → Result X LineField → Result (List ℕ) LineField → Type 0
Lends view (Ok x) reading = reading ≡ Ok (view x)
Lends view (Err field) reading = reading ≡ Err field
