-- What one line makes of a value; cited by the trait `TakeLine`.
use Rattle.std.specs.Prelude.{ℕ, List, [], Option, Some, None, Result, String, string_bytes}
use Rattle.std.specs.declared.alloc.Global.{Global}
use Rattle.snap_script.specs.declared.fault.Fault.{Fault}

-- the value after a line, and the text that is written for the line
pub record Effect (A : Type 0) : Type 0 where
  pub value : A
  pub text : List ℕ

-- what a line, without its line feed, makes of a value, or the line's fault
abbrev pub Effects : Type 0 → Type 0
Effects A = A → List ℕ → Result (Effect A) Fault

-- the bytes of a text that there may be
abbrev pub text_bytes : Option (String Global) → List ℕ
text_bytes None = []
text_bytes (Some text) = string_bytes text

-- the effect that leaves this value and this text
abbrev pub effect_with : {A : Type 0} → A → Option (String Global) → Effect A
effect_with value text = record { value = value; text = text_bytes text }
