-- What the seat of an opening state knows after a step.
use Rattle.std.specs.Prelude.{◌≡◌, ℕ}
use mathlib.Core.Option.{Option, some, none}
use Rattle.atomic_table.specs.Table.{Me, Step}
use Rattle.snap_call.specs.declared.state.State.{State}

-- the state that was handed in, or else the one before
abbrev pub said_or : Option State → State → State
said_or (some t) s = t
said_or none s = s

abbrev pub IsSaid : Step State → Me State State → ℕ → Me State State → Type 0
IsSaid s v n w = w ≡ (said_or s.said v.0, v.1)
