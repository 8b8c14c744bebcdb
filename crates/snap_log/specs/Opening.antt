-- Why a file is not opened.
use Rattle.std.specs.Prelude.{◌≡◌, ◌≢◌, ℕ, List, length, ⊤}
use Rattle.snap_log.specs.declared.error.OpenError.{OpenError}
use Rattle.snap_log.specs.declared.error.OpenError.TheVariants.{Io, NotALog, Damaged}
use Rattle.snap_log.specs.Texts.{log_text, IsLog}

-- a file that is no log: it has no line, or the gate behind its lines, at this byte, is missing
abbrev pub RefusesFile : OpenError → List ℕ → Type 0
RefusesFile (Io error) file = ⊤
RefusesFile NotALog file = (IsLog file → ⊥) × (length (log_text file) ≡ 0)
RefusesFile (Damaged at) file = (IsLog file → ⊥) × (length (log_text file) ≡ at) × (at ≢ 0)

-- where a call of the disk failed, this holds
abbrev pub FailsFor : OpenError → Type 0 → Type 0
FailsFor (Io error) P = P
FailsFor NotALog P = ⊤
FailsFor (Damaged at) P = ⊤

-- the file was read and refused
abbrev pub IsRefusedFile : OpenError → Type 0
IsRefusedFile (Io error) = ⊥
IsRefusedFile NotALog = ⊤
IsRefusedFile (Damaged at) = ⊤
