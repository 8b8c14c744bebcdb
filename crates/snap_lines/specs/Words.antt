-- What an end is called, and the status of the program; cited by the public clauses of `Stop` and `LineFault`.
use Rattle.std.specs.Prelude.{ℕ, List, ◌++◌, codes, decimal}
use Rattle.snap_script.specs.Faults.{fault_words}
use Rattle.snap_script.specs.declared.fault.Fault.{Fault}
use Rattle.snap_script.specs.declared.fault.Fault.TheVariants.{Refused}
use Rattle.snap_lines.specs.declared.stop.LineFault.{LineFault}
use Rattle.snap_lines.specs.declared.stop.Stop.{Stop}
use Rattle.snap_lines.specs.declared.stop.Stop.TheVariants.{Line, InputFailed, OutputFailed, OutOfMemory}

-- the line and its fault
abbrev pub line_words : LineFault → List ℕ
line_words f = codes "line " ++ (decimal f.line ++ (codes ": " ++ fault_words f.cause))

abbrev pub stop_words : Stop → List ℕ
stop_words (Line f) = line_words f
stop_words InputFailed = codes "input failed"
stop_words OutputFailed = codes "output failed"
stop_words (OutOfMemory want) = codes "want of memory"

-- 2 where a line is no command, 5 where its command was refused
abbrev pub fault_status : Fault → ℕ
fault_status (Refused why) = 5
fault_status fault = 2

abbrev pub status_of : Stop → ℕ
status_of (Line f) = fault_status f.cause
status_of InputFailed = 3
status_of OutputFailed = 3
status_of (OutOfMemory want) = 4
