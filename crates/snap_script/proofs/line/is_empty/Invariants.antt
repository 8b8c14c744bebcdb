use Rattle.std.proofs.Common.{◌≡◌, drop}
use Rattle.snap_script.specs.Lines.{is_empty}
use Rattle.snap_script.proofs.line.is_empty.Given as goal

abbrev pub invariant-loop-byte : goal.invariant-loop-byte
invariant-loop-byte l = is_empty l.bytes ≡ is_empty (drop l.byte-index l.bytes)
