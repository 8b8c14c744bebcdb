use Rattle.std.proofs.Common.{◌≡◌, take}
use Rattle.std.specs.String.{string_bytes}
use Rattle.snap_path.specs.Text.{text_below}
use Rattle.snap_diff.proofs.text.PathText.of.Given as goal

abbrev pub invariant-loop-name : goal.invariant-loop-name
invariant-loop-name l = string_bytes l.text ≡ text_below (take l.name-index l.names)
