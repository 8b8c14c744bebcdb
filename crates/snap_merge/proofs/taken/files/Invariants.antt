use Rattle.std.proofs.Common.{◌≡◌, [], drop}
use Rattle.snap_merge.specs.Taken.{files}
use Rattle.snap_merge.proofs.taken.files.Given as goal

-- the parts that are left give what all give
abbrev pub invariant-loop-part : goal.invariant-loop-part
invariant-loop-part l = files (drop l.part-index l.parts) l.found.keys ≡ files l.parts []
