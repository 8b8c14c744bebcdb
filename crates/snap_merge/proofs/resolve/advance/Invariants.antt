use Rattle.std.proofs.Common.{◌≡◌, length}
use Rattle.snap_path.specs.Text.{Names}
use Rattle.snap_merge.specs.Resolving.{Answer, way}
use Rattle.snap_merge.proofs.resolve.advance.Given as goal

-- the way that is left gives the answer of the whole
abbrev pub invariant-loop-word : goal.invariant-loop-word
invariant-loop-word l = (follow : Names → Names → Answer) → way follow l.stack l.place l.words ≡ way follow l.stack l.fn.place l.fn.words

abbrev pub decreases-loop-word : goal.decreases-loop-word
decreases-loop-word l = length l.words
