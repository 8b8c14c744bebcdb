use Rattle.std.proofs.Common.{◌≡◌}
use Rattle.snap_merge.specs.Resolving.{following, way, resolution}
use Rattle.snap_merge.proofs.resolve.resolve.Given as goal

-- the way that is left, with this number of links, gives the answer of the whole
abbrev pub invariant-loop-words : goal.invariant-loop-words
invariant-loop-words l = way (following l.links l.stack) l.stack l.place l.words ≡ resolution l.stack l.path

abbrev pub decreases-loop-words : goal.decreases-loop-words
decreases-loop-words l = l.links
