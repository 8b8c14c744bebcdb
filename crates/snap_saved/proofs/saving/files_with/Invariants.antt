use Rattle.std.proofs.Common.{◌≡◌, ℕ, ◌<◌, length}
use Rattle.snap_layer.proofs.Above.{above}
use Rattle.snap_saved.specs.Saved.{file_names}
use Rattle.snap_saved.specs.Walked.{listed_names}
use Rattle.snap_saved.proofs.Walking.{AreFirst}
use Rattle.snap_saved.proofs.saving.files_with.Given as goal

-- the first files are there, and the names of the others are left
abbrev pub invariant-loop-number : goal.invariant-loop-number
invariant-loop-number l = record {
  first : AreFirst l.layer l.files.items l.after;
  left : (k : ℕ) → l.after < k → listed_names l.names.entries k ≡ file_names k l.layer.entries;
}

abbrev pub decreases-loop-number : goal.decreases-loop-number
decreases-loop-number l = length (above l.after l.layer.bodies)
