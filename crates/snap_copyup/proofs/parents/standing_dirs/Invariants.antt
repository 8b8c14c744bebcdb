use Rattle.std.proofs.Common.{◌≡◌, ℕ, ◌+◌, ◌<◌, take}
use Rattle.snap_layer.specs.Tree.{at, IsDirAt}
use Rattle.snap_copyup.proofs.parents.standing_dirs.Given as goal

-- this number of names lead through directories, and the handle is that of the last one
abbrev pub invariant-loop-front : goal.invariant-loop-front
invariant-loop-front l = record {
  spot : l.dir ≡ record { layer = l.layer; path = take l.front l.names };
  dirs : (j : ℕ) → j < l.front + 1 → IsDirAt (at l.layer (take j l.names));
}
