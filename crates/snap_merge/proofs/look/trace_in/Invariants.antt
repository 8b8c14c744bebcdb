use Rattle.std.proofs.Common.{◌≡◌, ℕ, ◌<◌, true, Some, take}
use Rattle.snap_layer.specs.Tree.{at, is_dir, hides, IsDirAt}
use Rattle.snap_merge.proofs.look.trace_in.Given as goal

-- this number of prefixes are directories, and the handle is that of the next one
abbrev pub invariant-loop-dirs : goal.invariant-loop-dirs
invariant-loop-dirs l = record {
  spot : l.dir ≡ record { layer = l.layer; path = take l.dirs l.names };
  node : at l.layer (take l.dirs l.names) ≡ Some l.node;
  kind : is_dir l.node ≡ true;
  hidden : l.hidden ≡ hides l.layer (take l.dirs l.names);
  above : (j : ℕ) → j < l.dirs → IsDirAt (at l.layer (take j l.names));
}
