use Rattle.std.proofs.Common.{◌≡◌, ◌++◌, take}
use Rattle.snap_path.proofs.path.append_names.Given as goal

abbrev pub invariant-loop-name : goal.invariant-loop-name
invariant-loop-name l = l.all.items ≡ l.initial.all.items ++ take l.name-index l.names
