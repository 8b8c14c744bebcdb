use Rattle.std.proofs.Common.{◌≡◌, take, filter_map}
use Rattle.snap_saved.specs.Walked.{saved_dir_at}
use Rattle.snap_saved.proofs.saving.dirs_among.Given as goal

abbrev pub invariant-loop-path : goal.invariant-loop-path
invariant-loop-path l = l.dirs.items ≡ filter_map (saved_dir_at l.layer) (take l.path-index l.paths)
