use Rattle.std.proofs.Common.{◌≡◌, take, filter_map}
use Rattle.snap_saved.specs.Walked.{whiteout_at}
use Rattle.snap_saved.proofs.saving.whiteouts_among.Given as goal

abbrev pub invariant-loop-path : goal.invariant-loop-path
invariant-loop-path l = l.whiteouts.items ≡ filter_map (whiteout_at l.layer) (take l.path-index l.paths)
