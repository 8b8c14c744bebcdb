use Rattle.std.proofs.Common.{◌≡◌, ℕ, take, filter_map}
use Rattle.snap_saved.specs.Walked.{saved_name_at, listed_names}
use Rattle.snap_saved.proofs.names.names_by_number.Given as goal

abbrev pub invariant-loop-path : goal.invariant-loop-path
invariant-loop-path l = (k : ℕ) → listed_names l.names.entries k ≡ filter_map (saved_name_at l.layer k) (take l.path-index l.paths)
