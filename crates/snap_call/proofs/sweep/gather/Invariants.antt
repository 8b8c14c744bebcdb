use Rattle.std.proofs.Common.{drop}
use Rattle.snap_call.specs.Marked.{marked}
use Rattle.snap_call.proofs.Gathered.{IsGathered}
use Rattle.snap_call.proofs.Referred.{all_now}
use Rattle.snap_call.proofs.sweep.gather.Given as goal

abbrev pub invariant-loop-at : goal.invariant-loop-at
invariant-loop-at l = IsGathered l.place (marked l.place (all_now l.records) l.marks) (marked l.place (drop l.at (all_now l.records)) (drop l.at l.marks)) l.sweep
