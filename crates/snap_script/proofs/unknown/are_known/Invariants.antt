use Rattle.std.proofs.Common.{◌≡◌, drop}
use Rattle.std.specs.List.{list_all}
use Rattle.snap_script.specs.Known.{is_known}
use Rattle.snap_script.proofs.unknown.are_known.Given as goal

abbrev pub invariant-loop-member : goal.invariant-loop-member
invariant-loop-member l = list_all (λ m. is_known l.common l.own m.0.now) l.members ≡ list_all (λ m. is_known l.common l.own m.0.now) (drop l.member-index l.members)
