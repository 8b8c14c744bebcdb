use Rattle.std.proofs.Common.{◌≡◌, map, drop}
use Rattle.snap_json.specs.View.{view, members_with, members_view, members_of}
use Rattle.snap_json.proofs.value.by_name.Given as goal

abbrev pub invariant-loop-member : goal.invariant-loop-member
invariant-loop-member l = members_view l.members ≡ members_with (members_of l.map.entries) (map (λ m. (m.0, view m.1)) (drop l.member-index l.members))
