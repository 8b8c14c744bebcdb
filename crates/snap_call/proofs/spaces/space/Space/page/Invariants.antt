use Rattle.std.proofs.Common.{◌≡◌, ◌-◌, ◌++◌, length, filter}
use Rattle.std.specs.Map.{values_of}
use Rattle.snap_call.specs.Spaces.{joined_records, is_key_after, infos_of}
use Rattle.snap_call.proofs.spaces.space.Space.page.Given as goal

abbrev pub invariant-loop-group : goal.invariant-loop-group
invariant-loop-group l =
    l.infos ++ infos_of (l.most - length l.infos) l.asked (filter (is_key_after l.after) (joined_records (values_of l.group-iterator))) ≡ infos_of l.most l.asked (filter (is_key_after l.after) l.self)
