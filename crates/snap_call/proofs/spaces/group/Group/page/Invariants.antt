use Rattle.std.proofs.Common.{◌≡◌, ◌-◌, ◌++◌, length}
use Rattle.std.specs.Map.{values_of}
use Rattle.snap_call.specs.Spaces.{infos_of, page_after}
use Rattle.snap_call.proofs.spaces.group.Group.page.Given as goal

abbrev pub invariant-loop-boxed : goal.invariant-loop-boxed
invariant-loop-boxed l =
    l.infos ++ infos_of (l.most - length l.infos) l.asked (values_of l.boxed-iterator) ≡ page_after l.fn.after l.most l.asked l.initial.infos l.self
