use Rattle.std.proofs.Common.{◌++◌, take, flat_map, codes}
use Rattle.std.specs.Fmt.{HasWrittenStyled, IsFlush}
use Rattle.snap_mount.proofs.mount.write_further.Given as goal

abbrev pub invariant-loop-option : goal.invariant-loop-option
invariant-loop-option g l =
    IsFlush l.initial.f → HasWrittenStyled g.W.Write.write_str_gives l.initial.f (flat_map (λ option. codes "," ++ option) (take l.option-index l.options)) l.f
