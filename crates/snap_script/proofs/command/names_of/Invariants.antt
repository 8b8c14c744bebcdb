use Rattle.std.proofs.Common.{◌≡◌, map, take}
use Rattle.snap_script.proofs.command.names_of.Given as goal

abbrev pub invariant-loop-namespace : goal.invariant-loop-namespace
invariant-loop-namespace l = l.names ≡ map (λ n. n.name) (take l.namespace-index l.namespaces)
