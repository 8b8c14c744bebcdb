use Rattle.std.proofs.Common.{◌≡◌, map}
use Rattle.snap_path.proofs.path.Path.from_valid.Given as goal

abbrev pub invariant-loop-part : goal.invariant-loop-part
invariant-loop-part l = l.names.items ≡ map (λ x. x.now) l.yielded
