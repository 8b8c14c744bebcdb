use Rattle.std.proofs.Common.{◌≡◌, drop}
use Rattle.snap_call.specs.Records.{without_keys}
use Rattle.snap_call.proofs.records.Records.take_keys.Given as goal

abbrev pub invariant-loop-key : goal.invariant-loop-key
invariant-loop-key l = without_keys l.place (drop l.key-index l.keys) l.self ≡ without_keys l.place l.keys l.fn.self
