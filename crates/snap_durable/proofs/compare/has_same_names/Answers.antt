use Rattle.std.proofs.Common.{bytes_eq, string_bytes}
use Rattle.std.specs.Cmp.Derive.Mapped.{pointwise-map}
use Rattle.snap_durable.proofs.compare.has_same_names.Goals as goal

pub returns : goal.returns
returns c = rw (pointwise-map string_bytes bytes_eq c.args.a.now c.args.b.now) c.eq.ensures
