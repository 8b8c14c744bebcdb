-- An operation on the layer of an open snapshot, which may fill its share and no more.
use Rattle.std.specs.Prelude.{List}
use Rattle.snap_layer.specs.Tree.{Tree}
use Rattle.snap_usage.specs.declared.usage.Usage.{Usage}
use Rattle.snap_upper.specs.declared.op.Op.{Op}
use Rattle.snap_upper.specs.After.{Outcome, after, within_share}

-- the outcome of an operation on the layer under the share: the operation's error, NeedsCharge, or the next layer
abbrev pub worked : Op → Usage → Tree → List Tree → Outcome
worked op share layer lowers = within_share share (after op layer lowers)
