-- What an operation needs of a charge, and what is wanted beyond it.
use Rattle.std.specs.Prelude.{ℕ, ◌+◌, min, Option, Some, None}
use Rattle.snap_usage.specs.declared.usage.Usage.{Usage}
use Rattle.snap_merge.specs.declared.error.FsError.{FsError}
use Rattle.snap_merge.specs.declared.error.FsError.TheVariants.{NeedsCharge}

-- the charge that an error asks for
abbrev pub needed_by : FsError → Option Usage
needed_by (NeedsCharge need) = Some need
needed_by e = None

-- the need, and what is wanted beyond it: at most 2^40 of each quantity; numbers end at 2^64 - 1
abbrev pub more : ℕ → ℕ → ℕ
more need extra = min (need + min extra 1099511627776) 18446744073709551615

-- more of both quantities
abbrev pub wanted_charge : Usage → Usage → Usage
wanted_charge need extra = record { blocks = more need.blocks extra.blocks; inodes = more need.inodes extra.inodes }
