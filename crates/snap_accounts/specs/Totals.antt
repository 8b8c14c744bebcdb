-- The totals by place.
use Rattle.std.specs.Prelude.{ℕ, List, Option, None, Some, slice_index_or}
use Rattle.snap_usage.specs.declared.usage.Usage.{Usage}
use Rattle.snap_usage.specs.Counted.{no_usage}
use Rattle.snap_record.specs.declared.record.Record.{Record}

-- the total of the namespace at a place
abbrev pub total_at : ℕ → List Usage → Usage
total_at place us = slice_index_or us place no_usage

-- the place of the namespace of a record
abbrev pub place_if : Option Record → ℕ
place_if None = 0
place_if (Some r) = r.namespace
