-- What a namespace's charge is the sum of.
use Rattle.snap_usage.specs.declared.usage.Usage.{Usage}
use Rattle.snap_usage.specs.Counted.{count_of, no_usage}
use Rattle.snap_record.specs.declared.record.Content.{Content}
use Rattle.snap_record.specs.declared.record.Content.TheVariants.{Committed}
use Rattle.snap_record.specs.Records.{usage_of}

-- the blocks and inodes counted over the layer of a committed snapshot
abbrev pub counted_in : Content → Usage
counted_in (Committed layer usage) = count_of layer
counted_in content = no_usage

-- what a snapshot takes: what is counted over the layer of a committed one, and the share of an open one
abbrev pub usage_taken : Content → Usage
usage_taken (Committed layer usage) = count_of layer
usage_taken content = usage_of content
