-- What is left of a log where lines were carried out.
use Rattle.std.specs.Prelude.{Result, Ok, Err}
use Rattle.sqlite_disk.specs.declared.Disk.{Ghosts}
use Rattle.snap_log.specs.declared.log.Log.{Log}
use Rattle.snap_log.specs.Log.{disk_of}
use Rattle.snap_durable.specs.declared.ended.Ended.{Ended}
use Rattle.snap_durable.specs.declared.ended.Ended.TheVariants.{Stopped, Unknown}

module _ {D : Type 0} {g : Ghosts D} where
  -- the disk where lines were not all answered
  abbrev pub disk_ended : Ended D g → D
  disk_ended (Stopped log stop) = disk_of log
  disk_ended (Unknown disk error) = disk

  -- the disk, however it ended
  abbrev pub disk_after : Result (Log D g) (Ended D g) → D
  disk_after (Ok log) = disk_of log
  disk_after (Err ended) = disk_ended ended
