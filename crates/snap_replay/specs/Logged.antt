-- What a server over a log does, and the statuses of it, of a check, of a checkpoint and of a comparison; cited by private clauses alone, since a program has no other.
use Rattle.std.specs.Prelude.{ℕ, Bool, true, false, List, Option, Result, Ok, Err}
use Rattle.sqlite_disk.specs.declared.Disk.{Ghosts}
use Rattle.snap_log.specs.declared.log.Log.{Log}
use Rattle.snap_durable.specs.Logged.{HasServedLog}
use Rattle.snap_durable.specs.Pairs.{HasServedPair}
use Rattle.snap_durable.specs.Shortened.{HasServedFiles}
use Rattle.snap_pair.specs.declared.pair.Pair.{Pair}
use Rattle.snap_lines.specs.Words.{status_of}
use Rattle.snap_replay.specs.declared.logged.LogStop.{LogStop}
use Rattle.snap_replay.specs.declared.logged.LogStop.TheVariants.{Lines, WantOfMemory, Busy, Io, Refused, Unknown, Differs, NoEnd, NoStore, NoRoll, TooLong, NoNamespace, BadRoot, Unfit, Changed}

-- the status of a server over a log, of a check, of a checkpoint or of a comparison, that ended so
abbrev pub log_status_of : LogStop → ℕ
log_status_of (Lines stop) = status_of stop
log_status_of WantOfMemory = 4
log_status_of BadRoot = 2
log_status_of NoEnd = 5
log_status_of NoStore = 5
log_status_of (NoRoll why) = 5
log_status_of TooLong = 5
log_status_of NoNamespace = 5
log_status_of (Unfit fault) = 5
log_status_of Changed = 5
log_status_of Busy = 6
log_status_of (Io error) = 7
log_status_of (Refused why) = 7
log_status_of (Unknown error) = 8
log_status_of (Differs sums) = 9

-- 0 where it ended well, else the status of its end
abbrev pub log_exit_of : Result (Unit {0}) LogStop → ℕ
log_exit_of (Ok done) = 0
log_exit_of (Err why) = log_status_of why

-- of a comparison 0 where two stores are the same, 1 where they differ, else the status of its end
abbrev pub diff_exit_of : Result Bool LogStop → ℕ
diff_exit_of (Ok true) = 1
diff_exit_of (Ok false) = 0
diff_exit_of (Err why) = log_status_of why

module _ {D : Type 0} {g : Ghosts D} where
  -- the lines of these bytes were served over the log, which was left as it then is
  abbrev pub HasServedOver : Bool → List ℕ → Log D g → Option (List ℕ) → Option (List ℕ) → Type 0
  HasServedOver rebases bytes log before after = (log_new : Log D g) × HasServedLog rebases bytes log before log_new after

  -- the same of two files, over the log that counts
  abbrev pub HasServedOverPair : Bool → List ℕ → Pair D g → Option (List ℕ) → Option (List ℕ) → Type 0
  HasServedOverPair rebases bytes pair before after = (log_new : Log D g) × HasServedPair rebases bytes pair before log_new after

  -- the same where the log was made short on the way
  abbrev pub HasServedShort : Bool → List ℕ → Pair D g → Option (List ℕ) → Option (List ℕ) → Type 0
  HasServedShort rebases bytes pair before after = (pair_new : Pair D g) × HasServedFiles rebases bytes pair before pair_new after
