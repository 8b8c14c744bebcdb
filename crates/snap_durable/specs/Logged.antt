-- What a server over a log does.
use Rattle.std.specs.Prelude.{◌≡◌, ◌⊎◌, ⊤, ℕ, ◌≤◌, length, Bool, true, false, List, ◌∷◌, ◌++◌, [], Option, Result, Ok, Err}
use Rattle.sqlite_disk.specs.declared.Disk.{Ghosts}
use Rattle.snap_log.specs.declared.log.Log.{Log}
use Rattle.snap_log.specs.Batches.{none_yet}
use Rattle.snap_log.specs.Log.{disk_of, text_in, IsHonest, Keeps}
use Rattle.snap_log.specs.Texts.{log_text}
use Rattle.snap_marks.specs.declared.sums.Sums.{Sums}
use Rattle.snap_marks.specs.Sums.{marks_agree, rebased_mark}
use Rattle.snap_session.specs.Kept.{KeptValue, counted_anew, has_store, idle_kept, kept_so, mark_of, kept_part, served_kept, would_change}
use Rattle.snap_session.specs.Resumed.{resumed_kept}
use Rattle.snap_durable.specs.Ended.{disk_ended}
use Rattle.snap_durable.specs.Parts.{LeavesPart, line_limit}
use Rattle.snap_durable.specs.Served.{Done, IsReplayed, text_limit}
use Rattle.snap_durable.specs.declared.logged.Unserved.{Unserved}
use Rattle.snap_durable.specs.declared.logged.Unserved.TheVariants.{Replay, Differs, NotRebased, Ended}

-- The lines with which a log of these sums goes on: none, where its marks agree; else, where that is wanted, a mark from which on they are compared anew.
abbrev pub Starts : Bool → Sums → List ℕ → Type 0
Starts rebases s start = ((marks_agree s ≡ true) × (start ≡ [])) ⊎ ((marks_agree s ≡ false) × (rebases ≡ true) × (start ≡ rebased_mark s ++ 10 ∷ []))

module _ {D : Type 0} {g : Ghosts D} where
  -- the disk where no line or not all lines were answered
  abbrev pub disk_unserved : Unserved D g → D
  disk_unserved (Replay log error) = disk_of log
  disk_unserved (Differs log sums) = disk_of log
  disk_unserved (NotRebased log error) = disk_of log
  disk_unserved (Ended ended) = disk_ended ended

  -- the disk, however it ended
  abbrev pub disk_left : Result (Log D g) (Unserved D g) → D
  disk_left (Ok log) = disk_of log
  disk_left (Err why) = disk_unserved why

  -- a log goes on
  pub record HasStarted (rebases : Bool) (s : Sums) (log log_new : Log D g) : Type 0 where
    pub start : List ℕ
    pub starts : Starts rebases s start
    pub keeps : IsHonest log_new → Keeps log_new (text_in log ++ start)

  -- where marks of a log differ, this holds of the log and of what was found
  abbrev pub IfDiffers : Unserved D g → (Log D g → Sums → Type 0) → Type 0
  IfDiffers (Differs log sums) P = P log sums
  IfDiffers (Replay log error) P = ⊤
  IfDiffers (NotRebased log error) P = ⊤
  IfDiffers (Ended ended) P = ⊤

  -- a log whose lines were carried out has marks that don't agree, and is as it was
  pub record IsRefused (log log_new : Log D g) (s : Sums) : Type 0 where
    pub differs : marks_agree s ≡ false
    pub text : text_in log_new ≡ text_in log
    pub begun : KeptValue
    pub found : begun.sums ≡ s
    pub replayed : IsHonest log_new → IsReplayed resumed_kept idle_kept (text_in log) begun

  -- The log was carried out, its marks agreed or begin anew, and then all lines of the input were answered. What is then in the log, of less than 2^64 bytes as each file, gives the store back that they have made, and the sums; and its marks agree.
  pub record HasServedLog (rebases : Bool) (bytes : List ℕ) (log : Log D g) (before : Option (List ℕ)) (log_new : Log D g) (after : Option (List ℕ)) : Type 0 where
    pub begun : KeptValue
    pub ended : KeptValue
    pub replayed : IsHonest log_new → IsReplayed resumed_kept idle_kept (text_in log) begun
    pub start : List ℕ
    pub starts : Starts rebases begun.sums start
    pub done : Done served_kept would_change mark_of kept_so has_store line_limit bytes (counted_anew begun) (text_in log ++ start) before ended log_new after
    pub gives_back : IsHonest log_new → length (text_in log_new) ≤ text_limit → (again : KeptValue) → IsReplayed resumed_kept idle_kept (text_in log_new) again → kept_part ended ≡ kept_part again
    pub agrees : IsHonest log_new → length (text_in log_new) ≤ text_limit → (again : KeptValue) → IsReplayed resumed_kept idle_kept (text_in log_new) again → marks_agree again.sums ≡ true

-- what a crash leaves of that: the log's text, where no line was answered, or what was kept of a first part of the input behind it
pub record LeavesLog (rebases : Bool) (bytes text file : List ℕ) (before after : Option (List ℕ)) : Type 0 where
  pub is : ((log_text file ≡ text) × (after ≡ before))
      ⊎ ((begun : KeptValue) × (start : List ℕ) × IsReplayed resumed_kept idle_kept text begun × Starts rebases begun.sums start
      × LeavesPart served_kept would_change mark_of kept_so has_store (counted_anew begun) (none_yet line_limit) (text ++ start) (bytes ++ 10 ∷ []) file before after)
