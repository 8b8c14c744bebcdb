-- What a server over a log in two files does, and what it leaves; cited by the public clauses of `serve_and_shorten`.
use Rattle.std.specs.Prelude.{◌≡◌, ◌⊎◌, ℕ, Bool, false, List, [], ◌∷◌, ◌++◌, Option, Result, Ok, Err, IsTrue, ⊤}
use Rattle.std.specs.Io.KnownBytes.{Appends}
use Rattle.sqlite_disk.specs.declared.Disk.{Ghosts}
use Rattle.snap_log.specs.Batches.{batched, none_yet}
use Rattle.snap_marks.specs.declared.sums.Sums.{Sums}
use Rattle.snap_marks.specs.Sums.{marks_agree}
use Rattle.snap_log.specs.declared.log.Log.{Log}
use Rattle.snap_pair.specs.Pair.{ArePairHonest, PairKeeps, first_of, joined, lines_in, second_of}
use Rattle.snap_pair.specs.declared.pair.Pair.{Pair}
use Rattle.snap_session.specs.Kept.{KeptValue, counted_anew, idle_kept}
use Rattle.snap_session.specs.Resumed.{resumed_kept}
use Rattle.snap_durable.specs.Logged.{Starts}
use Rattle.snap_durable.specs.Parts.{line_limit, whole_in}
use Rattle.snap_durable.specs.Served.{IsReplayed, feed_behind}
use Rattle.snap_durable.specs.Turns.{AreTurned, GivesBack, LeavesTurns, Turn, whole_in_turns}
use Rattle.snap_durable.specs.declared.logged.Unserved.{Unserved}
use Rattle.snap_durable.specs.declared.logged.Unserved.TheVariants as unserveds
use Rattle.snap_durable.specs.declared.shortened.UnservedFiles.{UnservedFiles}
use Rattle.snap_durable.specs.declared.shortened.UnservedFiles.TheVariants.{Replay, Differs, NotRebased, Stopped, Unknown}

-- all lines of an input were answered in turns; the last line may have lacked its line feed
pub record DoneTurns (bytes : List ℕ) (v : KeptValue) (before : Option (List ℕ)) (w : KeptValue) (after : Option (List ℕ)) : Type 0 where
  pub last : List ℕ
  pub is : last ≡ feed_behind (batched (none_yet line_limit) bytes).held
  pub turns : List Turn
  pub said : List ℕ
  pub turned : AreTurned v turns said w
  pub lines : whole_in line_limit (bytes ++ last) ≡ whole_in_turns turns
  pub written : Appends before after said

-- What a crash leaves: the log's text, where no line was answered; or a log that gives back what was kept of a first part of the input.
pub record LeavesFiles (rebases : Bool) (bytes text left : List ℕ) (before after : Option (List ℕ)) : Type 0 where
  pub is : ((left ≡ text) × (after ≡ before))
      ⊎ ((begun : KeptValue) × (start : List ℕ) × IsReplayed resumed_kept idle_kept text begun × Starts rebases begun.sums start
      × LeavesTurns (counted_anew begun) (none_yet line_limit) (bytes ++ 10 ∷ []) left before after)

module _ {D : Type 0} {g : Ghosts D} where
  -- The log was carried out, its marks agreed or begin anew, and then all lines of the input were answered. What is then in the log gives back what they have made, also behind a crash.
  pub record HasServedFiles (rebases : Bool) (bytes : List ℕ) (pair : Pair D g) (before : Option (List ℕ)) (pair_new : Pair D g) (after : Option (List ℕ)) : Type 0 where
    pub begun : KeptValue
    pub ended : KeptValue
    pub replayed : ArePairHonest pair_new → IsReplayed resumed_kept idle_kept (lines_in pair) begun
    pub start : List ℕ
    pub starts : Starts rebases begun.sums start
    pub done : DoneTurns bytes (counted_anew begun) before ended after
    pub keeps : ArePairHonest pair_new → PairKeeps pair_new (lines_in pair_new)
    pub back : ArePairHonest pair_new → GivesBack (lines_in pair_new) ended

  -- the first file where lines were not all answered
  abbrev pub first_unserved : UnservedFiles D g → D
  first_unserved (Replay pair error) = first_of pair
  first_unserved (Differs pair sums) = first_of pair
  first_unserved (NotRebased pair error) = first_of pair
  first_unserved (Stopped pair stop) = first_of pair
  first_unserved (Unknown first second error) = first

  -- the second one
  abbrev pub second_unserved : UnservedFiles D g → D
  second_unserved (Replay pair error) = second_of pair
  second_unserved (Differs pair sums) = second_of pair
  second_unserved (NotRebased pair error) = second_of pair
  second_unserved (Stopped pair stop) = second_of pair
  second_unserved (Unknown first second error) = second

  -- the first file, however it ended
  abbrev pub first_behind : Result (Pair D g) (UnservedFiles D g) → D
  first_behind (Ok pair) = first_of pair
  first_behind (Err why) = first_unserved why

  -- the second one
  abbrev pub second_behind : Result (Pair D g) (UnservedFiles D g) → D
  second_behind (Ok pair) = second_of pair
  second_behind (Err why) = second_unserved why

  -- no answer of them was a lie
  abbrev pub AreHonestBehind : Result (Pair D g) (UnservedFiles D g) → Type 0
  AreHonestBehind result = IsTrue (g.is_clean (first_behind result)) × IsTrue (g.is_clean (second_behind result))

  -- where marks of a log differ, this holds of the log and of what was found
  abbrev pub IfFilesDiffer : UnservedFiles D g → (Pair D g → Sums → Type 0) → Type 0
  IfFilesDiffer (Differs pair sums) P = P pair sums
  IfFilesDiffer (Replay pair error) P = ⊤
  IfFilesDiffer (NotRebased pair error) P = ⊤
  IfFilesDiffer (Stopped pair stop) P = ⊤
  IfFilesDiffer (Unknown first second error) P = ⊤

  -- the marks differ of the log that is one of these two
  abbrev pub DiffersIn : Unserved D g → Log D g → Bool → Pair D g → Sums → Type 0
  DiffersIn why other second pair sums = (log : Log D g) × (why ≡ unserveds.Differs log sums) × (pair ≡ joined (record { counting = log; other = other; is_second = second }))

  -- a log whose lines were carried out has marks that don't agree, and is as it was
  pub record AreRefused (pair pair_new : Pair D g) (s : Sums) : Type 0 where
    pub differs : marks_agree s ≡ false
    pub lines : ArePairHonest pair_new → lines_in pair_new ≡ lines_in pair
    pub begun : KeptValue
    pub found : begun.sums ≡ s
    pub replayed : ArePairHonest pair_new → IsReplayed resumed_kept idle_kept (lines_in pair) begun
