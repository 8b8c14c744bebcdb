-- How the files of a log stand while it is made short.
use Rattle.std.specs.Prelude.{◌≡◌, ℕ, ◌<◌, ◌≤◌, Bool, true, false, List, [], ◌∷◌, ◌++◌, length, Option, Some, None, IsTrue, ⊤, if◌then◌else◌}
use Rattle.std.specs.List.{AllByRecursion}
use Rattle.std.specs.Io.KnownBytes.{Appends}
use Rattle.sqlite_disk.specs.declared.Disk.{Ghosts}
use Rattle.snap_log.specs.Batches.{Batched, batched, emptied}
use Rattle.snap_log.specs.Log.{disk_of, text_in, IsHonest}
use Rattle.snap_log.specs.declared.log.appending.Appending.{Appending}
use Rattle.snap_log.specs.Texts.{AreLines}
use Rattle.snap_marks.specs.declared.sums.Sums.{Sums}
use Rattle.snap_log.specs.Staged.{IsHonestStage, disk_behind, lines_staged, text_before}
use Rattle.snap_lines.specs.Lines.{is_open}
use Rattle.snap_marks.specs.Marks.{chained, chained_lines, is_continued_line}
use Rattle.snap_marks.specs.Sums.{no_sum}
use Rattle.snap_pieces.specs.declared.line.Line.{Line}
use Rattle.snap_session.specs.Kept.{IsWholeRoll, KeptValue, has_store, kept_so, mark_of, served_kept, would_change}
use Rattle.snap_session.specs.Opened.{OpenedValue, only_store}
use Rattle.snap_session.specs.Saving.{MakesRolled, SavesRolled, saving_of}
use Rattle.snap_session.specs.declared.saving.Saving.TheVariants as savings
use Rattle.snap_durable.specs.Checkpoints.{IsTold, mark_text, rolled, saved_text}
use Rattle.snap_durable.specs.Parts.{AreTold, Part, line_limit}
use Rattle.snap_durable.specs.Served.{feed_behind}
use Rattle.snap_durable.specs.Turns.{AreTurned, GivesBack, IsRolled, IsStepped, Turn, whole_in_turns}
use Rattle.snap_durable.specs.declared.files.Beside.{Beside}
use Rattle.snap_durable.specs.declared.files.Beside.TheVariants as besides
use Rattle.snap_durable.specs.declared.files.Coming.{Coming}
use Rattle.snap_durable.specs.declared.files.EndedFiles.{EndedFiles}
use Rattle.snap_durable.specs.declared.files.EndedFiles.TheVariants.{Stopped, Unknown}
use Rattle.snap_durable.specs.declared.files.Files.{Files}

-- sums go on from this mark, which is a line of a log
pub record GoesOnFrom (v : KeptValue) (mark line : List ℕ) : Type 0 where
  pub is : is_continued_line mark ≡ true
  pub one : is_open mark ≡ true
  pub short : length mark ≤ line_limit
  pub fed : line ≡ mark ++ 10 ∷ []
  pub whole : AreLines line
  pub lines : v.sums.lines ≡ chained no_sum (mark ++ 10 ∷ [])
  pub answers : v.sums.answers ≡ no_sum

-- these lines are saved of a store that was then rolled, which stands; and sums go on from this mark
pub record CanCome (v : KeptValue) (saved : List Line) (line : List ℕ) : Type 0 where
  pub store : OpenedValue
  pub makes : MakesRolled store saved
  pub all : saving_of (Some store) ≡ savings.Lines saved
  pub stands : v.server.stepped.script ≡ only_store (rolled store)
  pub mark : List ℕ
  pub goes : GoesOnFrom v mark line

module _ {D : Type 0} {g : Ghosts D} where
  -- the file beside the log
  abbrev pub beside_disk : Beside D g → D
  beside_disk (besides.Idle log) = disk_of log
  beside_disk (besides.Coming coming) = disk_behind coming.stage

  -- the first file, and the second one
  abbrev pub first_file : Files D g → D
  first_file f = if f.is_second then beside_disk f.beside else disk_of f.counting

  abbrev pub second_file : Files D g → D
  second_file f = if f.is_second then disk_of f.counting else beside_disk f.beside

  -- no answer of them was a lie
  abbrev pub IsBesideHonest : Beside D g → Type 0
  IsBesideHonest beside = IsTrue (g.is_clean (beside_disk beside))

  abbrev pub AreFilesHonest : Files D g → Type 0
  AreFilesHonest f = IsHonest f.counting × IsBesideHonest f.beside

  -- the same where lines were not all answered
  abbrev pub first_end : EndedFiles D g → D
  first_end (Stopped files stop) = first_file files
  first_end (Unknown first second error) = first

  abbrev pub second_end : EndedFiles D g → D
  second_end (Stopped files stop) = second_file files
  second_end (Unknown first second error) = second

  abbrev pub AreEndsHonest : EndedFiles D g → Type 0
  AreEndsHonest ended = IsTrue (g.is_clean (first_end ended)) × IsTrue (g.is_clean (second_end ended))

  -- the file beside the log has no line that counts: where the log is the first one, and while one is written to take its place
  abbrev pub IsBlank : Bool → Beside D g → Type 0
  IsBlank second (besides.Idle log) = IsHonest log → second ≡ false → text_in log ≡ []
  IsBlank second (besides.Coming coming) = IsHonestStage coming.stage → text_before coming.stage ≡ []

  -- nothing is written into it
  abbrev pub IsIdle : Beside D g → Type 0
  IsIdle (besides.Idle log) = ⊤
  IsIdle (besides.Coming coming) = ⊥

  -- one of the two counts
  pub record AreApart (f : Files D g) : Type 0 where
    pub none : IsBlank f.is_second f.beside
    pub some : IsHonest f.counting → f.is_second ≡ true → 0 < length (text_in f.counting)

  -- of a saved store, that was rolled as it was saved, these lines are written, with a mark before them, and those are to come; with all, the mark and the lines behind it the file gives back what the server has
  pub record IsComingBy (v : KeptValue) (stage : Appending D g) (lines : List Line) (sums : Sums) (line behind : List ℕ) : Type 0 where
    pub store : OpenedValue
    pub saved : List Line
    pub makes : MakesRolled store saved
    pub all : saving_of (Some store) ≡ savings.Lines saved
    pub begun : KeptValue
    pub stands : begun.server.stepped.script ≡ only_store (rolled store)
    pub mark : List ℕ
    pub goes : GoesOnFrom begun mark line
    pub text : IsHonestStage stage → lines_staged stage ++ saved_text lines ≡ mark_text [] ++ saved_text saved
    pub sum : chained_lines sums.lines (saved_text lines) ≡ chained_lines no_sum (saved_text saved)
    pub told : AllByRecursion IsTold lines → AllByRecursion IsTold saved
    pub parts : List Part
    pub said : List ℕ
    pub added : AreTold served_kept would_change mark_of kept_so has_store begun parts said behind v

  abbrev pub IsComing : KeptValue → Coming D g → Type 0
  IsComing v c = IsComingBy v c.stage c.lines c.sums c.mark c.behind

  -- these lines were added to the log behind what is written, or that was given up
  abbrev pub IsNoted : Coming D g → List ℕ → Beside D g → Type 0
  IsNoted coming kept (besides.Idle log) = ⊤
  IsNoted coming kept (besides.Coming now) = (now.stage ≡ coming.stage) × (now.lines ≡ coming.lines) × (now.sums ≡ coming.sums) × (now.mark ≡ coming.mark) × (now.behind ≡ coming.behind ++ kept)

  -- what is written beside a log, if anything
  abbrev pub IsWritten : KeptValue → Beside D g → Type 0
  IsWritten v (besides.Idle log) = ⊤
  IsWritten v (besides.Coming coming) = IsComing v coming

  -- the log gives the server back, and so will what is written beside it
  pub record FilesStand (v : KeptValue) (f : Files D g) : Type 0 where
    pub back : GivesBack (text_in f.counting) v
    pub written : IsWritten v f.beside

-- the lines in some bytes were answered in turns; the line that has begun is held back
pub record WentOn (v : KeptValue) (s : Batched) (before : Option (List ℕ)) (bytes : List ℕ) (w : KeptValue) (t : Batched) (after : Option (List ℕ)) : Type 0 where
  pub turns : List Turn
  pub said : List ℕ
  pub turned : AreTurned v turns said w
  pub lines : (batched s bytes).whole ≡ whole_in_turns turns
  pub held : t ≡ emptied (batched s bytes)
  pub written : Appends before after said

-- the line that had begun was answered, where there was one
pub record WentLast (v : KeptValue) (s : Batched) (before : Option (List ℕ)) (w : KeptValue) (after : Option (List ℕ)) : Type 0 where
  pub last : List ℕ
  pub is : last ≡ feed_behind s.held
  pub end : Batched
  pub went : WentOn v s before last w end after

-- a mark that is added leaves a log that gives back what answers the same
abbrev pub LeavesSame : KeptValue → List ℕ → Type 0
LeavesSame v text = (w : KeptValue) × (w.server ≡ v.server) × GivesBack text w

-- a step leaves a log that gives back either
abbrev pub LeavesStep : KeptValue → List ℕ → Type 0
LeavesStep v text = (w : KeptValue) × IsStepped v w × GivesBack text w

-- this line of a log is a roll of the store that stands, to as many entries as its round may have, and these lines are saved of it
pub record CanRoll (v : KeptValue) (line : List ℕ) (saved : List Line) : Type 0 where
  pub text : List ℕ
  pub fed : line ≡ text ++ 10 ∷ []
  pub one : is_open text ≡ true
  pub short : length text ≤ line_limit
  pub rolls : IsWholeRoll v text
  pub all : saving_of v.server.stepped.script.store ≡ savings.Lines saved
  pub makes : SavesRolled v.server.stepped.script.store (savings.Lines saved)

-- a store stands, and it was rolled; a mark was added from which sums go on, if there is one
abbrev pub HasRolled : KeptValue → KeptValue → Option (List ℕ) → Type 0
HasRolled v w None = IsStepped v w
HasRolled v w (Some line) = IsRolled v w × ((mark : List ℕ) × GoesOnFrom w mark line)
