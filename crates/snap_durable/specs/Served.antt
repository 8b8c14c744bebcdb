-- What was done with the bytes of an input.
use Rattle.std.specs.Prelude.{◌≡◌, ◌⊎◌, ℕ, ◌≤◌, Bool, true, List, [], ◌∷◌, ◌++◌, length, take, Option, None, Result, Ok, Err, if◌then◌else◌}
use Rattle.std.specs.Io.KnownBytes.{Appends}
use Rattle.snap_log.specs.Batches.{Batched, batched, emptied, is_nothing, none_yet}
use Rattle.sqlite_disk.specs.declared.Disk.{Ghosts}
use Rattle.snap_log.specs.declared.log.Log.{Log}
use Rattle.snap_log.specs.Log.{disk_of, text_in, IsHonest, Keeps}
use Rattle.snap_log.specs.Texts.{log_text}
use Rattle.snap_lines.specs.Effects.{Effects}
use Rattle.snap_lines.specs.Lines.{lines_of, is_open}
use Rattle.snap_lines.specs.Transcripts.{Stops}
use Rattle.snap_lines.specs.declared.stop.Stop.{Stop}
use Rattle.snap_durable.specs.declared.batch.Kept.{Kept}
use Rattle.snap_durable.specs.declared.ended.Ended.{Ended}
use Rattle.snap_durable.specs.Ended.{disk_ended}
use Rattle.snap_durable.specs.Parts.{Part, AreTold, kept_of, whole_in, whole_of}
use Rattle.snap_durable.specs.Serves.{Serves}

-- the line feed that the last line lacks, where one has begun
abbrev pub feed_behind : List ℕ → List ℕ
feed_behind held = if is_nothing held then [] else 10 ∷ []

-- no whole line is there, and the one that has begun lacks its line feed
pub record IsBegun (s : Batched) : Type 0 where
  pub none : s.whole ≡ []
  pub held : is_open s.held ≡ true

-- the lines of a part were answered, and lead from one value to the other
pub record AreAnswered {A : Type 0} (effect : Effects A) (v : A) (whole : List ℕ) (w : A) (before after : Option (List ℕ)) : Type 0 where
  pub text : List ℕ
  pub serves : Serves effect v (lines_of whole) text w
  pub written : Appends before after text

-- what a crash leaves of a part: all of its lines that change something are in the file or none; and some may have been answered, where they could be kept or were refused
pub record LeavesBatch {A : Type 0} (effect : Effects A) (changes : A → List ℕ → Bool) (mark : A → List ℕ → List ℕ) (keeping : Bool → A → A) (v : A) (first whole file : List ℕ) (before after : Option (List ℕ)) : Type 0 where
  pub is_kept : Bool
  pub stands : log_text file ≡ first ++ kept_of (changes v) (mark v) (record { whole = whole; is_kept = is_kept })
  pub answered : (after ≡ before) ⊎ ((left : Option (List ℕ)) × (stop : Stop) × Stops None effect (keeping is_kept v) whole left stop before after)

-- the disk where lines were kept, or not
abbrev pub disk_kept : {D : Type 0} {g : Ghosts D} → Result (Kept D g) (Ended D g) → D
disk_kept (Ok kept) = disk_of kept.log
disk_kept (Err ended) = disk_ended ended

module _ {A D : Type 0} {g : Ghosts D} (effect : Effects A) (changes : A → List ℕ → Bool) (mark : A → List ℕ → List ℕ) (keeping : Bool → A → A) (settled : A → Bool) where
  -- the lines in some bytes were answered in parts, and the log has those that were kept; the line that has begun is held back
  pub record Went (v : A) (s : Batched) (log : Log D g) (before : Option (List ℕ)) (bytes : List ℕ) (w : A) (t : Batched) (log_new : Log D g) (after : Option (List ℕ)) : Type 0 where
    pub parts : List Part
    pub text : List ℕ
    pub kept : List ℕ
    pub told : AreTold effect changes mark keeping settled v parts text kept w
    pub lines : (batched s bytes).whole ≡ whole_of parts
    pub held : t ≡ emptied (batched s bytes)
    pub written : Appends before after text
    pub clean : IsHonest log_new → IsHonest log
    pub keeps : IsHonest log_new → Keeps log_new (text_in log ++ kept)

  -- the line that had begun is answered, where there was one, and kept where it changes something
  pub record Ends (v : A) (s : Batched) (log : Log D g) (before : Option (List ℕ)) (w : A) (log_new : Log D g) (after : Option (List ℕ)) : Type 0 where
    pub last : List ℕ
    pub is : last ≡ feed_behind s.held
    pub end : Batched
    pub went : Went v s log before last w end log_new after

  -- all lines of an input were answered in parts, and the log has those that were kept behind its first text, and nothing else; the last line may have lacked its line feed
  pub record Done (limit : ℕ) (bytes : List ℕ) (v : A) (first : List ℕ) (before : Option (List ℕ)) (w : A) (log_new : Log D g) (after : Option (List ℕ)) : Type 0 where
    pub last : List ℕ
    pub is : last ≡ feed_behind (batched (none_yet limit) bytes).held
    pub parts : List Part
    pub text : List ℕ
    pub kept : List ℕ
    pub told : AreTold effect changes mark keeping settled v parts text kept w
    pub lines : whole_in limit (bytes ++ last) ≡ whole_of parts
    pub written : Appends before after text
    pub keeps : IsHonest log_new → Keeps log_new (first ++ kept)

-- no line of a log's text is cut
abbrev pub text_limit : ℕ
text_limit = 18446744073709551615

-- a text was carried out, and its answers dropped
pub record IsReplayed {A : Type 0} (effect : Effects A) (v : A) (text : List ℕ) (w : A) : Type 0 where
  pub answers : List ℕ
  pub serves : Serves effect v (lines_of (whole_in text_limit text)) answers w

-- the first `at` bytes of a log's text were carried out
pub record Carried {A D : Type 0} {g : Ghosts D} (effect : Effects A) (v : A) (w : A) (s : Batched) (at : ℕ) (log : Log D g) : Type 0 where
  pub read : List ℕ
  pub answers : List ℕ
  pub serves : Serves effect v (lines_of (whole_in text_limit read)) answers w
  pub held : s ≡ emptied (batched (none_yet text_limit) read)
  pub is : IsHonest log → (at ≤ length (text_in log)) × (read ≡ take at (text_in log))
