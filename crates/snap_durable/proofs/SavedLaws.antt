-- The text of a saved store is lines of a log, and a start reads each as the command that restores it.
use Rattle.std.proofs.Common.{◌≡◌, ℕ, List, [], ◌∷◌, ◌++◌, map, Bool, true, false, refl, sym, ap, ◌∙◌, append_assoc}
use Rattle.std.specs.Prelude.{◌&&◌, ◌||◌, not, ◌==◌, is_some}
use Rattle.std.specs.List.{list_all}
use Rattle.serde_json.specs.Data.{Data, null, boolean, number, string, array, object}
use Rattle.serde_json.specs.Find.{as_object}
use Rattle.serde_json.specs.Written.{compact_text}
use Rattle.snap_log.specs.Texts.{AreLines, has_feed, is_line}
use Rattle.snap_log.proofs.TextLaws.{joined, one_line}
use Rattle.snap_lines.specs.Lines.{is_open, lines_of}
use Rattle.snap_lines.proofs.LineLaws.{line_split}
use Rattle.snap_marks.specs.Marks.{chained, chained_lines, tail}
use Rattle.snap_marks.specs.declared.sums.Sums.{Sums}
use Rattle.snap_marks.specs.Sums.{mark_behind, no_sum, no_sums}
use Rattle.snap_marks.proofs.MarkLaws.{chained_more, open_mark}
use Rattle.snap_pieces.specs.Written.{line_data}
use Rattle.snap_pieces.specs.declared.line.Line.{Line}
use Rattle.snap_checkpoint.specs.Lines.{none_left}
use Rattle.snap_session.proofs.ToldLaws.{begins}
use Rattle.snap_durable.proofs.FeedLaws.{of_value}
use Rattle.snap_durable.proofs.SoundLaws.{no_feed}
use Rattle.snap_durable.specs.Checkpoints.{mark_text, saved_line, saved_text}

-- ---- a line

pub open_of : (bytes : List ℕ) → has_feed bytes ≡ false → is_open bytes ≡ true
open_of [] none = refl
open_of (b ∷ bytes) none = by (b == 10) (open_of bytes) none
  where
    by : (t : Bool) → (has_feed bytes ≡ false → is_open bytes ≡ true) → (t || has_feed bytes) ≡ false → (not t && list_all (λ b. not (b == 10)) bytes) ≡ true
    by true rest none = absurd (cc)
    by false rest none = rest none

-- it has no line feed
pub open_text : (line : Line) → is_open (compact_text (line_data line)) ≡ true
open_text line = open_of (compact_text (line_data line)) (of_value (line_data line))

object_line : (d : Data) → is_some (as_object d) ≡ true → is_line (compact_text d) ≡ true
object_line null is = absurd (cc)
object_line (boolean b) is = absurd (cc)
object_line (number n) is = absurd (cc)
object_line (string s) is = absurd (cc)
object_line (array ds) is = absurd (cc)
object_line (object ms) is = ap (λ (t : Bool). not t) (of_value (object ms))

-- it is a line of a log
pub is_saved : (line : Line) → is_line (compact_text (line_data line)) ≡ true
is_saved line = object_line (line_data line) (begins line).0

-- the sum goes on with it
pub summed_more : (sum : List ℕ) (line : Line) (more : List ℕ) → chained_lines (chained sum (saved_line line)) more ≡ chained_lines sum (saved_line line ++ more)
summed_more sum line more =
    let bytes : List ℕ = compact_text (line_data line) in
    sym (ap (chained_lines sum) (append_assoc bytes (10 ∷ []) more) ∙ chained_more sum [] bytes more (open_text line))

-- ---- the mark

pub mark_open : (text : List ℕ) → is_open (mark_behind no_sums text) ≡ true
mark_open text = open_mark (chained_lines no_sum text) no_sum tail refl

-- of any sums
pub mark_line : (s : Sums) (text : List ℕ) → is_line (mark_behind s text) ≡ true
mark_line s text = ap (λ (t : Bool). not t) (no_feed (mark_behind s text) (open_mark (chained_lines s.lines text) s.answers tail refl))

pub mark_is : (text : List ℕ) → is_line (mark_behind no_sums text) ≡ true
mark_is text = mark_line no_sums text

-- ---- all lines

pub are_saved : (lines : List Line) → AreLines (saved_text lines)
are_saved [] = record { whole = refl }
are_saved (line ∷ lines) = joined (saved_line line) (saved_text lines) (one_line (compact_text (line_data line)) (is_saved line)) (are_saved lines)

mark_lines : (text : List ℕ) → AreLines (mark_text text)
mark_lines text = one_line (mark_behind no_sums text) (mark_is text)

-- between two marks
pub are_between : (none : List ℕ) (lines : List Line) → AreLines (mark_text none ++ (saved_text lines ++ mark_text (saved_text lines)))
are_between none lines = joined (mark_text none) (saved_text lines ++ mark_text (saved_text lines)) (mark_lines none) (joined (saved_text lines) (mark_text (saved_text lines)) (are_saved lines) (mark_lines (saved_text lines)))

pub none_saved : (lines : List Line) → none_left lines ≡ true → lines ≡ []
none_saved [] none = refl
none_saved (line ∷ lines) none = absurd (cc)

pub lines_saved : (lines : List Line) (rest : List ℕ) → lines_of (saved_text lines ++ rest) ≡ map saved_line lines ++ lines_of rest
lines_saved [] rest = refl
lines_saved (line ∷ lines) rest =
    ap lines_of (append_assoc (saved_line line) (saved_text lines) rest ∙ append_assoc (compact_text (line_data line)) (10 ∷ []) (saved_text lines ++ rest))
    ∙ line_split (compact_text (line_data line)) (saved_text lines ++ rest) (open_text line)
    ∙ ap (λ (ls : List (List ℕ)). saved_line line ∷ ls) (lines_saved lines rest)
