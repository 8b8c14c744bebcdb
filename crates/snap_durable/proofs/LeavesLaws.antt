-- What turns and steps make of both files, and what a crash leaves of them.
use Rattle.std.proofs.Common.{◌≡◌, ◌<◌, ◌+◌, inl, inr, ℕ, List, [], ◌++◌, length, Bool, true, false, Option, refl, sym, ap, ◌∙◌, subst, arith, length-append, append-nil, drop}
use Rattle.std.specs.Prelude.{IsTrue, if◌then◌else◌}
use Rattle.sqlite_disk.specs.declared.Disk.{Ghosts}
use Rattle.snap_log.specs.Batches.{Batched}
use Rattle.snap_log.specs.Kept.{IsBeforeOrAfter}
use Rattle.snap_log.specs.Log.{IsHonest, text_in}
use Rattle.snap_log.specs.Texts.{AreLines, log_text}
use Rattle.snap_log.specs.declared.log.Log.{Log}
use Rattle.snap_log.proofs.TextLaws.{text_lines}
use Rattle.snap_pair.specs.Texts.{pair_text}
use Rattle.snap_session.specs.Kept.{KeptValue, has_store, kept_so, mark_of, served_kept, would_change}
use Rattle.snap_durable.specs.Files.{AreApart, AreFilesHonest, FilesStand, IsBesideHonest, LeavesStep, WentLast, WentOn, beside_disk}
use Rattle.snap_durable.specs.Parts.{AreTold, LeavesPart}
use Rattle.snap_durable.specs.Served.{Ends, Went}
use Rattle.snap_durable.specs.Turns.{GivesBack, LeavesTurns}
use Rattle.snap_durable.specs.declared.files.Beside.{Beside}
use Rattle.snap_durable.specs.declared.files.Files.{Files}
use Rattle.snap_durable.proofs.FileLaws.{back_more, behind_is, left_counts, lines_on}
use Rattle.snap_durable.proofs.TurnLaws.{leaves_of_part, turned_parts, turns_of, whole_of_turns}

pub longer_some : (first more : List ℕ) → 0 < length first → 0 < length (first ++ more)
longer_some first more some = let len : length (first ++ more) ≡ length first + length more = length-append first more in omega (arith, some, len)

-- what holds of both files, told apart
pub both_apart : {D : Type 0} (P : D → Type 0) (second : Bool) (disk other : D) → P (if second then other else disk) × P (if second then disk else other) → P disk × P other
both_apart P true disk other h = (h.1, h.0)
both_apart P false disk other h = h

module _ {D : Type 0} {g : Ghosts D} where
  -- ---- what came

  pub went_of : (v w : KeptValue) (s t : Batched) (log log_new : Log D g) (before after : Option (List ℕ)) (bytes : List ℕ) → Went served_kept would_change mark_of kept_so has_store v s log before bytes w t log_new after → WentOn v s before bytes w t after
  went_of v w s t log log_new before after bytes went = record {
    turns = turns_of went.parts;
    said = went.text;
    turned = turned_parts went.parts v w went.text went.kept went.told;
    lines = went.lines ∙ whole_of_turns went.parts;
    held = went.held;
    written = went.written;
  }

  pub ends_of : (v w : KeptValue) (s : Batched) (log log_new : Log D g) (before after : Option (List ℕ)) → Ends served_kept would_change mark_of kept_so has_store v s log before w log_new after → WentLast v s before w after
  ends_of v w s log log_new before after ends = record { last = ends.last; is = ends.is; end = ends.end; went = went_of v w s ends.end log log_new before after ends.last ends.went }

  module _ (v w : KeptValue) (s t : Batched) (log log_new : Log D g) (before after : Option (List ℕ)) (bytes : List ℕ) (went : Went served_kept would_change mark_of kept_so has_store v s log before bytes w t log_new after) where
    -- the log has its lines behind those before
    pub went_some : IsHonest log_new → 0 < length (text_in log) → 0 < length (text_in log_new)
    went_some honest some = subst (λ (l : List ℕ). 0 < length l) (sym (went.keeps honest).now) (longer_some (text_in log) went.kept some)

    pub went_back : IsHonest log_new → GivesBack (text_in log) v → GivesBack (text_in log_new) w
    went_back honest gives =
        let text : text_in log_new ≡ text_in log ++ went.kept = (went.keeps honest).now in
        subst (λ (l : List ℕ). GivesBack l w) (sym text)
        (back_more v v w (text_in log) went.kept went.text went.parts gives refl (lines_on log (went.clean honest)) went.told (subst AreLines text (lines_on log_new honest)))

    -- what is written beside it has them behind it
    pub went_told : IsHonest log_new → (from : ℕ) → from ≡ length (text_in log) → AreTold served_kept would_change mark_of kept_so has_store v went.parts went.text (drop from (text_in log_new)) w
    went_told honest from is =
        subst (λ (l : List ℕ). AreTold served_kept would_change mark_of kept_so has_store v went.parts went.text l w) (sym (ap (λ (l : List ℕ). drop from l) (went.keeps honest).now ∙ behind_is (text_in log) went.kept from is)) went.told

  -- ---- what a crash leaves

  module _ (f : Files D g) (apart : AreApart f) (disk one two : D) (one_is : one ≡ (if f.is_second then beside_disk f.beside else disk)) (two_is : two ≡ (if f.is_second then disk else beside_disk f.beside)) (clean : IsTrue (g.is_clean disk) → IsHonest f.counting) where
    honest_of : IsTrue (g.is_clean one) × IsTrue (g.is_clean two) → IsTrue (g.is_clean disk) × IsBesideHonest f.beside
    honest_of h = both_apart (λ (d : D). IsTrue (g.is_clean d)) f.is_second disk (beside_disk f.beside) (subst (λ (d : D). IsTrue (g.is_clean d)) one_is h.0, subst (λ (d : D). IsTrue (g.is_clean d)) two_is h.1)

    -- whatever holds of what a crash leaves of the log, which is longer, holds of both files
    leaves_so : (P : List ℕ → Type 0) → IsTrue (g.is_clean one) × IsTrue (g.is_clean two) → ((x : List ℕ) → g.may_leave disk x → ((more : List ℕ) × (log_text x ≡ text_in f.counting ++ more)) × P (log_text x))
        → (c d : List ℕ) → g.may_leave one c → g.may_leave two d → P (pair_text c d)
    leaves_so P h of c d left right =
        let honest = honest_of h in
        left_counts f.is_second disk f.beside P honest.1 apart.none
        (λ x may. let it = of x may in ((λ second. subst (λ (l : List ℕ). 0 < length l) (sym it.0.1) (longer_some (text_in f.counting) it.0.0 (apart.some (clean honest.0) second))), it.1))
        c d (subst (λ (e : D). g.may_leave e c) one_is left) (subst (λ (e : D). g.may_leave e d) two_is right)

    -- in a turn
    pub turn_leaves : (v : KeptValue) (s : Batched) (bytes : List ℕ) (before after : Option (List ℕ)) → (IsTrue (g.is_clean disk) → (x : List ℕ) → g.may_leave disk x → LeavesPart served_kept would_change mark_of kept_so has_store v s (text_in f.counting) bytes x before after)
        → IsTrue (g.is_clean one) × IsTrue (g.is_clean two) → AreFilesHonest f × (FilesStand v f → (c d : List ℕ) → g.may_leave one c → g.may_leave two d → LeavesTurns v s bytes (pair_text c d) before after)
    turn_leaves v s bytes before after leaves h =
        let honest = honest_of h in (
          (clean honest.0, honest.1),
          λ stand. leaves_so (λ (l : List ℕ). LeavesTurns v s bytes l before after) h (λ x may.
              let part = leaves honest.0 x may in
              ((_, part.stands), leaves_of_part v s (text_in f.counting) bytes x before after (lines_on f.counting (clean honest.0)) stand.back part (text_lines x))),
        )

    -- in a step
    pub step_leaves : (v : KeptValue) → (IsTrue (g.is_clean disk) → (x : List ℕ) → g.may_leave disk x → (more : List ℕ) × (log_text x ≡ text_in f.counting ++ more)) → (IsTrue (g.is_clean disk) → GivesBack (text_in f.counting) v → (x : List ℕ) → g.may_leave disk x → LeavesStep v (log_text x))
        → IsTrue (g.is_clean one) × IsTrue (g.is_clean two) → AreFilesHonest f × (FilesStand v f → (c d : List ℕ) → g.may_leave one c → g.may_leave two d → LeavesStep v (pair_text c d))
    step_leaves v longer leaves h =
        let honest = honest_of h in
        ((clean honest.0, honest.1), λ stand. leaves_so (LeavesStep v) h (λ x may. (longer honest.0 x may, leaves honest.0 stand.back x may)))

-- files of the same parts
pub same_files : {D : Type 0} {g : Ghosts D} (f now : Files D g) → now.counting ≡ f.counting → now.beside ≡ f.beside → now.is_second ≡ f.is_second → now ≡ f
same_files {D} {g} f now counting beside second =
    ap (λ (x : Log D g). let it : Files D g = record { counting = x; beside = now.beside; is_second = now.is_second } in it) counting
    ∙ ap (λ (x : Beside D g). let it : Files D g = record { counting = f.counting; beside = x; is_second = now.is_second } in it) beside
    ∙ ap (λ (x : Bool). let it : Files D g = record { counting = f.counting; beside = f.beside; is_second = x } in it) second

-- one of the files counts also where the log has grown
pub apart_on : {D : Type 0} {g : Ghosts D} (f : Files D g) (log : Log D g) → AreApart f → (IsHonest log → IsHonest f.counting) → (IsHonest log → (more : List ℕ) × (text_in log ≡ text_in f.counting ++ more)) → AreApart (record { counting = log; beside = f.beside; is_second = f.is_second })
apart_on f log apart clean longer = record {
  none = apart.none;
  some = λ honest second. let it = longer honest in subst (λ (l : List ℕ). 0 < length l) (sym it.1) (longer_some (text_in f.counting) it.0 (apart.some (clean honest) second));
}

-- what was added or not is longer
pub added_longer : (text more file : List ℕ) → IsBeforeOrAfter text more file → (behind : List ℕ) × (log_text file ≡ text ++ behind)
added_longer text more file (inl before) = ([], before ∙ sym (append-nil text))
added_longer text more file (inr after) = (more, after)
