-- The files of a log while it is made short.
use Rattle.std.proofs.Common.{◌≡◌, ◌⊎◌, inl, inr, ℕ, ◌+◌, ◌<◌, List, [], ◌∷◌, ◌++◌, length, take, drop, slice_index, Bool, true, false, Some, Result, Ok, Err, IfOk, IfErr, OnOk, is_err, refl, sym, ap, ◌∙◌, subst, arith, append_assoc, append-nil}
use Rattle.std.specs.Prelude.{if◌then◌else◌}
use Rattle.std.specs.List.{AllByRecursion}
use Rattle.std.proofs.lemmas.Bool.{eqb-true}
use Rattle.std.proofs.lemmas.List.{drop-drop, drop_more, take-append-drop}
use Rattle.memchr.specs.Find.{IsFirstByte, is_byte}
use Rattle.sqlite_disk.specs.declared.Disk.{Ghosts}
use Rattle.snap_log.specs.Log.{IsHonest, disk_of, text_in}
use Rattle.snap_log.specs.Staged.{IsHonestStage, lines_staged}
use Rattle.snap_log.specs.Texts.{AreLines, log_text}
use Rattle.snap_log.specs.declared.log.Log.{Log}
use Rattle.snap_log.specs.declared.log.appending.Appending.{Appending}
use Rattle.snap_log.proofs.LogLaws.{log_keeps, stage_leaves}
use Rattle.snap_log.proofs.TextLaws.{joined, text_lines}
use Rattle.snap_pair.specs.Texts.{counting, pair_text}
use Rattle.snap_pair.proofs.PairLaws.{first_of, second_of}
use Rattle.snap_checkpoint.specs.Lines.{none_left}
use Rattle.snap_marks.specs.Marks.{chained_lines}
use Rattle.snap_marks.specs.Sums.{no_sum, no_sums}
use Rattle.snap_marks.specs.declared.sums.Sums.{Sums}
use Rattle.snap_pieces.specs.declared.line.Line.{Line}
use Rattle.snap_session.specs.Kept.{KeptValue, has_store, kept_part, kept_so, mark_of, served_kept, would_change}
use Rattle.snap_session.proofs.Keeping.{script_of}
use Rattle.snap_durable.specs.Checkpoints.{IsTold, checkpoint_text, mark_text, saved_text}
use Rattle.snap_durable.specs.Files.{AreApart, AreEndsHonest, AreFilesHonest, CanCome, FilesStand, IsBesideHonest, IsBlank, IsComing, IsComingBy, IsIdle, IsNoted, IsWritten, beside_disk, first_end, first_file, second_end, second_file}
use Rattle.snap_durable.specs.Parts.{AreTold, Part}
use Rattle.snap_durable.specs.Turns.{GivesBack}
use Rattle.snap_durable.specs.declared.files.Beside.{Beside}
use Rattle.snap_durable.specs.declared.files.Beside.TheVariants as besides
use Rattle.snap_durable.specs.declared.files.Coming.{Coming}
use Rattle.snap_durable.specs.declared.files.EndedFiles.{EndedFiles}
use Rattle.snap_durable.specs.declared.files.Files.{Files}
use Rattle.snap_durable.proofs.BackLaws.{Gives, IsAgain, IsMade, back_of, gives_of, gives_on, gives_told}
use Rattle.snap_durable.proofs.CheckpointLaws.{gives_checkpoint}
use Rattle.snap_durable.proofs.PartLaws.{told_more}
use Rattle.snap_durable.proofs.SavedLaws.{none_saved}

-- what holds of what wasn't refused
pub on_ok : {A E P : Type 0} (r : Result A E) → is_err r ≡ false → OnOk r P → P
on_ok (Ok a) fine holds = holds
on_ok (Err e) fine holds = absurd (cc)

-- ---- lines that were added

-- bytes from a place up to a line feed, and those behind it
pub line_at : (text : List ℕ) (from n : ℕ) → IsFirstByte (is_byte 10) (drop from text) (Some n) → drop from text ≡ take n (drop from text) ++ 10 ∷ drop (from + n + 1) text
line_at text from n h =
    let rest : List ℕ = drop from text in
    let at : from + (n + 1) ≡ from + n + 1 = omega arith in
    sym (take-append-drop n rest) ∙ ap (λ l. take n rest ++ l) (drop_more rest n 0 h.0.high) ∙ ap (λ b. take n rest ++ b ∷ drop (n + 1) rest) (eqb-true (slice_index rest n) 10 h.1)
    ∙ ap (λ l. take n rest ++ 10 ∷ l) (drop-drop (n + 1) from text ∙ ap (λ k. drop k text) at)

pub behind_is : (text kept : List ℕ) (from : ℕ) → from ≡ length text → drop from (text ++ kept) ≡ kept
behind_is text kept from is = ap (λ (n : ℕ). drop n (text ++ kept)) is ∙ dropped text kept
  where
    dropped : (text kept : List ℕ) → drop (length text) (text ++ kept) ≡ kept
    dropped [] kept = refl
    dropped (b ∷ text) kept = dropped text kept

-- the log gives the server back with them
pub back_more : (v u w : KeptValue) (text kept said : List ℕ) (parts : List Part) → GivesBack text v → v ≡ u → AreLines text → AreTold served_kept would_change mark_of kept_so has_store u parts said kept w → AreLines (text ++ kept) → GivesBack (text ++ kept) w
back_more v u w text kept said parts gives same lines told all =
    back_of (text ++ kept) w (gives_told text kept said parts v u w (gives_of text v lines gives) (ap (λ (x : KeptValue). kept_part x) (sym same)) told all)

-- whichever of two texts counts gives the server back
back_either : (here text written : List ℕ) (v : KeptValue) → (here ≡ text) ⊎ (here ≡ written) → GivesBack text v → (AreLines written → GivesBack written v) → AreLines here → GivesBack here v
back_either here text written v (inl same) back gives lines = subst (λ (t : List ℕ). GivesBack t v) (sym same) back
back_either here text written v (inr same) back gives lines = subst (λ (t : List ℕ). GivesBack t v) (sym same) (gives (subst AreLines same lines))

counting_lines : (first second : List ℕ) → AreLines first → AreLines second → AreLines (counting first second)
counting_lines first [] one two = one
counting_lines first (b ∷ second) one two = two

module _ {D : Type 0} {g : Ghosts D} where
  -- ---- which file counts

  -- the file beside the log, where it has no line
  beside_left : (beside : Beside D g) → IsBesideHonest beside → IsBlank false beside → (y : List ℕ) → g.may_leave (beside_disk beside) y → log_text y ≡ []
  beside_left (besides.Idle log) honest blank y left = (log_keeps log honest).crash y left ∙ blank honest refl
  beside_left (besides.Coming coming) honest blank y left = stage_leaves coming.stage honest y left ∙ blank honest

  -- whatever holds of the text of what a crash leaves of the log holds of that of both files
  pub left_counts : (second : Bool) (disk : D) (beside : Beside D g) (P : List ℕ → Type 0) → IsBesideHonest beside → IsBlank second beside → ((x : List ℕ) → g.may_leave disk x → (second ≡ true → 0 < length (log_text x)) × P (log_text x))
      → (c d : List ℕ) → g.may_leave (if second then beside_disk beside else disk) c → g.may_leave (if second then disk else beside_disk beside) d → P (pair_text c d)
  left_counts true disk beside P honest blank of c d left right =
      let it = of d right in
      subst P (sym (second_of c d (log_text d) (it.0 refl) refl)) it.1
  left_counts false disk beside P honest blank of c d left right =
      let it = of c left in
      subst P (sym (first_of c d [] refl (beside_left beside honest blank d right))) it.1

  -- between two calls
  pub files_leave : (f : Files D g) → AreFilesHonest f → AreApart f → (c d : List ℕ) → g.may_leave (first_file f) c → g.may_leave (second_file f) d → pair_text c d ≡ text_in f.counting
  files_leave f honest apart =
      left_counts f.is_second (disk_of f.counting) f.beside (λ t. t ≡ text_in f.counting) honest.1 apart.none (λ x left.
      let text : log_text x ≡ text_in f.counting = (log_keeps f.counting honest.0).crash x left in
      ((λ is. subst (λ (t : List ℕ). 0 < length t) (sym text) (apart.some honest.0 is)), text))

  -- ---- lines that were added to a log

  pub lines_on : (log : Log D g) → IsHonest log → AreLines (text_in log)
  lines_on log honest = (log.kept honest).lines

  -- and so will what is written beside it
  pub coming_more : (u w : KeptValue) (stage : Appending D g) (lines : List Line) (sums : Sums) (line behind kept said : List ℕ) (parts : List Part) → IsComingBy u stage lines sums line behind
      → AreTold served_kept would_change mark_of kept_so has_store u parts said kept w → IsComingBy w stage lines sums line (behind ++ kept)
  coming_more u w stage lines sums line behind kept said parts is told = record {
    store = is.store;
    saved = is.saved;
    makes = is.makes;
    all = is.all;
    begun = is.begun;
    stands = is.stands;
    mark = is.mark;
    goes = is.goes;
    text = is.text;
    sum = is.sum;
    told = is.told;
    parts = is.parts ++ parts;
    said = is.said ++ said;
    added = told_more served_kept would_change mark_of kept_so has_store is.begun u w is.parts parts is.said said behind kept is.added told;
  }

  pub noted_written : (u w : KeptValue) (coming : Coming D g) (kept said : List ℕ) (parts : List Part) (beside : Beside D g) → IsNoted coming kept beside → IsComing u coming → AreTold served_kept would_change mark_of kept_so has_store u parts said kept w → IsWritten w beside
  noted_written u w coming kept said parts (besides.Idle log) noted is told = tt
  noted_written u w coming kept said parts (besides.Coming now) (stage, lines, sums, mark, behind) is told =
      subst (λ (x : Appending D g). IsComingBy w x now.lines now.sums now.mark now.behind) (sym stage)
      (subst (λ (x : List Line). IsComingBy w coming.stage x now.sums now.mark now.behind) (sym lines)
      (subst (λ (x : Sums). IsComingBy w coming.stage coming.lines x now.mark now.behind) (sym sums)
      (subst (λ (x : List ℕ). IsComingBy w coming.stage coming.lines coming.sums x now.behind) (sym mark)
      (subst (λ (x : List ℕ). IsComingBy w coming.stage coming.lines coming.sums coming.mark x) (sym behind)
      (coming_more u w coming.stage coming.lines coming.sums coming.mark coming.behind kept said parts is told)))))

  -- ---- the lines of a saved store

  -- before the first of them
  pub coming_first : (v : KeptValue) (saved : List Line) (line : List ℕ) (stage : Appending D g) → CanCome v saved line → (IsHonestStage stage → lines_staged stage ≡ mark_text []) → IsComingBy v stage saved no_sums line []
  coming_first v saved line stage can text = record {
    store = can.store;
    saved = saved;
    makes = can.makes;
    all = can.all;
    begun = v;
    stands = can.stands;
    mark = can.mark;
    goes = can.goes;
    text = λ honest. ap (λ (t : List ℕ). t ++ saved_text saved) (text honest);
    sum = refl;
    told = λ told. told;
    parts = [];
    said = [];
    added = (refl, refl, refl);
  }

  -- a part of them
  pub coming_part : (v : KeptValue) (stage stage_new : Appending D g) (lines lines_new : List Line) (sums sums_new : Sums) (line behind text : List ℕ) → IsComingBy v stage lines sums line behind
      → (IsHonestStage stage_new → IsHonestStage stage) → (IsHonestStage stage_new → lines_staged stage_new ≡ lines_staged stage ++ text) → text ++ saved_text lines_new ≡ saved_text lines
      → chained_lines sums_new.lines (saved_text lines_new) ≡ chained_lines sums.lines (saved_text lines) → (AllByRecursion IsTold lines_new → AllByRecursion IsTold lines) → IsComingBy v stage_new lines_new sums_new line behind
  coming_part v stage stage_new lines lines_new sums sums_new line behind text is clean staged part sum told = record {
    store = is.store;
    saved = is.saved;
    makes = is.makes;
    all = is.all;
    begun = is.begun;
    stands = is.stands;
    mark = is.mark;
    goes = is.goes;
    text = λ honest. ap (λ (t : List ℕ). t ++ saved_text lines_new) (staged honest) ∙ append_assoc (lines_staged stage) text (saved_text lines_new) ∙ ap (λ (t : List ℕ). lines_staged stage ++ t) part ∙ is.text (clean honest);
    sum = sum ∙ is.sum;
    told = λ all. is.told (told all);
    parts = is.parts;
    said = is.said;
    added = is.added;
  }

  -- all of them, with what comes behind
  pub coming_all : (v : KeptValue) (stage : Appending D g) (lines : List Line) (sums : Sums) (line behind : List ℕ) → IsComingBy v stage lines sums line behind → IsHonestStage stage → none_left lines ≡ true
      → (saved : List ℕ) × (sums.lines ≡ chained_lines no_sum saved) × ((text : List ℕ) → text ≡ lines_staged stage ++ (mark_text saved ++ (line ++ behind)) → AreLines text → GivesBack text v)
  coming_all v stage lines sums line behind is honest none =
      let no_line : lines ≡ [] = none_saved lines none in
      let saved : List ℕ = saved_text is.saved in
      let sum : sums.lines ≡ chained_lines no_sum saved = ap (λ (l : List Line). chained_lines sums.lines (saved_text l)) (sym no_line) ∙ is.sum in
      let staged : lines_staged stage ≡ mark_text [] ++ saved = sym (append-nil (lines_staged stage)) ∙ ap (λ (l : List Line). lines_staged stage ++ saved_text l) (sym no_line) ∙ is.text honest in
      let told : AllByRecursion IsTold is.saved = is.told (subst (AllByRecursion IsTold) (sym no_line) tt) in
      let first : List ℕ = checkpoint_text is.saved in
      let made : Gives first (IsMade (script_of is.begun)) = subst (λ s. Gives first (IsMade s)) (sym is.stands) (gives_checkpoint is.store is.saved is.makes is.all told) in
      let goes : Gives (first ++ line) (IsAgain is.begun) = gives_on first is.begun is.mark line made is.goes (joined first line made.lines is.goes.whole) in (
        saved,
        sum,
        λ text text_is all.
            let here : text ≡ (first ++ line) ++ behind =
            text_is ∙ ap (λ (t : List ℕ). t ++ (mark_text saved ++ (line ++ behind))) staged ∙ append_assoc (mark_text []) saved (mark_text saved ++ (line ++ behind))
            ∙ ap (λ (t : List ℕ). mark_text [] ++ t) (sym (append_assoc saved (mark_text saved) (line ++ behind))) ∙ sym (append_assoc (mark_text []) (saved ++ mark_text saved) (line ++ behind))
            ∙ sym (append_assoc first line behind) in
            subst (λ (t : List ℕ). GivesBack t v) (sym here) (back_of ((first ++ line) ++ behind) v (gives_told (first ++ line) behind is.said is.parts is.begun is.begun v goes refl is.added (subst AreLines here all))),
      )

  -- ---- the end

  pub idle_written : (v : KeptValue) (beside : Beside D g) → IsIdle beside → IsWritten v beside
  idle_written v (besides.Idle log) idle = tt
  idle_written v (besides.Coming coming) idle = absurd idle

  module _ (text written : List ℕ) (A B now : Type 0) (Q : KeptValue → Type 0) (was : now → B) (gives : now → (v : KeptValue) → Q v → AreLines written → GivesBack written v) where
    pub end_stands : (r : Result (Files D g) (EndedFiles D g)) → IfOk r (λ files. AreFilesHonest files → (text_in files.counting ≡ text) ⊎ (text_in files.counting ≡ written)) → IfOk r (λ files. IsIdle files.beside)
        → IfOk r (λ files. AreFilesHonest files → A × now) → IfOk r (λ files. AreFilesHonest files → A × B × ((v : KeptValue) → GivesBack text v → Q v → FilesStand v files))
    end_stands (Ok files) counts idle clean = λ honest.
        let parts = clean honest in (
          parts.0,
          was parts.1,
          λ v back is. record {
            back = back_either (text_in files.counting) text written v (counts honest) back (gives parts.1 v is) (lines_on files.counting honest.0);
            written = idle_written v files.beside idle;
          },
        )
    end_stands (Err ended) counts idle clean = tt

    pub end_leaves : (r : Result (Files D g) (EndedFiles D g))
        → IfErr r (λ ended. AreEndsHonest ended → (A × now) × ((c d : List ℕ) → g.may_leave (first_end ended) c → g.may_leave (second_end ended) d → (pair_text c d ≡ text) ⊎ (pair_text c d ≡ written)))
        → IfErr r (λ ended. AreEndsHonest ended → A × B × ((v : KeptValue) → GivesBack text v → Q v → (c d : List ℕ) → g.may_leave (first_end ended) c → g.may_leave (second_end ended) d → GivesBack (pair_text c d) v))
    end_leaves (Ok files) leaves = tt
    end_leaves (Err ended) leaves = λ honest.
        let (parts, left) = leaves honest in (
          parts.0,
          was parts.1,
          λ v back is c d one two.
              back_either (pair_text c d) text written v (left c d one two) back (gives parts.1 v is) (counting_lines (log_text c) (log_text d) (text_lines c) (text_lines d)),
        )
