-- What moves of a saved store is whole, and its lines make the store that it was compared with.
use Rattle.std.proofs.Common.{◌≡◌, ℕ, List, [], ◌∷◌, Bool, true, false, Option, None, Some, Result, Ok, Err, refl, sym, ap, ◌∙◌, subst}
use Rattle.std.specs.Prelude.{OnOk, IfErr, IfSome, cond, filter}
use Rattle.std.specs.Io.KnownBytes.{Appends}
use Rattle.std.specs.List.{AllByRecursion}
use Rattle.snap_call.specs.Results.{◌>>=◌}
use Rattle.snap_checkpoint.specs.Lines.{lines_put, store_lines}
use Rattle.snap_lines.specs.Runs.{Breaks}
use Rattle.snap_lines.specs.Transcripts.{Tells}
use Rattle.snap_lines.specs.declared.stop.Stop.{Stop}
use Rattle.snap_lines.specs.declared.stop.Stop.TheVariants.{InputFailed, Line as AtLine, OutOfMemory, OutputFailed}
use Rattle.snap_pieces.specs.declared.line.Line.{Line}
use Rattle.snap_script.specs.declared.answer.Answer.{Answer}
use Rattle.snap_session.specs.Opened.{OpenedValue}
use Rattle.snap_session.specs.Restoring.{begun_again, opened_again}
use Rattle.snap_session.specs.Script.{RunnerValue}
use Rattle.snap_world.specs.Restored.{SavedWorldValue, restored, saved_world}
use Rattle.snap_world.specs.Saved.{IsWholeSnapshot}
use Rattle.snap_world.specs.World.{WorldValue}
use Rattle.snap_world.specs.declared.fault.RestoreFault.{RestoreFault}
use Rattle.snap_world.specs.declared.save.SavedSnapshot.{SavedSnapshot}
use Rattle.snap_durable.specs.declared.moved.Move.{Move}
use Rattle.snap_durable.specs.declared.moved.Unmoved.{Unmoved}
use Rattle.snap_durable.specs.declared.moved.Unmoved.TheVariants as whys
use Rattle.snap_durable.specs.declared.saved.Unwritten.{Unwritten}
use Rattle.snap_durable.specs.declared.saved.Unwritten.TheVariants as parts
use Rattle.snap_durable.specs.Checked.{IsFirstFault, saved_run}
use Rattle.snap_durable.specs.Checkpoints.{IsTold, has_long, saved_text}
use Rattle.snap_durable.specs.Moved.{HasMoved, HasMovedStore, IsAtNoLine, IsSameThere, IsSavedUnmoved, IsSilent, IsUnfilled, IsUnmovedStore, IsUnwrittenOf, moved_store, moves, moving, unfilled, world_in}
use Rattle.snap_durable.proofs.CheckpointLaws.{ends_once, made, store_ends}

-- what holds of all holds of those that pass a test
all_passed : {X : Type 0} (P : X → Type 0) (test : X → Bool) (xs : List X) → AllByRecursion P xs → AllByRecursion P (filter test xs)
all_passed P test [] all = tt
all_passed P test (x ∷ xs) (one, all) = by (all_passed P test xs all) (test x)
  where
    by : AllByRecursion P (filter test xs) → (b : Bool) → AllByRecursion P (cond b (x ∷ filter test xs) (filter test xs))
    by rest true = (one, rest)
    by rest false = rest

pub moving_whole : (m : Move) (ss : List SavedSnapshot) → AllByRecursion IsWholeSnapshot ss → AllByRecursion IsWholeSnapshot (moving m (λ s. s.saved.namespace) ss)
moving_whole m ss all = all_passed IsWholeSnapshot (λ s. moves m s.saved.namespace) ss all

-- why a part of the lines isn't made is why not all were written
pub unwritten_of : (lines : List Line) (why : Unwritten) → IsUnfilled why → (why ≡ parts.TooLong → has_long lines ≡ true) → IsUnwrittenOf lines (unfilled why)
unwritten_of lines (parts.OutOfMemory want) known long = tt
unwritten_of lines parts.TooLong known long = long refl
unwritten_of lines (parts.Io error) known long = known

-- a write that failed is at no line
pub broken_no_line : (bytes : List ℕ) (stop : Stop) (x y : Option (List ℕ)) → Breaks bytes stop x y → IsAtNoLine stop
broken_no_line bytes (AtLine fault) x y is = absurd is
broken_no_line bytes InputFailed x y is = tt
broken_no_line bytes OutputFailed x y is = tt
broken_no_line bytes (OutOfMemory want) x y is = tt

first_fault : (bytes : List ℕ) (stop : Stop) → IsAtNoLine stop → IsFirstFault bytes stop
first_fault bytes (AtLine fault) is = absurd is
first_fault bytes InputFailed is = tt
first_fault bytes OutputFailed is = tt
first_fault bytes (OutOfMemory want) is = tt

-- the lines of a saved store were carried out, and not all lines were written of what they make
saved_unmoved : (m : Move) (bytes : List ℕ) (why : Unmoved) → (saved_run bytes).fault ≡ None → IsUnmovedStore m (world_in (saved_run bytes).value.stepped.script) why → IsSavedUnmoved m bytes why
saved_unmoved m bytes (whys.Io error) whole is = (whole, is)
saved_unmoved m bytes (whys.Differs sums) whole is = (whole, is)
saved_unmoved m bytes whys.NoStore whole is = (whole, is)
saved_unmoved m bytes whys.NoNamespace whole is = (whole, is)
saved_unmoved m bytes (whys.Unfit fault) whole is = (whole, is)
saved_unmoved m bytes whys.Changed whole is = (whole, is)
saved_unmoved m bytes whys.TooLong whole is = (whole, is)
saved_unmoved m bytes (whys.Stopped stop) whole is = by (world_in (saved_run bytes).value.stepped.script) is
  where
    by : (o : Option WorldValue) → IsUnmovedStore m o (whys.Stopped stop) → IsFirstFault bytes stop
    by None none = absurd (cc)
    by (Some w) no_line = first_fault bytes stop no_line

pub saved_unmoved_all : {X : Type 0} (m : Move) (first : Option (List ℕ)) (v : RunnerValue) (o : Option WorldValue) (r : Result X Unmoved) (before after : Option (List ℕ)) → IfSome first (λ bytes. Tells (saved_run bytes) None before after) → IfSome first (λ bytes. (saved_run bytes).value ≡ v)
    → o ≡ world_in v.stepped.script → IfErr r (λ why. IsUnmovedStore m o why) → IfErr r (λ why. IfSome first (λ bytes. IsSavedUnmoved m bytes why))
saved_unmoved_all m first v o (Ok x) before after whole value is why = tt
saved_unmoved_all m None v o (Err e) before after whole value is why = tt
saved_unmoved_all m (Some bytes) v o (Err e) before after whole value is why =
    saved_unmoved m bytes e whole.0 (subst (λ (x : Option WorldValue). IsUnmovedStore m x e) (is ∙ ap (λ (w : RunnerValue). world_in w.stepped.script) (sym value)) why)

-- nothing was written, or it doesn't matter
pub silent_same : (why : Unmoved) (x : Option (List ℕ)) → IsSilent why x x
silent_same (whys.Io error) x = refl
silent_same (whys.Stopped stop) x = tt
silent_same (whys.Differs sums) x = refl
silent_same whys.NoStore x = refl
silent_same whys.NoNamespace x = refl
silent_same (whys.Unfit fault) x = refl
silent_same whys.Changed x = refl
silent_same whys.TooLong x = tt

pub silent_lines : (lines : List Line) (why : Unmoved) (x y : Option (List ℕ)) → IsUnwrittenOf lines why → IsSilent why x y
silent_lines lines (whys.Io error) x y is = absurd is
silent_lines lines (whys.Stopped stop) x y is = tt
silent_lines lines (whys.Differs sums) x y is = absurd is
silent_lines lines whys.NoStore x y is = absurd is
silent_lines lines whys.NoNamespace x y is = absurd is
silent_lines lines (whys.Unfit fault) x y is = absurd is
silent_lines lines whys.Changed x y is = absurd is
silent_lines lines whys.TooLong x y is = tt

-- the store is begun again by what restores it
begun_there : (saved : SavedWorldValue) (w : WorldValue) → restored saved ≡ Ok w → begun_again saved ≡ Ok (opened_again w)
begun_there saved w is = ap (λ (r : Result WorldValue RestoreFault). r >>= λ v. (let x : Result (OpenedValue × Answer) RestoreFault = Ok (opened_again v) in x)) is

pub has_moved : (m : Move) (w : WorldValue) (lines : List Line) (before after : Option (List ℕ)) → lines ≡ store_lines (moved_store m (saved_world w)) → lines_put None lines ≡ Ok (moved_store m (saved_world w))
    → IsSameThere m w → AllByRecursion IsTold lines → Appends before after (saved_text lines) → HasMoved m w before after
has_moved m w lines before after are back same told written = record {
  lines = lines;
  are = are;
  written = written;
  stands = same;
  makes = λ low again now.
      (let ends : ends_once lines ≡ true = subst (λ (ls : List Line). ends_once ls ≡ true) (sym are) (store_ends (moved_store m (saved_world w))) in
      made (moved_store m (saved_world w)) (opened_again same.there).0 (opened_again same.there).1 (begun_there (moved_store m (saved_world w)) same.there same.restores) lines again told ends back low now);
}

-- where all lines were written
pub written_all : (m : Move) (world : Option WorldValue) (w : WorldValue) (lines : List Line) (r : Result (Unit {0}) Unmoved) (before after : Option (List ℕ)) → world ≡ Some w → lines ≡ store_lines (moved_store m (saved_world w))
    → lines_put None lines ≡ Ok (moved_store m (saved_world w)) → IsSameThere m w → OnOk r (AllByRecursion IsTold lines) → OnOk r (Appends before after (saved_text lines)) → OnOk r (HasMovedStore m world before after)
written_all m world w lines (Ok done) before after is are back same told written = subst (λ (o : Option WorldValue). HasMovedStore m o before after) (sym is) (has_moved m w lines before after are back same told written)
written_all m world w lines (Err why) before after is are back same told written = tt
