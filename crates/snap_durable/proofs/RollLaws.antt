-- The next round of a store with which a checkpoint begins, and the mark behind it.
use Rattle.std.proofs.Common.{◌≡◌, inl, inr, ℕ, ◌≤◌, List, [], ◌∷◌, ◌++◌, length, take, Bool, true, false, Option, Some, None, Result, Ok, Err, refl, sym, ap, ◌∙◌, subst, arith}
use Rattle.std.specs.Prelude.{◌==◌, ◌&&◌, ◌||◌, not, if◌then◌else◌, IfErr, IfOk, IfSome}
use Rattle.snap_log.specs.Kept.{IsBeforeOrAfter}
use Rattle.sqlite_disk.specs.declared.Disk.{Ghosts}
use Rattle.snap_log.specs.Log.{IsHonest, text_in}
use Rattle.snap_log.specs.declared.log.Log.{Log}
use Rattle.snap_log.specs.Texts.{AreLines, has_feed, is_line, log_text}
use Rattle.snap_log.proofs.TextLaws.{joined}
use Rattle.snap_lines.specs.Effects.{Effect}
use Rattle.snap_lines.specs.Lines.{is_open, lines_of}
use Rattle.snap_lines.specs.Transcripts.{next_line}
use Rattle.snap_lines.proofs.LineLaws.{line_split}
use Rattle.snap_marks.specs.Marks.{is_continued_line}
use Rattle.snap_marks.specs.Sums.{continued_mark}
use Rattle.snap_marks.proofs.MarkLaws.{continued_is, open_continued}
use Rattle.std.proofs.lemmas.Bool.{eqb-true}
use Rattle.std.proofs.lemmas.List.{take_all}
use Rattle.snap_pieces.specs.declared.line.Line.{Line as SavedLine}
use Rattle.snap_script.specs.declared.fault.Fault.{Fault}
use Rattle.snap_script.specs.declared.line.Line.{Line}
use Rattle.snap_script.specs.declared.line.Line.TheVariants.{Command}
use Rattle.snap_script.specs.declared.command.Command.TheVariants.{Roll}
use Rattle.snap_script.specs.declared.response.Response.TheVariants.{NotKept}
use Rattle.snap_session.specs.Kept.{KeptValue, counted_from, gone_on, has_store, is_changing, kept_line, kept_so, mark_of, served_kept, would_change}
use Rattle.snap_session.specs.Opened.{OpenedValue, ScriptValue, only_store}
use Rattle.snap_session.specs.Saving.{SavesRolled, saving_of}
use Rattle.snap_session.specs.declared.saving.Saving.TheVariants as savings
use Rattle.snap_session.specs.Script.{SteppedValue}
use Rattle.snap_session.specs.Service.{ServerValue, responded}
use Rattle.snap_session.proofs.Keeping.{script_of}
use Rattle.snap_durable.specs.Checkpoints.{rolled}
use Rattle.snap_durable.specs.Files.{CanCome, CanRoll, GoesOnFrom, HasRolled, LeavesSame, LeavesStep}
use Rattle.snap_durable.specs.Parts.{Part, kept_of, line_limit}
use Rattle.snap_durable.specs.Serves.{Serves}
use Rattle.snap_durable.specs.Turns.{GivesBack, IsRolled, IsStepped}
use Rattle.snap_durable.proofs.BackLaws.{Gives, IsMade, back_of, gives_of, gives_on, gives_told, made_of}
use Rattle.snap_durable.proofs.FileLaws.{lines_on}
use Rattle.snap_durable.proofs.LeadLaws.{Leads, leads_of}
use Rattle.snap_durable.proofs.PartLaws.{told_one}
use Rattle.snap_durable.proofs.SavedLaws.{open_of}
use Rattle.snap_durable.proofs.ServeLaws.{serves}
use Rattle.snap_durable.proofs.SoundLaws.{mark_read}
use Rattle.snap_durable.proofs.TurnLaws.{serves_some}

-- ---- the line

-- a line of a log has no line feed
pub line_open : (bytes : List ℕ) → is_line bytes ≡ true → is_open bytes ≡ true
line_open [] is = absurd (cc)
line_open (b ∷ bytes) is =
    let both = by (b == 123) (has_feed bytes) is in
    subst (λ (n : ℕ). is_open (n ∷ bytes) ≡ true) (sym (eqb-true b 123 both.0)) (open_of bytes both.1)
  where
    by : (t f : Bool) → (t && not f) ≡ true → (t ≡ true) × (f ≡ false)
    by true true h = absurd (cc)
    by true false h = (refl, refl)
    by false f h = absurd (cc)

abbrev value_of : KeptValue → Result (Effect KeptValue) Fault → KeptValue
value_of v (Ok e) = e.value
value_of v (Err fault) = v

-- the script and its pages after a line that is carried out, or isn't
abbrev stepped_by : Bool → SteppedValue → ℕ → Result Line Fault → SteppedValue
stepped_by k s n line = (if k || not (is_changing line) then responded s n line else (s, NotKept)).0

stepped_after : (v : KeptValue) (line : List ℕ) (e : Effect KeptValue) → served_kept v line ≡ Ok e → e.value.server.stepped ≡ stepped_by v.keeps v.server.stepped (next_line v.server.lines) (kept_line (script_of v) line)
unfolding served_kept
stepped_after v line e h = ap (λ (r : Result (Effect KeptValue) Fault). (value_of e.value r).server.stepped) (sym h)

-- with which script a server goes on, if it does
abbrev after_roll : Bool → KeptValue → OpenedValue → SteppedValue
after_roll true v s = record v.server.stepped { script = only_store (rolled s) }
after_roll false v s = v.server.stepped

module _ (v : KeptValue) (line : List ℕ) (saved : List SavedLine) (can : CanRoll v line saved) where
  abbrev store : OpenedValue
  store = can.rolls.store

  rolled_script : (k : Bool) (s : SteppedValue) (n : ℕ) → s.script ≡ only_store store → stepped_by k s n (Ok (Command 0 (Roll store.world.limit))) ≡ (if k then record s { script = only_store (rolled store) } else s)
  rolled_script false s n stands = refl
  rolled_script true s n stands = ap (λ (x : ScriptValue). (responded (record s { script = x }) n (Ok (Command 0 (Roll store.world.limit)))).0) stands

  rolls_to : (k : Bool) (u : KeptValue) (said : List ℕ) → Serves served_kept (kept_so k v) (lines_of line) said u → u.server.stepped ≡ (if k then record v.server.stepped { script = only_store (rolled store) } else v.server.stepped)
  rolls_to k u said serves =
      let one : lines_of line ≡ (can.text ++ 10 ∷ []) ∷ [] = ap lines_of can.fed ∙ line_split can.text [] can.one in
      let led : Leads served_kept (kept_so k v) ((can.text ++ 10 ∷ []) ∷ []) u = subst (λ (ls : List (List ℕ)). Leads served_kept (kept_so k v) ls u) one (leads_of served_kept (kept_so k v) (lines_of line) said u serves) in
      let here : served_kept (kept_so k v) can.text ≡ Ok led.0 = ap (served_kept (kept_so k v)) (sym (mark_read can.text can.one can.short)) ∙ led.1 in
      ap (λ (x : KeptValue). x.server.stepped) (sym led.2) ∙ stepped_after (kept_so k v) can.text led.0 here ∙ ap (stepped_by k v.server.stepped (next_line v.server.lines)) can.rolls.reads
      ∙ rolled_script k v.server.stepped (next_line v.server.lines) can.rolls.stands

  -- what a client sees of it
  pub has_rolled : (u : KeptValue) (said : List ℕ) → Serves served_kept (kept_so true v) (lines_of line) said u → IsRolled v (counted_from v.server.lines u)
  has_rolled u said serves = record { store = store; stands = can.rolls.stands; is = ap (λ (s : SteppedValue). let x : ServerValue = record { stepped = s; lines = v.server.lines } in x) (rolls_to true u said serves) }

  pub has_stepped : (k : Bool) (u : KeptValue) (said : List ℕ) → Serves served_kept (kept_so k v) (lines_of line) said u → IsStepped v (counted_from v.server.lines u)
  has_stepped true u said serves = inr (has_rolled u said serves)
  has_stepped false u said serves = inl (ap (λ (s : SteppedValue). let x : ServerValue = record { stepped = s; lines = v.server.lines } in x) (rolls_to false u said serves))

-- its part gives the server back with it
pub roll_back : (v u : KeptValue) (k : Bool) (line text said : List ℕ) (n : ℕ) → AreLines text → GivesBack text v → length (lines_of line) ≤ 1 → Serves served_kept (kept_so k v) (lines_of line) said u
    → AreLines (text ++ kept_of (would_change v) (mark_of v) (record { whole = line; is_kept = k })) → GivesBack (text ++ kept_of (would_change v) (mark_of v) (record { whole = line; is_kept = k })) (counted_from n u)
roll_back v u k line text said n lines gives few serves all =
    let p : Part = record { whole = line; is_kept = k } in
    let kept : List ℕ = kept_of (would_change v) (mark_of v) p in
    let it : GivesBack (text ++ kept) u = back_of (text ++ kept) u (gives_told text kept said (p ∷ []) v v u (gives_of text v lines gives) refl (told_one served_kept would_change mark_of kept_so has_store v u p said serves (inr few)) all) in
    record { same = it.same; agrees = it.agrees }

pub one_roll : (v : KeptValue) (line : List ℕ) (saved : List SavedLine) → CanRoll v line saved → length (lines_of line) ≤ 1
one_roll v line saved can = subst (λ (ls : List (List ℕ)). length ls ≤ 1) (sym (ap lines_of can.fed ∙ line_split can.text [] can.one)) (omega arith)

-- a crash as its line is carried out
pub roll_leaves : (v : KeptValue) (line : List ℕ) (saved : List SavedLine) (k : Bool) (text file : List ℕ) → CanRoll v line saved → AreLines text → AreLines (log_text file) → GivesBack text v
    → log_text file ≡ text ++ kept_of (would_change v) (mark_of v) (record { whole = line; is_kept = k }) → LeavesStep v (log_text file)
roll_leaves v line saved k text file can lines file_lines gives is =
    let some = serves_some (lines_of line) 0 (kept_so k v) in
    let now : Serves served_kept (kept_so k v) (lines_of line) some.0 some.1 = serves served_kept (kept_so k v) (lines_of line) some.0 some.1 some.2 in
    let back = roll_back v some.1 k line text some.0 v.server.lines lines gives (one_roll v line saved can) now (subst AreLines is file_lines) in
    (counted_from v.server.lines some.1, has_stepped v line saved can k some.1 some.0 now, subst (λ (t : List ℕ). GivesBack t (counted_from v.server.lines some.1)) (sym is) back)

-- ---- the mark behind it

pub goes_from : (v : KeptValue) (mark line : List ℕ) → mark ≡ continued_mark v.sums → line ≡ mark ++ 10 ∷ [] → length mark ≤ line_limit → AreLines line → GoesOnFrom (gone_on mark v) mark line
goes_from v mark line is line_is short whole = record {
  is = ap is_continued_line (sym (take_all line_limit mark short)) ∙ ap (λ (m : List ℕ). is_continued_line (take line_limit m)) is ∙ continued_is line_limit v.sums.lines v.sums.answers (omega arith);
  one = subst (λ (m : List ℕ). is_open m ≡ true) (sym is) (open_continued v.sums.lines v.sums.answers);
  short = short;
  fed = line_is;
  whole = whole;
  lines = refl;
  answers = refl;
}

pub mark_back : (v w : KeptValue) (text mark line : List ℕ) → AreLines text → GivesBack text v → script_of w ≡ script_of v → GoesOnFrom w mark line → GivesBack (text ++ line) w
mark_back v w text mark line lines gives script goes =
    let made : Gives text (IsMade (script_of w)) = subst (λ (s : ScriptValue). Gives text (IsMade s)) (sym script) (made_of text v (gives_of text v lines gives)) in
    back_of (text ++ line) w (gives_on text w mark line made goes (joined text line lines goes.whole))

-- a crash as it is added
pub mark_leaves : (v : KeptValue) (text mark line file : List ℕ) → AreLines text → GivesBack text v → GoesOnFrom (gone_on mark v) mark line → IsBeforeOrAfter text line file → LeavesSame v (log_text file)
mark_leaves v text mark line file lines gives goes (inl before) = (v, refl, subst (λ (t : List ℕ). GivesBack t v) (sym before) gives)
mark_leaves v text mark line file lines gives goes (inr after) = (gone_on mark v, refl, subst (λ (t : List ℕ). GivesBack t (gone_on mark v)) (sym after) (mark_back v (gone_on mark v) text mark line lines gives refl goes))

-- ---- both

rolled_on : (v u w : KeptValue) → IsRolled v u → w.server ≡ u.server → IsRolled v w
rolled_on v u w rolls same = record { store = rolls.store; stands = rolls.stands; is = same ∙ rolls.is }

pub rolled_mark : (v u w : KeptValue) (mark : Option (List ℕ)) → IsRolled v u → w.server ≡ u.server → IfSome mark (λ line. (text : List ℕ) × GoesOnFrom w text line) → HasRolled v w mark
rolled_mark v u w None rolls same goes = inr (rolled_on v u w rolls same)
rolled_mark v u w (Some line) rolls same goes = (rolled_on v u w rolls same, goes)

-- a crash behind the line
pub rolled_leaves : (v u : KeptValue) (text : List ℕ) → IsRolled v u → LeavesSame u text → LeavesStep v text
rolled_leaves v u text rolls (w, same, gives) = (w, inr (rolled_on v u w rolls same), gives)

-- what its line adds gives the server back, whether it was kept or not
module _ {D : Type 0} {g : Ghosts D} (v u : KeptValue) (k : Bool) (line said : List ℕ) (log log_new : Log D g) (few : length (lines_of line) ≤ 1) (serves : Serves served_kept (kept_so k v) (lines_of line) said u)
    (text : text_in log_new ≡ text_in log ++ kept_of (would_change v) (mark_of v) (record { whole = line; is_kept = k })) where
  pub roll_added : (n : ℕ) → IsHonest log → IsHonest log_new → GivesBack (text_in log) v → GivesBack (text_in log_new) (counted_from n u)
  roll_added n honest honest_new gives =
      subst (λ (t : List ℕ). GivesBack t (counted_from n u)) (sym text) (roll_back v u k line (text_in log) said n (lines_on log honest) gives few serves (subst AreLines text (lines_on log_new honest_new)))

-- a store that was rolled as its lines were saved
pub can_come : (v w : KeptValue) (line : List ℕ) (saved : List SavedLine) (mark : List ℕ) → CanRoll v line saved → IsRolled v w × ((text : List ℕ) × GoesOnFrom w text mark) → CanCome w saved mark
can_come v w line saved mark can (rolls, goes) =
    let some : v.server.stepped.script.store ≡ Some rolls.store = ap (λ (s : ScriptValue). s.store) rolls.stands in
    record {
      store = rolls.store;
      makes = subst (λ (s : Option OpenedValue). SavesRolled s (savings.Lines saved)) some can.makes;
      all = ap saving_of (sym some) ∙ can.all;
      stands = ap (λ (s : ServerValue). s.stepped.script) rolls.is;
      mark = goes.0;
      goes = goes.1;
    }

-- whether a mark was added or not, it was a step
pub step_of : (v w : KeptValue) (mark : Option (List ℕ)) → HasRolled v w mark → IsStepped v w
step_of v w None stepped = stepped
step_of v w (Some line) rolled = inr rolled.0

-- two clauses of one answer
pub if_both : {X E : Type 0} (P Q : X → Type 0) (r : Result X E) → IfOk r P → IfOk r Q → IfOk r (λ x. P x × Q x)
if_both P Q (Ok x) p q = (p, q)
if_both P Q (Err e) p q = tt

pub if_both_err : {X E : Type 0} (P Q : E → Type 0) (r : Result X E) → IfErr r P → IfErr r Q → IfErr r (λ e. P e × Q e)
if_both_err P Q (Ok x) p q = tt
if_both_err P Q (Err e) p q = (p, q)

pub if_err : {X E : Type 0} {P Q : E → Type 0} (r : Result X E) → ((e : E) → P e → Q e) → IfErr r P → IfErr r Q
if_err (Ok x) f p = tt
if_err (Err e) f p = f e p
