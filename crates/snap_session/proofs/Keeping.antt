-- What is left by a line of what a log is kept of, a server's script and the sums of lines and answers.
use Rattle.std.proofs.Common.{◌≡◌, ◌⊎◌, inl, inr, ℕ, Bool, true, false, Option, Some, None, List, Result, Ok, Err, refl, sym, ap, subst, length, ◌∙◌}
use Rattle.std.specs.Prelude.{◌++◌, ◌∷◌, [], not, ◌&&◌, ◌||◌, if◌then◌else◌, is_ok, is_some}
use Rattle.std.specs.Option.{option_map_or}
use Rattle.snap_call.specs.Results.{◌>>=◌}
use Rattle.snap_script.specs.declared.fault.Fault.{Fault}
use Rattle.snap_script.specs.declared.line.Line.{Line}
use Rattle.snap_script.specs.declared.line.Line.TheVariants.{Empty, Command}
use Rattle.snap_script.specs.declared.response.Response.TheVariants.{NotKept}
use Rattle.snap_script.specs.declared.response.Response.TheVariants as responses
use Rattle.snap_script.specs.Lines.{line_of}
use Rattle.snap_script.specs.declared.unknown.FieldRule.TheVariants.{KnownAndId}
use Rattle.snap_script.specs.Requests.{id_of}
use Rattle.snap_script.specs.Responses.{response_line}
use Rattle.snap_lines.specs.Effects.{Effect}
use Rattle.snap_lines.specs.Transcripts.{next_line}
use Rattle.snap_script.specs.declared.command.Command.{Command as AnyCommand}
use Rattle.snap_script.specs.declared.answer.Answer.{Answer}
use Rattle.snap_script.specs.declared.answer.Answer.TheVariants.{NoSession}
use Rattle.snap_script.specs.declared.command.Command.TheVariants.{Save}
use Rattle.snap_script.specs.Changes.{changes_store}
use Rattle.snap_session.specs.Commands.{command_done}
use Rattle.snap_session.specs.Opened.{OpenedValue, ScriptValue}
use Rattle.snap_session.specs.Pages.{page_told}
use Rattle.snap_session.specs.Script.{SteppedValue, first_done, line_step, paged, script_done, with_store}
use Rattle.snap_session.specs.Service.{effect_responded, responded, served}
use Rattle.snap_session.specs.Kept.{KeptPart, KeptValue, counted_anew, effect_summed, has_store, is_changing, kept_line, kept_so, kept_part, served_kept, sums_after, would_change}
use Rattle.snap_marks.specs.declared.sums.Sums.{Sums}
use Rattle.snap_marks.specs.Marks.{chained, is_mark_line}
use Rattle.snap_marks.specs.Sums.{mark_compared, passed, summed}
use Rattle.snap_marks.proofs.MarkLaws.{length_chained, marked_answers, marked_lines, marked_told}
use Rattle.snap_session.proofs.Asking.{script_asked}

abbrev pub script_of : KeptValue → ScriptValue
script_of v = v.server.stepped.script

-- what a line makes of the script: a page of the store's lines leaves it
abbrev pub done_by : ScriptValue → Result Line Fault → ScriptValue
done_by s (Err fault) = s
done_by s (Ok Empty) = s
done_by s (Ok (Command session command)) = (script_done s session command).0

paged_leaves : (s : SteppedValue) (session after most : ℕ) → (paged s after most).0.script ≡ (script_done s.script session (Save after most)).0
paged_leaves s session after most = by s.script.store ∙ sym (script_asked s.script session (Save after most) refl)
  where
    by : (o : Option OpenedValue) → (option_map_or {U = SteppedValue × Option Answer} (λ opened. let page = page_told opened.world s.pages after most in (record s { pages = page.0 }, Some page.1)) o (s, Some NoSession)).0.script ≡ s.script
    by None = refl
    by (Some opened) = refl

command_left : (s : SteppedValue) (session : ℕ) (command : AnyCommand) → (line_step s (Command session command)).0.script ≡ (script_done s.script session command).0
command_left s session (Save after most) = paged_leaves s session after most
command_left s session command = refl

-- the number of a line doesn't matter, nor what is left of a saved store
script_left : (s : SteppedValue) (n : ℕ) (r : Result Line Fault) → (responded s n r).0.script ≡ done_by s.script r
script_left s n (Err fault) = refl
script_left s n (Ok Empty) = refl
script_left s n (Ok (Command session command)) = command_left s session command

-- the script after a line that is carried out, or isn't
abbrev pub after : Bool → ScriptValue → List ℕ → ScriptValue
after true s line = done_by s (kept_line s line)
after false s line = s

-- a line that changes nothing
leaves : (s : ScriptValue) (r : Result Line Fault) → is_changing r ≡ false → done_by s r ≡ s
leaves s (Err fault) h = refl
leaves s (Ok Empty) h = refl
leaves s (Ok (Command session command)) h = script_asked s session command h

after_leaves : (b : Bool) (s : ScriptValue) (line : List ℕ) → is_changing (kept_line s line) ≡ false → after b s line ≡ s
after_leaves true s line h = leaves s (kept_line s line) h
after_leaves false s line h = refl

-- where it doesn't keep
stays : (s : ScriptValue) (line : List ℕ) (b : Bool) → is_changing (kept_line s line) ≡ b → after (not b) s line ≡ s
stays s line true h = refl
stays s line false h = leaves s (kept_line s line) h

-- the value that an effect leaves
abbrev value_in : KeptValue → Result (Effect KeptValue) Fault → KeptValue
value_in v (Ok e) = e.value
value_in v (Err fault) = v

-- and the text
abbrev text_in : List ℕ → Result (Effect KeptValue) Fault → List ℕ
text_in text (Ok e) = e.text
text_in text (Err fault) = text

script_if : (b : Bool) (s : SteppedValue) (n : ℕ) (line : List ℕ) → (if b then responded s n (kept_line s.script line) else (s, NotKept)).0.script ≡ after b s.script line
script_if true s n line = script_left s n (kept_line s.script line)
script_if false s n line = refl

-- the script after a line is by the script before, and by whether it is carried out
pub script_after : (v : KeptValue) (line : List ℕ) (e : Effect KeptValue) → served_kept v line ≡ Ok e → script_of e.value ≡ after (v.keeps || not (would_change v line)) (script_of v) line
unfolding served_kept
script_after v line e h =
    ap (λ (r : Result (Effect KeptValue) Fault). (value_in e.value r).server.stepped.script) (sym h)
    ∙ script_if (v.keeps || not (would_change v line)) v.server.stepped (next_line v.server.lines) line

-- ---- the sums

-- the sums and the text that an effect leaves
sums_are : (v : KeptValue) (line : List ℕ) (e : Effect KeptValue) → served_kept v line ≡ Ok e → e.value.sums ≡ sums_after v line e.text
unfolding served_kept
sums_are v line e h =
    ap (λ (r : Result (Effect KeptValue) Fault). (value_in e.value r).sums) (sym h)
    ∙ ap (λ (r : Result (Effect KeptValue) Fault). sums_after v line (text_in e.text r)) h

text_is : (v : KeptValue) (line : List ℕ) (e : Effect KeptValue) → v.keeps ≡ true → served_kept v line ≡ Ok e → e.text ≡ response_line (id_of line) (responded v.server.stepped (next_line v.server.lines) (kept_line (script_of v) line)).1
unfolding served_kept
text_is v line e keeps h =
    ap (λ (r : Result (Effect KeptValue) Fault). text_in e.text r) (sym h)
    ∙ ap (λ (k : Bool). response_line (id_of line) (if k || not (is_changing (kept_line (script_of v) line)) then responded v.server.stepped (next_line v.server.lines) (kept_line (script_of v) line) else (v.server.stepped, NotKept)).1) keeps

-- the answer to a line that changes something is by the script alone
command_alike : (s t : SteppedValue) (session : ℕ) (command : AnyCommand) → s.script ≡ t.script → changes_store command ≡ true → (line_step s (Command session command)).1 ≡ (line_step t (Command session command)).1
command_alike s t session (Save after most) same h = absurd (cc h)
command_alike s t session command same h = ap (λ (x : ScriptValue). Some (script_done x session command).1) same

answer_alike : (s t : SteppedValue) (n m : ℕ) (r : Result Line Fault) → s.script ≡ t.script → is_changing r ≡ true → (responded s n r).1 ≡ (responded t m r).1
answer_alike s t n m (Err fault) same h = absurd (cc)
answer_alike s t n m (Ok Empty) same h = absurd (cc)
answer_alike s t n m (Ok (Command session command)) same h = ap (λ (o : Option Answer). option_map_or responses.Answer o responses.Empty) (command_alike s t session command same h)

abbrev sums_by : Bool → Bool → Sums → List ℕ → List ℕ → Sums
sums_by mark adds s line text = if mark then mark_compared s line else if adds then summed s line text else passed s

-- where a line isn't added, they stay
lines_left : (mark : Bool) (s : Sums) (line text : List ℕ) → (sums_by mark false s line text).lines ≡ s.lines
lines_left true s line text = marked_lines s line
lines_left false s line text = refl

answers_left : (mark : Bool) (s : Sums) (line text : List ℕ) → (sums_by mark false s line text).answers ≡ s.answers
answers_left true s line text = marked_answers s line
answers_left false s line text = refl

-- equal ones stay equal
lines_alike : (mark adds : Bool) (s t : Sums) (line x y : List ℕ) → s.lines ≡ t.lines → (sums_by mark adds s line x).lines ≡ (sums_by mark adds t line y).lines
lines_alike true adds s t line x y same = marked_lines s line ∙ same ∙ sym (marked_lines t line)
lines_alike false true s t line x y same = ap (λ (l : List ℕ). chained l (line ++ 10 ∷ [])) same
lines_alike false false s t line x y same = same

answers_alike : (mark adds : Bool) (s t : Sums) (line x y : List ℕ) → s.answers ≡ t.answers → (adds ≡ true → x ≡ y) → (sums_by mark adds s line x).answers ≡ (sums_by mark adds t line y).answers
answers_alike true adds s t line x y same text = marked_answers s line ∙ same ∙ sym (marked_answers t line)
answers_alike false true s t line x y same text = ap (λ (a : List ℕ). chained a x) same ∙ ap (λ (l : List ℕ). chained t.answers l) (text refl)
answers_alike false false s t line x y same text = same

pub parts : (a b : KeptPart) → a.script ≡ b.script → a.lines ≡ b.lines → a.answers ≡ b.answers → a ≡ b
parts a b p q r =
    ap (λ (s : ScriptValue). let k : KeptPart = record { script = s; lines = a.lines; answers = a.answers } in k) p
    ∙ ap (λ (l : List ℕ). let k : KeptPart = record { script = b.script; lines = l; answers = a.answers } in k) q
    ∙ ap (λ (l : List ℕ). let k : KeptPart = record { script = b.script; lines = b.lines; answers = l } in k) r

-- no line is added where none that changes something is carried out, or this one changes nothing
none_added : (keeps change : Bool) → (keeps ≡ false) ⊎ (change ≡ false) → (keeps && change) ≡ false
none_added false change h = refl
none_added true change (inl h) = absurd (cc)
none_added true change (inr h) = h

sums_left : (v : KeptValue) (line : List ℕ) (e : Effect KeptValue) → (v.keeps ≡ false) ⊎ (would_change v line ≡ false) → served_kept v line ≡ Ok e → (e.value.sums.lines ≡ v.sums.lines) × (e.value.sums.answers ≡ v.sums.answers)
sums_left v line e none h =
    let is : e.value.sums ≡ sums_by (is_mark_line line) false v.sums line e.text = sums_are v line e h ∙ ap (λ (adds : Bool). sums_by (is_mark_line line) adds v.sums line e.text) (none_added v.keeps (would_change v line) none) in
    (ap (λ (s : Sums). s.lines) is ∙ lines_left (is_mark_line line) v.sums line e.text, ap (λ (s : Sums). s.answers) is ∙ answers_left (is_mark_line line) v.sums line e.text)

-- ---- the laws

-- whether a line would change something is by the script alone
pub change_alike : (v w : KeptValue) (line : List ℕ) → script_of v ≡ script_of w → would_change v line ≡ would_change w line
change_alike v w line same = ap (λ (s : ScriptValue). is_changing (kept_line s line)) same

-- a line that changes nothing leaves the part
pub unchanged_left : (v : KeptValue) (line : List ℕ) (e : Effect KeptValue) → would_change v line ≡ false → served_kept v line ≡ Ok e → kept_part e.value ≡ kept_part v
unchanged_left v line e same h =
    let sums = sums_left v line e (inr same) h in
    parts (kept_part e.value) (kept_part v) (script_after v line e h ∙ after_leaves (v.keeps || not (would_change v line)) (script_of v) line same) sums.0 sums.1

-- where lines that change it are carried out, the part after a line is by the part before alone
pub carried_alike : (v w : KeptValue) (line : List ℕ) (e f : Effect KeptValue) → kept_part v ≡ kept_part w → served_kept (kept_so true v) line ≡ Ok e → served_kept (kept_so true w) line ≡ Ok f → kept_part e.value ≡ kept_part f.value
carried_alike v w line e f same h k =
    let script : script_of v ≡ script_of w = ap (λ (p : KeptPart). p.script) same in
    let adds : would_change v line ≡ would_change w line = change_alike v w line script in
    let ours : e.value.sums ≡ sums_by (is_mark_line line) (would_change v line) v.sums line e.text = sums_are (kept_so true v) line e h in
    let theirs : f.value.sums ≡ sums_by (is_mark_line line) (would_change v line) w.sums line f.text = sums_are (kept_so true w) line f k ∙ ap (λ (t : Bool). sums_by (is_mark_line line) t w.sums line f.text) (sym adds) in
    let text : would_change v line ≡ true → e.text ≡ f.text = λ is.
    text_is (kept_so true v) line e refl h
    ∙ ap (response_line (id_of line)) (answer_alike v.server.stepped w.server.stepped (next_line v.server.lines) (next_line w.server.lines) (kept_line (script_of v) line) script is)
    ∙ ap (λ (s : ScriptValue). response_line (id_of line) (responded w.server.stepped (next_line w.server.lines) (kept_line s line)).1) script
    ∙ sym (text_is (kept_so true w) line f refl k) in
    parts (kept_part e.value) (kept_part f.value)
    (script_after (kept_so true v) line e h ∙ ap (λ (s : ScriptValue). after true s line) script ∙ sym (script_after (kept_so true w) line f k))
    (ap (λ (s : Sums). s.lines) ours ∙ lines_alike (is_mark_line line) (would_change v line) v.sums w.sums line e.text f.text (ap (λ (p : KeptPart). p.lines) same) ∙ sym (ap (λ (s : Sums). s.lines) theirs))
    (ap (λ (s : Sums). s.answers) ours ∙ answers_alike (is_mark_line line) (would_change v line) v.sums w.sums line e.text f.text (ap (λ (p : KeptPart). p.answers) same) text ∙ sym (ap (λ (s : Sums). s.answers) theirs))

-- where they aren't, every line leaves it
pub unkept_left : (v : KeptValue) (line : List ℕ) (e : Effect KeptValue) → served_kept (kept_so false v) line ≡ Ok e → kept_part e.value ≡ kept_part v
unkept_left v line e h =
    let sums = sums_left (kept_so false v) line e (inl refl) h in
    parts (kept_part e.value) (kept_part v) (script_after (kept_so false v) line e h ∙ stays (script_of v) line (would_change v line) refl) sums.0 sums.1

-- whether they are carried out says nothing of the part, and stays so
pub so_left : (keeps : Bool) (v : KeptValue) → kept_part (kept_so keeps v) ≡ kept_part v
so_left keeps v = refl

pub so_again : (keeps before : Bool) (v : KeptValue) → kept_so keeps (kept_so before v) ≡ kept_so keeps v
so_again keeps before v = refl

pub so_after : (keeps : Bool) (v : KeptValue) (line : List ℕ) (e : Effect KeptValue) → served_kept (kept_so keeps v) line ≡ Ok e → kept_so keeps e.value ≡ e.value
unfolding served_kept
so_after keeps v line e h = ap (λ (r : Result (Effect KeptValue) Fault). let w : KeptValue = record { server = e.value.server; keeps = (value_in e.value r).keeps; sums = e.value.sums } in w) h

-- nor does the number of lines
pub anew_left : (v : KeptValue) → kept_part (counted_anew v) ≡ kept_part v
anew_left v = refl

-- a mark changes nothing
pub mark_changes : (v : KeptValue) (line : List ℕ) → is_mark_line line ≡ true → would_change v line ≡ false
mark_changes v line h = ap (λ (t : Bool). is_changing (if t then Ok Empty else line_of KnownAndId (is_some (script_of v).store) line)) h

-- a mark is compared with the sums
pub mark_sums : (v : KeptValue) (line : List ℕ) (e : Effect KeptValue) → is_mark_line line ≡ true → served_kept v line ≡ Ok e → e.value.sums ≡ mark_compared v.sums line
mark_sums v line e is h = sums_are v line e h ∙ ap (λ (t : Bool). sums_by t (v.keeps && would_change v line) v.sums line e.text) is

-- and what changes something is none
pub no_mark : (v : KeptValue) (line : List ℕ) → would_change v line ≡ true → is_mark_line line ≡ false
no_mark v line change = by (is_mark_line line) refl
  where
    by : (t : Bool) → is_mark_line line ≡ t → is_mark_line line ≡ false
    by true is = let bad : true ≡ false = sym change ∙ mark_changes v line is in absurd (cc)
    by false is = is

-- it is added where it is carried out
pub added_sums : (v : KeptValue) (line : List ℕ) (e : Effect KeptValue) → v.keeps ≡ true → would_change v line ≡ true → served_kept v line ≡ Ok e → e.value.sums ≡ summed v.sums line e.text
added_sums v line e keeps change h =
    sums_are v line e h
    ∙ ap (λ (t : Bool). sums_by t (v.keeps && would_change v line) v.sums line e.text) (no_mark v line change)
    ∙ ap (λ (k : Bool). sums_by false (k && would_change v line) v.sums line e.text) keeps
    ∙ ap (λ (c : Bool). sums_by false c v.sums line e.text) change

-- where a mark is the last line, the answers are those that it was told; sums have 32 bytes
pub record IsSteady (s : Sums) : Type 0 where
  pub told : s.ends ≡ true → s.told ≡ s.answers
  pub lines : length s.lines ≡ 32
  pub answers : length s.answers ≡ 32

steady_by : (mark adds : Bool) (s : Sums) (line text : List ℕ) → IsSteady s → IsSteady (sums_by mark adds s line text)
steady_by true adds s line text is = record {
  told = λ ends. marked_told s line ∙ sym (marked_answers s line);
  lines = ap (λ (l : List ℕ). length l) (marked_lines s line) ∙ is.lines;
  answers = ap (λ (l : List ℕ). length l) (marked_answers s line) ∙ is.answers;
}
steady_by false true s line text is = record { told = λ ends. absurd (cc); lines = length_chained s.lines (line ++ 10 ∷ []); answers = length_chained s.answers text }
steady_by false false s line text is = record { told = λ ends. absurd (cc); lines = is.lines; answers = is.answers }

pub steady_left : (v : KeptValue) (line : List ℕ) (e : Effect KeptValue) → IsSteady v.sums → served_kept v line ≡ Ok e → IsSteady e.value.sums
steady_left v line e is h = subst IsSteady (sym (sums_are v line e h)) (steady_by (is_mark_line line) (v.keeps && would_change v line) v.sums line e.text is)

-- where they are, a line that is no mark does to the server what it does to any other
pub served_alike : (v : KeptValue) (line : List ℕ) → is_mark_line line ≡ false → served_kept (kept_so true v) line ≡ (served v.server line >>= (λ it. Ok (effect_summed (kept_so true v) line it)))
unfolding served_kept served
served_alike v line h =
    let read : kept_line (script_of v) line ≡ line_of KnownAndId (is_some (script_of v).store) line = ap (λ (t : Bool). if t then Ok Empty else line_of KnownAndId (is_some (script_of v).store) line) h in
    ap (λ (r : Result Line Fault). let x : Result (Effect KeptValue) Fault = Ok (effect_summed (kept_so true v) line (effect_responded (next_line v.server.lines) (id_of line) (responded v.server.stepped (next_line v.server.lines) r))) in x) read

-- no line has a fault
pub always_served : (v : KeptValue) (line : List ℕ) → is_ok (served_kept v line) ≡ true
unfolding served_kept
always_served v line = refl

-- a store that stands, stands after each line
command_stands : (s : ScriptValue) (n : ℕ) (c : AnyCommand) → is_some s.store ≡ true → is_some (script_done s n c).0.store ≡ true
command_stands s n c h = by s.store h
  where
    by : (o : Option OpenedValue) → is_some o ≡ true → is_some (option_map_or (λ opened. with_store s (command_done (Some opened) n c)) o (first_done s c)).0.store ≡ true
    by None h = absurd (cc h)
    by (Some opened) h = refl

done_stands : (s : ScriptValue) (r : Result Line Fault) → is_some s.store ≡ true → is_some (done_by s r).store ≡ true
done_stands s (Err fault) h = h
done_stands s (Ok Empty) h = h
done_stands s (Ok (Command session command)) h = command_stands s session command h

after_stands : (b : Bool) (s : ScriptValue) (line : List ℕ) → is_some s.store ≡ true → is_some (after b s line).store ≡ true
after_stands true s line h = done_stands s (kept_line s line) h
after_stands false s line h = h

pub store_left : (v : KeptValue) (line : List ℕ) (e : Effect KeptValue) → has_store v ≡ true → served_kept v line ≡ Ok e → has_store e.value ≡ true
store_left v line e stands h = ap (λ (s : ScriptValue). is_some s.store) (script_after v line e h) ∙ after_stands (v.keeps || not (would_change v line)) (script_of v) line stands

-- so which lines would change it stays the same
pub changes_left : (v : KeptValue) (line more : List ℕ) (e : Effect KeptValue) → has_store v ≡ true → served_kept v line ≡ Ok e → would_change e.value more ≡ would_change v more
changes_left v line more e stands h = ap (λ (b : Bool). is_changing (if is_mark_line more then Ok Empty else line_of KnownAndId b more)) (store_left v line e stands h ∙ sym stands)
