-- A command that doesn't change a store leaves it.
use Rattle.std.proofs.Common.{◌≡◌, ℕ, Bool, true, false, Option, None, Some, Result, Ok, Err, refl, sym, ap, ◌∙◌, arith}
use Rattle.std.proofs.lemmas.Bool.Decides.{nat_tests}
use Rattle.std.specs.Prelude.{◌&&◌, IfOk, OnOk, is_none, nat_le, nat_lt, if◌then◌else◌}
use Rattle.std.specs.Option.{option_map, option_map_or, option_or}
use Rattle.snap_path.specs.declared.memory.NoMemory.{NoMemory}
use Rattle.snap_call.specs.declared.config.Config.{Config}
use Rattle.snap_call.specs.declared.config.ConfigField.{ConfigField}
use Rattle.snap_call.specs.declared.reply.Reply.TheVariants as replies
use Rattle.snap_call.specs.Forms.{bad_field}
use Rattle.snap_world.specs.World.{WorldValue}
use Rattle.snap_world.specs.declared.step.Answer.{Answer as StepAnswer}
use Rattle.snap_world.specs.Move.{is_full}
use Rattle.snap_script.specs.declared.answer.Answer.{Answer}
use Rattle.snap_script.specs.declared.answer.Answer.TheVariants as answers
use Rattle.snap_script.specs.declared.command.Command.{Command}
use Rattle.snap_script.specs.declared.command.Command.TheVariants as commands
use Rattle.snap_script.specs.Changes.{changes_store, opens_store}
use Rattle.snap_world.specs.Restored.{SavedWorldValue}
use Rattle.snap_world.specs.declared.fault.RestoreFault.{RestoreFault}
use Rattle.snap_pieces.specs.declared.field.LineField.{LineField}
use Rattle.snap_pieces.specs.declared.line.Line.{Line}
use Rattle.snap_checkpoint.specs.Lines.{LineGatheringValue, line_put}
use Rattle.snap_checkpoint.specs.declared.fault.StoreFault.{StoreFault}
use Rattle.snap_script.specs.declared.restore.RestoreRefusal.{RestoreRefusal}
use Rattle.snap_script.specs.declared.restore.RestoreRefusal.TheVariants.{Misplaced}
use Rattle.snap_session.specs.Opened.{OpenedValue, ScriptValue, new_world}
use Rattle.snap_session.specs.Commands.{answer_of_step, command_done, is_started, started, store_begun, store_opened}
use Rattle.snap_session.specs.Restoring.{begun_again, line_given, line_taken, restored_by, store_restored}
use Rattle.snap_session.specs.Script.{first_done, opened_by, script_done, with_store}

-- the store of a first session that isn't opened
unstarted : (x : WorldValue × StepAnswer) → is_started x.1 ≡ false → (started x).0 ≡ None
unstarted x h =
    ap (λ (t : Bool). let z : Option OpenedValue × Answer = if t then (Some (record { world = x.0 }), answers.Reply replies.Done) else (None, answer_of_step 0 0 x.0 x.1) in z.0) h

refused : (b : Bool) (x y : WorldValue × StepAnswer) → b ≡ true → is_started x.1 ≡ false → (started (if b then x else y)).0 ≡ None
refused true x y h k = unstarted x k
refused false x y h k = absurd (cc h)

no_room : (n : ℕ) → nat_le 1 n ≡ false → nat_lt n 1 ≡ true
no_room n h = grind (arith, nat_tests)

-- a journal without room for an entry
none_begun : (c : Config) → nat_le 1 c.journal ≡ false → (store_begun c).0 ≡ None
none_begun c h = refused (is_full (new_world c) 1) _ _ (no_room c.journal h) refl

malformed_or_full : (found : Option ConfigField) (c : Config) → (is_none found && nat_le 1 c.journal) ≡ false → (option_map_or (λ field. (None, answers.BadConfig field)) found (store_begun c)).0 ≡ None
malformed_or_full (Some field) c h = refl
malformed_or_full None c h = none_begun c h

not_opened : (c : Config) → opens_store c ≡ false → (store_opened c).0 ≡ None
not_opened c h = malformed_or_full (bad_field c) c h

-- a line of a saved store doesn't spend the name
taken_spends : (s : ScriptValue) (r : Result (Option LineGatheringValue × Option SavedWorldValue) StoreFault) → (line_taken s r).0.spent ≡ s.spent
taken_spends s (Err fault) = refl
taken_spends s (Ok (gathered, None)) = refl
taken_spends s (Ok (gathered, Some saved)) = by (begun_again saved)
  where
    by : (r : Result (OpenedValue × Answer) RestoreFault) → (store_restored (record s { gathered = gathered }) r).0.spent ≡ s.spent
    by (Ok begun) = refl
    by (Err fault) = refl

restored_spends : (s : ScriptValue) (line : Result Line LineField) → (restored_by s line).0.spent ≡ s.spent
restored_spends s line = by s.lost line
  where
    by : (o : Option RestoreRefusal) (l : Result Line LineField) → (option_map_or (λ why. (s, answers.BadRestore why)) o (line_given s l)).0.spent ≡ s.spent
    by (Some why) l = refl
    by None (Ok l) = taken_spends s (line_put s.gathered l)
    by None (Err field) = refl

-- the store after it
pub asked : (store : Option OpenedValue) (n : ℕ) (command : Command) → changes_store command ≡ false → (command_done store n command).0 ≡ store
asked None n (commands.Open config) h = not_opened config h
asked None n command h = refl
asked (Some s) n (commands.Open config) h = refl
asked (Some s) n (commands.Ask question) h = refl
asked (Some s) n (commands.Lookup namespace key lookup path peek) h = refl
asked (Some s) n (commands.TrySweep namespace moment) h = refl
asked (Some s) n (commands.ChainUsage namespace key) h = refl
asked (Some s) n (commands.Quota namespace) h = refl
asked (Some s) n (commands.Leases namespace lease) h = refl
asked (Some s) n (commands.Tree namespace page) h = refl
asked (Some s) n (commands.Diff namespace key after most) h = refl
asked (Some s) n (commands.Journal namespace after most full) h = refl
asked (Some s) n commands.Report h = refl
asked (Some s) n (commands.Save after most) h = refl
asked (Some s) n command h = absurd (cc h)

-- a script with the store that it has
same_store : (s : ScriptValue) (store : Option OpenedValue) → s.store ≡ store → record s { store = store } ≡ s
same_store s store is = ap (λ (o : Option OpenedValue). let z : ScriptValue = record s { store = o } in z) (sym is)

-- an open that opens none
unopened_by : (s : ScriptValue) (config : Config) → s.store ≡ None → opens_store config ≡ false → (opened_by s config).0 ≡ s
unopened_by s config none h = by (option_or s.lost (option_map (λ g. Misplaced) s.gathered))
  where
    by : (o : Option RestoreRefusal) → (option_map_or (λ why. (s, answers.BadRestore why)) o (with_store s (store_opened config))).0 ≡ s
    by (Some why) = refl
    by None = ap (λ (o : Option OpenedValue). let z : ScriptValue = record s { store = o } in z) (not_opened config h) ∙ same_store s None none

first_asked : (s : ScriptValue) (command : Command) → s.store ≡ None → changes_store command ≡ false → (first_done s command).0 ≡ s
first_asked s (commands.Open config) none h = unopened_by s config none h
first_asked s (commands.Restore line) none h = absurd (cc h)
first_asked s command none h = refl

-- the script after it
pub script_asked : (s : ScriptValue) (n : ℕ) (command : Command) → changes_store command ≡ false → (script_done s n command).0 ≡ s
script_asked s n command h = by s.store refl
  where
    by : (o : Option OpenedValue) → s.store ≡ o → (option_map_or (λ opened. with_store s (command_done (Some opened) n command)) o (first_done s command)).0 ≡ s
    by None is = first_asked s command is h
    by (Some opened) is = ap (λ (o : Option OpenedValue). let z : ScriptValue = record s { store = o } in z) (asked (Some opened) n command h) ∙ same_store s (Some opened) is

-- the same of what a command has made of it
pub left_by : (before after : ScriptValue) (n : ℕ) (command : Command) (answer : Answer) → script_done before n command ≡ (after, answer) → changes_store command ≡ false → after ≡ before
left_by before after n command answer done h = sym (ap (λ (p : ScriptValue × Answer). p.0) done) ∙ script_asked before n command h

pub left_in : (r : Result Answer NoMemory) (before after : ScriptValue) (n : ℕ) (command : Command) → IfOk r (λ answer. script_done before n command ≡ (after, answer))
    → IfOk r (λ answer. changes_store command ≡ false → after ≡ before)
left_in (Ok answer) before after n command done = left_by before after n command answer done
left_in (Err want) before after n command done = tt

-- no command spends the name
first_spends : (s : ScriptValue) (command : Command) → (first_done s command).0.spent ≡ s.spent
first_spends s (commands.Open config) = by (option_or s.lost (option_map (λ g. Misplaced) s.gathered))
  where
    by : (o : Option RestoreRefusal) → (option_map_or (λ why. (s, answers.BadRestore why)) o (with_store s (store_opened config))).0.spent ≡ s.spent
    by (Some why) = refl
    by None = refl
first_spends s (commands.Restore line) = restored_spends s line
first_spends s command = refl

pub script_spends : (s : ScriptValue) (n : ℕ) (command : Command) → (script_done s n command).0.spent ≡ s.spent
script_spends s n command = by s.store
  where
    by : (o : Option OpenedValue) → (option_map_or (λ opened. with_store s (command_done (Some opened) n command)) o (first_done s command)).0.spent ≡ s.spent
    by None = first_spends s command
    by (Some opened) = refl

pub spent_in : (r : Result Answer NoMemory) (before after : ScriptValue) (n : ℕ) (command : Command) → IfOk r (λ answer. script_done before n command ≡ (after, answer)) → OnOk r (after.spent ≡ before.spent)
spent_in (Ok answer) before after n command done = sym (ap (λ (p : ScriptValue × Answer). p.0.spent) done) ∙ script_spends before n command
spent_in (Err want) before after n command done = tt
