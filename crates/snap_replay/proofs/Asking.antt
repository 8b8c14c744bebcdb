-- What clap's getters tell of the words, as definitions of what is asked for have it.
use Rattle.std.specs.Prelude.{◌^◌, if◌then◌else◌, ◌&&◌, nat_le, codes, unwrap_or, option_map, IfSome}
use Rattle.std.specs.Option.{option_map_or}
use Rattle.std.specs.Str.{bytes_eq}
use Rattle.std.specs.Str.Parse.{ExplainsUnsignedError, HasUnsignedDigitsIfOk, ParsesBool, ParsesUnsigned, true_text}
use Rattle.std.specs.declared.num.ParseIntError.{ParseIntError}
use Rattle.std.proofs.Common.{◌≡◌, ◌⊎◌, inl, inr, ℕ, ◌<◌, ◌≤◌, Bool, true, false, List, length, Option, None, Some, Result, refl, sym, ap, ap₂, ◌∙◌, subst, arith}
use Rattle.std.proofs.lemmas.Bool.Decides.{nat_tests}
use Rattle.std.proofs.lemmas.Slice.Eq.{bytes_eq-Decides}
use Rattle.clap.specs.Words.{ReadsOne, Row, Text, found_of, one_of, rows_of, subcommand_name_of, subcommand_rows, subcommand_rows_of}
use Rattle.clap.specs.declared.parser.matches.ArgMatches.{ArgMatches}
use Rattle.clap.specs.declared.parser.matches.SubCommand.{SubCommand}
use Rattle.std.specs.Borrow.{Bor}
use Rattle.std.specs.Box.{box_value}
use Rattle.std.specs.Prelude.{Box}
use Rattle.clap.specs.declared.parser.matches.ArgMatches.TheViews.{out-ArgMatches, out-SubCommand}
use Rattle.snap_script.specs.declared.unknown.FieldRule.{FieldRule}
use Rattle.snap_replay.specs.declared.Task.{Task}
use Rattle.snap_replay.specs.declared.Task.TheVariants.{Run, Serve, Writers, Save, Check, Checkpoint, Diff}
use Rattle.snap_replay.specs.Words.{IsAsked, IsAskedAs, IsAskedBy, IsCheckOf, IsCheckpointOf, IsDiffOf, IsNumberOf, IsSaveOf, IsServer, field_rule_of, is_given, job_options_of, run_options_of, writers_of}
use Rattle.snap_replay.specs.Tasks.{IsTask}

pub same_text : (a b : List ℕ) → a ≡ b → bytes_eq a b ≡ true
same_text a b same = (bytes_eq-Decides a b).1 same

pub other_text : (a b : List ℕ) → (a ≡ b → ⊥) → bytes_eq a b ≡ false
other_text a b other = by (bytes_eq a b) refl
  where
    by : (r : Bool) → bytes_eq a b ≡ r → bytes_eq a b ≡ false
    by true e = absurd (other ((bytes_eq-Decides a b).0 e))
    by false e = e

-- a flag's value is whether its text is "true"
pub read_flag : (E : Type 0) (text : Option Text) (r : Option Bool) → (text ≡ None → r ≡ None) → ((t : Text) → text ≡ Some t → ReadsOne {T = Bool} {E = E} ParsesBool t r) → unwrap_or r false ≡ option_map_or (λ t. bytes_eq t (codes "true")) text false
read_flag E None r none value = ap (λ (x : Option Bool). unwrap_or x false) (none refl)
read_flag E (Some t) r none value = by r (value t refl)
  where
    by : (r : Option Bool) → ReadsOne {T = Bool} {E = E} ParsesBool t r → unwrap_or r false ≡ bytes_eq t (codes "true")
    by (Some true) h = sym (same_text t true_text h)
    by (Some false) h = sym (other_text t true_text (λ e. let bad = ap (λ (l : List ℕ). length l) (sym h ∙ e) in absurd (omega (arith, bad))))
    by None (e, h) = sym (other_text t true_text h.0)

-- a number's is what its digits say
abbrev Parses : Text → Result ℕ ParseIntError → Type 0
Parses t r = ParsesUnsigned 32 10 t r × ExplainsUnsignedError 10 t r × HasUnsignedDigitsIfOk t r

pub read_number : (text : Option Text) (r : Option ℕ) → (text ≡ None → r ≡ None) → ((t : Text) → text ≡ Some t → ReadsOne Parses t r) → IsNumberOf text r
read_number None r none value = none refl
read_number (Some t) r none value = by r (value t refl)
  where
    by : (r : Option ℕ) → ReadsOne Parses t r → IsNumberOf (Some t) r
    by (Some n) h = (h.0.0.0, h.0.1, subst (λ k. k < 2 ^ 32) (sym h.0.1) h.0.0.1)
    by None (e, h) = λ a b. h.0 (a, b)

-- numbers from 1 to 16
pub outside : (w : ℕ) (rows : List Row) → (w < 1) ⊎ (16 < w) → writers_of (Some w) rows ≡ None
outside w rows (inl low) = let e : (nat_le 1 w && nat_le w 16) ≡ false = grind (arith, nat_tests) in ap (λ b. if b then Some (Writers (job_options_of w rows)) else None) e
outside w rows (inr high) = let e : (nat_le 1 w && nat_le w 16) ≡ false = grind (arith, nat_tests) in ap (λ b. if b then Some (Writers (job_options_of w rows)) else None) e

inside : (w : ℕ) (rows : List Row) → 1 ≤ w → w ≤ 16 → writers_of (Some w) rows ≡ Some (Writers (job_options_of w rows))
inside w rows low high = let e : (nat_le 1 w && nat_le w 16) ≡ true = grind (arith, nat_tests) in ap (λ b. if b then Some (Writers (job_options_of w rows)) else None) e

pub taken : (w : ℕ) (rows : List Row) (ends : Bool) (fields : FieldRule) → ends ≡ is_given (codes "ends") rows → fields ≡ field_rule_of rows → 1 ≤ w → w ≤ 16 → Some (Writers (record { workers = w; ends = ends; fields = fields })) ≡ writers_of (Some w) rows
taken w rows ends fields e f low high = rw (e, f) (sym (inside w rows low high))

-- ---- by the command's name

pub asks_run : (name : List ℕ) (rows : List Row) → name ≡ codes "run" → IsAskedBy name rows (Some (Run (run_options_of rows)))
asks_run name rows is = subst (λ (n : List ℕ). IsAskedBy n rows (Some (Run (run_options_of rows)))) (sym is) refl

pub asks_serve : (name : List ℕ) (rows : List Row) (task : Option Task) → name ≡ codes "serve" → IsServer rows task → IsAskedBy name rows task
asks_serve name rows task is asked = subst (λ (n : List ℕ). IsAskedBy n rows task) (sym is) asked

pub asks_writers : (name : List ℕ) (rows : List Row) (task : Option Task) → name ≡ codes "writers" → ((number : Option ℕ) × IsNumberOf (one_of (codes "workers") rows) number × (task ≡ writers_of number rows)) → IsAskedBy name rows task
asks_writers name rows task is asked = subst (λ (n : List ℕ). IsAskedBy n rows task) (sym is) asked

pub asks_save : (name : List ℕ) (rows : List Row) (task : Option Task) → name ≡ codes "save" → IsSaveOf rows task → IsAskedBy name rows task
asks_save name rows task is asked = subst (λ (n : List ℕ). IsAskedBy n rows task) (sym is) asked

pub asks_check : (name : List ℕ) (rows : List Row) (task : Option Task) → name ≡ codes "check" → IsCheckOf rows task → IsAskedBy name rows task
asks_check name rows task is asked = subst (λ (n : List ℕ). IsAskedBy n rows task) (sym is) asked

pub asks_checkpoint : (name : List ℕ) (rows : List Row) (task : Option Task) → name ≡ codes "checkpoint" → IsCheckpointOf rows task → IsAskedBy name rows task
asks_checkpoint name rows task is asked = subst (λ (n : List ℕ). IsAskedBy n rows task) (sym is) asked

pub asks_diff : (name : List ℕ) (rows : List Row) (task : Option Task) → name ≡ codes "diff" → IsDiffOf rows task → IsAskedBy name rows task
asks_diff name rows task is asked = subst (λ (n : List ℕ). IsAskedBy n rows task) (sym is) asked

pub asks_none : (name : List ℕ) (rows : List Row) → (name ≡ codes "run" → ⊥) → (name ≡ codes "serve" → ⊥) → (name ≡ codes "writers" → ⊥) → (name ≡ codes "save" → ⊥) → (name ≡ codes "check" → ⊥) → (name ≡ codes "checkpoint" → ⊥) → (name ≡ codes "diff" → ⊥) → IsAskedBy name rows None
asks_none name rows a b c d e f g =
    subst (λ x. IsAskedAs x (bytes_eq name (codes "serve")) (bytes_eq name (codes "writers")) (bytes_eq name (codes "save")) (bytes_eq name (codes "check")) (bytes_eq name (codes "checkpoint")) (bytes_eq name (codes "diff")) rows None) (sym (other_text name (codes "run") a))
    (subst (λ x. IsAskedAs false x (bytes_eq name (codes "writers")) (bytes_eq name (codes "save")) (bytes_eq name (codes "check")) (bytes_eq name (codes "checkpoint")) (bytes_eq name (codes "diff")) rows None) (sym (other_text name (codes "serve") b))
    (subst (λ x. IsAskedAs false false x (bytes_eq name (codes "save")) (bytes_eq name (codes "check")) (bytes_eq name (codes "checkpoint")) (bytes_eq name (codes "diff")) rows None) (sym (other_text name (codes "writers") c))
    (subst (λ x. IsAskedAs false false false x (bytes_eq name (codes "check")) (bytes_eq name (codes "checkpoint")) (bytes_eq name (codes "diff")) rows None) (sym (other_text name (codes "save") d))
    (subst (λ x. IsAskedAs false false false false x (bytes_eq name (codes "checkpoint")) (bytes_eq name (codes "diff")) rows None) (sym (other_text name (codes "check") e))
    (subst (λ x. IsAskedAs false false false false false x (bytes_eq name (codes "diff")) rows None) (sym (other_text name (codes "checkpoint") f))
    (subst (λ x. IsAskedAs false false false false false false x rows None) (sym (other_text name (codes "diff") g)) refl))))))

-- the file that was found
pub file_none : (name : Option (Bor Text)) (first : Option Text) → option_map (λ n. n.now) name ≡ first → name ≡ None → first ≡ None
file_none name first is none = sym is ∙ ap (option_map (λ n. n.now)) none

pub file_some : (name : Option (Bor Text)) (file : Bor Text) (first : Option Text) → option_map (λ n. n.now) name ≡ first → name ≡ Some file → first ≡ Some file.now
file_some name file first is some = sym is ∙ ap (option_map (λ n. n.now)) some

-- ---- the command that was found

abbrev both : Text → List Row → Option (Text × List Row)
both name rows = Some (name, rows)

module _ {Z : Type 0} where
  abbrev name_in : Box SubCommand Z → Text
  name_in b = (out-SubCommand (box_value b)).name.now

  abbrev rows_in : Box SubCommand Z → List Row
  rows_in b = rows_of (found_of (out-SubCommand (box_value b)).matches)

  found_in : (o : Option (Box SubCommand Z)) (name : Text) (rows : List Row) → Some name ≡ option_map name_in o → Some rows ≡ option_map (λ (p : Text × List Row). p.1) (subcommand_rows o) → subcommand_rows o ≡ both name rows
  found_in None name rows a b = let bad : Some name ≡ None = a in absurd (cc)
  found_in (Some x) name rows a b =
      let a' : Some name ≡ Some (name_in x) = a in
      let b' : Some rows ≡ Some (rows_in x) = b in
      let one : name_in x ≡ name = cc in
      let two : rows_in x ≡ rows = cc in
      ap₂ both one two

pub found_is : (m : ArgMatches) (name : Text) (rows : List Row) (task : Option Task) → Some name ≡ subcommand_name_of m → Some rows ≡ option_map (λ (p : Text × List Row). p.1) (subcommand_rows_of m) → IsAskedBy name rows task → IsAsked (subcommand_rows_of m) task
found_is m name rows task a b asked = subst (λ (o : Option (Text × List Row)). IsAsked o task) (sym (found_in (out-ArgMatches m).subcommand name rows a b)) asked

-- ---- a task has 1 to 16 workers

writers_task : (number : Option ℕ) (rows : List Row) → IfSome (writers_of number rows) IsTask
writers_task None rows = tt
writers_task (Some w) rows = by (nat_le 1 w && nat_le w 16) refl
  where
    by : (b : Bool) → (nat_le 1 w && nat_le w 16) ≡ b → IfSome (if b then Some (Writers (job_options_of w rows)) else None) IsTask
    by true e = let low : 1 ≤ w = grind (arith, nat_tests) in let high : w ≤ 16 = grind (arith, nat_tests) in (low, high)
    by false e = tt

task_as : (a b c d e f g : Bool) (rows : List Row) (task : Option Task) → IsAskedAs a b c d e f g rows task → IfSome task IsTask
task_as true b c d e f g rows task h = subst (λ t. IfSome t IsTask) (sym h) tt
task_as false true c d e f g rows (Some (Serve log rebases times)) h = tt
task_as false true c d e f g rows (Some (Run options)) h = absurd h
task_as false true c d e f g rows (Some (Writers options)) h = absurd h
task_as false true c d e f g rows (Some (Save file wanted)) h = absurd h
task_as false true c d e f g rows (Some (Check file json)) h = absurd h
task_as false true c d e f g rows (Some (Checkpoint file)) h = absurd h
task_as false true c d e f g rows (Some (Diff one other json)) h = absurd h
task_as false true c d e f g rows None h = absurd h
task_as false false true d e f g rows task h = subst (λ t. IfSome t IsTask) (sym h.2) (writers_task h.0 rows)
task_as false false false true e f g rows (Some (Save file wanted)) h = tt
task_as false false false true e f g rows (Some (Run options)) h = absurd h
task_as false false false true e f g rows (Some (Serve log rebases times)) h = absurd h
task_as false false false true e f g rows (Some (Writers options)) h = absurd h
task_as false false false true e f g rows (Some (Check file json)) h = absurd h
task_as false false false true e f g rows (Some (Checkpoint file)) h = absurd h
task_as false false false true e f g rows (Some (Diff one other json)) h = absurd h
task_as false false false true e f g rows None h = tt
task_as false false false false true f g rows (Some (Check file json)) h = tt
task_as false false false false true f g rows (Some (Run options)) h = absurd h
task_as false false false false true f g rows (Some (Serve log rebases times)) h = absurd h
task_as false false false false true f g rows (Some (Writers options)) h = absurd h
task_as false false false false true f g rows (Some (Save file wanted)) h = absurd h
task_as false false false false true f g rows (Some (Checkpoint file)) h = absurd h
task_as false false false false true f g rows (Some (Diff one other json)) h = absurd h
task_as false false false false true f g rows None h = tt
task_as false false false false false true g rows (Some (Checkpoint file)) h = tt
task_as false false false false false true g rows (Some (Run options)) h = absurd h
task_as false false false false false true g rows (Some (Serve log rebases times)) h = absurd h
task_as false false false false false true g rows (Some (Writers options)) h = absurd h
task_as false false false false false true g rows (Some (Save file wanted)) h = absurd h
task_as false false false false false true g rows (Some (Check file json)) h = absurd h
task_as false false false false false true g rows (Some (Diff one other json)) h = absurd h
task_as false false false false false true g rows None h = tt
task_as false false false false false false true rows (Some (Diff one other json)) h = tt
task_as false false false false false false true rows (Some (Run options)) h = absurd h
task_as false false false false false false true rows (Some (Serve log rebases times)) h = absurd h
task_as false false false false false false true rows (Some (Writers options)) h = absurd h
task_as false false false false false false true rows (Some (Save file wanted)) h = absurd h
task_as false false false false false false true rows (Some (Check file json)) h = absurd h
task_as false false false false false false true rows (Some (Checkpoint file)) h = absurd h
task_as false false false false false false true rows None h = tt
task_as false false false false false false false rows task h = subst (λ t. IfSome t IsTask) (sym h) tt

pub asked_task : (found : Option (Text × List Row)) (task : Option Task) → IsAsked found task → IfSome task IsTask
asked_task None task h = subst (λ t. IfSome t IsTask) (sym h) tt
asked_task (Some found) task h = task_as (bytes_eq found.0 (codes "run")) (bytes_eq found.0 (codes "serve")) (bytes_eq found.0 (codes "writers")) (bytes_eq found.0 (codes "save")) (bytes_eq found.0 (codes "check")) (bytes_eq found.0 (codes "checkpoint")) (bytes_eq found.0 (codes "diff")) found.1 task h
