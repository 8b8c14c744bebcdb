use Rattle.std.proofs.Common.{None, Some, codes, inl, inr, ◌∙◌}
use Rattle.clap.proofs.WalkLemmas.{first_value-rows}
use Rattle.clap.specs.Words.{found_of, rows_of, subcommand_rows_of}
use Rattle.snap_replay.specs.Words.{IsAsked}
use Rattle.snap_replay.specs.declared.Task.TheVariants.{Run, Serve, Writers, Save, Check, Checkpoint, Diff}
use Rattle.snap_replay.proofs.Asking.{asked_task, asks_check, asks_checkpoint, asks_diff, asks_none, asks_run, asks_save, asks_serve, asks_writers, file_none, file_some, found_is}
use Rattle.snap_replay.proofs.chosen.Goals as goal

pub returns-in-run : goal.returns-in-run
returns-in-run c =
    let name = c.in_ok-name.name.now in
    let rows = rows_of (found_of c.in_ok-name.own.now) in
    let task = Some (Run c.run_options.result) in
    let asked : IsAsked (subcommand_rows_of c.args.matches.now) task = found_is c.args.matches.now name rows task c.in_ok-name.ensures.name c.in_ok-name.ensures.rows (rw c.run_options.ensures (asks_run name rows c.in-run.is)) in
    record { asked = asked; task = asked_task (subcommand_rows_of c.args.matches.now) task asked }

pub returns-in-serve : goal.returns-in-serve
returns-in-serve c =
    let name = c.in_ok-name.name.now in
    let rows = rows_of (found_of c.in_ok-name.own.now) in
    let task = Some (Serve c.get_str.result c.is_given.result c.times.result) in
    let asked : IsAsked (subcommand_rows_of c.args.matches.now) task = found_is c.args.matches.now name rows task c.in_ok-name.ensures.name c.in_ok-name.ensures.rows
    (asks_serve name rows task c.in-serve.is (c.get_str.ensures ∙ first_value-rows (found_of c.in_ok-name.own.now) (codes "log"), c.is_given.ensures, c.times.ensures)) in
    record { asked = asked; task = asked_task (subcommand_rows_of c.args.matches.now) task asked }

pub returns-in_default : goal.returns-in_default
returns-in_default c =
    let name = c.in_ok-name.name.now in
    let rows = rows_of (found_of c.in_ok-name.own.now) in
    let asked : IsAsked (subcommand_rows_of c.args.matches.now) None = found_is c.args.matches.now name rows None c.in_ok-name.ensures.name c.in_ok-name.ensures.rows (asks_none name rows c.in_default.not-run c.in_default.not-serve c.in_default.not-writers c.in_default.not-save c.in_default.not-check c.in_default.not-checkpoint c.in_default.not-diff) in
    record { asked = asked; task = asked_task (subcommand_rows_of c.args.matches.now) None asked }

pub returns-in_err-options-in-writers : goal.returns-in_err-options-in-writers
returns-in_err-options-in-writers c =
    let name = c.in_ok-name.name.now in
    let rows = rows_of (found_of c.in_ok-name.own.now) in
    let h = c.in_err-options-in-writers.ensures in
    let asked : IsAsked (subcommand_rows_of c.args.matches.now) None = found_is c.args.matches.now name rows None c.in_ok-name.ensures.name c.in_ok-name.ensures.rows (asks_writers name rows None c.in-writers.is (h.0, h.1.0, h.1.1)) in
    record { asked = rw c.from_residual-in_err-options-in-writers.ensures asked; task = rw c.from_residual-in_err-options-in-writers.ensures tt }

pub returns-in_ok-options-in-writers : goal.returns-in_ok-options-in-writers
returns-in_ok-options-in-writers c =
    let name = c.in_ok-name.name.now in
    let rows = rows_of (found_of c.in_ok-name.own.now) in
    let task = Some (Writers c.in_ok-options-in-writers.options) in
    let h = c.in_ok-options-in-writers.ensures in
    let asked : IsAsked (subcommand_rows_of c.args.matches.now) task = found_is c.args.matches.now name rows task c.in_ok-name.ensures.name c.in_ok-name.ensures.rows (asks_writers name rows task c.in-writers.is (h.0, h.1.0, h.1.1)) in
    record { asked = asked; task = asked_task (subcommand_rows_of c.args.matches.now) task asked }

pub returns-in_err-file-in-save : goal.returns-in_err-file-in-save
returns-in_err-file-in-save c =
    let name = c.in_ok-name.name.now in
    let rows = rows_of (found_of c.in_ok-name.own.now) in
    let none = file_none c.get_str-in-save.result _ (c.get_str-in-save.ensures ∙ first_value-rows (found_of c.in_ok-name.own.now) (codes "file")) c.in_err-file-in-save.was in
    let asked : IsAsked (subcommand_rows_of c.args.matches.now) None = found_is c.args.matches.now name rows None c.in_ok-name.ensures.name c.in_ok-name.ensures.rows (asks_save name rows None c.in-save.is none) in
    record { asked = rw c.from_residual-in_err-file-in-save.ensures asked; task = rw c.from_residual-in_err-file-in-save.ensures tt }

pub returns-in_ok-file-in-save : goal.returns-in_ok-file-in-save
returns-in_ok-file-in-save c =
    let name = c.in_ok-name.name.now in
    let rows = rows_of (found_of c.in_ok-name.own.now) in
    let task = Some (Save c.in_ok-file-in-save.file (record { root = c.get_str-in-save-2.result; namespace = c.get_str-in-save-3.result })) in
    let some = file_some c.get_str-in-save.result c.in_ok-file-in-save.file _ (c.get_str-in-save.ensures ∙ first_value-rows (found_of c.in_ok-name.own.now) (codes "file")) c.in_ok-file-in-save.was in
    let root = c.get_str-in-save-2.ensures ∙ first_value-rows (found_of c.in_ok-name.own.now) (codes "root") in
    let namespace = c.get_str-in-save-3.ensures ∙ first_value-rows (found_of c.in_ok-name.own.now) (codes "ns") in
    let asked : IsAsked (subcommand_rows_of c.args.matches.now) task = found_is c.args.matches.now name rows task c.in_ok-name.ensures.name c.in_ok-name.ensures.rows (asks_save name rows task c.in-save.is (some, root, namespace)) in
    record { asked = asked; task = asked_task (subcommand_rows_of c.args.matches.now) task asked }

pub returns-in_err-file-in-check : goal.returns-in_err-file-in-check
returns-in_err-file-in-check c =
    let name = c.in_ok-name.name.now in
    let rows = rows_of (found_of c.in_ok-name.own.now) in
    let none = file_none c.get_str-in-check.result _ (c.get_str-in-check.ensures ∙ first_value-rows (found_of c.in_ok-name.own.now) (codes "file")) c.in_err-file-in-check.was in
    let asked : IsAsked (subcommand_rows_of c.args.matches.now) None = found_is c.args.matches.now name rows None c.in_ok-name.ensures.name c.in_ok-name.ensures.rows (asks_check name rows None c.in-check.is none) in
    record { asked = rw c.from_residual-in_err-file-in-check.ensures asked; task = rw c.from_residual-in_err-file-in-check.ensures tt }

pub returns-in_ok-file-in-check : goal.returns-in_ok-file-in-check
returns-in_ok-file-in-check c =
    let name = c.in_ok-name.name.now in
    let rows = rows_of (found_of c.in_ok-name.own.now) in
    let task = Some (Check c.in_ok-file-in-check.file c.is_given-in-check.result) in
    let some = file_some c.get_str-in-check.result c.in_ok-file-in-check.file _ (c.get_str-in-check.ensures ∙ first_value-rows (found_of c.in_ok-name.own.now) (codes "file")) c.in_ok-file-in-check.was in
    let asked : IsAsked (subcommand_rows_of c.args.matches.now) task = found_is c.args.matches.now name rows task c.in_ok-name.ensures.name c.in_ok-name.ensures.rows (asks_check name rows task c.in-check.is (some, c.is_given-in-check.ensures)) in
    record { asked = asked; task = asked_task (subcommand_rows_of c.args.matches.now) task asked }

pub returns-in_err-file-in-checkpoint : goal.returns-in_err-file-in-checkpoint
returns-in_err-file-in-checkpoint c =
    let name = c.in_ok-name.name.now in
    let rows = rows_of (found_of c.in_ok-name.own.now) in
    let none = file_none c.get_str-in-checkpoint.result _ (c.get_str-in-checkpoint.ensures ∙ first_value-rows (found_of c.in_ok-name.own.now) (codes "file")) c.in_err-file-in-checkpoint.was in
    let asked : IsAsked (subcommand_rows_of c.args.matches.now) None = found_is c.args.matches.now name rows None c.in_ok-name.ensures.name c.in_ok-name.ensures.rows (asks_checkpoint name rows None c.in-checkpoint.is none) in
    record { asked = rw c.from_residual-in_err-file-in-checkpoint.ensures asked; task = rw c.from_residual-in_err-file-in-checkpoint.ensures tt }

pub returns-in_ok-file-in-checkpoint : goal.returns-in_ok-file-in-checkpoint
returns-in_ok-file-in-checkpoint c =
    let name = c.in_ok-name.name.now in
    let rows = rows_of (found_of c.in_ok-name.own.now) in
    let task = Some (Checkpoint c.in_ok-file-in-checkpoint.file) in
    let some = file_some c.get_str-in-checkpoint.result c.in_ok-file-in-checkpoint.file _ (c.get_str-in-checkpoint.ensures ∙ first_value-rows (found_of c.in_ok-name.own.now) (codes "file")) c.in_ok-file-in-checkpoint.was in
    let asked : IsAsked (subcommand_rows_of c.args.matches.now) task = found_is c.args.matches.now name rows task c.in_ok-name.ensures.name c.in_ok-name.ensures.rows (asks_checkpoint name rows task c.in-checkpoint.is some) in
    record { asked = asked; task = asked_task (subcommand_rows_of c.args.matches.now) task asked }

pub returns-in_err-a-in-diff : goal.returns-in_err-a-in-diff
returns-in_err-a-in-diff c =
    let name = c.in_ok-name.name.now in
    let rows = rows_of (found_of c.in_ok-name.own.now) in
    let none = file_none c.get_str-in-diff.result _ (c.get_str-in-diff.ensures ∙ first_value-rows (found_of c.in_ok-name.own.now) (codes "a")) c.in_err-a-in-diff.was in
    let asked : IsAsked (subcommand_rows_of c.args.matches.now) None = found_is c.args.matches.now name rows None c.in_ok-name.ensures.name c.in_ok-name.ensures.rows (asks_diff name rows None c.in-diff.is (inl none)) in
    record { asked = rw c.from_residual-in_err-a-in-diff.ensures asked; task = rw c.from_residual-in_err-a-in-diff.ensures tt }

pub returns-in_err-b-in-diff : goal.returns-in_err-b-in-diff
returns-in_err-b-in-diff c =
    let name = c.in_ok-name.name.now in
    let rows = rows_of (found_of c.in_ok-name.own.now) in
    let none = file_none c.get_str-in-diff-2.result _ (c.get_str-in-diff-2.ensures ∙ first_value-rows (found_of c.in_ok-name.own.now) (codes "b")) c.in_err-b-in-diff.was in
    let asked : IsAsked (subcommand_rows_of c.args.matches.now) None = found_is c.args.matches.now name rows None c.in_ok-name.ensures.name c.in_ok-name.ensures.rows (asks_diff name rows None c.in-diff.is (inr none)) in
    record { asked = rw c.from_residual-in_err-b-in-diff.ensures asked; task = rw c.from_residual-in_err-b-in-diff.ensures tt }

pub returns-in_ok-b-in-diff : goal.returns-in_ok-b-in-diff
returns-in_ok-b-in-diff c =
    let name = c.in_ok-name.name.now in
    let rows = rows_of (found_of c.in_ok-name.own.now) in
    let task = Some (Diff c.in_ok-a-in-diff.a c.in_ok-b-in-diff.b c.is_given-in-diff.result) in
    let first = file_some c.get_str-in-diff.result c.in_ok-a-in-diff.a _ (c.get_str-in-diff.ensures ∙ first_value-rows (found_of c.in_ok-name.own.now) (codes "a")) c.in_ok-a-in-diff.was in
    let second = file_some c.get_str-in-diff-2.result c.in_ok-b-in-diff.b _ (c.get_str-in-diff-2.ensures ∙ first_value-rows (found_of c.in_ok-name.own.now) (codes "b")) c.in_ok-b-in-diff.was in
    let asked : IsAsked (subcommand_rows_of c.args.matches.now) task = found_is c.args.matches.now name rows task c.in_ok-name.ensures.name c.in_ok-name.ensures.rows (asks_diff name rows task c.in-diff.is (first, second, c.is_given-in-diff.ensures)) in
    record { asked = asked; task = asked_task (subcommand_rows_of c.args.matches.now) task asked }
