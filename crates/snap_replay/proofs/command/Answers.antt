use Rattle.std.proofs.Common.{◌≡◌, ◌∙◌, codes, true, ap}
use Rattle.clap.specs.Simple.{App, app_of, app_of_fields, new_app}
use Rattle.snap_replay.specs.Program.{check_shape, checkpoint_shape, diff_shape, run_shape, save_shape, serve_shape, writers_shape}
use Rattle.snap_replay.proofs.Declaring.{adds_command}
use Rattle.snap_replay.proofs.command.Goals as goal

abbrev with_version : App → App
with_version app = record app { top = record app.top { has_version = true } }

abbrev with_required : App → App
with_required app = record app { top = record app.top { subcommand_required = true } }

pub returns : goal.returns
returns c =
    let about_is : app_of c.about.result ≡ new_app (codes "snap_replay") = ap app_of_fields c.about.ensures ∙ c.new.ensures.app in
    let version_is : app_of c.version.result ≡ with_version (new_app (codes "snap_replay")) = ap app_of_fields c.version.ensures ∙ ap with_version about_is in
    let required_is : app_of c.subcommand_required.result ≡ with_required (with_version (new_app (codes "snap_replay"))) = ap app_of_fields c.subcommand_required.ensures ∙ ap with_required version_is in
    let run = adds_command _ _ _ _ run_shape c.in_ok-subcommand.ensures c.in_ok-run_command.ensures.declared required_is in
    let serve = adds_command _ _ _ _ serve_shape c.in_ok-subcommand-2.ensures c.in_ok-serve_command.ensures.declared run in
    let writers = adds_command _ _ _ _ writers_shape c.in_ok-subcommand-3.ensures c.in_ok-writers_command.ensures.declared serve in
    let save = adds_command _ _ _ _ save_shape c.in_ok-subcommand-4.ensures c.in_ok-save_command.ensures.declared writers in
    let check = adds_command _ _ _ _ check_shape c.in_ok-subcommand-5.ensures c.in_ok-check_command.ensures.declared save in
    let checkpoint = adds_command _ _ _ _ checkpoint_shape c.in_ok-subcommand-6.ensures c.in_ok-checkpoint_command.ensures.declared check in
    record { declared = adds_command _ _ _ _ diff_shape c.in_ok-program.ensures c.in_ok-diff_command.ensures.declared checkpoint; refused = tt }
