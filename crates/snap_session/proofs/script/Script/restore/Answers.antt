use Rattle.std.proofs.Common.{◌≡◌, None, Some, Ok, rules, sym, ap, ◌∙◌}
use Rattle.snap_checkpoint.specs.Lines.{line_put}
use Rattle.snap_session.specs.Opened.{ScriptValue}
use Rattle.snap_session.specs.Restoring.{restored_by}
use Rattle.snap_session.proofs.Restoring.{if_ok, restored_at_end}
use Rattle.snap_session.proofs.script.Script.restore.Goals as goal

pub returns-in-Ok-Some : goal.returns-in-Ok-Some
returns-in-Ok-Some g c =
    let none : c.self.inside.lost ≡ None = search rules in
    let line : c.args.line ≡ Ok c.in-Ok.line = search rules in
    let put : line_put c.self.inside.gathering c.in-Ok.line ≡ Ok (c.put.new.self, Some c.in-Ok-Some.saved) = search rules in
    if_ok c.open_saved.result
    (λ answer opened. ap (λ (s : ScriptValue). restored_by s c.args.line) (sym c.self.view_is) ∙ restored_at_end _ c.args.line c.in-Ok.line c.put.new.self c.in-Ok-Some.saved none line put ∙ opened)
    c.open_saved.ensures
