use Rattle.std.proofs.Common.{Err, sym, ap, subst, ◌∙◌}
use Rattle.snap_path.specs.Text.{is_path, path_names, IsPath}
use Rattle.snap_diff.proofs.Texts.{clash, is_read}
use Rattle.snap_diff.proofs.text.PathText.path.Goals as goal

pub unreachable-requires : goal.unreachable-requires
unreachable-requires c =
    let read = is_read c.args.self.now (subst IsPath c.self.view_is c.self.invariant.1) in
    clash (sym read.0 ∙ ap is_path (sym c.as_str.ensures) ∙ (c.in-Err-BadPath.ensures {u = tt}).bad.0 (ap Err c.in-Err-BadPath.field-0-is))

pub returns-in-Ok : goal.returns-in-Ok
returns-in-Ok c =
    c.in-Ok.ensures.ok.0 ∙ ap path_names c.as_str.ensures ∙ (is_read c.args.self.now (subst IsPath c.self.view_is c.self.invariant.1)).1
