use Rattle.std.proofs.Common.{◌≡◌, ap, subst, sym, ◌∙◌}
use Rattle.std.specs.Map.{keys_of}
use Rattle.std.proofs.lemmas.Result.{IfOk-weaker}
use Rattle.snap_path.specs.Text.{Names}
use Rattle.snap_layer.specs.Tree.{Tree, IsDirAt, at}
use Rattle.snap_layer.specs.Edits.{inside}
use Rattle.snap_layer.specs.Layers.{IsLayer}
use Rattle.snap_layer.proofs.Kept.{dir_is_some}
use Rattle.snap_layer.proofs.Listed.{inside_root}
use Rattle.snap_layer.proofs.layer.Layer.paths.Goals as goal

pub paths_inside-requires : goal.paths_inside-requires
paths_inside-requires c =
    let t : Tree = c.self.inside.table in
    let ok : IsLayer t = c.self.invariant.1 in
    dir_is_some (at t c.root-root.result) (subst (λ (p : Names). IsDirAt (at t p)) (sym c.root-root.ensures) ok.root)

pub returns-clause-paths : goal.returns-clause-paths
returns-clause-paths c =
    let listed : keys_of (inside c.root-root.result c.self.inside.table.entries) ≡ keys_of c.args.self.now.entries =
    ap (λ (p : Names). keys_of (inside p c.self.inside.table.entries)) c.root-root.ensures
    ∙ ap keys_of (inside_root c.self.inside.table.entries)
    ∙ ap (λ (t : Tree). keys_of t.entries) c.self.view_is in
    IfOk-weaker c.paths_inside.result _ _ (λ paths is. is ∙ listed) c.paths_inside.ensures
