use Rattle.std.proofs.Common.{◌≡◌, IfOk, Some, sym, ap, subst, ◌∙◌}
use Rattle.std.specs.Map.{keys_of}
use Rattle.snap_layer.specs.declared.inode.Target.TheVariants.{Inode}
use Rattle.snap_layer.specs.Tree.{names_below}
use Rattle.snap_layer.specs.Layers.{IsLayer}
use Rattle.snap_layer.specs.Directory.{Directory}
use Rattle.snap_layer.specs.Rows.{items_from}
use Rattle.snap_layer.proofs.Dirs.{stood}
use Rattle.snap_layer.proofs.Listed.{names_are}
use Rattle.snap_layer.proofs.dir.Dir.children.Goals as goal

pub returns : goal.returns
returns c =
    let s = c.self.inside.slots.now in
    let u = c.self.inside.table.now in
    let p = c.self.inside.path.0 in
    let layer : IsLayer u = subst IsLayer c.table.view_is c.table.invariant.layer in
    let all : keys_of (items_from s (Some (Inode c.self.inside.key))) ≡ names_below p u.entries =
    names_are s c.self.inside.root c.self.invariant.0.there u
    (λ q. sym (stood s c.self.inside.root c.self.inside.key c.self.inside.tree c.self.inside.path u c.self.invariant.2 c.args.self.now c.self.view_is q))
    p (Some (Inode c.self.inside.key)) c.self.inside.path.1.0 layer.sorted_paths c.names_in.ensures.order
    in
    subst (λ ns. IfOk c.names_in.result (λ names. names.items ≡ ns)) (all ∙ ap (λ (d : Directory). names_below d.path d.layer.entries) c.self.view_is) c.names_in.ensures.names
