use Rattle.std.proofs.Common.{◌≡◌, Some, None, refl, sym, ap, ◌∙◌}
use Rattle.snap_layer.specs.contracts.node.Node as node_contracts
use Rattle.snap_layer.specs.declared.inode.Target.TheVariants.{Whiteout, Inode}
use Rattle.snap_layer.specs.declared.node.Node.TheVariants as node
use Rattle.snap_layer.specs.Tree.{IsDirAt}
use Rattle.snap_layer.specs.Walk.{entry_at, node_at}
use Rattle.snap_layer.proofs.Walking.{same_entries}
use Rattle.snap_layer.proofs.Dirs.{child_path, dir_at, not_none, entry_none, entry_leaf, entry_dir, entry_there}
use Rattle.snap_layer.proofs.dir.Dir.entry.Goals as goal

pub returns-in-None : goal.returns-in-None
returns-in-None c =
    let is : entry_at c.self.inside.slots.now c.self.inside.key c.args.name.now ≡ None = sym c.entry_at.ensures ∙ c.in-None.is in
    sym (entry_none c.self.inside.slots.now c.self.inside.root c.self.inside.key c.self.inside.tree c.self.inside.path c.self.inside.table.now c.self.invariant.2 c.args.self.now c.self.view_is c.args.name.now is)

pub unreachable-requires : goal.unreachable-requires
unreachable-requires c =
    let is : entry_at c.self.inside.slots.now c.self.inside.key c.args.name.now ≡ Some (Inode c.in-Some-Inode.key) = sym c.entry_at.ensures ∙ c.in-Some-Inode.is ∙ ap Some c.in-Some-Inode.field-0-is in
    not_none _ (entry_there c.self.inside.slots.now c.self.inside.root c.self.inside.key c.self.inside.tree c.self.inside.path c.self.inside.table.now c.self.invariant.2 c.args.self.now c.self.view_is c.args.name.now c.in-Some-Inode.key c.self.invariant.0 is) (sym c.node_of.ensures.node ∙ c.in_default.is)

pub returns-then-not-is_dir : goal.returns-then-not-is_dir
returns-then-not-is_dir c =
    let is : entry_at c.self.inside.slots.now c.self.inside.key c.args.name.now ≡ Some (Inode c.in-Some-Inode.key) = sym c.entry_at.ensures ∙ c.in-Some-Inode.is ∙ ap Some c.in-Some-Inode.field-0-is in
    sym (entry_leaf c.self.inside.slots.now c.self.inside.root c.self.inside.key c.self.inside.tree c.self.inside.path c.self.inside.table.now c.self.invariant.2 c.args.self.now c.self.view_is c.args.name.now (Inode c.in-Some-Inode.key) c.in-Some.node is (sym c.node_of.ensures.node ∙ c.in-Some.is) (sym c.is_dir.ensures ∙ c.if-not-is_dir.true))

pub invariant_of-dir-inside : goal.invariant_of-dir-inside
invariant_of-dir-inside c =
    let is : entry_at c.self.inside.slots.now c.self.inside.key c.args.name.now ≡ Some (Inode c.in-Some-Inode.key) = sym c.entry_at.ensures ∙ c.in-Some-Inode.is ∙ ap Some c.in-Some-Inode.field-0-is in
    let dir : IsDirAt (node_at c.self.inside.slots.now c.in-Some-Inode.key) = dir_at _ c.in-Some.node (sym c.node_of.ensures.node ∙ c.in-Some.is) (sym c.is_dir.ensures ∙ c.if-not-is_dir.false) in
    (c.self.inside.tree, (child_path c.self.inside.slots.now c.self.inside.root c.self.inside.key c.in-Some-Inode.key c.self.inside.path c.args.name.now c.self.invariant.0 is dir, tt))

pub invariant_of-dir : goal.invariant_of-dir
invariant_of-dir c = (
  c.self.invariant.0,
  dir_at _ c.in-Some.node (sym c.node_of.ensures.node ∙ c.in-Some.is) (sym c.is_dir.ensures ∙ c.if-not-is_dir.false),
  same_entries (node_contracts.the_row).coded c.self.inside.slots.now c.self.inside.root c.dir-1.given.0 c.self.inside.tree ∙ c.self.invariant.2,
)

pub returns-in-Some-Whiteout : goal.returns-in-Some-Whiteout
returns-in-Some-Whiteout c =
    let is : entry_at c.self.inside.slots.now c.self.inside.key c.args.name.now ≡ Some Whiteout = sym c.entry_at.ensures ∙ c.in-Some-Whiteout.is ∙ ap Some c.in-Some-Whiteout.field-0-is in
    sym (entry_leaf c.self.inside.slots.now c.self.inside.root c.self.inside.key c.self.inside.tree c.self.inside.path c.self.inside.table.now c.self.invariant.2 c.args.self.now c.self.view_is c.args.name.now Whiteout node.Whiteout is refl refl)

pub returns-else-not-is_dir : goal.returns-else-not-is_dir
returns-else-not-is_dir c =
    let is : entry_at c.self.inside.slots.now c.self.inside.key c.args.name.now ≡ Some (Inode c.in-Some-Inode.key) = sym c.entry_at.ensures ∙ c.in-Some-Inode.is ∙ ap Some c.in-Some-Inode.field-0-is in
    sym (entry_dir c.self.inside.slots.now c.self.inside.root c.self.inside.key c.self.inside.tree c.self.inside.path c.self.inside.table.now c.self.invariant.2 c.args.self.now c.self.view_is c.args.name.now c.in-Some-Inode.key c.in-Some.node c.dir-1.given.1.0 is (sym c.node_of.ensures.node ∙ c.in-Some.is) (sym c.is_dir.ensures ∙ c.if-not-is_dir.false))
