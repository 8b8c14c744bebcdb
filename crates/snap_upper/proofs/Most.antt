-- An operation keeps the most inodes of a layer.
use Rattle.std.proofs.Common.{◌≡◌, Bool, true, false, List, Option, Some, None, is_some, refl, ◌∙◌}
use Rattle.snap_path.specs.Text.{Names}
use Rattle.snap_layer.specs.declared.node.Node.{Node}
use Rattle.snap_layer.specs.declared.node.Node.TheVariants.{Dir, File, Symlink, Whiteout}
use Rattle.snap_layer.specs.Tree.{Tree, at}
use Rattle.snap_layer.specs.Edits.{with_moved, with_opaque}
use Rattle.snap_layer.proofs.Moves.{most_moved}
use Rattle.snap_copyup.specs.Copying.{below, copied_up}
use Rattle.snap_copyup.proofs.Most.{most_copied_up, most_parents}
use Rattle.snap_upper.specs.After.{before_move, renamed, shifted}

pub most_before_move : (u : Tree) (ls : List Tree) (from to : Names) → (before_move u ls from to).most ≡ u.most
most_before_move u ls from to = most_parents (copied_up u ls from) ls to ∙ most_copied_up u ls from

most_opaque : (t : Tree) (p : Names) (o : Option Node) (opaque : Bool) → (with_opaque t p o opaque).most ≡ t.most
most_opaque t p None opaque = refl
most_opaque t p (Some (Dir meta old)) opaque = refl
most_opaque t p (Some (File number)) opaque = refl
most_opaque t p (Some (Symlink number)) opaque = refl
most_opaque t p (Some Whiteout) opaque = refl

pub most_shifted : (t : Tree) (from to : Names) (leaves covers : Bool) → (shifted t from to leaves covers).most ≡ t.most
most_shifted t from to leaves true = most_opaque (with_moved t from to leaves) to (at (with_moved t from to leaves) to) true ∙ most_moved t from to leaves
most_shifted t from to leaves false = most_moved t from to leaves

pub most_renamed : (u : Tree) (ls : List Tree) (from to : Names) → (renamed u ls from to).most ≡ u.most
most_renamed u ls from to = most_shifted (before_move u ls from to) from to (is_some (below u ls from)) (is_some (below u ls to)) ∙ most_before_move u ls from to
