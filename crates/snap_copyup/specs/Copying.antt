-- What is copied up into the upper layer before it changes (overlayfs.rst, "Non-directories").
use Rattle.std.specs.Prelude.{Bool, false, not, ◌||◌, List, [], ◌∷◌, ◌++◌, Option, Some, None, is_some, if◌then◌else◌}
use Rattle.snap_path.specs.Text.{Names}
use Rattle.snap_layer.specs.declared.node.Node.{Node}
use Rattle.snap_layer.specs.declared.node.Node.TheVariants.{Dir, File, Symlink}
use Rattle.snap_layer.specs.declared.node.Body.{Body}
use Rattle.snap_layer.specs.declared.node.Body.TheVariants as body_kinds
use Rattle.snap_layer.specs.Tree.{Tree, at, hides}
use Rattle.snap_layer.specs.Edits.{with_entry, with_new}
use Rattle.snap_merge.specs.Objects.{Object, dir, file, symlink, seen, is_shown_dir}

-- what the lower layers show at the path, where the upper layer doesn't hide it
abbrev pub below : Tree → List Tree → Names → Option Object
below u lowers p = if hides u p then None else seen lowers p

-- the body of a file or a symlink
abbrev pub object_body : Option Object → Option Body
object_body None = None
object_body (Some (dir meta)) = None
object_body (Some (file meta content)) = Some (body_kinds.File meta content)
object_body (Some (symlink target)) = Some (body_kinds.Symlink target)

-- the node is a directory that is opaque, or there is no directory under it
abbrev pub is_pure_over : Option Node → Option Object → Bool
is_pure_over (Some (Dir meta opaque)) under = opaque || not (is_shown_dir under)
is_pure_over other under = false

-- the upper layer alone has the directory at the path: it is opaque, or no directory is below it (overlayfs.rst, "renaming directories")
abbrev pub is_pure : Tree → List Tree → Names → Bool
is_pure u lowers p = is_pure_over (at u p) (below u lowers p)

-- the layer with the object, if there is one: a directory that isn't opaque, or a file or symlink with the next number
abbrev pub with_object : Tree → Names → Option Object → Tree
with_object u p None = u
with_object u p (Some (dir meta)) = with_entry u p (Dir meta false)
with_object u p (Some (file meta content)) = with_new u p (File u.next) (body_kinds.File meta content)
with_object u p (Some (symlink target)) = with_new u p (Symlink u.next) (body_kinds.Symlink target)

-- the upper layer with what is below at the path, where it has no node there
abbrev pub copied : Tree → List Tree → Names → Tree
copied u lowers p = if is_some (at u p) then u else with_object u p (below u lowers p)

-- the upper layer with what is below at the front and at the longer proper prefixes of front ++ rest, where it has no node there
abbrev pub with_parents_from : Tree → List Tree → Names → Names → Tree
with_parents_from u lowers front [] = u
with_parents_from u lowers front (n ∷ rest) = with_parents_from (copied u lowers front) lowers (front ++ n ∷ []) rest

-- the upper layer with all directories above the path, each missing one with the meta of the one that is seen
abbrev pub with_parents : Tree → List Tree → Names → Tree
with_parents u lowers p = with_parents_from u lowers [] p

-- the upper layer with what is seen at the path, and with all directories above it
abbrev pub copied_up : Tree → List Tree → Names → Tree
copied_up u lowers p = copied (with_parents u lowers p) lowers p
