-- What a stack of layers shows at a path (overlayfs.rst).
use Rattle.std.specs.Prelude.{ℕ, Bool, true, false, List, [], ◌∷◌, ◌++◌, Option, Some, None, if◌then◌else◌}
use Rattle.snap_path.specs.Text.{Names}
use Rattle.snap_layer.specs.declared.content.Content.{Content}
use Rattle.snap_layer.specs.declared.node.Meta.{Meta}
use Rattle.snap_layer.specs.declared.node.Node.{Node}
use Rattle.snap_layer.specs.declared.node.Node.TheVariants.{Dir, File, Symlink, Whiteout}
use Rattle.snap_layer.specs.declared.node.Body.{Body}
use Rattle.snap_layer.specs.declared.node.Body.TheVariants as body_kinds
use Rattle.snap_layer.specs.Tree.{Tree, at, body, hides}
use Rattle.snap_layer.specs.Layers.{IsLayer}
use Rattle.snap_merge.specs.declared.look.Seen.{Seen}
use Rattle.snap_merge.specs.declared.look.Seen.TheVariants as seen_kinds

-- a directory with its meta, a regular file with its meta and content, or a symlink with its target
pub data Object : Type 0 where
  dir : Meta → Object
  file : Meta → Content → Object
  symlink : List ℕ → Object

-- the object of what a call answers
abbrev pub object : Seen → Object
object (seen_kinds.Dir meta) = dir meta
object (seen_kinds.File meta content) = file meta content.now
object (seen_kinds.Symlink target) = symlink target.now

-- the object of a body, if there is one
abbrev pub shown_body : Option Body → Option Object
shown_body None = None
shown_body (Some (body_kinds.File meta content)) = Some (file meta content)
shown_body (Some (body_kinds.Symlink target)) = Some (symlink target)

-- what a layer's node shows; a whiteout shows nothing (overlayfs.rst, "whiteouts and opaque directories")
abbrev pub shown : Tree → Node → Option Object
shown t (Dir meta opaque) = Some (dir meta)
shown t (File number) = shown_body (body t number)
shown t (Symlink number) = shown_body (body t number)
shown t Whiteout = None

-- a layer's node at the path over what the layers below show there: the node hides it; without one the layer does where it hides the path
abbrev pub seen_over : Tree → Option Node → Names → Option Object → Option Object
seen_over t None p under = if hides t p then None else under
seen_over t (Some n) p under = shown t n

-- what the layers show at a path, the top one first (overlayfs.rst, "Upper and lower", "Multiple lower layers")
abbrev pub seen : List Tree → Names → Option Object
seen [] p = None
seen (t ∷ ts) p = seen_over t (at t p) p (seen ts p)

-- a directory is seen
abbrev pub is_shown_dir : Option Object → Bool
is_shown_dir (Some (dir meta)) = true
is_shown_dir other = false

-- the meta of a directory that isn't there
abbrev pub no_meta : Meta
no_meta = record { mode = 0 }

-- the meta of a directory that is seen
abbrev pub meta_of : Option Object → Meta
meta_of (Some (dir meta)) = meta
meta_of other = no_meta

-- the metas of what is seen at the front and the longer proper prefixes of front ++ rest
abbrev pub metas_from : List Tree → Names → Names → List Meta
metas_from s front [] = []
metas_from s front (n ∷ rest) = meta_of (seen s front) ∷ metas_from s (front ++ n ∷ []) rest

-- each of them is a layer
abbrev pub AreLayers : List Tree → Type 0
AreLayers [] = Unit {0}
AreLayers (t ∷ ts) = IsLayer t × AreLayers ts
