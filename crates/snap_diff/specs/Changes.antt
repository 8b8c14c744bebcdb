-- What a layer changes of what the layers below it show.
use Rattle.std.specs.Prelude.{ℕ, zero, suc, Bool, true, false, not, is_some, ◌==◌, ◌&&◌, nat_lt, if◌then◌else◌, List, [], ◌∷◌, ◌++◌, length, filter, take, codes, Option, Some, None}
use Rattle.std.specs.List.{flat_map, slice_get}
use Rattle.std.specs.declared.ops.Bound.{Bound}
use Rattle.std.specs.declared.ops.Bound.TheVariants.{Included, Unbounded}
use Rattle.std.specs.Ordering.{is_gt, is_lt}
use Rattle.std.specs.Str.{bytes_eq}
use Rattle.snap_path.specs.Text.{Names, begins}
use Rattle.snap_layer.specs.Equal.{meta_eq}
use Rattle.snap_layer.specs.declared.content.Content.{Content}
use Rattle.snap_layer.specs.declared.content.Content.TheVariants.{Bytes, Sized}
use Rattle.snap_layer.specs.Tree.{Tree, at, hides, node_hides, path_cmp}
use Rattle.snap_merge.specs.Objects.{Object, dir, file, symlink, seen}
use Rattle.snap_merge.specs.Listing.{names, put_names}
use Rattle.snap_diff.specs.declared.change.ChangeKind.{ChangeKind}
use Rattle.snap_diff.specs.declared.change.ChangeKind.TheVariants.{Added, Changed, Removed}
use Rattle.snap_diff.specs.declared.change.Change.{Change}

-- two known contents that are equal: the same bytes, or the same size and digest; nobody knows one without a digest
abbrev pub same_content : Content → Content → Bool
same_content (Bytes bytes) (Bytes others) = bytes_eq bytes others
same_content (Sized size (Some digest)) (Sized other (Some others)) = size == other && bytes_eq digest others
same_content content other = false

-- two directories with the same meta, two files with the same meta and content, or two symlinks with one target
abbrev pub same : Object → Object → Bool
same (dir meta) (dir other) = meta_eq meta other
same (file meta content) (file other others) = meta_eq meta other && same_content content others
same (symlink target) (symlink other) = bytes_eq target other
same object other = false

-- how what is seen differs from what the layers below show
abbrev pub change_at : Option Object → Option Object → Option ChangeKind
change_at None None = None
change_at None (Some new) = Some Added
change_at (Some old) None = Some Removed
change_at (Some old) (Some new) = if same old new then None else Some Changed

-- the layer has nothing at the path, and nothing that hides it
abbrev pub is_untouched : Tree → Names → Bool
is_untouched t p = not (is_some (at t p)) && not (hides t p)

-- what the layer changes at the path: nothing where it leaves it untouched, so that a lower layer's own object is seen
abbrev pub layer_change : Tree → List Tree → Names → Option ChangeKind
layer_change t ts p = if is_untouched t p then None else change_at (seen ts p) (seen (t ∷ ts) p)

-- the word of each kind
abbrev pub change_word : ChangeKind → List ℕ
change_word Added = codes "added"
change_word Changed = codes "changed"
change_word Removed = codes "removed"

-- the change at the path, if there is one
abbrev pub told_change : Names → Option ChangeKind → List Change
told_change p None = []
told_change p (Some kind) = record { kind = kind; path = p } ∷ []

-- the names in the directory at which something is seen or the layers below show something, each once and in byte order
abbrev pub both_names : List Tree → List Tree → Names → Names
both_names old new p = put_names (names old p) (put_names (names new p) [])

-- what is in a directory; in what is no directory nothing is told
abbrev pub if_directory : Option Object → List Change → List Change
if_directory (Some (dir meta)) changes = changes
if_directory other changes = []

-- the changes at the path and below it, at this number of names in a row at the most: a directory before what is in it
unfoldable pub changes_below : ℕ → Tree → List Tree → Names → List Change
changes_below zero t ts p = []
changes_below (suc n) t ts p =
    told_change p (layer_change t ts p)
    ++ if_directory (seen (t ∷ ts) p) (flat_map (λ name. changes_below n t ts (p ++ name ∷ [])) (both_names ts (t ∷ ts) p))

-- what the layer changes of what those below it show; a path has at most 2,047 names (PATH_MAX)
abbrev pub changes : Tree → List Tree → List Change
changes t ts = changes_below 2048 t ts []

-- the path comes after this one: paths are ordered name by name, and names by their bytes
abbrev pub is_after : Option Names → Names → Bool
is_after None p = true
is_after (Some after) p = is_lt (path_cmp after p)

-- of the changes after the path at most this number, the first
abbrev pub page : Option Names → ℕ → List Change → List Change
page after most changes = take most (filter (λ change. is_after after change.path) changes)

-- ---- what private clauses cite

-- the layer hides nothing of a directory at the path, which the layers below share
abbrev pub is_merged : Tree → Names → Bool
is_merged t p = not (node_hides (at t p)) && not (hides t p)

-- the page begins after the path and all below it
abbrev pub is_past : Option Names → Names → Bool
is_past None p = false
is_past (Some after) p = is_gt (path_cmp after p) && not (begins p after)

-- the names from here on, or all
abbrev pub bound_at : Option (List ℕ) → Bound (List ℕ)
bound_at None = Unbounded
bound_at (Some n) = Included n

-- where in the directory at the path the page begins: at the name there of the path that it begins after, if that is below
abbrev pub page_start : Option Names → Names → Bound (List ℕ)
page_start None p = Unbounded
page_start (Some after) p = if begins p after then bound_at (slice_get after (length p)) else Unbounded

-- the page with one change more, where it comes after the path and has room
abbrev pub put_row : ℕ → Option Names → List Change → Change → List Change
put_row most after rows change = if is_after after change.path && nat_lt (length rows) most then rows ++ change ∷ [] else rows

-- the same of several
abbrev pub put_rows : ℕ → Option Names → List Change → List Change → List Change
put_rows most after rows [] = rows
put_rows most after rows (change ∷ changes) = put_rows most after (put_row most after rows change) changes
