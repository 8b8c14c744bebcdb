-- The layer that parts make, or the first of them that no layer has there.
use Rattle.std.specs.Prelude.{ℕ, ◌+◌, Bool, false, not, ◌||◌, ◌==◌, nat_lt, if◌then◌else◌, List, [], ◌∷◌, map, Option, Some, None, is_some, Result, Ok, Err}
use Rattle.std.specs.Option.{option_map_or}
use Rattle.std.specs.Ordering.{is_le}
use Rattle.snap_path.specs.Text.{Names, parent_of}
use Rattle.snap_layer.specs.declared.node.Meta.{Meta}
use Rattle.snap_layer.specs.declared.node.Node.TheVariants.{Dir, Whiteout}
use Rattle.snap_layer.specs.declared.node.Body.{Body}
use Rattle.snap_layer.specs.Tree.{Tree, path_cmp, at, is_dir, leaf_node}
use Rattle.snap_layer.specs.Counts.{is_within, most_inodes}
use Rattle.snap_layer.specs.Edits.{with_body, with_entry, with_next}
use Rattle.snap_saved.specs.declared.dir.SavedDir.{SavedDir}
use Rattle.snap_saved.specs.declared.error.Fault.{Fault}
use Rattle.snap_saved.specs.declared.error.Fault.TheVariants as faults
use Rattle.snap_saved.specs.declared.error.Part.{Part}
use Rattle.snap_saved.specs.declared.error.Part.TheVariants as parts
use Rattle.snap_saved.specs.declared.error.RestoreError.{RestoreError}
use Rattle.snap_saved.specs.declared.error.RestoreError.TheVariants.{Malformed}
use Rattle.snap_saved.specs.Values.{SavedFileValue, SavedValue}
use Rattle.snap_saved.specs.Saved.{dir_path}
use Rattle.snap_saved.specs.Limits.{is_body, is_meta}

-- what follows a layer; an error ends
infixl 10 ◌followed_by◌
abbrev pub ◌followed_by◌ : Result Tree RestoreError → (Tree → Result Tree RestoreError) → Result Tree RestoreError
(Ok t) followed_by put = put t
(Err e) followed_by put = Err e

-- ---- tests

-- the fault, where the test holds
abbrev pub fault_if : Bool → Fault → Option Fault
fault_if holds fault = if holds then Some fault else None

-- the layer, or the first of the part's faults
abbrev pub unless_fault : Part → List (Option Fault) → Tree → Result Tree RestoreError
unless_fault part [] t = Ok t
unless_fault part (None ∷ later) t = unless_fault part later t
unless_fault part (Some fault ∷ later) t = Err (Malformed part fault)

-- the path isn't the root, and its parent is a directory of the layer
abbrev pub has_parent : Tree → Names → Bool
has_parent t p = option_map_or (λ front. option_map_or is_dir (at t front) false) (parent_of p) false

-- what keeps something from being put at the path
abbrev pub obstacle : Tree → Names → Option Fault
obstacle t p = if is_some (at t p) then Some faults.Occupied else fault_if (not (has_parent t p)) faults.NoParent

-- the place of the first of the paths that doesn't come after the one before it; the first of them stands at the place
unfoldable pub unsorted_from : ℕ → Names → List Names → Option ℕ
unsorted_from place before [] = None
unsorted_from place before (p ∷ ps) = if is_le (path_cmp p before) then Some place else unsorted_from (place + 1) p ps

-- the same of a whole list
abbrev pub unsorted : List Names → Option ℕ
unsorted [] = None
unsorted (p ∷ ps) = unsorted_from 1 p ps

-- the layer, or the first part whose path doesn't come after the one before it
abbrev pub in_order : (ℕ → Part) → List Names → Tree → Result Tree RestoreError
in_order part ps t = option_map_or (λ place. Err (Malformed (part place) faults.NotInOrder)) (unsorted ps) (Ok t)

-- the layer with the parts of a list one after another, of which the first stands at the place
unfoldable pub put_each : {X : Type 0} → (ℕ → Tree → X → Result Tree RestoreError) → ℕ → Tree → List X → Result Tree RestoreError
put_each put place t [] = Ok t
put_each put place t (x ∷ xs) = put place t x followed_by λ next. put_each put (place + 1) next xs

-- ---- the parts, each put, or the first that can't be

-- the layer of the root alone
abbrev pub root_of : Meta → Bool → ℕ → Tree
root_of meta opaque most = record { entries = ([], Dir meta opaque) ∷ []; bodies = []; next = 1; most = most }

-- the same, where its mode is one and it may have as many inodes
abbrev pub put_root : Meta → Bool → ℕ → Result Tree RestoreError
put_root meta opaque most =
    unless_fault parts.Root (fault_if (not (is_meta meta)) faults.BadMode ∷ []) (root_of meta opaque most) followed_by λ root.
    unless_fault parts.Most (fault_if (most == 0 || nat_lt most_inodes most) faults.BadMost ∷ []) root

-- the layer with a directory
abbrev pub put_dir : Part → Tree → SavedDir → Result Tree RestoreError
put_dir part t d =
    let next = with_entry t d.path (Dir d.meta d.opaque) in
    unless_fault part (fault_if (not (is_meta d.meta)) faults.BadMode ∷ obstacle t d.path ∷ fault_if (not (is_within next)) faults.Full ∷ []) next

-- the layer with all directories
abbrev pub put_dirs : Tree → List SavedDir → Result Tree RestoreError
put_dirs t ds = in_order parts.Dir (map dir_path ds) t followed_by λ sorted. put_each (λ place. put_dir (parts.Dir place)) 0 sorted ds

-- the layer with a whiteout
abbrev pub put_whiteout : Part → Tree → Names → Result Tree RestoreError
put_whiteout part t p =
    let next = with_entry t p Whiteout in
    unless_fault part (obstacle t p ∷ fault_if (not (is_within next)) faults.Full ∷ []) next

-- the layer with all whiteouts
abbrev pub put_whiteouts : Tree → List Names → Result Tree RestoreError
put_whiteouts t ps = in_order parts.Whiteout ps t followed_by λ sorted. put_each (λ place. put_whiteout (parts.Whiteout place)) 0 sorted ps

-- the layer with a new file or symlink under the number, at its first name
abbrev pub with_first : ℕ → Body → Tree → Names → Tree
with_first k b t p = with_next (with_body (with_entry t p (leaf_node k b)) k b) (k + 1)

-- the same, where its number is free and it is within its limits
abbrev pub put_first : Part → ℕ → Body → Tree → Names → Result Tree RestoreError
put_first part k b t p =
    let next = with_first k b t p in
    unless_fault part (fault_if (nat_lt k t.next) faults.BadNumber ∷ fault_if (not (is_body b)) faults.BadBody ∷ obstacle t p ∷ fault_if (not (is_within next)) faults.Full ∷ []) next

-- the layer with one more name of the file or symlink
abbrev pub put_name : Part → ℕ → Body → Tree → Names → Result Tree RestoreError
put_name part k b t p = unless_fault part (obstacle t p ∷ []) (with_entry t p (leaf_node k b))

-- the layer with all names of the file or symlink but its first, which are counted from 1
abbrev pub put_other_names : (file : ℕ) → ℕ → Body → Tree → List Names → Result Tree RestoreError
put_other_names file k b = put_each (λ place. put_name (parts.Name file place) k b) 1

-- the layer with a file or symlink that has these names
abbrev pub put_named : (file : ℕ) → ℕ → Body → Tree → List Names → Result Tree RestoreError
put_named file k b t [] = Err (Malformed (parts.File file) faults.NoNames)
put_named file k b t (p ∷ ps) =
    in_order (parts.Name file) (p ∷ ps) t followed_by λ sorted.
    put_first (parts.File file) k b sorted p followed_by λ first.
    put_other_names file k b first ps

-- the same of a saved one
abbrev pub put_file : (file : ℕ) → Tree → SavedFileValue → Result Tree RestoreError
put_file file t f = put_named file f.number f.body t f.names

-- ---- the whole

-- the layer that the parts make, or the first of them that no layer has there, and what is wrong with it
abbrev pub restored_layer : SavedValue → Result Tree RestoreError
restored_layer s =
    put_root s.meta s.opaque s.most followed_by λ root.
    put_dirs root s.dirs followed_by λ dirs.
    put_whiteouts dirs s.whiteouts followed_by λ whiteouts.
    put_each put_file 0 whiteouts s.files followed_by λ files.
    unless_fault parts.Next (fault_if (nat_lt s.next files.next) faults.BadNumber ∷ []) (with_next files s.next)
