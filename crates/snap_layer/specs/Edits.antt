-- The layer after each edit, and when the edit may be made.
use Rattle.std.specs.Prelude.{◌≡◌, ℕ, ◌+◌, Bool, true, false, not, ◌==◌, filter, map, List, [], ◌∷◌, ◌++◌, length, drop, Option, Some, None, IsSome, if◌then◌else◌}
use Rattle.std.specs.Option.{option_map_or}
use Rattle.std.specs.Ordering.{nat_cmp}
use Rattle.std.specs.Map.{remove_entry}
use Rattle.std.specs.BTreeMap.{is_at, insert_entry}
use Rattle.snap_path.specs.Text.{Names, IsPath, begins}
use Rattle.snap_layer.specs.declared.content.Content.{Content}
use Rattle.snap_layer.specs.declared.node.Meta.{Meta}
use Rattle.snap_layer.specs.declared.node.Node.{Node}
use Rattle.snap_layer.specs.declared.node.Node.TheVariants.{Dir, File, Whiteout}
use Rattle.snap_layer.specs.declared.node.Body.{Body}
use Rattle.snap_layer.specs.declared.node.Body.TheVariants as body_kinds
use Rattle.snap_layer.specs.Tree.{Tree, Entries, Bodies, path_cmp, at, body, number_at, leaf_node, is_whiteout, IsDirAt}
use Rattle.snap_layer.specs.Counts.{name_count, default_inodes}

-- the layer of the root alone, which may have at most this number of inodes, and whose first file gets the number
abbrev pub root_within : ℕ → Meta → ℕ → Tree
root_within most meta first = record { entries = ([], Dir meta false) ∷ []; bodies = []; next = first; most = most }

-- the same where no most inodes are asked
abbrev pub root_only : Meta → ℕ → Tree
root_only meta first = root_within default_inodes meta first

-- the layer with the node at the path
abbrev pub with_entry : Tree → Names → Node → Tree
with_entry t p n = record t { entries = insert_entry path_cmp t.entries p n }

-- the layer with a directory for each meta, one in the other, at the names that come next after the front
abbrev pub with_dirs : Tree → Names → Names → List Meta → Tree
with_dirs t front [] metas = t
with_dirs t front (n ∷ names) [] = t
with_dirs t front (n ∷ names) (meta ∷ metas) = with_dirs (with_entry t (front ++ n ∷ []) (Dir meta false)) (front ++ n ∷ []) names metas

-- the layer with the body under the number
abbrev pub with_body : Tree → ℕ → Body → Tree
with_body t k b = record t { bodies = insert_entry nat_cmp t.bodies k b }

-- the entries but that at the path and those below it
abbrev pub outside : Names → Entries → Entries
outside p es = filter (λ e. not (begins p e.0)) es

-- the bodies but that of the number, where no entry names it any more
abbrev pub bodies_without : Option ℕ → Entries → Bodies → Bodies
bodies_without o es bs = option_map_or (λ k. if name_count k es == 0 then remove_entry (is_at (nat_cmp k)) bs else bs) o bs

-- the layer without what stands at the path, in which there are whiteouts alone; a body goes with its last name (unlink(2))
abbrev pub without : Tree → Names → Tree
without t p =
    let es = outside p t.entries in
    record t { entries = es; bodies = bodies_without (number_at t p) es t.bodies }

-- the bodies that no entry names, and those that an entry names
abbrev pub bodies_unnamed : Entries → Bodies → Bodies
bodies_unnamed es bs = filter (λ b. name_count b.0 es == 0) bs

abbrev pub bodies_named : Entries → Bodies → Bodies
bodies_named es bs = filter (λ b. not (name_count b.0 es == 0)) bs

-- the layer without what stands at the path and all below it; a body goes with its last name (unlink(2))
abbrev pub without_tree : Tree → Names → Tree
without_tree t p =
    let es = outside p t.entries in
    record t { entries = es; bodies = bodies_named es t.bodies }

-- the same with a whiteout at the path where one is to be left
abbrev pub with_tree_taken : Tree → Names → Bool → Tree
with_tree_taken t p leaves = let u = without_tree t p in if leaves then with_entry u p Whiteout else u

-- the layer with the node in place of what stands at the path
abbrev pub with_node : Tree → Names → Node → Tree
with_node t p n = with_entry (without t p) p n

-- the layer with a new file or symlink, which has the next number, in place of what stands at the path
abbrev pub with_new : Tree → Names → Node → Body → Tree
with_new t p n b =
    let u = with_node t p n in
    record u { bodies = insert_entry nat_cmp u.bodies t.next b; next = t.next + 1 }

-- the layer with another next number
abbrev pub with_next : Tree → ℕ → Tree
with_next t k = record t { next = k }

-- the node that names a file number, if it has a body
abbrev pub named_node : ℕ → Option Body → Option Node
named_node k None = None
named_node k (Some b) = Some (leaf_node k b)

-- the layer with the name, if there is one, in place of what stands at the path
abbrev pub with_name : Tree → Names → Option Node → Tree
with_name t p o = option_map_or (λ n. with_node t p n) o t

-- the layer with a new file or symlink, which has the next number, at the path, and one more name of it at the link
abbrev pub with_linked : Tree → Names → Names → Body → Tree
with_linked t p link b =
    let n = leaf_node t.next b in
    with_node (with_new t p n b) link n

-- the layer with another content of a file
abbrev pub with_filled : Tree → ℕ → Option Body → Content → Tree
with_filled t k (Some (body_kinds.File meta old)) content = with_body t k (body_kinds.File meta content)
with_filled t k other content = t

-- the meta with another mode (chmod(2))
abbrev pub meta_with_mode : Meta → ℕ → Meta
meta_with_mode meta mode = record meta { mode = mode }

-- a file with another mode
abbrev pub body_with_mode : Body → ℕ → Body
body_with_mode (body_kinds.File meta content) mode = body_kinds.File (meta_with_mode meta mode) content
body_with_mode (body_kinds.Symlink target) mode = body_kinds.Symlink target

-- the layer with another mode of a file
abbrev pub with_file_mode : Tree → ℕ → Option Body → ℕ → Tree
with_file_mode t k o mode = option_map_or (λ b. with_body t k (body_with_mode b mode)) o t

-- the layer with another mode of the directory or the file at a path; all names of a file have its mode (chmod(2))
abbrev pub with_mode : Tree → Names → Option Node → ℕ → Tree
with_mode t p (Some (Dir meta opaque)) mode = with_entry t p (Dir (meta_with_mode meta mode) opaque)
with_mode t p (Some (File k)) mode = with_file_mode t k (body t k) mode
with_mode t p other mode = t

-- the layer with the mark of the directory at a path
abbrev pub with_opaque : Tree → Names → Option Node → Bool → Tree
with_opaque t p (Some (Dir meta old)) opaque = with_entry t p (Dir meta opaque)
with_opaque t p other opaque = t

-- the path with `to` in place of its front `from`
abbrev pub relocated : Names → Names → Names → Names
relocated from to p = to ++ drop (length from) p

-- the entry at or below `from` under its new path
abbrev pub relocate : Names → Names → Names × Node → Names × Node
relocate from to e = (relocated from to e.0, e.1)

-- the entries at the path and below it
abbrev pub inside : Names → Entries → Entries
inside p es = filter (λ e. begins p e.0) es

-- the entries with each of the others put among them
abbrev pub put_all : Entries → Entries → Entries
put_all [] es = es
put_all (e ∷ new) es = insert_entry path_cmp (put_all new es) e.0 e.1

-- the layer with what stands at `from` and all below it at `to`
abbrev pub moved : Tree → Names → Names → Tree
moved t from to = record t { entries = put_all (map (relocate from to) (inside from t.entries)) (outside from t.entries) }

-- the same in place of what stands at `to`, with a whiteout at `from` where one is to be left
abbrev pub with_moved : Tree → Names → Names → Bool → Tree
with_moved t from to leaves =
    let u = moved (without t to) from to in
    if leaves then with_entry u from Whiteout else u

-- nothing or a whiteout stands there
abbrev pub IsFree : Option Node → Type 0
IsFree None = Unit {0}
IsFree (Some n) = is_whiteout n ≡ true

-- the path is not the root, and its parent is a directory of the layer
pub record HasParent (t : Tree) (p : Names) : Type 0 where
  pub below_root : p ≡ [] → ⊥
  pub parent : (q : Names) (n : List ℕ) → p ≡ q ++ n ∷ [] → IsDirAt (at t q)

-- a new directory may be made there
pub record HasRoom (t : Tree) (p : Names) : Type 0 where
  pub free : IsFree (at t p)
  pub above : HasParent t p

-- a new file may be made at the path, where nothing stands, and one more name of it at the link
pub record HasRooms (t : Tree) (path link : Names) : Type 0 where
  pub bare : at t path ≡ None
  pub above : HasParent t path
  pub room : HasRoom t link
  pub apart : path ≡ link → ⊥

-- what stands there may be replaced: nothing, a name, a whiteout, or a directory that has whiteouts alone
pub record HasPlace (t : Tree) (p : Names) : Type 0 where
  pub clear : (n : List ℕ) → IsFree (at t (p ++ n ∷ []))
  pub above : HasParent t p

-- a name, a whiteout, or a directory that has whiteouts alone stands there, and it is not the root
pub record IsTakeable (t : Tree) (p : Names) : Type 0 where
  pub there : IsSome (at t p)
  pub clear : (n : List ℕ) → IsFree (at t (p ++ n ∷ []))
  pub below_root : p ≡ [] → ⊥

-- a directory stands there, and it is not the root
pub record IsInnerDir (t : Tree) (p : Names) : Type 0 where
  pub dir : IsDirAt (at t p)
  pub below_root : p ≡ [] → ⊥

-- what stands at `from` may move to `to`: neither lies at or below the other, and each moved path is one
pub record IsMovable (t : Tree) (from to : Names) : Type 0 where
  pub there : IsSome (at t from)
  pub place : HasPlace t to
  pub not_inside : begins from to ≡ false
  pub not_around : begins to from ≡ false
  pub fits : (r : Names) → IsSome (at t (from ++ r)) → IsPath (to ++ r)

-- a regular file
abbrev pub IsRegular : Option Body → Type 0
IsRegular (Some (body_kinds.File meta content)) = Unit {0}
IsRegular other = ⊥

-- a directory's or a file's mode may be set
abbrev pub HasMode : Option Node → Type 0
HasMode (Some (Dir meta opaque)) = Unit {0}
HasMode (Some (File number)) = Unit {0}
HasMode other = ⊥
