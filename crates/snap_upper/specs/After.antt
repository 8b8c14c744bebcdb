-- The upper layer after an operation, or the operation's error.
use Rattle.std.specs.Prelude.{ℕ, ◌+◌, ◌==◌, ◌||◌, ◌&&◌, Bool, true, false, nat_lt, not, List, [], ◌∷◌, length, Option, Some, None, is_some, if◌then◌else◌, Result, Ok, Err}
use Rattle.std.specs.List.{list_any}
use Rattle.std.specs.Option.{option_map_or}
use Rattle.snap_path.specs.Limits.{most_file_bytes, most_mode, most_path_bytes, most_sized_bytes, most_target_bytes}
use Rattle.snap_layer.specs.declared.node.Node.{Node}
use Rattle.snap_layer.specs.declared.node.Node.TheVariants as node
use Rattle.snap_layer.specs.declared.node.Body.TheVariants as body_kinds
use Rattle.snap_layer.specs.Tree.{Tree, at, body, number_at, is_whiteout}
use Rattle.snap_layer.specs.Counts.{is_within}
use Rattle.snap_layer.specs.Contents.{written, resized, most_bytes, body_content}
use Rattle.snap_layer.specs.declared.content.Content.{Content}
use Rattle.snap_layer.specs.declared.content.Content.TheVariants as content_kinds
use Rattle.snap_layer.specs.Edits.{with_entry, with_node, with_new, with_name, with_filled, with_mode, with_opaque, with_moved, with_tree_taken, without, inside, relocated}
use Rattle.snap_usage.specs.declared.usage.Usage.{Usage}
use Rattle.snap_usage.specs.Counted.{count_of, covers}
use Rattle.snap_merge.specs.declared.error.FsError.{FsError}
use Rattle.snap_merge.specs.declared.error.FsError.TheVariants.{NotFound, NotDir, IsDir, Exists, NotEmpty, Invalid, BadPath, CrossDevice, NotPermitted, TooBig, LayerFull, NeedsCharge}
use Rattle.snap_merge.specs.Objects.{Object, dir, file, symlink, seen, is_shown_dir}
use Rattle.snap_merge.specs.Walk.{walk_error, unless}
use Rattle.snap_merge.specs.Listing.{names}
use Rattle.snap_path.specs.Text.{Names, text_below, begins}
use Rattle.snap_upper.specs.declared.op.Op.{Op}
use Rattle.snap_upper.specs.declared.op.Op.TheVariants.{Mkdir, Create, Put, Write, Truncate, SetMode, Symlink, Link, Unlink, Rmdir, Rename, Opaque, Whiteout}
use Rattle.snap_upper.specs.declared.usage.Planned.{Planned}
use Rattle.snap_copyup.specs.Copying.{below, is_pure, with_parents, copied_up}

-- ---- tests

-- the error, where the test holds
abbrev pub error_if : Bool → FsError → Option FsError
error_if holds e = if holds then Some e else None

-- the error where nothing is seen, or that of a directory, of a regular file or of a symlink, if it has one
abbrev pub error_by_kind : Option FsError → Option FsError → Option FsError → Option Object → Option FsError
error_by_kind of_dir of_file of_symlink None = Some NotFound
error_by_kind of_dir of_file of_symlink (Some (dir meta)) = of_dir
error_by_kind of_dir of_file of_symlink (Some (file meta content)) = of_file
error_by_kind of_dir of_file of_symlink (Some (symlink target)) = of_symlink

-- how many bytes the file that is seen may have
abbrev pub most_of : Option Object → ℕ
most_of (Some (file meta content)) = most_bytes content
most_of other = most_file_bytes

-- a digest of more than 1024 bytes
abbrev pub is_long_digest : Option (List ℕ) → Bool
is_long_digest None = false
is_long_digest (Some digest) = nat_lt 1024 (length digest)

-- a target that is empty or has a NUL
abbrev pub is_no_target : List ℕ → Bool
is_no_target target = length target == 0 || list_any (λ b. b == 0) target

-- the root
abbrev pub is_root : Names → Bool
is_root [] = true
is_root (n ∷ p) = false

-- something is seen in the directory
abbrev pub has_names : List Tree → Names → Bool
has_names s p = nat_lt 0 (length (names s p))

-- the paths are one
abbrev pub is_same_path : Names → Names → Bool
is_same_path p q = begins p q && begins q p

-- both numbers are there, and they are one
abbrev pub is_same_number : Option ℕ → Option ℕ → Bool
is_same_number (Some j) (Some k) = j == k
is_same_number j k = false

-- one path, or two names of one file of the upper layer (rename(2))
abbrev pub is_same_name : Tree → Names → Names → Bool
is_same_name u from to = is_same_path from to || is_same_number (number_at u from) (number_at u to)

-- the error where a directory would take the place of another object, or another object that of a directory
abbrev pub kind_error : Option Object → Option Object → Option FsError
kind_error moved None = None
kind_error moved (Some (dir meta)) = error_if (not (is_shown_dir moved)) IsDir
kind_error moved (Some other) = error_if (is_shown_dir moved) NotDir

-- a path of the upper layer that moves with `from` would be longer than 4095 bytes (limits.h, PATH_MAX without the closing NUL)
abbrev pub moves_too_long : Tree → Names → Names → Bool
moves_too_long u from to = list_any (λ e. nat_lt most_path_bytes (length (text_below (relocated from to e.0)))) (inside from u.entries)

-- the tests of a rename that has something to do; a directory that has one of a lower layer below it stays (overlayfs.rst, "renaming directories")
abbrev pub move_tests : Tree → List Tree → Names → Names → List (Option FsError)
move_tests u lowers from to =
    let is_dir = is_shown_dir (seen (u ∷ lowers) from) in
    error_if (is_dir && begins from to) Invalid ∷ kind_error (seen (u ∷ lowers) from) (seen (u ∷ lowers) to) ∷ error_if (is_dir && not (is_pure u lowers from)) CrossDevice ∷ error_if (has_names (u ∷ lowers) to) NotEmpty ∷ error_if (moves_too_long u from to) BadPath ∷ []

-- the tests of a rename over the upper layer and the lower ones (rename(2))
abbrev pub rename_tests : Tree → List Tree → Names → Names → List (Option FsError)
rename_tests u lowers from to = walk_error (u ∷ lowers) from ∷ walk_error (u ∷ lowers) to ∷ error_if (is_root from || is_root to) Invalid ∷ error_if (not (is_some (seen (u ∷ lowers) from))) NotFound ∷ (if is_same_name u from to then [] else move_tests u lowers from to)

-- the tests of an operation over the layers, in order (mkdir(2), open(2) with O_CREAT and O_EXCL, pwrite(2), truncate(2), chmod(2), symlink(2), link(2), unlink(2), rmdir(2); overlayfs.rst, "whiteouts and opaque directories"; OCI image specification, "Whiteouts")
abbrev pub tests : Op → List Tree → List (Option FsError)
tests (Mkdir path mode) s = walk_error s path ∷ error_if (is_some (seen s path)) Exists ∷ error_if (nat_lt most_mode mode) Invalid ∷ []
tests (Create path mode) s = walk_error s path ∷ error_if (is_some (seen s path)) Exists ∷ error_if (nat_lt most_mode mode) Invalid ∷ []
tests (Put path mode size digest) s = walk_error s path ∷ error_if (is_some (seen s path)) Exists ∷ error_if (nat_lt most_mode mode) Invalid ∷ error_if (nat_lt most_sized_bytes size) TooBig ∷ error_if (is_long_digest digest) TooBig ∷ []
tests (Write path offset bytes) s = walk_error s path ∷ error_by_kind (Some IsDir) None (Some Invalid) (seen s path) ∷ error_if (nat_lt (most_of (seen s path)) (offset + length bytes)) TooBig ∷ []
tests (Truncate path size) s = walk_error s path ∷ error_by_kind (Some IsDir) None (Some Invalid) (seen s path) ∷ error_if (nat_lt (most_of (seen s path)) size) TooBig ∷ []
tests (SetMode path mode) s = walk_error s path ∷ error_by_kind None None (Some Invalid) (seen s path) ∷ error_if (nat_lt most_mode mode) Invalid ∷ []
tests (Symlink path target) s = walk_error s path ∷ error_if (is_some (seen s path)) Exists ∷ error_if (is_no_target target) Invalid ∷ error_if (nat_lt most_target_bytes (length target)) TooBig ∷ []
tests (Link from to) s = walk_error s from ∷ walk_error s to ∷ error_by_kind (Some NotPermitted) None None (seen s from) ∷ error_if (is_some (seen s to)) Exists ∷ []
tests (Unlink path) s = walk_error s path ∷ error_by_kind (Some IsDir) None None (seen s path) ∷ []
tests (Rmdir path) s = walk_error s path ∷ error_if (is_root path) Invalid ∷ error_by_kind None (Some NotDir) (Some NotDir) (seen s path) ∷ error_if (has_names s path) NotEmpty ∷ []
tests (Rename from to) [] = []
tests (Rename from to) (u ∷ lowers) = rename_tests u lowers from to
tests (Opaque path) s = walk_error s path ∷ error_by_kind None (Some NotDir) (Some NotDir) (seen s path) ∷ []
tests (Whiteout path) s = walk_error s path ∷ error_if (is_root path) Invalid ∷ error_if (not (is_some (seen s path))) NotFound ∷ []

-- the first error of the tests
abbrev pub first_error : List (Option FsError) → Option FsError
first_error [] = None
first_error (None ∷ later) = first_error later
first_error (Some e ∷ later) = Some e

-- ---- effects

-- a whiteout stands there
abbrev pub is_whiteout_at : Option Node → Bool
is_whiteout_at o = option_map_or is_whiteout o false

-- the layer with another content of the file with the number, for all its names
abbrev pub with_content : Tree → Option ℕ → (Content → Content) → Tree
with_content t o f = option_map_or (λ k. with_filled t k (body t k) (f (body_content (body t k)))) o t

-- the layer without what stands at the path, and with a whiteout there where something is below (overlayfs.rst, "whiteouts and opaque directories")
abbrev pub erased : Tree → List Tree → Names → Tree
erased u lowers p = let t = with_parents u lowers p in if is_some (below u lowers p) then with_node t p node.Whiteout else without t p

-- the layer without what stands at the path and all below it, and with a whiteout there where something is below (OCI image specification, "Whiteouts")
abbrev pub tree_erased : Tree → List Tree → Names → Tree
tree_erased u lowers p = with_tree_taken (with_parents u lowers p) p (is_some (below u lowers p))

-- the layer before a move: what is seen at `from` is copied up, and the directories above `to` are there (overlayfs.rst, "Non-directories")
abbrev pub before_move : Tree → List Tree → Names → Names → Tree
before_move u lowers from to = with_parents (copied_up u lowers from) lowers to

-- the layer after a move of what stands at `from` to `to`, in place of what stands there: it leaves a whiteout or none, and makes a moved directory opaque or not (overlayfs.rst, "whiteouts and opaque directories")
abbrev pub shifted : Tree → Names → Names → Bool → Bool → Tree
shifted t from to leaves covers = let v = with_moved t from to leaves in if covers then with_opaque v to (at v to) true else v

-- the layer after a rename: a whiteout is left where something is below `from`, and a directory is opaque where something is below `to`
abbrev pub renamed : Tree → List Tree → Names → Names → Tree
renamed u lowers from to = shifted (before_move u lowers from to) from to (is_some (below u lowers from)) (is_some (below u lowers to))

-- the effect of an operation on the upper layer
abbrev pub next_layer : Op → Tree → List Tree → Tree
next_layer (Mkdir path mode) u lowers = with_entry (with_parents u lowers path) path (node.Dir (record { mode = mode }) (is_whiteout_at (at u path)))
next_layer (Create path mode) u lowers = let t = with_parents u lowers path in with_new t path (node.File t.next) (body_kinds.File (record { mode = mode }) (content_kinds.Bytes []))
next_layer (Put path mode size digest) u lowers = let t = with_parents u lowers path in with_new t path (node.File t.next) (body_kinds.File (record { mode = mode }) (content_kinds.Sized size digest))
next_layer (Write path offset bytes) u lowers = let t = copied_up u lowers path in with_content t (number_at t path) (λ old. written old offset bytes)
next_layer (Truncate path size) u lowers = let t = copied_up u lowers path in with_content t (number_at t path) (λ old. resized old size)
next_layer (SetMode path mode) u lowers = let t = copied_up u lowers path in with_mode t path (at t path) mode
next_layer (Symlink path target) u lowers = let t = with_parents u lowers path in with_new t path (node.Symlink t.next) (body_kinds.Symlink target)
next_layer (Link from to) u lowers = let t = with_parents (copied_up u lowers from) lowers to in with_name t to (at t from)
next_layer (Unlink path) u lowers = erased u lowers path
next_layer (Rmdir path) u lowers = erased u lowers path
next_layer (Rename from to) u lowers = if is_same_name u from to then u else renamed u lowers from to
next_layer (Opaque path) u lowers = let t = copied_up u lowers path in with_opaque t path (at t path) true
next_layer (Whiteout path) u lowers = tree_erased u lowers path

-- ---- both

-- the next layer, or the error
abbrev pub Outcome : Type 0
Outcome = Result Tree FsError

-- the layer, where it has no more inodes than it may and its file numbers aren't used up
abbrev pub limited : Tree → Outcome
limited t = if is_within t then Ok t else Err LayerFull

-- the next upper layer, or the first error
abbrev pub after : Op → Tree → List Tree → Outcome
after op u lowers = unless (first_error (tests op (u ∷ lowers))) (limited (next_layer op u lowers))

-- how much the next layer takes, or the error
abbrev pub planned : Outcome → Result Planned FsError
planned (Ok t) = Ok (record { after = count_of t })
planned (Err e) = Err e

-- the outcome of an operation that may fill the share and no more: the next layer, where the share covers its count in both quantities, else that count has to be charged. An error stays
abbrev pub within_share : Usage → Outcome → Outcome
within_share share (Ok next) = if covers share (count_of next) then Ok next else Err (NeedsCharge (count_of next))
within_share share (Err e) = Err e

-- there is no error, or it comes after the names of the directory were listed that is removed, or whose place another takes
abbrev pub is_late : Option FsError → Bool
is_late None = true
is_late (Some NotEmpty) = true
is_late (Some BadPath) = true
is_late (Some e) = false

-- the names of a directory are listed, which takes memory: of one that is removed, or whose place another takes, where no test before that fails
abbrev pub lists_names : Op → List Tree → Bool
lists_names (Rmdir path) s = is_shown_dir (seen s path) && is_late (first_error (tests (Rmdir path) s))
lists_names (Rename from to) (u ∷ lowers) = not (is_same_name u from to) && is_shown_dir (seen (u ∷ lowers) to) && is_late (first_error (tests (Rename from to) (u ∷ lowers)))
lists_names other s = false
