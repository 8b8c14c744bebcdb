-- How an operation changes what is seen.
use Rattle.std.specs.Prelude.{◌≡◌, ◌⊎◌, ℕ, List, [], ◌∷◌, ◌++◌, Option, Some, None, Ok}
use Rattle.std.specs.Option.{option_map}
use Rattle.snap_path.specs.Text.{Names}
use Rattle.snap_layer.specs.Edits.{meta_with_mode}
use Rattle.snap_layer.specs.declared.content.Content.{Content}
use Rattle.snap_layer.specs.declared.content.Content.TheVariants as content_kinds
use Rattle.snap_layer.specs.Tree.{Tree, number_at}
use Rattle.snap_merge.specs.Objects.{Object, dir, file, symlink, seen, AreLayers}
use Rattle.snap_upper.specs.declared.op.Op.{Op}
use Rattle.snap_upper.specs.declared.op.Op.TheVariants.{Mkdir, Create, Put, Write, Truncate, SetMode, Symlink, Link, Unlink, Rmdir, Rename, Opaque, Whiteout}
use Rattle.snap_layer.specs.Contents.{written, resized}
use Rattle.snap_upper.specs.After.{after}

-- what is seen at each path
abbrev pub View : Type 0
View = Names → Option Object

-- w shows the object at the path, and at every other path what v shows
pub record ShowsAt (v w : View) (p : Names) (o : Option Object) : Type 0 where
  pub here : w p ≡ o
  pub others : (q : Names) → (q ≡ p → ⊥) → w q ≡ v q

-- q is the path, or one more of the upper layer's names of the path's file number (link(2))
abbrev pub IsName : Tree → Names → Names → Type 0
IsName u p q = (q ≡ p) ⊎ ((k : ℕ) × (number_at u p ≡ Some k) × (number_at u q ≡ Some k))

-- w shows f of what v shows at the path, there and at its file's other names in the upper layer, and at every other path what v shows
pub record Turns (u : Tree) (v w : View) (p : Names) (f : Object → Object) : Type 0 where
  pub here : (q : Names) → IsName u p q → w q ≡ option_map f (v p)
  pub others : (q : Names) → (IsName u p q → ⊥) → w q ≡ v q

-- w shows at `to` and below it what v shows at `from` and below it, nothing there any more, and at every other path what v shows
pub record ShowsMoved (v w : View) (from to : Names) : Type 0 where
  pub here : (r : Names) → w (to ++ r) ≡ v (from ++ r)
  pub gone : (r : Names) → w (from ++ r) ≡ None
  pub others : (q : Names) → ((r : Names) → q ≡ from ++ r → ⊥) → ((r : Names) → q ≡ to ++ r → ⊥) → w q ≡ v q

-- w shows in the directory at the path what the upper layer alone shows there, and at every other path what v shows
pub record ShowsOpaque (u : Tree) (v w : View) (p : Names) : Type 0 where
  pub below : (n : List ℕ) (r : Names) → w (p ++ n ∷ r) ≡ seen (u ∷ []) (p ++ n ∷ r)
  pub others : (q : Names) → ((n : List ℕ) (r : Names) → q ≡ p ++ n ∷ r → ⊥) → w q ≡ v q

-- w shows nothing at the path and below it, and at every other path what v shows
pub record ShowsGone (v w : View) (p : Names) : Type 0 where
  pub gone : (r : Names) → w (p ++ r) ≡ None
  pub others : (q : Names) → ((r : Names) → q ≡ p ++ r → ⊥) → w q ≡ v q

-- w shows what v shows
abbrev pub Stays : View → View → Type 0
Stays v w = (q : Names) → w q ≡ v q

-- the object with another content, where it is a file
abbrev pub with_file_content : (Content → Content) → Object → Object
with_file_content f (dir meta) = dir meta
with_file_content f (file meta content) = file meta (f content)
with_file_content f (symlink target) = symlink target

-- the directory or file with another mode
abbrev pub with_object_mode : ℕ → Object → Object
with_object_mode mode (dir meta) = dir (meta_with_mode meta mode)
with_object_mode mode (file meta content) = file (meta_with_mode meta mode) content
with_object_mode mode (symlink target) = symlink target

-- how the view v before the operation and the view w after it are related, over the upper layer before
abbrev pub changed : Op → Tree → View → View → Type 0
changed (Mkdir path mode) u v w = ShowsAt v w path (Some (dir (record { mode = mode })))
changed (Create path mode) u v w = ShowsAt v w path (Some (file (record { mode = mode }) (content_kinds.Bytes [])))
changed (Put path mode size digest) u v w = ShowsAt v w path (Some (file (record { mode = mode }) (content_kinds.Sized size digest)))
changed (Write path offset bytes) u v w = Turns u v w path (with_file_content (λ old. written old offset bytes))
changed (Truncate path size) u v w = Turns u v w path (with_file_content (λ old. resized old size))
changed (SetMode path mode) u v w = Turns u v w path (with_object_mode mode)
changed (Symlink path target) u v w = ShowsAt v w path (Some (symlink target))
changed (Link from to) u v w = ShowsAt v w to (v from)
changed (Unlink path) u v w = ShowsAt v w path None
changed (Rmdir path) u v w = ShowsAt v w path None
changed (Rename from to) u v w = (IsName u from to × Stays v w) ⊎ ((IsName u from to → ⊥) × ShowsMoved v w from to)
changed (Opaque path) u v w = ShowsOpaque u v w path
changed (Whiteout path) u v w = ShowsGone v w path

-- with any layers below, an operation that gives a next upper layer changes what is seen as `changed` says
abbrev pub Changes : Op → Tree → Type 0
Changes op u = (lowers : List Tree) (v : Tree) → AreLayers lowers → after op u lowers ≡ Ok v → changed op u (seen (u ∷ lowers)) (seen (v ∷ lowers))
