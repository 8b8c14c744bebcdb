-- What an operation does to the layer, once its tests have passed.
use Rattle.std.specs.Prelude.{◌≡◌, ◌≤◌, ℕ, ◌∷◌, ◌++◌, [], Bool, true, false, List, Option, Some, None, Ok, is_some, IsSome}
use Rattle.std.specs.Option.{option_copied}
use Rattle.snap_path.specs.Limits.{most_mode}
use Rattle.snap_layer.specs.Tree.{Tree, at, body, IsDirAt}
use Rattle.snap_layer.specs.declared.bytes.Edit.TheVariants.{Keep}
use Rattle.snap_layer.specs.Contents.{edited, size_of, IsContent, IsShort}
use Rattle.snap_layer.specs.declared.content.Content.{Content}
use Rattle.snap_layer.specs.declared.content.Content.TheVariants as content_kinds
use Rattle.snap_layer.specs.Edits.{HasMode, IsFree, IsInnerDir, with_mode, with_opaque, meta_with_mode}
use Rattle.snap_merge.specs.Objects.{Object, dir, file, seen, AreLayers}
use Rattle.snap_layer.specs.declared.node.Meta.{Meta}
use Rattle.snap_layer.specs.declared.node.Body.TheVariants as body_kinds
use Rattle.snap_merge.specs.Walk.{walk_error}
use Rattle.snap_copyup.specs.declared.parents.Last.{Last}
use Rattle.snap_copyup.specs.declared.parents.Last.TheVariants as last
use Rattle.snap_copyup.specs.Copying.{below, with_parents}
use Rattle.snap_copyup.specs.Places.{with_last, CanStand}
use Rattle.snap_upper.specs.declared.op.Op.{Op}
use Rattle.snap_upper.specs.declared.op.Op.TheVariants as op
use Rattle.snap_upper.specs.declared.change.New.{New}
use Rattle.snap_upper.specs.declared.change.New.TheVariants.{Dir, Empty, Sized, File, Symlink}
use Rattle.snap_upper.specs.declared.change.Change.{Change}
use Rattle.snap_upper.specs.declared.change.Change.TheVariants.{Nothing, Put, Fill, SetMode, SetOpaque, Erase, EraseTree, Link, Move}
use Rattle.snap_upper.specs.Memory.{IsNoGrowth, TakesNoMemory}
use Rattle.snap_upper.specs.After.{Outcome, after, limited, with_content, erased, tree_erased, renamed, next_layer, first_error, tests, is_same_name}

-- what is put, with its content
abbrev pub as_last : New → Last
as_last (Dir meta opaque) = last.Dir meta opaque
as_last (Empty meta) = last.File meta (content_kinds.Bytes [])
as_last (Sized meta size digest) = last.File meta (content_kinds.Sized size (option_copied digest))
as_last (File meta old edit) = last.File meta (edited edit old.now)
as_last (Symlink target) = last.Symlink target.now

-- it takes a file number
abbrev pub is_numbered : New → Bool
is_numbered (Dir meta opaque) = false
is_numbered (Empty meta) = true
is_numbered (Sized meta size digest) = true
is_numbered (File meta old edit) = true
is_numbered (Symlink target) = true

-- its content is within its limits: that of a layer's file is changed by a short edit
abbrev pub IsSound : New → Type 0
IsSound (Dir meta opaque) = Unit {0}
IsSound (Empty meta) = Unit {0}
IsSound (Sized meta size digest) = IsContent (content_kinds.Sized size (option_copied digest))
IsSound (File meta old edit) = IsShort edit old.now × IsContent (edited edit old.now)
IsSound (Symlink target) = Unit {0}

-- the next layer, or the error of one that passes the limits
abbrev pub outcome : Change → Tree → List Tree → Outcome
outcome Nothing u lowers = Ok u
outcome (Put path new) u lowers = limited (with_last (as_last new) (with_parents u lowers path.now) path.now)
outcome (Fill number size edit) u lowers = limited (with_content u (Some number) (edited edit))
outcome (SetMode path mode) u lowers = limited (with_mode u path.now (at u path.now) mode)
outcome (SetOpaque path) u lowers = limited (with_opaque u path.now (at u path.now) true)
outcome (Erase path covers) u lowers = limited (erased u lowers path.now)
outcome (EraseTree path covers) u lowers = limited (tree_erased u lowers path.now)
outcome (Link from to) u lowers = limited (next_layer (op.Link from.now to.now) u lowers)
outcome (Move from to leaves covers) u lowers = limited (renamed u lowers from.now to.now)

-- the change can be made: what the steps ask for is there
abbrev pub IsReady : Change → Tree → List Tree → Type 0
IsReady Nothing u lowers = Unit {0}
IsReady (Put path new) u lowers = (walk_error (u ∷ lowers) path.now ≡ None) × CanStand (as_last new) u path.now × IsSound new
IsReady (Fill number size edit) u lowers = (m : Meta) × (old : Content) × (body u number ≡ Some (body_kinds.File m old)) × (size ≡ size_of old) × IsShort edit old × IsContent (edited edit old)
IsReady (SetMode path mode) u lowers = HasMode (at u path.now) × (mode ≤ most_mode)
IsReady (SetOpaque path) u lowers = IsDirAt (at u path.now)
IsReady (Erase path covers) u lowers = (walk_error (u ∷ lowers) path.now ≡ None) × (is_some (seen (u ∷ lowers) path.now) ≡ true) × (path.now ≡ [] → ⊥) × ((n : List ℕ) → IsFree (at u (path.now ++ n ∷ []))) × (covers ≡ is_some (below u lowers path.now))
IsReady (EraseTree path covers) u lowers = IsInnerDir u path.now × (covers ≡ is_some (below u lowers path.now))
IsReady (Link from to) u lowers = first_error (tests (op.Link from.now to.now) (u ∷ lowers)) ≡ None
IsReady (Move from to leaves covers) u lowers = (first_error (tests (op.Rename from.now to.now) (u ∷ lowers)) ≡ None) × (is_same_name u from.now to.now ≡ false) × (leaves ≡ is_some (below u lowers from.now)) × (covers ≡ is_some (below u lowers to.now))

-- the change takes no memory: it changes or takes what the layer has, or does nothing
abbrev pub IsInPlace : Change → Tree → Type 0
IsInPlace Nothing u = Unit {0}
IsInPlace (Put path new) u = ⊥
IsInPlace (Fill number size edit) u = IsNoGrowth u (Some number) (edited edit)
IsInPlace (SetMode path mode) u = Unit {0}
IsInPlace (SetOpaque path) u = Unit {0}
IsInPlace (Erase path covers) u = IsSome (at u path.now)
IsInPlace (EraseTree path covers) u = ⊥
IsInPlace (Link from to) u = ⊥
IsInPlace (Move from to leaves covers) u = ⊥

-- it is the directory or file that is seen, with another mode
abbrev pub IsWithMode : New → Option Object → ℕ → Type 0
IsWithMode (Dir meta opaque) o m = (n : Meta) × (o ≡ Some (dir n)) × (meta ≡ meta_with_mode n m) × (opaque ≡ false)
IsWithMode (Empty meta) o m = ⊥
IsWithMode (Sized meta size digest) o m = ⊥
IsWithMode (File meta old edit) o m = (n : Meta) × (o ≡ Some (file n old.now)) × (meta ≡ meta_with_mode n m) × (edit ≡ Keep)
IsWithMode (Symlink target) o m = ⊥

-- it is the change of the operation
pub record IsChange (c : Change) (op : Op) (u : Tree) (lowers : List Tree) : Type 0 where
  pub layers : AreLayers lowers
  pub ready : IsReady c u lowers
  pub same : outcome c u lowers ≡ after op u lowers
  pub in_place : TakesNoMemory op u → IsInPlace c u
