-- The entries of a table in order of paths, as a walk comes to them.
use Rattle.std.specs.Prelude.{◌≡◌, ◌+◌, ◌≤◌, ℕ, Bool, true, false, List, [], ◌∷◌, ◌++◌, length, map, nat_le, Option, Some, None, IsSome}
use Rattle.std.specs.declared.cmp.Ordering.{Ordering}
use Rattle.std.specs.Ordering.{nat_cmp}
use Rattle.std.specs.Cmp.Lexicographic.{slice_cmp}
use Rattle.std.specs.declared.ops.Bound.{Bound}
use Rattle.std.specs.declared.ops.Bound.TheVariants.{Excluded, Unbounded}
use Rattle.std.specs.BTreeMap.Range.{entries_between}
use Rattle.std.specs.List.{AllByRecursion, flat_map}
use Rattle.std.specs.List.Sorted.{IsStrictlySortedBy}
use Rattle.std.specs.Map.{lookup, keys_of}
use Rattle.std.specs.BTreeMap.{is_at}
use Rattle.slab.specs.Slab.{Slab as Slots, get}
use Rattle.snap_path.specs.Limits.{most_path_bytes}
use Rattle.snap_path.specs.Text.{Names, IsPath, text_below}
use Rattle.snap_layer.specs.declared.node.Node.{Node}
use Rattle.snap_layer.specs.Tree.{Entries, path_cmp}
use Rattle.snap_layer.specs.Edits.{inside}
use Rattle.snap_layer.specs.declared.inode.Inode.{Inode}
use Rattle.snap_layer.specs.declared.inode.Inode.TheVariants.{Dir, Leaf}
use Rattle.snap_layer.specs.declared.inode.Target.{Target}
use Rattle.snap_layer.specs.declared.inode.Target.TheVariants as target
use Rattle.snap_layer.specs.Walk.{walk, entry_at, node_at, body_at, stands, view_of}
use Rattle.snap_layer.specs.Holds.{Places}

-- names are ordered by their bytes
abbrev pub name_cmp : List ℕ → List ℕ → Ordering
name_cmp = slice_cmp nat_cmp

-- names with what a directory has there
abbrev pub Items : Type 0
Items = List (List ℕ × Target)

-- the items of a directory, and none of a leaf
abbrev pub items_of : Option Inode → Items
items_of None = []
items_of (Some (Dir meta opaque entries)) = entries.entries
items_of (Some (Leaf number links body)) = []

abbrev pub items_at : Slots Inode → ℕ → Items
items_at s c = items_of (get s c)

-- the items in the directory that a target is
abbrev pub items_in : Slots Inode → Target → Items
items_in s target.Whiteout = []
items_in s (target.Inode c) = items_at s c

abbrev pub bound_of : Option (List ℕ) → Bound (List ℕ)
bound_of None = Unbounded
bound_of (Some n) = Excluded n

-- the items above the name, or all
abbrev pub items_above : Option (List ℕ) → Items → Items
items_above o es = entries_between name_cmp (bound_of o) Unbounded es

-- the items with the paths of the directory's names
abbrev pub placed : Names → Items → List (Names × Target)
placed p es = map (λ e. (p ++ e.0 ∷ [], e.1)) es

-- the inodes on the way, from the top down: each one's key, and its name that came last
abbrev pub Frames : Type 0
Frames = List (ℕ × Option (List ℕ))

-- the path with the name, if there is one
abbrev pub pushed : Names → Option (List ℕ) → Names
pushed p None = p
pushed p (Some n) = p ++ n ∷ []

-- the path that came last
abbrev pub last_path : Names → Frames → Names
last_path p [] = p
last_path p (f ∷ fs) = last_path (pushed p f.1) fs

-- what the directories on the way still have, in order of paths
abbrev pub ahead : Slots Inode → Names → Frames → List (Names × Target)
ahead s p [] = []
ahead s p (f ∷ fs) = ahead s (pushed p f.1) fs ++ placed p (items_above f.1 (items_at s f.0))

-- the entries at these places and below them
abbrev pub spread : {X : Type 0} → Entries → List (Names × X) → Entries
spread {X = X} es places = flat_map (λ (t : Names × X). inside t.0 es) places

-- the bytes of the path's text that the name takes, if there is one
abbrev pub frame_text : Option (List ℕ) → ℕ
frame_text None = 0
frame_text (Some n) = 1 + length n

-- the bytes that the names that came take
abbrev pub frames_text : Frames → ℕ
frames_text [] = 0
frames_text (f ∷ fs) = frame_text f.1 + frames_text fs

-- an inode on the way to what stands at its names, and no whiteout
abbrev pub frame_of : Target → Frames
frame_of target.Whiteout = []
frame_of (target.Inode c) = (c, None) ∷ []

-- each has a name that came
abbrev pub AreNamed : Frames → Type 0
AreNamed fs = AllByRecursion (λ (f : ℕ × Option (List ℕ)). IsSome f.1) fs

-- each but the last has a name that came
abbrev pub IsWay : Frames → Type 0
IsWay [] = Unit {0}
IsWay (f ∷ []) = Unit {0}
IsWay (f ∷ g ∷ fs) = IsSome f.1 × IsWay (g ∷ fs)

-- the name came at one of the frames, and those past it are gone
pub record Passes (fs gs : Frames) (n : List ℕ) : Type 0 where
  pub front : Frames
  pub key : ℕ
  pub last : Option (List ℕ)
  pub past : Frames
  pub was : fs ≡ front ++ (key, last) ∷ past
  pub is : gs ≡ front ++ (key, Some n) ∷ []

-- what holds of each walk: what is ahead is where its path leads, and the entries are those of the table, in order and at paths
pub record IsWalk (s : Slots Inode) (root : ℕ) (es : Entries) (p : Names) (fs : Frames) : Type 0 where
  pub leads : AllByRecursion (λ (t : Names × Target). walk (entry_at s) root t.0 ≡ Some t.1) (ahead s p fs)
  pub way : IsWay fs
  pub text : frames_text fs ≤ most_path_bytes
  pub there : (q : Names) (c : ℕ) → walk (entry_at s) root q ≡ Some (target.Inode c) → IsSome (node_at s c)
  pub shows : (q : Names) → stands (view_of s) root q ≡ lookup (is_at (path_cmp q)) es
  pub sorted : IsStrictlySortedBy path_cmp (keys_of es)
  pub paths : (q : Names) → IsSome (lookup (is_at (path_cmp q)) es) → IsPath q

-- how far a walk is: the path below which it goes, the path that came last, and the entries still to come
pub record Progress : Type 0 where
  pub front : Names
  pub path : Names
  pub rest : Entries

-- the entry at the path, if something stands there
abbrev pub own : Names → Option Node → Entries
own p None = []
own p (Some n) = (p, n) ∷ []

-- the same of what a path leads to
abbrev pub entered_from : Option Target → Frames
entered_from None = []
entered_from (Some t) = frame_of t

abbrev pub items_from : Slots Inode → Option Target → Items
items_from s None = []
items_from s (Some t) = items_in s t

-- what holds of the entries of each table
pub record IsListed (s : Slots Inode) (root : ℕ) (es : Entries) : Type 0 where
  pub there : (q : Names) (c : ℕ) → walk (entry_at s) root q ≡ Some (target.Inode c) → IsSome (node_at s c)
  pub sorted : IsStrictlySortedBy path_cmp (keys_of es)
  pub paths : (q : Names) → IsSome (lookup (is_at (path_cmp q)) es) → IsPath q

-- the target is a whiteout
abbrev pub targets_whiteout : Target → Bool
targets_whiteout target.Whiteout = true
targets_whiteout (target.Inode c) = false

-- the text of the entry's path has at most this number of bytes
abbrev pub is_text_within : ℕ → Names × Node → Bool
is_text_within most e = nat_le (length (text_below e.0)) most

-- each place has a body
abbrev pub AreHoused : Slots Inode → Places → Type 0
AreHoused s ps = AllByRecursion (λ (p : ℕ × ℕ). IsSome (body_at s p.1)) ps
