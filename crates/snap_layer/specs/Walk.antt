-- What stands at each path of a table of inodes, by recursion on the path.
use Rattle.std.specs.Prelude.{◌≡◌, ℕ, ◌+◌, ◌<◌, ◌≤◌, Bool, false, if◌then◌else◌, List, [], ◌∷◌, Option, Some, None, IsSome, option_and_then}
use Rattle.std.specs.Map.{lookup, remove_entry}
use Rattle.std.specs.Ordering.{nat_cmp}
use Rattle.std.specs.Cmp.Lexicographic.{slice_cmp}
use Rattle.std.specs.BTreeMap.{is_at, insert_entry}
use Rattle.slab.specs.Slab.{Slab as Slots, get}
use Rattle.snap_path.specs.Text.{Names}
use Rattle.snap_layer.specs.declared.node.Meta.{Meta}
use Rattle.snap_layer.specs.declared.node.Node.{Node}
use Rattle.snap_layer.specs.declared.node.Node.TheVariants as node
use Rattle.snap_layer.specs.declared.node.Body.{Body}
use Rattle.snap_layer.specs.Tree.{IsDirAt, leaf_node, number_of}
use Rattle.snap_layer.specs.declared.inode.Inode.{Inode}
use Rattle.snap_layer.specs.declared.inode.Inode.TheVariants.{Dir, Leaf}
use Rattle.snap_layer.specs.declared.inode.Target.{Target}
use Rattle.snap_layer.specs.declared.inode.Target.TheVariants as target

-- what each directory has at each name
abbrev pub Table : Type 0
Table = ℕ → List ℕ → Option Target

-- what a name leads to, and then the rest
abbrev pub follow : Option Target → (ℕ → Option Target) → Names → Option Target
follow None k ns = None
follow (Some (target.Inode c)) k ns = k c
follow (Some target.Whiteout) k [] = Some target.Whiteout
follow (Some target.Whiteout) k (n ∷ ns) = None

-- what stands at a path below a directory
abbrev pub walk : Table → ℕ → Names → Option Target
walk e d [] = Some (target.Inode d)
walk e d (n ∷ ns) = follow (e d n) (λ c. walk e c ns) ns

-- what an inode has at a name: a leaf has nothing
abbrev pub entry_of : Option Inode → List ℕ → Option Target
entry_of None n = None
entry_of (Some (Dir meta opaque entries)) n = lookup (is_at (slice_cmp nat_cmp n)) entries.entries
entry_of (Some (Leaf number links body)) n = None

-- the node that an inode shows
abbrev pub node_of : Option Inode → Option Node
node_of None = None
node_of (Some (Dir meta opaque entries)) = Some (node.Dir meta opaque)
node_of (Some (Leaf number links body)) = Some (leaf_node number body)

-- the body of a leaf
abbrev pub body_of : Option Inode → Option Body
body_of None = None
body_of (Some (Dir meta opaque entries)) = None
body_of (Some (Leaf number links body)) = Some body

-- the links of a leaf
abbrev pub links_of : Option Inode → ℕ
links_of None = 0
links_of (Some (Dir meta opaque entries)) = 0
links_of (Some (Leaf number links body)) = links

-- the same of the inode with a key
abbrev pub count_at : Slots Inode → ℕ → ℕ
count_at s c = links_of (get s c)

-- the entry of the directory with a key
abbrev pub entry_at : Slots Inode → Table
entry_at s d n = entry_of (get s d) n

-- the node of the inode with a key
abbrev pub node_at : Slots Inode → ℕ → Option Node
node_at s c = node_of (get s c)

-- the body of the leaf with a key
abbrev pub body_at : Slots Inode → ℕ → Option Body
body_at s c = body_of (get s c)

-- what is read of the slots: the entries, the nodes, the bodies and the link counts
pub record SlotView : Type 0 where
  pub entries : Table
  pub nodes : ℕ → Option Node
  pub bodies : ℕ → Option Body
  pub counts : ℕ → ℕ

-- what is read of a slab
abbrev pub view_of : Slots Inode → SlotView
view_of s = record { entries = entry_at s; nodes = node_at s; bodies = body_at s; counts = count_at s }

-- the node that a target shows
abbrev pub node_shown : (ℕ → Option Node) → Option Target → Option Node
node_shown nodes None = None
node_shown nodes (Some target.Whiteout) = Some node.Whiteout
node_shown nodes (Some (target.Inode c)) = nodes c

-- the node at a path
abbrev pub stands : SlotView → ℕ → Names → Option Node
stands s root p = node_shown s.nodes (walk s.entries root p)

-- what holds of each table: the root is a directory, what a path leads to is there, no directory is reached by two paths, and each inode is reached by one
pub record IsTable (s : SlotView) (root : ℕ) : Type 0 where
  pub root_dir : IsDirAt (s.nodes root)
  pub there : (p : Names) (c : ℕ) → walk s.entries root p ≡ Some (target.Inode c) → IsSome (s.nodes c)
  pub forest : (p q : Names) (c : ℕ) → IsDirAt (s.nodes c) → walk s.entries root p ≡ Some (target.Inode c) → walk s.entries root q ≡ Some (target.Inode c) → p ≡ q
  pub reached : (c : ℕ) → IsSome (s.nodes c) → (p : Names) × (walk s.entries root p ≡ Some (target.Inode c))

-- a place where an entry may be put
abbrev pub IsOpen : Option Target → Type 0
IsOpen None = Unit {0}
IsOpen (Some target.Whiteout) = Unit {0}
IsOpen (Some (target.Inode d)) = ⊥

-- below what stands here nothing stands
abbrev pub IsBare : Table → Option Target → Type 0
IsBare e None = Unit {0}
IsBare e (Some target.Whiteout) = Unit {0}
IsBare e (Some (target.Inode d)) = (n : List ℕ) → e d n ≡ None

-- f has the target, or nothing, at one name of one directory, and else what e has
pub record Puts (e f : Table) (d : ℕ) (n : List ℕ) (w : Option Target) : Type 0 where
  pub here : f d n ≡ w
  pub names : (m : List ℕ) → (m ≡ n → ⊥) → f d m ≡ e d m
  pub dirs : (c : ℕ) (m : List ℕ) → (c ≡ d → ⊥) → f c m ≡ e c m

-- t reads as s, but for the directory's entry
pub record Links (s t : SlotView) (d : ℕ) (n : List ℕ) (w : Option Target) : Type 0 where
  pub entries : Puts s.entries t.entries d n w
  pub nodes : (c : ℕ) → t.nodes c ≡ s.nodes c
  pub bodies : (c : ℕ) → t.bodies c ≡ s.bodies c
  pub counts : (c : ℕ) → t.counts c ≡ s.counts c

-- t reads as s
pub record Same (s t : SlotView) : Type 0 where
  pub entries : (c : ℕ) (m : List ℕ) → t.entries c m ≡ s.entries c m
  pub nodes : (c : ℕ) → t.nodes c ≡ s.nodes c
  pub bodies : (c : ℕ) → t.bodies c ≡ s.bodies c
  pub counts : (c : ℕ) → t.counts c ≡ s.counts c

-- t is s with a new inode without entries under a vacant key, and the entry for it
pub record Adds (s t : SlotView) (d : ℕ) (n : List ℕ) (k : ℕ) (v : Node) (b : Option Body) (l : ℕ) : Type 0 where
  pub entries : Puts s.entries t.entries d n (Some (target.Inode k))
  pub vacant : s.nodes k ≡ None
  pub bare : (m : List ℕ) → t.entries k m ≡ None
  pub node : t.nodes k ≡ Some v
  pub body : t.bodies k ≡ b
  pub count : t.counts k ≡ l
  pub nodes : (c : ℕ) → (c ≡ k → ⊥) → t.nodes c ≡ s.nodes c
  pub bodies : (c : ℕ) → (c ≡ k → ⊥) → t.bodies c ≡ s.bodies c
  pub counts : (c : ℕ) → (c ≡ k → ⊥) → t.counts c ≡ s.counts c

-- t is s with a directory for each meta, one in the other, at the names that come next in the directory d
abbrev pub AddsDirs : SlotView → SlotView → ℕ → Names → List Meta → Type 0
AddsDirs s t d [] metas = Same s t
AddsDirs s t d (n ∷ names) [] = Same s t
AddsDirs s t d (n ∷ names) (meta ∷ metas) = (between : SlotView) × (k : ℕ) × Adds s between d n k (node.Dir meta false) None 0 × AddsDirs between t k names metas

-- the directory has nothing at the first of the names
abbrev pub IsVacantAt : SlotView → ℕ → Names → Type 0
IsVacantAt s d [] = Unit {0}
IsVacantAt s d (n ∷ names) = s.entries d n ≡ None

-- what is left at the old place of a move
abbrev pub left_at : Bool → Option Target
left_at leaves = if leaves then Some target.Whiteout else None

-- t has at one entry what s had at another, there what is left, and else reads as s
pub record Shifted (s t : SlotView) (df : ℕ) (nf : List ℕ) (dt : ℕ) (nt : List ℕ) (leaves : Bool) : Type 0 where
  pub to : t.entries dt nt ≡ s.entries df nf
  pub from : t.entries df nf ≡ left_at leaves
  pub others : (c : ℕ) (m : List ℕ) → (c ≡ df → m ≡ nf → ⊥) → (c ≡ dt → m ≡ nt → ⊥) → t.entries c m ≡ s.entries c m
  pub nodes : (c : ℕ) → t.nodes c ≡ s.nodes c
  pub bodies : (c : ℕ) → t.bodies c ≡ s.bodies c
  pub counts : (c : ℕ) → t.counts c ≡ s.counts c

-- t is s without a directory's inode, whose slot is vacant, or with one name fewer of a leaf: a link fewer, or the slot vacant and the place free
pub record Frees (s t : SlotView) (ps qs : List (ℕ × ℕ)) (k : ℕ) : Type 0 where
  pub entries : (c : ℕ) (m : List ℕ) → (c ≡ k → ⊥) → t.entries c m ≡ s.entries c m
  pub nodes : (c : ℕ) → (c ≡ k → ⊥) → t.nodes c ≡ s.nodes c
  pub bodies : (c : ℕ) → (c ≡ k → ⊥) → t.bodies c ≡ s.bodies c
  pub counts : (c : ℕ) → (c ≡ k → ⊥) → t.counts c ≡ s.counts c
  pub leaf : (j : ℕ) (m : List ℕ) → option_and_then number_of (s.nodes k) ≡ Some j → t.entries k m ≡ s.entries k m
  pub more : (j : ℕ) → option_and_then number_of (s.nodes k) ≡ Some j → 1 < s.counts k → (t.nodes k ≡ s.nodes k) × (t.bodies k ≡ s.bodies k) × (t.counts k + 1 ≡ s.counts k) × (qs ≡ ps)
  pub last : (j : ℕ) → option_and_then number_of (s.nodes k) ≡ Some j → s.counts k ≤ 1 → qs ≡ remove_entry (is_at (nat_cmp j)) ps
  pub dir : option_and_then number_of (s.nodes k) ≡ None → qs ≡ ps
  pub last_slot : (j : ℕ) → option_and_then number_of (s.nodes k) ≡ Some j → s.counts k ≤ 1 → t.nodes k ≡ None
  pub dir_slot : option_and_then number_of (s.nodes k) ≡ None → t.nodes k ≡ None

-- t is s without what an entry had
abbrev pub Releases : SlotView → SlotView → List (ℕ × ℕ) → List (ℕ × ℕ) → Option Target → Type 0
Releases s t ps qs (Some (target.Inode k)) = Frees s t ps qs k
Releases s t ps qs other = Same s t × (qs ≡ ps)

-- t has the target, or nothing, at the entry, in place of what s has there, which is released
pub record Drops (s t : SlotView) (ps qs : List (ℕ × ℕ)) (d : ℕ) (n : List ℕ) (w : Option Target) : Type 0 where
  pub between : SlotView
  pub links : Links s between d n w
  pub releases : Releases between t ps qs (s.entries d n)

-- the same with a whiteout
abbrev pub LeavesWhiteout : SlotView → SlotView → List (ℕ × ℕ) → List (ℕ × ℕ) → ℕ → List ℕ → Type 0
LeavesWhiteout s t ps qs d n = Drops s t ps qs d n (Some target.Whiteout)

-- t reads as s, but for a link fewer of the leaf with the key
pub record Lowers (s t : SlotView) (k : ℕ) : Type 0 where
  pub entries : (c : ℕ) (m : List ℕ) → t.entries c m ≡ s.entries c m
  pub nodes : (c : ℕ) → t.nodes c ≡ s.nodes c
  pub bodies : (c : ℕ) → t.bodies c ≡ s.bodies c
  pub counts : (c : ℕ) → (c ≡ k → ⊥) → t.counts c ≡ s.counts c
  pub lower : t.counts k + 1 ≡ s.counts k

-- t reads as s, but for a link more of the leaf with the key
pub record Raises (s t : SlotView) (k : ℕ) : Type 0 where
  pub entries : (c : ℕ) (m : List ℕ) → t.entries c m ≡ s.entries c m
  pub bare : (m : List ℕ) → t.entries k m ≡ None
  pub nodes : (c : ℕ) → t.nodes c ≡ s.nodes c
  pub bodies : (c : ℕ) → t.bodies c ≡ s.bodies c
  pub counts : (c : ℕ) → (c ≡ k → ⊥) → t.counts c ≡ s.counts c
  pub raise : t.counts k ≡ s.counts k + 1

-- t is s with one more entry for the leaf with the key, and a link more
pub record Gains (s t : SlotView) (d : ℕ) (n : List ℕ) (k : ℕ) : Type 0 where
  pub entries : Puts s.entries t.entries d n (Some (target.Inode k))
  pub bare : (m : List ℕ) → t.entries k m ≡ None
  pub nodes : (c : ℕ) → t.nodes c ≡ s.nodes c
  pub bodies : (c : ℕ) → t.bodies c ≡ s.bodies c
  pub counts : (c : ℕ) → (c ≡ k → ⊥) → t.counts c ≡ s.counts c
  pub count : t.counts k ≡ s.counts k + 1

-- t reads as s, but for the node with the key
pub record Renodes (s t : SlotView) (k : ℕ) (v : Node) : Type 0 where
  pub entries : (c : ℕ) (m : List ℕ) → t.entries c m ≡ s.entries c m
  pub node : t.nodes k ≡ Some v
  pub nodes : (c : ℕ) → (c ≡ k → ⊥) → t.nodes c ≡ s.nodes c
  pub bodies : (c : ℕ) → t.bodies c ≡ s.bodies c
  pub counts : (c : ℕ) → t.counts c ≡ s.counts c

-- t reads as s, but for the body with the key
pub record Rebodies (s t : SlotView) (k : ℕ) (b : Body) : Type 0 where
  pub entries : (c : ℕ) (m : List ℕ) → t.entries c m ≡ s.entries c m
  pub nodes : (c : ℕ) → t.nodes c ≡ s.nodes c
  pub body : t.bodies k ≡ Some b
  pub bodies : (c : ℕ) → (c ≡ k → ⊥) → t.bodies c ≡ s.bodies c
  pub counts : (c : ℕ) → t.counts c ≡ s.counts c

-- what stands at the entry, if anything does, is covered
abbrev pub Clears : SlotView → SlotView → List (ℕ × ℕ) → List (ℕ × ℕ) → ℕ → List ℕ → Option Target → Type 0
Clears s t ps qs d n None = Same s t × (qs ≡ ps)
Clears s t ps qs d n (Some w) = LeavesWhiteout s t ps qs d n

-- t has a new inode at the entry, in place of what s has there, and a new number for it
pub record Enters (s t : SlotView) (ps qs : List (ℕ × ℕ)) (d : ℕ) (n : List ℕ) (x : ℕ) (v : Node) (b : Option Body) (l : ℕ) : Type 0 where
  pub cleared : SlotView
  pub left : List (ℕ × ℕ)
  pub key : ℕ
  pub clears : Clears s cleared ps left d n (s.entries d n)
  pub adds : Adds cleared t d n key v b l
  pub places : qs ≡ insert_entry nat_cmp left x key

-- both inodes read alike: a clone of one
pub record Alike (a b : Inode) : Type 0 where
  pub entries : (m : List ℕ) → entry_of (Some b) m ≡ entry_of (Some a) m
  pub node : node_of (Some b) ≡ node_of (Some a)
  pub body : body_of (Some b) ≡ body_of (Some a)
  pub count : links_of (Some b) ≡ links_of (Some a)

-- t has one more name of the leaf with the key at the entry, in place of what s has there, which is released
pub record Renames (s t : SlotView) (ps qs : List (ℕ × ℕ)) (d : ℕ) (n : List ℕ) (k : ℕ) : Type 0 where
  pub cleared : SlotView
  pub clears : Clears s cleared ps qs d n (s.entries d n)
  pub gains : Gains cleared t d n k

-- t has at one entry what s had at another, in place of what s has there, which is released
pub record Relocates (s t : SlotView) (ps qs : List (ℕ × ℕ)) (df : ℕ) (nf : List ℕ) (dt : ℕ) (nt : List ℕ) (leaves : Bool) : Type 0 where
  pub cleared : SlotView
  pub clears : Clears s cleared ps qs dt nt (s.entries dt nt)
  pub shifted : Shifted cleared t df nf dt nt leaves
