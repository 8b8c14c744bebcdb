-- The line of each piece of a saved store: a command of a script, JSON with the keys of each object in byte order.
use Rattle.std.specs.Prelude.{ℕ, Bool, List, Option, Some, None, codes}
use Rattle.std.specs.Option.{option_map, option_map_or}
use Rattle.hex.specs.Hex.{encode_lower}
use Rattle.serde_json.specs.Data.{Data, boolean, number, string, object, unsigned, Members, no_members, member}
use Rattle.snap_path.specs.Text.{Names, text_of}
use Rattle.snap_usage.specs.declared.usage.Usage.{Usage}
use Rattle.snap_record.specs.Kinds.{kind_word}
use Rattle.snap_record.specs.declared.kind.Kind.TheVariants as snapshot_kinds
use Rattle.snap_saved.specs.declared.piece.FileKind.{FileKind}
use Rattle.snap_saved.specs.declared.piece.FileKind.TheVariants as file_kinds
use Rattle.snap_saved.specs.declared.piece.Head.{Head}
use Rattle.snap_saved.specs.declared.piece.Piece.{Piece}
use Rattle.snap_saved.specs.declared.piece.Piece.TheVariants as layer_pieces
use Rattle.snap_pieces.specs.declared.line.Line.{Line}
use Rattle.snap_pieces.specs.declared.line.Line.TheVariants as lines
use Rattle.snap_pieces.specs.declared.piece.SnapshotHead.{SnapshotHead}
use Rattle.snap_pieces.specs.declared.piece.SnapshotKind.{SnapshotKind}
use Rattle.snap_pieces.specs.declared.piece.SnapshotKind.TheVariants as kinds
use Rattle.snap_pieces.specs.declared.piece.StoreHead.{StoreHead}
use Rattle.snap_pieces.specs.declared.piece.StorePiece.{StorePiece}
use Rattle.snap_pieces.specs.declared.piece.StorePiece.TheVariants as pieces

-- ---- values

-- a number that isn't negative
abbrev pub natural_data : ℕ → Data
natural_data n = number (unsigned n)

-- a path's text
abbrev pub path_data : Names → Data
path_data p = string (text_of p)

-- bytes, two hexadecimal digits each
abbrev pub bytes_data : List ℕ → Data
bytes_data bs = string (encode_lower bs)

-- a member before the others, where there is one
abbrev pub maybe_member : List ℕ → Option Data → Members → Members
maybe_member key value rest = option_map_or (λ d. member key d rest) value rest

-- the last member
abbrev pub last : List ℕ → Data → Members
last key value = member key value no_members

-- each line is the command `restore`
abbrev pub with_command : Members → Members
with_command rest = member (codes "do") (string (codes "restore")) rest

-- ---- what a snapshot holds

-- its slot, where it is active
abbrev pub active_slot : SnapshotKind → Option ℕ
active_slot (kinds.Active slot charged hand) = Some slot
active_slot kind = None

-- what its namespace is charged for it, where it is active
abbrev pub charged_in : SnapshotKind → Option Usage
charged_in (kinds.Active slot charged hand) = Some charged
charged_in kind = None

-- its layer's head, where it has a layer
abbrev pub layer_in : SnapshotKind → Option Head
layer_in kinds.View = None
layer_in (kinds.Active slot charged hand) = option_map (λ h. h.layer) hand
layer_in (kinds.Committed layer) = Some layer

-- whether its hand is sealed, where it has one
abbrev pub sealed_in : SnapshotKind → Option Bool
sealed_in (kinds.Active slot charged hand) = option_map (λ h. h.sealed) hand
sealed_in kind = None

-- the word of its kind
abbrev pub kind_name : SnapshotKind → List ℕ
kind_name kinds.View = kind_word snapshot_kinds.View
kind_name (kinds.Active slot charged hand) = kind_word snapshot_kinds.Active
kind_name (kinds.Committed layer) = kind_word snapshot_kinds.Committed

-- a part of its layer's head
abbrev pub in_head : {X : Type 0} → (Head → X) → SnapshotKind → Option X
in_head part kind = option_map part (layer_in kind)

-- a part of what its namespace is charged for it
abbrev pub in_charge : (Usage → ℕ) → SnapshotKind → Option ℕ
in_charge part kind = option_map part (charged_in kind)

-- ---- lines

-- the head of a store
abbrev pub head_data : StoreHead → Data
head_data h = object
    (member (codes "ancestors") (natural_data h.ancestors) (with_command
    (member (codes "entries") (natural_data h.entries) (member (codes "first_id") (natural_data h.first_id)
    (member (codes "journal") (natural_data h.journal) (member (codes "layer_inodes") (natural_data h.layer_inodes)
    (member (codes "next_id") (natural_data h.next_id) (member (codes "piece") (string (codes "store"))
    (member (codes "root") (string h.root) (last (codes "slots") (natural_data h.slots)))))))))))

-- the first members of a snapshot, up to the word of its kind
abbrev pub first_members : SnapshotHead → Members → Members
first_members h rest =
    maybe_member (codes "blocks") (option_map natural_data (in_charge (λ u. u.blocks) h.kind))
    (member (codes "created") (natural_data h.created) (with_command
    (maybe_member (codes "inodes") (option_map natural_data (in_charge (λ u. u.inodes) h.kind))
    (member (codes "key") (string h.key) (member (codes "kind") (string (kind_name h.kind)) rest)))))

-- the next ones: its layer's head, its namespace and its parent
abbrev pub next_members : SnapshotHead → Members → Members
next_members h rest =
    maybe_member (codes "mode") (option_map natural_data (in_head (λ l. l.meta.mode) h.kind))
    (maybe_member (codes "most") (option_map natural_data (in_head (λ l. l.most) h.kind))
    (maybe_member (codes "next") (option_map natural_data (in_head (λ l. l.next) h.kind))
    (member (codes "ns") (string h.namespace)
    (maybe_member (codes "opaque") (option_map boolean (in_head (λ l. l.opaque) h.kind))
    (member (codes "parent") (string h.parent) rest)))))

-- the last ones
abbrev pub last_members : SnapshotHead → Members
last_members h =
    member (codes "piece") (string (codes "snapshot"))
    (maybe_member (codes "sealed") (option_map boolean (sealed_in h.kind))
    (maybe_member (codes "slot") (option_map natural_data (active_slot h.kind))
    (member (codes "snapshot_id") (natural_data h.id) (last (codes "updated") (natural_data h.updated)))))

-- a snapshot without its labels and the pieces of its layer
abbrev pub snapshot_data : SnapshotHead → Data
snapshot_data h = object (first_members h (next_members h (last_members h)))

-- a file or symlink, without its bytes and its names
abbrev pub file_data : ℕ → FileKind → Data
file_data n (file_kinds.Bytes meta) = object (with_command
    (member (codes "mode") (natural_data meta.mode) (member (codes "number") (natural_data n) (last (codes "piece") (string (codes "file"))))))
file_data n (file_kinds.Sized meta size digest) = object
    (maybe_member (codes "digest") (option_map bytes_data digest) (with_command
    (member (codes "mode") (natural_data meta.mode) (member (codes "number") (natural_data n)
    (member (codes "piece") (string (codes "sized")) (last (codes "size") (natural_data size)))))))
file_data n (file_kinds.Symlink target) = object (with_command
    (member (codes "number") (natural_data n) (member (codes "piece") (string (codes "symlink")) (last (codes "target") (bytes_data target)))))

-- a piece of a layer
abbrev pub layer_data : Piece → Data
layer_data (layer_pieces.Dir d) = object (with_command
    (member (codes "mode") (natural_data d.meta.mode) (member (codes "opaque") (boolean d.opaque)
    (member (codes "path") (path_data d.path) (last (codes "piece") (string (codes "dir")))))))
layer_data (layer_pieces.Whiteout p) = object (with_command (member (codes "path") (path_data p) (last (codes "piece") (string (codes "whiteout")))))
layer_data (layer_pieces.File n kind) = file_data n kind
layer_data (layer_pieces.Bytes bs) = object (member (codes "bytes") (bytes_data bs) (with_command (last (codes "piece") (string (codes "bytes")))))
layer_data (layer_pieces.Name p) = object (with_command (member (codes "path") (path_data p) (last (codes "piece") (string (codes "name")))))

-- a piece of a store
abbrev pub piece_data : StorePiece → Data
piece_data (pieces.Namespace n) = object
    (member (codes "blocks") (natural_data n.limit.blocks) (with_command
    (member (codes "inodes") (natural_data n.limit.inodes) (member (codes "name") (string n.name) (last (codes "piece") (string (codes "namespace")))))))
piece_data (pieces.Snapshot h) = snapshot_data h
piece_data (pieces.Label key value) = object (with_command
    (member (codes "key") (string key) (member (codes "piece") (string (codes "label")) (last (codes "value") (string value)))))
piece_data (pieces.Layer piece) = layer_data piece
piece_data (pieces.Lease namespace name until) = object (with_command
    (member (codes "name") (string name) (member (codes "ns") (string namespace)
    (member (codes "piece") (string (codes "lease")) (maybe_member (codes "until") (option_map natural_data until) no_members)))))
piece_data (pieces.Leased name) = object (with_command (member (codes "name") (string name) (last (codes "piece") (string (codes "leased")))))

-- a line
abbrev pub line_data : Line → Data
line_data (lines.Head h) = head_data h
line_data (lines.Piece piece) = piece_data piece
line_data (lines.End n) = object (with_command (member (codes "lines") (natural_data n) (last (codes "piece") (string (codes "end")))))
