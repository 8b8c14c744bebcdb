-- Which lines are read back as they were written: those whose parts are within the ranges of their kinds, as all are that `write_line` writes.
use Rattle.std.specs.Prelude.{ℕ, ◌<◌, ◌^◌, IfSome}
use Rattle.hex.specs.Hex.{IsBytes}
use Rattle.snap_path.specs.Text.{IsPath}
use Rattle.snap_saved.specs.declared.piece.FileKind.{FileKind}
use Rattle.snap_saved.specs.declared.piece.FileKind.TheVariants as file_kinds
use Rattle.snap_saved.specs.declared.piece.Head.{Head}
use Rattle.snap_saved.specs.declared.piece.Piece.{Piece}
use Rattle.snap_saved.specs.declared.piece.Piece.TheVariants as layer_pieces
use Rattle.snap_pieces.specs.declared.line.Line.{Line}
use Rattle.snap_pieces.specs.declared.line.Line.TheVariants as lines
use Rattle.snap_pieces.specs.declared.piece.SnapshotKind.{SnapshotKind}
use Rattle.snap_pieces.specs.declared.piece.SnapshotKind.TheVariants as kinds
use Rattle.snap_pieces.specs.declared.piece.StorePiece.{StorePiece}
use Rattle.snap_pieces.specs.declared.piece.StorePiece.TheVariants as pieces

-- a number of 32 bits
abbrev pub IsSmall : ℕ → Type 0
IsSmall n = n < 2 ^ 32

-- a number of 64 bits
abbrev pub IsWide : ℕ → Type 0
IsWide n = n < 2 ^ 64

-- a layer's head
abbrev pub IsHead : Head → Type 0
IsHead h = IsSmall h.meta.mode × IsSmall h.next × IsWide h.most

-- what a snapshot holds
abbrev pub IsKind : SnapshotKind → Type 0
IsKind kinds.View = Unit {0}
IsKind (kinds.Active slot charged hand) = IsWide slot × IsWide charged.blocks × IsWide charged.inodes × IfSome hand (λ h. IsHead h.layer)
IsKind (kinds.Committed layer) = IsHead layer

-- what a file or symlink is
abbrev pub IsFileKind : FileKind → Type 0
IsFileKind (file_kinds.Bytes meta) = IsSmall meta.mode
IsFileKind (file_kinds.Sized meta size digest) = IsSmall meta.mode × IfSome digest IsBytes × IsWide size
IsFileKind (file_kinds.Symlink target) = IsBytes target

-- a piece of a layer
abbrev pub IsLayerPiece : Piece → Type 0
IsLayerPiece (layer_pieces.Dir d) = IsPath d.path × IsSmall d.meta.mode
IsLayerPiece (layer_pieces.Whiteout p) = IsPath p
IsLayerPiece (layer_pieces.File n kind) = IsSmall n × IsFileKind kind
IsLayerPiece (layer_pieces.Bytes bs) = IsBytes bs
IsLayerPiece (layer_pieces.Name p) = IsPath p

-- a piece of a store
abbrev pub IsStorePiece : StorePiece → Type 0
IsStorePiece (pieces.Namespace n) = IsWide n.limit.blocks × IsWide n.limit.inodes
IsStorePiece (pieces.Snapshot h) = IsSmall h.id × IsKind h.kind × IsWide h.created × IsWide h.updated
IsStorePiece (pieces.Layer piece) = IsLayerPiece piece
IsStorePiece (pieces.Label key value) = Unit {0}
IsStorePiece (pieces.Lease namespace name until) = IfSome until IsWide
IsStorePiece (pieces.Leased name) = Unit {0}

-- a line
abbrev pub IsLine : Line → Type 0
IsLine (lines.Head h) = IsSmall h.first_id × IsWide h.slots × IsWide h.journal × IsWide h.layer_inodes × IsWide h.ancestors × IsWide h.entries × IsWide h.next_id
IsLine (lines.Piece piece) = IsStorePiece piece
IsLine (lines.End n) = IsWide n
