-- What is read of the text of a line is its value.
use Rattle.std.proofs.Common.{◌≡◌, ◌<◌, ◌^◌, ℕ, None, Some, refl, arith}
use Rattle.serde_json.specs.Data.{Data}
use Rattle.serde_json.specs.Read.{read}
use Rattle.serde_json.specs.Written.{compact_text}
use Rattle.snap_saved.specs.declared.piece.FileKind.{FileKind}
use Rattle.snap_saved.specs.declared.piece.FileKind.TheVariants as file_kinds
use Rattle.snap_saved.specs.declared.piece.Piece.{Piece}
use Rattle.snap_saved.specs.declared.piece.Piece.TheVariants as layer_pieces
use Rattle.snap_pieces.specs.Back.{IsFileKind, IsKind, IsLayerPiece, IsLine, IsSmall, IsStorePiece}
use Rattle.snap_pieces.specs.Written.{file_data, layer_data, line_data, piece_data}
use Rattle.snap_pieces.specs.declared.line.Line.{Line}
use Rattle.snap_pieces.specs.declared.line.Line.TheVariants as lines
use Rattle.snap_pieces.specs.declared.piece.SnapshotHead.{SnapshotHead}
use Rattle.snap_pieces.specs.declared.piece.SnapshotKind.{SnapshotKind}
use Rattle.snap_pieces.specs.declared.piece.SnapshotKind.TheVariants as kinds
use Rattle.snap_pieces.specs.declared.piece.StorePiece.{StorePiece}
use Rattle.snap_pieces.specs.declared.piece.StorePiece.TheVariants as pieces
use Rattle.snap_pieces.proofs.FlatLaws.{flat_back}

-- what is read of the text of a value is the value
abbrev ReadsBack : Data → Type 0
ReadsBack d = read (compact_text d) ≡ Some d

-- a number of 32 bits has 64 bits
wide : (n : ℕ) → IsSmall n → n < 2 ^ 64
wide n small = omega (arith, small)

file_reads : (n : ℕ) (kind : FileKind) → IsSmall n → IsFileKind kind → ReadsBack (file_data n kind)
file_reads n (file_kinds.Bytes meta) small is = flat_back _ (tt, (wide meta.mode is, (wide n small, (tt, tt)))) refl
file_reads n (file_kinds.Sized meta size None) small is = flat_back _ (tt, (wide meta.mode is.0, (wide n small, (tt, (is.2, tt))))) refl
file_reads n (file_kinds.Sized meta size (Some digest)) small is = flat_back _ (tt, (tt, (wide meta.mode is.0, (wide n small, (tt, (is.2, tt)))))) refl
file_reads n (file_kinds.Symlink target) small is = flat_back _ (tt, (wide n small, (tt, (tt, tt)))) refl

layer_reads : (piece : Piece) → IsLayerPiece piece → ReadsBack (layer_data piece)
layer_reads (layer_pieces.Dir d) is = flat_back _ (tt, (wide d.meta.mode is.1, (tt, (tt, (tt, tt))))) refl
layer_reads (layer_pieces.Whiteout p) is = flat_back _ (tt, (tt, (tt, tt))) refl
layer_reads (layer_pieces.File n kind) is = file_reads n kind is.0 is.1
layer_reads (layer_pieces.Bytes bs) is = flat_back _ (tt, (tt, (tt, tt))) refl
layer_reads (layer_pieces.Name p) is = flat_back _ (tt, (tt, (tt, tt))) refl

snapshot_reads : (h : SnapshotHead) → IsStorePiece (pieces.Snapshot h) → ReadsBack (piece_data (pieces.Snapshot h))
snapshot_reads h is = by h.kind is.1
  where
    id : h.id < 2 ^ 64
    id = wide h.id is.0

    by : (k : SnapshotKind) → IsKind k → ReadsBack (piece_data (pieces.Snapshot (record h { kind = k })))
    by kinds.View of = flat_back _ (is.2, (tt, (tt, (tt, (tt, (tt, (tt, (id, (is.3, tt))))))))) refl
    by (kinds.Active slot charged None) of = flat_back _ (of.1, (is.2, (tt, (of.2, (tt, (tt, (tt, (tt, (tt, (of.0, (id, (is.3, tt)))))))))))) refl
    by (kinds.Active slot charged (Some hand)) of = let l = of.3 in
        flat_back _ (of.1, (is.2, (tt, (of.2, (tt, (tt, (wide hand.layer.meta.mode l.0, (l.2, (wide hand.layer.next l.1, (tt, (tt, (tt, (tt, (tt, (of.0, (id, (is.3, tt))))))))))))))))) refl
    by (kinds.Committed layer) of = flat_back _ (is.2, (tt, (tt, (tt, (wide layer.meta.mode of.0, (of.2, (wide layer.next of.1, (tt, (tt, (tt, (tt, (id, (is.3, tt))))))))))))) refl

piece_reads : (piece : StorePiece) → IsStorePiece piece → ReadsBack (piece_data piece)
piece_reads (pieces.Namespace n) is = flat_back _ (is.0, (tt, (is.1, (tt, (tt, tt))))) refl
piece_reads (pieces.Snapshot h) is = snapshot_reads h is
piece_reads (pieces.Label key value) is = flat_back _ (tt, (tt, (tt, (tt, tt)))) refl
piece_reads (pieces.Layer piece) is = layer_reads piece is
piece_reads (pieces.Lease namespace name None) is = flat_back _ (tt, (tt, (tt, (tt, tt)))) refl
piece_reads (pieces.Lease namespace name (Some until)) is = flat_back _ (tt, (tt, (tt, (tt, (is, tt))))) refl
piece_reads (pieces.Leased name) is = flat_back _ (tt, (tt, (tt, tt))) refl

-- what is read of the text of a line is its value
pub line_reads : (l : Line) → IsLine l → ReadsBack (line_data l)
line_reads (lines.Head h) is = flat_back _ (is.4, (tt, (is.5, (wide h.first_id is.0, (is.2, (is.3, (is.6, (tt, (tt, (is.1, tt)))))))))) refl
line_reads (lines.Piece piece) is = piece_reads piece is
line_reads (lines.End n) is = flat_back _ (tt, (is, (tt, tt))) refl
