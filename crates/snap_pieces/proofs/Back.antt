-- What is read of a written line is what was written.
use Rattle.std.proofs.Common.{◌≡◌, ℕ, ◌^◌, Bool, List, None, Some, refl, ap, ◌∙◌}
use Rattle.std.specs.Prelude.{nat_lt, if◌then◌else◌, Result, Ok, Err}
use Rattle.std.specs.Result.{result_ok}
use Rattle.std.proofs.lemmas.Bool.{lt-ltb}
use Rattle.hex.specs.Hex.{IsBytes, decode_of, encode_lower}
use Rattle.hex.specs.declared.error.FromHexError.{FromHexError}
use Rattle.hex.proofs.HexLemmas.{decode_of-encode_lower}
use Rattle.snap_path.specs.Text.{IsPath, Names, is_path, path_names, text_of}
use Rattle.snap_path.proofs.Texts.{spelling}
use Rattle.snap_layer.specs.declared.node.Meta.{Meta}
use Rattle.snap_saved.specs.declared.dir.SavedDir.{SavedDir}
use Rattle.snap_saved.specs.declared.piece.FileKind.{FileKind}
use Rattle.snap_saved.specs.declared.piece.FileKind.TheVariants as file_kinds
use Rattle.snap_saved.specs.declared.piece.Head.{Head}
use Rattle.snap_saved.specs.declared.piece.Piece.{Piece}
use Rattle.snap_saved.specs.declared.piece.Piece.TheVariants as layer_pieces
use Rattle.snap_call.specs.Results.{◌>>=◌}
use Rattle.snap_pieces.specs.Back.{IsFileKind, IsHead, IsKind, IsLayerPiece, IsLine, IsSmall, IsStorePiece}
use Rattle.snap_pieces.specs.Read.{field_found, line_said}
use Rattle.snap_pieces.specs.Written.{file_data, layer_data, line_data, piece_data}
use Rattle.snap_pieces.specs.declared.field.LineField.{LineField}
use Rattle.snap_pieces.specs.declared.field.LineField.TheVariants as fields
use Rattle.snap_pieces.specs.declared.line.Line.{Line}
use Rattle.snap_pieces.specs.declared.line.Line.TheVariants as lines
use Rattle.snap_pieces.specs.declared.piece.HandHead.{HandHead}
use Rattle.snap_pieces.specs.declared.piece.SnapshotHead.{SnapshotHead}
use Rattle.snap_pieces.specs.declared.piece.SnapshotKind.{SnapshotKind}
use Rattle.snap_pieces.specs.declared.piece.SnapshotKind.TheVariants as kinds
use Rattle.snap_pieces.specs.declared.piece.StoreHead.{StoreHead}
use Rattle.snap_pieces.specs.declared.piece.StorePiece.{StorePiece}
use Rattle.snap_pieces.specs.declared.piece.StorePiece.TheVariants as pieces

-- ---- values

-- what is read, or the field
abbrev Read : Type 0 → Type 0
Read X = Result X LineField

small_back : (field : LineField) (n : ℕ) → IsSmall n → (if nat_lt n (2 ^ 32) then Ok n else Err field) ≡ Ok n
small_back field n small = ap (λ b. if b then Ok n else Err field) (lt-ltb n (2 ^ 32) small)

path_back : (field : LineField) (p : Names) → IsPath p → (if is_path (text_of p) then Ok (path_names (text_of p)) else Err field) ≡ Ok p
path_back field p is =
    let both = (spelling (text_of p)).only p (is, refl) in
    ap (λ b. if b then Ok (path_names (text_of p)) else Err field) both.0 ∙ ap (λ (q : Names). Ok q) both.1

bytes_back : (field : LineField) (bs : List ℕ) → IsBytes bs → field_found field (result_ok (decode_of (encode_lower bs))) ≡ Ok bs
bytes_back field bs are = ap (λ (r : Result (List ℕ) FromHexError). field_found field (result_ok r)) (decode_of-encode_lower bs are)

-- ---- heads

-- a layer's head of what is read
abbrev head_of : Bool → ℕ → Read ℕ → Read ℕ → Read Head
head_of opaque most mode next = (mode >>= λ m. Ok (record { mode = m })) >>= λ (meta : Meta). next >>= λ n. Ok (record { meta = meta; opaque = opaque; next = n; most = most })

-- that of a snapshot
abbrev snapshot_of : SnapshotHead → Read ℕ → Read SnapshotKind → Read Line
snapshot_of h id kind = (id >>= λ i. kind >>= λ k. Ok (record h { id = i; kind = k })) >>= λ head. Ok (lines.Piece (pieces.Snapshot head))

layer_head_back : (h : Head) → IsHead h → head_of h.opaque h.most (if nat_lt h.meta.mode (2 ^ 32) then Ok h.meta.mode else Err fields.Mode) (if nat_lt h.next (2 ^ 32) then Ok h.next else Err fields.Next) ≡ Ok h
layer_head_back h is = λ i. head_of h.opaque h.most (small_back fields.Mode h.meta.mode is.0 i) (small_back fields.Next h.next is.1 i)

snapshot_back : (h : SnapshotHead) → IsSmall h.id → IsKind h.kind → line_said (piece_data (pieces.Snapshot h)) ≡ Ok (lines.Piece (pieces.Snapshot h))
snapshot_back h small is = by h.kind is
  where
    id : (if nat_lt h.id (2 ^ 32) then Ok h.id else Err fields.Id) ≡ Ok h.id
    id = small_back fields.Id h.id small

    by : (k : SnapshotKind) → IsKind k → line_said (piece_data (pieces.Snapshot (record h { kind = k }))) ≡ Ok (lines.Piece (pieces.Snapshot (record h { kind = k })))
    by kinds.View is = λ i. snapshot_of h (id i) (Ok kinds.View)
    by (kinds.Active slot charged None) is = λ i. snapshot_of h (id i) (Ok (kinds.Active slot charged None))
    by (kinds.Active slot charged (Some hand)) is = λ i. snapshot_of h (id i)
        (((layer_head_back hand.layer is.3 i >>= λ layer. Ok (record { sealed = hand.sealed; layer = layer })) >>= λ (x : HandHead). Ok (Some x)) >>= λ held. Ok (kinds.Active slot charged held))
    by (kinds.Committed layer) is = λ i. snapshot_of h (id i) (layer_head_back layer is i >>= λ l. Ok (kinds.Committed l))

-- ---- pieces of layers

-- one of what is read
abbrev layer_of : Read Piece → Read Line
layer_of piece = piece >>= λ p. Ok (lines.Piece (pieces.Layer p))

-- a file or symlink
abbrev file_of : Read ℕ → Read FileKind → Read Line
file_of n kind = layer_of (n >>= λ number. kind >>= λ k. Ok (layer_pieces.File number k))

-- a mode
abbrev meta_of : Read ℕ → Read Meta
meta_of mode = mode >>= λ m. Ok (record { mode = m })

file_back : (n : ℕ) (kind : FileKind) → IsSmall n → IsFileKind kind → line_said (file_data n kind) ≡ Ok (lines.Piece (pieces.Layer (layer_pieces.File n kind)))
file_back n (file_kinds.Bytes meta) small is = λ i. file_of (small_back fields.Number n small i) (meta_of (small_back fields.Mode meta.mode is i) >>= λ m. Ok (file_kinds.Bytes m))
file_back n (file_kinds.Sized meta size None) small is = λ i. file_of (small_back fields.Number n small i) (meta_of (small_back fields.Mode meta.mode is.0 i) >>= λ m. Ok (file_kinds.Sized m size None))
file_back n (file_kinds.Sized meta size (Some digest)) small is = λ i. file_of (small_back fields.Number n small i)
    (meta_of (small_back fields.Mode meta.mode is.0 i) >>= λ m. (bytes_back fields.Digest digest is.1 i >>= λ (x : List ℕ). Ok (Some x)) >>= λ d. Ok (file_kinds.Sized m size d))
file_back n (file_kinds.Symlink target) small is = λ i. file_of (small_back fields.Number n small i) (bytes_back fields.Target target is i >>= λ t. Ok (file_kinds.Symlink t))

layer_back : (piece : Piece) → IsLayerPiece piece → line_said (layer_data piece) ≡ Ok (lines.Piece (pieces.Layer piece))
layer_back (layer_pieces.Dir d) is = λ i. layer_of
    ((path_back fields.Path d.path is.0 i >>= λ path. meta_of (small_back fields.Mode d.meta.mode is.1 i) >>= λ meta. Ok (record { path = path; meta = meta; opaque = d.opaque })) >>= λ (x : SavedDir). Ok (layer_pieces.Dir x))
layer_back (layer_pieces.Whiteout p) is = λ i. layer_of (path_back fields.Path p is i >>= λ q. Ok (layer_pieces.Whiteout q))
layer_back (layer_pieces.File n kind) is = file_back n kind is.0 is.1
layer_back (layer_pieces.Bytes bs) is = λ i. layer_of (bytes_back fields.Bytes bs is i >>= λ x. Ok (layer_pieces.Bytes x))
layer_back (layer_pieces.Name p) is = λ i. layer_of (path_back fields.Path p is i >>= λ q. Ok (layer_pieces.Name q))

-- ---- lines

piece_back : (piece : StorePiece) → IsStorePiece piece → line_said (piece_data piece) ≡ Ok (lines.Piece piece)
piece_back (pieces.Namespace n) is = refl
piece_back (pieces.Snapshot h) is = snapshot_back h is.0 is.1
piece_back (pieces.Label key value) is = refl
piece_back (pieces.Layer piece) is = layer_back piece is
piece_back (pieces.Lease namespace name None) is = refl
piece_back (pieces.Lease namespace name (Some until)) is = refl
piece_back (pieces.Leased name) is = refl

-- what is read of a line is what was written
pub line_back : (l : Line) → IsLine l → line_said (line_data l) ≡ Ok l
line_back (lines.Head h) is = λ i. (small_back fields.FirstId h.first_id is.0 i >>= λ first. Ok (record h { first_id = first })) >>= λ (x : StoreHead). Ok (lines.Head x)
line_back (lines.Piece piece) is = piece_back piece is
line_back (lines.End n) is = refl
