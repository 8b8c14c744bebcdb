-- A saved layer as pieces, and what pieces make, one after another.
use Rattle.std.specs.Prelude.{ℕ, zero, suc, ◌+◌, nat_le, if◌then◌else◌, List, [], ◌∷◌, ◌++◌, length, map, take, drop, flat_map, fold, Option, None, Some, option_and_then, Result, Ok, Err}
use Rattle.std.specs.Result.{result_ok}
use Rattle.snap_path.specs.Limits.{most_file_bytes}
use Rattle.snap_path.specs.Text.{Names}
use Rattle.snap_layer.specs.declared.content.Content.TheVariants as contents
use Rattle.snap_layer.specs.declared.node.Body.{Body}
use Rattle.snap_layer.specs.declared.node.Body.TheVariants as bodies
use Rattle.snap_layer.specs.Tree.{Tree}
use Rattle.snap_saved.specs.declared.error.PieceError.{PieceError}
use Rattle.snap_saved.specs.declared.error.PieceError.TheVariants.{Misplaced, TooBig}
use Rattle.snap_saved.specs.declared.error.RestoreError.{RestoreError}
use Rattle.snap_saved.specs.declared.piece.FileKind.{FileKind}
use Rattle.snap_saved.specs.declared.piece.FileKind.TheVariants as file_kinds
use Rattle.snap_saved.specs.declared.piece.Head.{Head}
use Rattle.snap_saved.specs.declared.piece.Piece.{Piece}
use Rattle.snap_saved.specs.declared.piece.Piece.TheVariants as piece_kinds
use Rattle.snap_saved.specs.Restored.{restored_layer}
use Rattle.snap_saved.specs.Values.{SavedFileValue, SavedValue}

-- ---- the pieces of a saved layer

-- the bytes in pieces of 262144, of which the last may have less; at most n pieces
unfoldable pub bytes_in_at_most : ℕ → List ℕ → List (List ℕ)
bytes_in_at_most zero bs = []
bytes_in_at_most (suc n) [] = []
bytes_in_at_most (suc n) (b ∷ bs) = take 262144 (b ∷ bs) ∷ bytes_in_at_most n (drop 262144 (b ∷ bs))

-- all bytes in such pieces
abbrev pub bytes_in_pieces : List ℕ → List (List ℕ)
bytes_in_pieces bs = bytes_in_at_most (length bs) bs

-- what a file or symlink is, apart from its bytes
abbrev pub file_kind : Body → FileKind
file_kind (bodies.File meta (contents.Bytes bs)) = file_kinds.Bytes meta
file_kind (bodies.File meta (contents.Sized size digest)) = file_kinds.Sized meta size digest
file_kind (bodies.Symlink target) = file_kinds.Symlink target

-- the pieces of its bytes
abbrev pub byte_pieces : Body → List Piece
byte_pieces (bodies.File meta (contents.Bytes bs)) = map piece_kinds.Bytes (bytes_in_pieces bs)
byte_pieces other = []

-- its pieces: what it is, its bytes, its names
abbrev pub file_pieces : SavedFileValue → List Piece
file_pieces f = piece_kinds.File f.number (file_kind f.body) ∷ byte_pieces f.body ++ map piece_kinds.Name f.names

-- those of a layer: its directories, its whiteouts, its files and symlinks
abbrev pub pieces_of : SavedValue → List Piece
pieces_of s = map piece_kinds.Dir s.dirs ++ map piece_kinds.Whiteout s.whiteouts ++ flat_map file_pieces s.files

-- what it has besides them
abbrev pub head_of : SavedValue → Head
head_of s = record { meta = s.meta; opaque = s.opaque; next = s.next; most = s.most }

-- ---- what pieces make

-- what is gathered of a layer: its parts but for the last file or symlink, and this with the pieces that it has yet
pub record GatheringValue : Type 0 where
  pub parts : SavedValue
  pub file : Option SavedFileValue

-- before the first piece
abbrev pub begun_layer : Head → GatheringValue
begun_layer h = record { parts = record { meta = h.meta; opaque = h.opaque; dirs = []; whiteouts = []; files = []; next = h.next; most = h.most }; file = None }

-- what a file or symlink has, with these bytes where they are kept
abbrev pub body_with : FileKind → List ℕ → Body
body_with (file_kinds.Bytes meta) bs = bodies.File meta (contents.Bytes bs)
body_with (file_kinds.Sized meta size digest) bs = bodies.File meta (contents.Sized size digest)
body_with (file_kinds.Symlink target) bs = bodies.Symlink target

-- one that begins: it has neither bytes nor names yet
abbrev pub begun_file : ℕ → FileKind → SavedFileValue
begun_file number kind = record { number = number; body = body_with kind []; names = [] }

-- one with further bytes, where its body keeps them: at most 1048576
abbrev pub with_bytes : List ℕ → SavedFileValue → Body → Result SavedFileValue PieceError
with_bytes more f (bodies.File meta (contents.Bytes bs)) = if nat_le (length bs + length more) most_file_bytes then Ok (record f { body = bodies.File meta (contents.Bytes (bs ++ more)) }) else Err TooBig
with_bytes more f other = Err Misplaced

-- one with one more name
abbrev pub with_file_name : Names → SavedFileValue → SavedFileValue
with_file_name p f = record f { names = f.names ++ p ∷ [] }

-- parts with one more file, where there is one
abbrev pub parts_with : SavedValue → Option SavedFileValue → SavedValue
parts_with s (Some f) = record s { files = s.files ++ f ∷ [] }
parts_with s None = s

-- the parts that are gathered
abbrev pub gathered_parts : GatheringValue → SavedValue
gathered_parts g = parts_with g.parts g.file

-- no piece of its last file comes any more
abbrev pub file_closed : GatheringValue → GatheringValue
file_closed g = record { parts = gathered_parts g; file = None }

-- what is gathered with this as its last file, or the error
abbrev pub in_file : GatheringValue → Result SavedFileValue PieceError → Result GatheringValue PieceError
in_file g (Ok f) = Ok (record g { file = Some f })
in_file g (Err e) = Err e

-- what is gathered with a change of its last file or symlink, where one has begun
abbrev pub with_file_piece : GatheringValue → Option SavedFileValue → (SavedFileValue → Result SavedFileValue PieceError) → Result GatheringValue PieceError
with_file_piece g (Some f) change = in_file g (change f)
with_file_piece g None change = Err Misplaced

-- what is gathered with one more piece, or why it is not put
abbrev pub with_piece : GatheringValue → Piece → Result GatheringValue PieceError
with_piece g (piece_kinds.Dir d) = Ok (record g { parts = record g.parts { dirs = g.parts.dirs ++ d ∷ [] } })
with_piece g (piece_kinds.Whiteout p) = Ok (record g { parts = record g.parts { whiteouts = g.parts.whiteouts ++ p ∷ [] } })
with_piece g (piece_kinds.File number kind) = Ok (record (file_closed g) { file = Some (begun_file number kind) })
with_piece g (piece_kinds.Bytes more) = with_file_piece g g.file (λ f. with_bytes more f f.body)
with_piece g (piece_kinds.Name p) = with_file_piece g g.file (λ f. Ok (with_file_name p f))

-- the same after an earlier answer, of which an error stays
abbrev pub with_next_piece : Result GatheringValue PieceError → Piece → Result GatheringValue PieceError
with_next_piece (Ok g) piece = with_piece g piece
with_next_piece (Err e) piece = Err e

-- what is gathered with all pieces one after another, or the first error
abbrev pub with_pieces : GatheringValue → List Piece → Result GatheringValue PieceError
with_pieces g pieces = fold with_next_piece (Ok g) pieces

-- the layer of what is gathered, or why there is none
abbrev pub gathered_layer : GatheringValue → Result Tree RestoreError
gathered_layer g = restored_layer (gathered_parts g)

-- the layer of the pieces one after another, where they make one
abbrev pub layer_of_pieces : Head → List Piece → Option Tree
layer_of_pieces h pieces = option_and_then (λ g. result_ok (gathered_layer g)) (result_ok (with_pieces (begun_layer h) pieces))
