-- What a line of a saved store says, or the first field, in the order of reading, that is missing or isn't of its kind.
use Rattle.std.specs.Prelude.{ℕ, ◌^◌, nat_lt, Bool, if◌then◌else◌, List, Option, None, Some, is_some, option_and_then, Result, Ok, Err}
use Rattle.std.specs.Result.{result_ok}
use Rattle.std.specs.Str.{bytes_eq}
use Rattle.hex.specs.Hex.{decode_of}
use Rattle.serde_json.specs.Data.{Data}
use Rattle.serde_json.specs.Find.{get, as_bool, as_number, as_str, as_u64}
use Rattle.snap_path.specs.Text.{Names, is_path, path_names}
use Rattle.snap_layer.specs.declared.node.Meta.{Meta}
use Rattle.snap_usage.specs.declared.usage.Usage.{Usage}
use Rattle.snap_record.specs.Kinds.{kind_word}
use Rattle.snap_record.specs.Labels.{Bytes}
use Rattle.snap_record.specs.declared.kind.Kind.TheVariants as snapshot_kinds
use Rattle.snap_saved.specs.declared.dir.SavedDir.{SavedDir}
use Rattle.snap_saved.specs.declared.piece.FileKind.{FileKind}
use Rattle.snap_saved.specs.declared.piece.FileKind.TheVariants as file_kinds
use Rattle.snap_saved.specs.declared.piece.Head.{Head}
use Rattle.snap_saved.specs.declared.piece.Piece.{Piece}
use Rattle.snap_saved.specs.declared.piece.Piece.TheVariants as layer_pieces
use Rattle.snap_call.specs.Results.{◌>>=◌}
use Rattle.snap_call.specs.declared.config.Namespace.{Namespace}
use Rattle.snap_pieces.specs.Fields.{line_field_name}
use Rattle.snap_pieces.specs.Words.{word_named}
use Rattle.snap_pieces.specs.declared.field.LineField.{LineField}
use Rattle.snap_pieces.specs.declared.field.LineField.TheVariants as fields
use Rattle.snap_pieces.specs.declared.line.Line.{Line}
use Rattle.snap_pieces.specs.declared.line.Line.TheVariants as lines
use Rattle.snap_pieces.specs.declared.piece.HandHead.{HandHead}
use Rattle.snap_pieces.specs.declared.piece.SnapshotHead.{SnapshotHead}
use Rattle.snap_pieces.specs.declared.piece.SnapshotKind.{SnapshotKind}
use Rattle.snap_pieces.specs.declared.piece.SnapshotKind.TheVariants as kinds
use Rattle.snap_pieces.specs.declared.piece.StoreHead.{StoreHead}
use Rattle.snap_pieces.specs.declared.piece.StorePiece.{StorePiece}
use Rattle.snap_pieces.specs.declared.piece.StorePiece.TheVariants as pieces
use Rattle.snap_pieces.specs.declared.word.Word.{Word}
use Rattle.snap_pieces.specs.declared.word.Word.TheVariants as words

-- ---- fields of each kind

-- what a field is, or the field
abbrev pub field_found : {X : Type 0} → LineField → Option X → Result X LineField
field_found field (Some x) = Ok x
field_found field None = Err field

-- the value of a field of a line
abbrev pub value_in : LineField → Data → Option Data
value_in field line = get (line_field_name field) line

-- a number: digits alone, below 2^64
abbrev pub natural_read : LineField → Data → Result ℕ LineField
natural_read field line = field_found field (option_and_then as_u64 (option_and_then as_number (value_in field line)))

-- one below 2^32
abbrev pub small_read : LineField → Data → Result ℕ LineField
small_read field line = do
  n ← natural_read field line
  if nat_lt n (2 ^ 32) then Ok n else Err field

-- `true` or `false`
abbrev pub flag_read : LineField → Data → Result Bool LineField
flag_read field line = field_found field (option_and_then as_bool (value_in field line))

-- a text
abbrev pub text_read : LineField → Data → Result Bytes LineField
text_read field line = field_found field (option_and_then as_str (value_in field line))

-- a path's text
abbrev pub names_read : LineField → Data → Result Names LineField
names_read field line = do
  text ← text_read field line
  if is_path text then Ok (path_names text) else Err field

-- bytes, two hexadecimal digits each
abbrev pub bytes_read : LineField → Data → Result (List ℕ) LineField
bytes_read field line = do
  text ← text_read field line
  field_found field (result_ok (decode_of text))

-- a field that may be absent
abbrev pub maybe_read : {X : Type 0} → (LineField → Data → Result X LineField) → LineField → Data → Result (Option X) LineField
maybe_read read field line = if is_some (value_in field line) then read field line >>= (λ x. Ok (Some x)) else Ok None

-- the mode
abbrev pub meta_read : Data → Result Meta LineField
meta_read line = do
  mode ← small_read fields.Mode line
  Ok (record { mode = mode })

-- blocks and inodes
abbrev pub usage_read : Data → Result Usage LineField
usage_read line = do
  blocks ← natural_read fields.Blocks line
  inodes ← natural_read fields.Inodes line
  Ok (record { blocks = blocks; inodes = inodes })

-- ---- a snapshot

-- the head of its layer
abbrev pub layer_head_read : Data → Result Head LineField
layer_head_read line = do
  meta ← meta_read line
  opaque ← flag_read fields.Opaque line
  next ← small_read fields.Next line
  most ← natural_read fields.Most line
  Ok (record { meta = meta; opaque = opaque; next = next; most = most })

-- its hand, where the line says whether it is sealed
abbrev pub hand_head_read : LineField → Data → Result HandHead LineField
hand_head_read field line = do
  sealed ← flag_read field line
  layer ← layer_head_read line
  Ok (record { sealed = sealed; layer = layer })

-- what an active one holds
abbrev pub active_read : Data → Result SnapshotKind LineField
active_read line = do
  slot ← natural_read fields.Slot line
  charged ← usage_read line
  hand ← maybe_read hand_head_read fields.Sealed line
  Ok (kinds.Active slot charged hand)

-- what one of the word holds
abbrev pub kind_of_word : Bytes → Data → Result SnapshotKind LineField
kind_of_word word line =
    if bytes_eq word (kind_word snapshot_kinds.View) then Ok kinds.View
    else if bytes_eq word (kind_word snapshot_kinds.Active) then active_read line
    else if bytes_eq word (kind_word snapshot_kinds.Committed) then layer_head_read line >>= (λ layer. Ok (kinds.Committed layer))
    else Err fields.Kind

-- what it holds
abbrev pub kind_read : Data → Result SnapshotKind LineField
kind_read line = do
  word ← text_read fields.Kind line
  kind_of_word word line

-- a snapshot without its labels and the pieces of its layer
abbrev pub snapshot_read : Data → Result SnapshotHead LineField
snapshot_read line = do
  namespace ← text_read fields.Namespace line
  key ← text_read fields.Key line
  parent ← text_read fields.Parent line
  id ← small_read fields.Id line
  created ← natural_read fields.Created line
  updated ← natural_read fields.Updated line
  kind ← kind_read line
  Ok (record { namespace = namespace; key = key; parent = parent; id = id; created = created; updated = updated; kind = kind })

-- ---- the other lines

-- the head of a store
abbrev pub store_read : Data → Result StoreHead LineField
store_read line = do
  root ← text_read fields.Root line
  slots ← natural_read fields.Slots line
  journal ← natural_read fields.Journal line
  first_id ← small_read fields.FirstId line
  layer_inodes ← natural_read fields.LayerInodes line
  ancestors ← natural_read fields.Ancestors line
  entries ← natural_read fields.Entries line
  next_id ← natural_read fields.NextId line
  Ok (record { root = root; slots = slots; journal = journal; first_id = first_id; layer_inodes = layer_inodes; ancestors = ancestors; entries = entries; next_id = next_id })

-- a place for a namespace
abbrev pub namespace_read : Data → Result Namespace LineField
namespace_read line = do
  name ← text_read fields.Name line
  limit ← usage_read line
  Ok (record { name = name; limit = limit })

-- a label
abbrev pub label_read : Data → Result StorePiece LineField
label_read line = do
  key ← text_read fields.Key line
  value ← text_read fields.Value line
  Ok (pieces.Label key value)

-- a lease without the snapshots that it names
abbrev pub lease_read : Data → Result StorePiece LineField
lease_read line = do
  namespace ← text_read fields.Namespace line
  name ← text_read fields.Name line
  until ← maybe_read natural_read fields.Until line
  Ok (pieces.Lease namespace name until)

-- a directory of a layer
abbrev pub dir_read : Data → Result SavedDir LineField
dir_read line = do
  path ← names_read fields.Path line
  meta ← meta_read line
  opaque ← flag_read fields.Opaque line
  Ok (record { path = path; meta = meta; opaque = opaque })

-- a file or symlink of this kind
abbrev pub file_read : (Data → Result FileKind LineField) → Data → Result Piece LineField
file_read read line = do
  n ← small_read fields.Number line
  kind ← read line
  Ok (layer_pieces.File n kind)

-- what a file is whose bytes follow
abbrev pub kept_read : Data → Result FileKind LineField
kept_read line = meta_read line >>= λ meta. Ok (file_kinds.Bytes meta)

-- what a file of a size is
abbrev pub sized_read : Data → Result FileKind LineField
sized_read line = do
  meta ← meta_read line
  size ← natural_read fields.Size line
  digest ← maybe_read bytes_read fields.Digest line
  Ok (file_kinds.Sized meta size digest)

-- what a symlink is
abbrev pub symlink_read : Data → Result FileKind LineField
symlink_read line = bytes_read fields.Target line >>= λ target. Ok (file_kinds.Symlink target)

-- a piece of a layer as a line
abbrev pub as_layer : Result Piece LineField → Result Line LineField
as_layer read = read >>= λ piece. Ok (lines.Piece (pieces.Layer piece))

-- a line of the word
abbrev pub line_of_word : Word → Data → Result Line LineField
line_of_word words.Bytes line = as_layer (bytes_read fields.Bytes line >>= λ bs. Ok (layer_pieces.Bytes bs))
line_of_word words.Dir line = as_layer (dir_read line >>= λ d. Ok (layer_pieces.Dir d))
line_of_word words.End line = do Ok (lines.End (← natural_read fields.Lines line))
line_of_word words.File line = as_layer (file_read kept_read line)
line_of_word words.Label line = label_read line >>= λ piece. Ok (lines.Piece piece)
line_of_word words.Lease line = lease_read line >>= λ piece. Ok (lines.Piece piece)
line_of_word words.Leased line = text_read fields.Name line >>= λ name. Ok (lines.Piece (pieces.Leased name))
line_of_word words.Name line = as_layer (names_read fields.Path line >>= λ p. Ok (layer_pieces.Name p))
line_of_word words.Namespace line = namespace_read line >>= λ n. Ok (lines.Piece (pieces.Namespace n))
line_of_word words.Sized line = as_layer (file_read sized_read line)
line_of_word words.Snapshot line = snapshot_read line >>= λ h. Ok (lines.Piece (pieces.Snapshot h))
line_of_word words.Store line = store_read line >>= λ h. Ok (lines.Head h)
line_of_word words.Symlink line = as_layer (file_read symlink_read line)
line_of_word words.Whiteout line = as_layer (names_read fields.Path line >>= λ p. Ok (layer_pieces.Whiteout p))

-- a line, by its field `piece`
abbrev pub line_said : Data → Result Line LineField
line_said line = do
  text ← text_read fields.Piece line
  word ← field_found fields.Piece (word_named text)
  line_of_word word line
