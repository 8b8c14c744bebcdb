-- What pieces make, one after another, and the saved store of all.
use Rattle.std.specs.Prelude.{ℕ, nat_le, if◌then◌else◌, List, [], ◌∷◌, ◌++◌, fold, length, Option, None, Some, is_some, Result, Ok, Err}
use Rattle.std.specs.Option.{option_map}
use Rattle.snap_record.specs.Labels.{Bytes, Label, value_of, with_label}
use Rattle.snap_saved.specs.Pieces.{begun_layer, gathered_layer, with_piece}
use Rattle.snap_saved.specs.declared.error.PieceError.{PieceError}
use Rattle.snap_saved.specs.declared.error.PieceError.TheVariants as piece_errors
use Rattle.snap_saved.specs.declared.error.RestoreError.{RestoreError}
use Rattle.snap_saved.specs.declared.error.RestoreError.TheVariants as restore_errors
use Rattle.snap_saved.specs.declared.piece.Piece.{Piece}
use Rattle.snap_call.specs.Results.{◌>>=◌}
use Rattle.snap_call.specs.declared.config.Config.{Config}
use Rattle.snap_call.specs.declared.config.Namespace.{Namespace}
use Rattle.snap_call.specs.declared.saved.SavedContent.{SavedContent}
use Rattle.snap_call.specs.declared.saved.SavedContent.TheVariants as contents
use Rattle.snap_call.specs.declared.saved_lease.SavedLease.{SavedLease}
use Rattle.snap_world.specs.declared.restoring.SavedHand.{SavedHand}
use Rattle.snap_world.specs.declared.save.SavedSnapshot.{SavedSnapshot}
use Rattle.snap_world.specs.Restored.{SavedWorldValue}
use Rattle.snap_checkpoint.specs.declared.fault.StoreFault.{StoreFault}
use Rattle.snap_checkpoint.specs.declared.fault.StoreFault.TheVariants as faults
use Rattle.snap_checkpoint.specs.declared.open.OpenContent.{OpenContent}
use Rattle.snap_checkpoint.specs.declared.open.OpenContent.TheVariants as open_contents
use Rattle.snap_checkpoint.specs.declared.open.OpenHand.{OpenHand}
use Rattle.snap_checkpoint.specs.declared.open.OpenPart.{OpenPart}
use Rattle.snap_checkpoint.specs.declared.open.OpenPart.TheVariants as open_parts
use Rattle.snap_checkpoint.specs.declared.open.OpenSnapshot.{OpenSnapshot}
use Rattle.snap_pieces.specs.declared.piece.HandHead.{HandHead}
use Rattle.snap_pieces.specs.declared.piece.SnapshotHead.{SnapshotHead}
use Rattle.snap_pieces.specs.declared.piece.SnapshotKind.{SnapshotKind}
use Rattle.snap_pieces.specs.declared.piece.SnapshotKind.TheVariants as kinds
use Rattle.snap_pieces.specs.declared.piece.StoreHead.{StoreHead}
use Rattle.snap_pieces.specs.declared.piece.StorePiece.{StorePiece}
use Rattle.snap_pieces.specs.declared.piece.StorePiece.TheVariants as pieces

-- what is gathered of a store: its head, its namespaces, snapshots and leases but for the last part, and this with the pieces that it has yet
pub record StoreGatheringValue : Type 0 where
  pub head : StoreHead
  pub namespaces : List Namespace
  pub snapshots : List SavedSnapshot
  pub leases : List SavedLease
  pub part : OpenPart

-- before the first piece
abbrev pub begun_store : StoreHead → StoreGatheringValue
begun_store h = record { head = h; namespaces = []; snapshots = []; leases = []; part = open_parts.Nothing }

-- ---- faults

-- an error as the fault of a store's piece
abbrev pub with_fault : {X E : Type 0} → (E → StoreFault) → Result X E → Result X StoreFault
with_fault fault (Ok x) = Ok x
with_fault fault (Err e) = Err (fault e)

-- why a piece of a layer isn't put
abbrev pub piece_fault : PieceError → StoreFault
piece_fault piece_errors.Misplaced = faults.Misplaced
piece_fault piece_errors.TooBig = faults.TooBig
piece_fault (piece_errors.OutOfMemory no_memory) = faults.OutOfMemory no_memory

-- why the layer of the snapshot at the place isn't made
abbrev pub layer_fault : ℕ → RestoreError → StoreFault
layer_fault at (restore_errors.Malformed part fault) = faults.Layer at part fault
layer_fault at (restore_errors.OutOfMemory no_memory) = faults.OutOfMemory no_memory

-- ---- a part that begins

-- a hand
abbrev pub begun_hand : HandHead → OpenHand
begun_hand h = record { sealed = h.sealed; layer = begun_layer h.layer }

-- what a snapshot holds
abbrev pub begun_content : SnapshotKind → OpenContent
begun_content kinds.View = open_contents.View
begun_content (kinds.Active slot charged hand) = open_contents.Active slot charged (option_map begun_hand hand)
begun_content (kinds.Committed layer) = open_contents.Committed (begun_layer layer)

-- a snapshot
abbrev pub begun_snapshot : SnapshotHead → OpenSnapshot
begun_snapshot h = record { namespace = h.namespace; key = h.key; parent = h.parent; id = h.id; created = h.created; updated = h.updated; labels = []; content = begun_content h.kind }

-- a lease
abbrev pub begun_lease : Bytes → Bytes → Option ℕ → SavedLease
begun_lease namespace name until = record { namespace = namespace; name = name; until = until; names = [] }

-- ---- a further piece of the last part

-- labels with one more, at most 64 of distinct keys
abbrev pub with_new_label : List Label → Bytes → Bytes → Result (List Label) StoreFault
with_new_label labels key value = if is_some (value_of labels key) then Err faults.LabelTwice else if nat_le 64 (length labels) then Err faults.TooManyLabels else Ok (with_label labels key value)

-- what a snapshot holds with one more piece of its layer, where it has one
abbrev pub content_with : OpenContent → Piece → Result OpenContent StoreFault
content_with open_contents.View piece = Err faults.Misplaced
content_with (open_contents.Active slot charged None) piece = Err faults.Misplaced
content_with (open_contents.Active slot charged (Some h)) piece = do
  layer ← with_fault piece_fault (with_piece h.layer piece)
  Ok (open_contents.Active slot charged (Some (record h { layer = layer })))
content_with (open_contents.Committed g) piece = do
  layer ← with_fault piece_fault (with_piece g piece)
  Ok (open_contents.Committed layer)

-- a snapshot with one more label; no other part has labels
abbrev pub part_with_label : OpenPart → Bytes → Bytes → Result OpenPart StoreFault
part_with_label (open_parts.Snapshot s) key value = do
  labels ← with_new_label s.labels key value
  Ok (open_parts.Snapshot (record s { labels = labels }))
part_with_label part key value = Err faults.Misplaced

-- a snapshot with one more piece of its layer; no other part has a layer
abbrev pub part_with_layer_piece : OpenPart → Piece → Result OpenPart StoreFault
part_with_layer_piece (open_parts.Snapshot s) piece = do
  content ← content_with s.content piece
  Ok (open_parts.Snapshot (record s { content = content }))
part_with_layer_piece part piece = Err faults.Misplaced

-- a lease that names one more snapshot; no other part names one
abbrev pub part_with_name : OpenPart → Bytes → Result OpenPart StoreFault
part_with_name (open_parts.Lease l) name = Ok (open_parts.Lease (record l { names = l.names ++ name ∷ [] }))
part_with_name part name = Err faults.Misplaced

-- ---- no further piece of the last part

-- what the snapshot at the place holds, with its hand, or the first part that its layer can't have
abbrev pub content_closed : ℕ → OpenContent → Result (SavedContent × Option SavedHand) StoreFault
content_closed at open_contents.View = Ok (contents.View, None)
content_closed at (open_contents.Active slot charged None) = Ok (contents.Active slot charged, None)
content_closed at (open_contents.Active slot charged (Some h)) = do
  layer ← with_fault (layer_fault at) (gathered_layer h.layer)
  Ok (contents.Active slot charged, Some (record { layer = layer; sealed = h.sealed }))
content_closed at (open_contents.Committed g) = do
  layer ← with_fault (layer_fault at) (gathered_layer g)
  Ok (contents.Committed layer, None)

-- the snapshot that holds it
abbrev pub snapshot_with : OpenSnapshot → SavedContent × Option SavedHand → SavedSnapshot
snapshot_with s held = record { saved = record { namespace = s.namespace; key = s.key; parent = s.parent; id = s.id; labels = s.labels; created = s.created; updated = s.updated; content = held.0 }; hand = held.1 }

-- the snapshot at the place, or the first part that its layer can't have
abbrev pub snapshot_closed : ℕ → OpenSnapshot → Result SavedSnapshot StoreFault
snapshot_closed at s = do
  held ← content_closed at s.content
  Ok (snapshot_with s held)

-- what is gathered with this part as a whole one
abbrev pub part_closed : StoreGatheringValue → OpenPart → Result StoreGatheringValue StoreFault
part_closed g open_parts.Nothing = Ok g
part_closed g (open_parts.Snapshot s) = do
  snapshot ← snapshot_closed (length g.snapshots) s
  Ok (record g { snapshots = g.snapshots ++ snapshot ∷ [] })
part_closed g (open_parts.Lease l) = Ok (record g { leases = g.leases ++ l ∷ [] })

-- what is gathered, whose last part gets no further piece
abbrev pub closed : StoreGatheringValue → Result StoreGatheringValue StoreFault
closed g = part_closed (record g { part = open_parts.Nothing }) g.part

-- ---- all pieces

-- what is gathered with a changed part
abbrev pub in_part : StoreGatheringValue → Result OpenPart StoreFault → Result StoreGatheringValue StoreFault
in_part g part = do
  changed ← part
  Ok (record g { part = changed })

-- what is gathered where a part begins
abbrev pub with_part : StoreGatheringValue → OpenPart → Result StoreGatheringValue StoreFault
with_part g part = do
  next ← closed g
  Ok (record next { part = part })

-- what is gathered with one more piece, or why it is not put
abbrev pub with_store_piece : StoreGatheringValue → StorePiece → Result StoreGatheringValue StoreFault
with_store_piece g (pieces.Namespace n) = Ok (record g { namespaces = g.namespaces ++ n ∷ [] })
with_store_piece g (pieces.Snapshot h) = with_part g (open_parts.Snapshot (begun_snapshot h))
with_store_piece g (pieces.Label key value) = in_part g (part_with_label g.part key value)
with_store_piece g (pieces.Layer piece) = in_part g (part_with_layer_piece g.part piece)
with_store_piece g (pieces.Lease namespace name until) = with_part g (open_parts.Lease (begun_lease namespace name until))
with_store_piece g (pieces.Leased name) = in_part g (part_with_name g.part name)

-- what a fault leaves: all as it was, but where a part begins, the one before it is gone
abbrev pub after_fault : StoreGatheringValue → StorePiece → StoreGatheringValue
after_fault g (pieces.Snapshot h) = record g { part = open_parts.Nothing }
after_fault g (pieces.Lease namespace name until) = record g { part = open_parts.Nothing }
after_fault g piece = g

-- what is gathered with one more piece, after an earlier answer, of which an error stays
abbrev pub with_next_store_piece : Result StoreGatheringValue StoreFault → StorePiece → Result StoreGatheringValue StoreFault
with_next_store_piece so_far piece = so_far >>= λ g. with_store_piece g piece

-- the configuration, whose namespaces came as pieces
abbrev pub config_with : StoreHead → List Namespace → Config
config_with h namespaces = record { root = h.root; namespaces = namespaces; slots = h.slots; journal = h.journal; first_id = h.first_id; layer_inodes = h.layer_inodes; ancestors = h.ancestors }

-- the saved store of what is gathered, or the first part that the last layer can't have
abbrev pub store_of : StoreGatheringValue → Result SavedWorldValue StoreFault
store_of g = do
  all ← closed g
  Ok (record { config = config_with all.head all.namespaces; entries = all.head.entries; next_id = all.head.next_id; snapshots = all.snapshots; leases = all.leases })

-- the saved store of the pieces one after another, or the first fault
abbrev pub store_of_pieces : StoreHead → List StorePiece → Result SavedWorldValue StoreFault
store_of_pieces h ps = fold with_next_store_piece (Ok (begun_store h)) ps >>= store_of
