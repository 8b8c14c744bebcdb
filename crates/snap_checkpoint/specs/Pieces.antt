-- A saved store as pieces.
use Rattle.std.specs.Prelude.{ℕ, List, [], ◌∷◌, ◌++◌, map, flat_map, Option}
use Rattle.std.specs.Option.{option_map, option_map_or}
use Rattle.snap_layer.specs.Tree.{Tree}
use Rattle.snap_record.specs.Labels.{Label}
use Rattle.snap_saved.specs.Pieces.{head_of, pieces_of}
use Rattle.snap_saved.specs.Saved.{saved}
use Rattle.snap_call.specs.declared.config.Config.{Config}
use Rattle.snap_call.specs.declared.saved.Saved.{Saved}
use Rattle.snap_call.specs.declared.saved.SavedContent.{SavedContent}
use Rattle.snap_call.specs.declared.saved.SavedContent.TheVariants as contents
use Rattle.snap_call.specs.declared.saved_lease.SavedLease.{SavedLease}
use Rattle.snap_world.specs.declared.restoring.SavedHand.{SavedHand}
use Rattle.snap_world.specs.declared.save.SavedSnapshot.{SavedSnapshot}
use Rattle.snap_world.specs.Restored.{SavedWorldValue}
use Rattle.snap_world.specs.Saved.{saved_layer}
use Rattle.snap_pieces.specs.declared.piece.HandHead.{HandHead}
use Rattle.snap_pieces.specs.declared.piece.SnapshotHead.{SnapshotHead}
use Rattle.snap_pieces.specs.declared.piece.SnapshotKind.{SnapshotKind}
use Rattle.snap_pieces.specs.declared.piece.SnapshotKind.TheVariants as kinds
use Rattle.snap_pieces.specs.declared.piece.StoreHead.{StoreHead}
use Rattle.snap_pieces.specs.declared.piece.StorePiece.{StorePiece}
use Rattle.snap_pieces.specs.declared.piece.StorePiece.TheVariants as pieces

-- a configuration without the namespaces, the number of the last entry, and the id of the next snapshot
abbrev pub head_with : Config → ℕ → ℕ → StoreHead
head_with c entries next_id = record { root = c.root; slots = c.slots; journal = c.journal; first_id = c.first_id; layer_inodes = c.layer_inodes; ancestors = c.ancestors; entries = entries; next_id = next_id }

-- what a store has besides its pieces
abbrev pub store_head : SavedWorldValue → StoreHead
store_head w = head_with w.config w.entries w.next_id

-- ---- a snapshot

-- what its hand has besides the pieces of its layer
abbrev pub hand_head : SavedHand → HandHead
hand_head h = record { sealed = h.sealed; layer = head_of (saved h.layer) }

-- what it holds, without the pieces of its layer
abbrev pub saved_kind : SavedContent → Option SavedHand → SnapshotKind
saved_kind contents.View hand = kinds.View
saved_kind (contents.Active slot charged) hand = kinds.Active slot charged (option_map hand_head hand)
saved_kind (contents.Committed layer) hand = kinds.Committed (head_of (saved layer))

-- the snapshot without its labels, that holds this
abbrev pub head_holding : SnapshotKind → Saved → SnapshotHead
head_holding kind s = record { namespace = s.namespace; key = s.key; parent = s.parent; id = s.id; created = s.created; updated = s.updated; kind = kind }

-- the snapshot without its labels and the pieces of its layer
abbrev pub snapshot_head : SavedSnapshot → SnapshotHead
snapshot_head s = head_holding (saved_kind s.saved.content s.hand) s.saved

-- a label
abbrev pub label_piece : Label → StorePiece
label_piece label = pieces.Label label.0 label.1

-- the pieces of a layer
abbrev pub layer_pieces : Tree → List StorePiece
layer_pieces t = map pieces.Layer (pieces_of (saved t))

-- the pieces of a snapshot: what it is, its labels, and those of its layer, where it has one
abbrev pub snapshot_pieces : SavedSnapshot → List StorePiece
snapshot_pieces s = pieces.Snapshot (snapshot_head s) ∷ map label_piece s.saved.labels ++ option_map_or layer_pieces (saved_layer s.saved.content s.hand) []

-- ---- the store

-- the pieces of a lease: what it is, and the snapshots that it names
abbrev pub lease_pieces : SavedLease → List StorePiece
lease_pieces l = pieces.Lease l.namespace l.name l.until ∷ map pieces.Leased l.names

-- the pieces of snapshots and of leases
abbrev pub parts_pieces : List SavedSnapshot → List SavedLease → List StorePiece
parts_pieces snapshots leases = flat_map snapshot_pieces snapshots ++ flat_map lease_pieces leases

-- the pieces of a store: its places for namespaces, its snapshots, its leases
abbrev pub store_pieces : SavedWorldValue → List StorePiece
store_pieces w = map pieces.Namespace w.config.namespaces ++ parts_pieces w.snapshots w.leases
