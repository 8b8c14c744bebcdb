-- A store as it is saved, and the world that is restored from it.
use Rattle.std.specs.Prelude.{ℕ, ◌+◌, List, [], ◌∷◌, map, Result, Ok}
use Rattle.snap_lease.specs.Lease.{Lease}
use Rattle.snap_call.specs.declared.config.Config.{Config}
use Rattle.snap_call.specs.declared.saved_lease.SavedLease.{SavedLease}
use Rattle.snap_call.specs.declared.state.State.{State}
use Rattle.snap_call.specs.Results.{◌>>=◌}
use Rattle.snap_call.specs.Saved.{saved_records}
use Rattle.snap_call.specs.SavedLeases.{lease_of, put_lease}
use Rattle.snap_world.specs.declared.fault.RestoreFault.{RestoreFault}
use Rattle.snap_world.specs.declared.fault.RestoreFault.TheVariants as faults
use Rattle.snap_world.specs.declared.save.SavedSnapshot.{SavedSnapshot}
use Rattle.snap_world.specs.Saved.{RestoringValue, faulted, finish_answer, open_answer, opened_with, put_snapshot, restored_world, saved_snapshot}
use Rattle.snap_world.specs.World.{WorldValue}

-- a store as it is saved: what it is opened with, the number of its last entry, the id of its next snapshot, its snapshots and its leases
pub record SavedWorldValue : Type 0 where
  pub config : Config
  pub entries : ℕ
  pub next_id : ℕ
  pub snapshots : List SavedSnapshot
  pub leases : List SavedLease

-- ---- what is saved

-- what a store of the state is opened with again, for a round of at most `journal` entries
abbrev pub saved_config : State → ℕ → Config
saved_config s journal = record { root = s.root; namespaces = s.namespaces; slots = s.slots; journal = journal; first_id = 1; layer_inodes = s.layer_inodes; ancestors = s.ancestors }

-- of a lease
abbrev pub saved_lease : Lease → SavedLease
saved_lease l = record { namespace = l.namespace; name = l.name; until = l.until; names = l.names }

-- of a world: all but the entries of its round and its sessions
abbrev pub saved_world : WorldValue → SavedWorldValue
saved_world w = record { config = saved_config w.state w.limit; entries = w.state.entries; next_id = w.state.next_id; snapshots = map (saved_snapshot w.hands) (saved_records w.state); leases = map saved_lease w.state.leases }

-- ---- what is restored

-- the snapshots put back one after another, of which the first stands at the place; or the first fault
unfoldable pub put_snapshots_from : ℕ → RestoringValue → List SavedSnapshot → Result RestoringValue RestoreFault
put_snapshots_from at v [] = Ok v
put_snapshots_from at v (one ∷ more) = do
  next ← faulted (faults.Snapshot at) (put_snapshot v one.saved one.hand)
  put_snapshots_from (at + 1) next more

-- the leases put back one after another, of which the first stands at the place; or the first fault
unfoldable pub put_leases_from : ℕ → State → List SavedLease → Result State RestoreFault
put_leases_from at s [] = Ok s
put_leases_from at s (one ∷ more) = do
  next ← faulted (faults.Lease at) (put_lease s (lease_of one))
  put_leases_from (at + 1) next more

-- the world whose round begins at what was saved, or the first fault
abbrev pub restored : SavedWorldValue → Result WorldValue RestoreFault
restored saved = do
  head ← open_answer saved.config saved.entries
  put ← put_snapshots_from 0 (opened_with saved.config saved.entries) saved.snapshots
  state ← put_leases_from 0 put.state saved.leases
  end ← finish_answer (record put { state = state }) saved.next_id saved.config.journal
  Ok (restored_world (record put { state = state }) saved.next_id saved.config.journal)
