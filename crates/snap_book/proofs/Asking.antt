-- What a good state says of a snapshot that is asked for.
use Rattle.std.proofs.Common.{◌≡◌, ℕ, ◌≤◌, ◌<◌, ◌^◌, Option, None, Some, length, arith}
use Rattle.std.specs.Prelude.{Ok, Err, IsSome, ok_or, nat_le}
use Rattle.std.specs.Option.{option_map_or}
use Rattle.std.proofs.lemmas.Bool.{and_parts, leb-true}
use Rattle.snap_record.specs.Labels.{Bytes}
use Rattle.snap_record.specs.Records.{usage_of}
use Rattle.snap_record.specs.declared.record.Record.{Record}
use Rattle.snap_call.specs.declared.refusal.Refusal.TheVariants.{NoNamespace, NotFound}
use Rattle.snap_call.specs.declared.state.State.{State}
use Rattle.snap_call.specs.Good.{Good}
use Rattle.snap_call.proofs.Keeping.{good_chains, placed_below}
use Rattle.snap_call.specs.Records.{is_named, record_at}
use Rattle.snap_call.specs.State.{chain_from, limit_at, place_of, most_ancestors}
use Rattle.snap_call.proofs.Lists.{record_at-all}
use Rattle.snap_call.proofs.Sums.{charge_of-covers}
use Rattle.snap_book.specs.Slot.{found_of}
use Rattle.snap_book.specs.Small.{AreSmall}

-- a snapshot is charged within its namespace's limit
pub small : (s : State) → Good s → (place : ℕ) → AreSmall s.records place
small s good place key r e =
    let inside : r.namespace < length s.namespaces = record_at-all (λ t. t.namespace < length s.namespaces) place key s.records r e (placed_below s good) in
    let covers = charge_of-covers (is_named place key) s.records r e in
    let within = good.promised.within r.namespace inside in
    let limit = limit_at r.namespace s.namespaces in
    let h = and_parts (nat_le limit.blocks 1099511627776) (nat_le limit.inodes 1099511627776) (good.limits r.namespace inside) in
    let blocks = leb-true _ _ h.0 in
    let inodes = leb-true _ _ h.1 in (
      (let p = covers.blocks in let q = within.blocks in omega arith),
      (let p = covers.inodes in let q = within.inodes in omega arith),
    )

found-Some : (r : Record) (o : Option Record) → ok_or o NotFound ≡ Ok r → o ≡ Some r
found-Some r None e = absurd (cc)
found-Some r (Some t) e = cc

-- the record that was found is that of the key at a place
pub found-record : (s : State) (namespace key : Bytes) (r : Record) → found_of s namespace key ≡ Ok r → (place : ℕ) × (record_at place key s.records ≡ Some r)
found-record s namespace key r found = at (place_of namespace s.namespaces) found
  where
    at : (o : Option ℕ) → option_map_or (λ place. ok_or (record_at place key s.records) NotFound) o (Err NoNamespace) ≡ Ok r → (place : ℕ) × (record_at place key s.records ≡ Some r)
    at None e = absurd (cc)
    at (Some place) e = (place, found-Some r (record_at place key s.records) e)

-- it has a chain of ancestors, and is small
pub chained : (s : State) → Good s → (namespace key : Bytes) (r : Record) → found_of s namespace key ≡ Ok r → IsSome (chain_from most_ancestors s.records r.namespace r.parent)
chained s good namespace key r found =
    let here = found-record s namespace key r found in
    record_at-all (λ t. IsSome (chain_from most_ancestors s.records t.namespace t.parent)) here.0 key s.records r here.1 (good_chains s good)

pub found-small : (s : State) → Good s → (namespace key : Bytes) (r : Record) → found_of s namespace key ≡ Ok r → ((usage_of r.content).blocks ≤ 2 ^ 40) × ((usage_of r.content).inodes ≤ 2 ^ 40)
found-small s good namespace key r found =
    let here = found-record s namespace key r found in
    small s good here.0 key r here.1
