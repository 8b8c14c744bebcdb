use Rattle.std.specs.Prelude.{map, filter}
use Rattle.std.proofs.Common.{◌≡◌, take}
use Rattle.snap_call.specs.Records.{is_active}
use Rattle.snap_call.specs.State.{name_at}
use Rattle.snap_store.proofs.cause.open_keys.Given as goal

abbrev pub invariant-loop-record : goal.invariant-loop-record
invariant-loop-record g l = l.keys ≡ map (λ r. record { namespace = name_at r.namespace l.book.state.namespaces; key = r.key }) (filter (λ r. is_active r.content) (map (λ r. r.now) (take l.record-index l.record-items)))
