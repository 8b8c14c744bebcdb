-- A store with a second namespace, which has a snapshot.
use Rattle.std.proofs.Common.{◌≡◌, Option, Some, codes, refl, ap, ◌∙◌}
use Rattle.std.specs.Option.{option_map}
use Rattle.snap_usage.specs.declared.usage.Usage.{Usage}
use Rattle.snap_call.specs.declared.call.Call.TheVariants as calls
use Rattle.snap_call.specs.declared.call.Given.TheVariants.{Nothing}
use Rattle.snap_call.specs.declared.refusal.Refusal.TheVariants.{NotEmpty}
use Rattle.snap_call.specs.declared.reply.Reply.TheVariants.{Refused}
use Rattle.snap_call.specs.declared.state.State.{State}
use Rattle.snap_call.specs.Records.{charge_of, lowest_free, open_count}
use Rattle.snap_call.specs.State.{place_of}
use Rattle.snap_call.specs.Step.{one, step}
use Rattle.test_stores.specs.Stores.{with_snapshot}

keeps : (step with_snapshot (calls.NamespaceRemove (codes "b")) Nothing).1 ≡ Refused NotEmpty
unfolding lowest_free
keeps = refl

is_open : open_count with_snapshot.records ≡ 1
unfolding lowest_free
is_open = refl

abbrev total : State → Option Usage
total s = option_map (λ place. charge_of place s.records) (place_of (codes "b") s.namespaces)

charged : total with_snapshot ≡ Some one
unfolding lowest_free
charged = refl

-- it is charged for the snapshot
pub snapshot_total : (s : State) → s ≡ with_snapshot → option_map (λ place. charge_of place s.records) (place_of (codes "b") s.namespaces) ≡ Some one
snapshot_total s is = ap total is ∙ charged

-- it is not taken away
pub snapshot_keeps : (s : State) → s ≡ with_snapshot → (step s (calls.NamespaceRemove (codes "b")) Nothing).1 ≡ Refused NotEmpty
snapshot_keeps s is = ap (λ (t : State). (step t (calls.NamespaceRemove (codes "b")) Nothing).1) is ∙ keeps

pub snapshot_open : (s : State) → s ≡ with_snapshot → open_count s.records ≡ 1
snapshot_open s is = ap (λ (t : State). open_count t.records) is ∙ is_open
