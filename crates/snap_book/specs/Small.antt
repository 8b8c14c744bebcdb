-- How much a snapshot may be charged.
use Rattle.std.specs.Prelude.{◌≡◌, ℕ, ◌≤◌, ◌^◌, List, Some}
use Rattle.snap_record.specs.Labels.{Bytes}
use Rattle.snap_record.specs.Records.{usage_of}
use Rattle.snap_record.specs.declared.record.Record.{Record}
use Rattle.snap_call.specs.Records.{record_at}

-- each snapshot of the namespace at the place is charged at most 2^40 in each quantity
abbrev pub AreSmall : List Record → ℕ → Type 0
AreSmall rs place = (key : Bytes) (r : Record) → record_at place key rs ≡ Some r → ((usage_of r.content).blocks ≤ 2 ^ 40) × ((usage_of r.content).inodes ≤ 2 ^ 40)
