-- What is asked of a book without an entry.
use Rattle.std.specs.Prelude.{ℕ, Result, Ok, Err, ok_or}
use Rattle.std.specs.Option.{option_map_or}
use Rattle.snap_record.specs.Labels.{Bytes}
use Rattle.snap_record.specs.declared.record.Content.{Content}
use Rattle.snap_record.specs.declared.record.Content.TheVariants.{Active}
use Rattle.snap_record.specs.declared.record.Record.{Record}
use Rattle.snap_call.specs.declared.refusal.Refusal.{Refusal}
use Rattle.snap_call.specs.declared.refusal.Refusal.TheVariants.{NoNamespace, NotFound, NotActive}
use Rattle.snap_call.specs.declared.state.State.{State}
use Rattle.snap_call.specs.Records.{record_at}
use Rattle.snap_call.specs.Results.{◌>>=◌}
use Rattle.snap_call.specs.State.{place_of}

-- the record of this key in the namespace, or why there is none
abbrev pub found_of : State → Bytes → Bytes → Result Record Refusal
found_of s namespace key = option_map_or (λ place. ok_or (record_at place key s.records) NotFound) (place_of namespace s.namespaces) (Err NoNamespace)

-- the slot and the id of an active snapshot
abbrev pub slot_and_id_in : ℕ → Content → Result (ℕ × ℕ) Refusal
slot_and_id_in id (Active slot charged) = Ok (slot, id)
slot_and_id_in id content = Err NotActive

-- the slot and the id of the active snapshot of this key in the namespace, or why there is none
abbrev pub slot_and_id_of : State → Bytes → Bytes → Result (ℕ × ℕ) Refusal
slot_and_id_of s namespace key = found_of s namespace key >>= λ r. slot_and_id_in r.id r.content
