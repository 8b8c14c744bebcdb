-- What is asked of a book without an entry, beyond one record.
use Rattle.std.specs.Prelude.{List, [], ◌∷◌, Result, Ok}
use Rattle.snap_usage.specs.declared.usage.Usage.{Usage}
use Rattle.snap_usage.specs.Counted.{no_usage}
use Rattle.snap_ledger.specs.States.{plus}
use Rattle.snap_record.specs.Labels.{Bytes}
use Rattle.snap_record.specs.Records.{usage_of}
use Rattle.snap_record.specs.declared.record.Record.{Record}
use Rattle.snap_call.specs.declared.refusal.Refusal.{Refusal}
use Rattle.snap_call.specs.declared.state.State.{State}
use Rattle.snap_call.specs.State.{ancestors}
use Rattle.snap_call.specs.Results.{◌>>=◌}
use Rattle.snap_book.specs.Slot.{found_of}

-- what these snapshots are charged together
abbrev pub usage_of_all : List Record → Usage
usage_of_all [] = no_usage
usage_of_all (r ∷ rs) = plus (usage_of r.content) (usage_of_all rs)

-- what the snapshot of this key in the namespace is charged together with its committed ancestors, or why there is none
abbrev pub chain_usage : State → Bytes → Bytes → Result Usage Refusal
chain_usage s namespace key = found_of s namespace key >>= λ r. Ok (usage_of_all (r ∷ ancestors r.namespace r.parent s.records))
