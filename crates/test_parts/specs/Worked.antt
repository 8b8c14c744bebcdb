-- A worked round: a session prepares `k` in the namespace `a`, for which `a` is charged 1/1, and charges it 4/3 in all.
use Rattle.std.specs.Prelude.{ℕ, List, [], ◌∷◌}
use Rattle.snap_usage.specs.declared.usage.Usage.{Usage}
use Rattle.snap_call.specs.declared.call.Call.TheVariants as calls
use Rattle.snap_call.specs.declared.call.Given.TheVariants.{Nothing}
use Rattle.snap_call.specs.declared.entry.Entry.{Entry}
use Rattle.snap_call.specs.declared.reply.Reply.TheVariants.{Opened, Prepared, Charged}
use Rattle.snap_call.specs.Journal.{call_entry}

abbrev pub usage : ℕ → ℕ → Usage
usage blocks inodes = record { blocks = blocks; inodes = inodes }

abbrev pub opened : Entry
opened = call_entry 0 calls.Session Nothing Opened

abbrev pub made : Entry
made = call_entry 0 (calls.Prepare (97 ∷ []) (107 ∷ []) [] []) Nothing (Prepared 1 0 [])

abbrev pub charged : Entry
charged = call_entry 0 (calls.Charge 0 1 (usage 4 3) (usage 4 3)) Nothing (Charged (usage 4 3))

abbrev pub small_round : List Entry
small_round = opened ∷ made ∷ charged ∷ []
