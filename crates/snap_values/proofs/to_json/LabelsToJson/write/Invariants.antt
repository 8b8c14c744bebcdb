use Rattle.std.proofs.Common.{◌≡◌, drop}
use Rattle.serde_json.specs.Data.{string, no_members}
use Rattle.snap_values.specs.Values.{members_with_entries}
use Rattle.snap_values.specs.Written.{written_members_of}
use Rattle.snap_values.proofs.to_json.LabelsToJson.write.Given as goal

abbrev pub invariant-loop-key : goal.invariant-loop-key
invariant-loop-key l = members_with_entries string l.self no_members ≡ members_with_entries string (drop l.key-index l.labels) (written_members_of (λ text. string text.now) l.members.entries)
