use Rattle.std.proofs.Common.{◌≡◌, drop}
use Rattle.serde_json.specs.Data.{no_members}
use Rattle.snap_values.specs.Values.{members_with_entries}
use Rattle.snap_values.specs.Written.{written_members_of}
use Rattle.snap_values.proofs.to_json.by_name.Given as goal

abbrev pub invariant-loop-name : goal.invariant-loop-name
invariant-loop-name g l = members_with_entries g.V.ToJson.value l.entries no_members ≡ members_with_entries g.V.ToJson.value (drop l.name-index l.entries) (written_members_of g.V.ToJson.value l.members.entries)
