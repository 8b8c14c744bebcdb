use Rattle.std.proofs.Common.{arith}
use Rattle.std.proofs.lemmas.Grind.{common_steps}
use Rattle.snap_values.proofs.Maps.{members_of_insert_entry}
use Rattle.snap_values.proofs.to_json.by_name.Goals as goal

pub loop-name-preserved : goal.loop-name-preserved
loop-name-preserved g c = grind (arith, common_steps, members_of_insert_entry)
