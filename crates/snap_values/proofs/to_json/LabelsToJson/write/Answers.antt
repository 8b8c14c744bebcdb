use Rattle.std.proofs.Common.{arith}
use Rattle.std.proofs.lemmas.Grind.{common_steps}
use Rattle.snap_values.proofs.Maps.{members_of_insert_entry}
use Rattle.snap_values.proofs.to_json.LabelsToJson.write.Goals as goal

pub loop-key-preserved : goal.loop-key-preserved
loop-key-preserved c = grind (arith, common_steps, members_of_insert_entry)
