use Rattle.std.proofs.Common.{arith}
use Rattle.std.proofs.lemmas.Grind.{common_steps}
use Rattle.std.proofs.lemmas.List.Elements.{filter_map-append}
use Rattle.snap_session.proofs.tree.walked_page.Goals as goal

pub loop-info-preserved : goal.loop-info-preserved
loop-info-preserved c = grind (arith, common_steps, filter_map-append)
