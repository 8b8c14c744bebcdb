use Rattle.std.proofs.Common.{◌+◌, List, drop, subst}
use Rattle.std.specs.Option.{option_map}
use Rattle.snap_layer.specs.Tree.{Tree}
use Rattle.snap_merge.specs.Objects.{object}
use Rattle.snap_merge.specs.Reach.{Begun}
use Rattle.snap_merge.proofs.Reaching.{begun_on, begun_ends, left_is}
use Rattle.snap_merge.proofs.look.reach_below.Goals as goal

pub returns-in-Ends : goal.returns-in-Ends
returns-in-Ends c = λ s begun.
    let left = left_is c.args.lowers.now c.loop-shared.shared-index c.shared-item.result c.layer.result.now c.loop-shared-test.true c.shared-item.is c.layer.ensures.value in
    begun_ends s c.args.names.now c.loop-shared.dirs c.in-Ends.reach.dirs (option_map object c.in-Ends.reach.seen) c.layer.result.now (drop (c.loop-shared.shared-index + 1) c.args.lowers.now)
    (subst (λ (ts : List Tree). Begun s c.args.names.now c.loop-shared.dirs ts) left (c.loop-shared.invariant.begun s begun)) c.in-Ends.ensures

pub loop-shared-preserved : goal.loop-shared-preserved
loop-shared-preserved c = record {
  within = c.in-GoesOn.ensures.within;
  begun = λ s begun.
      let left = left_is c.args.lowers.now c.loop-shared.shared-index c.shared-item.result c.layer.result.now c.loop-shared-test.true c.shared-item.is c.layer.ensures.value in
      begun_on s c.args.names.now c.loop-shared.dirs c.in-GoesOn.further c.layer.result.now (drop (c.loop-shared.shared-index + 1) c.args.lowers.now)
      (subst (λ (ts : List Tree). Begun s c.args.names.now c.loop-shared.dirs ts) left (c.loop-shared.invariant.begun s begun)) c.in-GoesOn.ensures;
}
