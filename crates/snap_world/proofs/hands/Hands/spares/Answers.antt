use Rattle.std.proofs.Common.{◌<◌, length, ◌∙◌, ap, sym, arith}
use Rattle.snap_usage.specs.declared.usage.Usage.{Usage}
use Rattle.snap_ledger.specs.States.{plus}
use Rattle.snap_world.specs.Sums.{spare_in, hand_sum_below}
use Rattle.snap_world.proofs.Summing.{sum_next, sum_start, sum_within}
use Rattle.snap_world.proofs.hands.Hands.spares.Goals as goal

pub loop-slot-init : goal.loop-slot-init
loop-slot-init g c = sym (sum_start spare_in c.args.place c.args.self.now)

pub loop-slot-preserved : goal.loop-slot-preserved
loop-slot-preserved g c =
    c.plus-sum.ensures
    ∙ ap (λ (u : Usage). plus u c.spare_in.result) c.loop-slot.invariant
    ∙ ap (plus (hand_sum_below spare_in c.args.place c.args.self.now c.loop-slot.slot)) c.spare_in.ensures
    ∙ sym (sum_next spare_in c.args.place c.args.self.now c.loop-slot.slot)

pub plus-sum-requires-clause-blocks : goal.plus-sum-requires-clause-blocks
plus-sum-requires-clause-blocks g c =
    let low : c.loop-slot.slot < length c.args.self.now = omega (arith, c.len-slot-end.ensures) in
    let within = (sum_within spare_in c.args.place c.args.self.now c.loop-slot.slot low).blocks in
    let sum = ap (λ (u : Usage). u.blocks) c.loop-slot.invariant in
    let own = ap (λ (u : Usage). u.blocks) c.spare_in.ensures in
    let few = c.requires.blocks in
    omega arith

pub plus-sum-requires-clause-inodes : goal.plus-sum-requires-clause-inodes
plus-sum-requires-clause-inodes g c =
    let low : c.loop-slot.slot < length c.args.self.now = omega (arith, c.len-slot-end.ensures) in
    let within = (sum_within spare_in c.args.place c.args.self.now c.loop-slot.slot low).inodes in
    let sum = ap (λ (u : Usage). u.inodes) c.loop-slot.invariant in
    let own = ap (λ (u : Usage). u.inodes) c.spare_in.ensures in
    let few = c.requires.inodes in
    omega arith
