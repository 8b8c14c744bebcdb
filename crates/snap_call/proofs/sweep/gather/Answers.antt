use Rattle.std.proofs.Common.{◌+◌, List, arith, drop, subst, sym}
use Rattle.snap_record.specs.Records.{usage_of}
use Rattle.snap_record.specs.declared.record.Record.{Record}
use Rattle.snap_call.specs.Marked.{marked}
use Rattle.snap_call.specs.Records.{charge_of}
use Rattle.snap_call.specs.declared.sweep.Sweep.{Sweep}
use Rattle.snap_ledger.specs.States.{plus}
use Rattle.snap_call.proofs.Gathered.{IsGathered, IsWithin, gather-fits, gather-takes, marked-charge, marked-other, marked-passes, marked-takes}
use Rattle.snap_call.proofs.Referred.{all_now, at-now, below-now, lengths-now}
use Rattle.snap_call.proofs.sweep.gather.Goals as goal
use Rattle.snap_call.proofs.sweep.gather.Goals.{then-snapshot-place+then-marks-at+in_ok-add, else-snapshot-place, else-snapshot-place-via-then-snapshot-place+else-marks-at, else-snapshot-place-via-else-snapshot-place}

-- with the record at hand, the charge stays within that of all records
fits : (c : goal.After-sweep-1) → IsWithin (plus c.loop-at.sweep.freed (usage_of c.index-records-at.result.now.content)) (charge_of c.args.place (marked c.args.place (all_now c.args.records.now) c.args.marks.now))
fits c =
    let all = marked c.args.place (all_now c.args.records.now) c.args.marks.now in
    gather-fits c.args.place all c.index-records-at.result.now (marked c.args.place (drop (c.loop-at.at + 1) (all_now c.args.records.now)) (drop (c.loop-at.at + 1) c.args.marks.now)) c.loop-at.sweep c.if-snapshot-place.true
    (subst (λ rest. IsGathered c.args.place all rest c.loop-at.sweep)
    (marked-takes c.args.place (all_now c.args.records.now) c.args.marks.now c.loop-at.at c.index-records-at.result.now (below-now c.args.records.now c.loop-at.at c.loop-at-test.true) (lengths-now c.args.marks.now c.args.records.now c.requires.lengths) (at-now c.args.records.now c.loop-at.at c.index-records-at.result c.index-records-at.is) c.if-snapshot-place.true c.if-marks-at.true)
    c.loop-at.invariant)

pub add-requires-clause-blocks : goal.add-requires-clause-blocks
add-requires-clause-blocks c =
    let own = fits c in
    let all = marked-charge c.args.place (all_now c.args.records.now) c.args.marks.now in
    omega (arith, own.blocks, all.blocks, c.requires.blocks)

pub add-requires-clause-inodes : goal.add-requires-clause-inodes
add-requires-clause-inodes c =
    let own = fits c in
    let all = marked-charge c.args.place (all_now c.args.records.now) c.args.marks.now in
    omega (arith, own.inodes, all.inodes, c.requires.inodes)

pub loop-at-preserved : goal.loop-at-preserved
loop-at-preserved c =
    let place = c.args.place in
    let all = marked place (all_now c.args.records.now) c.args.marks.now in
    let rest = marked place (drop (c.loop-at.at + 1) (all_now c.args.records.now)) (drop (c.loop-at.at + 1) c.args.marks.now) in
    elim c.if-snapshot-place.branch [
      | then-snapshot-place+then-marks-at+in_ok-add w ↦
          subst (λ (v : Sweep). IsGathered place all rest v) (sym w.sweep-is)
          (gather-takes place all c.index-records-at.result.now rest c.loop-at.sweep w.if-snapshot-place.true
          (subst (λ (ts : List Record). IsGathered place all ts c.loop-at.sweep)
          (marked-takes place (all_now c.args.records.now) c.args.marks.now c.loop-at.at c.index-records-at.result.now (below-now c.args.records.now c.loop-at.at c.loop-at-test.true) (lengths-now c.args.marks.now c.args.records.now c.requires.lengths) (at-now c.args.records.now c.loop-at.at c.index-records-at.result c.index-records-at.is) w.if-snapshot-place.true w.if-marks-at.true)
          c.loop-at.invariant)
          w.add.new.self w.in_ok-add.ensures.removed w.in_ok-add.ensures.freed)
      | else-snapshot-place w ↦
          subst (λ (v : Sweep). IsGathered place all rest v) (sym w.sweep-is)
          (elim w.else-snapshot-place.branch [
            | else-snapshot-place-via-then-snapshot-place+else-marks-at v ↦
                subst (λ (ts : List Record). IsGathered place all ts c.loop-at.sweep)
                (marked-passes place (all_now c.args.records.now) c.args.marks.now c.loop-at.at c.index-records-at.result.now (below-now c.args.records.now c.loop-at.at c.loop-at-test.true) (lengths-now c.args.marks.now c.args.records.now c.requires.lengths) (at-now c.args.records.now c.loop-at.at c.index-records-at.result c.index-records-at.is) v.if-marks-at.false)
                c.loop-at.invariant
            | else-snapshot-place-via-else-snapshot-place v ↦
                subst (λ (ts : List Record). IsGathered place all ts c.loop-at.sweep)
                (marked-other place (all_now c.args.records.now) c.args.marks.now c.loop-at.at c.index-records-at.result.now (below-now c.args.records.now c.loop-at.at c.loop-at-test.true) (lengths-now c.args.marks.now c.args.records.now c.requires.lengths) (at-now c.args.records.now c.loop-at.at c.index-records-at.result c.index-records-at.is) v.if-snapshot-place.false)
                c.loop-at.invariant
          ])
    ]
