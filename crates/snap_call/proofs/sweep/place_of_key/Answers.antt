use Rattle.std.proofs.Common.{◌<◌, length, sym, ap, ◌∙◌, arith}
use Rattle.snap_call.specs.Records.{is_named}
use Rattle.snap_call.proofs.Ascending.{ascending-sorted, search-here, search-other, search-past}
use Rattle.snap_call.proofs.Referred.{all_now, at-now, length-now}
use Rattle.snap_call.proofs.sweep.place_of_key.Goals as goal
use Rattle.snap_call.proofs.sweep.place_of_key.Goals.{else-at-records-via-then-at-records+else-is_named, else-at-records-via-else-at-records}

pub returns-then-is_named : goal.returns-then-is_named
returns-then-is_named c =
    let named = is_named c.args.place c.args.key.now in
    let rs = all_now c.args.records.now in
    let b = c.index-records-at.result in
    let found = c.place_from-at.ensures in
    let lt : c.place_from-at.result < length rs = (let e = length-now c.args.records.now in omega (arith, e, c.if-at-records.true)) in
    sym (search-here c.args.place c.args.key.now rs (ascending-sorted rs c.requires) c.place_from-at.result found.within found.parted b.now lt
    (ap named (sym (at-now c.args.records.now c.place_from-at.result b c.index-records-at.is)) ∙ sym c.is_named.ensures ∙ c.if-is_named.true))

pub returns-else-at-records : goal.returns-else-at-records
returns-else-at-records c =
    let named = is_named c.args.place c.args.key.now in
    let rs = all_now c.args.records.now in
    let found = c.place_from-at.ensures in
    let up = ascending-sorted rs c.requires in
    let e = length-now c.args.records.now in
    elim c.else-at-records.branch [
      | else-at-records-via-then-at-records+else-is_named w ↦
          sym (search-other c.args.place c.args.key.now rs up c.place_from-at.result found.within found.parted w.index-records-at.result.now (omega (arith, e, w.if-at-records.true))
          (ap named (sym (at-now c.args.records.now c.place_from-at.result w.index-records-at.result w.index-records-at.is)) ∙ sym w.is_named.ensures ∙ w.if-is_named.false))
      | else-at-records-via-else-at-records w ↦
          sym (search-past c.args.place c.args.key.now rs up c.place_from-at.result found.within found.parted (omega (arith, e, found.within, w.if-at-records.false)))
    ]
