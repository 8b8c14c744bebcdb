use Rattle.std.proofs.Common.{◌≡◌, ◌+◌, ◌++◌, [], drop, sym, ap, ◌∙◌, append-nil, arith}
use Rattle.std.proofs.lemmas.List.{drop_all}
use Rattle.snap_merge.specs.Row.{Row, row_at}
use Rattle.snap_merge.proofs.Rows.{next_on, next_ends, rest_is}
use Rattle.snap_merge.proofs.row.put_row.Goals as goal

pub returns-then-hides : goal.returns-then-hides
returns-then-hides c =
    let n = c.args.name.now in
    let rest = drop (c.loop-dir.dir-index + 1) c.args.row.now in
    next_ends c.loop-dir.rows.items c.put_next.new.rows.items c.dir-item.result rest n c.in_ok-hides.hides c.in_ok-hides.ensures.dir c.in_ok-hides.ensures.hides c.if-hides.true
    ∙ ap (λ (r : Row). c.loop-dir.rows.items ++ row_at r n) (sym (rest_is c.args.row.now c.loop-dir.dir-index c.dir-item.result c.loop-dir-test.true c.dir-item.is))
    ∙ c.loop-dir.invariant

pub loop-dir-preserved : goal.loop-dir-preserved
loop-dir-preserved c =
    let n = c.args.name.now in
    let rest = drop (c.loop-dir.dir-index + 1) c.args.row.now in
    next_on c.loop-dir.rows.items c.put_next.new.rows.items c.dir-item.result rest n c.in_ok-hides.hides c.in_ok-hides.ensures.dir c.in_ok-hides.ensures.hides c.if-hides.false
    ∙ ap (λ (r : Row). c.loop-dir.rows.items ++ row_at r n) (sym (rest_is c.args.row.now c.loop-dir.dir-index c.dir-item.result c.loop-dir-test.true c.dir-item.is))
    ∙ c.loop-dir.invariant

pub returns : goal.returns
returns c =
    let none : drop c.loop-dir.dir-index c.args.row.now ≡ [] = drop_all c.loop-dir.dir-index c.args.row.now (omega arith) in
    sym (append-nil c.loop-dir.rows.items)
    ∙ ap (λ (r : Row). c.loop-dir.rows.items ++ row_at r c.args.name.now) (sym none)
    ∙ c.loop-dir.invariant
