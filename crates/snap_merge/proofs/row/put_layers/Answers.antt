use Rattle.std.proofs.Common.{◌≡◌, ◌+◌, ◌++◌, [], List, drop, sym, ap, ◌∙◌, append-nil, arith}
use Rattle.std.proofs.lemmas.List.{drop_all}
use Rattle.snap_layer.specs.Tree.{Tree}
use Rattle.snap_merge.specs.Row.{row}
use Rattle.snap_merge.proofs.Reaching.{left_is}
use Rattle.snap_merge.proofs.Rows.{row_on, row_ends}
use Rattle.snap_merge.proofs.row.put_layers.Goals as goal

pub returns-then-not-goes_on : goal.returns-then-not-goes_on
returns-then-not-goes_on c =
    let p = c.args.names.now in
    let rest = drop (c.loop-shared.shared-index + 1) c.args.lowers.now in
    row_ends c.loop-shared.rows.items c.put_layer.new.rows.items c.layer.result.now rest p c.in_ok-goes_on.goes_on c.in_ok-goes_on.ensures.dir c.in_ok-goes_on.ensures.on c.if-not-goes_on.true
    ∙ ap (λ (ts : List Tree). c.loop-shared.rows.items ++ row ts p) (sym (left_is c.args.lowers.now c.loop-shared.shared-index c.shared-item.result c.layer.result.now c.loop-shared-test.true c.shared-item.is c.layer.ensures.value))
    ∙ c.loop-shared.invariant

pub loop-shared-preserved : goal.loop-shared-preserved
loop-shared-preserved c =
    let p = c.args.names.now in
    let rest = drop (c.loop-shared.shared-index + 1) c.args.lowers.now in
    row_on c.loop-shared.rows.items c.put_layer.new.rows.items c.layer.result.now rest p c.in_ok-goes_on.goes_on c.in_ok-goes_on.ensures.dir c.in_ok-goes_on.ensures.on c.if-not-goes_on.false
    ∙ ap (λ (ts : List Tree). c.loop-shared.rows.items ++ row ts p) (sym (left_is c.args.lowers.now c.loop-shared.shared-index c.shared-item.result c.layer.result.now c.loop-shared-test.true c.shared-item.is c.layer.ensures.value))
    ∙ c.loop-shared.invariant

pub returns : goal.returns
returns c =
    let none : drop c.loop-shared.shared-index c.args.lowers.now ≡ [] = drop_all c.loop-shared.shared-index c.args.lowers.now (omega arith) in
    sym (append-nil c.loop-shared.rows.items)
    ∙ ap (λ (ts : List Tree). c.loop-shared.rows.items ++ row ts c.args.names.now) (sym none)
    ∙ c.loop-shared.invariant
