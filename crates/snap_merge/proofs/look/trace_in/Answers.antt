use Rattle.std.proofs.Common.{◌≡◌, Some, refl, sym, ap, ◌∙◌, length, arith}
use Rattle.std.specs.Prelude.{Option}
use Rattle.snap_layer.specs.Directory.{Directory}
use Rattle.snap_merge.proofs.Reaching.{dir_whole, traced_none, traced_leaf, goes_on, above_more, covered_more, traced_end}
use Rattle.snap_merge.proofs.look.trace_in.Goals as goal

pub returns-in-Some-default-None-clause-traced : goal.returns-in-Some-default-None-clause-traced
returns-in-Some-default-None-clause-traced c =
    let inv = c.loop-dirs.invariant in
    traced_leaf c.args.layer.now c.args.names.now c.loop-dirs.dirs c.loop-dirs.dir c.loop-dirs.node c.loop-dirs.hidden c.node_hides-hidden.result c.index-names-dirs.result inv.spot inv.node inv.kind inv.hidden inv.above c.loop-dirs-test.true c.index-names-dirs.is c.node_hides-hidden.ensures c.in-Some-default-None.entry
    (sym c.entry.ensures ∙ c.in-Some-default-None.is ∙ ap (λ (o : Option Directory). Some (c.in-Some-default-None.entry, o)) c.in-Some-default-None.field-0-1-is)

pub returns-in-None-clause-traced : goal.returns-in-None-clause-traced
returns-in-None-clause-traced c =
    let inv = c.loop-dirs.invariant in
    traced_none c.args.layer.now c.args.names.now c.loop-dirs.dirs c.loop-dirs.dir c.loop-dirs.node c.loop-dirs.hidden c.node_hides-hidden.result c.index-names-dirs.result inv.spot inv.node inv.kind inv.hidden inv.above c.loop-dirs-test.true c.index-names-dirs.is c.node_hides-hidden.ensures
    (sym c.entry.ensures ∙ c.in-None.is)

pub loop-dirs-preserved : goal.loop-dirs-preserved
loop-dirs-preserved c =
    let inv = c.loop-dirs.invariant in
    let on = goes_on c.args.layer.now c.args.names.now c.loop-dirs.dirs c.loop-dirs.dir c.loop-dirs.node c.loop-dirs.hidden c.node_hides-hidden.result c.index-names-dirs.result inv.spot inv.node inv.kind inv.hidden inv.above c.loop-dirs-test.true c.index-names-dirs.is c.node_hides-hidden.ensures c.in-Some-default-Some.entry c.in-Some-default-Some.next
    (sym c.entry.ensures ∙ c.in-Some-default-Some.is ∙ ap (λ (o : Option Directory). Some (c.in-Some-default-Some.entry, o)) c.in-Some-default-Some.field-0-1-is) in
    record {
      spot = on.0;
      node = on.1.0;
      kind = on.1.1;
      hidden = covered_more c.args.layer.now c.args.names.now c.loop-dirs.dirs c.loop-dirs.dir c.loop-dirs.node c.loop-dirs.hidden c.node_hides-hidden.result c.index-names-dirs.result inv.spot inv.node inv.kind inv.hidden inv.above c.loop-dirs-test.true c.index-names-dirs.is c.node_hides-hidden.ensures;
      above = above_more c.args.layer.now c.args.names.now c.loop-dirs.dirs c.loop-dirs.dir c.loop-dirs.node c.loop-dirs.hidden c.node_hides-hidden.result c.index-names-dirs.result inv.spot inv.node inv.kind inv.hidden inv.above c.loop-dirs-test.true c.index-names-dirs.is c.node_hides-hidden.ensures;
    }

pub returns-clause-traced : goal.returns-clause-traced
returns-clause-traced c =
    let inv = c.loop-dirs.invariant in
    let same : c.loop-dirs.dirs ≡ length c.args.names.now = omega arith in
    traced_end c.args.layer.now c.args.names.now c.loop-dirs.dirs c.loop-dirs.node c.loop-dirs.hidden same inv.node inv.kind inv.hidden inv.above

pub returns-in-Some-default-None-clause-dir : goal.returns-in-Some-default-None-clause-dir
returns-in-Some-default-None-clause-dir c =
    let lt = c.loop-dirs-test.true in
    omega arith

pub returns-in-None-clause-dir : goal.returns-in-None-clause-dir
returns-in-None-clause-dir c =
    let lt = c.loop-dirs-test.true in
    omega arith

pub returns-clause-dir : goal.returns-clause-dir
returns-clause-dir c =
    let inv = c.loop-dirs.invariant in
    let same : c.loop-dirs.dirs ≡ length c.args.names.now = omega arith in
    (dir_whole c.args.layer.now c.args.names.now c.loop-dirs.dirs c.loop-dirs.dir inv.spot same, refl)
