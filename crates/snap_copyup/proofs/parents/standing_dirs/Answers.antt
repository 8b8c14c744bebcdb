use Rattle.std.proofs.Common.{◌≡◌, ◌+◌, length, subst, sym, ap, ◌∙◌, Some, arith}
use Rattle.std.specs.Prelude.{Option}
use Rattle.snap_path.specs.Text.{Names}
use Rattle.snap_layer.specs.Directory.{Directory}
use Rattle.snap_copyup.specs.Places.{StandsAbove}
use Rattle.snap_copyup.proofs.Standing.{root_dirs, stands_none, stands_leaf, stands_dir, stands_all}
use Rattle.snap_copyup.proofs.parents.standing_dirs.Goals as goal

pub loop-front-init : goal.loop-front-init
loop-front-init c = record {
  spot = c.root_dir-dir.ensures.dir;
  dirs = root_dirs c.args.layer.now c.names-names.result.now c.root_dir-dir.ensures.layer;
}

pub returns-in-Some-default-None-clause-above : goal.returns-in-Some-default-None-clause-above
returns-in-Some-default-None-clause-above c =
    let inv = c.loop-front.invariant in
    let stands = stands_leaf c.args.layer.now c.names-names.result.now c.root_dir-dir.ensures.layer c.loop-front.front c.loop-front.dir c.index-names-front.result inv.spot inv.dirs c.loop-front-test.true c.index-names-front.is c.in-Some-default-None.field-0-0
    (sym c.entry.ensures ∙ c.in-Some-default-None.is ∙ ap (λ (o : Option Directory). Some (c.in-Some-default-None.field-0-0, o)) c.in-Some-default-None.field-0-1-is) in
    subst (λ (p : Names). StandsAbove c.args.layer.now p c.min.result) c.names-names.ensures.names (subst (StandsAbove c.args.layer.now c.names-names.result.now) (sym c.min.ensures) stands)

pub returns-in-None-clause-above : goal.returns-in-None-clause-above
returns-in-None-clause-above c =
    let inv = c.loop-front.invariant in
    subst (λ (p : Names). StandsAbove c.args.layer.now p (c.loop-front.front + 1)) c.names-names.ensures.names
    (stands_none c.args.layer.now c.names-names.result.now c.root_dir-dir.ensures.layer c.loop-front.front c.loop-front.dir c.index-names-front.result inv.spot inv.dirs c.loop-front-test.true c.index-names-front.is (sym c.entry.ensures ∙ c.in-None.is))

pub loop-front-preserved : goal.loop-front-preserved
loop-front-preserved c =
    let inv = c.loop-front.invariant in
    let on = stands_dir c.args.layer.now c.names-names.result.now c.root_dir-dir.ensures.layer c.loop-front.front c.loop-front.dir c.index-names-front.result inv.spot inv.dirs c.loop-front-test.true c.index-names-front.is c.in-Some-default-Some.field-0-0 c.in-Some-default-Some.next
    (sym c.entry.ensures ∙ c.in-Some-default-Some.is ∙ ap (λ (o : Option Directory). Some (c.in-Some-default-Some.field-0-0, o)) c.in-Some-default-Some.field-0-1-is) in
    record { spot = on.0; dirs = on.1 }

pub returns-clause-above : goal.returns-clause-above
returns-clause-above c =
    let same : c.loop-front.front ≡ length c.names-names.result.now = omega arith in
    subst (λ (p : Names). StandsAbove c.args.layer.now p (length c.names-names.result.now)) c.names-names.ensures.names
    (stands_all c.args.layer.now c.names-names.result.now c.loop-front.front same c.loop-front.invariant.dirs)
