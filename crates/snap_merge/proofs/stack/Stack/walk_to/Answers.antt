use Rattle.std.proofs.Common.{◌<◌, ◌≤◌, Option, None, length, ap, subst, ◌∙◌, arith}
use Rattle.std.specs.Option.{option_map}
use Rattle.snap_path.specs.Text.{Names}
use Rattle.snap_merge.specs.Objects.{Object, object}
use Rattle.snap_merge.specs.Walk.{walk_on}
use Rattle.snap_merge.specs.Reach.{Reached}
use Rattle.snap_merge.proofs.Reaching.{walk_passes, walk_stops, walk_on_some, reached_whole}
use Rattle.snap_merge.proofs.stack.Stack.walk_to.Goals as goal

pub returns-then-names-reach-clause-ok : goal.returns-then-names-reach-clause-ok
returns-then-names-reach-clause-ok c =
    let o : Option Object = option_map object c.reach-reach.result.seen in
    let reached : Reached c.args.self.now c.args.path.now c.reach-reach.result.dirs o = subst (λ (p : Names). Reached c.args.self.now p c.reach-reach.result.dirs o) c.names-names.ensures.names c.reach-reach.ensures in
    let whole : length c.args.path.now ≤ c.reach-reach.result.dirs = subst (λ (p : Names). length p ≤ c.reach-reach.result.dirs) c.names-names.ensures.names c.if-names-reach.true in
    (walk_passes c.args.self.now c.args.path.now c.reach-reach.result.dirs o reached whole, reached_whole c.args.self.now c.args.path.now c.reach-reach.result.dirs o reached whole)

pub returns-in-Some-clause-err : goal.returns-in-Some-clause-err
returns-in-Some-clause-err c =
    let o : Option Object = option_map object c.reach-reach.result.seen in
    let reached : Reached c.args.self.now c.args.path.now c.reach-reach.result.dirs o = subst (λ (p : Names). Reached c.args.self.now p c.reach-reach.result.dirs o) c.names-names.ensures.names c.reach-reach.ensures in
    let short : c.reach-reach.result.dirs < length c.args.path.now = subst (λ (p : Names). c.reach-reach.result.dirs < length p) c.names-names.ensures.names c.if-names-reach.false in
    walk_stops c.args.self.now c.args.path.now c.reach-reach.result.dirs o reached short ∙ walk_on_some o (object c.in-Some.field-0) (reached.stops (omega arith)) (ap (option_map object) c.in-Some.is)

pub returns-in-None-clause-err : goal.returns-in-None-clause-err
returns-in-None-clause-err c =
    let o : Option Object = option_map object c.reach-reach.result.seen in
    let reached : Reached c.args.self.now c.args.path.now c.reach-reach.result.dirs o = subst (λ (p : Names). Reached c.args.self.now p c.reach-reach.result.dirs o) c.names-names.ensures.names c.reach-reach.ensures in
    let short : c.reach-reach.result.dirs < length c.args.path.now = subst (λ (p : Names). c.reach-reach.result.dirs < length p) c.names-names.ensures.names c.if-names-reach.false in
    walk_stops c.args.self.now c.args.path.now c.reach-reach.result.dirs o reached short ∙ ap (λ (x : Option Object). walk_on x None) (ap (option_map object) c.in-None.is)
