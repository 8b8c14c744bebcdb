use Rattle.std.proofs.Common.{◌<◌, ◌≤◌, ℕ, Option, true, false, length, sym, subst, ◌∙◌, arith}
use Rattle.std.specs.Option.{option_map}
use Rattle.snap_path.specs.Text.{Names}
use Rattle.snap_merge.specs.Objects.{Object, object}
use Rattle.snap_merge.specs.Reach.{Reached}
use Rattle.snap_merge.proofs.Reaching.{plain_first, plain_met, not_empty}
use Rattle.snap_merge.proofs.resolve.check_plain.Goals as goal

pub returns-then-reach-eq0-clause-plain : goal.returns-then-reach-eq0-clause-plain
returns-then-reach-eq0-clause-plain c =
    let o : Option Object = option_map object c.reach-reach.result.seen in
    let reached : Reached c.args.stack.now c.args.path.now c.reach-reach.result.dirs o = subst (λ (p : Names). Reached c.args.stack.now p c.reach-reach.result.dirs o) c.names-names.ensures.names c.reach-reach.ensures in
    let some : 0 < length c.args.path.now = subst (λ (p : Names). 0 < length p) c.names-names.ensures.names (not_empty c.names-names.result.now c.is_empty.result c.is_empty.ensures c.if-is_empty.false) in
    sym (plain_first c.args.stack.now c.args.path.now o (subst (λ (k : ℕ). Reached c.args.stack.now c.args.path.now k o) c.if-reach-eq0.true reached) some)

pub returns-then-reach-names-clause-plain : goal.returns-then-reach-names-clause-plain
returns-then-reach-names-clause-plain c =
    let o : Option Object = option_map object c.reach-reach.result.seen in
    let reached : Reached c.args.stack.now c.args.path.now c.reach-reach.result.dirs o = subst (λ (p : Names). Reached c.args.stack.now p c.reach-reach.result.dirs o) c.names-names.ensures.names c.reach-reach.ensures in
    let some : 0 < c.reach-reach.result.dirs = omega arith in
    let short : c.reach-reach.result.dirs < length c.args.path.now = subst (λ (p : Names). c.reach-reach.result.dirs < length p) c.names-names.ensures.names c.if-reach-names.true in
    c.met.ensures ∙ plain_met c.args.stack.now c.args.path.now c.reach-reach.result.dirs o reached some false (λ e. absurd (cc)) (λ e. short)

pub returns-clause-plain : goal.returns-clause-plain
returns-clause-plain c =
    let o : Option Object = option_map object c.reach-reach.result.seen in
    let reached : Reached c.args.stack.now c.args.path.now c.reach-reach.result.dirs o = subst (λ (p : Names). Reached c.args.stack.now p c.reach-reach.result.dirs o) c.names-names.ensures.names c.reach-reach.ensures in
    let some : 0 < c.reach-reach.result.dirs = omega arith in
    let whole : length c.args.path.now ≤ c.reach-reach.result.dirs = subst (λ (p : Names). length p ≤ c.reach-reach.result.dirs) c.names-names.ensures.names c.if-reach-names.false in
    c.met-2.ensures ∙ plain_met c.args.stack.now c.args.path.now c.reach-reach.result.dirs o reached some true (λ e. whole) (λ e. absurd (cc))
