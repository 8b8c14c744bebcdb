use Rattle.std.proofs.Common.{◌∷◌, ◌≤◌, Option, subst}
use Rattle.snap_merge.specs.Objects.{Object, seen}
use Rattle.snap_upper.specs.declared.op.Op.TheVariants as op
use Rattle.snap_upper.specs.After.{most_of}
use Rattle.snap_upper.proofs.Outcomes.{stack_passes}
use Rattle.snap_upper.proofs.Writing.{IsSizable-passed, seen_file}
use Rattle.snap_upper.proofs.rules.truncate.Goals as goal

pub editing-requires-clause-there : goal.editing-requires-clause-there
editing-requires-clause-there c =
    let s = c.args.layer.now ∷ c.args.lowers.now in
    let p = c.args.path.now in
    let passes = stack_passes (op.Truncate p c.args.size) _ s c.over.ensures c.in_ok-old.ensures.error in
    seen_file (seen s p) (IsSizable-passed s p c.args.size passes).file

pub editing-requires-clause-short : goal.editing-requires-clause-short
editing-requires-clause-short c = λ m old was.
    let s = c.args.layer.now ∷ c.args.lowers.now in
    let p = c.args.path.now in
    let passes = stack_passes (op.Truncate p c.args.size) _ s c.over.ensures c.in_ok-old.ensures.error in
    subst (λ (o : Option Object). c.args.size ≤ most_of o) was (IsSizable-passed s p c.args.size passes).short
