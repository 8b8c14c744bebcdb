use Rattle.std.proofs.Common.{subst, ◌∙◌}
use Rattle.snap_call.specs.Spaces.{AreParentCounts}
use Rattle.snap_call.proofs.Entries.{children-count}
use Rattle.snap_call.proofs.spaces.space.Space.child_count.Goals as goal

pub returns : goal.returns
returns c = λ place of.
    let counts = c.self.inside.parents in
    c.count.ensures ∙ children-count place c.args.key.now c.args.self.now counts of (subst (λ rs. AreParentCounts rs counts) c.self.view_is c.self.invariant.1)
