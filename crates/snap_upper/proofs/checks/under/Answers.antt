use Rattle.std.proofs.Common.{sym, ap, ◌∙◌}
use Rattle.std.specs.Prelude.{is_some, not}
use Rattle.snap_layer.specs.Tree.{at}
use Rattle.snap_copyup.proofs.Alone.{below_seen}
use Rattle.snap_copyup.proofs.Steps.{none_from}
use Rattle.snap_upper.proofs.checks.under.Goals as goal

pub returns-then-is_none : goal.returns-then-is_none
returns-then-is_none c =
    let u = c.args.layer.now in
    let p = c.args.path.now in
    let none = none_from (at u p) (ap is_some (sym c.at.ensures.node) ∙ c.is_none.ensures ∙ ap not c.if-is_none.true) in
    c.requires.seen ∙ below_seen u c.args.lowers.now p none
