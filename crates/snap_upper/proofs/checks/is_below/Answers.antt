use Rattle.std.proofs.Common.{sym, ap, ◌∙◌}
use Rattle.std.specs.Prelude.{is_some}
use Rattle.snap_upper.proofs.Erased.{seen_some}
use Rattle.snap_upper.proofs.checks.is_below.Goals as goal

pub returns : goal.returns
returns c = c.is_some.ensures ∙ sym (seen_some c.under.result) ∙ ap is_some c.under.ensures
