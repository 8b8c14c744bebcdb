use Rattle.std.proofs.Common.{sym, ap, ◌∙◌}
use Rattle.std.specs.Prelude.{◌||◌}
use Rattle.snap_diff.proofs.Places.{entry_none, entry_some}
use Rattle.snap_diff.proofs.own.Own.entry.Goals as goal

pub returns-in-Some : goal.returns-in-Some
returns-in-Some c = λ t p ok own. entry_some t ok p c.args.self.now.node c.args.self.now.dir c.args.self.now.hidden own c.args.name.now (c.args.self.now.hidden || c.node_hides.result) (ap (λ b. c.args.self.now.hidden || b) c.node_hides.ensures) c.in-Some.node c.in-Some.dir (sym c.find.ensures ∙ c.in-Some.is)

pub returns-in-None : goal.returns-in-None
returns-in-None c = λ t p ok own. entry_none t ok p c.args.self.now.node c.args.self.now.dir c.args.self.now.hidden own c.args.name.now (c.args.self.now.hidden || c.node_hides.result) (ap (λ b. c.args.self.now.hidden || b) c.node_hides.ensures) (sym c.find.ensures ∙ c.in-None.is)
