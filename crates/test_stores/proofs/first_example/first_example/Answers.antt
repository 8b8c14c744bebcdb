use Rattle.std.proofs.Common.{◌∷◌, List, [], ◌++◌, ap, ◌∙◌, subst}
use Rattle.snap_call.specs.State.{opening}
use Rattle.snap_round.specs.declared.rule.Round.{Round}
use Rattle.snap_tape.specs.Tapes.{SessionValue}
use Rattle.snap_store.specs.Closing.{AreSessions}
use Rattle.test_stores.proofs.FirstLayer.{true_is}
use Rattle.test_stores.proofs.FirstRound.{closed_total}
use Rattle.test_stores.proofs.first_example.first_example.Goals as goal

pub returns-in-Ok-close : goal.returns-in-Ok-close
returns-in-Ok-close g c =
    let u = c.is_committed.ensures.tape (true_is c.is_committed.result c.if-not-is_committed.false) in
    let began = ap (λ (r : Round). r.opening) (c.in-Ok-close.ensures.round ∙ c.in-Ok.ensures.opened) ∙ ap opening c.requires.config in
    let handed : AreSessions c.in-Ok-close.closed.journal (c.is_committed.new.session ∷ []) = subst (AreSessions c.in-Ok-close.closed.journal) (c.in-Ok-push.ensures.items ∙ ap (λ (l : List SessionValue). l ++ c.is_committed.new.session ∷ []) c.new-sessions.ensures.items) c.in-Ok-close.ensures.sessions in
    c.totals.ensures.counts ∙ closed_total c.in-Ok-close.closed c.is_committed.new.session u.0 u.1 u.2 u.3 handed c.in-Ok-close.ensures.kept began u.5 u.4
