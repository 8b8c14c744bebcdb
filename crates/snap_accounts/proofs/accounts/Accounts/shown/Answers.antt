use Rattle.std.proofs.Common.{◌≡◌, List, ap, ◌∙◌, subst}
use Rattle.std.specs.Prelude.{IfOk}
use Rattle.snap_layer.specs.Tree.{Tree}
use Rattle.snap_call.specs.declared.state.State.{State}
use Rattle.snap_call.specs.State.{is_too_deep, or_empty, shown_layers}
use Rattle.snap_call.proofs.Keeping.{good_deep}
use Rattle.snap_accounts.proofs.accounts.Accounts.shown.Goals as goal

pub chain-requires : goal.chain-requires
chain-requires g c =
    good_deep c.self.inside.state c.self.invariant.good c.args.place c.args.parent.now
    (ap (λ (u : State). is_too_deep u.ancestors c.args.place c.args.parent.now u.records) c.self.view_is ∙ c.requires)

pub returns : goal.returns
returns g c =
    let place = c.args.place in
    let parent = c.args.parent.now in
    let same : or_empty c.in_ok-chain.chain.layers ≡ shown_layers place parent c.args.self.now.records =
    ap or_empty c.in_ok-chain.ensures.layers ∙ ap (λ (u : State). shown_layers place parent u.records) c.self.view_is in
    subst (λ (layers : List Tree). IfOk c.or_empty.result (λ shown. shown ≡ layers)) same c.or_empty.ensures
