use Rattle.std.proofs.Common.{◌≡◌, false, sym, ◌∙◌, subst}
use Rattle.snap_record.specs.Labels.{Bytes}
use Rattle.snap_call.specs.declared.state.State.{State}
use Rattle.snap_call.specs.State.{ancestors, is_too_deep, layers_of, most_ancestors}
use Rattle.snap_call.proofs.Keeping.{good_deep}
use Rattle.snap_book.proofs.active.Active.put_saved.Goals as goal

pub chain-requires : goal.chain-requires
chain-requires g c =
    let s = c.args.accounts.now in
    let place = c.args.place in
    subst (λ (u : State). is_too_deep most_ancestors place c.as_str-parent.result.now u.records ≡ false) (sym c.state.ensures.same)
    (subst (λ (p : Bytes). is_too_deep most_ancestors place p s.records ≡ false) (sym c.as_str-parent.ensures)
    (good_deep s c.state.ensures.good place c.args.saved.parent c.requires.possible.deep))

pub returns-clause-active : goal.returns-clause-active
returns-clause-active g c =
    let place = c.args.place in
    let key = c.in_ok-key.ensures.cases in
    let lowers = c.in_ok-chain.ensures.layers ∙ (λ i. layers_of (ancestors place (c.as_str-parent.ensures i) (c.state.ensures.same i).records)) in
    λ i. record { namespace = place; key = key i; lowers = lowers i; layer = c.args.layer; share = c.in-Some.share }
