use Rattle.std.proofs.Common.{◌≡◌, List, refl, sym, ap, ◌∙◌, subst, arith}
use Rattle.snap_layer.specs.Tree.{Tree}
use Rattle.snap_record.specs.declared.record.Content.TheVariants.{View}
use Rattle.snap_record.specs.declared.record.Record.{Record}
use Rattle.snap_call.specs.declared.reply.Reply.TheVariants.{Viewed}
use Rattle.snap_call.specs.declared.state.State.{State}
use Rattle.snap_call.specs.State.{ancestors, ids_of, is_too_deep, or_empty, shown_layers}
use Rattle.snap_call.specs.Step.{added, new_record}
use Rattle.snap_call.proofs.Keeping.{good_deep}
use Rattle.snap_accounts.specs.Changes.{IsNewView}
use Rattle.snap_accounts.proofs.accounts.Accounts.view_at.Goals as goal

pub chain-requires : goal.chain-requires
chain-requires g c =
    good_deep c.self.inside.state c.self.invariant.good c.args.place c.args.parent.now
    (ap (λ (u : State). is_too_deep u.ancestors c.args.place c.args.parent.now u.records) c.self.view_is ∙ c.requires.site.deep)

pub returns-clause-reply : goal.returns-clause-reply
returns-clause-reply g c =
    let s = c.args.self.now in
    let place = c.args.place in
    let parent = c.args.parent.now in
    let layers : shown_layers place parent s.records ≡ c.in_ok-shown.shown =
    ap (λ (u : State). shown_layers place parent u.records) (sym c.self.view_is) ∙ (ap or_empty (sym c.in_ok-ids.ensures.layers) ∙ sym c.in_ok-shown.ensures) in
    let made : new_record s place c.args.key.now parent c.args.labels.now (View (shown_layers place parent s.records)) ≡ c.in_ok-snapshot.snapshot =
    ap (λ (l : List Tree). new_record s place c.args.key.now parent c.args.labels.now (View l)) layers ∙ sym c.in_ok-snapshot.ensures in
    let ids : ids_of (ancestors place parent s.records) ≡ c.in_ok-ids.field-0.ids = ap (λ (u : State). ids_of (ancestors place parent u.records)) (sym c.self.view_is) ∙ sym c.in_ok-ids.ensures.ids in
    λ i. (added s (made i), Viewed (made i).id (ids i))

pub returns-clause-possible : goal.returns-clause-possible
returns-clause-possible g c =
    let s = c.args.self.now in
    let place = c.args.place in
    let parent = c.args.parent.now in
    let layers : shown_layers place parent s.records ≡ c.in_ok-shown.shown =
    ap (λ (u : State). shown_layers place parent u.records) (sym c.self.view_is) ∙ (ap or_empty (sym c.in_ok-ids.ensures.layers) ∙ sym c.in_ok-shown.ensures) in
    let made : new_record s place c.args.key.now parent c.args.labels.now (View (shown_layers place parent s.records)) ≡ c.in_ok-snapshot.snapshot =
    ap (λ (l : List Tree). new_record s place c.args.key.now parent c.args.labels.now (View l)) layers ∙ sym c.in_ok-snapshot.ensures in
    subst (λ (r : Record). IsNewView s r) made (record { view = refl; id = refl; known = (omega arith, omega arith, omega arith); site = c.requires.site })
