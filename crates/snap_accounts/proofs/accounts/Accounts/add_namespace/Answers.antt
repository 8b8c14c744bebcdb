use Rattle.std.proofs.Common.{◌≡◌, ℕ, ◌+◌, ◌++◌, ◌∷◌, [], length, List, sym, subst, ap, ◌∙◌}
use Rattle.std.specs.Prelude.{take}
use Rattle.snap_usage.specs.declared.usage.Usage.{Usage}
use Rattle.snap_usage.specs.Counted.{no_usage}
use Rattle.snap_call.specs.declared.state.State.{State}
use Rattle.snap_call.specs.declared.config.Namespace.{Namespace}
use Rattle.snap_call.specs.State.{with_namespace}
use Rattle.snap_accounts.specs.Accounts.{AreAccounts}
use Rattle.snap_accounts.specs.Changes.{IsNewSpace}
use Rattle.snap_accounts.proofs.Changes.{accounts_spaced}
use Rattle.snap_accounts.proofs.accounts.Accounts.add_namespace.Goals as goal

pub invariant_of-self-2 : goal.invariant_of-self-2
invariant_of-self-2 g c =
    let s : State = c.self.inside.state in
    let m : Namespace = c.args.made in
    let us : List Usage = c.self.inside.totals in
    let new : IsNewSpace s m = subst (λ (u : State). IsNewSpace u m) (sym c.self.view_is) c.requires.new in
    let added : c.add_namespace-added.new.self ≡ record s { namespaces = with_namespace m s.namespaces } = c.in_ok-added.ensures.ok in
    let places : length c.as_slice.result.now ≡ length (with_namespace m s.namespaces) = ap length c.as_slice.ensures ∙ ap (λ (u : State). length u.namespaces) added in
    let totals : c.cut.new.self ≡ take (length (with_namespace m s.namespaces)) (us ++ no_usage ∷ []) =
    c.cut.ensures ∙ ap (λ (n : ℕ). take n c.push_none.new.self) places ∙ ap (λ (vs : List Usage). take (length (with_namespace m s.namespaces)) vs) c.in_ok-push_none.ensures.ok in
    subst (λ (u : State). AreAccounts (record u { entries = u.entries + 1 }) c.cut.new.self c.self.inside.slots c.self.inside.opened) (sym added)
    (accounts_spaced s us c.cut.new.self c.self.inside.slots c.self.inside.opened m c.self.invariant new totals)
