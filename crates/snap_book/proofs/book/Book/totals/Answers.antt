use Rattle.std.proofs.Common.{◌≡◌, ℕ, Option, Some, ap, ◌∙◌, subst}
use Rattle.std.specs.Option.{option_map}
use Rattle.snap_usage.specs.declared.usage.Usage.{Usage}
use Rattle.snap_call.specs.declared.state.State.{State}
use Rattle.snap_call.specs.State.{place_of}
use Rattle.snap_call.specs.Totals.{usage_taken}
use Rattle.snap_call.specs.Records.{sum_of}
use Rattle.snap_call.proofs.Totals.{charge_is}
use Rattle.snap_book.specs.Book.{BookValue}
use Rattle.snap_book.proofs.book.Book.totals.Goals as goal

pub returns-in-Some-clause-counts : goal.returns-in-Some-clause-counts
returns-in-Some-clause-counts g c =
    let s : State = c.self.inside.accounts in
    let name = c.args.namespace.now in
    let total : c.total.result ≡ sum_of usage_taken c.in-Some.place s.records = c.total.ensures.total ∙ charge_is c.in-Some.place s.records c.state.ensures.good.promised.counted in
    let found : ◌≡◌ {A = Option ℕ} (Some c.in-Some.place) (place_of name s.namespaces) = subst (λ (t : State). ◌≡◌ {A = Option ℕ} (Some c.in-Some.place) (place_of name t.namespaces)) c.state.ensures.same c.in-Some.ensures in
    subst (λ (b : BookValue). ◌≡◌ {A = Option Usage} (Some c.total.result) (option_map (λ place. sum_of usage_taken place b.state.records) (place_of name b.state.namespaces))) c.self.view_is
    (ap (λ (u : Usage). Some u) total ∙ ap (option_map (λ place. sum_of usage_taken place s.records)) found)
