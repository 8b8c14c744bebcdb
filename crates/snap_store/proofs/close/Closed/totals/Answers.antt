use Rattle.std.specs.Option.{option_map}
use Rattle.std.proofs.Common.{◌≡◌, ◌∙◌, subst}
use Rattle.snap_call.specs.State.{place_of}
use Rattle.snap_call.specs.Totals.{counted_in}
use Rattle.snap_call.specs.Records.{sum_of}
use Rattle.snap_book.specs.Book.{BookValue}
use Rattle.snap_store.proofs.Closing.{totals_alone}
use Rattle.snap_store.proofs.close.Closed.totals.Goals as goal

pub returns-clause-counts : goal.returns-clause-counts
returns-clause-counts g c =
    let s = c.self.inside.book.state in
    let name = c.args.namespace.now in
    subst (λ (b : BookValue). c.totals.result ≡ option_map (λ place. sum_of counted_in place b.state.records) (place_of name b.state.namespaces)) c.self.view_is
    (c.totals.ensures.counts ∙ totals_alone (place_of name s.namespaces) s.records c.self.invariant.0)
