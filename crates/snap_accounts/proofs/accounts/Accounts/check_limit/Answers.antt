use Rattle.std.proofs.Common.{◌≡◌, Some, sym, ap, ◌∙◌, subst}
use Rattle.snap_usage.specs.declared.usage.Usage.{Usage}
use Rattle.snap_usage.specs.Counted.{Covers}
use Rattle.snap_call.specs.declared.state.State.{State}
use Rattle.snap_call.specs.State.{place_of}
use Rattle.snap_call.proofs.Keeping.{place_of-below}
use Rattle.snap_call.proofs.Leasing.{name_at-place, place_of-taken}
use Rattle.snap_accounts.proofs.accounts.Accounts.check_limit.Goals as goal

pub returns-clause-fits : goal.returns-clause-fits
returns-clause-fits g c =
    let s : State = c.args.self.now in
    let named : place_of c.args.namespace.now s.namespaces ≡ Some c.in-Some.place = ap (λ (u : State). place_of c.args.namespace.now u.namespaces) (sym c.self.view_is) ∙ sym c.in-Some.ensures in
    record {
      inside = place_of-below c.args.namespace.now s.namespaces c.in-Some.place named;
      taken = place_of-taken c.args.namespace.now s.namespaces c.in-Some.place named;
      same = name_at-place c.args.namespace.now s.namespaces c.in-Some.place named;
      formed = sym c.is_limit.ensures ∙ c.if-not-is_limit.false;
      covers = subst (λ (u : Usage). Covers c.args.limit u) c.total.ensures.total (c.covers.ensures.0 c.if-not-covers.false);
    }
