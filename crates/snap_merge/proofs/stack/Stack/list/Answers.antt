use Rattle.std.proofs.Common.{◌≡◌, IfOk, Ok, Err, sym, subst}
use Rattle.snap_path.specs.Text.{Names}
use Rattle.snap_merge.specs.Listing.{names, IsListing}
use Rattle.snap_merge.proofs.Listings.{listing_is}
use Rattle.snap_merge.proofs.stack.Stack.list.Goals as goal

pub returns-in-Some-Dir-clause-names : goal.returns-in-Some-Dir-clause-names
returns-in-Some-Dir-clause-names c =
    elim c.names.result as (λ r. IfOk r (λ v. v.items ≡ names c.args.self.now c.args.path.now) → IfOk r (λ v. IsListing c.args.self.now c.args.path.now v.items)) [
      | Ok v ↦ λ e. subst (λ (ns : Names). IsListing c.args.self.now c.args.path.now ns) (sym e) (listing_is c.args.self.now c.args.path.now)
      | Err e ↦ λ x. tt
    ] c.names.ensures.ok
