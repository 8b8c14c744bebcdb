use Rattle.std.proofs.Common.{◌≡◌, ◌++◌, [], sym, ap, ◌∙◌, append-nil}
use Rattle.std.proofs.lemmas.Map.Iter.{rest_all}
use Rattle.snap_path.specs.Text.{Names}
use Rattle.snap_merge.specs.Listing.{names, IsListing}
use Rattle.snap_merge.proofs.Listings.{listing_is}
use Rattle.snap_merge.proofs.Sharing.{same_names}
use Rattle.snap_merge.proofs.stack.Stack.names.Goals as goal

pub returns-clause-ok : goal.returns-clause-ok
returns-clause-ok c =
    let s = c.args.self.now in
    let p = c.args.path.now in
    let none : c.loop-name.name-iterator ≡ [] = rest_all (λ n. n) _ _ _ c.in-None.is c.next.ensures.steps in
    let all : c.loop-name.names.items ≡ c.in_ok-shown.shown.keys = sym (append-nil c.loop-name.names.items) ∙ ap (λ (r : Names). c.loop-name.names.items ++ r) (sym none) ∙ c.loop-name.invariant ∙ c.into_iter-name-iterator.ensures.into_iter_gives.0 in
    let is : IsListing s p (names s p) = listing_is s p in
    all ∙ same_names c.in_ok-shown.shown.keys (names s p) c.len.ensures.ordered is.in_order (λ n. c.in_ok-shown.ensures n ∙ sym (is.exactly n))
