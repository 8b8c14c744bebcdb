use Rattle.std.proofs.Common.{◌≡◌, ◌∙◌, Bor, Option, None, Some, ap, refl, sym}
use Rattle.std.specs.Option.{option_copied, is_some}
use Rattle.snap_lease.proofs.NumberLemmas.{found-numbered}
use Rattle.snap_lease.proofs.numbers.LeaseNumbers.has_any.Goals as goal

some-copied : {X : Type 0} (o : Option (Bor X)) → is_some (option_copied o) ≡ is_some o
some-copied None = refl
some-copied (Some r) = refl

pub returns : goal.returns
returns c =
    found-numbered c.self.inside.map c.args.self.now c.args.namespace.now c.is_some.result
    (c.is_some.ensures ∙ sym (some-copied c.get.result) ∙ ap is_some c.get.ensures.value) c.self.view_is c.self.invariant
