use Rattle.std.proofs.Common.{ap, ◌∙◌}
use Rattle.std.specs.Prelude.{find, nat_lt}
use Rattle.snap_layer.proofs.Makes.{keys_kept}
use Rattle.snap_layer.proofs.table.Table.next_body.Goals as goal

pub returns : goal.returns
returns c =
    c.next_place.ensures ∙ ap (find (λ k. nat_lt c.args.after k)) (keys_kept c.self.inside.slots c.self.inside.root c.self.inside.places.entries c.self.inside.next c.args.self.now c.self.inside.tree c.self.invariant c.self.view_is)
