use Rattle.std.proofs.Common.{◌∙◌, sym}
use Rattle.snap_layer.proofs.Ranges.{first_past, none_past}
use Rattle.snap_layer.proofs.edit.next_place.Goals as goal

pub returns-in-None : goal.returns-in-None
returns-in-None c = sym (none_past c.args.after c.args.places.now.entries (sym (c.range.ensures.between tt) ∙ c.in-None.ensures.steps.0))

pub returns-in-Some : goal.returns-in-Some
returns-in-Some c = sym (first_past c.args.after c.args.places.now.entries _ _ (sym (c.range.ensures.between tt) ∙ c.in-Some.ensures.steps))
