use Rattle.std.proofs.Common.{◌∙◌, refl, sym, ap}
use Rattle.std.specs.BTreeMap.{get_by_text}
use Rattle.snap_counts.proofs.Reading.{Sets-inserted}
use Rattle.snap_call.proofs.Naming.{put-named}
use Rattle.snap_call.proofs.namespaces.put_place.Goals as goal

pub returns : goal.returns
returns c =
    put-named c.args.places.now c.insert.new.self c.args.namespace.now c.args.place
    (Sets-inserted c.args.places.now c.args.places.now c.insert.new.self c.args.namespace.now.name c.in_ok-name.name c.args.place refl (c.in_ok-name.ensures.ok ∙ c.as_str-name.ensures) c.in_ok-insert.ensures.updates)
    (sym c.is_taken.ensures ∙ c.if-not-is_taken.false) c.get.result (c.get.ensures.value ∙ ap (get_by_text c.args.places.now) c.as_str-name.ensures) (sym c.is_some.ensures ∙ c.if-is_some.false)
