use Rattle.std.proofs.Common.{◌∙◌, None, refl, sym, ap, subst}
use Rattle.std.proofs.lemmas.Map.Text.{btree_map_updates_text}
use Rattle.snap_call.specs.Namespaces.{ArePlaces, place_of}
use Rattle.snap_counts.proofs.Reading.{Sets-inserted}
use Rattle.snap_call.proofs.Naming.{placed-back, placed-pushed}
use Rattle.snap_call.proofs.namespaces.Namespaces.push.Goals as goal

pub invariant_of-self-in_default : goal.invariant_of-self-in_default
invariant_of-self-in_default c =
    let m = c.self.inside.places in
    let ns = c.self.inside.list in
    let n = c.args.namespace in
    placed-pushed m c.insert.new.self ns c.push.new.self n c.len.result c.self.invariant c.requires.taken (ap (place_of n.name) c.self.view_is ∙ c.requires.new) c.len.ensures c.in_default.ensures.ok
    (Sets-inserted m m c.insert.new.self n.name c.args.name c.len.result refl c.requires.named c.in_ok-insert.ensures.updates)

pub invariant_of-self-2 : goal.invariant_of-self-2
invariant_of-self-2 c =
    let m = c.self.inside.places in
    let ns = c.self.inside.list in
    let n = c.args.namespace in
    let sets = Sets-inserted m m c.insert.new.self n.name c.args.name c.len.result refl c.requires.named c.in_ok-insert.ensures.updates in
    let gone = c.as_str.ensures ∙ ap (λ v. v.name) c.in-Err.ensures.value_returned in
    subst (ArePlaces c.remove.new.self) (sym c.in-Err.ensures.err)
    (placed-back m c.insert.new.self c.remove.new.self ns n c.len.result c.as_str.result.now c.self.invariant (ap (place_of n.name) c.self.view_is ∙ c.requires.new) sets gone
    (btree_map_updates_text c.as_str.result.now c.insert.new.self c.remove.new.self None c.remove.ensures.updates))
