use Rattle.std.proofs.Common.{◌≡◌, OnOk, sym, subst, ◌∙◌}
use Rattle.snap_layer.specs.Tree.{Tree}
use Rattle.snap_layer.proofs.Kept.{has_body}
use Rattle.snap_copyup.specs.Copying.{with_parents}
use Rattle.snap_upper.specs.declared.op.Op.TheVariants as op
use Rattle.snap_upper.specs.After.{next_layer}
use Rattle.snap_upper.proofs.Linking.{way_last, other_number, own_name_place, own_made, own_full, later_refused}
use Rattle.snap_upper.proofs.names.add_link.Goals as goal

pub add_dirs_and_name-requires-clause-way : goal.add_dirs_and_name-requires-clause-way
add_dirs_and_name-requires-clause-way c = way_last c.args.layer.now c.args.lowers.now c.args.from.now c.args.to.now c.requires.layer c.requires.layers c.requires.passes

pub add_dirs_and_name-requires-clause-place : goal.add_dirs_and_name-requires-clause-place
add_dirs_and_name-requires-clause-place c = own_name_place c.args.layer.now c.args.lowers.now c.args.from.now c.args.to.now c.requires.layer c.requires.layers c.requires.passes c.in-Some.number (sym c.own_number.ensures ∙ c.in-Some.is)

pub add_dirs_and_name-requires-clause-there : goal.add_dirs_and_name-requires-clause-there
add_dirs_and_name-requires-clause-there c = has_body c.args.layer.now c.requires.layer c.args.from.now c.in-Some.number (sym c.own_number.ensures ∙ c.in-Some.is)

pub add_dirs_and_name-requires-clause-apart : goal.add_dirs_and_name-requires-clause-apart
add_dirs_and_name-requires-clause-apart c = other_number c.args.layer.now c.args.lowers.now c.args.from.now c.args.to.now c.requires.layer c.requires.layers c.requires.passes c.in-Some.number

pub returns-in-Some-clause-ok : goal.returns-in-Some-clause-ok
returns-in-Some-clause-ok c = subst (λ (t : Tree). OnOk c.add_dirs_and_name.result (c.add_dirs_and_name.new.layer ≡ t)) (own_made c.args.layer.now c.args.lowers.now c.args.from.now c.args.to.now c.requires.layer c.requires.layers c.requires.passes c.in-Some.number (sym c.own_number.ensures ∙ c.in-Some.is)) c.add_dirs_and_name.ensures.ok

pub returns-in-Some-clause-error : goal.returns-in-Some-clause-error
returns-in-Some-clause-error c =
    let u = c.args.layer.now in
    let ls = c.args.lowers.now in
    later_refused c.add_dirs_and_name.result (with_parents u ls c.args.to.now) (next_layer (op.Link c.args.from.now c.args.to.now) u ls)
    (own_full u ls c.args.from.now c.args.to.now c.requires.layer c.requires.layers c.requires.passes c.in-Some.number (sym c.own_number.ensures ∙ c.in-Some.is))
    c.add_dirs_and_name.ensures.error
