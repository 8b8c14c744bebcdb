use Rattle.std.proofs.Common.{◌≡◌, Some, refl, sym, ap, ◌∙◌}
use Rattle.std.specs.Ordering.{nat_cmp}
use Rattle.std.specs.Cmp.Lexicographic.{slice_cmp}
use Rattle.std.specs.Map.{lookup}
use Rattle.std.specs.BTreeMap.{is_at}
use Rattle.std.specs.Option.{option_copied_mut}
use Rattle.slab.specs.Slab.{get}
use Rattle.snap_layer.specs.declared.inode.Inode.{Inode}
use Rattle.snap_layer.specs.declared.inode.Inode.TheVariants.{Dir}
use Rattle.snap_layer.proofs.Slots.{on_ok, on_err, links, same}
use Rattle.snap_layer.proofs.edit.link.Goals as goal

pub returns-clause-ok : goal.returns-clause-ok
returns-clause-ok c =
    let is : get c.args.slots.now c.args.dir ≡ Some (Dir c.in-Dir.meta c.in-Dir.opaque c.in-Dir.entries) = sym c.get_mut.ensures.value ∙ ap option_copied_mut c.in-Some.is ∙ ap (λ (i : Inode). Some i) c.in-Dir.is in
    on_ok c.set_entry.result (λ put. links c.args.slots.now c.args.dir c.args.name.now (Some c.args.target) _ _ is put refl refl refl) c.set_entry.ensures.ok

pub returns-clause-err : goal.returns-clause-err
returns-clause-err c =
    let is : get c.args.slots.now c.args.dir ≡ Some (Dir c.in-Dir.meta c.in-Dir.opaque c.in-Dir.entries) = sym c.get_mut.ensures.value ∙ ap option_copied_mut c.in-Some.is ∙ ap (λ (i : Inode). Some i) c.in-Dir.is in
    on_err c.set_entry.result (λ kept. same c.args.slots.now c.args.dir _ _ is (λ m. ap (lookup (is_at (slice_cmp nat_cmp m))) kept) refl refl refl) c.set_entry.ensures.err
