use Rattle.std.proofs.Common.{rules, ◌≡◌, List, ℕ, Some, None, cond, refl, sym, ap, ◌∙◌}
use Rattle.std.specs.Ordering.{nat_cmp}
use Rattle.std.specs.Cmp.Lexicographic.{slice_cmp}
use Rattle.std.specs.BTreeMap.{is_at}
use Rattle.std.specs.Option.{option_copied_mut}
use Rattle.slab.specs.Slab.{get}
use Rattle.snap_layer.specs.declared.inode.Inode.{Inode}
use Rattle.snap_layer.specs.declared.inode.Inode.TheVariants.{Dir}
use Rattle.snap_layer.specs.Walk.{entry_of}
use Rattle.snap_layer.proofs.Slots.{links}
use Rattle.snap_layer.proofs.edit.unlink.Goals as goal

pub returns : goal.returns
returns c =
    let is : get c.args.slots.now c.args.dir ≡ Some (Dir c.in-Dir.meta c.in-Dir.opaque c.in-Dir.entries) = sym c.get_mut.ensures.value ∙ ap option_copied_mut c.in-Some.is ∙ ap (λ (i : Inode). Some i) c.in-Dir.is in
    let gone : (m : List ℕ) → entry_of (Some (Dir c.in-Dir.meta c.in-Dir.opaque c.remove.new.self)) m ≡ cond (is_at (slice_cmp nat_cmp c.args.name.now) m) None (entry_of (Some (Dir c.in-Dir.meta c.in-Dir.opaque c.in-Dir.entries)) m) = search rules in
    links c.args.slots.now c.args.dir c.args.name.now None _ _ is gone refl refl refl
