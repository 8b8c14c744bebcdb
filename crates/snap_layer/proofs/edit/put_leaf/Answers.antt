use Rattle.std.proofs.Common.{◌≡◌, ap, sym, subst, refl, ◌∙◌}
use Rattle.std.specs.Ordering.{nat_cmp}
use Rattle.std.specs.Cmp.{nat_cmp_total}
use Rattle.std.specs.FinMap.{nat_cmp-IsAntisymmetric}
use Rattle.std.specs.Map.{remove_entry}
use Rattle.std.specs.BTreeMap.{is_at, insert_entry}
use Rattle.snap_layer.specs.Tree.{IsDirAt}
use Rattle.snap_layer.proofs.Lists.{remove-insert_entry}
use Rattle.snap_layer.specs.Walk.{Clears, view_of, entry_at}
use Rattle.snap_layer.specs.Holds.{Places}
use Rattle.snap_layer.proofs.Slots.{same_trans, reserved, on_err_by}
use Rattle.snap_layer.proofs.Entering.{clears_dir, clears_none, clears_without, stays_placed, put_anew}
use Rattle.snap_layer.proofs.edit.put_leaf.Goals as goal

pub put_inode-requires-clause-dir : goal.put_inode-requires-clause-dir
put_inode-requires-clause-dir c =
    let view : view_of c.reserve.new.self ≡ view_of c.args.slots.now = ap view_of (c.reserve.ensures.rest_kept) in
    let clears : Clears (view_of c.args.slots.now) (view_of c.clear_entry.new.slots) (insert_entry nat_cmp c.args.places.now.entries c.args.number c.args.dir) c.clear_entry.new.places.entries c.args.dir c.args.name.now ((view_of c.args.slots.now).entries c.args.dir c.args.name.now) = subst (λ v. Clears v (view_of c.clear_entry.new.slots) (insert_entry nat_cmp c.args.places.now.entries c.args.number c.args.dir) c.clear_entry.new.places.entries c.args.dir c.args.name.now (v.entries c.args.dir c.args.name.now)) view (subst (λ (ps : Places). Clears (view_of c.reserve.new.self) (view_of c.clear_entry.new.slots) ps c.clear_entry.new.places.entries c.args.dir c.args.name.now (entry_at c.reserve.new.self c.args.dir c.args.name.now)) c.in_ok-insert.ensures.entries c.clear_entry.ensures.clears) in
    subst IsDirAt (sym (clears_dir (view_of c.args.slots.now) (view_of c.clear_entry.new.slots) (insert_entry nat_cmp c.args.places.now.entries c.args.number c.args.dir) c.clear_entry.new.places.entries c.args.dir c.args.name.now c.requires.apart clears)) c.requires.dir

pub set_place-requires : goal.set_place-requires
set_place-requires c =
    let view : view_of c.reserve.new.self ≡ view_of c.args.slots.now = ap view_of (c.reserve.ensures.rest_kept) in
    let clears : Clears (view_of c.args.slots.now) (view_of c.clear_entry.new.slots) (insert_entry nat_cmp c.args.places.now.entries c.args.number c.args.dir) c.clear_entry.new.places.entries c.args.dir c.args.name.now ((view_of c.args.slots.now).entries c.args.dir c.args.name.now) = subst (λ v. Clears v (view_of c.clear_entry.new.slots) (insert_entry nat_cmp c.args.places.now.entries c.args.number c.args.dir) c.clear_entry.new.places.entries c.args.dir c.args.name.now (v.entries c.args.dir c.args.name.now)) view (subst (λ (ps : Places). Clears (view_of c.reserve.new.self) (view_of c.clear_entry.new.slots) ps c.clear_entry.new.places.entries c.args.dir c.args.name.now (entry_at c.reserve.new.self c.args.dir c.args.name.now)) c.in_ok-insert.ensures.entries c.clear_entry.ensures.clears) in
    stays_placed c.args.places.now.entries c.args.number c.args.dir c.requires.sorted c.requires.fresh (view_of c.args.slots.now) (view_of c.clear_entry.new.slots) c.clear_entry.new.places.entries c.args.dir c.args.name.now c.requires.other clears

pub returns-in-Ok-clause-ok : goal.returns-in-Ok-clause-ok
returns-in-Ok-clause-ok c =
    let view : view_of c.reserve.new.self ≡ view_of c.args.slots.now = ap view_of (c.reserve.ensures.rest_kept) in
    let clears : Clears (view_of c.args.slots.now) (view_of c.clear_entry.new.slots) (insert_entry nat_cmp c.args.places.now.entries c.args.number c.args.dir) c.clear_entry.new.places.entries c.args.dir c.args.name.now ((view_of c.args.slots.now).entries c.args.dir c.args.name.now) = subst (λ v. Clears v (view_of c.clear_entry.new.slots) (insert_entry nat_cmp c.args.places.now.entries c.args.number c.args.dir) c.clear_entry.new.places.entries c.args.dir c.args.name.now (v.entries c.args.dir c.args.name.now)) view (subst (λ (ps : Places). Clears (view_of c.reserve.new.self) (view_of c.clear_entry.new.slots) ps c.clear_entry.new.places.entries c.args.dir c.args.name.now (entry_at c.reserve.new.self c.args.dir c.args.name.now)) c.in_ok-insert.ensures.entries c.clear_entry.ensures.clears) in
    λ v is. record {
      cleared = view_of c.clear_entry.new.slots;
      left = remove_entry (is_at (nat_cmp c.args.number)) c.clear_entry.new.places.entries;
      key = c.clear_entry.new.slots.vacant_key;
      clears = clears_without c.args.places.now.entries c.args.number c.args.dir c.requires.sorted c.requires.fresh (view_of c.args.slots.now) (view_of c.clear_entry.new.slots) c.clear_entry.new.places.entries c.args.dir c.args.name.now _ refl clears;
      adds = c.in-Ok.ensures.ok v is;
      places = c.set_place.ensures.entries ∙ ap (insert_entry nat_cmp c.clear_entry.new.places.entries c.args.number) c.vacant_key-key.ensures.value ∙ put_anew c.clear_entry.new.places.entries c.args.number c.clear_entry.new.slots.vacant_key c.set_place.ensures.ordered;
    }

pub returns-in-Err-clause-err : goal.returns-in-Err-clause-err
returns-in-Err-clause-err c =
    let view : view_of c.reserve.new.self ≡ view_of c.args.slots.now = ap view_of (c.reserve.ensures.rest_kept) in
    let clears : Clears (view_of c.args.slots.now) (view_of c.clear_entry.new.slots) (insert_entry nat_cmp c.args.places.now.entries c.args.number c.args.dir) c.clear_entry.new.places.entries c.args.dir c.args.name.now ((view_of c.args.slots.now).entries c.args.dir c.args.name.now) = subst (λ v. Clears v (view_of c.clear_entry.new.slots) (insert_entry nat_cmp c.args.places.now.entries c.args.number c.args.dir) c.clear_entry.new.places.entries c.args.dir c.args.name.now (v.entries c.args.dir c.args.name.now)) view (subst (λ (ps : Places). Clears (view_of c.reserve.new.self) (view_of c.clear_entry.new.slots) ps c.clear_entry.new.places.entries c.args.dir c.args.name.now (entry_at c.reserve.new.self c.args.dir c.args.name.now)) c.in_ok-insert.ensures.entries c.clear_entry.ensures.clears) in
    let none = c.in-Err.ensures.sure (c.clear_entry.ensures.room c.in_ok-reserve.ensures.room) in
    let same = clears_none (view_of c.args.slots.now) (view_of c.clear_entry.new.slots) (insert_entry nat_cmp c.args.places.now.entries c.args.number c.args.dir) c.clear_entry.new.places.entries c.args.dir c.args.name.now c.requires.apart clears none in
    (same_trans (view_of c.args.slots.now) (view_of c.clear_entry.new.slots) (view_of c.put_inode.new.slots) same.0 c.in-Err.ensures.err, c.remove.ensures.entries ∙ ap (remove_entry (is_at (nat_cmp c.args.number))) same.1 ∙ remove-insert_entry nat_cmp_total nat_cmp-IsAntisymmetric c.args.places.now.entries c.args.number c.args.dir c.requires.fresh)

pub clear_entry-requires : goal.clear_entry-requires
clear_entry-requires c = subst IsDirAt (sym ((reserved c.args.slots.now c.reserve.new.self c.reserve.ensures.rest_kept).nodes c.args.dir)) c.requires.dir

pub put_inode-requires-clause-bare : goal.put_inode-requires-clause-bare
put_inode-requires-clause-bare c = c.requires.bare

pub returns-in_err-reserve-clause-err : goal.returns-in_err-reserve-clause-err
returns-in_err-reserve-clause-err c = on_err_by c.from_residual.result ((reserved c.args.slots.now c.reserve.new.self c.reserve.ensures.rest_kept), refl)
