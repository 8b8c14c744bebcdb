use Rattle.std.proofs.Common.{◌≡◌, ◌-◌, length, Some, take, drop, sym, ap, ◌∙◌, refl, subst, arith, length-drop}
use Rattle.std.proofs.lemmas.List.{take_all}
use Rattle.snap_path.specs.Text.{Names}
use Rattle.snap_layer.specs.contracts.node.Node as node_contracts
use Rattle.snap_layer.specs.declared.inode.Target.TheVariants as target
use Rattle.snap_layer.specs.Tree.{IsDirAt}
use Rattle.snap_layer.specs.Layers.{IsLayer}
use Rattle.snap_layer.specs.Edits.{with_dirs}
use Rattle.snap_layer.specs.Walk.{view_of, walk, stands, AddsDirs, IsVacantAt}
use Rattle.snap_layer.proofs.Slots.{on_ok, on_err}
use Rattle.snap_layer.proofs.Makes.{Makes, opens, makes_holds, makes_view, makes_kept, either, most_same}
use Rattle.snap_layer.proofs.Putting.{makes_same}
use Rattle.snap_layer.proofs.Chains.{chain_after, chain_layer, chain_makes, chain_most, slots_vacant}
use Rattle.snap_layer.proofs.table.Table.put_dirs.Goals as goal

pub dir_at-dir-requires : goal.dir_at-dir-requires
dir_at-dir-requires c =
    let m = opens c.self.inside.slots c.self.inside.root c.self.inside.places.entries c.self.inside.next c.args.self.now c.self.inside.tree c.self.invariant c.self.view_is in
    subst IsDirAt (sym (ap (λ (p : Names). stands (view_of c.self.inside.slots) c.self.inside.root (take c.args.front p)) c.names-names.ensures.names ∙ m.shows (take c.args.front c.args.path.now))) c.requires.dir

pub put_dirs-requires-clause-vacant : goal.put_dirs-requires-clause-vacant
put_dirs-requires-clause-vacant c =
    let m = opens c.self.inside.slots c.self.inside.root c.self.inside.places.entries c.self.inside.next c.args.self.now c.self.inside.tree c.self.invariant c.self.view_is in
    let layer : IsLayer c.args.self.now = subst IsLayer c.self.view_is c.self.invariant.layer in
    let names : c.names-names.result.now ≡ c.args.path.now = c.names-names.ensures.names in
    let rest : take (length c.names-names.result.now - c.args.front) (drop c.args.front c.names-names.result.now) ≡ drop c.args.front c.args.path.now = take_all (length c.names-names.result.now - c.args.front) (drop c.args.front c.names-names.result.now) (omega (arith, length-drop c.args.front c.names-names.result.now)) ∙ ap (drop c.args.front) names in
    let chain = chain_after c.args.self.now c.args.path.now c.args.front c.args.metas.now layer c.names-names.ensures.valid c.requires.dir c.requires.bare c.requires.metas c.requires.few in
    let leads : walk (view_of c.self.inside.slots).entries c.self.inside.root (take c.args.front c.args.path.now) ≡ Some (target.Inode c.dir_at-dir.result) = ap (λ (p : Names). walk (view_of c.self.inside.slots).entries c.self.inside.root (take c.args.front p)) (sym names) ∙ c.dir_at-dir.ensures.leads in
    subst (IsVacantAt (view_of c.self.inside.slots) c.dir_at-dir.result) (sym rest) (slots_vacant (view_of c.self.inside.slots) c.self.inside.root c.self.inside.places.entries c.self.inside.next c.args.self.now (take c.args.front c.args.path.now) (drop c.args.front c.args.path.now) c.dir_at-dir.result m chain.vacant leads)

pub invariant_of-self-inside : goal.invariant_of-self-inside
invariant_of-self-inside c =
    let m = opens c.self.inside.slots c.self.inside.root c.self.inside.places.entries c.self.inside.next c.args.self.now c.self.inside.tree c.self.invariant c.self.view_is in
    let layer : IsLayer c.args.self.now = subst IsLayer c.self.view_is c.self.invariant.layer in
    let names : c.names-names.result.now ≡ c.args.path.now = c.names-names.ensures.names in
    let rest : take (length c.names-names.result.now - c.args.front) (drop c.args.front c.names-names.result.now) ≡ drop c.args.front c.args.path.now = take_all (length c.names-names.result.now - c.args.front) (drop c.args.front c.names-names.result.now) (omega (arith, length-drop c.args.front c.names-names.result.now)) ∙ ap (drop c.args.front) names in
    let chain = chain_after c.args.self.now c.args.path.now c.args.front c.args.metas.now layer c.names-names.ensures.valid c.requires.dir c.requires.bare c.requires.metas c.requires.few in
    let leads : walk (view_of c.self.inside.slots).entries c.self.inside.root (take c.args.front c.args.path.now) ≡ Some (target.Inode c.dir_at-dir.result) = ap (λ (p : Names). walk (view_of c.self.inside.slots).entries c.self.inside.root (take c.args.front p)) (sym names) ∙ c.dir_at-dir.ensures.leads in
    let made : AddsDirs (view_of c.self.inside.slots) (view_of c.put_dirs.new.slots) c.dir_at-dir.result (take (length c.names-names.result.now - c.args.front) (drop c.args.front c.names-names.result.now)) c.args.metas.now → Makes (view_of c.put_dirs.new.slots) c.self.inside.root c.self.inside.places.entries c.self.inside.next (with_dirs c.args.self.now (take c.args.front c.args.path.now) (drop c.args.front c.args.path.now) c.args.metas.now) =
    λ done. chain_makes (view_of c.self.inside.slots) (view_of c.put_dirs.new.slots) c.self.inside.root c.self.inside.places.entries c.self.inside.next c.args.self.now (take c.args.front c.args.path.now) (drop c.args.front c.args.path.now) c.args.metas.now c.dir_at-dir.result m chain leads c.dir_at-dir.ensures.dir (subst (λ (p : Names). AddsDirs (view_of c.self.inside.slots) (view_of c.put_dirs.new.slots) c.dir_at-dir.result p c.args.metas.now) rest done) in
    let whole : IsLayer (with_dirs c.args.self.now (take c.args.front c.args.path.now) (drop c.args.front c.args.path.now) c.args.metas.now) = chain_layer c.args.self.now (take c.args.front c.args.path.now) (drop c.args.front c.args.path.now) c.args.metas.now chain in
    (either c.put_dirs.result c.put_dirs.ensures.ok c.put_dirs.ensures.err (λ done. makes_holds c.put_dirs.new.slots c.self.inside.root c.self.inside.places.entries c.self.inside.next (with_dirs c.args.self.now (take c.args.front c.args.path.now) (drop c.args.front c.args.path.now) c.args.metas.now) (made done) whole) (λ alike. makes_holds c.put_dirs.new.slots c.self.inside.root c.self.inside.places.entries c.self.inside.next c.args.self.now (makes_same (view_of c.self.inside.slots) (view_of c.put_dirs.new.slots) c.self.inside.root alike c.self.inside.places.entries c.self.inside.places.entries c.self.inside.next c.args.self.now refl m) layer), tt)

pub invariant_of-self : goal.invariant_of-self
invariant_of-self c =
    let m = opens c.self.inside.slots c.self.inside.root c.self.inside.places.entries c.self.inside.next c.args.self.now c.self.inside.tree c.self.invariant c.self.view_is in
    let layer : IsLayer c.args.self.now = subst IsLayer c.self.view_is c.self.invariant.layer in
    let names : c.names-names.result.now ≡ c.args.path.now = c.names-names.ensures.names in
    let rest : take (length c.names-names.result.now - c.args.front) (drop c.args.front c.names-names.result.now) ≡ drop c.args.front c.args.path.now = take_all (length c.names-names.result.now - c.args.front) (drop c.args.front c.names-names.result.now) (omega (arith, length-drop c.args.front c.names-names.result.now)) ∙ ap (drop c.args.front) names in
    let chain = chain_after c.args.self.now c.args.path.now c.args.front c.args.metas.now layer c.names-names.ensures.valid c.requires.dir c.requires.bare c.requires.metas c.requires.few in
    let leads : walk (view_of c.self.inside.slots).entries c.self.inside.root (take c.args.front c.args.path.now) ≡ Some (target.Inode c.dir_at-dir.result) = ap (λ (p : Names). walk (view_of c.self.inside.slots).entries c.self.inside.root (take c.args.front p)) (sym names) ∙ c.dir_at-dir.ensures.leads in
    let made : AddsDirs (view_of c.self.inside.slots) (view_of c.put_dirs.new.slots) c.dir_at-dir.result (take (length c.names-names.result.now - c.args.front) (drop c.args.front c.names-names.result.now)) c.args.metas.now → Makes (view_of c.put_dirs.new.slots) c.self.inside.root c.self.inside.places.entries c.self.inside.next (with_dirs c.args.self.now (take c.args.front c.args.path.now) (drop c.args.front c.args.path.now) c.args.metas.now) =
    λ done. chain_makes (view_of c.self.inside.slots) (view_of c.put_dirs.new.slots) c.self.inside.root c.self.inside.places.entries c.self.inside.next c.args.self.now (take c.args.front c.args.path.now) (drop c.args.front c.args.path.now) c.args.metas.now c.dir_at-dir.result m chain leads c.dir_at-dir.ensures.dir (subst (λ (p : Names). AddsDirs (view_of c.self.inside.slots) (view_of c.put_dirs.new.slots) c.dir_at-dir.result p c.args.metas.now) rest done) in
    let whole : IsLayer (with_dirs c.args.self.now (take c.args.front c.args.path.now) (drop c.args.front c.args.path.now) c.args.metas.now) = chain_layer c.args.self.now (take c.args.front c.args.path.now) (drop c.args.front c.args.path.now) c.args.metas.now chain in
    either c.put_dirs.result c.put_dirs.ensures.ok c.put_dirs.ensures.err (λ done. makes_kept c.put_dirs.new.slots c.self.inside.root c.self.inside.places.entries c.self.inside.next (with_dirs c.args.self.now (take c.args.front c.args.path.now) (drop c.args.front c.args.path.now) c.args.metas.now) (made done) whole (most_same c.self.view_is ∙ sym (chain_most c.args.self.now (take c.args.front c.args.path.now) (drop c.args.front c.args.path.now) c.args.metas.now)) (node_contracts.the_row).coded c.self-1.given.0) (λ alike. makes_kept c.put_dirs.new.slots c.self.inside.root c.self.inside.places.entries c.self.inside.next c.args.self.now (makes_same (view_of c.self.inside.slots) (view_of c.put_dirs.new.slots) c.self.inside.root alike c.self.inside.places.entries c.self.inside.places.entries c.self.inside.next c.args.self.now refl m) layer (most_same c.self.view_is) (node_contracts.the_row).coded c.self-1.given.0)

pub returns-clause-ok : goal.returns-clause-ok
returns-clause-ok c =
    let m = opens c.self.inside.slots c.self.inside.root c.self.inside.places.entries c.self.inside.next c.args.self.now c.self.inside.tree c.self.invariant c.self.view_is in
    let layer : IsLayer c.args.self.now = subst IsLayer c.self.view_is c.self.invariant.layer in
    let names : c.names-names.result.now ≡ c.args.path.now = c.names-names.ensures.names in
    let rest : take (length c.names-names.result.now - c.args.front) (drop c.args.front c.names-names.result.now) ≡ drop c.args.front c.args.path.now = take_all (length c.names-names.result.now - c.args.front) (drop c.args.front c.names-names.result.now) (omega (arith, length-drop c.args.front c.names-names.result.now)) ∙ ap (drop c.args.front) names in
    let chain = chain_after c.args.self.now c.args.path.now c.args.front c.args.metas.now layer c.names-names.ensures.valid c.requires.dir c.requires.bare c.requires.metas c.requires.few in
    let leads : walk (view_of c.self.inside.slots).entries c.self.inside.root (take c.args.front c.args.path.now) ≡ Some (target.Inode c.dir_at-dir.result) = ap (λ (p : Names). walk (view_of c.self.inside.slots).entries c.self.inside.root (take c.args.front p)) (sym names) ∙ c.dir_at-dir.ensures.leads in
    let made : AddsDirs (view_of c.self.inside.slots) (view_of c.put_dirs.new.slots) c.dir_at-dir.result (take (length c.names-names.result.now - c.args.front) (drop c.args.front c.names-names.result.now)) c.args.metas.now → Makes (view_of c.put_dirs.new.slots) c.self.inside.root c.self.inside.places.entries c.self.inside.next (with_dirs c.args.self.now (take c.args.front c.args.path.now) (drop c.args.front c.args.path.now) c.args.metas.now) =
    λ done. chain_makes (view_of c.self.inside.slots) (view_of c.put_dirs.new.slots) c.self.inside.root c.self.inside.places.entries c.self.inside.next c.args.self.now (take c.args.front c.args.path.now) (drop c.args.front c.args.path.now) c.args.metas.now c.dir_at-dir.result m chain leads c.dir_at-dir.ensures.dir (subst (λ (p : Names). AddsDirs (view_of c.self.inside.slots) (view_of c.put_dirs.new.slots) c.dir_at-dir.result p c.args.metas.now) rest done) in
    let whole : IsLayer (with_dirs c.args.self.now (take c.args.front c.args.path.now) (drop c.args.front c.args.path.now) c.args.metas.now) = chain_layer c.args.self.now (take c.args.front c.args.path.now) (drop c.args.front c.args.path.now) c.args.metas.now chain in
    on_ok c.put_dirs.result (λ done. makes_view c.put_dirs.new.slots c.self.inside.root c.self.inside.places.entries c.self.inside.next (with_dirs c.args.self.now (take c.args.front c.args.path.now) (drop c.args.front c.args.path.now) c.args.metas.now) (made done) whole (most_same c.self.view_is ∙ sym (chain_most c.args.self.now (take c.args.front c.args.path.now) (drop c.args.front c.args.path.now) c.args.metas.now)) (node_contracts.the_row).coded c.self-1.given.0) c.put_dirs.ensures.ok

pub returns-clause-err : goal.returns-clause-err
returns-clause-err c =
    let m = opens c.self.inside.slots c.self.inside.root c.self.inside.places.entries c.self.inside.next c.args.self.now c.self.inside.tree c.self.invariant c.self.view_is in
    let layer : IsLayer c.args.self.now = subst IsLayer c.self.view_is c.self.invariant.layer in
    on_err c.put_dirs.result (λ alike. makes_view c.put_dirs.new.slots c.self.inside.root c.self.inside.places.entries c.self.inside.next c.args.self.now (makes_same (view_of c.self.inside.slots) (view_of c.put_dirs.new.slots) c.self.inside.root alike c.self.inside.places.entries c.self.inside.places.entries c.self.inside.next c.args.self.now refl m) layer (most_same c.self.view_is) (node_contracts.the_row).coded c.self-1.given.0) c.put_dirs.ensures.err
