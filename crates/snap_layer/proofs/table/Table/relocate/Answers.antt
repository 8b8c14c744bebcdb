use Rattle.std.proofs.Common.{◌≡◌, ◌++◌, ◌∷◌, [], true, false, sym, ap, ◌∙◌, subst}
use Rattle.snap_path.specs.Text.{Names, begins}
use Rattle.snap_layer.specs.contracts.node.Node as node_contracts
use Rattle.snap_layer.specs.Layers.{IsLayer}
use Rattle.snap_layer.specs.Edits.{with_moved}
use Rattle.snap_layer.specs.Walk.{view_of}
use Rattle.snap_layer.proofs.Slots.{on_ok, on_err, plain}
use Rattle.snap_layer.proofs.Makes.{opens, makes_holds, makes_view, makes_kept, either, parent_stands, most_same}
use Rattle.snap_layer.proofs.Putting.{Spot, makes_same}
use Rattle.snap_layer.proofs.Moves.{most_moved}
use Rattle.snap_layer.proofs.Files.{source_stands, source_entry, entries_apart}
use Rattle.snap_layer.proofs.Entering.{not_itself}
use Rattle.snap_layer.proofs.Erasing.{relocated_made, not_from, nothing_at}
use Rattle.snap_layer.proofs.table.Table.relocate.Goals as goal

no_bool : true ≡ false → ⊥
no_bool e = cc

pub parent_at-left-requires : goal.parent_at-left-requires
parent_at-left-requires c =
    let m = opens c.self.inside.slots c.self.inside.root c.self.inside.places.entries c.self.inside.next c.args.self.now c.self.inside.tree c.self.invariant c.self.view_is in
    let layer : IsLayer c.args.self.now = subst IsLayer c.self.view_is c.self.invariant.layer in
    record {
      below_root = λ root. absurd (no_bool (ap (λ (p : Names). begins p c.args.to.now) (sym root) ∙ c.requires.movable.not_inside));
      parent = λ q n splits. source_stands (view_of c.self.inside.slots) c.self.inside.root c.self.inside.places.entries c.self.inside.next c.args.self.now c.args.from.now q n m layer splits c.requires.movable.there;
    }

pub parent_at-gained-requires : goal.parent_at-gained-requires
parent_at-gained-requires c =
    let m = opens c.self.inside.slots c.self.inside.root c.self.inside.places.entries c.self.inside.next c.args.self.now c.self.inside.tree c.self.invariant c.self.view_is in
    record {
      below_root = c.requires.movable.place.above.below_root;
      parent = λ q n splits. parent_stands (view_of c.self.inside.slots) c.self.inside.root c.self.inside.places.entries c.self.inside.next c.args.self.now c.args.to.now q n m splits c.requires.movable.place.above;
    }

pub unreachable-requires : goal.unreachable-requires
unreachable-requires c =
    let from_splits : c.args.from.now ≡ c.parent_at-left.ensures.leads.0 ++ c.parent_at-left.result.1.now ∷ [] = c.parent_at-left.ensures.leads.1 in
    let m = opens c.self.inside.slots c.self.inside.root c.self.inside.places.entries c.self.inside.next c.args.self.now c.self.inside.tree c.self.invariant c.self.view_is in
    let layer : IsLayer c.args.self.now = subst IsLayer c.self.view_is c.self.invariant.layer in
    let one : Spot (view_of c.self.inside.slots) c.self.inside.root c.self.inside.places.entries c.self.inside.next c.args.self.now c.args.from.now c.parent_at-left.ensures.leads.0 c.parent_at-left.result.1.now c.parent_at-left.result.0 = record { makes = m; layer = layer; splits = from_splits; leads = c.parent_at-left.ensures.leads.2; dir = c.parent_at-left.ensures.dir } in
    source_entry (view_of c.self.inside.slots) c.self.inside.root c.self.inside.places.entries c.self.inside.next c.args.self.now c.args.from.now c.parent_at-left.ensures.leads.0 c.parent_at-left.result.1.now c.parent_at-left.result.0 one c.requires.movable.there (sym c.entry_at.ensures ∙ c.in_default.is)

pub relocate-requires-clause-apart : goal.relocate-requires-clause-apart
relocate-requires-clause-apart c =
    let from_splits : c.args.from.now ≡ c.parent_at-left.ensures.leads.0 ++ c.parent_at-left.result.1.now ∷ [] = c.parent_at-left.ensures.leads.1 in
    let to_splits : c.args.to.now ≡ c.parent_at-gained.ensures.leads.0 ++ c.parent_at-gained.result.1.now ∷ [] = c.parent_at-gained.ensures.leads.1 in
    let m = opens c.self.inside.slots c.self.inside.root c.self.inside.places.entries c.self.inside.next c.args.self.now c.self.inside.tree c.self.invariant c.self.view_is in
    let layer : IsLayer c.args.self.now = subst IsLayer c.self.view_is c.self.invariant.layer in
    let one : Spot (view_of c.self.inside.slots) c.self.inside.root c.self.inside.places.entries c.self.inside.next c.args.self.now c.args.from.now c.parent_at-left.ensures.leads.0 c.parent_at-left.result.1.now c.parent_at-left.result.0 = record { makes = m; layer = layer; splits = from_splits; leads = c.parent_at-left.ensures.leads.2; dir = c.parent_at-left.ensures.dir } in
    let two : Spot (view_of c.self.inside.slots) c.self.inside.root c.self.inside.places.entries c.self.inside.next c.args.self.now c.args.to.now c.parent_at-gained.ensures.leads.0 c.parent_at-gained.result.1.now c.parent_at-gained.result.0 = record { makes = m; layer = layer; splits = to_splits; leads = c.parent_at-gained.ensures.leads.2; dir = c.parent_at-gained.ensures.dir } in
    entries_apart (view_of c.self.inside.slots) c.self.inside.root c.self.inside.places.entries c.self.inside.next c.args.self.now c.args.from.now c.args.to.now c.parent_at-left.ensures.leads.0 c.parent_at-left.result.1.now c.parent_at-left.result.0 c.parent_at-gained.ensures.leads.0 c.parent_at-gained.result.1.now c.parent_at-gained.result.0 one two c.requires.movable

pub relocate-requires-clause-not_from : goal.relocate-requires-clause-not_from
relocate-requires-clause-not_from c =
    let from_splits : c.args.from.now ≡ c.parent_at-left.ensures.leads.0 ++ c.parent_at-left.result.1.now ∷ [] = c.parent_at-left.ensures.leads.1 in
    let to_splits : c.args.to.now ≡ c.parent_at-gained.ensures.leads.0 ++ c.parent_at-gained.result.1.now ∷ [] = c.parent_at-gained.ensures.leads.1 in
    let m = opens c.self.inside.slots c.self.inside.root c.self.inside.places.entries c.self.inside.next c.args.self.now c.self.inside.tree c.self.invariant c.self.view_is in
    let layer : IsLayer c.args.self.now = subst IsLayer c.self.view_is c.self.invariant.layer in
    let one : Spot (view_of c.self.inside.slots) c.self.inside.root c.self.inside.places.entries c.self.inside.next c.args.self.now c.args.from.now c.parent_at-left.ensures.leads.0 c.parent_at-left.result.1.now c.parent_at-left.result.0 = record { makes = m; layer = layer; splits = from_splits; leads = c.parent_at-left.ensures.leads.2; dir = c.parent_at-left.ensures.dir } in
    let two : Spot (view_of c.self.inside.slots) c.self.inside.root c.self.inside.places.entries c.self.inside.next c.args.self.now c.args.to.now c.parent_at-gained.ensures.leads.0 c.parent_at-gained.result.1.now c.parent_at-gained.result.0 = record { makes = m; layer = layer; splits = to_splits; leads = c.parent_at-gained.ensures.leads.2; dir = c.parent_at-gained.ensures.dir } in
    not_from (view_of c.self.inside.slots) c.self.inside.root c.self.inside.places.entries c.self.inside.next c.args.self.now c.args.from.now c.args.to.now c.parent_at-left.ensures.leads.0 c.parent_at-left.result.1.now c.parent_at-left.result.0 c.parent_at-gained.ensures.leads.0 c.parent_at-gained.result.1.now c.parent_at-gained.result.0 one two c.requires.movable

pub relocate-requires-clause-not_to : goal.relocate-requires-clause-not_to
relocate-requires-clause-not_to c =
    let to_splits : c.args.to.now ≡ c.parent_at-gained.ensures.leads.0 ++ c.parent_at-gained.result.1.now ∷ [] = c.parent_at-gained.ensures.leads.1 in
    let m = opens c.self.inside.slots c.self.inside.root c.self.inside.places.entries c.self.inside.next c.args.self.now c.self.inside.tree c.self.invariant c.self.view_is in
    let layer : IsLayer c.args.self.now = subst IsLayer c.self.view_is c.self.invariant.layer in
    let two : Spot (view_of c.self.inside.slots) c.self.inside.root c.self.inside.places.entries c.self.inside.next c.args.self.now c.args.to.now c.parent_at-gained.ensures.leads.0 c.parent_at-gained.result.1.now c.parent_at-gained.result.0 = record { makes = m; layer = layer; splits = to_splits; leads = c.parent_at-gained.ensures.leads.2; dir = c.parent_at-gained.ensures.dir } in
    not_itself (view_of c.self.inside.slots) c.self.inside.root c.self.inside.places.entries c.self.inside.next c.args.self.now c.args.to.now c.parent_at-gained.ensures.leads.0 c.parent_at-gained.result.1.now c.parent_at-gained.result.0 two

pub invariant_of-self-inside : goal.invariant_of-self-inside
invariant_of-self-inside c =
    let from_splits : c.args.from.now ≡ c.parent_at-left.ensures.leads.0 ++ c.parent_at-left.result.1.now ∷ [] = c.parent_at-left.ensures.leads.1 in
    let to_splits : c.args.to.now ≡ c.parent_at-gained.ensures.leads.0 ++ c.parent_at-gained.result.1.now ∷ [] = c.parent_at-gained.ensures.leads.1 in
    let m = opens c.self.inside.slots c.self.inside.root c.self.inside.places.entries c.self.inside.next c.args.self.now c.self.inside.tree c.self.invariant c.self.view_is in
    let layer : IsLayer c.args.self.now = subst IsLayer c.self.view_is c.self.invariant.layer in
    let one : Spot (view_of c.self.inside.slots) c.self.inside.root c.self.inside.places.entries c.self.inside.next c.args.self.now c.args.from.now c.parent_at-left.ensures.leads.0 c.parent_at-left.result.1.now c.parent_at-left.result.0 = record { makes = m; layer = layer; splits = from_splits; leads = c.parent_at-left.ensures.leads.2; dir = c.parent_at-left.ensures.dir } in
    let two : Spot (view_of c.self.inside.slots) c.self.inside.root c.self.inside.places.entries c.self.inside.next c.args.self.now c.args.to.now c.parent_at-gained.ensures.leads.0 c.parent_at-gained.result.1.now c.parent_at-gained.result.0 = record { makes = m; layer = layer; splits = to_splits; leads = c.parent_at-gained.ensures.leads.2; dir = c.parent_at-gained.ensures.dir } in
    (either c.relocate.result c.relocate.ensures.ok c.relocate.ensures.err (λ done. makes_holds c.relocate.new.slots c.self.inside.root c.relocate.new.places.entries c.self.inside.next (with_moved c.args.self.now c.args.from.now c.args.to.now c.args.leaves) (relocated_made (view_of c.self.inside.slots) (view_of c.relocate.new.slots) c.self.inside.root c.self.inside.places.entries c.relocate.new.places.entries c.self.inside.next c.args.self.now c.args.from.now c.args.to.now c.parent_at-left.ensures.leads.0 c.parent_at-left.result.1.now c.parent_at-left.result.0 c.parent_at-gained.ensures.leads.0 c.parent_at-gained.result.1.now c.parent_at-gained.result.0 c.args.leaves one two c.requires.movable (plain c.self.inside.slots) (entries_apart (view_of c.self.inside.slots) c.self.inside.root c.self.inside.places.entries c.self.inside.next c.args.self.now c.args.from.now c.args.to.now c.parent_at-left.ensures.leads.0 c.parent_at-left.result.1.now c.parent_at-left.result.0 c.parent_at-gained.ensures.leads.0 c.parent_at-gained.result.1.now c.parent_at-gained.result.0 one two c.requires.movable) done) (c.requires.layer)) (λ alike. makes_holds c.relocate.new.slots c.self.inside.root c.relocate.new.places.entries c.self.inside.next c.args.self.now (makes_same (view_of c.self.inside.slots) (view_of c.relocate.new.slots) c.self.inside.root alike.0 c.self.inside.places.entries c.relocate.new.places.entries c.self.inside.next c.args.self.now alike.1 m) layer), tt)

pub invariant_of-self : goal.invariant_of-self
invariant_of-self c =
    let from_splits : c.args.from.now ≡ c.parent_at-left.ensures.leads.0 ++ c.parent_at-left.result.1.now ∷ [] = c.parent_at-left.ensures.leads.1 in
    let to_splits : c.args.to.now ≡ c.parent_at-gained.ensures.leads.0 ++ c.parent_at-gained.result.1.now ∷ [] = c.parent_at-gained.ensures.leads.1 in
    let m = opens c.self.inside.slots c.self.inside.root c.self.inside.places.entries c.self.inside.next c.args.self.now c.self.inside.tree c.self.invariant c.self.view_is in
    let layer : IsLayer c.args.self.now = subst IsLayer c.self.view_is c.self.invariant.layer in
    let one : Spot (view_of c.self.inside.slots) c.self.inside.root c.self.inside.places.entries c.self.inside.next c.args.self.now c.args.from.now c.parent_at-left.ensures.leads.0 c.parent_at-left.result.1.now c.parent_at-left.result.0 = record { makes = m; layer = layer; splits = from_splits; leads = c.parent_at-left.ensures.leads.2; dir = c.parent_at-left.ensures.dir } in
    let two : Spot (view_of c.self.inside.slots) c.self.inside.root c.self.inside.places.entries c.self.inside.next c.args.self.now c.args.to.now c.parent_at-gained.ensures.leads.0 c.parent_at-gained.result.1.now c.parent_at-gained.result.0 = record { makes = m; layer = layer; splits = to_splits; leads = c.parent_at-gained.ensures.leads.2; dir = c.parent_at-gained.ensures.dir } in
    either c.relocate.result c.relocate.ensures.ok c.relocate.ensures.err (λ done. makes_kept c.relocate.new.slots c.self.inside.root c.relocate.new.places.entries c.self.inside.next (with_moved c.args.self.now c.args.from.now c.args.to.now c.args.leaves) (relocated_made (view_of c.self.inside.slots) (view_of c.relocate.new.slots) c.self.inside.root c.self.inside.places.entries c.relocate.new.places.entries c.self.inside.next c.args.self.now c.args.from.now c.args.to.now c.parent_at-left.ensures.leads.0 c.parent_at-left.result.1.now c.parent_at-left.result.0 c.parent_at-gained.ensures.leads.0 c.parent_at-gained.result.1.now c.parent_at-gained.result.0 c.args.leaves one two c.requires.movable (plain c.self.inside.slots) (entries_apart (view_of c.self.inside.slots) c.self.inside.root c.self.inside.places.entries c.self.inside.next c.args.self.now c.args.from.now c.args.to.now c.parent_at-left.ensures.leads.0 c.parent_at-left.result.1.now c.parent_at-left.result.0 c.parent_at-gained.ensures.leads.0 c.parent_at-gained.result.1.now c.parent_at-gained.result.0 one two c.requires.movable) done) (c.requires.layer) (most_same c.self.view_is ∙ sym (most_moved c.args.self.now c.args.from.now c.args.to.now c.args.leaves)) (node_contracts.the_row).coded c.self-1.given.0) (λ alike. makes_kept c.relocate.new.slots c.self.inside.root c.relocate.new.places.entries c.self.inside.next c.args.self.now (makes_same (view_of c.self.inside.slots) (view_of c.relocate.new.slots) c.self.inside.root alike.0 c.self.inside.places.entries c.relocate.new.places.entries c.self.inside.next c.args.self.now alike.1 m) layer (most_same c.self.view_is) (node_contracts.the_row).coded c.self-1.given.0)

pub returns-clause-ok : goal.returns-clause-ok
returns-clause-ok c =
    let from_splits : c.args.from.now ≡ c.parent_at-left.ensures.leads.0 ++ c.parent_at-left.result.1.now ∷ [] = c.parent_at-left.ensures.leads.1 in
    let to_splits : c.args.to.now ≡ c.parent_at-gained.ensures.leads.0 ++ c.parent_at-gained.result.1.now ∷ [] = c.parent_at-gained.ensures.leads.1 in
    let m = opens c.self.inside.slots c.self.inside.root c.self.inside.places.entries c.self.inside.next c.args.self.now c.self.inside.tree c.self.invariant c.self.view_is in
    let layer : IsLayer c.args.self.now = subst IsLayer c.self.view_is c.self.invariant.layer in
    let one : Spot (view_of c.self.inside.slots) c.self.inside.root c.self.inside.places.entries c.self.inside.next c.args.self.now c.args.from.now c.parent_at-left.ensures.leads.0 c.parent_at-left.result.1.now c.parent_at-left.result.0 = record { makes = m; layer = layer; splits = from_splits; leads = c.parent_at-left.ensures.leads.2; dir = c.parent_at-left.ensures.dir } in
    let two : Spot (view_of c.self.inside.slots) c.self.inside.root c.self.inside.places.entries c.self.inside.next c.args.self.now c.args.to.now c.parent_at-gained.ensures.leads.0 c.parent_at-gained.result.1.now c.parent_at-gained.result.0 = record { makes = m; layer = layer; splits = to_splits; leads = c.parent_at-gained.ensures.leads.2; dir = c.parent_at-gained.ensures.dir } in
    on_ok c.relocate.result (λ done. makes_view c.relocate.new.slots c.self.inside.root c.relocate.new.places.entries c.self.inside.next (with_moved c.args.self.now c.args.from.now c.args.to.now c.args.leaves) (relocated_made (view_of c.self.inside.slots) (view_of c.relocate.new.slots) c.self.inside.root c.self.inside.places.entries c.relocate.new.places.entries c.self.inside.next c.args.self.now c.args.from.now c.args.to.now c.parent_at-left.ensures.leads.0 c.parent_at-left.result.1.now c.parent_at-left.result.0 c.parent_at-gained.ensures.leads.0 c.parent_at-gained.result.1.now c.parent_at-gained.result.0 c.args.leaves one two c.requires.movable (plain c.self.inside.slots) (entries_apart (view_of c.self.inside.slots) c.self.inside.root c.self.inside.places.entries c.self.inside.next c.args.self.now c.args.from.now c.args.to.now c.parent_at-left.ensures.leads.0 c.parent_at-left.result.1.now c.parent_at-left.result.0 c.parent_at-gained.ensures.leads.0 c.parent_at-gained.result.1.now c.parent_at-gained.result.0 one two c.requires.movable) done) (c.requires.layer) (most_same c.self.view_is ∙ sym (most_moved c.args.self.now c.args.from.now c.args.to.now c.args.leaves)) (node_contracts.the_row).coded c.self-1.given.0) c.relocate.ensures.ok

pub returns-clause-err : goal.returns-clause-err
returns-clause-err c =
    let m = opens c.self.inside.slots c.self.inside.root c.self.inside.places.entries c.self.inside.next c.args.self.now c.self.inside.tree c.self.invariant c.self.view_is in
    let layer : IsLayer c.args.self.now = subst IsLayer c.self.view_is c.self.invariant.layer in
    on_err c.relocate.result (λ alike. makes_view c.relocate.new.slots c.self.inside.root c.relocate.new.places.entries c.self.inside.next c.args.self.now (makes_same (view_of c.self.inside.slots) (view_of c.relocate.new.slots) c.self.inside.root alike.0 c.self.inside.places.entries c.relocate.new.places.entries c.self.inside.next c.args.self.now alike.1 m) layer (most_same c.self.view_is) (node_contracts.the_row).coded c.self-1.given.0) c.relocate.ensures.err

pub returns-clause-sure : goal.returns-clause-sure
returns-clause-sure c =
    let to_splits : c.args.to.now ≡ c.parent_at-gained.ensures.leads.0 ++ c.parent_at-gained.result.1.now ∷ [] = c.parent_at-gained.ensures.leads.1 in
    let m = opens c.self.inside.slots c.self.inside.root c.self.inside.places.entries c.self.inside.next c.args.self.now c.self.inside.tree c.self.invariant c.self.view_is in
    let layer : IsLayer c.args.self.now = subst IsLayer c.self.view_is c.self.invariant.layer in
    let two : Spot (view_of c.self.inside.slots) c.self.inside.root c.self.inside.places.entries c.self.inside.next c.args.self.now c.args.to.now c.parent_at-gained.ensures.leads.0 c.parent_at-gained.result.1.now c.parent_at-gained.result.0 = record { makes = m; layer = layer; splits = to_splits; leads = c.parent_at-gained.ensures.leads.2; dir = c.parent_at-gained.ensures.dir } in
    on_err c.relocate.result (λ none. nothing_at (view_of c.self.inside.slots) c.self.inside.root c.self.inside.places.entries c.self.inside.next c.args.self.now c.args.to.now c.parent_at-gained.ensures.leads.0 c.parent_at-gained.result.1.now c.parent_at-gained.result.0 two none) c.relocate.ensures.sure

pub relocate-requires-clause-from : goal.relocate-requires-clause-from
relocate-requires-clause-from c = c.parent_at-left.ensures.dir

pub relocate-requires-clause-to : goal.relocate-requires-clause-to
relocate-requires-clause-to c = c.parent_at-gained.ensures.dir

pub relocate-requires-clause-there : goal.relocate-requires-clause-there
relocate-requires-clause-there c = sym c.entry_at.ensures ∙ c.in-Some.is
