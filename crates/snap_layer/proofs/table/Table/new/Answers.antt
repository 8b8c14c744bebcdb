use Rattle.std.proofs.Common.{List, Option, None, refl, ap, ◌∙◌, arith}
use Rattle.std.specs.Prelude.{slice_index_or}
use Rattle.snap_layer.specs.contracts.node.Node as node_contracts
use Rattle.snap_layer.specs.Layers.{IsLayer}
use Rattle.snap_layer.proofs.Makes.{makes_holds, makes_view, makes_kept}
use Rattle.std.proofs.Common.{lit≤}
use Rattle.snap_layer.specs.declared.inode.Inode.{Inode}
use Rattle.snap_layer.specs.Edits.{root_within}
use Rattle.snap_layer.proofs.Kept.{IsLayer-root_within}
use Rattle.snap_layer.proofs.Root.{root_makes}
use Rattle.snap_layer.proofs.table.Table.new.Goals as goal

pub invariant_of-result : goal.invariant_of-result
invariant_of-result c =
    let m = root_makes c.insert.new.self c.in_ok-root.root c.args.most c.args.meta c.args.first c.new.result c.in_ok-root.ensures.updates.changed c.new.ensures.empty (λ k other. c.in_ok-root.ensures.updates.others k other ∙ ap (λ (l : List (Option Inode)). slice_index_or l k None) c.new-slots.ensures.empty) c.new-2.result.entries c.new-2.ensures.empty in
    let ok : IsLayer (root_within c.args.most c.args.meta c.args.first) = IsLayer-root_within c.args.most c.args.meta c.args.first c.requires.most c.requires.meta c.requires.first (omega arith) (refl, lit≤ tt) in
    (makes_holds c.insert.new.self c.in_ok-root.root c.new-2.result.entries c.args.first (root_within c.args.most c.args.meta c.args.first) m ok, tt)

pub invariant_of-result-2 : goal.invariant_of-result-2
invariant_of-result-2 c =
    let m = root_makes c.insert.new.self c.in_ok-root.root c.args.most c.args.meta c.args.first c.new.result c.in_ok-root.ensures.updates.changed c.new.ensures.empty (λ k other. c.in_ok-root.ensures.updates.others k other ∙ ap (λ (l : List (Option Inode)). slice_index_or l k None) c.new-slots.ensures.empty) c.new-2.result.entries c.new-2.ensures.empty in
    let ok : IsLayer (root_within c.args.most c.args.meta c.args.first) = IsLayer-root_within c.args.most c.args.meta c.args.first c.requires.most c.requires.meta c.requires.first (omega arith) (refl, lit≤ tt) in
    makes_kept c.insert.new.self c.in_ok-root.root c.new-2.result.entries c.args.first (root_within c.args.most c.args.meta c.args.first) m ok refl (node_contracts.the_row).coded c.result-1.given.0

pub returns : goal.returns
returns c =
    let m = root_makes c.insert.new.self c.in_ok-root.root c.args.most c.args.meta c.args.first c.new.result c.in_ok-root.ensures.updates.changed c.new.ensures.empty (λ k other. c.in_ok-root.ensures.updates.others k other ∙ ap (λ (l : List (Option Inode)). slice_index_or l k None) c.new-slots.ensures.empty) c.new-2.result.entries c.new-2.ensures.empty in
    let ok : IsLayer (root_within c.args.most c.args.meta c.args.first) = IsLayer-root_within c.args.most c.args.meta c.args.first c.requires.most c.requires.meta c.requires.first (omega arith) (refl, lit≤ tt) in
    makes_view c.insert.new.self c.in_ok-root.root c.new-2.result.entries c.args.first (root_within c.args.most c.args.meta c.args.first) m ok refl (node_contracts.the_row).coded c.result-1.given.0
