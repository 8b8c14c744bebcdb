use Rattle.std.proofs.Common.{◌≡◌, ◌∷◌, ◌+◌, true, sym, ap, ◌∙◌, arith}
use Rattle.std.specs.Prelude.{is_some}
use Rattle.snap_layer.specs.Tree.{at}
use Rattle.snap_layer.specs.Counts.{inode_count, block_count}
use Rattle.snap_layer.specs.Edits.{without}
use Rattle.snap_usage.specs.declared.usage.Usage.{Usage}
use Rattle.snap_merge.specs.Objects.{seen}
use Rattle.snap_copyup.proofs.Growing.{few_names}
use Rattle.snap_upper.specs.After.{before_move}
use Rattle.snap_upper.specs.Adding.{object_blocks}
use Rattle.snap_upper.proofs.Erased.{none_from}
use Rattle.snap_upper.proofs.PreparedCounts.{few_seen, own_left, lower_left}
use Rattle.snap_upper.proofs.Writing.{few_blocks}
use Rattle.snap_upper.proofs.usage.count_placed.Goals as goal

pub overflow_add-result : goal.overflow_add-result
overflow_add-result c = omega (arith, c.count_without-left.ensures.fewer, few_blocks c.args.layer.now c.at.ensures.layer, c.missing_dirs-missing.ensures.few, few_names c.args.to.now, c.count_without-left.ensures.path.1)

pub returns-then-is_some-clause-count : goal.returns-then-is_some-clause-count
returns-then-is_some-clause-count c =
    let u = c.args.layer.now in
    let ls = c.args.lowers.now in
    let from = c.args.from.now in
    let to = c.args.to.now in
    let missing = c.missing_dirs-missing.result in
    let some : is_some (at u from) ≡ true = ap is_some (sym c.at.ensures.node) ∙ sym c.is_some.ensures ∙ c.if-is_some.true in
    let left = own_left u ls from to c.at.ensures.layer c.requires.layers c.requires.placeable some missing (c.missing_dirs-missing.ensures.count ls c.requires.placeable.way_to) in
    let blocks : c.count_without-left.result.blocks + missing ≡ block_count (without (before_move u ls from to) to) = omega (arith, ap (λ (n : Usage). n.blocks) c.count_without-left.ensures.count, left.blocks_are) in
    let inodes : c.count_without-left.result.inodes + missing ≡ inode_count (without (before_move u ls from to) to) = omega (arith, ap (λ (n : Usage). n.inodes) c.count_without-left.ensures.count, left.inodes_are) in
    λ i. record { blocks = blocks i; inodes = inodes i }

pub returns-then-is_some-clause-few : goal.returns-then-is_some-clause-few
returns-then-is_some-clause-few c = omega (arith, c.count_without-left.ensures.few, c.missing_dirs-missing.ensures.few, few_names c.args.to.now, c.count_without-left.ensures.path.1)

pub overflow_add-result-2 : goal.overflow_add-result-2
overflow_add-result-2 c = omega (arith, c.count_without-left.ensures.fewer, few_blocks c.args.layer.now c.at.ensures.layer, c.missing_dirs_of_both-missing.ensures.few, few_names c.args.from.now, few_names c.args.to.now, c.at.ensures.path.1, c.count_without-left.ensures.path.1)

pub overflow_add-result-3 : goal.overflow_add-result-3
overflow_add-result-3 c =
    let u = c.args.layer.now in
    let ls = c.args.lowers.now in
    let from = c.args.from.now in
    let weighs : c.seen_blocks.result ≡ object_blocks (seen (u ∷ ls) from) = c.seen_blocks.ensures ∙ ap object_blocks (c.look.ensures ∙ ap (λ s. seen s from) c.over.ensures) in
    omega (arith, c.count_without-left.ensures.fewer, few_blocks u c.at.ensures.layer, c.missing_dirs_of_both-missing.ensures.few, few_names from, few_names c.args.to.now, c.at.ensures.path.1, c.count_without-left.ensures.path.1, weighs, few_seen (u ∷ ls) (c.at.ensures.layer, c.requires.layers) from)

pub returns-clause-count : goal.returns-clause-count
returns-clause-count c =
    let u = c.args.layer.now in
    let ls = c.args.lowers.now in
    let from = c.args.from.now in
    let to = c.args.to.now in
    let missing = c.missing_dirs_of_both-missing.result in
    let none = none_from (at u from) (ap is_some (sym c.at.ensures.node) ∙ sym c.is_some.ensures ∙ c.if-is_some.false) in
    let placeable = c.requires.placeable in
    let left = lower_left u ls from to c.at.ensures.layer c.requires.layers placeable none missing (c.missing_dirs_of_both-missing.ensures.count ls placeable.way_from placeable.way_to) in
    let weighs : c.seen_blocks.result ≡ object_blocks (seen (u ∷ ls) from) = c.seen_blocks.ensures ∙ ap object_blocks (c.look.ensures ∙ ap (λ s. seen s from) c.over.ensures) in
    let blocks : c.count_without-left.result.blocks + missing + c.seen_blocks.result ≡ block_count (without (before_move u ls from to) to) = omega (arith, ap (λ (n : Usage). n.blocks) c.count_without-left.ensures.count, left.blocks_are, weighs) in
    let inodes : c.count_without-left.result.inodes + missing + 1 ≡ inode_count (without (before_move u ls from to) to) = omega (arith, ap (λ (n : Usage). n.inodes) c.count_without-left.ensures.count, left.inodes_are) in
    λ i. record { blocks = blocks i; inodes = inodes i }

pub returns-clause-few : goal.returns-clause-few
returns-clause-few c = omega (arith, c.count_without-left.ensures.few, c.missing_dirs_of_both-missing.ensures.few, few_names c.args.from.now, few_names c.args.to.now, c.at.ensures.path.1, c.count_without-left.ensures.path.1)

pub overflow_add-result-then-is_some : goal.overflow_add-result-then-is_some
overflow_add-result-then-is_some c = omega (arith, c.count_without-left.ensures.few, c.missing_dirs-missing.ensures.few, few_names c.args.to.now, c.count_without-left.ensures.path.1)

pub overflow_add-result-4 : goal.overflow_add-result-4
overflow_add-result-4 c = omega (arith, c.count_without-left.ensures.few, c.missing_dirs_of_both-missing.ensures.few, few_names c.args.from.now, few_names c.args.to.now, c.at.ensures.path.1, c.count_without-left.ensures.path.1)

pub overflow_add-result-5 : goal.overflow_add-result-5
overflow_add-result-5 c = omega (arith, c.count_without-left.ensures.few, c.missing_dirs_of_both-missing.ensures.few, few_names c.args.from.now, few_names c.args.to.now, c.at.ensures.path.1, c.count_without-left.ensures.path.1)
