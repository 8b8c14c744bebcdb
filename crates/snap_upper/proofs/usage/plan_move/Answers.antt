use Rattle.std.proofs.Common.{◌≡◌, ◌+◌, Bool, true, false, ℕ, refl, ap, sym, ◌∙◌, arith}
use mir.Val.{bool_byte}
use Rattle.std.specs.Prelude.{is_some, not, if◌then◌else◌}
use Rattle.snap_layer.specs.Tree.{at}
use Rattle.snap_layer.specs.Counts.{inode_count}
use Rattle.snap_layer.specs.Edits.{without}
use Rattle.snap_usage.specs.declared.usage.Usage.{Usage}
use Rattle.snap_copyup.specs.Copying.{below}
use Rattle.snap_upper.specs.After.{before_move, renamed}
use Rattle.snap_upper.proofs.Erased.{none_from}
use Rattle.snap_upper.proofs.Movable.{renamable}
use Rattle.snap_upper.proofs.MoveCounts.{placeable, renamed_next}
use Rattle.snap_upper.proofs.PreparedCounts.{prepared_next}
use Rattle.snap_upper.proofs.usage.plan_move.Goals as goal

byte_of : (b : Bool) → bool_byte b ≡ (if b then 1 else 0)
byte_of true = refl
byte_of false = refl

pub count_placed-left-requires : goal.count_placed-left-requires
count_placed-left-requires c =
    let u = c.args.layer.now in
    let ls = c.args.lowers.now in
    let from = c.args.from.now in
    let to = c.args.to.now in
    record { layers = c.requires.layers; placeable = placeable u ls from to c.requires.layer c.requires.layers (renamable u ls from to c.requires.passes c.requires.moves) }

pub returns : goal.returns
returns c =
    let u = c.args.layer.now in
    let ls = c.args.lowers.now in
    let from = c.args.from.now in
    let to = c.args.to.now in
    let ok = c.requires.layer in
    let lower = c.is_none.result in
    let is = renamable u ls from to c.requires.passes c.requires.moves in
    let leaves : is_some (below u ls from) ≡ c.args.leaves = sym c.requires.leaves in
    let inodes : c.count_placed-left.result.inodes + c.from.result ≡ inode_count (without (before_move u ls from to) to) + (if is_some (below u ls from) then 1 else 0) = omega (arith, ap (λ (n : Usage). n.inodes) c.count_placed-left.ensures.count, c.from.ensures, byte_of c.args.leaves, ap {B = ℕ} (λ b. if b then 1 else 0) leaves) in
    let stands : is_some (at u from) ≡ not lower = ap is_some (sym c.at.ensures.node) ∙ c.is_none.ensures in
    let number = prepared_next u ls from to ok c.requires.layers (placeable u ls from to ok c.requires.layers is) lower (λ e. none_from (at u from) (stands ∙ ap not e)) (λ e. stands ∙ ap not e) in
    c.fitting.ensures (renamed u ls from to)
    (renamed_next u ls from to ok c.requires.layers is c.count_placed-left.ensures.source c.count_placed-left.ensures.target (record { blocks = c.count_placed-left.result.blocks; inodes = c.count_placed-left.result.inodes + c.from.result }) inodes (ap (λ (n : Usage). n.blocks) c.count_placed-left.ensures.count) lower number)
