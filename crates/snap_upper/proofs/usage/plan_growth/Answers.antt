use Rattle.std.proofs.Common.{◌≡◌, ℕ, ◌+◌, ◌-◌, Bool, true, false, refl, ap, ◌∙◌, arith}
use mir.Val.{bool_byte}
use Rattle.std.specs.Prelude.{if◌then◌else◌}
use Rattle.snap_layer.specs.Tree.{at}
use Rattle.snap_layer.specs.Counts.{inode_count, block_count}
use Rattle.snap_usage.specs.declared.usage.Usage.{Usage}
use Rattle.snap_copyup.specs.Copying.{with_parents}
use Rattle.snap_copyup.specs.Places.{with_last}
use Rattle.snap_copyup.proofs.Growing.{few_names}
use Rattle.snap_upper.specs.After.{is_whiteout_at}
use Rattle.snap_upper.proofs.Growth.{growth_next, no_more}
use Rattle.snap_upper.proofs.Writing.{few_blocks}
use Rattle.snap_upper.proofs.usage.plan_growth.Goals as goal

byte_of : (b : Bool) → bool_byte b ≡ (if b then 1 else 0)
byte_of true = refl
byte_of false = refl

pub overflow_add-after : goal.overflow_add-after
overflow_add-after c = omega (arith, ap (λ (n : Usage). n.blocks) c.count-now.ensures.bodies, few_blocks c.args.layer.now c.count-now.ensures.layer, c.missing_dirs-missing.ensures.few, few_names c.args.path.now, c.at.ensures.path.1)

pub overflow_add-after-2 : goal.overflow_add-after-2
overflow_add-after-2 c = omega (arith, ap (λ (n : Usage). n.blocks) c.count-now.ensures.bodies, few_blocks c.args.layer.now c.count-now.ensures.layer, c.missing_dirs-missing.ensures.few, few_names c.args.path.now, c.at.ensures.path.1, c.requires.few)

pub returns : goal.returns
returns c = λ last lowers takes layers way fit.
    let u = c.args.layer.now in
    let p = c.args.path.now in
    let missing = c.missing_dirs-missing.result in
    let gone : c.from-whiteouts.result ≡ (if is_whiteout_at (at u p) then 1 else 0) = c.from-whiteouts.ensures ∙ byte_of c.is_whiteout.result ∙ ap {B = ℕ} (λ b. if b then 1 else 0) (c.is_whiteout.ensures ∙ ap is_whiteout_at c.at.ensures.node) in
    let inodes : c.count-now.result.inodes + missing + 1 - c.from-whiteouts.result + (if is_whiteout_at (at u p) then 1 else 0) ≡ inode_count u + missing + 1 = omega (arith, ap (λ (n : Usage). n.inodes) c.count-now.ensures.bodies, gone, no_more (is_whiteout_at (at u p))) in
    let blocks : c.count-now.result.blocks + missing + c.args.blocks ≡ block_count u + missing + c.args.blocks = omega (arith, ap (λ (n : Usage). n.blocks) c.count-now.ensures.bodies) in
    c.fitting.ensures (with_last last (with_parents u lowers p) p)
    (growth_next u lowers p last c.args.blocks c.args.numbered c.count-now.ensures.layer way takes c.requires.free missing (c.missing_dirs-missing.ensures.count lowers way) layers c.at.ensures.path fit (record { blocks = c.count-now.result.blocks + missing + c.args.blocks; inodes = c.count-now.result.inodes + missing + 1 - c.from-whiteouts.result }) inodes blocks)

pub overflow_add-after-3 : goal.overflow_add-after-3
overflow_add-after-3 c = omega (arith, ap (λ (n : Usage). n.inodes) c.count-now.ensures.bodies, c.count-now.ensures.layer.few, c.count-now.ensures.layer.most.1, c.missing_dirs-missing.ensures.few, few_names c.args.path.now, c.at.ensures.path.1)

pub overflow_add-after-4 : goal.overflow_add-after-4
overflow_add-after-4 c = omega (arith, ap (λ (n : Usage). n.inodes) c.count-now.ensures.bodies, c.count-now.ensures.layer.few, c.count-now.ensures.layer.most.1, c.missing_dirs-missing.ensures.few, few_names c.args.path.now, c.at.ensures.path.1)
