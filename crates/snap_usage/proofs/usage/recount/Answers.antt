use Rattle.std.proofs.Common.{◌≡◌, ℕ, ◌+◌, sym, ap, ◌∙◌, arith}
use Rattle.snap_layer.specs.Counts.{block_count, inode_count}
use Rattle.snap_layer.proofs.Bounds.{blocks_of_bodies}
use Rattle.snap_usage.proofs.Above.{Left-start, Left-more, Left-end}
use Rattle.snap_usage.proofs.Joined.{count_of-IsLayer}
use Rattle.snap_layer.specs.Layers.{IsLayer}
use Rattle.snap_usage.proofs.usage.recount.Goals as goal

pub loop-number-init : goal.loop-number-init
loop-number-init c =
    let told = c.tally-directories.ensures.counts in
    Left-start c.args.layer.now c.tally-directories.ensures.layer _ (ap (λ (p : ℕ × ℕ). p.0) told) (ap (λ (p : ℕ × ℕ). p.0 + p.1) told)

pub overflow_add-usage-in-Some-2 : goal.overflow_add-usage-in-Some-2
overflow_add-usage-in-Some-2 c =
    let ok = c.tally-directories.ensures.layer in
    let more = Left-more c.args.layer.now ok c.loop-number.usage _ _ c.loop-number.invariant (sym c.next_body.ensures ∙ c.in-Some.is) in
    omega (arith, more.0.blocks, blocks_of_bodies c.args.layer.now ok, ok.few, ok.most.1, c.blocks_at.ensures)

pub loop-number-smaller : goal.loop-number-smaller
loop-number-smaller c =
    let more = Left-more c.args.layer.now c.tally-directories.ensures.layer c.loop-number.usage _ _ c.loop-number.invariant (sym c.next_body.ensures ∙ c.in-Some.is) in
    more.1

pub loop-number-preserved : goal.loop-number-preserved
loop-number-preserved c =
    let more = Left-more c.args.layer.now c.tally-directories.ensures.layer c.loop-number.usage _ _ c.loop-number.invariant (sym c.next_body.ensures ∙ c.in-Some.is) in
    record {
      blocks = omega (arith, more.0.blocks, c.blocks_at.ensures);
      inodes = more.0.inodes;
    }

pub returns : goal.returns
returns c =
    let end = Left-end c.args.layer.now c.loop-number.usage _ c.loop-number.invariant (sym c.next_body.ensures ∙ c.in_default.is) in
    let is : c.loop-number.usage ≡ record { blocks = block_count c.args.layer.now; inodes = inode_count c.args.layer.now } =
    λ i. record { blocks = end.0 i; inodes = end.1 i } in
    is ∙ sym (count_of-IsLayer c.args.layer.now c.tally-directories.ensures.layer)
