-- What a count has left of the bodies whose numbers are above a number.
use Rattle.std.proofs.Common.{◌≡◌, ℕ, ◌+◌, ◌<◌, length, Some, None, ap, arith}
use Rattle.std.specs.Prelude.{nat_lt, find}
use Rattle.std.specs.List.{sum_by}
use Rattle.std.specs.Map.{keys_of, values_of}
use Rattle.std.proofs.lemmas.List.Sums.{sum_by-cons}
use Rattle.snap_layer.specs.Tree.{Tree, Bodies, body}
use Rattle.snap_layer.specs.Counts.{dir_count, whiteout_count, block_count, inode_count, body_blocks}
use Rattle.snap_layer.specs.Layers.{IsLayer}
use Rattle.snap_layer.proofs.Above.{above, above_zero, above_none, above_next, starts_above_zero}
use Rattle.snap_usage.specs.declared.usage.Usage.{Usage}
use Rattle.snap_usage.proofs.Joined.{blocks_if}

-- with the bodies above the number, the usage is the layer's
pub record Left (t : Tree) (u : Usage) (n : ℕ) : Type 0 where
  pub blocks : u.blocks + sum_by body_blocks (values_of (above n t.bodies)) ≡ block_count t
  pub inodes : u.inodes + length (above n t.bodies) ≡ inode_count t

-- from 0 on all bodies are left
pub Left-start : (t : Tree) → IsLayer t → (u : Usage) → u.blocks ≡ dir_count t → u.inodes ≡ dir_count t + whiteout_count t → Left t u 0
Left-start t ok u blocks inodes =
    let all = above_zero t.bodies (starts_above_zero t.bodies (λ k some. (ok.numbers k some).0)) in
    record {
      blocks = omega (arith, blocks, ap (λ (bs : Bodies). sum_by body_blocks (values_of bs)) all);
      inodes = omega (arith, inodes, ap (λ (bs : Bodies). length bs) all);
    }

-- the next body is counted
pub Left-more : (t : Tree) → IsLayer t → (u : Usage) (n k : ℕ) → Left t u n → find (λ j. nat_lt n j) (keys_of t.bodies) ≡ Some k
    → Left t (record { blocks = u.blocks + blocks_if (body t k); inodes = u.inodes + 1 }) k × (length (above k t.bodies) < length (above n t.bodies))
Left-more t ok u n k left e =
    let next = above_next n k t.bodies ok.sorted_numbers e in
    let sum = ap (λ (bs : Bodies). sum_by body_blocks (values_of bs)) next.left in
    let count = ap (λ (bs : Bodies). length bs) next.left in
    let first = sum_by-cons body_blocks next.body (values_of (above k t.bodies)) in
    let its = ap blocks_if next.there in (
      record { blocks = omega (arith, left.blocks, sum, first, its); inodes = omega (arith, left.inodes, count) },
      omega (arith, count),
    )

-- nothing is left
pub Left-end : (t : Tree) (u : Usage) (n : ℕ) → Left t u n → find (λ j. nat_lt n j) (keys_of t.bodies) ≡ None → (u.blocks ≡ block_count t) × (u.inodes ≡ inode_count t)
Left-end t u n left e =
    let none = above_none n t.bodies e in (
      omega (arith, left.blocks, ap (λ (bs : Bodies). sum_by body_blocks (values_of bs)) none),
      omega (arith, left.inodes, ap (λ (bs : Bodies). length bs) none),
    )
