use Rattle.std.proofs.Common.{arith, inl, inr}
use Rattle.snap_tape.proofs.Firsts.{lesser_left, lesser_right}
use Rattle.snap_tape.proofs.mismatch.lesser.Goals as goal

pub returns-then-b-a : goal.returns-then-b-a
returns-then-b-a c journal left right a b = lesser_right journal left right _ _ (inl c.if-b-a.true) a b

pub returns-then-b-a-2 : goal.returns-then-b-a-2
returns-then-b-a-2 c journal left right a b = lesser_right journal left right _ _ (inr (omega arith, omega arith)) a b

pub returns-else-b-a-2 : goal.returns-else-b-a-2
returns-else-b-a-2 c journal left right a b = lesser_left journal left right _ _ (inr (omega arith, omega arith)) a b
