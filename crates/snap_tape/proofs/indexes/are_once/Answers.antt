use Rattle.snap_tape.proofs.indexes.are_once.Goals as goal

pub returns-then-are_inside : goal.returns-then-are_inside
returns-then-are_inside c = (
  λ all. record { inside = c.are_inside.ensures.0 c.if-are_inside.true; once = c.is_each_once.ensures.0 all },
  λ once. c.is_each_once.ensures.1 once.once,
)
