use Rattle.std.proofs.Common.{◌≡◌, ◌++◌, ◌∷◌, ◌+◌, [], take, refl, arith}
use Rattle.std.proofs.lemmas.Grind.{common_steps}
use Rattle.snap_durable.proofs.DifferLaws.{by_name-more}
use Rattle.snap_durable.proofs.differ.by_name.Goals as goal

pub loop-name-preserved : goal.loop-name-preserved
loop-name-preserved g c =
    let e : take (c.loop-name.name-index + 1) c.args.entries.now ≡ take c.loop-name.name-index c.args.entries.now ++ c.loop-name-item.result ∷ [] = grind (arith, common_steps) in
    rw e (by_name-more c.loop-name.map c.insert.new.self (take c.loop-name.name-index c.args.entries.now) c.loop-name-item.result _ _ c.as_str.ensures refl c.in_ok-insert.ensures.updates c.loop-name.invariant)
