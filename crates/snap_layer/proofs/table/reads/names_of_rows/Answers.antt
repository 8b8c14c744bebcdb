use Rattle.std.proofs.Common.{◌≡◌, ◌+◌, ◌-◌, ◌∷◌, take, sym, arith}
use Rattle.snap_layer.specs.Counts.{name_count}
use Rattle.snap_layer.proofs.Ending.{counted_one}
use Rattle.snap_layer.proofs.Somes.{match_some}
use Rattle.snap_layer.proofs.table.reads.names_of_rows.Goals as goal

pub loop-row-preserved : goal.loop-row-preserved
loop-row-preserved g c =
    let node = c.in-Some.row.node in
    let left = c.loop-row.left - 1 in
    let one : c.loop-row.left ≡ left + 1 = omega (arith, c.if-left-eq0.false) in
    let step = counted_one c.args.number c.try_next.new.self.path node c.try_next.new.self.rest left c.has_number.result c.from-names.result c.has_number.ensures c.from-names.ensures in
    record {
      few = omega (arith, c.loop-row.invariant.few, one, step.0);
      count =
          let was : name_count c.args.number (take (left + 1) ((c.try_next.new.self.path, node) ∷ c.try_next.new.self.rest)) ≡ name_count c.args.number (take c.loop-row.left c.loop-row.rows.rest) = λ i. name_count c.args.number (take (sym one i) (sym (match_some _ _ c.in-Some.is c.in_ok-row.ensures.row) i)) in
          omega (arith, c.loop-row.invariant.count, was, step.1);
    }
