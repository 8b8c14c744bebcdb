use Rattle.std.proofs.Common.{ap, length, arith}
use Rattle.std.specs.Prelude.{count_by}
use Rattle.std.specs.Map.{values_of}
use Rattle.snap_layer.specs.Tree.{Entries, is_dir, is_whiteout}
use Rattle.snap_layer.proofs.Listed.{counted_more, inside_few, one_at_most}
use Rattle.snap_layer.proofs.Somes.{match_some}
use Rattle.snap_layer.proofs.table.Table.tally_rows.Goals as goal

pub overflow_add-dirs : goal.overflow_add-dirs
overflow_add-dirs g c = omega (arith, inside_few c.args.self.now c.requires.layer c.args.front.now, c.loop-row.invariant.dirs, c.from-dirs.ensures, one_at_most c.is_dir.result)

pub overflow_add-whiteouts : goal.overflow_add-whiteouts
overflow_add-whiteouts g c = omega (arith, inside_few c.args.self.now c.requires.layer c.args.front.now, c.loop-row.invariant.whiteouts, c.from-whiteouts.ensures, one_at_most c.is_whiteout.result)

pub loop-row-preserved : goal.loop-row-preserved
loop-row-preserved g c =
    let dirs = counted_more is_dir c.try_next.new.self.path c.in-Some.row.node c.try_next.new.self.rest c.is_dir.result c.is_dir.ensures in
    let whiteouts = counted_more is_whiteout c.try_next.new.self.path c.in-Some.row.node c.try_next.new.self.rest c.is_whiteout.result c.is_whiteout.ensures in
    record {
      dirs = omega (arith, c.loop-row.invariant.dirs, c.from-dirs.ensures, dirs, ap (λ (es : Entries). count_by is_dir (values_of es)) (match_some _ _ c.in-Some.is c.in_ok-row.ensures.row));
      whiteouts = omega (arith, c.loop-row.invariant.whiteouts, c.from-whiteouts.ensures, whiteouts, ap (λ (es : Entries). count_by is_whiteout (values_of es)) (match_some _ _ c.in-Some.is c.in_ok-row.ensures.row));
    }

pub loop-row-smaller : goal.loop-row-smaller
loop-row-smaller g c = omega (arith, ap (λ (es : Entries). length es) (match_some _ _ c.in-Some.is c.in_ok-row.ensures.row))
