use Rattle.std.proofs.Common.{subst}
use Rattle.snap_copyup.specs.Places.{CanStand}
use Rattle.snap_copyup.proofs.Steps.{place}
use Rattle.snap_copyup.proofs.parents.put_last.Goals as goal

pub add_file-requires-clause-place : goal.add_file-requires-clause-place
add_file-requires-clause-place c =
    let fit = subst (λ l. CanStand l c.args.layer.now c.args.path.now) c.in-File.is c.requires.fit in
    place c.args.layer.now c.args.path.now c.requires.layer fit.0 c.requires.parent

pub add_symlink-requires-clause-place : goal.add_symlink-requires-clause-place
add_symlink-requires-clause-place c =
    let fit = subst (λ l. CanStand l c.args.layer.now c.args.path.now) c.in-Symlink.is c.requires.fit in
    place c.args.layer.now c.args.path.now c.requires.layer fit.0 c.requires.parent

pub add_whiteout-requires : goal.add_whiteout-requires
add_whiteout-requires c = place c.args.layer.now c.args.path.now c.requires.layer (subst (λ l. CanStand l c.args.layer.now c.args.path.now) c.in-Whiteout.is c.requires.fit) c.requires.parent
