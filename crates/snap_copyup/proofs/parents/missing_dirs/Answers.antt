use Rattle.std.proofs.Common.{◌≡◌, ℕ, ◌-◌, [], length, ap, subst, arith}
use Rattle.snap_copyup.specs.Copying.{with_parents}
use Rattle.snap_copyup.specs.Places.{TakesMore}
use Rattle.snap_copyup.proofs.Missing.{missing_from}
use Rattle.snap_copyup.proofs.Growing.{takes_missing}
use Rattle.snap_copyup.proofs.Standing.{missing_left}
use Rattle.snap_copyup.proofs.parents.missing_dirs.Goals as goal

pub returns-clause-count : goal.returns-clause-count
returns-clause-count c = λ lowers way.
    let u = c.args.layer.now in
    let p = c.args.path.now in
    let n = c.standing_dirs.result in
    let ok = c.standing_dirs.ensures.layer in
    let left : missing_from u [] p ≡ length c.names.result.now - n = omega (arith, missing_left u p n ok c.standing_dirs.ensures.above 0, ap length c.names.ensures.names) in
    subst (λ (k : ℕ). TakesMore k u (with_parents u lowers p)) left (takes_missing u lowers p ok way)
