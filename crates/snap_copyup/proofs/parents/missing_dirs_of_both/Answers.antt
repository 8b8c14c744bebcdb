use Rattle.std.proofs.Common.{◌≡◌, [], ◌+◌, ℕ, length, take, drop, sym, ap, subst, ◌∙◌, arith}
use Rattle.snap_copyup.specs.Copying.{with_parents}
use Rattle.snap_copyup.specs.Places.{TakesMore}
use Rattle.snap_copyup.proofs.Missing.{missing_from}
use Rattle.snap_copyup.proofs.Growing.{few_names, takes_missing}
use Rattle.snap_copyup.proofs.Standing.{missing_left}
use Rattle.snap_copyup.proofs.Both.{takes_both}
use Rattle.snap_copyup.proofs.parents.missing_dirs_of_both.Goals as goal

pub overflow_add-result : goal.overflow_add-result
overflow_add-result c = omega (arith, c.missing_dirs.ensures.few, c.saturating_sub-more.ensures, ap length c.names-4.ensures.names, few_names c.args.one.now, few_names c.args.other.now, c.names.ensures.valid.1, c.names-2.ensures.valid.1)

pub returns-clause-count : goal.returns-clause-count
returns-clause-count c = λ lowers way_one way_other.
    let u = c.args.layer.now in
    let p = c.args.one.now in
    let q = c.args.other.now in
    let s = c.min-counted.result in
    let n = c.standing_dirs.result in
    let ok = c.standing_dirs.ensures.layer in
    let above_one : c.missing_dirs.result ≡ missing_from u [] p = omega (arith, (c.missing_dirs.ensures.count lowers way_one).0, (takes_missing u lowers p ok way_one).0) in
    let above_other : c.saturating_sub-more.result ≡ missing_from u (take s q) (drop s q) = omega (arith, c.saturating_sub-more.ensures, c.max-passed.ensures, ap length c.names-4.ensures.names, missing_left u q n ok c.standing_dirs.ensures.above s) in
    let sum : c.missing_dirs.result + c.saturating_sub-more.result ≡ missing_from u [] p + missing_from u (take s q) (drop s q) = omega (arith, above_one, above_other) in
    let k = c.shared_names-shared.result in
    let one = c.names.ensures.names in
    let other = c.names-2.ensures.names in
    let shared = c.shared_names-shared.ensures in
    subst (λ (n : ℕ). TakesMore n u (with_parents (with_parents u lowers p) lowers q)) (sym sum)
    (takes_both u lowers p q ok way_one way_other k s (omega (arith, shared.few, ap length one))
    (sym (ap (take k) one) ∙ shared.same ∙ ap (take k) other)
    (λ in_one in_other same. shared.most (omega (arith, in_one, ap length one)) (omega (arith, in_other, ap length other)) (ap (take (k + 1)) one ∙ same ∙ sym (ap (take (k + 1)) other)))
    (omega (arith, c.min-counted.ensures, ap length c.names-3.ensures.names)))
