use Rattle.std.proofs.Common.{◌≡◌, ◌+◌, ◌<◌, ◌≤◌, [], ℕ, Bool, true, false, length, get_or, ap, ◌∙◌, arith}
use mir.Val.{bool_byte}
use Rattle.std.specs.Prelude.{if◌then◌else◌}
use Rattle.std.proofs.lemmas.List.{get_or_default}
use Rattle.snap_path.specs.Text.{Names}
use Rattle.snap_merge.proofs.Ends.{way_along}
use Rattle.snap_merge.proofs.resolve.follow_names.Goals as goal

bit : (b : Bool) (k : ℕ) → k ≡ bool_byte b → k ≡ (if b then 1 else 0)
bit true k e = e
bit false k e = e

at_most_one : (b : Bool) (k : ℕ) → k ≡ (if b then 1 else 0) → k ≤ 1
at_most_one true k e = omega (arith, e)
at_most_one false k e = omega (arith, e)

pub loop-at-preserved : goal.loop-at-preserved
loop-at-preserved c =
    let p = c.args.path.now in
    let j = c.loop-at.at in
    let same = c.names-names.ensures.names in
    let lt : j < length p = omega (arith, c.loop-at-test.true, c.min-most.ensures, ap length same) in
    let few : j + 1 < c.args.dirs = omega (arith, c.loop-at-test.true, c.min-most.ensures, c.saturating_sub.ensures) in
    let n = c.index-names-at.result in
    let name : n ≡ get_or p j [] = c.index-names-at.is ∙ get_or_default c.names-names.result.now j n [] (omega (arith, lt, ap length same)) ∙ ap (λ (ns : Names). get_or ns j []) same in
    let is = bit c.in-Some.is_name c.from-at.result c.from-at.ensures in
    let one = at_most_one c.in-Some.is_name c.from-at.result is in
    (omega (arith, lt, one), λ s dirs follow. way_along follow s p c.args.dirs c.names-names.ensures.valid dirs j lt few c.in-Some.is_name c.from-at.result is n name c.loop-at.words c.take_along.new.self c.in-Some.ensures ∙ c.loop-at.invariant.1 s dirs follow)
