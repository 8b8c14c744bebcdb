use Rattle.std.proofs.Common.{◌≡◌, [], option_copied, ap, ◌∙◌, sym}
use Rattle.snap_durable.proofs.DifferLaws.{filter_map-some, filter_map-none}
use Rattle.snap_durable.specs.Differences.{first_difference, value_named}
use Rattle.snap_durable.proofs.differ.first_differences.Goals as goal
use Rattle.snap_durable.proofs.differ.first_differences.Goals.{in-Some+in_ok-push, in_default}

pub loop-name-preserved : goal.loop-name-preserved
loop-name-preserved g c =
    let e : option_copied c.copied-other.result ≡ value_named c.loop-name-item.result.0 c.args.b.now =
    ap option_copied (c.copied-other.ensures ∙ c.get.ensures.value) ∙ c.in_ok-others.ensures c.as_str.result.now ∙ ap (λ q. value_named q c.args.b.now) c.as_str.ensures in
    let d = ap (first_difference g.T.Compare.difference c.loop-name-item.result) (sym e) ∙ sym c.in_ok-difference.ensures in
    elim c.match-branch-3.branch [
      | in-Some+in_ok-push w ↦ w.found-is ∙ w.in_ok-push.ensures.ok ∙ filter_map-some _ _ _ c.loop-name-item.result _ [] _ c.loop-name-test.true c.loop-name-item.is (d ∙ w.in-Some.is) c.loop-name.invariant
      | in_default w ↦ w.found-is ∙ filter_map-none _ _ _ c.loop-name-item.result [] _ c.loop-name-test.true c.loop-name-item.is (d ∙ w.in_default.is) c.loop-name.invariant
    ]
