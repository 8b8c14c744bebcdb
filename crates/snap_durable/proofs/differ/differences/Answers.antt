use Rattle.std.proofs.Common.{◌≡◌, Some, option_copied, filter_map, ap, ◌∙◌, sym}
use Rattle.snap_durable.proofs.DifferLaws.{filter_map-some, filter_map-none, second-none, second-some}
use Rattle.snap_durable.specs.Differences.{first_difference, second_difference, value_named}
use Rattle.snap_durable.specs.declared.differ.Found.TheVariants.{OnlyB}
use Rattle.snap_durable.proofs.differ.differences.Goals as goal
use Rattle.snap_durable.proofs.differ.differences.Goals.{then-is_none+in_ok-clone+in_ok-push, else-is_none}

pub loop-name-preserved : goal.loop-name-preserved
loop-name-preserved g c =
    let before = filter_map (λ e. first_difference g.T.Compare.difference e (value_named e.0 c.args.b.now)) c.args.a.now in
    let item = c.loop-name-item.result in
    let e : option_copied (option_copied c.get.result) ≡ value_named item.0 c.args.a.now =
    ap option_copied c.get.ensures.value ∙ c.in_ok-others.ensures c.as_str.result.now ∙ ap (λ q. value_named q c.args.a.now) c.as_str.ensures in
    elim c.if-is_none.branch [
      | then-is_none+in_ok-clone+in_ok-push w ↦
          w.found-is ∙ w.in_ok-push.ensures.ok ∙ filter_map-some _ _ _ item _ before _ c.loop-name-test.true c.loop-name-item.is
          (ap (second_difference item) (sym e) ∙ second-none item c.get.result c.is_none.result c.is_none.ensures w.if-is_none.true ∙ ap (λ n. Some (record { name = n; found = OnlyB })) (sym w.in_ok-clone.ensures.cases)) c.loop-name.invariant
      | else-is_none w ↦
          w.found-is ∙ filter_map-none _ _ _ item before _ c.loop-name-test.true c.loop-name-item.is
          (ap (second_difference item) (sym e) ∙ second-some item c.get.result c.is_none.result c.is_none.ensures w.if-is_none.false) c.loop-name.invariant
    ]
