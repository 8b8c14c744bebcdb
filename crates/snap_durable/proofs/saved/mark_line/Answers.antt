use Rattle.std.proofs.Common.{◌≡◌, [], true, false, sym, ap, ◌∙◌}
use Rattle.snap_log.specs.Texts.{is_line}
use Rattle.snap_durable.proofs.SavedLaws.{mark_line}
use Rattle.snap_durable.proofs.saved.mark_line.Goals as goal

pub unreachable-requires : goal.unreachable-requires
unreachable-requires c =
    let is : is_line c.as_slice.result.now ≡ true = ap is_line (c.as_slice.ensures.value ∙ c.in_ok-mark.ensures) ∙ mark_line (record c.new-all.result { lines = c.args.sums.now.lines }) [] in
    let bad : true ≡ false = sym is ∙ sym c.in_ok-push.ensures.is ∙ c.if-branch.false in
    absurd (cc)
