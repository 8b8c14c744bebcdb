use Rattle.std.proofs.Common.{◌≡◌, false, is_err, ◌∙◌, sym}
use Rattle.snap_log.specs.Log.{IsHonest, text_in}
use Rattle.snap_log.specs.Staged.{IsHonestStage, lines_staged}
use Rattle.snap_durable.specs.Files.{IsComing}
use Rattle.snap_durable.proofs.FileLaws.{coming_all, end_leaves, end_stands, on_ok}
use Rattle.snap_durable.proofs.step.end.Goals as goal

pub returns-clause-stand : goal.returns-clause-stand
returns-clause-stand g c =
    let fine : is_err c.write_last.result ≡ false = sym c.is_err.ensures.value ∙ c.if-is_err.false in
    let staged = on_ok c.write_last.result fine c.write_last.ensures.written in
    let stage = c.write_last.new.coming.stage in
    end_stands (text_in c.args.counting) (lines_staged stage) (IsHonest c.args.counting) (IsHonestStage c.args.coming.stage) (IsHonestStage stage) (λ v. IsComing v c.args.coming) c.write_last.ensures.clean
    (λ honest v is lines.
    let all = coming_all v c.args.coming.stage c.args.coming.lines c.args.coming.sums c.args.coming.mark c.args.coming.behind is (c.write_last.ensures.clean honest) c.requires.all in
    all.2 (lines_staged stage) (staged all.0 all.1 honest) lines)
    c.count.result c.count.ensures.text c.count.ensures.idle c.count.ensures.clean

pub returns-clause-crash : goal.returns-clause-crash
returns-clause-crash g c =
    let fine : is_err c.write_last.result ≡ false = sym c.is_err.ensures.value ∙ c.if-is_err.false in
    let staged = on_ok c.write_last.result fine c.write_last.ensures.written in
    let stage = c.write_last.new.coming.stage in
    end_leaves (text_in c.args.counting) (lines_staged stage) (IsHonest c.args.counting) (IsHonestStage c.args.coming.stage) (IsHonestStage stage) (λ v. IsComing v c.args.coming) c.write_last.ensures.clean
    (λ honest v is lines.
    let all = coming_all v c.args.coming.stage c.args.coming.lines c.args.coming.sums c.args.coming.mark c.args.coming.behind is (c.write_last.ensures.clean honest) c.requires.all in
    all.2 (lines_staged stage) (staged all.0 all.1 honest) lines)
    c.count.result c.count.ensures.crash
