use Rattle.std.proofs.Common.{◌≡◌, true, false}
use Rattle.snap_merge.specs.Objects.{seen, is_shown_dir}
use Rattle.snap_merge.specs.Resolving.{is_here, is_above, is_too_long}
use Rattle.snap_merge.proofs.Ways.{way_enters, leads_from}
use Rattle.snap_merge.proofs.resolve.step.Goals as goal

pub returns : goal.returns
returns c = λ follow ws.
    let directory : is_shown_dir (seen c.args.stack.now c.args.place) ≡ true = cc in
    let here : is_here c.args.word.now ≡ false = cc in
    let over : is_above c.args.word.now ≡ false = cc in
    let long : is_too_long c.args.place c.args.word.now ≡ false = cc in
    leads_from follow c.args.stack.now ws _ _ c.enter.result (way_enters follow c.args.stack.now c.args.place c.args.word.now ws directory here over long) (c.enter.ensures follow ws)
