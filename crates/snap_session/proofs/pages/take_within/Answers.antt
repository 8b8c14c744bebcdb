use Rattle.std.proofs.Common.{rules, ◌≡◌, ◌==◌, ◌∷◌, ◌++◌, [], false}
use Rattle.snap_lines.specs.Transcripts.{next_line}
use Rattle.snap_session.specs.Pages.{room_after, taken_within}
use Rattle.snap_session.proofs.Paging.{more_taken}
use Rattle.snap_session.proofs.pages.take_within.Goals as goal

pub loop-preserved : goal.loop-preserved
loop-preserved c =
    let is : c.loop.lines ≡ c.in-Some.line ∷ c.next_line.new.self = search rules in
    let added : c.push.new.self ≡ c.loop.page ++ c.in-Some.line ∷ [] = search rules in
    let room : c.room_after-room.result ≡ room_after c.loop.room c.in-Some.line = search rules in
    let has : (c.room_after-room.result == 0) ≡ false = search rules in
    let at : c.saturating_add.result ≡ next_line c.loop.at = search rules in
    more_taken (taken_within 1048576 c.args.most c.args.at.now c.args.lines.now) c.loop.page c.push.new.self c.loop.lines c.next_line.new.self c.in-Some.line c.loop.room c.room_after-room.result c.args.most c.loop.counter c.loop.at c.saturating_add.result
    c.loop.invariant c.loop-test.true is added room has at
