use Rattle.std.proofs.Common.{◌≡◌, ◌-◌}
use Rattle.snap_session.specs.Pages.{taken_within}
use Rattle.snap_session.proofs.Paging.{behind}
use Rattle.snap_session.proofs.pages.take_within.Given as goal

-- with the lines that are to come the page is whole
abbrev pub invariant-loop : goal.invariant-loop
invariant-loop l = taken_within 1048576 l.most l.fn.at l.fn.lines ≡ behind l.page (taken_within l.room (l.most - l.counter) l.at l.lines)
