use Rattle.std.proofs.Common.{◌≡◌, ◌+◌, drop}
use Rattle.snap_history.specs.History.{entries_from, history_page}
use Rattle.snap_history.proofs.Pages.{page_with}
use Rattle.snap_history.proofs.charges.page_of.Given as goal

-- what was found, and what follows as far as there is room, is the page
abbrev pub invariant-loop-entry : goal.invariant-loop-entry
invariant-loop-entry l = record {
  number : l.number ≡ l.fn.before + l.entry-index;
  page : page_with l.after l.most l.infos (entries_from l.number (drop l.entry-index l.entries)) ≡ history_page l.after l.most (entries_from l.fn.before l.entries);
}
