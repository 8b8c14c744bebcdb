use Rattle.std.proofs.Common.{◌≡◌, ◌+◌, drop}
use Rattle.snap_history.specs.Changes.{entry_infos_of}
use Rattle.snap_history.specs.History.{history_page}
use Rattle.snap_history.proofs.Pages.{page_with}
use Rattle.snap_history.proofs.charges.infos.Given as goal

-- what was found, and what follows as far as there is room, is the page
abbrev pub invariant-loop-entry : goal.invariant-loop-entry
invariant-loop-entry l = record {
  number : l.number ≡ l.fn.before + l.entry-index;
  page : page_with l.after l.most l.infos (entry_infos_of l.name l.number l.shares l.charge (drop l.entry-index l.entries)) ≡ history_page l.after l.most (entry_infos_of l.name l.fn.before l.held l.fn.opening l.entries);
}
