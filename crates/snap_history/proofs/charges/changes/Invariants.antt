use Rattle.std.proofs.Common.{◌≡◌, ◌++◌, drop}
use Rattle.snap_history.specs.Changes.{changes_of}
use Rattle.snap_history.proofs.charges.changes.Given as goal

-- the changes that were found, and those of the entries that are left, are those of all
abbrev pub invariant-loop-entry : goal.invariant-loop-entry
invariant-loop-entry l = l.changes.items ++ changes_of l.name l.shares (drop l.entry-index l.entries) ≡ changes_of l.name l.held l.entries
