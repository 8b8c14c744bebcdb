use Rattle.std.proofs.Common.{◌≡◌, drop}
use Rattle.snap_session.specs.Journal.{name_among}
use Rattle.snap_session.proofs.journal.name_among.Given as goal

abbrev pub invariant-loop-entry : goal.invariant-loop-entry
invariant-loop-entry l = name_among l.id l.entries ≡ name_among l.id (drop l.entry-index l.entries)
