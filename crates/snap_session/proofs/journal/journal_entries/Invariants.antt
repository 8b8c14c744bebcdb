use Rattle.std.proofs.Common.{◌≡◌, map, take}
use Rattle.snap_session.specs.Journal.{journal_entry}
use Rattle.snap_session.proofs.journal.journal_entries.Given as goal

abbrev pub invariant-loop-info : goal.invariant-loop-info
invariant-loop-info g l = l.told ≡ map (journal_entry l.world l.carried l.all l.full) (take l.info-index l.infos)
