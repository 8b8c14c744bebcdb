use Rattle.std.proofs.Common.{List, length, ap, arith}
use Rattle.snap_call.specs.declared.entry.Entry.{Entry}
use Rattle.snap_session.proofs.Entries.{few}
use Rattle.snap_session.proofs.journal.journal_all.Goals as goal

pub entries_after-requires : goal.entries_after-requires
entries_after-requires g c =
    omega (arith, few c.args.world.now c.journal.ensures.replays, ap (λ (l : List Entry). length l) c.journal.ensures.entries, c.last_entry-last.ensures)
