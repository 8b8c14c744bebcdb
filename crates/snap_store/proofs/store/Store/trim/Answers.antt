use Rattle.snap_store.proofs.Counted.{refused_made}
use Rattle.snap_store.proofs.Noted.{refused_noted}
use Rattle.snap_store.proofs.store.Store.trim.Goals as goal

pub note_entry-requires-in-Err-clause-made : goal.note_entry-requires-in-Err-clause-made
note_entry-requires-in-Err-clause-made g c = refused_made _ _ _ _ _ _ _ _ c.deref_mut-2.invariant.1 c.in-Err.ensures.refused c.is_recorded.ensures

pub returns-clause-refused : goal.returns-clause-refused
returns-clause-refused g c = refused_noted _ _ _ _ _ _ _ _ _ _ c.reserve.ensures.same c.in_ok-reserve.ensures.room c.number.ensures c.in-Err.ensures.refused c.is_recorded.ensures c.note_entry-in-Err.ensures.entry
