use Rattle.snap_store.proofs.Counted.{refused_made}
use Rattle.snap_store.proofs.store.Store.commit.Goals as goal

pub note_entry-requires-in-Err-commit-clause-made : goal.note_entry-requires-in-Err-commit-clause-made
note_entry-requires-in-Err-commit-clause-made g c = refused_made _ _ _ _ _ _ _ _ c.deref_mut-2.invariant.1 c.in-Err-commit.ensures.refused c.is_recorded.ensures
