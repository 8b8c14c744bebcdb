use Rattle.std.proofs.Common.{subst}
use Rattle.snap_usage.specs.declared.usage.Usage.{Usage}
use Rattle.snap_call.specs.declared.call.Call.TheVariants.{Charge}
use Rattle.snap_call.specs.declared.call.Given.TheVariants.{Nothing}
use Rattle.snap_tape.specs.Tapes.{RefusedOn}
use Rattle.snap_store.proofs.Counted.{refused_made}
use Rattle.snap_store.proofs.Noted.{refused_noted}
use Rattle.snap_store.proofs.charger.StoreChargerCharger.charge.Goals as goal

pub note_entry-requires-in-Err-clause-made : goal.note_entry-requires-in-Err-clause-made
note_entry-requires-in-Err-clause-made g c = refused_made _ _ _ _ _ _ _ _ c.deref_mut-2.invariant.1 c.in-Err.ensures.refused c.is_recorded.ensures

pub returns-clause-refused : goal.returns-clause-refused
returns-clause-refused g c =
    subst (λ (want : Usage). RefusedOn c.args.session.now c.note_entry-in-Err.new.session (Charge c.args.share.now.slot c.args.share.now.id c.args.need want) Nothing c.in-Err.why) c.wanted.ensures
    (refused_noted _ _ _ _ _ _ _ _ _ _ c.reserve.ensures.same c.in_ok-reserve.ensures.room c.number.ensures c.in-Err.ensures.refused c.is_recorded.ensures c.note_entry-in-Err.ensures.entry)
