use Rattle.std.proofs.Common.{◌≡◌, ℕ, refl, sym, subst}
use Rattle.snap_call.specs.declared.call.Call.TheVariants as calls
use Rattle.snap_call.specs.declared.call.Given.TheVariants.{Nothing}
use Rattle.snap_call.specs.declared.reply.Reply.TheVariants.{Viewed}
use Rattle.snap_call.specs.State.{ancestors, ids_of, place_of, shown_layers}
use Rattle.snap_book.specs.Book.{Recorded}
use Rattle.snap_tape.specs.Tapes.{SessionValue, Taped}
use Rattle.snap_store.proofs.Handed.{placed, view_shows}
use Rattle.snap_store.proofs.Counted.{recorded_count, refused_made}
use Rattle.snap_store.proofs.Noted.{refused_noted, taped}
use Rattle.snap_store.proofs.store.Store.view.Goals as goal

pub returns-in-Ok-clause-granted : goal.returns-in-Ok-clause-granted
returns-in-Ok-clause-granted g c =
    let b = c.deref_mut-2.inside.book in
    let v = c.in-Ok.viewed in
    let parent = c.args.parent.now in
    let call = calls.View c.args.namespace.now c.args.key.now parent c.args.labels.now in
    let P : ℕ → Type 0 = λ place. Recorded b c.view.new.self c.number.result call Nothing (Viewed v.id (ids_of (ancestors place parent b.state.records))) in
    let Q : ℕ → Type 0 = λ place. v.lowers ≡ shown_layers place parent b.state.records in
    let at = placed (place_of c.args.namespace.now b.state.namespaces) P Q c.in-Ok.ensures.granted c.in-Ok.ensures.lowers in
    let reply = Viewed v.id (ids_of (ancestors at.0 parent b.state.records)) in
    let recorded = subst (λ (n : ℕ). Recorded b c.view.new.self n call Nothing reply) c.number.ensures at.2 in
    record {
      met = b.state;
      at = at.0;
      place = at.1;
      taped = subst (λ (s : SessionValue). Taped c.args.session.now s call Nothing reply) (sym c.note_entry.ensures.entry)
          (taped c.args.session.now c.reserve.new.self b c.view.new.self call Nothing reply c.view.new.self.copy c.reserve.ensures.same c.in_ok-reserve.ensures.room recorded refl);
      lowers = at.3;
      each = view_shows at.0 parent b.state.records v.lowers at.3;
    }

pub note_entry-requires-clause-made : goal.note_entry-requires-clause-made
note_entry-requires-clause-made g c =
    let b = c.deref_mut-2.inside.book in
    let v = c.in-Ok.viewed in
    let parent = c.args.parent.now in
    let call = calls.View c.args.namespace.now c.args.key.now parent c.args.labels.now in
    let P : ℕ → Type 0 = λ place. Recorded b c.view.new.self c.number.result call Nothing (Viewed v.id (ids_of (ancestors place parent b.state.records))) in
    let Q : ℕ → Type 0 = λ place. v.lowers ≡ shown_layers place parent b.state.records in
    let at = placed (place_of c.args.namespace.now b.state.namespaces) P Q c.in-Ok.ensures.granted c.in-Ok.ensures.lowers in
    recorded_count _ _ _ _ _ _ _ c.deref_mut-2.invariant.1 at.2

pub note_entry-requires-in-Err-clause-made : goal.note_entry-requires-in-Err-clause-made
note_entry-requires-in-Err-clause-made g c = refused_made _ _ _ _ _ _ _ _ c.deref_mut-2.invariant.1 c.in-Err.ensures.refused c.is_recorded.ensures

pub returns-clause-refused : goal.returns-clause-refused
returns-clause-refused g c = refused_noted _ _ _ _ _ _ _ _ _ _ c.reserve.ensures.same c.in_ok-reserve.ensures.room c.number.ensures c.in-Err.ensures.refused c.is_recorded.ensures c.note_entry-in-Err.ensures.entry
