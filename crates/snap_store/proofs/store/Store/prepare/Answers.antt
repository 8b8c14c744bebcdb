use Rattle.std.proofs.Common.{ℕ, length, refl, sym, ap, ◌∙◌, subst}
use Rattle.snap_call.specs.declared.call.Call.TheVariants as calls
use Rattle.snap_call.specs.declared.call.Given.TheVariants.{Nothing}
use Rattle.snap_call.specs.declared.reply.Reply.TheVariants.{Prepared}
use Rattle.snap_call.specs.State.{ancestors, ids_of}
use Rattle.snap_book.specs.Book.{Recorded}
use Rattle.snap_tape.specs.Tapes.{SessionValue, Taped}
use Rattle.snap_round.specs.declared.rule.Round.{Round}
use Rattle.snap_book.specs.Active.{fresh}
use Rattle.snap_store.specs.Rounds.{HasLayers}
use Rattle.snap_store.proofs.Handed.{no_base, one_for_each}
use Rattle.snap_round.specs.Rounds.{inner}
use Rattle.snap_store.proofs.Counted.{refused_made}
use Rattle.snap_store.proofs.Noted.{refused_noted, taped}
use Rattle.snap_store.proofs.Rounds.{refused_round}
use Rattle.snap_store.proofs.store.Store.prepare.Goals as goal

pub returns-in-Ok-clause-granted : goal.returns-in-Ok-clause-granted
returns-in-Ok-clause-granted g c =
    let b = c.deref_mut-2.inside.book in
    let a = c.in-Ok.active in
    let e = c.in-Ok.ensures in
    let parent = c.args.parent.now in
    let call = calls.Prepare c.args.namespace.now c.args.key.now parent c.args.labels.now in
    let reply = Prepared a.share.id a.share.slot (ids_of (ancestors a.namespace parent b.state.records)) in
    let recorded = subst (λ (n : ℕ). Recorded b c.prepare_within.new.self n call Nothing reply) c.number-n.ensures e.granted in
    let layers : HasLayers c.self.inside.tie.round c.self.inside.layer_inodes = c.self.invariant.2 in
    record {
      met = b.state;
      place = e.namespace;
      taped = subst (λ (s : SessionValue). Taped c.args.session.now s call Nothing reply) (sym c.note_entry.ensures.entry)
          (taped c.args.session.now c.reserve.new.self b c.prepare_within.new.self call Nothing reply c.prepare_within.new.self.copy c.reserve.ensures.same c.in_ok-reserve.ensures.room recorded refl);
      key = e.key;
      lowers = e.lowers;
      each = ap length e.lowers ∙ one_for_each a.namespace parent b.state.records;
      base = λ none. e.lowers ∙ no_base a.namespace parent b.state.records none;
      layer = e.layer ∙ ap (λ n. fresh n a.lowers) (layers.0 ∙ ap (λ (r : Round). r.opening.layer_inodes) c.self.view_is);
      usage = e.usage;
    }

pub note_entry-requires-in-Err-clause-made : goal.note_entry-requires-in-Err-clause-made
note_entry-requires-in-Err-clause-made g c = refused_made _ _ _ _ _ _ _ _ c.deref_mut-2.invariant.1 c.in-Err.ensures.refused c.is_recorded.ensures

pub returns-clause-refused : goal.returns-clause-refused
returns-clause-refused g c = refused_noted _ _ _ _ _ _ _ _ _ _ c.reserve.ensures.same c.in_ok-reserve.ensures.room c.number-n.ensures c.in-Err.ensures.refused c.is_recorded.ensures c.note_entry-in-Err.ensures.entry

pub invariant_of-t-20 : goal.invariant_of-t-20
invariant_of-t-20 g c = (
  c.deref_mut-2.invariant.0 ∙ ap inner (sym (c.note_entry-in-Err.ensures.round ∙ refused_round _ _ _ _ _ _ c.in-Err.ensures.refused)),
  c.note_entry-in-Err.ensures.count,
)
