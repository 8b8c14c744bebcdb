use Rattle.std.proofs.Common.{◌≡◌, IfOk, List, map, refl, subst}
use Rattle.snap_record.specs.declared.record.Record.{Record}
use Rattle.snap_call.specs.Records.{charge_of}
use Rattle.snap_call.specs.declared.sweep.Sweep.{Sweep}
use Rattle.snap_call.proofs.Marks.{parents-within}
use Rattle.snap_call.proofs.Referred.{all_now, own-charge, own-sorted, parents-now, swept-now}
use Rattle.snap_call.proofs.state.State.plan_sweep.Goals as goal

pub parent_places-requires : goal.parent_places-requires
parent_places-requires c = own-sorted c.args.self.now c.args.place c.in_ok-records.records.items c.deref.result.now c.requires.good c.in_ok-records.ensures c.deref.ensures.value

pub gather-requires-clause-blocks : goal.gather-requires-clause-blocks
gather-requires-clause-blocks c = (own-charge c.args.self.now c.args.namespace.now c.args.place c.in_ok-records.records.items c.deref-5.result.now c.requires.good c.requires.named c.in_ok-records.ensures c.deref-5.ensures.value).0

pub gather-requires-clause-inodes : goal.gather-requires-clause-inodes
gather-requires-clause-inodes c = (own-charge c.args.self.now c.args.namespace.now c.args.place c.in_ok-records.records.items c.deref-5.result.now c.requires.good c.requires.named c.in_ok-records.ensures c.deref-5.ensures.value).1

pub sweep_set-requires-clause-within : goal.sweep_set-requires-clause-within
sweep_set-requires-clause-within c =
    let refs = c.in_ok-records.records.items in
    parents-within c.args.place (all_now refs) c.deref-3.result.now (parents-now c.args.place refs c.deref.result.now (all_now refs) c.in_ok-parents.parents.items c.deref-3.result.now c.deref.ensures.value refl c.deref-3.ensures.value c.in_ok-parents.ensures)

pub returns-clause-removed : goal.returns-clause-removed
returns-clause-removed c = subst (λ (rs : List Record). IfOk c.gather.result (λ (w : Sweep). w.removed ≡ map (λ (r : Record). r.key) rs))
    (swept-now c.args.self.now c.args.namespace.now c.args.place c.args.moment c.requires.good c.in_ok-names.names c.in_ok-records.records.items c.deref.result.now c.deref-2.result.now c.deref-5.result.now c.in_ok-parents.parents.items c.deref-3.result.now c.in_ok-roots.roots.items c.deref-4.result.now c.in_ok-marks.marks.items c.deref-6.result.now
    c.in_ok-records.ensures c.deref.ensures.value c.deref-2.ensures.value c.deref-5.ensures.value c.deref-3.ensures.value c.in_ok-parents.ensures c.deref-4.ensures.value c.in_ok-roots.ensures c.deref-6.ensures.value c.in_ok-names.ensures c.in_ok-marks.ensures)
    c.gather.ensures.removed

pub returns-clause-freed : goal.returns-clause-freed
returns-clause-freed c = subst (λ (rs : List Record). IfOk c.gather.result (λ (w : Sweep). w.freed ≡ charge_of c.args.place rs))
    (swept-now c.args.self.now c.args.namespace.now c.args.place c.args.moment c.requires.good c.in_ok-names.names c.in_ok-records.records.items c.deref.result.now c.deref-2.result.now c.deref-5.result.now c.in_ok-parents.parents.items c.deref-3.result.now c.in_ok-roots.roots.items c.deref-4.result.now c.in_ok-marks.marks.items c.deref-6.result.now
    c.in_ok-records.ensures c.deref.ensures.value c.deref-2.ensures.value c.deref-5.ensures.value c.deref-3.ensures.value c.in_ok-parents.ensures c.deref-4.ensures.value c.in_ok-roots.ensures c.deref-6.ensures.value c.in_ok-names.ensures c.in_ok-marks.ensures)
    c.gather.ensures.freed
