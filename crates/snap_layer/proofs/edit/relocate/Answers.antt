use Rattle.std.proofs.Common.{sym, subst, ◌∙◌}
use Rattle.snap_layer.specs.Tree.{IsDirAt}
use Rattle.snap_layer.specs.Walk.{view_of}
use Rattle.snap_layer.proofs.Slots.{on_ok, on_err, on_err_both, same_trans}
use Rattle.snap_layer.proofs.Entering.{clears_other, clears_entry, clears_none}
use Rattle.snap_layer.proofs.edit.relocate.Goals as goal

pub shift-requires-clause-from : goal.shift-requires-clause-from
shift-requires-clause-from c = subst IsDirAt (sym (clears_other (view_of c.args.slots.now) (view_of c.clear_entry.new.slots) c.args.places.now.entries c.clear_entry.new.places.entries c.args.to c.args.new.now c.args.from c.requires.not_from c.clear_entry.ensures.clears).0) c.requires.from

pub shift-requires-clause-to : goal.shift-requires-clause-to
shift-requires-clause-to c = subst IsDirAt (sym (clears_other (view_of c.args.slots.now) (view_of c.clear_entry.new.slots) c.args.places.now.entries c.clear_entry.new.places.entries c.args.to c.args.new.now c.args.to c.requires.not_to c.clear_entry.ensures.clears).0) c.requires.to

pub shift-requires-clause-there : goal.shift-requires-clause-there
shift-requires-clause-there c = clears_entry (view_of c.args.slots.now) (view_of c.clear_entry.new.slots) c.args.places.now.entries c.clear_entry.new.places.entries c.args.to c.args.new.now c.args.from c.args.old.now c.requires.not_from c.requires.apart c.clear_entry.ensures.clears ∙ c.requires.there

pub returns-clause-ok : goal.returns-clause-ok
returns-clause-ok c = on_ok c.shift.result (λ done. record { cleared = view_of c.clear_entry.new.slots; clears = c.clear_entry.ensures.clears; shifted = done }) c.shift.ensures.ok

pub returns-clause-err : goal.returns-clause-err
returns-clause-err c = on_err_both c.shift.result (
    λ alike none.
    let was = clears_none (view_of c.args.slots.now) (view_of c.clear_entry.new.slots) c.args.places.now.entries c.clear_entry.new.places.entries c.args.to c.args.new.now c.requires.not_to c.clear_entry.ensures.clears none in
    (same_trans _ _ _ was.0 alike, was.1)
    ) c.shift.ensures.err c.shift.ensures.sure

pub returns-clause-sure : goal.returns-clause-sure
returns-clause-sure c = on_err c.shift.result (λ none. sym ((clears_none (view_of c.args.slots.now) (view_of c.clear_entry.new.slots) c.args.places.now.entries c.clear_entry.new.places.entries c.args.to c.args.new.now c.requires.not_to c.clear_entry.ensures.clears none).0.entries c.args.to c.args.new.now) ∙ none) c.shift.ensures.sure
