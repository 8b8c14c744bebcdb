use Rattle.std.proofs.Common.{◌+◌, ◌<◌, ◌^◌, IsSome, ℕ, sym, subst, ◌∙◌}
use Rattle.snap_layer.specs.Tree.{IsDirAt}
use Rattle.snap_layer.specs.Walk.{view_of}
use Rattle.snap_layer.proofs.Slots.{on_err_by, same_trans}
use Rattle.snap_layer.proofs.Entering.{clears_other, clears_none, gained}
use Rattle.snap_layer.proofs.edit.replace_name.Goals as goal

pub link-requires : goal.link-requires
link-requires c = subst IsDirAt (sym (clears_other (view_of c.args.slots.now) (view_of c.clear_entry.new.slots) c.args.places.now.entries c.clear_entry.new.places.entries c.args.dir c.args.name.now c.args.dir c.requires.apart c.clear_entry.ensures.clears).0) c.requires.dir

pub raise_link-requires-clause-leaf : goal.raise_link-requires-clause-leaf
raise_link-requires-clause-leaf c = subst IsSome (sym (c.in_ok-link.ensures.ok.bodies c.args.key ∙ (clears_other (view_of c.args.slots.now) (view_of c.clear_entry.new.slots) c.args.places.now.entries c.clear_entry.new.places.entries c.args.dir c.args.name.now c.args.key c.requires.other c.clear_entry.ensures.clears).1)) c.requires.leaf

pub raise_link-requires-clause-few : goal.raise_link-requires-clause-few
raise_link-requires-clause-few c = subst (λ (k : ℕ). k + 1 < 2 ^ 64) (sym (c.in_ok-link.ensures.ok.counts c.args.key ∙ (clears_other (view_of c.args.slots.now) (view_of c.clear_entry.new.slots) c.args.places.now.entries c.clear_entry.new.places.entries c.args.dir c.args.name.now c.args.key c.requires.other c.clear_entry.ensures.clears).2)) c.requires.few

pub returns-clause-ok : goal.returns-clause-ok
returns-clause-ok c = record { cleared = view_of c.clear_entry.new.slots; clears = c.clear_entry.ensures.clears; gains = gained _ _ _ _ _ _ c.in_ok-link.ensures.ok c.raise_link.ensures }

pub returns-in_err-link-clause-err : goal.returns-in_err-link-clause-err
returns-in_err-link-clause-err c =
    let was = clears_none (view_of c.args.slots.now) (view_of c.clear_entry.new.slots) c.args.places.now.entries c.clear_entry.new.places.entries c.args.dir c.args.name.now c.requires.apart c.clear_entry.ensures.clears c.in_err-link.ensures.sure in
    on_err_by c.from_residual.result (same_trans _ _ _ was.0 c.in_err-link.ensures.err, was.1)

pub returns-in_err-link-clause-sure : goal.returns-in_err-link-clause-sure
returns-in_err-link-clause-sure c = on_err_by c.from_residual.result (sym ((clears_none (view_of c.args.slots.now) (view_of c.clear_entry.new.slots) c.args.places.now.entries c.clear_entry.new.places.entries c.args.dir c.args.name.now c.requires.apart c.clear_entry.ensures.clears c.in_err-link.ensures.sure).0.entries c.args.dir c.args.name.now) ∙ c.in_err-link.ensures.sure)
