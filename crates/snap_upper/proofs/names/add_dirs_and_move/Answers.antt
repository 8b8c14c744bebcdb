use Rattle.std.proofs.Common.{inr, sym, ap, subst, ◌∙◌, List}
use Rattle.snap_path.specs.Text.{Names}
use Rattle.snap_layer.specs.Tree.{Tree}
use Rattle.snap_layer.specs.Layers.{IsLayer}
use Rattle.snap_layer.specs.Edits.{IsMovable}
use Rattle.snap_copyup.specs.Copying.{with_parents}
use Rattle.snap_copyup.specs.Places.{IsRefusal}
use Rattle.snap_copyup.specs.Undoing.{Undoes}
use Rattle.snap_upper.specs.After.{shifted}
use Rattle.snap_upper.proofs.Shifted.{refused_first}
use Rattle.snap_upper.proofs.names.add_dirs_and_move.Goals as goal

pub returns-in_err-dirs-clause-error : goal.returns-in_err-dirs-clause-error
returns-in_err-dirs-clause-error c =
    let t = with_parents c.args.layer.now c.args.lowers.now c.args.to.now in
    refused_first c.from_residual.result c.in_err-dirs.field-0.0 t (shifted t c.args.from.now c.args.to.now c.args.leaves c.args.covers) c.from_residual.ensures.1 c.in_err-dirs.ensures.error

pub relocate-requires-clause-movable : goal.relocate-requires-clause-movable
relocate-requires-clause-movable c =
    let same = c.in_ok-dirs.ensures.ok in
    subst (λ (t : Tree). IsMovable t c.args.from.now c.args.to.now) (sym same) (c.requires.movable c.in_ok-dirs.ensures.path (subst IsLayer same c.in_ok-dirs.ensures.layer))

pub take_all-requires : goal.take_all-requires
take_all-requires c =
    let undo = subst (λ (ps : List Names). Undoes ps c.add_dirs.new.layer c.args.layer.now) (sym c.deref.ensures.value) c.in_ok-dirs.ensures.undo in
    (c.args.layer.now, subst (λ (t : Tree). Undoes c.deref.result.now t c.args.layer.now) (sym c.in-Err.ensures.unchanged) undo)

pub returns-in-Err-clause-error : goal.returns-in-Err-clause-error
returns-in-Err-clause-error c = inr (subst (λ (t : Tree). IsRefusal (shifted t c.args.from.now c.args.to.now c.args.leaves c.args.covers) c.in-Err.error) c.in_ok-dirs.ensures.ok c.in-Err.ensures.error)

pub returns-in-Err-clause-unchanged : goal.returns-in-Err-clause-unchanged
returns-in-Err-clause-unchanged c =
    let undo = subst (λ (ps : List Names). Undoes ps c.add_dirs.new.layer c.args.layer.now) (sym c.deref.ensures.value) c.in_ok-dirs.ensures.undo in
    c.take_all.ensures c.args.layer.now (subst (λ (t : Tree). Undoes c.deref.result.now t c.args.layer.now) (sym c.in-Err.ensures.unchanged) undo)

pub returns-clause-ok : goal.returns-clause-ok
returns-clause-ok c = c.in_default.ensures.ok ∙ ap (λ (t : Tree). shifted t c.args.from.now c.args.to.now c.args.leaves c.args.covers) c.in_ok-dirs.ensures.ok
