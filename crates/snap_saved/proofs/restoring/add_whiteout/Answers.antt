use Rattle.std.proofs.Common.{◌≡◌, sym, ap, subst, ◌∙◌}
use Rattle.snap_layer.specs.declared.node.Node.TheVariants.{Whiteout}
use Rattle.snap_layer.specs.Counts.{is_within}
use Rattle.snap_layer.specs.Edits.{IsFree, with_entry, with_node}
use Rattle.snap_layer.proofs.Replacing.{with_node-free}
use Rattle.snap_saved.specs.Saved.{saved}
use Rattle.snap_saved.proofs.Adding.{place_from, whiteout_added}
use Rattle.std.specs.Prelude.{Ok, Err}
use Rattle.snap_layer.specs.Tree.{Tree}
use Rattle.snap_saved.specs.declared.error.RestoreError.{RestoreError}
use Rattle.snap_saved.specs.Refusing.{Refutes, LacksNodeWithRoom}
use Rattle.snap_saved.specs.Restored.{put_whiteout}
use Rattle.snap_saved.proofs.Refuting.{refuse, fits_vacant, full_whiteout}
use Rattle.snap_saved.proofs.InTurn.{refused_edit}
use Rattle.snap_saved.proofs.Placing.{room_made, whiteout_full, whiteout_put}
use Rattle.snap_saved.proofs.restoring.add_whiteout.Goals as goal

pub add_whiteout-requires : goal.add_whiteout-requires
add_whiteout-requires c = place_from c.args.layer.now c.requires.layer c.args.path.now c.in_default.ensures.free

pub returns-in-Ok-clause-ok : goal.returns-in-Ok-clause-ok
returns-in-Ok-clause-ok c =
    let t = c.args.layer.now in
    let p = c.args.path.now in
    ap saved (c.in-Ok.ensures.ok ∙ with_node-free t c.requires.layer p Whiteout (subst IsFree (sym c.in_default.ensures.free.none) tt))
    ∙ whiteout_added t c.requires.layer p c.in_default.ensures.free c.requires.rises

pub returns-in-Some-clause-malformed : goal.returns-in-Some-clause-malformed
returns-in-Some-clause-malformed c = λ t ok more. c.in-Some.ensures.free (fits_vacant c.args.layer.now t c.requires.layer ok c.args.path.now Whiteout more.fits)

pub returns-in-Err-clause-malformed : goal.returns-in-Err-clause-malformed
returns-in-Err-clause-malformed c =
    let u = c.args.layer.now in
    let p = c.args.path.now in
    let P = λ (t : Tree). LacksNodeWithRoom u t p Whiteout in
    subst (λ (e : RestoreError). Refutes e P) (sym c.refused.ensures)
    (refuse c.in-Err.error c.args.part P (λ full t ok more. full_whiteout u t c.requires.layer ok p more (c.in-Err.ensures.full.0 (ap Err full))))

pub returns-in-Ok-clause-made : goal.returns-in-Ok-clause-made
returns-in-Ok-clause-made c =
    let t = c.args.layer.now in
    let p = c.args.path.now in
    let edit : with_node t p Whiteout ≡ with_entry t p Whiteout = with_node-free t c.requires.layer p Whiteout (subst IsFree (sym c.in_default.ensures.free.none) tt) in
    whiteout_put c.args.part t p (sym c.in_default.ensures.first) (ap is_within (sym edit) ∙ room_made c.in-Ok.field-0 (is_within (with_node t p Whiteout)) c.in-Ok.ensures.full)
    ∙ ap (λ (u : Tree). Ok u) (sym (c.in-Ok.ensures.ok ∙ edit))

pub returns-in-Err-clause-refused : goal.returns-in-Err-clause-refused
returns-in-Err-clause-refused c =
    let t = c.args.layer.now in
    let p = c.args.path.now in
    let edit : with_node t p Whiteout ≡ with_entry t p Whiteout = with_node-free t c.requires.layer p Whiteout (subst IsFree (sym c.in_default.ensures.free.none) tt) in
    refused_edit c.in-Err.error c.args.part c.refused.result (put_whiteout c.args.part t p) c.refused.ensures
    (λ full. whiteout_full c.args.part t p (sym c.in_default.ensures.first) (ap is_within (sym edit) ∙ c.in-Err.ensures.full.0 (ap Err full)))
