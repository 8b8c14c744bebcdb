use Rattle.std.proofs.Common.{◌≡◌, refl, ap, ◌∙◌, true, false, arith, sym, subst}
use Rattle.snap_saved.specs.Saved.{saved}
use Rattle.snap_saved.proofs.Adding.{dir_added}
use Rattle.std.specs.Prelude.{Err}
use Rattle.snap_layer.specs.declared.node.Node.TheVariants.{Dir}
use Rattle.snap_layer.specs.Tree.{Tree}
use Rattle.snap_saved.specs.declared.error.RestoreError.{RestoreError}
use Rattle.snap_saved.specs.Refusing.{Refutes, LacksNodeWithRoom}
use Rattle.snap_saved.proofs.Refuting.{refuse, fits_vacant, full_with_entry}
use Rattle.snap_saved.proofs.restoring.add_dir.Goals as goal

pub returns-in-Ok-clause-ok : goal.returns-in-Ok-clause-ok
returns-in-Ok-clause-ok c = ap saved c.in-Ok.ensures.ok ∙ dir_added c.args.layer.now c.requires.layer c.args.dir.now.path c.in_default.ensures.free c.args.dir.now refl c.requires.rises

no_bool : true ≡ false → ⊥
no_bool e = cc

pub returns-then-not-is_meta-clause-malformed : goal.returns-then-not-is_meta-clause-malformed
returns-then-not-is_meta-clause-malformed c = λ t ok more.
    no_bool (sym (c.if-not-is_meta.ensures.fits.1 (ok.nodes c.args.dir.now.path (Dir c.args.dir.now.meta c.args.dir.now.opaque) more.fits.node)))

pub returns-in-Some-clause-malformed : goal.returns-in-Some-clause-malformed
returns-in-Some-clause-malformed c = λ t ok more. c.in-Some.ensures.free (fits_vacant c.args.layer.now t c.requires.layer ok c.args.dir.now.path (Dir c.args.dir.now.meta c.args.dir.now.opaque) more.fits)

pub returns-in-Err-clause-malformed : goal.returns-in-Err-clause-malformed
returns-in-Err-clause-malformed c =
    let u = c.args.layer.now in
    let d = c.args.dir.now in
    let P = λ (t : Tree). LacksNodeWithRoom u t d.path (Dir d.meta d.opaque) in
    subst (λ (e : RestoreError). Refutes e P) (sym c.refused.ensures)
    (refuse c.in-Err.error c.args.part P (λ full t ok more. full_with_entry u t c.requires.layer ok d.path (Dir d.meta d.opaque) more (omega arith) (c.in-Err.ensures.full.0 (ap Err full))))
