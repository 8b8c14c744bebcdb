use Rattle.std.proofs.Common.{◌≡◌, true, false, sym, subst}
use Rattle.snap_layer.specs.Layers.{IsMeta}
use Rattle.snap_saved.proofs.Refuting.{root_good}
use Rattle.snap_saved.proofs.restoring.root_alone.Goals as goal

no_bool : true ≡ false → ⊥
no_bool e = cc

pub returns-then-not-is_meta-clause-malformed : goal.returns-then-not-is_meta-clause-malformed
returns-then-not-is_meta-clause-malformed c = λ t ok such. no_bool (sym (c.if-not-is_meta.ensures.fits.1 (subst IsMeta such.0 (root_good t ok))))
