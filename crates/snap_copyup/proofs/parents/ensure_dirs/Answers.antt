use Rattle.std.proofs.Common.{◌≡◌, ◌∷◌, ap, ◌∙◌}
use Rattle.snap_layer.specs.Tree.{Tree}
use Rattle.snap_merge.specs.Objects.{seen}
use Rattle.snap_copyup.specs.Copying.{with_parents}
use Rattle.snap_copyup.proofs.Alone.{OnOk-weaker}
use Rattle.snap_copyup.proofs.ParentDirs.{adds_parents}
use Rattle.snap_copyup.proofs.parents.ensure_dirs.Goals as goal

pub returns-clause-view : goal.returns-clause-view
returns-clause-view c =
    OnOk-weaker c.put.result
    (λ (e : c.put.new.layer ≡ with_parents c.args.layer.now c.args.lowers.now c.args.path.now) q.
    ap (λ (v : Tree). seen (v ∷ c.args.lowers.now) q) e
    ∙ (adds_parents c.args.layer.now c.args.lowers.now c.args.path.now c.requires).view q)
    c.put.ensures.ok
