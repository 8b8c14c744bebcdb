use Rattle.std.proofs.Common.{◌≡◌, drop, take}
use Rattle.snap_layer.specs.Layers.{IsLayer}
use Rattle.snap_saved.specs.Saved.{saved}
use Rattle.snap_saved.specs.declared.error.Part.TheVariants.{Whiteout}
use Rattle.snap_saved.specs.Restored.{put_each, put_whiteout}
use Rattle.snap_saved.proofs.restoring.add_whiteouts.Given as goal

-- the first whiteouts are there, and with the others all are
abbrev pub invariant-loop-place : goal.invariant-loop-place
invariant-loop-place l = record {
  layer : IsLayer l.layer;
  is : saved l.layer ≡ record (saved l.fn.layer) { whiteouts = take l.place l.whiteouts };
  left : put_each (λ place. put_whiteout (Whiteout place)) l.place l.layer (drop l.place l.whiteouts) ≡ put_each (λ place. put_whiteout (Whiteout place)) 0 l.fn.layer l.whiteouts;
}
