use Rattle.std.proofs.Common.{◌≡◌, drop, take}
use Rattle.snap_layer.specs.Layers.{IsLayer}
use Rattle.snap_saved.specs.Saved.{saved}
use Rattle.snap_saved.specs.declared.error.Part.TheVariants.{Dir}
use Rattle.snap_saved.specs.Restored.{put_dir, put_each}
use Rattle.snap_saved.proofs.restoring.add_dirs.Given as goal

-- the first directories are there, and with the others all are
abbrev pub invariant-loop-place : goal.invariant-loop-place
invariant-loop-place l = record {
  layer : IsLayer l.layer;
  is : saved l.layer ≡ record (saved l.fn.layer) { dirs = take l.place l.dirs };
  left : put_each (λ place. put_dir (Dir place)) l.place l.layer (drop l.place l.dirs) ≡ put_each (λ place. put_dir (Dir place)) 0 l.fn.layer l.dirs;
}
