-- The errors of paths and layers as those of a file call.
use Rattle.std.specs.Prelude.{◌≡◌}
use Rattle.snap_path.specs.Memory.{no_memory}
use Rattle.snap_path.specs.declared.name.PathError.{PathError}
use Rattle.snap_path.specs.declared.name.PathError.TheVariants as path_errors
use Rattle.snap_layer.specs.declared.error.LayerError.{LayerError}
use Rattle.snap_layer.specs.declared.error.LayerError.TheVariants as layer_errors
use Rattle.snap_merge.specs.declared.error.FsError.{FsError}
use Rattle.snap_merge.specs.declared.error.FsError.TheVariants.{BadPath, LayerFull, OutOfMemory}

-- the file call's error has the name of the layer's
abbrev pub OfLayer : LayerError → FsError → Type 0
OfLayer layer_errors.LayerFull e = e ≡ LayerFull
OfLayer (layer_errors.OutOfMemory want) e = e ≡ OutOfMemory no_memory

-- the file call's error has the name of the path's
abbrev pub OfPath : PathError → FsError → Type 0
OfPath path_errors.BadPath e = e ≡ BadPath
OfPath (path_errors.OutOfMemory want) e = e ≡ OutOfMemory no_memory
