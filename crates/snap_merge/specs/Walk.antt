-- The walk to a path: each directory above it has to be seen (path_resolution(7)). No symlink is followed.
use Rattle.std.specs.Prelude.{◌≡◌, ◌⊎◌, List, [], ◌∷◌, ◌++◌, Option, Some, None, Result, Ok, Err}
use Rattle.snap_path.specs.Memory.{no_memory}
use Rattle.snap_path.specs.Text.{Names}
use Rattle.snap_layer.specs.Tree.{Tree}
use Rattle.snap_merge.specs.declared.error.FsError.{FsError}
use Rattle.snap_merge.specs.declared.error.FsError.TheVariants.{NotFound, NotDir, OutOfMemory}
use Rattle.snap_merge.specs.Objects.{Object, dir, seen}

-- the error where no directory is seen, or that of the walk from there on
abbrev pub walk_on : Option Object → Option FsError → Option FsError
walk_on None later = Some NotFound
walk_on (Some (dir meta)) later = later
walk_on (Some other) later = Some NotDir

-- the first error at the front and the longer proper prefixes of front ++ rest
abbrev pub walk_from : List Tree → Names → Names → Option FsError
walk_from s front [] = None
walk_from s front (n ∷ rest) = walk_on (seen s front) (walk_from s (front ++ n ∷ []) rest)

-- the first error at the proper prefixes of the path, from the root on
abbrev pub walk_error : List Tree → Names → Option FsError
walk_error s p = walk_from s [] p

-- the first error, or else what follows
abbrev pub unless : {A : Type 0} → Option FsError → Result A FsError → Result A FsError
unless None later = later
unless (Some e) later = Err e

-- the call answers what is to be answered, or that memory was refused
abbrev pub Answers : {A : Type 0} → Result A FsError → Result A FsError → Type 0
Answers due (Ok a) = due ≡ Ok a
Answers due (Err e) = (e ≡ OutOfMemory no_memory) ⊎ (due ≡ Err e)
