-- The content of a file at a path (read(2), stat(2)).
use Rattle.std.specs.Prelude.{List, Option, Some, None, Result, Ok, Err}
use Rattle.snap_path.specs.Text.{Names}
use Rattle.snap_layer.specs.declared.content.Content.{Content}
use Rattle.snap_layer.specs.Tree.{Tree}
use Rattle.snap_merge.specs.declared.error.FsError.{FsError}
use Rattle.snap_merge.specs.declared.error.FsError.TheVariants.{NotFound, IsDir, Invalid}
use Rattle.snap_merge.specs.Objects.{Object, dir, file, symlink, seen}
use Rattle.snap_merge.specs.Walk.{walk_error, unless}

-- the content of what is seen, or why it has none
abbrev pub content_of : Option Object → Result Content FsError
content_of None = Err NotFound
content_of (Some (dir meta)) = Err IsDir
content_of (Some (file meta content)) = Ok content
content_of (Some (symlink target)) = Err Invalid

-- the walk's error, or the content at the path, or why there is none
abbrev pub reading : List Tree → Names → Result Content FsError
reading s p = unless (walk_error s p) (content_of (seen s p))
