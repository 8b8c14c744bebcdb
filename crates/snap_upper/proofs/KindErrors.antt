-- The errors of what is seen, by what an operation asks for.
use Rattle.std.specs.Prelude.{Option, Some, None}
use Rattle.snap_merge.specs.declared.error.FsError.{FsError}
use Rattle.snap_merge.specs.declared.error.FsError.TheVariants.{NotDir, IsDir, Invalid, NotPermitted}
use Rattle.snap_merge.specs.Objects.{Object}
use Rattle.snap_upper.specs.After.{error_by_kind}

-- the error where no regular file is seen
abbrev pub file_error : Option Object → Option FsError
file_error o = error_by_kind (Some IsDir) None (Some Invalid) o

-- the error where no directory and no regular file is seen
abbrev pub mode_error : Option Object → Option FsError
mode_error o = error_by_kind None None (Some Invalid) o

-- the error where nothing or a directory is seen
abbrev pub name_error : Option Object → Option FsError
name_error o = error_by_kind (Some IsDir) None None o

-- the error where no directory is seen
abbrev pub dir_error : Option Object → Option FsError
dir_error o = error_by_kind None (Some NotDir) (Some NotDir) o

-- the error where no file and no symlink is seen
abbrev pub link_error : Option Object → Option FsError
link_error o = error_by_kind (Some NotPermitted) None None o
