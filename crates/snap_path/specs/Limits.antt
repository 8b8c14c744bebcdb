-- The limits of paths, files and numbers, each with its source.
use Rattle.std.specs.Prelude.{ℕ}

-- the most bytes of a path's text: PATH_MAX of limits.h without its closing NUL
abbrev pub most_path_bytes : ℕ
most_path_bytes = 4095

-- the most bytes of a symlink's target: the same (symlink(2))
abbrev pub most_target_bytes : ℕ
most_target_bytes = 4095

-- the greatest mode: permission bits, set-ID bits and the sticky bit (chmod(2))
abbrev pub most_mode : ℕ
most_mode = 4095

-- the most bytes of a regular file whose bytes are kept: a limit of this project
abbrev pub most_file_bytes : ℕ
most_file_bytes = 1048576

-- the most bytes of a regular file whose size alone is kept, 2^40: a limit of this project
abbrev pub most_sized_bytes : ℕ
most_sized_bytes = 1099511627776

-- the bytes of a block, in which files are counted: a choice of this project
abbrev pub block_bytes : ℕ
block_bytes = 4096

-- the greatest number of a file of a layer, and of a snapshot: the last of u32
abbrev pub most_number : ℕ
most_number = 4294967295
