-- Want of memory.
use Rattle.std.specs.Prelude.{alloc_error}
use Rattle.snap_path.specs.declared.memory.NoMemory.{NoMemory}

-- the one value of its type
abbrev pub no_memory : NoMemory
no_memory = record { refused = alloc_error }
