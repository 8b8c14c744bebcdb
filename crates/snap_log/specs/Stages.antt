-- What an append's first step leaves of the disk.
use Rattle.std.specs.Prelude.{Bool, Result, Ok, Err, IsTrue, ⊤}
use Rattle.snap_log.specs.declared.stage.StageError.{StageError}
use Rattle.snap_log.specs.declared.stage.StageError.TheVariants.{Write, Sync}

-- the disk may be used, unless a sync has failed
abbrev pub IsUsableUnless : {A : Type 0} → Result A StageError → Bool → Type 0
IsUsableUnless (Err (Sync error)) usable = ⊤
IsUsableUnless (Err (Write error)) usable = IsTrue usable
IsUsableUnless (Ok done) usable = IsTrue usable

-- a write failed
abbrev pub IsWrite : StageError → Type 0
IsWrite (Write error) = ⊤
IsWrite (Sync error) = ⊥
