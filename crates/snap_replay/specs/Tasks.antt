-- What the program is asked for.
use Rattle.std.specs.Prelude.{◌≤◌}
use Rattle.snap_replay.specs.declared.Task.{Task}
use Rattle.snap_replay.specs.declared.Task.TheVariants.{Run, Serve, Writers, Save, Check, Checkpoint, Diff}

-- a run, a server, jobs by 1 to 16 workers, a saved store, a check, a checkpoint, or a comparison
abbrev pub IsTask : Task → Type 0
IsTask (Run options) = Unit {0}
IsTask (Serve log rebases times) = Unit {0}
IsTask (Writers options) = (1 ≤ options.workers) × (options.workers ≤ 16)
IsTask (Save file wanted) = Unit {0}
IsTask (Check file json) = Unit {0}
IsTask (Checkpoint file) = Unit {0}
IsTask (Diff a b json) = Unit {0}
