-- What the words of a command line ask for, by clap's account of them.
use Rattle.std.specs.Prelude.{◌≡◌, ◌⊎◌, ◌<◌, ℕ, ◌^◌, Bool, true, false, ◌&&◌, nat_le, if◌then◌else◌, List, Option, None, Some, codes, option_map, unwrap_or}
use Rattle.std.specs.Option.{option_map_or}
use Rattle.std.specs.Str.{bytes_eq}
use Rattle.std.specs.Str.Parse.{IsNumeral, digits_value, without_leading_plus}
use Rattle.clap.specs.Words.{Row, Text, first_of, one_of}
use Rattle.snap_script.specs.declared.unknown.FieldRule.{FieldRule}
use Rattle.snap_script.specs.declared.unknown.FieldRule.TheVariants.{Any, Known}
use Rattle.snap_session.specs.declared.run.RunOptions.{RunOptions}
use Rattle.snap_jobs.specs.declared.run.JobOptions.{JobOptions}
use Rattle.snap_replay.specs.declared.Task.{Task}
use Rattle.snap_replay.specs.declared.Task.TheVariants.{Run, Serve, Writers, Save, Check, Checkpoint, Diff}

-- the option of this name is given: what was found of it reads "true"
abbrev pub is_given : List ℕ → List Row → Bool
is_given name rows = option_map_or (λ text. bytes_eq text (codes "true")) (one_of name rows) false

-- `--strict` lets no unknown field stand
abbrev pub field_rule_of : List Row → FieldRule
field_rule_of rows = if is_given (codes "strict") rows then Known else Any

-- `--stop` ends a run at its first refusal
abbrev pub run_options_of : List Row → RunOptions
run_options_of rows = record { fields = field_rule_of rows; stops_at_refusal = is_given (codes "stop") rows }

-- `--ends` tells how each job ended
abbrev pub job_options_of : ℕ → List Row → JobOptions
job_options_of workers rows = record { workers = workers; ends = is_given (codes "ends") rows; fields = field_rule_of rows }

-- the text is this number in decimal digits, and it is of 32 bits; or it is none
abbrev pub IsNumberOf : Option Text → Option ℕ → Type 0
IsNumberOf None number = number ≡ None
IsNumberOf (Some text) (Some n) = IsNumeral 10 (without_leading_plus text) × (n ≡ digits_value 10 (without_leading_plus text)) × (n < 2 ^ 32)
IsNumberOf (Some text) None = IsNumeral 10 (without_leading_plus text) → digits_value 10 (without_leading_plus text) < 2 ^ 32 → ⊥

-- jobs by `workers` workers, where there are 1 to 16
abbrev pub writers_of : Option ℕ → List Row → Option Task
writers_of None rows = None
writers_of (Some workers) rows = if nat_le 1 workers && nat_le workers 16 then Some (Writers (job_options_of workers rows)) else None

-- a log is made short where it has grown to as many times as `--checkpoint` says, or 4
abbrev pub IsTimesOf : List Row → ℕ → Type 0
IsTimesOf rows times = (number : Option ℕ) × IsNumberOf (one_of (codes "checkpoint") rows) number × (times ≡ unwrap_or number 4)

-- a server over the log that `--log` names, or over none; `--rebase` has the log's marks compared anew
abbrev pub IsServer : List Row → Option Task → Type 0
IsServer rows None = ⊥
IsServer rows (Some (Run options)) = ⊥
IsServer rows (Some (Serve name rebases times)) = (option_map (λ n. n.now) name ≡ first_of (codes "log") rows) × (rebases ≡ is_given (codes "rebase") rows) × IsTimesOf rows times
IsServer rows (Some (Writers options)) = ⊥
IsServer rows (Some (Save file wanted)) = ⊥
IsServer rows (Some (Check file json)) = ⊥
IsServer rows (Some (Checkpoint file)) = ⊥
IsServer rows (Some (Diff a b json)) = ⊥

-- the saved store of the file that is named, with the root and of the namespace that are, if they are, and nothing where no file is named
abbrev pub IsSaveOf : List Row → Option Task → Type 0
IsSaveOf rows None = first_of (codes "file") rows ≡ None
IsSaveOf rows (Some (Run options)) = ⊥
IsSaveOf rows (Some (Serve name rebases times)) = ⊥
IsSaveOf rows (Some (Writers options)) = ⊥
IsSaveOf rows (Some (Save file wanted)) = (first_of (codes "file") rows ≡ Some file.now) × (option_map (λ n. n.now) wanted.root ≡ first_of (codes "root") rows) × (option_map (λ n. n.now) wanted.namespace ≡ first_of (codes "ns") rows)
IsSaveOf rows (Some (Check file json)) = ⊥
IsSaveOf rows (Some (Checkpoint file)) = ⊥
IsSaveOf rows (Some (Diff a b json)) = ⊥

-- a check of the file that is named, by `--json` told as JSON, and nothing where none is named
abbrev pub IsCheckOf : List Row → Option Task → Type 0
IsCheckOf rows None = first_of (codes "file") rows ≡ None
IsCheckOf rows (Some (Run options)) = ⊥
IsCheckOf rows (Some (Serve name rebases times)) = ⊥
IsCheckOf rows (Some (Writers options)) = ⊥
IsCheckOf rows (Some (Save file wanted)) = ⊥
IsCheckOf rows (Some (Checkpoint file)) = ⊥
IsCheckOf rows (Some (Diff a b json)) = ⊥
IsCheckOf rows (Some (Check file json)) = (first_of (codes "file") rows ≡ Some file.now) × (json ≡ is_given (codes "json") rows)

-- a checkpoint of the log that is named, and nothing where none is named
abbrev pub IsCheckpointOf : List Row → Option Task → Type 0
IsCheckpointOf rows None = first_of (codes "file") rows ≡ None
IsCheckpointOf rows (Some (Run options)) = ⊥
IsCheckpointOf rows (Some (Serve name rebases times)) = ⊥
IsCheckpointOf rows (Some (Writers options)) = ⊥
IsCheckpointOf rows (Some (Save file wanted)) = ⊥
IsCheckpointOf rows (Some (Check file json)) = ⊥
IsCheckpointOf rows (Some (Diff a b json)) = ⊥
IsCheckpointOf rows (Some (Checkpoint file)) = first_of (codes "file") rows ≡ Some file.now

-- a comparison of the two files that are named, by `--json` told as JSON, and nothing where one isn't named
abbrev pub IsDiffOf : List Row → Option Task → Type 0
IsDiffOf rows None = (first_of (codes "a") rows ≡ None) ⊎ (first_of (codes "b") rows ≡ None)
IsDiffOf rows (Some (Run options)) = ⊥
IsDiffOf rows (Some (Serve name rebases times)) = ⊥
IsDiffOf rows (Some (Writers options)) = ⊥
IsDiffOf rows (Some (Save file wanted)) = ⊥
IsDiffOf rows (Some (Check file json)) = ⊥
IsDiffOf rows (Some (Checkpoint file)) = ⊥
IsDiffOf rows (Some (Diff a b json)) = (first_of (codes "a") rows ≡ Some a.now) × (first_of (codes "b") rows ≡ Some b.now) × (json ≡ is_given (codes "json") rows)

-- by whether the command is `run`, `serve`, `writers`, `save`, `check`, `checkpoint` or `diff`, and what was found of its options: a run, a server, jobs by some workers, a saved store, a check, a checkpoint, a comparison, or nothing
abbrev pub IsAskedAs : Bool → Bool → Bool → Bool → Bool → Bool → Bool → List Row → Option Task → Type 0
IsAskedAs true is_serve is_writers is_save is_check is_checkpoint is_diff rows task = task ≡ Some (Run (run_options_of rows))
IsAskedAs false true is_writers is_save is_check is_checkpoint is_diff rows task = IsServer rows task
IsAskedAs false false true is_save is_check is_checkpoint is_diff rows task = (number : Option ℕ) × IsNumberOf (one_of (codes "workers") rows) number × (task ≡ writers_of number rows)
IsAskedAs false false false true is_check is_checkpoint is_diff rows task = IsSaveOf rows task
IsAskedAs false false false false true is_checkpoint is_diff rows task = IsCheckOf rows task
IsAskedAs false false false false false true is_diff rows task = IsCheckpointOf rows task
IsAskedAs false false false false false false true rows task = IsDiffOf rows task
IsAskedAs false false false false false false false rows task = task ≡ None

-- what the command of this name asks for
abbrev pub IsAskedBy : List ℕ → List Row → Option Task → Type 0
IsAskedBy name rows task = IsAskedAs (bytes_eq name (codes "run")) (bytes_eq name (codes "serve")) (bytes_eq name (codes "writers")) (bytes_eq name (codes "save")) (bytes_eq name (codes "check")) (bytes_eq name (codes "checkpoint")) (bytes_eq name (codes "diff")) rows task

-- the same of the command that was found, if one was
abbrev pub IsAsked : Option (Text × List Row) → Option Task → Type 0
IsAsked None task = task ≡ None
IsAsked (Some found) task = IsAskedBy found.0 found.1 task
