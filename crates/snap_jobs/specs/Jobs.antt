-- What the line of a job is; cited by the public clause of `JobLines::take_line` through Lines.antt. The fields are
-- tested in the order in which they stand.
use Rattle.std.specs.Prelude.{ℕ, if◌then◌else◌, List, Some, Result, Ok, Err, codes}
use Rattle.std.specs.Str.{bytes_eq}
use Rattle.serde_json.specs.Data.{Data}
use Rattle.serde_json.specs.Find.{as_str}
use Rattle.snap_call.specs.Results.{◌>>=◌}
use Rattle.snap_script.specs.declared.fault.Field.TheVariants as fields
use Rattle.snap_script.specs.declared.fault.Found.TheVariants.{Text}
use Rattle.snap_script.specs.declared.fault.Fault.{Fault}
use Rattle.snap_script.specs.declared.fault.Fault.TheVariants.{BadField}
use Rattle.snap_script.specs.declared.unknown.FieldRule.{FieldRule}
use Rattle.snap_script.specs.Fields.{text, optional, given, as_labels, as_usage}
use Rattle.snap_script.specs.Known.{known_job}
use Rattle.snap_script.specs.Commands.{named}
use Rattle.snap_script.specs.Operations.{operations}
use Rattle.snap_writers.specs.declared.job.End.{End}
use Rattle.snap_writers.specs.declared.job.End.TheVariants as ends
use Rattle.snap_writers.specs.declared.job.Job.{Job}

-- a job's end that is a commit
abbrev pub commit_end_of : Data → Result End Fault
commit_end_of line = do Ok (ends.Commit (← text fields.Name line) (← given as_str fields.Lease line) (← given as_labels fields.Labels line))

-- a job's end by its word
abbrev pub end_by : List ℕ → Data → Result End Fault
end_by word line =
    if bytes_eq word (codes "commit") then commit_end_of line
    else (if bytes_eq word (codes "discard") then Ok ends.Discard else Err (BadField fields.End (Some Text)))

-- a job's end
unfoldable pub end_of : Data → Result End Fault
end_of line = do end_by (← text fields.End line) line

-- a job, by the fields that its line and its operations may have: the snapshot by its namespace and key, its parent, its operations, its end, and what each charge wants beyond its need, nothing where there is none
unfoldable pub job_of : FieldRule → Data → Result Job Fault
job_of rule line = do
  known ← known_job rule line
  s ← named line
  parent ← text fields.Parent line
  ops ← operations rule line
  end ← end_of line
  extra ← optional as_usage fields.Extra (Ok (record { blocks = 0; inodes = 0 })) line
  Ok (record { namespace = s.0; key = s.1; parent = parent; ops = ops; end = end; extra = extra })
