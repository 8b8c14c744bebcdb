use Rattle.std.proofs.Common.{◌≡◌, [], drop}
use Rattle.snap_json.specs.View.{members_of}
use Rattle.snap_script.specs.Fields.{with_named_in}
use Rattle.snap_script.proofs.fields.named_in.Given as goal

abbrev pub invariant-loop-path : goal.invariant-loop-path
invariant-loop-path l =
    with_named_in (members_of l.members.entries) [] l.paths ≡ with_named_in (members_of l.members.entries) l.labels (drop l.path-index l.paths)
