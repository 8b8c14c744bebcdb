use Rattle.std.proofs.Common.{◌≡◌, drop}
use Rattle.snap_record.specs.Labels.{HasDistinctKeys}
use Rattle.snap_record.specs.Updates.{named_keys, with_named}
use Rattle.snap_record.proofs.update.with_named.Given as goal

abbrev pub invariant-loop-path : goal.invariant-loop-path
invariant-loop-path l = record {
  distinct : HasDistinctKeys l.next;
  same : with_named l.next l.given (named_keys (drop l.path-index l.paths)) ≡ with_named l.labels l.given (named_keys l.paths);
}
