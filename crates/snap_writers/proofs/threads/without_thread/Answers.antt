use Rattle.std.proofs.Common.{inl, length, ap, ◌∙◌}
use Rattle.std.proofs.lemmas.List.{length-map}
use Rattle.snap_writers.specs.Jobs.{jobs_of}
use Rattle.snap_writers.proofs.threads.without_thread.Goals as goal

pub returns : goal.returns
returns c inodes = record { ends = ap length c.requires ∙ length-map (jobs_of c.args.jobs.now c.args.worker c.args.workers) _; stopped = λ told. absurd (cc); session = inl c.requires }
