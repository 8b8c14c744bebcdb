use Rattle.std.proofs.Common.{◌∙◌, ◌≡◌, ◌-◌, ◌&&◌, true, false, ap, bytes_eq, subst, sym}
use Rattle.snap_counts.specs.Counts.{count_within}
use Rattle.snap_lease.specs.Index.{IsRecounted}
use Rattle.snap_lease.specs.Lease.{Lease, does_name}
use Rattle.snap_lease.proofs.DropLemmas.{recounted-same, recounted-without, without_name-absent}
use Rattle.snap_lease.proofs.IndexLemmas.{one_if}
use Rattle.snap_lease.proofs.entry.LeaseEntry.drop_name.Goals as goal
use Rattle.snap_lease.proofs.entry.LeaseEntry.drop_name.Goals.{then-is_there, else-is_there}

pub returns-clause-counted : goal.returns-clause-counted
returns-clause-counted c = elim c.if-is_there.branch [
  | then-is_there w ↦
      let there : does_name c.args.name.now c.args.self.now ≡ true = sym c.take-is_there.ensures.there ∙ w.if-is_there.true in
      let namespace : w.as_str.result.now ≡ c.args.self.now.namespace =
      w.as_str.ensures.value ∙ ap (λ (l : Lease). l.namespace) c.self.view_is ∙ ap (λ (l : Lease). l.namespace) c.take-is_there.ensures.left in
      subst (IsRecounted c.args.self.now c.take-is_there.new.self c.args.counts.now) (sym w.counts-is)
      (recounted-without c.args.name.now c.args.self.now c.take-is_there.new.self c.args.counts.now w.take.new.self c.take-is_there.ensures.left there (c.requires.counted there)
      (λ space q. w.take.ensures space q ∙ ap (λ n. count_within space q c.args.counts.now - one_if (bytes_eq space n && bytes_eq q c.args.name.now)) namespace))
  | else-is_there w ↦
      let absent : does_name c.args.name.now c.args.self.now ≡ false = sym c.take-is_there.ensures.there ∙ w.if-is_there.false in
      subst (IsRecounted c.args.self.now c.take-is_there.new.self c.args.counts.now) (sym w.counts-is)
      (recounted-same c.args.self.now c.take-is_there.new.self c.args.counts.now (c.take-is_there.ensures.left ∙ without_name-absent c.args.name.now c.args.self.now absent))
]
