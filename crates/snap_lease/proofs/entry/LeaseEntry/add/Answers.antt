use Rattle.std.proofs.Common.{◌∙◌, ◌≡◌, ◌<◌, ◌^◌, ◌&&◌, ◌+◌, false, ap, bytes_eq, subst, sym}
use Rattle.snap_counts.specs.Counts.{count_within}
use Rattle.snap_lease.specs.Lease.{Lease, does_name}
use Rattle.snap_lease.proofs.IndexLemmas.{one_if, recounted-new}
use Rattle.snap_lease.proofs.entry.LeaseEntry.add.Goals as goal

pub returns-clause-counted : goal.returns-clause-counted
returns-clause-counted c =
    let absent : does_name c.args.name.now c.args.self.now ≡ false = sym c.does_name.ensures ∙ c.if-does_name.false in
    let namespace : c.as_str.result.now ≡ c.args.self.now.namespace = c.as_str.ensures.value ∙ ap (λ (l : Lease). l.namespace) c.self.view_is in
    recounted-new c.args.name.now c.args.self.now _ c.args.counts.now _ absent c.in_default.ensures.ok
    (λ space q. c.in_ok-add.ensures.ok space q ∙ ap (λ n. count_within space q c.args.counts.now + one_if (bytes_eq space n && bytes_eq q c.args.name.now)) namespace)

pub add-requires : goal.add-requires
add-requires c =
    let namespace : c.as_str.result.now ≡ c.args.self.now.namespace = c.as_str.ensures.value ∙ ap (λ (l : Lease). l.namespace) c.self.view_is in
    subst (λ n. count_within n c.args.name.now c.args.counts.now + 1 < 2 ^ 64) (sym namespace) c.requires
