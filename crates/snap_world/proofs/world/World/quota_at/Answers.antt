use Rattle.std.proofs.Common.{◌≡◌, ◌<◌, length, sym, ap, ◌∙◌, subst}
use Rattle.snap_usage.specs.declared.usage.Usage.{Usage}
use Rattle.snap_usage.specs.Counted.{Covers}
use Rattle.snap_ledger.specs.States.{minus}
use Rattle.snap_call.specs.declared.state.State.{State}
use Rattle.snap_call.specs.Records.{charge_of, sum_of}
use Rattle.snap_call.specs.State.{limit_at}
use Rattle.snap_world.specs.Quota.{active_usage, committed_usage, quota_at, spare_usage}
use Rattle.snap_world.specs.Sums.{share_in, hand_sum_below}
use Rattle.snap_world.specs.World.{WorldValue, world_of}
use Rattle.snap_world.proofs.Summing.{charge_covers, committed_left, quota_is, shares_are, shares_few, spares_are, spares_few}
use Rattle.snap_world.proofs.world.World.quota_at.Goals as goal

pub shares-active-requires-clause-blocks : goal.shares-active-requires-clause-blocks
shares-active-requires-clause-blocks g c =
    let inside = subst (λ (w : WorldValue). c.args.place < length w.state.namespaces) (sym c.self.view_is) c.requires in
    (shares_few (world_of c.self.inside.book c.self.inside.hands) c.self.invariant c.args.place inside).0

pub shares-active-requires-clause-inodes : goal.shares-active-requires-clause-inodes
shares-active-requires-clause-inodes g c =
    let inside = subst (λ (w : WorldValue). c.args.place < length w.state.namespaces) (sym c.self.view_is) c.requires in
    (shares_few (world_of c.self.inside.book c.self.inside.hands) c.self.invariant c.args.place inside).1

pub spares-spare-requires-clause-blocks : goal.spares-spare-requires-clause-blocks
spares-spare-requires-clause-blocks g c =
    let inside = subst (λ (w : WorldValue). c.args.place < length w.state.namespaces) (sym c.self.view_is) c.requires in
    (spares_few (world_of c.self.inside.book c.self.inside.hands) c.self.invariant c.args.place inside).0

pub spares-spare-requires-clause-inodes : goal.spares-spare-requires-clause-inodes
spares-spare-requires-clause-inodes g c =
    let inside = subst (λ (w : WorldValue). c.args.place < length w.state.namespaces) (sym c.self.view_is) c.requires in
    (spares_few (world_of c.self.inside.book c.self.inside.hands) c.self.invariant c.args.place inside).1

pub difference-committed-requires : goal.difference-committed-requires
difference-committed-requires g c =
    let place = c.args.place in
    let w = world_of c.self.inside.book c.self.inside.hands in
    subst (λ (u : Usage). Covers u c.shares-active.result) (sym c.total_at-charged.ensures.total)
    (subst (λ (u : Usage). Covers (charge_of place w.state.records) u) (sym c.shares-active.ensures) (charge_covers w c.self.invariant place))

pub difference-free-requires : goal.difference-free-requires
difference-free-requires g c =
    let place = c.args.place in
    let limit : c.limit_at-limit.result ≡ limit_at place c.self.inside.book.state.namespaces = c.limit_at-limit.ensures ∙ ap (λ (s : State). limit_at place s.namespaces) c.state.ensures in
    subst (λ (u : Usage). Covers u c.total_at-charged.result) (sym limit) c.total_at-charged.ensures.within

pub returns : goal.returns
returns g c =
    let place = c.args.place in
    let w = world_of c.self.inside.book c.self.inside.hands in
    let limit : c.limit_at-limit.result ≡ limit_at place w.state.namespaces = c.limit_at-limit.ensures ∙ ap (λ (s : State). limit_at place s.namespaces) c.state.ensures in
    let charged : c.total_at-charged.result ≡ charge_of place w.state.records = c.total_at-charged.ensures.total in
    let shares : c.shares-active.result ≡ hand_sum_below share_in place w.hands (length w.hands) = c.shares-active.ensures in
    let committed : c.difference-committed.result ≡ sum_of committed_usage place w.state.records =
    c.difference-committed.ensures
    ∙ ap (λ (u : Usage). minus u c.shares-active.result) charged
    ∙ ap (minus (charge_of place w.state.records)) shares
    ∙ committed_left w c.self.invariant place in
    let active : c.shares-active.result ≡ sum_of active_usage place w.state.records = shares ∙ shares_are w c.self.invariant place in
    let spare : c.spares-spare.result ≡ sum_of (spare_usage w.hands) place w.state.records = c.spares-spare.ensures ∙ spares_are w c.self.invariant place in
    let free : c.difference-free.result ≡ minus (limit_at place w.state.namespaces) (charge_of place w.state.records) =
    c.difference-free.ensures
    ∙ ap (λ (u : Usage). minus u c.total_at-charged.result) limit
    ∙ ap (minus (limit_at place w.state.namespaces)) charged in
    quota_is _ (quota_at w place) limit charged committed active spare free ∙ ap (λ (x : WorldValue). quota_at x place) c.self.view_is
