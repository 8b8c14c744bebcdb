use Rattle.std.proofs.Common.{◌∙◌, ◌≡◌, ◌++◌, ◌∷◌, [], false, ap, sym, subst}
use Rattle.std.specs.List.{AllByRecursion}
use Rattle.std.specs.Map.{values_of}
use Rattle.snap_lease.specs.Index.{AreNameCounts}
use Rattle.snap_lease.specs.Lease.{Lease, empty_lease, is_lease, NamesOnce}
use Rattle.snap_lease.specs.Leases.{has_lease, AreDistinct, guards, naming_count}
use Rattle.snap_lease.specs.Numbers.{AreNumbers}
use Rattle.snap_lease.proofs.ListLemmas.{IsDistinct-push, NamesOnce-empty, all-push, is_lease_comm}
use Rattle.snap_lease.proofs.IndexLemmas.{counts-created, guards-empty}
use Rattle.snap_lease.proofs.NumberLemmas.{insert_entry-last, numbers-back, numbers-created, values-push}
use Rattle.snap_lease.proofs.list.Leases.create.Goals as goal

absent : (c : goal.Joined-this) → has_lease (values_of c.self.inside.list.entries) c.args.namespace.now c.args.lease.now ≡ false
absent c = ap (λ ls. has_lease ls c.args.namespace.now c.args.lease.now) c.self.view_is ∙ sym c.has.ensures ∙ c.if-has.false

-- what the call leaves
items : (c : goal.Joined-this) → c.insert.new.self.entries ≡ c.self.inside.list.entries ++ (c.in_ok-number.number, c.in_ok-entry.entry) ∷ []
items c = c.in_default.ensures.entries ∙ insert_entry-last c.in_ok-number.number c.in_ok-entry.entry c.self.inside.list.entries c.in_ok-number.ensures.above

values : (c : goal.Joined-this) → values_of c.insert.new.self.entries ≡ values_of c.self.inside.list.entries ++ c.in_ok-entry.entry ∷ []
values c = ap values_of (items c) ∙ values-push c.in_ok-number.number c.in_ok-entry.entry c.self.inside.list.entries

counts : (c : goal.Joined-this) → AreNameCounts (values_of c.insert.new.self.entries) c.self.inside.counts
counts c =
    counts-created (values_of c.self.inside.list.entries) (values_of c.insert.new.self.entries) c.self.inside.counts c.in_ok-entry.entry c.self.invariant.2
    (λ space name. ap (guards space name) c.in_ok-entry.ensures ∙ guards-empty space name c.args.namespace.now c.args.lease.now c.args.until) (values c)

pub invariant_of-self-in_default : goal.invariant_of-self-in_default
invariant_of-self-in_default c =
    let es = c.self.inside.list.entries in
    let entry = c.in_ok-entry.entry in
    let is : entry ≡ empty_lease c.args.namespace.now c.args.lease.now c.args.until = c.in_ok-entry.ensures in
    let new : has_lease (values_of es) entry.namespace entry.name ≡ false = ap (λ (l : Lease). has_lease (values_of es) l.namespace l.name) is ∙ absent c in
    let once : NamesOnce entry = subst NamesOnce (sym is) (NamesOnce-empty c.args.namespace.now c.args.lease.now c.args.until) in (
      subst AreDistinct (sym (values c)) (IsDistinct-push (λ l. is_lease l.namespace l.name) is_lease_comm (values_of es) entry c.self.invariant.0 new),
      subst (AllByRecursion NamesOnce) (sym (values c)) (all-push NamesOnce (values_of es) entry c.self.invariant.1 once),
      counts c,
      subst (λ xs. AreNumbers xs c.put.new.self) (sym (items c))
          (numbers-created es c.self.inside.numbers c.put.new.self c.args.namespace.now c.args.lease.now c.args.until c.in_ok-number.number entry is (absent c) c.self.invariant.3 c.in_ok-put.ensures.ok),
      c.insert.ensures.ordered,
    )

pub returns-in_default-clause-ok : goal.returns-in_default-clause-ok
returns-in_default-clause-ok c =
    values c ∙ ap (λ l. values_of c.self.inside.list.entries ++ l ∷ []) c.in_ok-entry.ensures
    ∙ ap (λ ls. ls ++ empty_lease c.args.namespace.now c.args.lease.now c.args.until ∷ []) c.self.view_is

pub returns-in_default-clause-counts : goal.returns-in_default-clause-counts
returns-in_default-clause-counts c = λ space name.
    sym (counts c space name) ∙ c.self.invariant.2 space name ∙ ap (λ ls. naming_count ls space name) c.self.view_is

pub invariant_of-self : goal.invariant_of-self
invariant_of-self c = (
  c.self.invariant.0,
  c.self.invariant.1,
  c.self.invariant.2,
  (λ space name. c.in_err-put.ensures.err space name ∙ c.self.invariant.3 space name),
  c.self.invariant.4,
)

pub invariant_of-self-2 : goal.invariant_of-self-2
invariant_of-self-2 c =
    let none = ap (λ ls. has_lease ls c.args.namespace.now c.args.lease.now) c.self.view_is ∙ sym c.has.ensures ∙ c.if-has.false in
    let e = sym c.in-Err.ensures.err in (
      subst (λ xs. AreDistinct (values_of xs)) e c.self.invariant.0,
      subst (λ xs. AllByRecursion NamesOnce (values_of xs)) e c.self.invariant.1,
      subst (λ xs. AreNameCounts (values_of xs) c.self.inside.counts) e c.self.invariant.2,
      subst (λ xs. AreNumbers xs c.take.new.self) e
          (numbers-back c.self.inside.list.entries c.self.inside.numbers c.take.new.self c.put.new.self c.args.namespace.now c.args.lease.now c.in_ok-number.number none c.self.invariant.3
          c.in_ok-put.ensures.ok c.take.ensures),
      c.insert.ensures.ordered,
    )
