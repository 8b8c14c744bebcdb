use Rattle.std.specs.Prelude.{unwrap_or}
use Rattle.std.proofs.Common.{◌≡◌, ℕ, ◌<◌, length, Option, None, Some, true, refl, sym, ap, ◌∙◌, subst}
use Rattle.std.specs.Option.{option_map}
use Rattle.snap_usage.specs.Counted.{Covers}
use Rattle.snap_record.specs.declared.record.Record.{Record}
use Rattle.snap_call.specs.declared.state.State.{State}
use Rattle.snap_call.specs.Records.{charge_of, charge_at, active_at}
use Rattle.snap_call.specs.State.{limit_at}
use Rattle.snap_call.proofs.Slots.{charge_at-issued}
use Rattle.snap_accounts.specs.Totals.{place_if}
use Rattle.snap_accounts.proofs.Accounting.{place-of, found-covers}
use Rattle.snap_accounts.proofs.accounts.Accounts.place.Goals as goal

named : (o : Option Record) → unwrap_or (option_map (λ (r : Record). r.namespace) o) 0 ≡ place_if o
named None = refl
named (Some r) = refl

pub returns-clause-place : goal.returns-clause-place
returns-clause-place g c =
    c.unwrap_or.ensures ∙ ap (λ (o : Option ℕ). unwrap_or o 0) c.place_in.ensures ∙ named (active_at c.args.slot c.self.inside.state.records)
    ∙ ap (λ (u : State). place_if (active_at c.args.slot u.records)) c.self.view_is

pub returns-clause-low : goal.returns-clause-low
returns-clause-low g c =
    let s = c.self.inside.state in
    let issued : (charge_at c.args.slot s.records).issued ≡ true = subst (λ (u : State). (charge_at c.args.slot u.records).issued ≡ true) (sym c.self.view_is) c.requires in
    let found = charge_at-issued c.args.slot s.records issued in
    let is = c.unwrap_or.ensures ∙ ap (λ (o : Option ℕ). unwrap_or o 0) c.place_in.ensures ∙ named (active_at c.args.slot s.records) ∙ ap place_if found.1 in
    subst (λ (u : State). c.unwrap_or.result < length u.namespaces) c.self.view_is
    (subst (λ (k : ℕ). k < length s.namespaces) (sym is) (place-of s c.args.slot found.0 c.self.invariant.good found.1))

pub returns-clause-held : goal.returns-clause-held
returns-clause-held g c =
    let s = c.self.inside.state in
    let issued : (charge_at c.args.slot s.records).issued ≡ true = subst (λ (u : State). (charge_at c.args.slot u.records).issued ≡ true) (sym c.self.view_is) c.requires in
    let found = charge_at-issued c.args.slot s.records issued in
    let is = c.unwrap_or.ensures ∙ ap (λ (o : Option ℕ). unwrap_or o 0) c.place_in.ensures ∙ named (active_at c.args.slot s.records) ∙ ap place_if found.1 in
    subst (λ (u : State). Covers (charge_of c.unwrap_or.result u.records) (charge_at c.args.slot u.records).usage) c.self.view_is
    (subst (λ (k : ℕ). Covers (charge_of k s.records) (charge_at c.args.slot s.records).usage) (sym is) (found-covers s c.args.slot found.0 found.1))

pub returns-clause-within : goal.returns-clause-within
returns-clause-within g c =
    let s = c.self.inside.state in
    let issued : (charge_at c.args.slot s.records).issued ≡ true = subst (λ (u : State). (charge_at c.args.slot u.records).issued ≡ true) (sym c.self.view_is) c.requires in
    let found = charge_at-issued c.args.slot s.records issued in
    let is = c.unwrap_or.ensures ∙ ap (λ (o : Option ℕ). unwrap_or o 0) c.place_in.ensures ∙ named (active_at c.args.slot s.records) ∙ ap place_if found.1 in
    let inside : c.unwrap_or.result < length s.namespaces = subst (λ (k : ℕ). k < length s.namespaces) (sym is) (place-of s c.args.slot found.0 c.self.invariant.good found.1) in
    subst (λ (u : State). Covers (limit_at c.unwrap_or.result u.namespaces) (charge_of c.unwrap_or.result u.records)) c.self.view_is (c.self.invariant.good.promised.within c.unwrap_or.result inside)
