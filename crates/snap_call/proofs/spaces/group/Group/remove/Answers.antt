use Rattle.std.proofs.Common.{◌≡◌, ◌++◌, true≢false, subst, sym, ap, ◌∙◌}
use Rattle.std.specs.Map.{values_of}
use Rattle.std.specs.Option.{IsSome, option_to_list}
use Rattle.std.specs.Prelude.{Option}
use Rattle.snap_record.specs.declared.record.Record.{Record}
use Rattle.snap_call.specs.Records.{record_at, without_key}
use Rattle.snap_call.specs.Spaces.{IsOf, IsKeyed}
use Rattle.snap_call.proofs.Entries.{by_text, lookup-named, remove-named, keyed-remove}
use Rattle.snap_call.proofs.spaces.group.Group.remove.Goals as goal

pub invariant_of-self : goal.invariant_of-self
invariant_of-self c = (
  λ some. absurd (true≢false (sym (subst (λ (o : Option Record). IsSome o) c.in_default.is some))),
  subst IsKeyed (sym c.remove.ensures.entries) (keyed-remove (by_text c.args.key.now) c.self.inside.others.entries c.self.invariant.1),
)

pub returns-in_default-clause-taken : goal.returns-in_default-clause-taken
returns-in_default-clause-taken c = λ place of.
    let es = c.self.inside.others.entries in
    let shown : values_of es ≡ c.args.self.now = ap (λ o. option_to_list o ++ values_of es) (sym c.in_default.is) ∙ c.self.view_is in
    ap (λ o. option_to_list o ++ values_of c.remove.new.self.entries) c.in_default.is
    ∙ ap values_of c.remove.ensures.entries
    ∙ remove-named place c.args.key.now es c.self.invariant.1 (subst (IsOf place) (sym shown) of)
    ∙ ap (without_key place c.args.key.now) shown

pub returns-in_default-clause-record_taken : goal.returns-in_default-clause-record_taken
returns-in_default-clause-record_taken c = λ place of.
    let es = c.self.inside.others.entries in
    let shown : values_of es ≡ c.args.self.now = ap (λ o. option_to_list o ++ values_of es) (sym c.in_default.is) ∙ c.self.view_is in
    c.remove.ensures.value
    ∙ lookup-named place c.args.key.now es c.self.invariant.1 (subst (IsOf place) (sym shown) of)
    ∙ ap (record_at place c.args.key.now) shown
