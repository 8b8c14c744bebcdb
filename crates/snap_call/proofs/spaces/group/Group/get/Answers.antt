use Rattle.std.proofs.Common.{◌≡◌, ◌++◌, Some, subst, sym, ap, ◌∙◌}
use Rattle.std.specs.Map.{values_of}
use Rattle.std.specs.Option.{option_copied, option_to_list}
use Rattle.snap_call.specs.Records.{record_at}
use Rattle.snap_call.specs.Spaces.{IsOf}
use Rattle.snap_call.proofs.Entries.{lookup-named}
use Rattle.snap_call.proofs.spaces.group.Group.get.Goals as goal

pub returns-in-Some-get : goal.returns-in-Some-get
returns-in-Some-get c = λ place of.
    let es = c.self.inside.others.entries in
    let shown : values_of es ≡ c.args.self.now = ap (λ o. option_to_list o ++ values_of es) (sym c.in_default.is) ∙ c.self.view_is in
    ap Some c.record.ensures ∙ sym (ap option_copied c.in-Some-get.is) ∙ c.get.ensures.value
    ∙ lookup-named place c.args.key.now es c.self.invariant.1 (subst (IsOf place) (sym shown) of)
    ∙ ap (record_at place c.args.key.now) shown

pub returns-in-None : goal.returns-in-None
returns-in-None c = λ place of.
    let es = c.self.inside.others.entries in
    let shown : values_of es ≡ c.args.self.now = ap (λ o. option_to_list o ++ values_of es) (sym c.in_default.is) ∙ c.self.view_is in
    sym (ap option_copied c.in-None.is) ∙ c.get.ensures.value
    ∙ lookup-named place c.args.key.now es c.self.invariant.1 (subst (IsOf place) (sym shown) of)
    ∙ ap (record_at place c.args.key.now) shown
