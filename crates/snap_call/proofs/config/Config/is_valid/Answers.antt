use Rattle.std.proofs.Common.{◌≡◌, Bool, true, false, true≢false, Option, None, Some, not, refl, sym}
use Rattle.std.specs.Option.{is_some}
use Rattle.snap_call.specs.declared.config.ConfigField.{ConfigField}
use Rattle.snap_call.proofs.Opening.{saved_config}
use Rattle.snap_call.proofs.config.Config.is_valid.Goals as goal

none_exactly : (o : Option ConfigField) (none b : Bool) → is_some o ≡ not none → (o ≡ None → b ≡ true) × (b ≡ true → o ≡ None) → none ≡ b
none_exactly None true b some both = sym (both.0 refl)
none_exactly None false b some both = absurd (true≢false (sym some))
none_exactly (Some field) true b some both = absurd (true≢false some)
none_exactly (Some field) false true some both =
    let none : Some field ≡ None = both.1 refl in
    absurd (cc none)
none_exactly (Some field) false false some both = refl

pub returns-clause-valid : goal.returns-clause-valid
returns-clause-valid c = none_exactly c.bad_field.result c.is_none.result _ c.is_none.ensures c.bad_field.ensures.valid

pub returns-clause-saved : goal.returns-clause-saved
returns-clause-saved c = saved_config c.args.self.now
