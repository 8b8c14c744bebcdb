use Rattle.std.proofs.Common.{ℕ, Option, sym, ◌∙◌, rules, subst}
use Rattle.snap_upper.proofs.Edits.{own_edit, lower_edit}
use Rattle.snap_layer.specs.Contents.{edited}
use Rattle.snap_upper.specs.Memory.{IsNoGrowth}
use Rattle.snap_upper.proofs.rules.editing.Goals as goal

pub returns-in-Some-clause-ok : goal.returns-in-Some-clause-ok
returns-in-Some-clause-ok c =
    own_edit c.args.layer.now c.args.lowers.now c.args.path.now c.args.edit c.requires.layer c.requires.layers c.requires.there.0 c.requires.there.1 c.requires.there.2 c.requires.short c.in-Some.number c.args.size (c.requires.size c.requires.there.0 c.requires.there.1 c.requires.there.2) (sym c.own_number.ensures ∙ c.in-Some.is)

pub returns-clause-ok : goal.returns-clause-ok
returns-clause-ok c =
    lower_edit c.args.layer.now c.args.lowers.now c.args.path.now c.args.edit c.requires.layer c.requires.layers c.requires.there.0 c.requires.there.1 c.requires.there.2 c.requires.short c.requires.way (sym c.own_number.ensures ∙ c.in_default.is) c.in-Some-File.meta c.in-Some-File.content.now (sym c.below.ensures ∙ search rules)

pub returns-in-Some-clause-in_place : goal.returns-in-Some-clause-in_place
returns-in-Some-clause-in_place c = λ none. subst (λ (o : Option ℕ). IsNoGrowth c.args.layer.now o (edited c.args.edit)) (sym c.own_number.ensures ∙ c.in-Some.is) none

pub returns-clause-in_place : goal.returns-clause-in_place
returns-clause-in_place c = λ none. absurd (subst (λ (o : Option ℕ). IsNoGrowth c.args.layer.now o (edited c.args.edit)) (sym c.own_number.ensures ∙ c.in_default.is) none)
