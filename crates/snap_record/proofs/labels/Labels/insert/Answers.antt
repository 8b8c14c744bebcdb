use Rattle.std.proofs.Common.{◌∙◌, ◌≡◌, Some, None, true, false, is_some, position, bytes_eq, ap, sym, subst, arith}
use Rattle.snap_record.specs.Labels.{value_of, with_label, HasDistinctKeys}
use Rattle.snap_record.proofs.LabelLemmas.{label_set, label_pushed, distinct-with_label, no_value}
use Rattle.snap_record.proofs.labels.Labels.insert.Goals as goal

pub invariant_of-self : goal.invariant_of-self
invariant_of-self c =
    let ls = c.self.inside.list.items in
    let there : position (λ l. bytes_eq c.args.key l.0) ls ≡ Some c.in-Some.place = grind arith in
    subst HasDistinctKeys (sym (label_set c.args.key c.args.value ls c.in-Some.place there)) (distinct-with_label c.args.key c.args.value ls c.self.invariant)

pub invariant_of-self-in-Continue-1 : goal.invariant_of-self-in-Continue-1
invariant_of-self-in-Continue-1 c =
    let ls = c.self.inside.list.items in
    let none : position (λ l. bytes_eq c.args.key l.0) ls ≡ None = grind arith in
    let last = label_pushed c.args.key c.args.value ls none in
    let now : c.push.new.self.items ≡ with_label ls c.args.key c.args.value = grind (arith, last) in
    subst HasDistinctKeys (sym now) (distinct-with_label c.args.key c.args.value ls c.self.invariant)

pub returns-in-Some-clause-ok : goal.returns-in-Some-clause-ok
returns-in-Some-clause-ok c =
    let there : position (λ l. bytes_eq c.args.key l.0) c.self.inside.list.items ≡ Some c.in-Some.place = grind arith in
    let set = label_set c.args.key c.args.value c.self.inside.list.items c.in-Some.place there in
    grind (arith, set)

pub returns-in-Some-clause-distinct : goal.returns-in-Some-clause-distinct
returns-in-Some-clause-distinct c =
    let ls = c.self.inside.list.items in
    let there : position (λ l. bytes_eq c.args.key l.0) ls ≡ Some c.in-Some.place = grind arith in
    subst HasDistinctKeys (sym (label_set c.args.key c.args.value ls c.in-Some.place there)) (distinct-with_label c.args.key c.args.value ls c.self.invariant)

pub returns-in_ok-push-in-None-clause-ok : goal.returns-in_ok-push-in-None-clause-ok
returns-in_ok-push-in-None-clause-ok c =
    let none : position (λ l. bytes_eq c.args.key l.0) c.self.inside.list.items ≡ None = grind arith in
    let last = label_pushed c.args.key c.args.value c.self.inside.list.items none in
    grind (arith, last)

pub returns-in_ok-push-in-None-clause-distinct : goal.returns-in_ok-push-in-None-clause-distinct
returns-in_ok-push-in-None-clause-distinct c =
    let ls = c.self.inside.list.items in
    let none : position (λ l. bytes_eq c.args.key l.0) ls ≡ None = grind arith in
    let last = label_pushed c.args.key c.args.value ls none in
    let now : c.push.new.self.items ≡ with_label ls c.args.key c.args.value = grind (arith, last) in
    subst HasDistinctKeys (sym now) (distinct-with_label c.args.key c.args.value ls c.self.invariant)

not_both : true ≡ false → ⊥
not_both e = cc

pub returns-in_err-push-in-None-clause-sure : goal.returns-in_err-push-in-None-clause-sure
returns-in_err-push-in-None-clause-sure c = λ there.
    let none : position (λ l. bytes_eq c.args.key l.0) c.self.inside.list.items ≡ None = grind arith in
    let absent : None ≡ value_of c.args.self.now c.args.key = no_value c.args.key c.self.inside.list.items none ∙ ap (λ ls. value_of ls c.args.key) c.self.view_is in
    let no_key : is_some (value_of c.args.self.now c.args.key) ≡ false = ap is_some (sym absent) in
    absurd (not_both (sym there ∙ no_key))
