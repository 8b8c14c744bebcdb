use Rattle.std.proofs.Common.{◌≡◌, Some, None, position, bytes_eq, sym, subst, arith}
use Rattle.snap_record.specs.Labels.{without_label, HasDistinctKeys}
use Rattle.snap_record.proofs.LabelLemmas.{label_removed, no_label, distinct-without_label}
use Rattle.snap_record.proofs.labels.Labels.remove.Goals as goal

pub invariant_of-self : goal.invariant_of-self
invariant_of-self c =
    let ls = c.self.inside.list.items in
    let there : position (λ l. bytes_eq c.args.key.now l.0) ls ≡ Some c.in-Some.place = grind arith in
    let gone = label_removed c.args.key.now ls c.in-Some.place there in
    let now : c.remove.new.self.items ≡ without_label ls c.args.key.now = grind (arith, gone) in
    subst HasDistinctKeys (sym now) (distinct-without_label c.args.key.now ls c.self.invariant)

pub returns-in-Some-clause-removed : goal.returns-in-Some-clause-removed
returns-in-Some-clause-removed c =
    let there : position (λ l. bytes_eq c.args.key.now l.0) c.self.inside.list.items ≡ Some c.in-Some.place = grind arith in
    let gone = label_removed c.args.key.now c.self.inside.list.items c.in-Some.place there in
    grind (arith, gone)

pub returns-in-Some-clause-distinct : goal.returns-in-Some-clause-distinct
returns-in-Some-clause-distinct c =
    let ls = c.self.inside.list.items in
    let there : position (λ l. bytes_eq c.args.key.now l.0) ls ≡ Some c.in-Some.place = grind arith in
    let gone = label_removed c.args.key.now ls c.in-Some.place there in
    let now : c.remove.new.self.items ≡ without_label ls c.args.key.now = grind (arith, gone) in
    subst HasDistinctKeys (sym now) (distinct-without_label c.args.key.now ls c.self.invariant)

pub returns-in_default-clause-removed : goal.returns-in_default-clause-removed
returns-in_default-clause-removed c =
    let none : position (λ l. bytes_eq c.args.key.now l.0) c.args.self.now ≡ None = grind arith in
    no_label c.args.key.now c.args.self.now none
