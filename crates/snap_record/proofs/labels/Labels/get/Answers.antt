use Rattle.std.proofs.Common.{◌≡◌, Some, None, position, bytes_eq, arith}
use Rattle.snap_record.proofs.LabelLemmas.{value_at, no_value}
use Rattle.snap_record.proofs.labels.Labels.get.Goals as goal

pub returns-in-Some : goal.returns-in-Some
returns-in-Some c =
    let there : position (λ l. bytes_eq c.args.key.now l.0) c.args.self.now ≡ Some c.in-Some.place = grind arith in
    let found = value_at c.args.key.now c.args.self.now c.in-Some.place c.index.result.now there in
    grind (arith, found)

pub returns-in-None : goal.returns-in-None
returns-in-None c =
    let none : position (λ l. bytes_eq c.args.key.now l.0) c.args.self.now ≡ None = grind arith in
    no_value c.args.key.now c.args.self.now none
