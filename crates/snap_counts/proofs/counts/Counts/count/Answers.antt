use Rattle.std.proofs.Common.{◌∙◌, ◌≡◌, ap, arith, sym, unwrap_or}
use Rattle.std.specs.BTreeMap.{get_by_text}
use Rattle.snap_counts.specs.Counts.{count_in}
use Rattle.snap_counts.proofs.Reading.{count-by_bytes}
use Rattle.snap_counts.proofs.counts.Counts.count.Goals as goal

pub returns : goal.returns
returns c =
    let read : c.unwrap_or.result ≡ unwrap_or (get_by_text c.self.inside.map c.args.text.now) 0 = grind arith in
    read ∙ sym (count-by_bytes c.args.text.now c.self.inside.map) ∙ ap (count_in c.args.text.now) c.self.view_is
