use Rattle.std.proofs.Common.{sym, subst, refl, List, []}
use Rattle.std.specs.Prelude.{Option}
use Rattle.snap_record.specs.declared.record.Record.{Record}
use Rattle.snap_call.specs.declared.open_slots.Name.{Name}
use Rattle.snap_call.specs.Indexes.{AreIndexed}
use Rattle.snap_call.specs.Spaces.{AreCounted, joined_records}
use Rattle.snap_call.proofs.Indexed.{indexed-none}
use Rattle.snap_call.proofs.records.Records.new.Goals as goal

pub invariant_of-result : goal.invariant_of-result
invariant_of-result c =
    subst (λ (rss : List (List Record)). AreCounted rss 0 × AreIndexed (joined_records rss) c.new-2.result) (sym c.new.ensures.items) (
      record { from = tt; counted = refl },
      subst (λ (names : List (Option Name)). AreIndexed [] names) (sym c.new-2.ensures) indexed-none,
    )
