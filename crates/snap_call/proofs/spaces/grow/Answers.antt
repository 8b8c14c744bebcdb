use Rattle.std.proofs.Common.{◌≡◌, ◌++◌, ◌∷◌, [], List, subst, sym, ap, ◌∙◌}
use Rattle.snap_record.specs.declared.record.Record.{Record}
use Rattle.snap_call.specs.Spaces.{AreFrom, joined_records}
use Rattle.snap_call.proofs.Joined.{joined-more, from-more}
use Rattle.snap_call.proofs.spaces.grow.Goals as goal

pub loop-alloc-preserved : goal.loop-alloc-preserved
loop-alloc-preserved c =
    let rss = c.loop-alloc.spaces.items in
    let is : c.push.new.self.items ≡ rss ++ [] ∷ [] = c.in_ok-push.ensures.items ∙ ap (λ (x : List Record). rss ++ x ∷ []) c.new.ensures in
    record {
      from = subst (AreFrom 0) (sym is) (from-more 0 rss c.loop-alloc.invariant.from);
      same = ap joined_records is ∙ joined-more rss ∙ c.loop-alloc.invariant.same;
    }
