use Rattle.std.proofs.Common.{List, sym, ap, subst}
use Rattle.std.specs.List.{AllByRecursion}
use Rattle.snap_world.specs.Restored.{SavedWorldValue}
use Rattle.snap_world.specs.Saved.{IsWholeSnapshot}
use Rattle.snap_world.specs.declared.save.SavedSnapshot.{SavedSnapshot}
use Rattle.snap_durable.proofs.CameLaws.{if_ok}
use Rattle.snap_durable.proofs.MovedLaws.{moving_whole}
use Rattle.snap_durable.proofs.moved.moved_world.Goals as goal

pub returns-clause-whole : goal.returns-clause-whole
returns-clause-whole g c =
    if_ok c.moved_store.result
    (λ there is. subst (λ (ss : List SavedSnapshot). AllByRecursion IsWholeSnapshot ss) (sym (ap (λ (s : SavedWorldValue). s.snapshots) is)) (moving_whole c.args.wanted.now _ c.in_ok-save.ensures.whole))
    c.moved_store.ensures
