use Rattle.std.proofs.Common.{ap, ◌∙◌}
use Rattle.snap_call.specs.declared.call.Call.TheVariants as calls
use Rattle.snap_book.specs.Active.{ActiveValue}
use Rattle.snap_book.proofs.book.Book.commit.Goals as goal

pub commit_as-requires : goal.commit_as-requires
commit_as-requires g c = (c.args.name, c.args.lease, c.args.labels, (λ i. calls.Commit (c.slot.ensures i) (c.id.ensures i) c.args.name c.args.lease c.args.labels) ∙ ap (λ (a : ActiveValue). calls.Commit a.share.slot a.share.id c.args.name c.args.lease c.args.labels) c.sealed.view_is)
