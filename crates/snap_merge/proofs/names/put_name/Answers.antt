use Rattle.std.proofs.Common.{sym, ap, ◌∙◌}
use Rattle.snap_path.specs.Text.{Names}
use Rattle.snap_merge.specs.Shares.{seen_so_far}
use Rattle.snap_merge.proofs.Sharing.{put_shown, put_covered, put_gone, put_kept}
use Rattle.snap_merge.proofs.names.put_name.Goals as goal

pub returns-in_ok-insert : goal.returns-in_ok-insert
returns-in_ok-insert c = λ n under.
    ap (λ (ks : Names). seen_so_far ks c.args.gone.now.keys n under) c.in_ok-insert.ensures.keys
    ∙ put_shown c.args.name c.args.shown.now.keys c.args.gone.now.keys c.args.is_there c.if-is_there.true (sym c.if-not-contains.true ∙ c.contains.ensures) n under

pub returns-else-not-contains : goal.returns-else-not-contains
returns-else-not-contains c = put_covered c.args.name c.args.shown.now.keys c.args.gone.now.keys c.args.is_there (sym c.if-not-contains.false ∙ c.contains.ensures)

pub returns-in_ok-insert-2 : goal.returns-in_ok-insert-2
returns-in_ok-insert-2 c = λ n under.
    ap (λ (ks : Names). seen_so_far c.args.shown.now.keys ks n under) c.in_ok-insert-2.ensures.keys
    ∙ put_gone c.args.name c.args.shown.now.keys c.args.gone.now.keys c.args.is_there c.if-is_there.false n under

pub returns-else-not-contains-2 : goal.returns-else-not-contains-2
returns-else-not-contains-2 c = put_kept c.args.name c.args.shown.now.keys c.args.gone.now.keys c.args.is_there (sym c.if-not-contains-2.false ∙ c.contains-else-is_there.ensures)
