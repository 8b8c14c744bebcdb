use Rattle.std.proofs.Common.{◌≡◌, ◌+◌, [], drop, sym, ap, ◌∙◌, arith}
use Rattle.std.proofs.lemmas.List.{drop_all}
use Rattle.snap_path.specs.Text.{Names}
use Rattle.snap_merge.specs.Shares.{seen_so_far}
use Rattle.snap_merge.specs.Row.{Row, is_seen_in}
use Rattle.snap_merge.proofs.Sharing.{told_last}
use Rattle.snap_merge.proofs.Rows.{rest_is}
use Rattle.snap_merge.proofs.row.shown_in.Goals as goal

pub loop-dir-init : goal.loop-dir-init
loop-dir-init c = λ n.
    ap (λ (ks : Names). seen_so_far ks c.new-gone.result.keys n (is_seen_in c.args.row.now n)) c.new-shown.ensures.empty
    ∙ ap (λ (ks : Names). seen_so_far [] ks n (is_seen_in c.args.row.now n)) c.new-gone.ensures.empty

pub loop-dir-preserved : goal.loop-dir-preserved
loop-dir-preserved c = λ n.
    let rest = drop (c.loop-dir.dir-index + 1) c.args.row.now in
    c.in_ok-put_names.ensures n (is_seen_in rest n)
    ∙ ap (λ (r : Row). seen_so_far c.loop-dir.shown.keys c.loop-dir.gone.keys n (is_seen_in r n)) (sym (rest_is c.args.row.now c.loop-dir.dir-index c.dir-item.result c.loop-dir-test.true c.dir-item.is))
    ∙ c.loop-dir.invariant n

pub returns : goal.returns
returns c = λ n.
    let none : drop c.loop-dir.dir-index c.args.row.now ≡ [] = drop_all c.loop-dir.dir-index c.args.row.now (omega arith) in
    sym (told_last c.loop-dir.shown.keys c.loop-dir.gone.keys n)
    ∙ ap (λ (r : Row). seen_so_far c.loop-dir.shown.keys c.loop-dir.gone.keys n (is_seen_in r n)) (sym none)
    ∙ c.loop-dir.invariant n
