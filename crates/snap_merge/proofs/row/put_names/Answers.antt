use Rattle.std.proofs.Common.{◌≡◌, ◌∷◌, ◌++◌, [], Option, cond, sym, ap, ◌∙◌}
use Rattle.std.specs.Prelude.{is_some}
use Rattle.snap_layer.specs.Directory.{Directory}
use Rattle.snap_layer.specs.Tree.{at}
use Rattle.snap_layer.proofs.Laws.{names_below_are}
use Rattle.snap_merge.specs.Shares.{has, seen_so_far, is_shown}
use Rattle.snap_merge.specs.Row.{is_seen_over}
use Rattle.snap_merge.proofs.row.put_names.Goals as goal

pub returns : goal.returns
returns c = λ n under.
    let d = c.in-Some.dir in
    let all : has n c.in_ok-names.names.items ≡ is_some (at d.layer (d.path ++ n ∷ [])) = ap (has n) c.in_ok-names.ensures ∙ names_below_are d.layer d.path n in
    c.in_ok-put_dir.ensures n under
    ∙ ap (λ b. seen_so_far c.args.shown.now.keys c.args.gone.now.keys n (cond b (is_shown d n) under)) all
    ∙ ap (λ (o : Option Directory). seen_so_far c.args.shown.now.keys c.args.gone.now.keys n (is_seen_over o n under)) (sym c.in-Some.is)
