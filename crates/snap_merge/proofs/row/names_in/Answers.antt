use Rattle.std.proofs.Common.{◌≡◌, ◌++◌, [], sym, ap, ◌∙◌, append-nil}
use Rattle.std.proofs.lemmas.Map.Iter.{rest_all}
use Rattle.snap_path.specs.Text.{Names}
use Rattle.snap_merge.specs.Row.{names_in}
use Rattle.snap_merge.proofs.Rows.{has_names_in, sorted_names_in}
use Rattle.snap_merge.proofs.Sharing.{same_names}
use Rattle.snap_merge.proofs.row.names_in.Goals as goal

pub returns : goal.returns
returns c =
    let r = c.args.row.now in
    let none : c.loop-name.name-iterator ≡ [] = rest_all (λ n. n) _ _ _ c.in-None.is c.next.ensures.steps in
    let all : c.loop-name.names.items ≡ c.in_ok-shown.shown.keys = sym (append-nil c.loop-name.names.items) ∙ ap (λ (ns : Names). c.loop-name.names.items ++ ns) (sym none) ∙ c.loop-name.invariant ∙ c.into_iter-name-iterator.ensures.into_iter_gives.0 in
    all ∙ same_names c.in_ok-shown.shown.keys (names_in r) c.len.ensures.ordered (sorted_names_in r) (λ n. c.in_ok-shown.ensures n ∙ sym (has_names_in r n))
