use Rattle.std.proofs.Common.{◌≡◌, ◌-◌, ◌++◌, length, take, drop, ap, ◌∙◌, arith, length-drop}
use Rattle.std.proofs.lemmas.List.{take_all}
use Rattle.snap_path.specs.Text.{Names}
use Rattle.snap_merge.specs.Row.{metas_in, row}
use Rattle.snap_merge.proofs.Rows.{metas_row}
use Rattle.snap_merge.proofs.stack.Stack.metas.Goals as goal

pub returns : goal.returns
returns c =
    let s = c.args.self.now in
    let front = c.args.front in
    let p = c.args.path.now in
    let names : c.names-names.result.now ≡ c.args.path.now = c.names-names.ensures.names in
    let rest : take (length c.names-names.result.now - c.args.front) (drop c.args.front c.names-names.result.now) ≡ drop c.args.front c.args.path.now = take_all (length c.names-names.result.now - c.args.front) (drop c.args.front c.names-names.result.now) (omega (arith, length-drop c.args.front c.names-names.result.now)) ∙ ap (drop c.args.front) names in
    c.in_ok-put_metas.ensures
    ∙ (λ i. c.new-metas.ensures.items i ++ metas_in (c.in_ok-row.ensures i) (rest i))
    ∙ ap (λ (q : Names). metas_in (row s (take front q)) (drop front p)) names
    ∙ metas_row s c.show_are_layers.ensures (take front p) (drop front p)
