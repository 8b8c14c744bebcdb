use Rattle.std.proofs.Common.{[], ◌∷◌, ◌++◌, ap, ◌∙◌, lit<, string_bytes}
use Rattle.snap_json.specs.Tokens.{with_value}
use Rattle.snap_durable.specs.Differs.{differences_data, differences_line}
use Rattle.snap_durable.proofs.compare.Differences.line.Goals as goal

pub returns : goal.returns
unfolding differences_line
returns c =
    let told = differences_data c.args.self.now in
    c.in_ok-push.ensures.bytes ∙ ap (λ t. string_bytes c.finish-line.result ++ t) (c.in_ok-push.ensures.ascii (lit< tt))
    ∙ ap (λ t. t ++ 10 ∷ []) (c.finish-line.ensures told (c.in_ok-only.ensures ∙ ap (with_value told) c.in_ok-out.ensures))
