use Rattle.std.proofs.Common.{◌≡◌, Some, sym, ap, ◌∙◌}
use Rattle.std.proofs.lemmas.Result.{IfOk-weaker}
use Rattle.std.specs.Option.{option_to_list}
use Rattle.snap_call.specs.Records.{info_page, record_at}
use Rattle.snap_call.proofs.Named.{page-named}
use Rattle.snap_call.proofs.state.State.page.Goals as goal

pub returns-in-Some : goal.returns-in-Some
returns-in-Some c =
    let place = c.args.place in
    let after = c.args.after.now in
    let most = c.args.most in
    let asked = c.args.asked.now in
    let key = c.as_str.result.now in
    let rs = c.args.self.now.records in
    IfOk-weaker c.page_at.result (λ infos. infos ≡ info_page place after most asked (option_to_list (record_at place key rs))) (λ infos. infos ≡ info_page place after most asked rs)
    (λ infos given. given ∙ page-named place after key asked (c.in-Some.is ∙ ap Some (sym c.as_str.ensures)) most rs c.requires.sorted)
    c.page_at.ensures
