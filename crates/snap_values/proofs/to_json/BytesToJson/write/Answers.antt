use Rattle.std.proofs.Common.{◌≡◌, ap, sym, ◌∙◌}
use Rattle.serde_json.specs.Data.{null}
use Rattle.snap_values.specs.Values.{text_data}
use Rattle.snap_values.proofs.Texts.{not_text}
use Rattle.snap_values.proofs.to_json.BytesToJson.write.Goals as goal

pub returns-in-Err : goal.returns-in-Err
returns-in-Err c =
    let seen : text_data c.args.self.now ≡ null = ap text_data (sym c.as_slice.ensures) ∙ sym (not_text _ c.in-Err.ensures.cases.0) in
    rw seen c.token-in-Err.ensures
