use Rattle.std.proofs.Common.{◌≡◌, ◌∙◌, List, true, ap, sym, subst}
use Rattle.snap_record.specs.Labels.{Bytes, Label, are_labels}
use Rattle.snap_call.specs.Records.{record_at, unlabelled}
use Rattle.snap_call.proofs.Formed.{labels_formed}
use Rattle.snap_call.proofs.Lists.{some_same}
use Rattle.snap_accounts.proofs.Found.{granted-from}
use Rattle.snap_accounts.proofs.accounts.Accounts.update_at.Goals as goal

pub returns-clause-possible : goal.returns-clause-possible
returns-clause-possible g c =
    let old = c.args.snapshot.now.labels in
    let given = c.args.given.now in
    let paths = c.args.paths.now in
    let r = c.args.snapshot.now in
    let records = c.args.self.now.records in (
      subst (λ (l : List Label). are_labels l ≡ true) (sym c.in-Ok.ensures.ok)
          (labels_formed old given paths c.requires.own (granted-from c.updated_labels.result c.in-Ok.labels old given paths c.in-Ok.is c.updated_labels.ensures.bad)),
      λ t found. c.in_ok-copy.ensures ∙ ap unlabelled (some_same r t (sym c.requires.found ∙ ap (λ (k : Bytes). record_at c.args.place k records) (sym c.in_ok-key.ensures.cases) ∙ found)),
    )
