use Rattle.std.proofs.Common.{◌≡◌, List, [], ◌∷◌, IsSome, ap, sym, subst, ◌∙◌, arith}
use Rattle.std.specs.Prelude.{Result, Ok, unwrap_or}
use Rattle.snap_usage.specs.declared.usage.Usage.{Usage}
use Rattle.snap_ledger.specs.States.{plus}
use Rattle.snap_record.specs.Labels.{Bytes}
use Rattle.snap_record.specs.Records.{usage_of}
use Rattle.snap_record.specs.declared.record.Record.{Record}
use Rattle.snap_call.specs.declared.refusal.Refusal.{Refusal}
use Rattle.snap_call.specs.Results.{◌>>=◌}
use Rattle.snap_call.specs.State.{ancestors, chain_from, most_ancestors}
use Rattle.snap_book.specs.Questions.{usage_of_all}
use Rattle.snap_book.specs.Small.{AreSmall}
use Rattle.snap_book.proofs.Asking.{chained, found-small, small}
use Rattle.snap_book.proofs.book.Book.chain_usage.Goals as goal

abbrev ok : Usage → Result Usage Refusal
ok u = Ok u

pub usage_above-above-requires-clause-all : goal.usage_above-above-requires-clause-all
usage_above-above-requires-clause-all g c =
    let s = c.args.self.now.state in
    let f = c.in_ok-found.found.now in
    subst (λ (rs : List Record). IsSome (chain_from most_ancestors rs f.namespace c.as_str.result.now)) (sym c.records-records.ensures.records)
    (subst (λ (p : Bytes). IsSome (chain_from most_ancestors s.records f.namespace p)) (sym c.as_str.ensures) (chained s c.records-records.ensures.good c.args.namespace.now c.args.key.now f c.in_ok-found.ensures.found))

pub usage_above-above-requires-clause-small : goal.usage_above-above-requires-clause-small
usage_above-above-requires-clause-small g c =
    let f = c.in_ok-found.found.now in
    subst (λ (rs : List Record). AreSmall rs f.namespace) (sym c.records-records.ensures.records) (small c.args.self.now.state c.records-records.ensures.good f.namespace)

pub plus-requires-clause-blocks : goal.plus-requires-clause-blocks
plus-requires-clause-blocks g c =
    let own = (found-small c.args.self.now.state c.records-records.ensures.good c.args.namespace.now c.args.key.now c.in_ok-found.found.now c.in_ok-found.ensures.found).0 in
    let above = c.usage_above-above.ensures.blocks in
    let is = ap (λ (u : Usage). u.blocks) c.usage.ensures in
    omega arith

pub plus-requires-clause-inodes : goal.plus-requires-clause-inodes
plus-requires-clause-inodes g c =
    let own = (found-small c.args.self.now.state c.records-records.ensures.good c.args.namespace.now c.args.key.now c.in_ok-found.found.now c.in_ok-found.ensures.found).1 in
    let above = c.usage_above-above.ensures.inodes in
    let is = ap (λ (u : Usage). u.inodes) c.usage.ensures in
    omega arith

pub returns : goal.returns
returns g c =
    let s = c.args.self.now.state in
    let f = c.in_ok-found.found.now in
    let above : c.usage_above-above.result ≡ usage_of_all (ancestors f.namespace f.parent s.records) =
    c.usage_above-above.ensures.usage
    ∙ ap (λ (rs : List Record). usage_of_all (unwrap_or (chain_from most_ancestors rs f.namespace c.as_str.result.now) [])) c.records-records.ensures.records
    ∙ ap (λ (p : Bytes). usage_of_all (ancestors f.namespace p s.records)) c.as_str.ensures in
    ap ok (c.plus.ensures ∙ ap (λ (u : Usage). plus u c.usage_above-above.result) c.usage.ensures ∙ ap (plus (usage_of f.content)) above)
    ∙ sym (ap (λ (f : Result Record Refusal). f >>= λ (r : Record). ok (usage_of_all (r ∷ ancestors r.namespace r.parent s.records))) c.in_ok-found.ensures.found)
