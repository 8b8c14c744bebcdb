use Rattle.std.proofs.Common.{◌≡◌, string_bytes, subst, sym, ap, ◌∙◌}
use Rattle.std.specs.Map.{values_of}
use Rattle.snap_record.specs.declared.record.Record.{Record}
use Rattle.snap_call.specs.Spaces.{IsKeyed}
use Rattle.snap_call.proofs.Entries.{insert-named, keyed-insert}
use Rattle.snap_call.proofs.spaces.group.put.Goals as goal

pub returns-in-Ok-insert-clause-keyed : goal.returns-in-Ok-insert-clause-keyed
returns-in-Ok-insert-clause-keyed c =
    let own : string_bytes c.in-Ok.key ≡ c.args.added.key = c.in-Ok.ensures.ok ∙ c.as_str.ensures ∙ ap (λ (x : Record). x.key) c.record.ensures in
    subst IsKeyed (sym c.in-Ok-insert.ensures.entries) (keyed-insert c.in-Ok.key c.args.added c.args.map.now.entries own c.requires.keyed)

pub returns-in-Ok-insert-clause-ok : goal.returns-in-Ok-insert-clause-ok
returns-in-Ok-insert-clause-ok c =
    let own : string_bytes c.in-Ok.key ≡ c.args.added.key = c.in-Ok.ensures.ok ∙ c.as_str.ensures ∙ ap (λ (x : Record). x.key) c.record.ensures in
    ap values_of c.in-Ok-insert.ensures.entries
    ∙ insert-named c.in-Ok.key c.args.added c.args.map.now.entries own c.requires.keyed c.requires.of c.requires.absent
