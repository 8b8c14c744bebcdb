use Rattle.std.proofs.Common.{sym, ap, ◌∙◌}
use Rattle.snap_json.specs.Tokens.{with_members}
use Rattle.snap_pieces.specs.Written.{first_members, last_members, next_members}
use Rattle.snap_pieces.proofs.head.write_snapshot.Goals as goal

pub returns-clause-written : goal.returns-clause-written
returns-clause-written c =
    let h = c.args.head.now in
    c.in_ok-put_last.ensures.written
    ∙ sym (c.in_ok-put_next.ensures (last_members h))
    ∙ sym (c.in_ok-put_first.ensures.written (next_members h (last_members h)))
    ∙ ap (with_members (first_members h (next_members h (last_members h)))) c.in_ok-token.ensures
