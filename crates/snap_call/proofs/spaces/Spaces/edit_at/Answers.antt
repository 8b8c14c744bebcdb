use Rattle.std.proofs.Common.{◌∙◌, ◌<◌, ◌≤◌, length, sym, arith}
use Rattle.snap_call.specs.Spaces.{edited_record}
use Rattle.snap_call.proofs.Joined.{joined-amended-past, put-edited, counted-edited, lent-found, lent-of}
use Rattle.snap_call.proofs.spaces.Spaces.edit_at.Goals as goal

pub returns-then-place-len-clause-edited : goal.returns-then-place-len-clause-edited
returns-then-place-len-clause-edited c =
    let le : length c.args.self.now.list.items ≤ c.args.place = omega (arith, c.if-place-len.true, c.len.ensures, c.args.self.now.list.ok.0) in
    sym (joined-amended-past c.args.place c.args.key.now (edited_record c.args.edit) c.args.self.now.list.items c.requires.counted.from le)

pub returns-clause-counted : goal.returns-clause-counted
returns-clause-counted c =
    let lt : c.args.place < length c.args.self.now.list.items = omega (arith, c.if-place-len.false, c.len.ensures, c.args.self.now.list.ok.0) in
    counted-edited c.args.self.now.list.items c.args.self.now.count c.requires.counted c.args.place lt c.index_mut-space.result.now c.index_mut-space.ensures.value c.args.key.now c.args.edit c.edit.new.self c.edit.ensures

pub returns-clause-edited : goal.returns-clause-edited
returns-clause-edited c =
    let lt : c.args.place < length c.args.self.now.list.items = omega (arith, c.if-place-len.false, c.len.ensures, c.args.self.now.list.ok.0) in
    put-edited c.args.self.now.list.items c.args.self.now.count c.requires.counted c.args.place lt c.index_mut-space.result.now c.index_mut-space.ensures.value c.args.key.now c.args.edit c.edit.new.self c.edit.ensures

pub edit-requires : goal.edit-requires
edit-requires c =
    let rss = c.args.self.now.list.items in
    let lt : c.args.place < length rss = omega (arith, c.if-place-len.false, c.len.ensures, c.args.self.now.list.ok.0) in
    let rs = c.index_mut-space.result.now in
    let at = c.index_mut-space.ensures.value in (
      c.args.place,
      lent-of rss c.args.self.now.count c.requires.counted c.args.place lt rs at,
      λ r e. c.requires.edit r (sym (lent-found rss c.args.self.now.count c.requires.counted c.args.place lt rs at c.args.key.now) ∙ e),
    )
