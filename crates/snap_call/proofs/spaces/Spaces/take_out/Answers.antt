use Rattle.std.proofs.Common.{◌<◌, ◌≤◌, length, sym, ◌∙◌, arith}
use Rattle.snap_call.proofs.Joined.{lent-of, lent-found, joined-without-past, joined-found-past, put-without, counted-less, counted-some, counted-unfound}
use Rattle.snap_call.proofs.spaces.Spaces.take_out.Goals as goal

pub returns-then-place-len-clause-taken : goal.returns-then-place-len-clause-taken
returns-then-place-len-clause-taken c =
    let le : length c.args.self.now.list.items ≤ c.args.place = omega (arith, c.if-place-len.true, c.len.ensures, c.args.self.now.list.ok.0) in
    sym (joined-without-past c.args.place c.args.key.now c.args.self.now.list.items c.requires.from le)

pub returns-then-place-len-clause-record_taken : goal.returns-then-place-len-clause-record_taken
returns-then-place-len-clause-record_taken c =
    let le : length c.args.self.now.list.items ≤ c.args.place = omega (arith, c.if-place-len.true, c.len.ensures, c.args.self.now.list.ok.0) in
    sym (joined-found-past c.args.place c.args.key.now c.args.self.now.list.items c.requires.from le)

pub returns-in_err-removed-clause-counted : goal.returns-in_err-removed-clause-counted
returns-in_err-removed-clause-counted c =
    let rss = c.args.self.now.list.items in
    let rs = c.index_mut-space.result.now in
    let lt : c.args.place < length rss = omega (arith, c.if-place-len.false, c.len.ensures, c.args.self.now.list.ok.0) in
    counted-unfound rss c.args.self.now.count c.requires c.args.place lt rs c.index_mut-space.ensures.value c.args.key.now c.remove.new.self c.remove.ensures.taken (sym (c.remove.ensures.record_taken c.args.place (lent-of rss c.args.self.now.count c.requires c.args.place lt rs c.index_mut-space.ensures.value)) ∙ c.in_err-removed.was)

pub returns-in_err-removed-clause-taken : goal.returns-in_err-removed-clause-taken
returns-in_err-removed-clause-taken c =
    let rss = c.args.self.now.list.items in
    let rs = c.index_mut-space.result.now in
    let lt : c.args.place < length rss = omega (arith, c.if-place-len.false, c.len.ensures, c.args.self.now.list.ok.0) in
    put-without rss c.args.self.now.count c.requires c.args.place lt rs c.index_mut-space.ensures.value c.args.key.now c.remove.new.self c.remove.ensures.taken

pub returns-in_err-removed-clause-record_taken : goal.returns-in_err-removed-clause-record_taken
returns-in_err-removed-clause-record_taken c =
    let rss = c.args.self.now.list.items in
    let rs = c.index_mut-space.result.now in
    let lt : c.args.place < length rss = omega (arith, c.if-place-len.false, c.len.ensures, c.args.self.now.list.ok.0) in
    let of = lent-of rss c.args.self.now.count c.requires c.args.place lt rs c.index_mut-space.ensures.value in
    c.from_residual.ensures ∙ sym c.in_err-removed.was ∙ c.remove.ensures.record_taken c.args.place of
    ∙ lent-found rss c.args.self.now.count c.requires c.args.place lt rs c.index_mut-space.ensures.value c.args.key.now

pub overflow_sub-self : goal.overflow_sub-self
overflow_sub-self c =
    let rss = c.args.self.now.list.items in
    let rs = c.index_mut-space.result.now in
    let lt : c.args.place < length rss = omega (arith, c.if-place-len.false, c.len.ensures, c.args.self.now.list.ok.0) in
    let of = lent-of rss c.args.self.now.count c.requires c.args.place lt rs c.index_mut-space.ensures.value in
    counted-some rss c.args.self.now.count c.requires c.args.place lt rs c.index_mut-space.ensures.value c.args.key.now c.remove.new.self c.remove.ensures.taken c.in_ok-removed.removed (sym (c.remove.ensures.record_taken c.args.place of) ∙ c.in_ok-removed.was)

pub returns-clause-counted : goal.returns-clause-counted
returns-clause-counted c =
    let rss = c.args.self.now.list.items in
    let rs = c.index_mut-space.result.now in
    let lt : c.args.place < length rss = omega (arith, c.if-place-len.false, c.len.ensures, c.args.self.now.list.ok.0) in
    let of = lent-of rss c.args.self.now.count c.requires c.args.place lt rs c.index_mut-space.ensures.value in
    counted-less rss c.args.self.now.count c.requires c.args.place lt rs c.index_mut-space.ensures.value c.args.key.now c.remove.new.self c.remove.ensures.taken c.in_ok-removed.removed (sym (c.remove.ensures.record_taken c.args.place of) ∙ c.in_ok-removed.was)

pub returns-clause-taken : goal.returns-clause-taken
returns-clause-taken c =
    let rss = c.args.self.now.list.items in
    let rs = c.index_mut-space.result.now in
    let lt : c.args.place < length rss = omega (arith, c.if-place-len.false, c.len.ensures, c.args.self.now.list.ok.0) in
    put-without rss c.args.self.now.count c.requires c.args.place lt rs c.index_mut-space.ensures.value c.args.key.now c.remove.new.self c.remove.ensures.taken

pub returns-clause-record_taken : goal.returns-clause-record_taken
returns-clause-record_taken c =
    let rss = c.args.self.now.list.items in
    let rs = c.index_mut-space.result.now in
    let lt : c.args.place < length rss = omega (arith, c.if-place-len.false, c.len.ensures, c.args.self.now.list.ok.0) in
    let of = lent-of rss c.args.self.now.count c.requires c.args.place lt rs c.index_mut-space.ensures.value in
    sym c.in_ok-removed.was ∙ c.remove.ensures.record_taken c.args.place of
    ∙ lent-found rss c.args.self.now.count c.requires c.args.place lt rs c.index_mut-space.ensures.value c.args.key.now
