use Rattle.std.proofs.Common.{◌≡◌, ◌<◌, ◌≤◌, length, get_or, sym, subst, ap, ◌∙◌}
use Rattle.snap_call.specs.Records.{child_count}
use Rattle.snap_call.proofs.Joined.{lent-of, lent-count, joined-count-past}
use Rattle.snap_call.proofs.records.Records.child_count.Goals as goal

pub returns-in-Some : goal.returns-in-Some
returns-in-Some c =
    let rss = c.self.inside.spaces.list.items in
    let rs = c.in-Some.space.now in
    let lt : c.args.place < length rss = subst (λ l. c.args.place < length l) c.deref.ensures.value c.in-Some.ensures.lookup.3.0 in
    let at : rs ≡ get_or rss c.args.place rs = c.in-Some.ensures.lookup.1 ∙ ap (λ l. get_or l c.args.place rs) c.deref.ensures.value in
    c.child_count.ensures c.args.place (lent-of rss c.self.inside.spaces.count c.self.invariant.0 c.args.place lt rs at)
    ∙ lent-count rss c.self.inside.spaces.count c.self.invariant.0 c.args.place lt rs at c.args.key.now
    ∙ ap (child_count c.args.place c.args.key.now) c.self.view_is

pub returns-in-None : goal.returns-in-None
returns-in-None c =
    let rss = c.self.inside.spaces.list.items in
    let le : length rss ≤ c.args.place = subst (λ l. length l ≤ c.args.place) c.deref.ensures.value c.in-None.ensures.lookup.3 in
    sym (joined-count-past c.args.place c.args.key.now rss c.self.invariant.0.from le) ∙ ap (child_count c.args.place c.args.key.now) c.self.view_is
