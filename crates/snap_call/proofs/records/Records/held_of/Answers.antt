use Rattle.std.proofs.Common.{◌≡◌, ◌<◌, ◌≤◌, length, get_or, map, sym, subst, ap, ◌∙◌}
use Rattle.std.specs.Prelude.{◌==◌, ◌++◌, filter}
use Rattle.std.proofs.lemmas.Result.{IfOk-weaker}
use Rattle.snap_call.proofs.Joined.{joined-own, joined-own-past}
use Rattle.snap_call.proofs.records.Records.held_of.Goals as goal

pub returns-in-Some : goal.returns-in-Some
returns-in-Some c =
    let rss = c.self.inside.spaces.list.items in
    let rs = c.in-Some.space.now in
    let lt : c.args.place < length rss = subst (λ l. c.args.place < length l) c.deref.ensures.value c.in-Some.ensures.lookup.3.0 in
    let at : rs ≡ get_or rss c.args.place rs = c.in-Some.ensures.lookup.1 ∙ ap (λ l. get_or l c.args.place rs) c.deref.ensures.value in
    IfOk-weaker c.listed.result _ _
    (λ all given. given
    ∙ ap (λ l. map (λ r. r.now) l ++ rs) c.new-list.ensures.items
    ∙ at
    ∙ sym (joined-own c.args.place rss rs c.self.invariant.0.from lt)
    ∙ ap (filter (λ r. r.namespace == c.args.place)) c.self.view_is)
    c.listed.ensures

pub returns-in-None : goal.returns-in-None
returns-in-None c =
    let rss = c.self.inside.spaces.list.items in
    let le : length rss ≤ c.args.place = subst (λ l. length l ≤ c.args.place) c.deref.ensures.value c.in-None.ensures.lookup.3 in
    ap (map (λ r. r.now)) c.new-list.ensures.items
    ∙ sym (joined-own-past c.args.place rss c.self.invariant.0.from le)
    ∙ ap (filter (λ r. r.namespace == c.args.place)) c.self.view_is
