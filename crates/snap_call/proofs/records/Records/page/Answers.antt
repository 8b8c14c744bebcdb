use Rattle.std.proofs.Common.{◌≡◌, ◌<◌, ◌≤◌, length, get_or, subst, ap, ◌∙◌}
use Rattle.std.proofs.lemmas.Result.{IfOk-weaker}
use Rattle.snap_call.specs.Records.{info_page}
use Rattle.snap_call.proofs.Joined.{lent-of, joined-page, joined-page-past}
use Rattle.snap_call.proofs.records.Records.page.Goals as goal

pub returns-in-Some : goal.returns-in-Some
returns-in-Some c =
    let rss = c.self.inside.spaces.list.items in
    let rs = c.in-Some.space.now in
    let lt : c.args.place < length rss = subst (λ l. c.args.place < length l) c.deref.ensures.value c.in-Some.ensures.lookup.3.0 in
    let at : rs ≡ get_or rss c.args.place rs = c.in-Some.ensures.lookup.1 ∙ ap (λ l. get_or l c.args.place rs) c.deref.ensures.value in
    let of = lent-of rss c.self.inside.spaces.count c.self.invariant.0 c.args.place lt rs at in
    IfOk-weaker c.page.result _ _
    (λ infos given. given c.args.place of
    ∙ ap (info_page c.args.place c.args.after.now c.args.most c.args.asked.now) at
    ∙ joined-page c.args.place c.args.after.now c.args.asked.now c.args.most rss rs c.self.invariant.0.from lt
    ∙ ap (info_page c.args.place c.args.after.now c.args.most c.args.asked.now) c.self.view_is)
    c.page.ensures

pub returns-in-None : goal.returns-in-None
returns-in-None c =
    let rss = c.self.inside.spaces.list.items in
    let le : length rss ≤ c.args.place = subst (λ l. length l ≤ c.args.place) c.deref.ensures.value c.in-None.ensures.lookup.3 in
    c.new.ensures
    ∙ joined-page-past c.args.place c.args.after.now c.args.asked.now c.args.most rss c.self.invariant.0.from le
    ∙ ap (info_page c.args.place c.args.after.now c.args.most c.args.asked.now) c.self.view_is
