use Rattle.std.proofs.Common.{◌∙◌, ◌≡◌, ◌<◌, ◌≤◌, List, length, not, true≢false, get_or, inl, inr, sym, ap, subst, arith}
use Rattle.std.proofs.lemmas.Bool.{cases_lt}
use Rattle.snap_record.specs.declared.record.Record.{Record}
use Rattle.snap_call.proofs.Joined.{is_nil, nil_is, records_at, records_past}
use Rattle.snap_call.proofs.spaces.Spaces.has_any.Goals as goal

pub returns-in-Some : goal.returns-in-Some
returns-in-Some c =
    let rss : List (List Record) = c.args.self.now.list.items in
    let place = c.args.place in
    let rs : List Record = c.in-Some.space.now in
    let low : place < length rss = subst (λ (l : List (List Record)). place < length l) c.deref.ensures.value c.in-Some.ensures.lookup.3.0 in
    let at : rs ≡ get_or rss place rs = c.in-Some.ensures.lookup.1 ∙ ap (λ (l : List (List Record)). get_or l place rs) c.deref.ensures.value in
    ap not (nil_is c.is_empty.result rs c.is_empty.ensures) ∙ ap (λ ts. not (is_nil ts)) at ∙ sym (records_at place 0 place rss rs c.requires.from (omega arith) low)

pub returns-in-None : goal.returns-in-None
returns-in-None c =
    let rss : List (List Record) = c.args.self.now.list.items in
    let place = c.args.place in
    let past : length rss ≤ place = elim (cases_lt place (length rss)) [
      | inl low ↦ absurd (true≢false (sym (c.in-None.ensures.lookup.2 (subst (λ (l : List (List Record)). place < length l) (sym c.deref.ensures.value) low))))
      | inr high ↦ high
    ] in
    sym (records_past place 0 place rss c.requires.from (omega arith) past)
