use Rattle.std.proofs.Common.{◌≡◌, ◌≤◌, ◌<◌, ◌+◌, ◌-◌, List, [], ◌∷◌, ◌++◌, ℕ, length, take, drop, refl, sym, ap, ◌∙◌, subst, arith, Some, append_assoc, append-nil, Bool}
use Rattle.std.specs.Prelude.{if◌then◌else◌}
use Rattle.std.proofs.lemmas.Bool.{eqb-true}
use Rattle.std.proofs.lemmas.List.{drop_all}
use Rattle.memchr.specs.Find.{IsFirstByte, is_byte}
use Rattle.snap_log.proofs.OpenLaws.{first_in_rest, first_slice, within_rest}
use Rattle.snap_durable.proofs.FileLaws.{line_at}
use Rattle.snap_durable.proofs.turn.add_text.Goals as goal

pub lines-init : goal.lines-init
lines-init c = (omega arith, refl)

pub slice_bounds-memchr-count : goal.slice_bounds-memchr-count
slice_bounds-memchr-count c = c.lines.invariant.0

pub slice_bounds-memchr-start : goal.slice_bounds-memchr-start
slice_bounds-memchr-start c = omega (arith, c.lines.invariant.0)

pub lines-smaller : goal.lines-smaller
lines-smaller c =
    let first = first_in_rest c.args.text.now c.lines.from (Some c.in-Some.n) (subst (IsFirstByte (is_byte 10) _) c.in-Some.is c.memchr.ensures) in
    let within : c.lines.from + c.in-Some.n + 1 ≤ length c.args.text.now = within_rest c.args.text.now c.lines.from c.in-Some.n first in
    let less : length c.args.text.now - (c.lines.from + c.in-Some.n + 1) < length c.args.text.now - c.lines.from = omega (arith, within) in
    less

pub lines-preserved : goal.lines-preserved
lines-preserved c =
    let text : List ℕ = c.args.text.now in
    let from = c.lines.from in
    let n = c.in-Some.n in
    let behind : List ℕ = drop (from + n + 1) text in
    let first = first_in_rest text from (Some n) (subst (IsFirstByte (is_byte 10) _) c.in-Some.is c.memchr.ensures) in
    let slice : List ℕ = take (from + n - from) (drop from text) in
    let added : c.push.new.self ≡ c.lines.lines ++ (slice ++ 10 ∷ []) = c.in_ok-push.ensures.added ∙ ap (λ (b : Bool). if b then c.lines.lines ++ (slice ++ 10 ∷ []) else c.lines.lines) c.if-not-branch.false in (
      within_rest text from n first,
      ap (λ (l : List ℕ). l ++ behind) added ∙ append_assoc c.lines.lines (slice ++ 10 ∷ []) behind ∙ ap (λ (l : List ℕ). c.lines.lines ++ l) (append_assoc slice (10 ∷ []) behind)
          ∙ ap (λ (l : List ℕ). c.lines.lines ++ (l ++ 10 ∷ behind)) (first_slice text from n) ∙ ap (λ (l : List ℕ). c.lines.lines ++ l) (sym (line_at text from n first)) ∙ c.lines.invariant.1,
    )

pub returns : goal.returns
returns c = record {
  added = λ is.
      let text : List ℕ = c.args.text.now in
      let end : c.lines.from ≡ length text = eqb-true c.lines.from (length text) is in
      sym (append-nil c.lines.lines) ∙ ap (λ (l : List ℕ). c.lines.lines ++ l) (sym (drop_all c.lines.from text (omega (arith, end)))) ∙ c.lines.invariant.1;
}
