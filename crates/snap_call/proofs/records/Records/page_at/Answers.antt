use Rattle.std.proofs.Common.{◌≡◌, [], ◌∷◌, ◌++◌, Some, sym, ap, ◌∙◌, arith}
use Rattle.std.specs.Option.{option_copied, option_to_list}
use Rattle.std.specs.Cmp.Lexicographic.{slice_cmp}
use Rattle.std.specs.Ordering.{is_lt, nat_cmp}
use Rattle.std.specs.Prelude.{◌==◌, bytes_eq}
use Rattle.std.proofs.lemmas.Bool.{and_parts, eqb-true}
use Rattle.snap_call.specs.Records.{is_named, record_at, info_page}
use Rattle.snap_call.proofs.Lists.{find-passes}
use Rattle.snap_call.proofs.Named.{page-one, page-unasked, page-before, page-none}
use Rattle.snap_call.proofs.records.Records.page_at.Goals as goal
use Rattle.snap_call.proofs.records.Records.page_at.Goals.{then-most-gt0+then-lt+then-matches+in_ok-info+in_ok-push, else-most-gt0, else-most-gt0-via-then-most-gt0+then-lt+else-matches, else-most-gt0-via-then-most-gt0+else-lt, else-most-gt0-via-else-most-gt0}

pub returns : goal.returns
returns c =
    let place = c.args.place in
    let after = c.args.after.now in
    let most = c.args.most in
    let asked = c.args.asked.now in
    let r = c.in-Some.record.now in
    let found : record_at place c.args.key.now c.args.self.now ≡ Some r = sym c.record_at.ensures ∙ ap option_copied c.in-Some.is in
    let of : r.namespace ≡ place = eqb-true r.namespace place (and_parts (r.namespace == place) (bytes_eq r.key c.args.key.now) (find-passes (is_named place c.args.key.now) c.args.self.now r found)).0 in
    let shown : info_page place after most asked (r ∷ []) ≡ info_page place after most asked (option_to_list (record_at place c.args.key.now c.args.self.now)) = ap (λ o. info_page place after most asked (option_to_list o)) (sym found) in
    elim c.if-most-gt0.branch [
      | then-most-gt0+then-lt+then-matches+in_ok-info+in_ok-push w ↦
          w.infos-is
          ∙ w.in_ok-push.ensures.ok
          ∙ ap (λ l. l ++ w.in_ok-info.field-0 ∷ []) c.new-infos.ensures
          ∙ ap (λ i. i ∷ []) w.in_ok-info.ensures
          ∙ sym (page-one place after most asked r of (omega (arith, w.if-most-gt0.true)) (ap (λ k. is_lt (slice_cmp nat_cmp after k)) (sym w.as_str.ensures) ∙ sym w.lt.ensures ∙ w.if-lt.true) (sym w.matches.ensures ∙ w.if-matches.true))
          ∙ shown
      | else-most-gt0 w ↦ elim w.else-most-gt0.branch [
        | else-most-gt0-via-then-most-gt0+then-lt+else-matches v ↦ w.infos-is ∙ c.new-infos.ensures ∙ sym (page-unasked place after most asked r of (sym v.matches.ensures ∙ v.if-matches.false)) ∙ shown
        | else-most-gt0-via-then-most-gt0+else-lt v ↦
            w.infos-is ∙ c.new-infos.ensures ∙ sym (page-before place after most asked r of (ap (λ k. is_lt (slice_cmp nat_cmp after k)) (sym v.as_str.ensures) ∙ sym v.lt.ensures ∙ v.if-lt.false)) ∙ shown
        | else-most-gt0-via-else-most-gt0 v ↦ w.infos-is ∙ c.new-infos.ensures ∙ sym (page-none place after most asked r of (omega (arith, v.if-most-gt0.false))) ∙ shown
      ]
    ]
