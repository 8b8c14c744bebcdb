use Rattle.std.proofs.Common.{◌≡◌, ◌++◌, ◌∷◌, [], ℕ, BTreeMap, sym, ap, subst, ◌∙◌, arith}
use Rattle.std.specs.Option.{option_copied}
use Rattle.snap_layer.specs.Counts.{name_count}
use Rattle.snap_layer.specs.Ended.{AreMet}
use Rattle.snap_layer.proofs.Ending.{all_end, has_last, met_alone, met_more, one_name}
use Rattle.snap_layer.proofs.table.Table.ended_by.Goals.{else-links-gt1-via-then-links-gt1+in_ok-meet+else-branch-links, else-links-gt1-via-else-links-gt1}
use Rattle.snap_layer.proofs.table.Table.ended_by.Goals as goal

pub meet-requires : goal.meet-requires
meet-requires c =
    let k = c.in-Some.number in
    let there = c.requires.there in
    let links = c.link_count-links.ensures in
    let one = one_name k there.0 there.1 c.args.node (sym c.number.ensures ∙ c.in-Some.is) in
    omega (arith, one, there.2 k (omega (arith, links, c.if-links-gt1.true)), there.3 k, links)

pub returns-in-Some-body-clause-ended : goal.returns-in-Some-body-clause-ended
returns-in-Some-body-clause-ended c = λ pre q met few.
    let t = c.args.self.now in
    let k = c.in-Some.number in
    let post = pre ++ (q, c.args.node) ∷ [] in
    let number = sym c.number.ensures ∙ c.in-Some.is in
    let links = c.link_count-links.ensures in
    let all : name_count k post ≡ name_count k t.entries = elim c.else-links-gt1.branch [
      | else-links-gt1-via-then-links-gt1+in_ok-meet+else-branch-links w ↦ omega (arith, w.in_ok-meet.ensures.ok, w.if-branch-links.false, met k (omega (arith, links, w.if-links-gt1.true)), one_name k pre q c.args.node number, links)
      | else-links-gt1-via-else-links-gt1 w ↦ omega (arith, w.if-links-gt1.false, links, few k, has_last t k pre q c.args.node number)
    ] in
    all_end t c.args.node k c.in-Some-body.body.now c.blocks-in-Some-body.result post number (sym c.body.ensures ∙ ap option_copied c.in-Some-body.is) c.blocks-in-Some-body.ensures all

pub returns-in-Some-body-clause-met : goal.returns-in-Some-body-clause-met
returns-in-Some-body-clause-met c = λ pre q met.
    let t = c.args.self.now in
    let k = c.in-Some.number in
    let number = sym c.number.ensures ∙ c.in-Some.is in
    let counted : AreMet t (pre ++ (q, c.args.node) ∷ []) c.else-links-gt1.met.entries = elim c.else-links-gt1.branch [
      | else-links-gt1-via-then-links-gt1+in_ok-meet+else-branch-links w ↦ subst (λ (m : BTreeMap ℕ ℕ). AreMet t (pre ++ (q, c.args.node) ∷ []) m.entries) (sym w.met-is) (met_more t pre q c.args.node k c.args.met.now.entries w.meet.new.met.entries number met w.in_ok-meet.ensures.met)
      | else-links-gt1-via-else-links-gt1 w ↦ subst (λ (m : BTreeMap ℕ ℕ). AreMet t (pre ++ (q, c.args.node) ∷ []) m.entries) (sym w.met-is) (met_alone t pre q c.args.node k c.args.met.now.entries number (omega (arith, w.if-links-gt1.false, c.link_count-links.ensures)) met)
    ] in
    counted

pub returns-in-None-clause-met : goal.returns-in-None-clause-met
returns-in-None-clause-met c = λ pre q met.
    let t = c.args.self.now in
    let k = c.in-Some.number in
    let number = sym c.number.ensures ∙ c.in-Some.is in
    let counted : AreMet t (pre ++ (q, c.args.node) ∷ []) c.else-links-gt1.met.entries = elim c.else-links-gt1.branch [
      | else-links-gt1-via-then-links-gt1+in_ok-meet+else-branch-links w ↦ subst (λ (m : BTreeMap ℕ ℕ). AreMet t (pre ++ (q, c.args.node) ∷ []) m.entries) (sym w.met-is) (met_more t pre q c.args.node k c.args.met.now.entries w.meet.new.met.entries number met w.in_ok-meet.ensures.met)
      | else-links-gt1-via-else-links-gt1 w ↦ subst (λ (m : BTreeMap ℕ ℕ). AreMet t (pre ++ (q, c.args.node) ∷ []) m.entries) (sym w.met-is) (met_alone t pre q c.args.node k c.args.met.now.entries number (omega (arith, w.if-links-gt1.false, c.link_count-links.ensures)) met)
    ] in
    counted
