use Rattle.std.proofs.Common.{◌≡◌, ◌≤◌, ◌++◌, ◌∷◌, ℕ, List, [], length, Bool, true, sym, ap, ◌∙◌, subst, arith}
use Rattle.std.proofs.lemmas.Bool.Decides.{nat_tests}
use Rattle.std.specs.Prelude.{if◌then◌else◌}
use Rattle.snap_log.specs.Texts.{is_line}
use Rattle.snap_session.specs.Kept.{KeptValue}
use Rattle.snap_session.specs.Saving.{SavesRolled, saving_of}
use Rattle.snap_session.specs.declared.saving.Saving.{Saving}
use Rattle.snap_session.specs.declared.saving.Saving.TheVariants as savings
use Rattle.snap_durable.specs.Parts.{line_limit}
use Rattle.snap_durable.proofs.RollLaws.{line_open}
use Rattle.snap_durable.proofs.roll.roll_of.Goals as goal

pub returns-in-Lines-clause-can : goal.returns-in-Lines-clause-can
returns-in-Lines-clause-can g c =
    let v : KeptValue = c.args.server.now in
    let text : List ℕ = c.as_bytes-bytes.result.now in
    let saving : Saving = c.in_ok-saved.field-0 in
    let is : saving_of v.server.stepped.script.store ≡ saving = ap (λ (k : KeptValue). saving_of k.server.stepped.script.store) (sym c.in_ok-rolls.ensures.same) ∙ sym c.in_ok-saved.ensures.saved in
    let pushed : is_line text ≡ true = sym c.in_ok-push.ensures.is ∙ c.if-not-branch.false in
    let few = c.if-bytes-gt-LIMIT.false in
    let short : length text ≤ line_limit = grind (arith, nat_tests) in
    record {
      text = text;
      fed = c.in_ok-push.ensures.added ∙ ap (λ (b : Bool). if b then c.new-line.result ++ (text ++ 10 ∷ []) else c.new-line.result) c.if-not-branch.false ∙ ap (λ (l : List ℕ). l ++ (text ++ 10 ∷ [])) c.new-line.ensures;
      one = line_open text pushed;
      short = short;
      rolls = c.in_ok-rolls.ensures.rolls c.if-not-branch-2.false;
      all = is ∙ c.in-Lines.is;
      makes = subst (λ (k : KeptValue). SavesRolled k.server.stepped.script.store (savings.Lines c.in-Lines.saved)) c.in_ok-rolls.ensures.same (subst (λ (s : Saving). SavesRolled c.rolls.new.self.server.stepped.script.store s) c.in-Lines.is c.in_ok-saved.ensures.rolled);
    }
