use Rattle.std.proofs.Common.{◌≡◌, Option, Some, None, Bool, sym, ap, ◌∙◌}
use Rattle.std.specs.Prelude.{if◌then◌else◌}
use Rattle.snap_call.specs.declared.reply.Reply.TheVariants as replies
use Rattle.snap_script.specs.declared.answer.Answer.{Answer}
use Rattle.snap_script.specs.declared.answer.Answer.TheVariants as answers
use Rattle.snap_session.specs.Opened.{OpenedValue, ScriptValue}
use Rattle.snap_session.specs.Commands.{started, store_begun, answer_of_step}
use Rattle.snap_session.specs.Script.{with_store}
use Rattle.snap_session.proofs.script.Script.start.Goals as goal

pub returns-in-Ok : goal.returns-in-Ok
returns-in-Ok g c =
    let begun = c.in-Ok.ensures.first in
    let made : store_begun c.args.config ≡ started (c.in-Ok.world, begun.0) = ap started begun.2 in
    let stands : started (c.in-Ok.world, begun.0) ≡ (Some (record { world = c.in-Ok.world }), answers.Reply replies.Done) =
    ap (λ (t : Bool). let z : Option OpenedValue × Answer = if t then (Some (record { world = c.in-Ok.world }), answers.Reply replies.Done) else (None, answer_of_step 0 0 c.in-Ok.world begun.0) in z) begun.1 in
    ap (λ (x : Option OpenedValue × Answer). with_store c.args.self.now x) (made ∙ stands ∙ ap (λ (o : OpenedValue). (Some o, answers.Reply replies.Done)) (sym c.new.ensures))
    ∙ ap (λ (s : ScriptValue). (record s { store = Some c.new.result }, answers.Reply replies.Done)) (sym c.self.view_is)
