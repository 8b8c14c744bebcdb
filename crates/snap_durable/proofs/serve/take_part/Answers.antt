use Rattle.std.proofs.Common.{◌≡◌, ◌++◌, ◌∙◌, ap, subst, arith, rules, length, List, ℕ}
use Rattle.std.proofs.lemmas.List.{nil_from_length}
use Rattle.snap_log.specs.Batches.{batched, emptied}
use Rattle.snap_log.specs.Log.{text_in, Keeps}
use Rattle.snap_log.proofs.GateLaws.{left_stands}
use Rattle.snap_durable.specs.Parts.{kept_of}
use Rattle.snap_durable.specs.Served.{AreAnswered, LeavesBatch}
use Rattle.snap_durable.proofs.PartLaws.{leaves_batch, leaves_none, timely_of, went_none, went_part}
use Rattle.snap_durable.proofs.serve.take_part.Goals as goal

pub returns-in-Err-clause-crash : goal.returns-in-Err-clause-crash
returns-in-Err-clause-crash g c = λ clean f left.
    leaves_none g.T.TakeLine.effect g.T.KeepLine.changes g.T.KeepLine.mark g.T.KeepLine.keeping g.T.KeepLine.settled c.args.taker.now c.args.batch.now (text_in c.args.log) c.args.bytes.now f _ (left_stands _ _ _ (c.args.log.kept clean) f left)

pub returns-then-is_empty-clause-went : goal.returns-then-is_empty-clause-went
returns-then-is_empty-clause-went g c =
    let taken : c.take.new.self ≡ batched c.args.batch.now c.args.bytes.now = search rules in
    let none : length c.take.new.self.whole ≡ 0 = grind arith in
    went_none g.T.TakeLine.effect g.T.KeepLine.changes g.T.KeepLine.mark g.T.KeepLine.keeping g.T.KeepLine.settled c.args.taker.now c.args.batch.now c.take.new.self c.args.log (g.W.Write.contents c.args.output.now) c.args.bytes.now taken (nil_from_length c.take.new.self.whole none)

pub returns-in-Ok-clause-went : goal.returns-in-Ok-clause-went
returns-in-Ok-clause-went g c =
    let v = c.args.taker.now in
    let k = c.in-Ok.kept.is_kept in
    let before = g.W.Write.contents c.args.output.now in
    let after = g.W.Write.contents c.serve_batch.new.output in
    let taken : c.take.new.self ≡ batched c.args.batch.now c.args.bytes.now = search rules in
    let whole : c.whole-2.result.now ≡ (batched c.args.batch.now c.args.bytes.now).whole = c.whole-2.ensures ∙ ap (λ z. z.whole) taken in
    went_part g.T.TakeLine.effect g.T.KeepLine.changes g.T.KeepLine.mark g.T.KeepLine.keeping g.T.KeepLine.settled v c.serve_batch.new.taker c.args.batch.now c.clear.new.self c.args.log c.in-Ok.kept.log before after c.args.bytes.now k
    (subst (λ (l : List ℕ). AreAnswered g.T.TakeLine.effect (g.T.KeepLine.keeping k v) l c.serve_batch.new.taker before after) whole c.in-Ok.ensures.answered)
    (c.clear.ensures ∙ ap emptied taken)
    c.in-Ok.ensures.clean
    (λ h. subst (λ (l : List ℕ). Keeps c.in-Ok.kept.log (text_in c.args.log ++ kept_of (g.T.KeepLine.changes v) (g.T.KeepLine.mark v) (record { whole = l; is_kept = k }))) whole (c.in-Ok.ensures.kept h))
    (timely_of g.T.TakeLine.effect g.T.KeepLine.changes g.T.KeepLine.mark g.T.KeepLine.keeping g.T.KeepLine.settled v c.args.batch.now c.args.bytes.now k c.requires.begun c.requires.timely)

pub returns-in-Err-serve_batch-clause-crash : goal.returns-in-Err-serve_batch-clause-crash
returns-in-Err-serve_batch-clause-crash g c = λ clean f left.
    let v = c.args.taker.now in
    let before = g.W.Write.contents c.args.output.now in
    let after = g.W.Write.contents c.serve_batch.new.output in
    let taken : c.take.new.self ≡ batched c.args.batch.now c.args.bytes.now = search rules in
    let whole : c.whole-2.result.now ≡ (batched c.args.batch.now c.args.bytes.now).whole = c.whole-2.ensures ∙ ap (λ z. z.whole) taken in
    leaves_batch g.T.TakeLine.effect g.T.KeepLine.changes g.T.KeepLine.mark g.T.KeepLine.keeping g.T.KeepLine.settled v c.args.batch.now (text_in c.args.log) c.args.bytes.now f before after
    (subst (λ (l : List ℕ). LeavesBatch g.T.TakeLine.effect g.T.KeepLine.changes g.T.KeepLine.mark g.T.KeepLine.keeping v (text_in c.args.log) l f before after) whole (c.in-Err-serve_batch.ensures.crash clean f left))
    (λ k. timely_of g.T.TakeLine.effect g.T.KeepLine.changes g.T.KeepLine.mark g.T.KeepLine.keeping g.T.KeepLine.settled v c.args.batch.now c.args.bytes.now k c.requires.begun c.requires.timely)
