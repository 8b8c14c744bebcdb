use Rattle.std.proofs.Common.{◌≡◌, ◌++◌, ◌+◌, ◌-◌, ◌∙◌, List, ℕ, [], length, take, drop, refl, sym, ap, subst, arith, take-append-drop}
use Rattle.std.proofs.lemmas.List.{take_rest}
use lib.Seq.{take-add}
use Rattle.snap_log.specs.Log.{text_in}
use Rattle.snap_durable.specs.Parts.{LeavesPart}
use Rattle.snap_durable.specs.Served.{Went}
use Rattle.snap_durable.proofs.BatchLaws.{begun_next}
use Rattle.snap_durable.proofs.CameLaws.{if_ok, if_stopped}
use Rattle.snap_durable.proofs.PartLaws.{leaves_more, leaves_next, went_more, went_none}
use Rattle.snap_durable.proofs.serve.take_read.Goals as goal

-- one byte behind those before it
one_more : (bytes : List ℕ) (at : ℕ) → take at bytes ++ take (at + 1 - at) (drop at bytes) ≡ take (at + 1) bytes
one_more bytes at =
    let one : at + 1 - at ≡ 1 = omega arith in
    ap (λ (n : ℕ). take at bytes ++ take n (drop at bytes)) one ∙ sym (take-add at 1 bytes)

-- and all that are left
all_more : (bytes : List ℕ) (at : ℕ) → take at bytes ++ take (length bytes - at) (drop at bytes) ≡ bytes
all_more bytes at = ap (λ (l : List ℕ). take at bytes ++ l) (take_rest bytes at) ∙ take-append-drop at bytes

pub bytes-init : goal.bytes-init
bytes-init g c = record {
  within = omega arith;
  begun = c.requires;
  went = went_none g.T.TakeLine.effect g.T.KeepLine.changes g.T.KeepLine.mark g.T.KeepLine.keeping g.T.KeepLine.settled c.args.taker.now c.args.batch.now c.args.batch.now c.args.log (g.W.Write.contents c.args.output.now) [] refl c.requires.none;
}

pub bytes-preserved : goal.bytes-preserved
bytes-preserved g c = record {
  within = omega arith;
  begun = begun_next c.bytes.batch c.take_part.new.batch (take (c.bytes.at + 1 - c.bytes.at) (drop c.bytes.at c.args.bytes.now)) c.bytes.invariant.begun c.in-Ok.ensures.went.held;
  went = subst (λ (l : List ℕ). Went g.T.TakeLine.effect g.T.KeepLine.changes g.T.KeepLine.mark g.T.KeepLine.keeping g.T.KeepLine.settled c.args.taker.now c.args.batch.now c.args.log (g.W.Write.contents c.args.output.now) l c.take_part.new.taker c.take_part.new.batch c.in-Ok.next (g.W.Write.contents c.take_part.new.output))
      (one_more c.args.bytes.now c.bytes.at)
      (went_more g.T.TakeLine.effect g.T.KeepLine.changes g.T.KeepLine.mark g.T.KeepLine.keeping g.T.KeepLine.settled c.args.taker.now c.bytes.taker c.args.batch.now c.bytes.batch c.args.log c.bytes.log (g.W.Write.contents c.args.output.now) (g.W.Write.contents c.bytes.output) (g.W.Write.contents c.take_part.new.output)
      (take c.bytes.at c.args.bytes.now) _ c.bytes.invariant.went c.take_part.new.taker c.take_part.new.batch c.in-Ok.next c.in-Ok.ensures.went);
}

pub returns-in-Err-clause-crash : goal.returns-in-Err-clause-crash
returns-in-Err-clause-crash g c = λ clean f left.
    let v = c.args.taker.now in
    let s = c.args.batch.now in
    let text : List ℕ = text_in c.args.log in
    let bytes : List ℕ = c.args.bytes.now in
    let at : ℕ = c.bytes.at in
    let before = g.W.Write.contents c.args.output.now in
    let after = g.W.Write.contents c.take_part.new.output in
    let leaves : LeavesPart g.T.TakeLine.effect g.T.KeepLine.changes g.T.KeepLine.mark g.T.KeepLine.keeping g.T.KeepLine.settled v s text (take (at + 1) bytes) f before after =
    subst (λ (l : List ℕ). LeavesPart g.T.TakeLine.effect g.T.KeepLine.changes g.T.KeepLine.mark g.T.KeepLine.keeping g.T.KeepLine.settled v s text l f before after) (one_more bytes at)
    (leaves_next g.T.TakeLine.effect g.T.KeepLine.changes g.T.KeepLine.mark g.T.KeepLine.keeping g.T.KeepLine.settled v c.bytes.taker s c.bytes.batch c.args.log c.bytes.log before (g.W.Write.contents c.bytes.output) after (take at bytes) _ c.bytes.invariant.went f
    (c.in-Err.ensures.clean clean) (c.in-Err.ensures.crash clean f left)) in
    subst (λ (l : List ℕ). LeavesPart g.T.TakeLine.effect g.T.KeepLine.changes g.T.KeepLine.mark g.T.KeepLine.keeping g.T.KeepLine.settled v s text l f before after) (take-append-drop (at + 1) bytes)
    (leaves_more g.T.TakeLine.effect g.T.KeepLine.changes g.T.KeepLine.mark g.T.KeepLine.keeping g.T.KeepLine.settled v s text (take (at + 1) bytes) (drop (at + 1) bytes) f before after leaves)

pub returns-clause-went : goal.returns-clause-went
returns-clause-went g c =
    if_ok c.take_part-2.result (λ log_new went.
    subst (λ (l : List ℕ). Went g.T.TakeLine.effect g.T.KeepLine.changes g.T.KeepLine.mark g.T.KeepLine.keeping g.T.KeepLine.settled c.args.taker.now c.args.batch.now c.args.log (g.W.Write.contents c.args.output.now) l c.take_part-2.new.taker c.take_part-2.new.batch log_new (g.W.Write.contents c.take_part-2.new.output))
    (all_more c.args.bytes.now c.bytes.at)
    (went_more g.T.TakeLine.effect g.T.KeepLine.changes g.T.KeepLine.mark g.T.KeepLine.keeping g.T.KeepLine.settled c.args.taker.now c.bytes.taker c.args.batch.now c.bytes.batch c.args.log c.bytes.log (g.W.Write.contents c.args.output.now) (g.W.Write.contents c.bytes.output) (g.W.Write.contents c.take_part-2.new.output)
    (take c.bytes.at c.args.bytes.now) _ c.bytes.invariant.went c.take_part-2.new.taker c.take_part-2.new.batch log_new went)) c.take_part-2.ensures.went

pub returns-clause-crash : goal.returns-clause-crash
returns-clause-crash g c =
    let before = g.W.Write.contents c.args.output.now in
    let after = g.W.Write.contents c.take_part-2.new.output in
    if_stopped c.take_part-2.result c.take_part-2.ensures.clean (λ ended was crash. λ clean f left.
    subst (λ (l : List ℕ). LeavesPart g.T.TakeLine.effect g.T.KeepLine.changes g.T.KeepLine.mark g.T.KeepLine.keeping g.T.KeepLine.settled c.args.taker.now c.args.batch.now (text_in c.args.log) l f before after) (all_more c.args.bytes.now c.bytes.at)
    (leaves_next g.T.TakeLine.effect g.T.KeepLine.changes g.T.KeepLine.mark g.T.KeepLine.keeping g.T.KeepLine.settled c.args.taker.now c.bytes.taker c.args.batch.now c.bytes.batch c.args.log c.bytes.log before (g.W.Write.contents c.bytes.output) after (take c.bytes.at c.args.bytes.now) _ c.bytes.invariant.went f
    (was clean) (crash clean f left))) c.take_part-2.ensures.crash
