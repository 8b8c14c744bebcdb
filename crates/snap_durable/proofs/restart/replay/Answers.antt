use Rattle.std.proofs.Common.{◌≡◌, ◌≤◌, ◌+◌, ℕ, List, ◌∙◌, sym, subst, length, length-take, arith}
use Rattle.snap_log.specs.Log.{text_in, IsHonest}
use Rattle.snap_durable.proofs.CameLaws.{carried_more, carried_all}
use Rattle.snap_durable.proofs.restart.replay.Goals as goal

pub returns-clause-done : goal.returns-clause-done
returns-clause-done g c = λ clean.
    let size : c.len-len.result ≡ length (text_in c.args.log.now) = c.len-len.ensures (c.chunks.invariant.clean clean) in
    let all : length (text_in c.args.log.now) ≤ c.chunks.at = omega arith in
    let long : length (text_in c.chunks.log) ≤ c.chunks.at = subst (λ (l : List ℕ). length l ≤ c.chunks.at) (sym c.chunks.invariant.text) all in
    carried_all g.T.TakeLine.effect _ _ _ c.chunks.at c.chunks.log (text_in c.args.log.now) c.chunks.invariant.carried clean long c.chunks.invariant.text

pub chunks-preserved : goal.chunks-preserved
chunks-preserved g c =
    let n : ℕ = c.min-n.result in
    let within : c.chunks.at + n ≤ c.len-len.result = omega arith in
    let low : IsHonest c.replay_next.new.log → c.chunks.at + n ≤ length (text_in c.chunks.log) = λ h.
    let size : c.len-len.result ≡ length (text_in c.args.log.now) = c.len-len.ensures (c.chunks.invariant.clean (c.in_ok-replay_next.ensures.clean h)) in
    subst (λ (l : List ℕ). c.chunks.at + n ≤ length l) (sym c.chunks.invariant.text) (subst (λ (k : ℕ). c.chunks.at + n ≤ k) size within) in
    record {
      carried = carried_more g.T.TakeLine.effect _ _ _ _ _ c.chunks.at n c.replay_next.new.buf c.chunks.log c.replay_next.new.log c.chunks.invariant.carried c.in_ok-replay_next.ensures.answered c.in_ok-replay_next.ensures.batch
          c.in_ok-replay_next.ensures.clean c.in_ok-replay_next.ensures.text low (c.in_ok-replay_next.ensures.read n (omega (arith, length-take n c.chunks.bytes)));
      within = within;
      text = c.in_ok-replay_next.ensures.text ∙ c.chunks.invariant.text;
      crash = λ f left. c.chunks.invariant.crash f (c.in_ok-replay_next.ensures.crash f left);
      clean = λ h. c.chunks.invariant.clean (c.in_ok-replay_next.ensures.clean h);
    }
