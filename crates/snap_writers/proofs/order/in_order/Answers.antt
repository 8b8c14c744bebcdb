use Rattle.std.proofs.Common.{rules, arith, ◌≡◌, ◌+◌, List, length, length-append, [], ◌∷◌, ◌++◌, refl, sym, ap, subst, ◌∙◌}
use Rattle.std.specs.Prelude.{get_or}
use Rattle.snap_writers.specs.declared.job.Ended.{Ended}
use Rattle.snap_writers.specs.Jobs.{ends_at}
use Rattle.snap_writers.proofs.Turning.{Next, turns_begin, in_range, turned, ends_are, taken_next, next_one, on, round_again}
use Rattle.snap_writers.proofs.order.in_order.Goals as goal
use Rattle.snap_writers.proofs.order.in_order.Goals.{then-turn-all, else-turn-all}

pub loop-init : goal.loop-init
loop-init c = record {
  turns = rw c.requires.room.0 (turns_begin _ _ _ c.requires.worked.0 c.requires.worked.1);
  turn = omega (arith, c.requires.workers);
  round = omega arith;
  count = rw c.requires.room.0 refl;
  all = c.requires.worked.0;
  room = c.requires.room.1;
}

pub bounds-as_slice-round : goal.bounds-as_slice-round
bounds-as_slice-round c =
    let was = c.loop.invariant in
    let e = ends_are c.args.all.now c.loop.turn c.index-all-turn.result (omega (arith, was.turn, was.all)) in
    let low = in_range c.args.workers c.loop.turn c.loop.round c.loop.index c.args.jobs.now c.loop-item.result c.loop.ends.items c.args.all.now c.loop-test.true was.turn was.turns in
    omega (arith, low, ap length e, ap length c.as_slice.ensures, ap (λ w. length w.ends) c.index-all-turn.is)

pub loop-preserved : goal.loop-preserved
loop-preserved c =
    let was = c.loop.invariant in
    let e = ends_are c.args.all.now c.loop.turn c.index-all-turn.result (omega (arith, was.turn, was.all)) in
    let low = in_range c.args.workers c.loop.turn c.loop.round c.loop.index c.args.jobs.now c.loop-item.result c.loop.ends.items c.args.all.now c.loop-test.true was.turn was.turns in
    let mine = ends_at c.args.all.now c.loop.turn in
    let same : c.as_slice.result.now ≡ mine = c.as_slice.ensures ∙ sym e in
    let p = c.push_reserved.ensures.items ∙ ap (λ (l : List Ended). c.loop.ends.items ++ get_or l c.loop.round _ ∷ []) same in
    let one = subst (λ es. Next c.args.workers c.loop.turn c.loop.round (c.loop.index + 1) c.args.jobs.now es c.args.all.now) (sym p) (next_one _ _ _ _ _ c.loop-item.result c.loop.ends.items c.args.all.now _ c.loop-test.true was.turn (taken_next mine c.loop.round _ low) was.turns) in
    let more : length c.push_reserved.new.self.items ≡ length c.loop.ends.items + 1 = rw p (length-append _ _) in
    elim c.if-turn-all.branch [
      | then-turn-all w ↦ record {
        turns = rw (w.turn-is, w.round-is) (round_again _ _ _ _ _ _ _ (omega (arith, w.if-turn-all.true, was.all)) one);
        turn = rw w.turn-is (omega (arith, c.requires.workers));
        round = rw w.round-is (omega (arith, was.round));
        count = omega (arith, more, was.count);
        all = was.all;
        room = search rules;
      }
      | else-turn-all w ↦ record {
        turns = rw (w.turn-is, w.round-is) (on _ _ _ _ _ _ _ (omega (arith, w.if-turn-all.false, was.turn, was.all)) one);
        turn = rw w.turn-is (omega (arith, w.if-turn-all.false, was.turn, was.all));
        round = rw w.round-is (omega (arith, was.round));
        count = omega (arith, more, was.count);
        all = was.all;
        room = search rules;
      }
    ]

pub returns : goal.returns
returns c =
    let was = c.loop.invariant in
    let last : length c.args.jobs.now ≡ c.loop.index = search rules in
    rw c.into.ensures (record {
      count = omega (arith, was.count, last);
      each = turned _ _ _ _ _ _ _ last was.turn was.turns;
    })
