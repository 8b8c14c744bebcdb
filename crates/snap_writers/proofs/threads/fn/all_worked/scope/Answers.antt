use Rattle.std.proofs.Common.{rules, arith, ◌≡◌, ◌+◌, [], ◌∷◌, length, length-append, subst, ap, ◌∙◌}
use Rattle.std.specs.Vec.Iter.{into_iter_items}
use Rattle.snap_writers.specs.Jobs.{Each, HasStoppedWorker, IsWorked}
use Rattle.snap_writers.specs.Starting.{IsAssigned, IsStarted}
use Rattle.snap_writers.proofs.Every.{each_more}
use Rattle.snap_writers.proofs.Walking.{unstopped}
use Rattle.snap_writers.proofs.threads.fn.all_worked.scope.Goals as goal
use Rattle.snap_writers.proofs.threads.fn.all_worked.scope.Goals.{in-Ok, in-Err}

pub loop-assignment-init : goal.loop-assignment-init
loop-assignment-init g c =
    let e : into_iter_items c.into_iter-assignment-iterator.result ≡ c.captures.assignments.items = search rules in
    let h : c.captures.started.items ≡ [] = c.requires.started.0 in
    record {
      count = rw (e, h) (omega (arith, c.requires.assigned.count));
      assigned = rw (e, h) c.requires.assigned.each;
      started = rw h tt;
      room = search rules;
    }

pub loop-assignment-preserved : goal.loop-assignment-preserved
loop-assignment-preserved g c =
    let was = c.loop-assignment.invariant in
    let e : into_iter_items c.loop-assignment.assignment-iterator ≡ c.in-Some.assignment ∷ into_iter_items c.next.new.self = search rules in
    let p = c.push_reserved.ensures.items in
    let assigned = subst (λ xs. Each (λ k a. IsAssigned c.captures.jobs.now (k + 1) c.captures.workers a) (length c.loop-assignment.started.items) xs) e was.assigned in
    let stops = HasStoppedWorker (g.G.Gate.answers c.captures.gate.now) in
    let one : IsStarted c.captures.gate.now stops c.captures.layer_inodes c.captures.jobs.now (length c.loop-assignment.started.items + 1) c.captures.workers c.match-spawn_with.one = elim c.match-spawn_with.branch [
      | in-Ok w ↦ (let q = w.in-Ok.ensures.ok in rw w.one-is (ap (λ x. x.layer_inodes) q, ap (λ x. x.jobs.now) q, ap (λ x. x.worker) q ∙ assigned.0.number, ap (λ x. x.workers) q, ap (λ x. x.gate.now) q))
      | in-Err w ↦ rw w.one-is (subst (λ k. IsWorked (stops k) c.captures.layer_inodes c.captures.jobs.now k c.captures.workers w.without_thread.result) assigned.0.number (unstopped ⊥ (stops _) _ _ _ _ (λ none. absurd none) (w.without_thread.ensures c.captures.layer_inodes)))
    ] in
    let more : length c.push_reserved.new.self.items ≡ length c.loop-assignment.started.items + 1 = rw p (length-append _ _) in
    record {
      count = omega (arith, was.count, ap length e, more);
      assigned = rw more assigned.1;
      started = rw p (each_more _ _ _ was.started one);
      room = search rules;
    }
