use Rattle.std.proofs.Common.{rules, arith, ◌≡◌, ◌+◌, [], ◌∷◌, length, length-append, subst, ap}
use Rattle.std.specs.Vec.Iter.{into_iter_items}
use Rattle.snap_writers.specs.Jobs.{Each, HasStoppedWorker, IsWorked}
use Rattle.snap_writers.specs.Starting.{IsStarted}
use Rattle.snap_writers.proofs.Every.{each_more}
use Rattle.snap_writers.proofs.Walking.{owed}
use Rattle.snap_writers.proofs.threads.joined.Goals as goal
use Rattle.snap_writers.proofs.threads.joined.Goals.{in-There, in-Threadless}

pub loop-one-init : goal.loop-one-init
loop-one-init g c =
    let e : into_iter_items c.into_iter-one-iterator.result ≡ c.args.started.items = search rules in
    let a : c.args.all.items ≡ [] = c.requires.all.0 in
    record {
      count = rw (e, a) (omega (arith, c.requires.started.count));
      started = rw (e, a) c.requires.started.each;
      each = rw a tt;
      room = c.requires.all.1;
    }

pub loop-one-preserved : goal.loop-one-preserved
loop-one-preserved g c =
    let was = c.loop-one.invariant in
    let stops = HasStoppedWorker (g.G.Gate.answers c.args.gate.now) in
    let e : into_iter_items c.loop-one.one-iterator ≡ c.in-Some.one ∷ into_iter_items c.next.new.self = search rules in
    let p = c.push_reserved.ensures.items in
    let started = subst (λ xs. Each (λ k s. IsStarted c.args.gate.now stops c.args.layer_inodes c.args.jobs.now (k + 1) c.args.workers s) (length c.loop-one.all.items) xs) e was.started in
    let one : IsWorked (stops (length c.loop-one.all.items + 1)) c.args.layer_inodes c.args.jobs.now (length c.loop-one.all.items + 1) c.args.workers c.match-one.push_reserved = elim c.match-one.branch [
      | in-There w ↦ (let h = subst (λ x. IsStarted c.args.gate.now stops c.args.layer_inodes c.args.jobs.now (length c.loop-one.all.items + 1) c.args.workers x) w.in-There.is started.0 in let p = w.in-There.handle.promise in rw w.push_reserved-is (owed stops _ _ _ _ _ _ _ h.1 h.2 h.3 (subst (λ i. IsWorked (stops p.worker) i p.jobs.now p.worker p.workers w.join.result) h.0 (subst (λ gate. IsWorked (HasStoppedWorker (g.G.Gate.answers gate) p.worker) p.layer_inodes p.jobs.now p.worker p.workers w.join.result) h.4 w.join.ensures))))
      | in-Threadless w ↦ rw w.push_reserved-is (subst (λ x. IsStarted c.args.gate.now stops c.args.layer_inodes c.args.jobs.now (length c.loop-one.all.items + 1) c.args.workers x) w.in-Threadless.is started.0)
    ] in
    let more : length c.push_reserved.new.self.items ≡ length c.loop-one.all.items + 1 = rw p (length-append _ _) in
    record {
      count = omega (arith, was.count, ap length e, more);
      started = rw more started.1;
      each = rw p (each_more _ _ _ was.each one);
      room = search rules;
    }
