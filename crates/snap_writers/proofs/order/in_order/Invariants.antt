use Rattle.std.proofs.Common.{◌≡◌, ◌<◌, ◌≤◌, length}
use Rattle.std.specs.Prelude.{vec_capacity}
use Rattle.snap_writers.proofs.Turning.{Turns}
use Rattle.snap_writers.proofs.order.in_order.Given as goal

abbrev pub invariant-loop : goal.invariant-loop
invariant-loop l = record {
  turns : Turns l.workers l.turn l.round l.index l.jobs l.ends.items l.all;
  turn : l.turn < l.workers;
  round : l.round ≤ l.index;
  count : length l.ends.items ≡ l.index;
  all : length l.all ≡ l.workers;
  room : length l.jobs ≤ vec_capacity l.ends;
}
