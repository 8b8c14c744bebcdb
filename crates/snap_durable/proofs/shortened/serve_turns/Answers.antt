use Rattle.std.proofs.Common.{ℕ, [], ◌∷◌, ◌<◌, List, length, take, arith, sym, subst}
use Rattle.std.specs.Io.KnownBytes.{Consumes, IsAtEnd}
use Rattle.snap_log.specs.Batches.{Batched, none_yet}
use Rattle.snap_durable.specs.Files.{first_end, second_end}
use Rattle.snap_durable.specs.Parts.{line_limit}
use Rattle.snap_durable.specs.Turns.{LeavesTurns}
use Rattle.snap_durable.proofs.CameLaws.{at_end_before, if_ok}
use Rattle.snap_durable.proofs.RollLaws.{if_err}
use Rattle.snap_durable.proofs.ShortenedLaws.{CameOn, Left, came_on_begun, came_on_broken, came_on_done, came_on_first, came_on_last, came_on_more, came_on_stand, came_on_stopped, came_on_stops}
use Rattle.snap_durable.proofs.shortened.serve_turns.Goals as goal

pub reads-init : goal.reads-init
reads-init g c =
    let first = g.R.Read.remaining c.args.input.now in
    let before = g.W.Write.contents c.args.output.now in
    subst (λ (s : Batched). CameOn c.args.server.now c.args.files first before c.args.server.now s c.args.files first before) (sym c.new-batch.ensures) (came_on_first c.args.server.now c.args.files first before c.requires)

pub returns-in-Err-clause-crash : goal.returns-in-Err-clause-crash
returns-in-Err-clause-crash g c =
    let first = g.R.Read.remaining c.args.input.now in
    let before = g.W.Write.contents c.args.output.now in
    came_on_stopped c.args.server.now c.args.files first before c.args.server.now (none_yet line_limit) c.args.files first before (came_on_first c.args.server.now c.args.files first before c.requires)

pub reads-preserved : goal.reads-preserved
reads-preserved g c =
    came_on_more c.args.server.now c.args.files (g.R.Read.remaining c.args.input.now) (g.W.Write.contents c.args.output.now) _ _ c.reads.files _ _ c.reads.invariant _ _ _ _ _ _
    c.in-Ok-read.ensures.bytes.0 c.in-Ok-turn_and_step.ensures.went c.in-Ok-turn_and_step.ensures.apart c.in-Ok-turn_and_step.ensures.stand

-- the end of the input
pub returns-in-Ok-eq0-clause-done : goal.returns-in-Ok-eq0-clause-done
returns-in-Ok-eq0-clause-done g c =
    let room : 0 < length c.read.new.buf = omega arith in
    let at_end : IsAtEnd (g.R.Read.remaining c.read.new.self) = c.in-Ok-eq0.ensures.bytes.1 c.in-Ok-eq0.field-0-test room in
    let none : Consumes (g.R.Read.remaining c.reads.input) (g.R.Read.remaining c.read.new.self) [] =
    subst (λ (n : ℕ). Consumes (g.R.Read.remaining c.reads.input) (g.R.Read.remaining c.read.new.self) (take n c.read.new.buf)) c.in-Ok-eq0.field-0-test c.in-Ok-eq0.ensures.bytes.0 in
    if_ok c.last_turn.result (λ files ends. came_on_done c.args.server.now c.args.files (g.R.Read.remaining c.args.input.now) (g.W.Write.contents c.args.output.now) _ _ c.reads.files _ _ c.reads.invariant _ _ (at_end_before _ _ none at_end) ends) c.last_turn.ensures.went

pub returns-in-Ok-eq0-clause-stand : goal.returns-in-Ok-eq0-clause-stand
returns-in-Ok-eq0-clause-stand g c =
    if_ok c.last_turn.result (λ files stand. came_on_stand c.args.server.now c.args.files (g.R.Read.remaining c.args.input.now) (g.W.Write.contents c.args.output.now) _ _ c.reads.files _ _ c.reads.invariant c.last_turn.new.server files stand) c.last_turn.ensures.stand

pub returns-in-Ok-eq0-clause-crash : goal.returns-in-Ok-eq0-clause-crash
returns-in-Ok-eq0-clause-crash g c =
    let mid = g.W.Write.contents c.reads.output in
    let after = g.W.Write.contents c.last_turn.new.output in
    let room : 0 < length c.read.new.buf = omega arith in
    let at_end : IsAtEnd (g.R.Read.remaining c.read.new.self) = c.in-Ok-eq0.ensures.bytes.1 c.in-Ok-eq0.field-0-test room in
    let none : Consumes (g.R.Read.remaining c.reads.input) (g.R.Read.remaining c.read.new.self) [] =
    subst (λ (n : ℕ). Consumes (g.R.Read.remaining c.reads.input) (g.R.Read.remaining c.read.new.self) (take n c.read.new.buf)) c.in-Ok-eq0.field-0-test c.in-Ok-eq0.ensures.bytes.0 in
    if_err c.last_turn.result (λ ended leaves. λ clean.
    came_on_broken c.args.server.now c.args.files (g.R.Read.remaining c.args.input.now) (g.W.Write.contents c.args.output.now) _ _ c.reads.files _ _ c.reads.invariant (first_end ended) (second_end ended) clean (λ (t : List ℕ). LeavesTurns c.reads.server c.reads.batch (10 ∷ []) t mid after) (λ (t : List ℕ). Left c.args.server.now c.args.files (g.R.Read.remaining c.args.input.now) (g.W.Write.contents c.args.output.now) t after)
    (λ t left. came_on_last c.args.server.now c.args.files (g.R.Read.remaining c.args.input.now) (g.W.Write.contents c.args.output.now) _ _ c.reads.files _ _ c.reads.invariant after t (at_end_before _ _ none at_end) left) leaves) c.last_turn.ensures.crash

pub last_turn-requires-clause-begun : goal.last_turn-requires-clause-begun
last_turn-requires-clause-begun g c = came_on_begun c.args.server.now c.args.files (g.R.Read.remaining c.args.input.now) (g.W.Write.contents c.args.output.now) _ _ c.reads.files _ _ c.reads.invariant

-- a read
pub turn_and_step-requires-clause-begun : goal.turn_and_step-requires-clause-begun
turn_and_step-requires-clause-begun g c = came_on_begun c.args.server.now c.args.files (g.R.Read.remaining c.args.input.now) (g.W.Write.contents c.args.output.now) _ _ c.reads.files _ _ c.reads.invariant

pub returns-in-Err-turn_and_step-clause-crash : goal.returns-in-Err-turn_and_step-clause-crash
returns-in-Err-turn_and_step-clause-crash g c = λ clean.
    let mid = g.W.Write.contents c.reads.output in
    let after = g.W.Write.contents c.turn_and_step.new.output in
    let ended = c.in-Err-turn_and_step.ended in
    came_on_broken c.args.server.now c.args.files (g.R.Read.remaining c.args.input.now) (g.W.Write.contents c.args.output.now) _ _ c.reads.files _ _ c.reads.invariant (first_end ended) (second_end ended) clean (λ (t : List ℕ). LeavesTurns c.reads.server c.reads.batch _ t mid after) (λ (t : List ℕ). Left c.args.server.now c.args.files (g.R.Read.remaining c.args.input.now) (g.W.Write.contents c.args.output.now) t after)
    (λ t left. came_on_stops c.args.server.now c.args.files (g.R.Read.remaining c.args.input.now) (g.W.Write.contents c.args.output.now) _ _ c.reads.files _ _ c.reads.invariant _ after _ t c.in-Ok-read.ensures.bytes.0 left) c.in-Err-turn_and_step.ensures.crash

-- between two reads
pub returns-in-Err-read-clause-crash : goal.returns-in-Err-read-clause-crash
returns-in-Err-read-clause-crash g c = came_on_stopped c.args.server.now c.args.files (g.R.Read.remaining c.args.input.now) (g.W.Write.contents c.args.output.now) _ _ c.reads.files _ _ c.reads.invariant

pub returns-clause-crash : goal.returns-clause-crash
returns-clause-crash g c = came_on_stopped c.args.server.now c.args.files (g.R.Read.remaining c.args.input.now) (g.W.Write.contents c.args.output.now) _ _ c.reads.files _ _ c.reads.invariant
