-- One step of a world, without want of memory.
use Rattle.std.specs.Prelude.{IfOk}
use Rattle.std.proofs.Common.{◌≡◌, Result, Ok, Err, inl, inr, true, false, sym, ap, ◌∙◌}
use Rattle.snap_path.specs.declared.memory.NoMemory.{NoMemory}
use Rattle.snap_world.specs.declared.step.Step.{Step}
use Rattle.snap_world.specs.declared.step.Step.TheVariants.{Locked, Hand}
use Rattle.snap_world.specs.declared.step.Answer.{Answer}
use Rattle.snap_world.specs.World.{WorldValue}
use Rattle.snap_world.specs.Move.{move}
use Rattle.snap_world.specs.Runs.{IsWant, Moves}
use Rattle.snap_session.specs.Wanting.{is_want}

want_tells : (old new : WorldValue) (s : Step) (a : Answer) → IsWant old s a new → is_want a ≡ true
want_tells old new (Locked n call) a h = ap is_want h.0
want_tells old new (Hand slot op) a h = ap is_want h.0

-- a step that does not want memory is the definition's
pub is_moved : (old new : WorldValue) (s : Step) (a : Answer) → is_want a ≡ false → Moves old s a new → move old s ≡ (new, a)
is_moved old new s a f (inl e) = e
is_moved old new s a f (inr h) = let t = want_tells old new s a h in absurd (cc)

-- the same of what is handed on where memory was there
pub moved_unless : (old new : WorldValue) (s : Step) (a : Answer) (r : Result Answer NoMemory) → Moves old s a new → IfOk r (λ same. (same ≡ a) × (is_want a ≡ false)) → IfOk r (λ answer. move old s ≡ (new, answer))
moved_unless old new s a (Ok same) h k = is_moved old new s a k.1 h ∙ ap (λ (x : Answer). (new, x)) (sym k.0)
moved_unless old new s a (Err want) h k = tt
