-- A run goes on by one step.
use Rattle.std.proofs.Common.{◌≡◌, List, [], ◌∷◌, ◌++◌, refl, subst, sym}
use Rattle.snap_world.specs.declared.step.Step.{Step}
use Rattle.snap_world.specs.declared.step.Answer.{Answer}
use Rattle.snap_world.specs.World.{WorldValue, Fits}
use Rattle.snap_world.specs.Runs.{Moves, Runs}

runs_push : (ss : List Step) (rs : List Answer) (old mid new : WorldValue) (s : Step) (a : Answer) → Runs old ss rs mid → Moves mid s a new → Fits new → Runs old (ss ++ s ∷ []) (rs ++ a ∷ []) new
runs_push [] [] old mid new s a h m fit = (new, subst (λ (w : WorldValue). Moves w s a new) h m, fit, refl)
runs_push [] (r ∷ rs) old mid new s a h m fit = absurd h
runs_push (t ∷ ts) [] old mid new s a h m fit = absurd h
runs_push (t ∷ ts) (r ∷ rs) old mid new s a h m fit = (h.0, h.1, h.2, runs_push ts rs h.0 mid new s a h.3 m fit)

pub runs_step : (ss : List Step) (rs more : List Answer) (old mid new : WorldValue) (s : Step) (a : Answer) → Runs old ss rs mid → Moves mid s a new → Fits new → more ≡ rs ++ a ∷ [] → Runs old (ss ++ s ∷ []) more new
runs_step ss rs more old mid new s a h m fit e = subst (λ (as' : List Answer). Runs old (ss ++ s ∷ []) as' new) (sym e) (runs_push ss rs old mid new s a h m fit)
