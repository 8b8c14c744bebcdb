-- A world after its next round has begun.
use Rattle.std.proofs.Common.{◌≡◌, ℕ, [], List, Option, None, refl, sym, subst, arith, OnOk, OnErr}
use Rattle.std.specs.Prelude.{Result, Ok, Err}
use Rattle.snap_call.specs.declared.refusal.Refusal.{Refusal}
use Rattle.snap_call.proofs.Keeping.{good_counters}
use Rattle.snap_book.specs.Book.{BookValue}
use Rattle.snap_book.specs.Round.{next_round}
use Rattle.snap_world.specs.Round.{reopened}
use Rattle.snap_world.specs.World.{Fits, HandValue, WorldValue, world_of}

-- sessions are no part of what fits
fits_without_sessions : (w : WorldValue) (journal : ℕ) → Fits w → Fits (reopened w journal)
fits_without_sessions w journal fits =
    let good = good_counters w.state 0 w.state.entries (omega arith) fits.good in
    record { good = good; began = record { good = good; sessions = refl }; replays = refl; places = fits.places; hands = fits.hands }

-- a book that has begun a round, or is as it was
pub fits_round : (r : Result Unit Refusal) (b t : BookValue) (hands : List (Option HandValue)) (journal : ℕ) → Fits (world_of b hands)
    → OnOk r (t ≡ record { state = next_round b.state; journal = []; opening = next_round b.state; limit = journal; copy = None }) → OnErr r (t ≡ b) → Fits (world_of t hands)
fits_round (Ok done) b t hands journal fits began same = subst (λ (v : BookValue). Fits (world_of v hands)) (sym began) (fits_without_sessions (world_of b hands) journal fits)
fits_round (Err why) b t hands journal fits began same = subst (λ (v : BookValue). Fits (world_of v hands)) (sym same) fits
