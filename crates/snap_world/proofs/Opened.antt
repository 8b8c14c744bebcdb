-- A world that is opened.
use Rattle.std.proofs.Common.{◌≡◌, ℕ, zero, suc, List, [], replicate, Bool, true, false, Option, None, refl, sym, subst}
use Rattle.std.proofs.lemmas.List.{length-replicate}
use Rattle.std.specs.Prelude.{Ok, Err, IsErrOf}
use Rattle.snap_call.specs.declared.refusal.Refusal.{Refusal}
use Rattle.snap_call.specs.declared.config.Config.{Config}
use Rattle.snap_call.specs.Forms.{is_config}
use Rattle.snap_call.specs.State.{opening}
use Rattle.snap_call.proofs.Kept.{good_opening}
use Rattle.snap_call.proofs.Opening.{saved_config}
use Rattle.snap_book.specs.Book.{BookValue}
use Rattle.snap_world.specs.World.{AgreesAt, Fits, HandValue, hand_at, world_of}

pub no_hand : (n slot : ℕ) → hand_at slot (replicate n None) ≡ None
no_hand zero slot = refl
no_hand (suc n) zero = refl
no_hand (suc n) (suc slot) = no_hand n slot

not_false : (b : Bool) → (b ≡ false → ⊥) → b ≡ true
not_false true h = refl
not_false false h = absurd (h refl)

opened_fits : (c : Config) → is_config c ≡ true → Fits (record { state = opening c; journal = []; opening = opening c; limit = c.journal; hands = replicate c.slots None })
opened_fits c valid = record {
  good = good_opening c (saved_config c valid);
  began = record { good = good_opening c (saved_config c valid); sessions = refl };
  replays = refl;
  places = length-replicate c.slots None;
  hands = λ slot. subst (λ (o : Option HandValue). AgreesAt slot [] o None) (sym (no_hand c.slots slot)) tt;
}

-- a book that was opened had a valid configuration
pub was_valid : (b : BookValue) (why : Refusal) (c : Config) → ((is_config c ≡ false) → IsErrOf (Ok b) why) → is_config c ≡ false → ⊥
was_valid b why c h e = let f : Ok b ≡ Err why = h e in absurd (cc)

-- no hands, and no open slots
pub fits_opening : (b : BookValue) (hands : List (Option HandValue)) (c : Config) → (is_config c ≡ false → ⊥) → b ≡ record { state = opening c; journal = []; opening = opening c; limit = c.journal; copy = None } → hands ≡ replicate c.slots None → Fits (world_of b hands)
fits_opening b hands c valid is none =
    subst (λ (l : List (Option HandValue)). Fits (world_of b l)) (sym none)
    (subst (λ (v : BookValue). Fits (world_of v (replicate c.slots None))) (sym is) (opened_fits c (not_false (is_config c) valid)))
