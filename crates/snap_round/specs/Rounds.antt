-- What the seats of a table of rounds know, and the rule over all of them.
use Rattle.std.specs.Prelude.{◌≡◌, ◌≢◌, ℕ, List, [], true, false}
use mathlib.Core.Option.{some}
use lib.ListN.{get_elem?}
use Rattle.atomic_table.specs.Table.{Me, Step}
use Rattle.snap_round.specs.declared.rule.Round.{Round}
use Rattle.snap_round.specs.declared.rule.RoundView.{RoundView}

-- a round of no store
abbrev pub no_round : Round
no_round = record { opening = record { root = []; namespaces = []; slots = 0; records = []; leases = []; next_id = 0; sessions = 0; entries = 0; layer_inodes = 0; ancestors = 0 }; limit = 0 }

-- both halves in one
abbrev pub whole_round : Round → RoundView
whole_round r = record { inner = true; outer = true; round = r; met = r }

-- the half under the lock
abbrev pub inner : Round → RoundView
inner r = record { inner = true; outer = false; round = r; met = r }

-- the half beside the lock
abbrev pub outer : Round → RoundView
outer r = record { inner = false; outer = true; round = r; met = r }

-- neither half
abbrev pub neither : RoundView
neither = record { inner = false; outer = false; round = no_round; met = no_round }

abbrev pub inner_of : RoundView → RoundView
inner_of v = inner v.round

abbrev pub outer_of : RoundView → RoundView
outer_of v = outer v.round

-- both halves again, each with its round
abbrev pub joined_rounds : RoundView → RoundView → RoundView
joined_rounds v w = record { inner = true; outer = true; round = v.round; met = w.round }

-- what the rule says of the views of two seats: there is one half of each kind, and both have the same round
pub record RoundsAgree (v w : RoundView) : Type 0 where
  pub one_inner : v.inner ≡ true → w.inner ≡ true → ⊥
  pub one_outer : v.outer ≡ true → w.outer ≡ true → ⊥
  pub same : v.inner ≡ true → w.outer ≡ true → v.round ≡ w.round

-- the rule: what was joined had the same round, and each two of different seats agree
pub record AllRoundsAgree (views : List RoundView) : Type 0 where
  pub each : (i : ℕ) (v : RoundView) → get_elem? views i ≡ some v → v.met ≡ v.round
  pub two : (i j : ℕ) (v w : RoundView) → i ≢ j → get_elem? views i ≡ some v → get_elem? views j ≡ some w → RoundsAgree v w

-- a load changes no view, and tells that what was joined had the same round
abbrev pub RoundChecked : Step Unit → Me Unit RoundView → ℕ → Me Unit RoundView → Type 0
RoundChecked s v n w = (w ≡ v) × (v.0.met ≡ v.0.round)

-- after a set both halves have the round
abbrev pub RoundSetTo : Round → Step Unit → Me Unit RoundView → ℕ → Me Unit RoundView → Type 0
RoundSetTo r s v n w = w ≡ (whole_round r, v.1)
