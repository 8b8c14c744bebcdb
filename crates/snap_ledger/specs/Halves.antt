-- What the seats of a table know of slots, charges and shares, and the rule over all of them.
use Rattle.std.specs.Prelude.{◌≡◌, ◌≢◌, ℕ, ◌+◌, ◌<◌, List, true, false}
use mathlib.Core.Option.{Option, some, none}
use lib.ListN.{get_elem?}
use Rattle.atomic_table.specs.Table.{Me, Step}
use Rattle.snap_usage.specs.Counted.{no_usage}
use Rattle.snap_ledger.specs.declared.rule.Holding.{Holding}
use Rattle.snap_ledger.specs.declared.rule.HalfView.{HalfView}

-- what the charge of a free slot holds
abbrev pub no_holding : Holding
no_holding = record { id = 0; usage = no_usage }

-- the charges of this slot and of those after it can still be made
abbrev pub maker : ℕ → HalfView
maker n = record { makes = true; charges = false; shares = false; clashes = false; slot = n; holding = no_holding; met = no_holding }

-- the maker once it has made the charge of its slot
abbrev pub maker_after : HalfView → HalfView
maker_after v = maker (v.slot + 1)

-- a charge that isn't issued: both halves of its slot in one
abbrev pub whole : ℕ → Holding → HalfView
whole slot holding = record { makes = false; charges = true; shares = true; clashes = false; slot = slot; holding = holding; met = holding }

-- the charge that a maker makes
abbrev pub new_charge : HalfView → HalfView
new_charge v = whole v.slot no_holding

-- a charge that is issued
abbrev pub charge_half : ℕ → Holding → HalfView
charge_half slot holding = record { makes = false; charges = true; shares = false; clashes = false; slot = slot; holding = holding; met = holding }

-- a share
abbrev pub share_half : ℕ → Holding → HalfView
share_half slot holding = record { makes = false; charges = false; shares = true; clashes = false; slot = slot; holding = holding; met = holding }

-- the charge once its share is issued
abbrev pub charge_issued : HalfView → HalfView
charge_issued v = charge_half v.slot v.holding

-- the share that a charge issues
abbrev pub issued_share : HalfView → HalfView
issued_share v = share_half v.slot v.holding

-- neither half
abbrev pub spent_view : HalfView
spent_view = record { makes = false; charges = false; shares = false; clashes = false; slot = 0; holding = no_holding; met = no_holding }

-- a charge with its share again, and what the share held as the two met
abbrev pub joined : HalfView → HalfView → HalfView
joined v w = record { makes = false; charges = true; shares = true; clashes = v.shares; slot = v.slot; holding = v.holding; met = w.holding }

-- what the rule says of one view: what met was equal, and no share met a charge that wasn't issued
pub record Sound (v : HalfView) : Type 0 where
  pub met : v.holding ≡ v.met
  pub single : v.clashes ≡ false

-- what the rule says of the views of two seats: one maker, above all slots that are made; one charge and one share of a slot, which hold the same
pub record Agree (v w : HalfView) : Type 0 where
  pub one_maker : v.makes ≡ true → w.makes ≡ true → ⊥
  pub charge_made : v.makes ≡ true → w.charges ≡ true → w.slot < v.slot
  pub share_made : v.makes ≡ true → w.shares ≡ true → w.slot < v.slot
  pub one_charge : v.charges ≡ true → w.charges ≡ true → v.slot ≢ w.slot
  pub one_share : v.shares ≡ true → w.shares ≡ true → v.slot ≢ w.slot
  pub same : v.charges ≡ true → w.shares ≡ true → v.slot ≡ w.slot → v.holding ≡ w.holding

-- the rule: each view by itself, and each two of different seats
pub record AllAgree (views : List HalfView) : Type 0 where
  pub each : (i : ℕ) (v : HalfView) → get_elem? views i ≡ some v → Sound v
  pub two : (i j : ℕ) (v w : HalfView) → i ≢ j → get_elem? views i ≡ some v → get_elem? views j ≡ some w → Agree v w

-- a load changes no view, and tells that the seat's own is sound
abbrev pub Checked : Step Holding → Me Holding HalfView → ℕ → Me Holding HalfView → Type 0
Checked s v n w = (w ≡ v) × Sound v.0

-- a charge that isn't issued, with another holding
abbrev pub held_view : HalfView → Option Holding → HalfView
held_view v (some holding) = whole v.slot holding
held_view v none = v

-- a set changes the holding of the seat's own view to the one that the step has
abbrev pub SetTo : Step Holding → Me Holding HalfView → ℕ → Me Holding HalfView → Type 0
SetTo s v n w = w ≡ (held_view v.0 s.said, v.1)
