-- What clauses see of a charge and of a share.
use Rattle.std.specs.Prelude.{◌≡◌, ℕ, zero, suc, ◌+◌, ◌-◌, List, [], ◌∷◌, ◌++◌, Bool, true, false}
use Rattle.snap_usage.specs.declared.usage.Usage.{Usage}
use Rattle.snap_usage.specs.Counted.{Covers, no_usage}
use Rattle.snap_ledger.specs.declared.rule.Holding.{Holding}
use Rattle.snap_ledger.specs.declared.rule.HalfView.{HalfView}
use Rattle.snap_ledger.specs.Halves.{whole, charge_half, no_holding}

-- the store's half: its slot, the id and usage that it holds, and whether its share is in a writer's hands
pub record ChargeState : Type 0 where
  pub slot : ℕ
  pub id : ℕ
  pub usage : Usage
  pub issued : Bool

-- the writer's half: its slot, and the id and usage that it holds
pub record ShareState : Type 0 where
  pub slot : ℕ
  pub id : ℕ
  pub usage : Usage

-- at least a block and an inode, which a layer's root takes
abbrev pub CoversOne : Usage → Type 0
CoversOne u = Covers u (record { blocks = 1; inodes = 1 })

-- both usages together, quantity by quantity
abbrev pub plus : Usage → Usage → Usage
plus u v = record { blocks = u.blocks + v.blocks; inodes = u.inodes + v.inodes }

-- what is left of the first usage without the second, quantity by quantity
abbrev pub minus : Usage → Usage → Usage
minus u v = record { blocks = u.blocks - v.blocks; inodes = u.inodes - v.inodes }

-- what the seat of a charge knows
abbrev pub charge_view : Bool → ℕ → Holding → HalfView
charge_view true slot holding = charge_half slot holding
charge_view false slot holding = whole slot holding

-- an issued charge covers 1/1, any other holds nothing
abbrev pub HeldWhile : Bool → Holding → Type 0
HeldWhile true holding = CoversOne holding.usage
HeldWhile false holding = holding ≡ no_holding

-- the share is that of the charge: it is issued, under one id, and both hold the same
abbrev pub Meets : ChargeState → ShareState → Type 0
Meets c s = (c.issued ≡ true) × (c.id ≡ s.id) × (c.usage ≡ s.usage)

-- the charge of a free slot
abbrev pub free_charge : ℕ → ChargeState
free_charge slot = record { slot = slot; id = 0; usage = no_usage; issued = false }

-- the charges of the first n slots, each free
abbrev pub free_row : ℕ → List ChargeState
free_row zero = []
free_row (suc n) = free_row n ++ free_charge n ∷ []
