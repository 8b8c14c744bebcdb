-- The round of a book.
use Rattle.std.specs.Prelude.{◌≡◌, ℕ, true}
use Rattle.snap_call.specs.Forms.{is_layer_limit}
use Rattle.snap_book.specs.Book.{BookValue}
use Rattle.snap_round.specs.declared.rule.Round.{Round}

-- what no call changes: the opening, and the most entries of the journal
abbrev pub round_of : BookValue → Round
round_of b = record { opening = b.opening; limit = b.limit }

-- a round whose layers may have `inodes` inodes, 1 to 2^24
abbrev pub HasLayers : Round → ℕ → Type 0
HasLayers r inodes = (inodes ≡ r.opening.layer_inodes) × (is_layer_limit inodes ≡ true)
