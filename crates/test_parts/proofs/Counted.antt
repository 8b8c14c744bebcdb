-- What a root alone takes, what one of another mode changes, and what is changed of a file that nobody knows.
use Rattle.std.proofs.Common.{◌≡◌, [], ◌∷◌, refl}
use Rattle.std.specs.Prelude.{Ok, None}
use Rattle.snap_layer.specs.declared.content.Content.TheVariants.{Sized}
use Rattle.snap_layer.specs.declared.node.Body.TheVariants as body_kinds
use Rattle.snap_layer.specs.declared.node.Node.TheVariants as node_kinds
use Rattle.snap_layer.specs.Tree.{Tree}
use Rattle.snap_layer.specs.Edits.{root_only, with_new}
use Rattle.snap_merge.specs.Taken.{parts_below, disk_usage}
use Rattle.snap_diff.specs.declared.change.ChangeKind.TheVariants.{Changed}
use Rattle.snap_diff.specs.Changes.{changes, changes_below, page}

pub root_taken : disk_usage (root_only (record { mode = 493 }) 1 ∷ []) [] ≡ Ok (record { blocks = 1; inodes = 1 })
unfolding parts_below
root_taken = refl

pub root_changed : page None 64 (changes (root_only (record { mode = 448 }) 1) (root_only (record { mode = 493 }) 1 ∷ [])) ≡ record { kind = Changed; path = [] } ∷ []
unfolding changes_below
root_changed = refl

-- a layer with a file at /f that nobody knows
abbrev pub unknown : Tree
unknown = with_new (root_only (record { mode = 493 }) 1) ((102 ∷ []) ∷ []) (node_kinds.File 1) (body_kinds.File (record { mode = 420 }) (Sized 10 None))

pub unknown_changed : page None 64 (changes unknown (unknown ∷ [])) ≡ record { kind = Changed; path = (102 ∷ []) ∷ [] } ∷ []
unfolding changes_below
unknown_changed = refl

pub unknown_untouched : page None 64 (changes (root_only (record { mode = 493 }) 1) (unknown ∷ [])) ≡ []
unfolding changes_below
unknown_untouched = refl
