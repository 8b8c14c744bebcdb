-- A copy of the slots reads as they do.
use Rattle.std.proofs.Common.{◌≡◌, ℕ, zero, suc, List, [], ◌∷◌, Option, Some, None, refl, sym, subst}
use Rattle.std.specs.Prelude.{slice_index_or}
use Rattle.std.specs.List.{AllZip}
use Rattle.slab.specs.Slab.{Slab as Slots, get, IsSlotClone, IsSlabClone}
use Rattle.snap_layer.specs.declared.inode.Inode.{Inode}
use Rattle.snap_layer.specs.Walk.{Alike, entry_of, node_of, body_of, links_of, view_of, Same}

-- two slots read alike
record Reads (a b : Option Inode) : Type 0 where
  entries : (m : List ℕ) → entry_of b m ≡ entry_of a m
  node : node_of b ≡ node_of a
  body : body_of b ≡ body_of a
  count : links_of b ≡ links_of a

reads_none : Reads None None
reads_none = record { entries = λ m. refl; node = refl; body = refl; count = refl }

reads_slot : (a b : Option Inode) → IsSlotClone Alike a b → Reads a b
reads_slot None b is = subst (Reads None) (sym is) reads_none
reads_slot (Some x) None is = absurd is
reads_slot (Some x) (Some y) is = record { entries = is.entries; node = is.node; body = is.body; count = is.count }

reads_at : (ss ts : List (Option Inode)) → AllZip (IsSlotClone Alike) ss ts → (k : ℕ) → Reads (slice_index_or ss k None) (slice_index_or ts k None)
reads_at [] [] all k = reads_none
reads_at [] (t ∷ ts) all k = absurd all
reads_at (s ∷ ss) [] all k = absurd all
reads_at (s ∷ ss) (t ∷ ts) all zero = reads_slot s t all.0
reads_at (s ∷ ss) (t ∷ ts) all (suc k) = reads_at ss ts all.1 k

pub clone_same : (s t : Slots Inode) → IsSlabClone Alike s t → Same (view_of s) (view_of t)
clone_same s t is =
    let r : (c : ℕ) → Reads (get s c) (get t c) = reads_at s.slots t.slots is.slots in
    record { entries = λ c m. (r c).entries m; nodes = λ c. (r c).node; bodies = λ c. (r c).body; counts = λ c. (r c).count }
