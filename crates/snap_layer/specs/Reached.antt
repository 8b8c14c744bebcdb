-- The path that leads to a directory.
use Rattle.std.specs.Prelude.{◌≡◌, ℕ, Option, Some}
use Rattle.std.specs.Coded.{Coded, coded_ℕ, coded_list, coded_option, Coded-set}
use mathlib.Core.HLevel.{Σ_prop_path, Π_prop, ×_prop, →_prop}
use Rattle.slab.specs.Slab.{Slab as Slots}
use Rattle.snap_path.specs.Text.{Names}
use Rattle.snap_layer.specs.declared.inode.Inode.{Inode}
use Rattle.snap_layer.specs.declared.inode.Target.{Target}
use Rattle.snap_layer.specs.declared.inode.Target.TheVariants as target
use Rattle.snap_layer.specs.Walk.{walk, entry_at}

-- the path leads to the key, and no other path does
abbrev pub IsOnly : Slots Inode → ℕ → ℕ → Names → Type 0
IsOnly s root key p = (walk (entry_at s) root p ≡ Some (target.Inode key)) × ((q : Names) → walk (entry_at s) root q ≡ Some (target.Inode key) → q ≡ p)

-- the one path that leads to the key
abbrev pub OnlyPath : Slots Inode → ℕ → ℕ → Type 0
OnlyPath s root key = (p : Names) × IsOnly s root key p

names_set : IsSet Names
names_set = Coded-set (coded_list (coded_list coded_ℕ))

module _ (target_code : Coded Target) where
  targets_set : IsSet (Option Target)
  targets_set = Coded-set (coded_option target_code)

  -- there is at most one such path
  pub OnlyPath-prop : (s : Slots Inode) (root key : ℕ) → IsProp (OnlyPath s root key)
  OnlyPath-prop s root key a b = Σ_prop_path {B = IsOnly s root key} (λ p. ×_prop (targets_set (walk (entry_at s) root p) (Some (target.Inode key))) (Π_prop (λ (q : Names). →_prop {A = walk (entry_at s) root q ≡ Some (target.Inode key)} (names_set q p)))) (b.1.1 a.0 a.1.0)
