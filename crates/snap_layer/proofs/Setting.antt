-- A meta, a mark or a content set in place.
use Rattle.std.proofs.Common.{◌≡◌, ℕ, ◌≤◌, Bool, Option, Some, None, IsSome, refl, ap, subst, arith}
use Rattle.std.specs.Prelude.{option_and_then, is_some}
use Rattle.snap_path.specs.Limits.{most_mode}
use Rattle.snap_path.specs.Text.{Names}
use Rattle.snap_layer.specs.declared.node.Meta.{Meta}
use Rattle.snap_layer.specs.declared.content.Content.{Content}
use Rattle.snap_layer.specs.declared.node.Node.TheVariants.{Dir, File}
use Rattle.snap_layer.specs.declared.node.Body.{Body}
use Rattle.snap_layer.specs.declared.node.Body.TheVariants as body_kinds
use Rattle.snap_layer.specs.Tree.{Tree, at, body, number_of}
use Rattle.snap_layer.specs.Counts.{inode_count}
use Rattle.snap_layer.specs.Layers.{IsLayer, IsFile, IsMeta}
use Rattle.snap_layer.specs.Edits.{body_with_mode, with_entry}
use Rattle.snap_layer.proofs.Counting.{inode_count-with_entry, inodes_of}
use Rattle.snap_layer.proofs.Kept.{IsLayer-with_entry}

-- the layer stays one, with as many inodes
pub record Stays (t u : Tree) : Type 0 where
  pub layer : IsLayer u
  pub count : inode_count t ≡ inode_count u

module _ (t : Tree) (ok : IsLayer t) where
  -- a directory with another meta or mark
  pub dir_stays : (p : Names) (m n : Meta) (b c : Bool) → at t p ≡ Some (Dir m b) → IsMeta n → Stays t (with_entry t p (Dir n c))
  dir_stays p m n b c is low =
      let count : inode_count t ≡ inode_count (with_entry t p (Dir n c)) = omega (arith, inode_count-with_entry t p (Dir n c) ok.sorted_paths, ap inodes_of is) in
      record {
        layer = IsLayer-with_entry t p (Dir n c) ok (record {
          no_number = ap (option_and_then number_of) is;
          stays = λ dir. refl;
          parent = λ q x e. ok.parents q x (subst (λ (r : Names). IsSome (at t r)) e (ap is_some is));
          root = λ e. refl;
          path = ok.paths p (ap is_some is);
          whole = low;
          few = omega (arith, count, ok.few);
        });
        count = count;
      }

  pub dir_meta : (p : Names) (m : Meta) (b : Bool) → at t p ≡ Some (Dir m b) → IsMeta m
  dir_meta p m b is = ok.nodes p (Dir m b) is

-- the name of a file has a file's body
pub file_of_name : (t : Tree) → IsLayer t → (p : Names) (k : ℕ) → at t p ≡ Some (File k) → IsFile (body t k)
file_of_name t ok p k is = ok.nodes p (File k) is

-- the file that is there
pub file_body : (o : Option Body) → IsFile o → (m : Meta) × (content : Content) × (o ≡ Some (body_kinds.File m content))
file_body None file = absurd file
file_body (Some (body_kinds.File m content)) file = (m, content, refl)
file_body (Some (body_kinds.Symlink target)) file = absurd file

-- a file with another mode is one
pub file_with_mode : (b : Body) (mode : ℕ) → mode ≤ most_mode → IsFile (Some b) → IsFile (Some (body_with_mode b mode))
file_with_mode (body_kinds.File meta content) mode low file = (low, file.1)
file_with_mode (body_kinds.Symlink target) mode low file = absurd file
