-- The inodes of a layer by its saved form.
use Rattle.std.proofs.Common.{◌≡◌, ℕ, ◌+◌, Bool, true, false, cond, [], ◌∷◌, length, Some, None, refl, subst, ◌∙◌, arith}
use Rattle.std.specs.Prelude.{count_by}
use Rattle.std.specs.declared.cmp.Ordering.TheVariants.{Less}
use Rattle.std.specs.List.{AllByRecursion, cons_option}
use Rattle.std.specs.List.Sorted.{IsStrictlySortedBy}
use Rattle.std.specs.Map.{lookup, keys_of, values_of}
use Rattle.std.specs.BTreeMap.{is_at}
use Rattle.std.proofs.lemmas.List.{length-map}
use Rattle.std.proofs.lemmas.List.Sums.{sum_by-cons}
use Rattle.snap_path.specs.Text.{Names}
use Rattle.snap_layer.specs.declared.node.Node.{Node}
use Rattle.snap_layer.specs.declared.node.Node.TheVariants.{Dir, File, Symlink, Whiteout}
use Rattle.snap_layer.specs.declared.node.Body.{Body}
use Rattle.snap_layer.specs.Tree.{Tree, Entries, path_cmp, is_dir, is_whiteout, IsDirAt}
use Rattle.snap_layer.specs.Counts.{inode_count}
use Rattle.snap_layer.specs.Layers.{IsLayer}
use Rattle.snap_saved.specs.Values.{SavedFileValue}
use Rattle.snap_saved.specs.Saved.{dir_part, path_if, dirs_of, whiteouts_of, file_names, files_of}

counted : (p : Node → Bool) (e : Names × Node) (es : Entries) → count_by p (values_of (e ∷ es)) ≡ cond (p e.1) 1 0 + count_by p (values_of es)
counted p e es = sum_by-cons (λ n. cond (p n) 1 0) e.1 (values_of es)

-- each whiteout has its path
whiteouts_counted : (es : Entries) → count_by is_whiteout (values_of es) ≡ length (whiteouts_of es)
whiteouts_counted [] = refl
whiteouts_counted (e ∷ es) = counted is_whiteout e es ∙ by (is_whiteout e.1) (whiteouts_counted es)
  where
    by : (b : Bool) → count_by is_whiteout (values_of es) ≡ length (whiteouts_of es) → cond b 1 0 + count_by is_whiteout (values_of es) ≡ length (cons_option (path_if b e.0) (whiteouts_of es))
    by true later = omega (arith, later)
    by false later = omega (arith, later)

-- each directory below the root has its part
dirs_counted : (es : Entries) → AllByRecursion (λ (p : Names). path_cmp [] p ≡ Less) (keys_of es) → count_by is_dir (values_of es) ≡ length (dirs_of es)
dirs_counted [] below = refl
dirs_counted (e ∷ es) below = counted is_dir e es ∙ by e.1 e.0 below.0 (dirs_counted es below.1)
  where
    by : (n : Node) (p : Names) → path_cmp [] p ≡ Less → count_by is_dir (values_of es) ≡ length (dirs_of es) → cond (is_dir n) 1 0 + count_by is_dir (values_of es) ≡ length (cons_option (dir_part n p) (dirs_of es))
    by (Dir meta opaque) [] low later = absurd (cc)
    by (Dir meta opaque) (a ∷ p) low later = omega (arith, later)
    by (File k) p low later = omega (arith, later)
    by (Symlink k) p low later = omega (arith, later)
    by Whiteout p low later = omega (arith, later)

-- the root and the others
all_dirs : (es : Entries) → IsStrictlySortedBy path_cmp (keys_of es) → IsDirAt (lookup (is_at (path_cmp [])) es) → count_by is_dir (values_of es) ≡ length (dirs_of es) + 1
unfolding IsStrictlySortedBy
all_dirs [] sorted root = absurd root
all_dirs (e ∷ es) sorted root = counted is_dir e es ∙ by e.0 e.1 sorted.0 root
  where
    none : (fs : Entries) (p : Names) → AllByRecursion (λ (q : Names). path_cmp p q ≡ Less) (keys_of fs) → lookup (is_at (path_cmp [])) fs ≡ None
    none [] p a = refl
    none (f ∷ fs) p a = at f.0 a.0 (none fs p a.1)
      where
        at : (q : Names) → path_cmp p q ≡ Less → lookup (is_at (path_cmp [])) fs ≡ None → cond (is_at (path_cmp []) q) (Some f.1) (lookup (is_at (path_cmp [])) fs) ≡ None
        at [] less later = absurd (last p less)
          where
            last : (r : Names) → path_cmp r [] ≡ Less → ⊥
            last [] e = cc
            last (x ∷ r) e = cc
        at (x ∷ q) less later = later

    by : (p : Names) (n : Node) → AllByRecursion (λ (q : Names). path_cmp p q ≡ Less) (keys_of es) → IsDirAt (cond (is_at (path_cmp []) p) (Some n) (lookup (is_at (path_cmp [])) es)) → cond (is_dir n) 1 0 + count_by is_dir (values_of es) ≡ length (cons_option (dir_part n p) (dirs_of es)) + 1
    by [] (Dir meta opaque) after r = omega (arith, dirs_counted es after)
    by [] (File k) after r = absurd (cc)
    by [] (Symlink k) after r = absurd (cc)
    by [] Whiteout after r = absurd (cc)
    by (x ∷ p) n after r = absurd (subst IsDirAt (none es (x ∷ p) after) r)

pub inodes_counted : (t : Tree) → IsLayer t → inode_count t ≡ length (dirs_of t.entries) + 1 + length (whiteouts_of t.entries) + length (files_of t.entries t.bodies)
inodes_counted t ok =
    let files : length (files_of t.entries t.bodies) ≡ length t.bodies = length-map t.bodies (λ (b : ℕ × Body). let f : SavedFileValue = record { number = b.0; body = b.1; names = file_names b.0 t.entries } in f) in
    omega (arith, all_dirs t.entries ok.sorted_paths ok.root, whiteouts_counted t.entries, files)
