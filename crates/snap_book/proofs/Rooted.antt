-- A layer has its root, which takes a block and an inode.
use Rattle.std.proofs.Common.{◌≡◌, ℕ, ◌≤◌, [], ◌∷◌, Bool, true, false, Some, None, refl, ap, ◌∙◌, arith}
use Rattle.std.specs.Prelude.{Option, cond, count_by}
use Rattle.std.specs.Map.{lookup, values_of}
use Rattle.std.specs.BTreeMap.{is_at}
use Rattle.std.proofs.lemmas.List.Sums.{sum_by-cons}
use Rattle.snap_path.specs.Text.{Names}
use Rattle.snap_layer.specs.declared.node.Node.{Node}
use Rattle.snap_layer.specs.Tree.{Tree, Entries, path_cmp, at, is_dir, IsDirAt}
use Rattle.snap_layer.specs.Counts.{dir_count}
use Rattle.snap_layer.specs.Layers.{IsLayer, IsWhole, IsMeta}
use Rattle.snap_layer.specs.declared.node.Node.TheVariants.{Dir, File, Symlink, Whiteout}
use Rattle.snap_book.specs.Active.{meta_of_root}
use Rattle.snap_usage.specs.Counted.{count_of}
use Rattle.snap_ledger.specs.States.{CoversOne}

abbrev one_if : Bool → ℕ
one_if b = cond b 1 0

same_value : {a b : Node} → Some a ≡ Some b → a ≡ b
same_value e = cc

-- what is looked up and passes the test is counted
found_count : (es : Entries) (test : Node → Bool) (f : Names → Bool) (n : Node) → lookup f es ≡ Some n → test n ≡ true → 1 ≤ count_by test (values_of es)
found_count [] test f n e is = absurd (cc)
found_count (x ∷ xs) test f n e is = by (f x.0) refl (found_count xs test f n)
  where
    by : (b : Bool) → f x.0 ≡ b → (lookup f xs ≡ Some n → test n ≡ true → 1 ≤ count_by test (values_of xs)) → 1 ≤ count_by test (values_of (x ∷ xs))
    by true h next =
        let here : x.1 ≡ n = same_value (rw h at e) in
        let one : one_if (test x.1) ≡ 1 = ap (λ (m : Node). one_if (test m)) here ∙ ap one_if is in
        omega (arith, one, sum_by-cons (λ (m : Node). cond (test m) 1 0) x.1 (values_of xs))
    by false h next =
        let rest = next (rw h at e) is in
        omega (arith, rest, sum_by-cons (λ (m : Node). cond (test m) 1 0) x.1 (values_of xs))

root_count : (t : Tree) (o : Option Node) → at t [] ≡ o → IsDirAt o → 1 ≤ dir_count t
root_count t None e h = absurd h
root_count t (Some n) e h = found_count t.entries is_dir (is_at (path_cmp [])) n e h

-- the root is counted
pub count_covers_one : (t : Tree) → IsLayer t → CoversOne (count_of t)
count_covers_one t layer = let root = root_count t (at t []) refl layer.root in record { blocks = omega (arith, root); inodes = omega (arith, root) }

-- its meta is whole, as that of each directory
pub meta-whole : (t : Tree) (p : Names) (n : Node) → IsLayer t → at t p ≡ Some n → IsMeta (meta_of_root (Some n))
meta-whole t p (Dir meta opaque) layer e = let whole : IsWhole t (Dir meta opaque) = layer.nodes p (Dir meta opaque) e in whole
meta-whole t p (File number) layer e = omega arith
meta-whole t p (Symlink number) layer e = omega arith
meta-whole t p Whiteout layer e = omega arith
