-- What an edit does to what a layer keeps beside its inodes.
use Rattle.std.proofs.Common.{◌≡◌, ℕ, ◌+◌, ◌*◌, ◌<◌, ◌≤◌, Bool, true, false, cond, [], ◌∷◌, length, Option, Some, None, IsSome, refl, sym, ap, subst, ◌∙◌, arith}
use Rattle.std.specs.Prelude.{is_some, ◌-◌, ◌^◌, ◌==◌, count_by, if◌then◌else◌}
use Rattle.std.proofs.lemmas.Bool.Decides.{nat_tests}
use Rattle.std.specs.List.{sum_by}
use Rattle.std.specs.List.Sorted.{IsStrictlySortedBy}
use Rattle.std.specs.Map.{lookup, keys_of, values_of}
use Rattle.std.specs.BTreeMap.{is_at}
use Rattle.std.proofs.lemmas.Bool.{cond-true}
use Rattle.std.proofs.lemmas.List.Sums.{sum_by-cons}
use Rattle.std.proofs.lemmas.Map.Entries.{sum_by-insert_entry}
use Rattle.snap_path.specs.Text.{Names, IsPath, begins}
use Rattle.snap_layer.specs.declared.node.Meta.{Meta}
use Rattle.snap_layer.specs.declared.node.Node.{Node}
use Rattle.snap_layer.specs.declared.node.Node.TheVariants as node
use Rattle.snap_layer.specs.declared.node.Body.{Body}
use Rattle.snap_layer.specs.declared.node.Body.TheVariants as body_kinds
use Rattle.snap_layer.specs.declared.totals.Totals.{Totals}
use Rattle.snap_layer.specs.Tree.{Tree, Entries, path_cmp, at, body, number_of, number_at, has_number, is_dir, is_whiteout, IsDirAt, leaf_node}
use Rattle.snap_layer.specs.Counts.{dir_count, whiteout_count, inode_count, block_count, name_count, body_blocks, most_file_blocks, most_inodes}
use Rattle.snap_layer.specs.Layers.{IsLayer, IsMeta}
use Rattle.snap_layer.specs.Edits.{with_entry, with_body, with_node, with_moved, without, outside, inside, HasPlace}
use Rattle.snap_layer.specs.Totals.{path_count, Counts, IsClear}
use Rattle.snap_layer.proofs.Lists.{lookup-filter, sum_by-filter}
use Rattle.snap_layer.proofs.Paths.{begins_itself, path_cmp_total, path_cmp-IsAntisymmetric}
use Rattle.snap_layer.proofs.Counting.{dirs, whites, weight, inode_count-without, block_count-with_entry, block_count-with_body, weight_of_body, inode_count-with_body, block_count-without, length-bodies_without, blocks-bodies_without, dropped_blocks}
use Rattle.snap_layer.proofs.Filling.{dropped_last, dropped_other, Becomes, file_name_becomes, symlink_name_becomes, file_there, symlink_there}
use Rattle.snap_layer.proofs.Kept.{has_body, node_with_number}
use Rattle.snap_layer.proofs.Looks.{has_its_number}
use Rattle.snap_layer.proofs.Covering.{names_taken, names_beside, sums_taken}
use Rattle.snap_layer.proofs.Bounds.{blocks_of_bodies}
use Rattle.snap_layer.proofs.Replacing.{at_taken}
use Rattle.snap_layer.proofs.Laws.{block_count-with_node}
use Rattle.snap_layer.proofs.Moves.{at-moved_gone, sorted-without, sorted-moved, sum_by-moved, IsVacant-without}
use Rattle.snap_layer.proofs.Setting.{dir_stays}

abbrev ones : Node → ℕ
ones n = 1

pub path_count-with_entry : (t : Tree) (p : Names) (n : Node) → IsStrictlySortedBy path_cmp (keys_of t.entries) → path_count (with_entry t p n) + weight ones (at t p) ≡ path_count t + 1
path_count-with_entry t p n sorted = sum_by-insert_entry ones path_cmp_total t.entries p n sorted

pub path_count-with_node : (t : Tree) (p : Names) (n : Node) → IsStrictlySortedBy path_cmp (keys_of t.entries) → path_count (with_node t p n) ≡ path_count (without t p) + 1
path_count-with_node t p n sorted = omega (arith, path_count-with_entry (without t p) p n (sorted-without t p sorted), ap (weight ones) (at_taken t p))

pub path_count-with_moved : (t : Tree) (from to : Names) (leaves : Bool) → IsStrictlySortedBy path_cmp (keys_of t.entries) → begins to from ≡ false → path_count (with_moved t from to leaves) ≡ path_count (without t to) + cond leaves 1 0
path_count-with_moved t from to true sorted apart =
    omega (arith, path_count-with_entry (with_moved t from to false) from node.Whiteout (sorted-moved (without t to) from to (sorted-without t to sorted)), ap (weight ones) (at-moved_gone (without t to) from to from apart (begins_itself from)), sum_by-moved ones (without t to) from to (sorted-without t to sorted) (IsVacant-without t to))
path_count-with_moved t from to false sorted apart = omega (arith, sum_by-moved ones (without t to) from to (sorted-without t to sorted) (IsVacant-without t to))

-- a number has fewer names than there are paths, where a directory is among them
names_most : (k : ℕ) (es : Entries) → name_count k es ≤ sum_by ones (values_of es)
names_most k [] = omega arith
names_most k (e ∷ es) = omega (arith, sum_by-cons ones e.1 (values_of es), sum_by-cons (λ m. cond (has_number k m) 1 0) e.1 (values_of es), names_most k es, one (has_number k e.1))
  where
    one : (b : Bool) → cond b 1 0 ≤ 1
    one true = omega arith
    one false = omega arith

pub names_few : (k : ℕ) (p : Names) (es : Entries) → IsDirAt (lookup (is_at (path_cmp p)) es) → name_count k es + 1 ≤ sum_by ones (values_of es)
names_few k p [] dir = absurd dir
names_few k p (e ∷ es) dir = by (is_at (path_cmp p) e.0) dir (names_few k p es)
  where
    one : (b : Bool) → cond b 1 0 ≤ 1
    one true = omega arith
    one false = omega arith

    none : (n : Node) → IsDirAt (Some n) → ◌≡◌ {A = ℕ} (cond (has_number k n) 1 0) 0
    none (node.Dir m b) is = refl
    none (node.File j) is = absurd (cc)
    none (node.Symlink j) is = absurd (cc)
    none node.Whiteout is = absurd (cc)

    by : (b : Bool) → IsDirAt (cond b (Some e.1) (lookup (is_at (path_cmp p)) es)) → (IsDirAt (lookup (is_at (path_cmp p)) es) → name_count k es + 1 ≤ sum_by ones (values_of es)) → name_count k (e ∷ es) + 1 ≤ sum_by ones (values_of (e ∷ es))
    by true is later = omega (arith, sum_by-cons ones e.1 (values_of es), sum_by-cons (λ m. cond (has_number k m) 1 0) e.1 (values_of es), names_most k es, none e.1 is)
    by false is later = omega (arith, sum_by-cons ones e.1 (values_of es), sum_by-cons (λ m. cond (has_number k m) 1 0) e.1 (values_of es), later is, one (has_number k e.1))

-- ---- the paths that go

-- one for a name
abbrev named : Node → ℕ
named n = cond (is_some (number_of n)) 1 0

-- each path is that of a directory, a whiteout or a name
paths_split : (es : Entries) → sum_by ones (values_of es) ≡ count_by is_dir (values_of es) + count_by is_whiteout (values_of es) + sum_by named (values_of es)
paths_split [] = refl
paths_split (e ∷ es) = omega (arith, sum_by-cons ones e.1 (values_of es), sum_by-cons dirs e.1 (values_of es), sum_by-cons whites e.1 (values_of es), sum_by-cons named e.1 (values_of es), one e.1, paths_split es)
  where
    one : (n : Node) → 1 ≡ dirs n + whites n + named n
    one (node.Dir m b) = refl
    one (node.File j) = refl
    one (node.Symlink j) = refl
    one node.Whiteout = refl

-- where no number has a name there is none
unnamed : (es : Entries) → ((k : ℕ) → name_count k es ≡ 0) → sum_by named (values_of es) ≡ 0
unnamed [] none = refl
unnamed (e ∷ es) none = omega (arith, sum_by-cons named e.1 (values_of es), by (number_of e.1) refl, unnamed es (λ k. omega (arith, none k, cons k)))
  where
    cons : (k : ℕ) → name_count k (e ∷ es) ≡ cond (has_number k e.1) 1 0 + name_count k es
    cons k = sum_by-cons (λ m. cond (has_number k m) 1 0) e.1 (values_of es)

    by : (o : Option ℕ) → number_of e.1 ≡ o → ◌≡◌ {A = ℕ} (cond (is_some o) 1 0) 0
    by None is = refl
    by (Some k) is = absurd (omega (arith, none k, cons k, ap {B = ℕ} (λ (b : Bool). cond b 1 0) (has_its_number k e.1 is)))

-- where something stands there is a path
some_path : (p : Names) (es : Entries) → IsSome (lookup (is_at (path_cmp p)) es) → 1 ≤ sum_by ones (values_of es)
some_path p [] some = absurd (cc)
some_path p (e ∷ es) some = omega (arith, sum_by-cons ones e.1 (values_of es))

module _ (t : Tree) (ok : IsLayer t) (p : Names) where
  abbrev gone : Entries
  gone = inside p t.entries

  -- what goes has the name at the path, and no other where nothing but whiteouts stands below it
  names_gone : (o : Option ℕ) → number_at t p ≡ o → (cond (is_some o) 1 0 ≤ sum_by named (values_of gone)) × (IsClear t p → ◌≡◌ {A = ℕ} (cond (is_some o) 1 0) (sum_by named (values_of gone)))
  names_gone None is = (omega arith, λ clear. sym (unnamed gone (λ k. omega (arith, names_beside t ok p is clear k, sum_by-filter (λ n. cond (has_number k n) 1 0) (λ e. begins p e.0) t.entries))))
  names_gone (Some k) is =
      let v = node_with_number (at t p) k is in
      let one : sum_by named (values_of gone) ≡ 1 = omega (arith, sums_taken t ok p v.0 k v.1 v.2 named, sum_by-filter named (λ e. begins p e.0) t.entries, ap {B = ℕ} (λ (o : Option ℕ). cond (is_some o) 1 0) v.2) in
      (omega (arith, one), λ clear. sym one)

  pub paths_gone : (many whites_ names : ℕ) → many ≡ count_by is_dir (values_of gone) → whites_ ≡ count_by is_whiteout (values_of gone) → names ≡ (if is_some (number_at t p) then 1 else 0)
      → (many + whites_ + names ≤ path_count t) × (IsClear t p → path_count (without t p) + many + whites_ + names ≡ path_count t)
  paths_gone many whites_ names dirs_are whites_are names_are =
      let all = sum_by-filter ones (λ e. begins p e.0) t.entries in
      let split = paths_split gone in
      let some = names_gone (number_at t p) refl in
      (omega (arith, all, split, some.0, dirs_are, whites_are, names_are), λ clear. omega (arith, all, split, some.1 clear, dirs_are, whites_are, names_are))

  -- where something stands there, a path goes
  pub path_gone : (n : ℕ) → n ≡ path_count (without t p) → path_count t < 2 ^ 64 → n ≡ 2 ^ 64 - 1 → at t p ≡ None
  path_gone n left few last = by (at t p) refl
    where
      by : (o : Option Node) → at t p ≡ o → o ≡ None
      by None is = refl
      by (Some v) is =
          let there : lookup (is_at (path_cmp p)) gone ≡ Some v = lookup-filter path_cmp_total path_cmp-IsAntisymmetric (begins p) p t.entries ∙ cond-true (begins p p) (at t p) None (begins_itself p) ∙ is in
          absurd (omega (arith, sum_by-filter ones (λ e. begins p e.0) t.entries, some_path p gone (ap is_some there), left, few, last))

-- ---- the totals of a next layer

module _ (t : Tree) (ok : IsLayer t) (p : Names) (v : Totals) (paths : v.paths ≡ path_count (without t p) + 1) where
  pub counts_node : (n : Node) → v.inodes ≡ inode_count (with_node t p n) → v.blocks ≡ block_count (without t p) + dirs n → Counts v (with_node t p n)
  counts_node n inodes blocks = record { inodes = inodes; blocks = omega (arith, blocks, block_count-with_node t p n ok); paths = omega (arith, path_count-with_node t p n ok.sorted_paths, paths) }

-- a directory's meta or mark changes nothing
pub counts_dir : (t : Tree) → IsLayer t → (p : Names) (m n : Meta) (b c : Bool) (v : Totals) → at t p ≡ Some (node.Dir m b) → IsMeta n → Counts v t → Counts v (with_entry t p (node.Dir n c))
counts_dir t ok p m n b c v is low had = record {
  inodes = omega (arith, had.inodes, (dir_stays t ok p m n b c is low).count);
  blocks = omega (arith, had.blocks, block_count-with_entry t p (node.Dir n c) ok.sorted_paths, ap (weight dirs) is);
  paths = omega (arith, had.paths, path_count-with_entry t p (node.Dir n c) ok.sorted_paths, ap (weight ones) is);
}

-- another body changes the blocks alone
pub counts_body : (t : Tree) → IsLayer t → (k : ℕ) (old new : Body) (v w : Totals) → body t k ≡ Some old → Counts v t → w.inodes ≡ v.inodes → w.paths ≡ v.paths → w.blocks + body_blocks old ≡ v.blocks + body_blocks new → Counts w (with_body t k new)
counts_body t ok k old new v w is had inodes paths blocks = record {
  inodes = omega (arith, inodes, had.inodes, inode_count-with_body t k new ok.sorted_numbers (ap is_some is));
  blocks = omega (arith, blocks, had.blocks, block_count-with_body t k new ok.sorted_numbers, ap (weight_of_body body_blocks) is);
  paths = omega (arith, paths, had.paths);
}

-- ---- bounds

pub few_blocks : (t : Tree) → IsLayer t → block_count t ≤ most_inodes + most_inodes * most_file_blocks
few_blocks t ok = omega (arith, ok.few, ok.most.1, blocks_of_bodies t ok)

pub fewer_blocks : (t : Tree) (p : Names) → block_count (without t p) ≤ block_count t
fewer_blocks t p = omega (arith, block_count-without t p)

pub body_few : (t : Tree) → IsLayer t → (k : ℕ) (b : Body) → body t k ≡ Some b → body_blocks b ≤ block_count t
body_few t ok k b is = omega (arith, block_count-with_body t k (body_kinds.Symlink []) ok.sorted_numbers, ap (weight_of_body body_blocks) is)

-- ---- the body of a name that is taken

is_zero : (n : ℕ) → n ≡ 0 → (n == 0) ≡ true
is_zero n e = grind (arith, nat_tests)

not_zero : (n : ℕ) → (n ≡ 0 → ⊥) → (n == 0) ≡ false
not_zero n e = grind (arith, nat_tests)

module _ (u : Tree) (ok : IsLayer u) (p : Names) (k : ℕ) (number : number_at u p ≡ Some k) where
  counted : name_count k u.entries ≡ name_count k (outside p u.entries) + 1
  counted =
      let v = node_with_number (at u p) k number in
      names_taken u ok p v.0 k v.1 v.2 k ∙ ap (λ b. name_count k (outside p u.entries) + cond b 1 0) (has_its_number k v.0 v.2)

  blocks_by : (b : Bool) → (name_count k (outside p u.entries) == 0) ≡ b → dropped_blocks (number_at u p) (outside p u.entries) u.bodies ≡ cond b (weight_of_body body_blocks (body u k)) 0
  blocks_by b test = ap (λ o. dropped_blocks o (outside p u.entries) u.bodies) number ∙ ap (λ x. cond x (weight_of_body body_blocks (body u k)) 0) test

  module _ (one : name_count k u.entries ≡ 1) where
    last : name_count k (outside p u.entries) ≡ 0
    last = omega (arith, counted, one)

    pub last_inodes : length (without u p).bodies + 1 ≡ length u.bodies
    last_inodes = omega (arith, length-bodies_without (number_at u p) (outside p u.entries) u.bodies (has_body u ok p), dropped_last (number_at u p) k (name_count k (outside p u.entries)) (outside p u.entries) number refl last)

    pub last_blocks : (b : Body) → body u k ≡ Some b → sum_by body_blocks (values_of (without u p).bodies) + body_blocks b ≡ sum_by body_blocks (values_of u.bodies)
    last_blocks b is = omega (arith, blocks-bodies_without (number_at u p) (outside p u.entries) u.bodies, blocks_by true (is_zero (name_count k (outside p u.entries)) last), ap (weight_of_body body_blocks) is)

  module _ (more : name_count k u.entries ≡ 1 → ⊥) where
    others : name_count k (outside p u.entries) ≡ 0 → ⊥
    others none = more (omega (arith, counted, none))

    pub other_inodes : length (without u p).bodies + 0 ≡ length u.bodies
    other_inodes = omega (arith, length-bodies_without (number_at u p) (outside p u.entries) u.bodies (has_body u ok p), dropped_other (number_at u p) k (name_count k (outside p u.entries)) (outside p u.entries) number refl others)

    pub other_blocks : sum_by body_blocks (values_of (without u p).bodies) + 0 ≡ sum_by body_blocks (values_of u.bodies)
    other_blocks = omega (arith, blocks-bodies_without (number_at u p) (outside p u.entries) u.bodies, blocks_by false (not_zero (name_count k (outside p u.entries)) others))

-- the directory at a path
pub dir_there : (t : Tree) (p : Names) → IsDirAt (at t p) → (m : Meta) × (b : Bool) × (at t p ≡ Some (node.Dir m b))
dir_there t p dir = by (at t p) refl dir
  where
    by : (o : Option Node) → at t p ≡ o → IsDirAt o → (m : Meta) × (b : Bool) × (at t p ≡ Some (node.Dir m b))
    by None is d = absurd d
    by (Some (node.Dir m b)) is d = (m, b, is)
    by (Some (node.File k)) is d = absurd (cc)
    by (Some (node.Symlink k)) is d = absurd (cc)
    by (Some node.Whiteout) is d = absurd (cc)

-- ---- what is left

left_facts : (t : Tree) (p : Names) → (dir_count (without t p) + count_by is_dir (values_of (inside p t.entries)) ≡ dir_count t) × (whiteout_count (without t p) + count_by is_whiteout (values_of (inside p t.entries)) ≡ whiteout_count t)
left_facts t p = (omega (arith, sum_by-filter dirs (λ e. begins p e.0) t.entries), omega (arith, sum_by-filter whites (λ e. begins p e.0) t.entries))

-- what a layer takes is what is left, and what goes
pub record IsLeft (t : Tree) (p : Names) (totals : Totals) (dirs whiteouts files freed : ℕ) : Type 0 where
  pub inodes_are : inode_count (without t p) + dirs + whiteouts + files ≡ totals.inodes
  pub blocks_are : block_count (without t p) + dirs + freed ≡ totals.blocks

-- v is the layer t, and q the path
pub left_is : (t v : Tree) → v ≡ t → (p q : Names) → q ≡ p → (totals : Totals) → Counts totals v → (many whites files freed : ℕ)
    → many ≡ count_by is_dir (values_of (inside q v.entries)) → whites ≡ count_by is_whiteout (values_of (inside q v.entries))
    → length (without t p).bodies + files ≡ length t.bodies → sum_by body_blocks (values_of (without t p).bodies) + freed ≡ sum_by body_blocks (values_of t.bodies)
    → IsLeft t p totals many whites files freed
left_is t v same p q path totals had many whites files freed dirs_are whites_are files_are freed_are =
    let counts : Counts totals t = subst (Counts totals) same had in
    let facts = left_facts t p in
    let d : many ≡ count_by is_dir (values_of (inside p t.entries)) = dirs_are ∙ (λ i. count_by is_dir (values_of (inside (path i) (same i).entries))) in
    let w : whites ≡ count_by is_whiteout (values_of (inside p t.entries)) = whites_are ∙ (λ i. count_by is_whiteout (values_of (inside (path i) (same i).entries))) in
    record {
      inodes_are = omega (arith, counts.inodes, facts.0, facts.1, d, w, files_are);
      blocks_are = omega (arith, counts.blocks, facts.0, d, freed_are);
    }

-- so are its paths
pub record ArePathsLeft (t : Tree) (p : Names) (totals : Totals) (dirs whiteouts names : ℕ) : Type 0 where
  pub fit : dirs + whiteouts + names ≤ totals.paths
  pub paths_are : IsClear t p → path_count (without t p) + dirs + whiteouts + names ≡ totals.paths
  pub few : path_count t ≡ totals.paths

pub paths_left : (t v : Tree) → v ≡ t → IsLayer t → (p q : Names) → q ≡ p → (totals : Totals) → Counts totals v → (many white names : ℕ)
    → many ≡ count_by is_dir (values_of (inside q v.entries)) → white ≡ count_by is_whiteout (values_of (inside q v.entries)) → names ≡ (if is_some (number_at t p) then 1 else 0)
    → ArePathsLeft t p totals many white names
paths_left t v same ok p q path totals had many white names dirs_are whites_are names_are =
    let counts : Counts totals t = subst (Counts totals) same had in
    let d : many ≡ count_by is_dir (values_of (inside p t.entries)) = dirs_are ∙ (λ i. count_by is_dir (values_of (inside (path i) (same i).entries))) in
    let w : white ≡ count_by is_whiteout (values_of (inside p t.entries)) = whites_are ∙ (λ i. count_by is_whiteout (values_of (inside (path i) (same i).entries))) in
    let left = paths_gone t ok p many white names d w names_are in
    record {
      fit = omega (arith, left.0, counts.paths);
      paths_are = λ clear. omega (arith, left.1 clear, counts.paths);
      few = sym counts.paths;
    }

pub fewer_inodes : (t : Tree) → IsLayer t → (p : Names) → inode_count (without t p) ≤ t.most
fewer_inodes t ok p = omega (arith, ok.few, inode_count-without t p (has_body t ok p))

-- ---- one more name

pub name_becomes : (t : Tree) (ok : IsLayer t) (p : Names) → IsPath p → HasPlace t p → (k : ℕ) (b : Body) → (number_at t p ≡ Some k → ⊥) → body t k ≡ Some b → Becomes (with_node t p (leaf_node k b)) (inode_count (without t p))
name_becomes t ok p path place k (body_kinds.File m content) apart is = file_name_becomes t ok p path (inode_count (without t p)) refl k place apart (file_there t ok k m content is)
name_becomes t ok p path place k (body_kinds.Symlink target) apart is = symlink_name_becomes t ok p path (inode_count (without t p)) refl k place apart (symlink_there t ok k target is)

pub name_no_dir : (k : ℕ) (b : Body) → dirs (leaf_node k b) ≡ 0
name_no_dir k (body_kinds.File m content) = refl
name_no_dir k (body_kinds.Symlink target) = refl

-- where the test fails nothing stands there
pub not_some : {A : Type 0} (b : Bool) (o : Option A) → b ≡ is_some o → b ≡ false → o ≡ None
not_some b None test fails = refl
not_some b (Some x) test fails = absurd (clash (sym test ∙ fails))
  where
    clash : true ≡ false → ⊥
    clash e = cc
