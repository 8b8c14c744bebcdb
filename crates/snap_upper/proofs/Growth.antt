-- What is added to a layer, with the directories that are missing above it.
use Rattle.std.proofs.Common.{◌≡◌, ℕ, ◌+◌, ◌≤◌, Bool, true, false, not, List, [], ◌∷◌, ◌++◌, length, drop, Option, Some, None, is_some, refl, sym, ap, subst, ◌∙◌, arith, append-nil, length-append}
use Rattle.std.specs.Prelude.{option_and_then, if◌then◌else◌}
use Rattle.std.specs.Ordering.{nat_cmp}
use Rattle.std.specs.List.Sorted.{IsStrictlySortedBy}
use Rattle.std.specs.Map.{lookup, keys_of}
use Rattle.std.specs.BTreeMap.{is_at, insert_entry}
use Rattle.snap_path.specs.Text.{Names, IsPath, begins}
use Rattle.snap_layer.specs.declared.node.Node.{Node}
use Rattle.snap_layer.specs.declared.node.Node.TheVariants as node
use Rattle.snap_layer.specs.declared.node.Body.{Body}
use Rattle.snap_layer.specs.declared.node.Body.TheVariants as body_kinds
use Rattle.snap_layer.specs.Tree.{Tree, Bodies, IsDirAt, at, body, has_number, number_of, path_cmp}
use Rattle.snap_layer.specs.Contents.{size_of}
use Rattle.snap_layer.specs.Counts.{inode_count, block_count, name_count, body_blocks, blocks_of}
use Rattle.snap_layer.specs.Layers.{IsLayer}
use Rattle.snap_layer.specs.Edits.{IsFree, with_entry, with_node, with_new, without, outside, bodies_without}
use Rattle.snap_layer.proofs.Lists.{sorted-filter}
use Rattle.snap_layer.proofs.Paths.{begins_rest}
use Rattle.snap_layer.proofs.Looks.{at-without, same_tree, number_is, Sets-with_entry, SetsBody-insert_entry}
use Rattle.snap_layer.proofs.Counting.{inodes_of, weight, dirs, weight_of_body, inode_count-with_entry, block_count-with_entry, block_count-with_body, name_count-insert_entry, length-insert_new}
use Rattle.snap_layer.proofs.Kept.{next_is_fresh, nothing_below}
use Rattle.snap_layer.proofs.Laws.{sorted-with_entry}
use Rattle.snap_layer.proofs.Replacing.{with_node-free}
use Rattle.snap_usage.specs.declared.usage.Usage.{Usage}
use Rattle.snap_merge.specs.Objects.{AreLayers}
use Rattle.snap_merge.specs.Walk.{walk_error}
use Rattle.snap_copyup.specs.declared.parents.Last.{Last}
use Rattle.snap_copyup.specs.declared.parents.Last.TheVariants.{Nothing, Dir, File, Symlink, Whiteout}
use Rattle.snap_copyup.specs.Copying.{with_parents}
use Rattle.snap_copyup.specs.Places.{with_last, CanStand, TakesMore}
use Rattle.snap_copyup.proofs.Most.{most_last, most_parents}
use Rattle.snap_copyup.proofs.ParentDirs.{AddsParents, adds_parents}
use Rattle.snap_copyup.proofs.Growing.{grows_from}
use Rattle.snap_copyup.proofs.Layers.{no_missing, IsLayer-put}
use Rattle.snap_upper.specs.After.{is_whiteout_at}
use Rattle.snap_upper.specs.Adding.{Takes, IsNext}

none_some : {A : Type 0} {x : A} → None ≡ Some x → ⊥
none_some e = cc

some_same : {j k : ℕ} → Some j ≡ Some k → j ≡ k
some_same e = cc

-- ---- a free place

-- a whiteout is an inode without blocks, and nothing has neither
pub free_inodes : (o : Option Node) → IsFree o → inodes_of o ≡ (if is_whiteout_at o then 1 else 0)
free_inodes None free = refl
free_inodes (Some (node.Dir m b)) free = absurd (cc)
free_inodes (Some (node.File k)) free = absurd (cc)
free_inodes (Some (node.Symlink k)) free = absurd (cc)
free_inodes (Some node.Whiteout) free = refl

pub free_dirs : (o : Option Node) → IsFree o → weight dirs o ≡ 0
free_dirs None free = refl
free_dirs (Some (node.Dir m b)) free = absurd (cc)
free_dirs (Some (node.File k)) free = absurd (cc)
free_dirs (Some (node.Symlink k)) free = absurd (cc)
free_dirs (Some node.Whiteout) free = refl

-- nothing or a whiteout stands at the path, and nothing below it, in a layer whose lists rise
pub record HasSpace (t : Tree) (p : Names) : Type 0 where
  pub paths : IsStrictlySortedBy path_cmp (keys_of t.entries)
  pub numbers : IsStrictlySortedBy nat_cmp (keys_of t.bodies)
  pub fresh : body t t.next ≡ None
  pub free : IsFree (at t p)
  pub same : (n : Node) → with_node t p n ≡ with_entry t p n

space_of_layer : (t : Tree) (p : Names) → IsLayer t → IsFree (at t p) → HasSpace t p
space_of_layer t p ok free = record {
  paths = ok.sorted_paths;
  numbers = ok.sorted_numbers;
  fresh = next_is_fresh t ok;
  free = free;
  same = λ n. with_node-free t ok p n free;
}

-- where nothing stands at the path or below it nothing is taken
pub without_bare : (t : Tree) (p : Names) → IsStrictlySortedBy path_cmp (keys_of t.entries) → ((r : Names) → at t (p ++ r) ≡ None) → without t p ≡ t
without_bare t p sorted bare =
    same_tree (without t p) t
    (sorted-filter path_cmp (λ e. not (begins p e.0)) t.entries sorted)
    sorted
    (λ q. at-without t p q ∙ by q (begins p q) refl)
    (ap (λ o. bodies_without (option_and_then number_of o) (outside p t.entries) t.bodies) (ap (at t) (sym (append-nil p)) ∙ bare []))
    refl
    refl
  where
    by : (q : Names) (b : Bool) → begins p q ≡ b → (if b then None else at t q) ≡ at t q
    by q true e = sym (ap (at t) (begins_rest p q e) ∙ bare (drop (length p) q))
    by q false e = refl

-- the directories above a path are added, and it has space
pub space : (u : Tree) (ls : List Tree) (p : Names) → IsLayer u → walk_error (u ∷ ls) p ≡ None → IsFree (at u p) → HasSpace (with_parents u ls p) p
space u ls p ok way free = by (at u p) refl
  where
    t : Tree
    t = with_parents u ls p

    adds : AddsParents u (with_parents u ls p) ls (length p)
    adds = adds_parents u ls p way

    by : (o : Option Node) → at u p ≡ o → HasSpace (with_parents u ls p) p
    by (Some n) e = subst (λ (v : Tree). HasSpace v p) (sym (no_missing u ls p ok (ap is_some e))) (space_of_layer u p ok free)
    by None e =
        let sorted = (grows_from u ls [] p ok.sorted_paths way).sorted in
        record {
          paths = sorted;
          numbers = subst (λ (bs : Bodies). IsStrictlySortedBy nat_cmp (keys_of bs)) (sym adds.bodies) ok.sorted_numbers;
          fresh = (λ i. lookup (is_at (nat_cmp (adds.next i))) (adds.bodies i)) ∙ next_is_fresh u ok;
          free = subst IsFree (sym (adds.leaves p (omega arith))) free;
          same = λ n. ap (λ (v : Tree). with_entry v p n) (without_bare t p sorted (bare e));
        }
      where
        bare : at u p ≡ None → (r : Names) → at (with_parents u ls p) (p ++ r) ≡ None
        bare none [] = ap (at t) (append-nil p) ∙ adds.leaves p (omega arith) ∙ none
        bare none (n ∷ r) = adds.leaves (p ++ n ∷ r) (omega (arith, length-append p (n ∷ r))) ∙ nothing_below u ok p (λ is. subst IsDirAt none is) n r

-- ---- what is added

-- a node has no other number than its own
other_number : (k : ℕ) (n : Node) → (number_of n ≡ Some k → ⊥) → has_number k n ≡ false
other_number k n other = by (has_number k n) refl
  where
    by : (b : Bool) → has_number k n ≡ b → has_number k n ≡ false
    by true e = absurd (other (number_is k n e))
    by false e = e

free_names : (k : ℕ) (o : Option Node) → IsFree o → weight (λ m. if has_number k m then 1 else 0) o ≡ 0
free_names k None free = refl
free_names k (Some (node.Dir m b)) free = absurd (cc)
free_names k (Some (node.File j)) free = absurd (cc)
free_names k (Some (node.Symlink j)) free = absurd (cc)
free_names k (Some node.Whiteout) free = refl

-- one inode more at the path, but for a whiteout that goes, these blocks, and no name of another number
record Adds (t v : Tree) (p : Names) (many : ℕ) (numbered : Bool) : Type 0 where
  inodes : inode_count v + (if is_whiteout_at (at t p) then 1 else 0) ≡ inode_count t + 1
  blocks : block_count v ≡ block_count t + many
  next : v.next ≡ t.next + (if numbered then 1 else 0)
  paths : IsStrictlySortedBy path_cmp (keys_of v.entries)
  others : (q : Names) → (q ≡ p → ⊥) → at v q ≡ at t q
  names : (k : ℕ) → (k ≡ t.next → ⊥) → name_count k v.entries ≡ name_count k t.entries
  bodies : (k : ℕ) → (k ≡ t.next → ⊥) → body v k ≡ body t k

module _ (t : Tree) (p : Names) (has : HasSpace t p) where
  retold : (v : Tree) (blocks b : ℕ) (numbered n : Bool) → blocks ≡ b → numbered ≡ n → Adds t v p b n → Adds t v p blocks numbered
  retold v blocks b numbered n one two adds = subst (λ k. Adds t v p k numbered) (sym one) (subst (λ c. Adds t v p b c) (sym two) adds)

  names_with_entry : (k : ℕ) (n : Node) → (number_of n ≡ Some k → ⊥) → name_count k (with_entry t p n).entries ≡ name_count k t.entries
  names_with_entry k n other = omega (arith, name_count-insert_entry k t.entries p n has.paths, free_names k (at t p) has.free, ap {B = ℕ} (λ b. if b then 1 else 0) (other_number k n other))

  adds_entry : (n : Node) (v : Tree) → v ≡ with_entry t p n → inodes_of (Some n) ≡ 1 → number_of n ≡ None → Adds t v p (dirs n) false
  adds_entry n v is one no_number = subst (λ (w : Tree). Adds t w p (dirs n) false) (sym is) (record {
    inodes = omega (arith, inode_count-with_entry t p n has.paths, free_inodes (at t p) has.free, one);
    blocks = omega (arith, block_count-with_entry t p n has.paths, free_dirs (at t p) has.free);
    next = omega arith;
    paths = sorted-with_entry t p n has.paths;
    others = (Sets-with_entry t p n).others;
    names = λ k other. names_with_entry k n (λ e. none_some (sym no_number ∙ e));
    bodies = λ k other. refl;
  })

  abbrev named : Node → Body → Tree
  named n b = record (with_entry t p n) { bodies = insert_entry nat_cmp t.bodies t.next b; next = t.next + 1 }

  is_named : (n : Node) (b : Body) → with_new t p n b ≡ named n b
  is_named n b = ap {B = Tree} (λ (w : Tree). record w { bodies = insert_entry nat_cmp w.bodies t.next b; next = t.next + 1 }) (has.same n)

  adds_new : (n : Node) (b : Body) → inodes_of (Some n) ≡ 0 → dirs n ≡ 0 → number_of n ≡ Some t.next → Adds t (with_new t p n b) p (body_blocks b) true
  adds_new n b none no_dir number = subst (λ (w : Tree). Adds t w p (body_blocks b) true) (sym (is_named n b)) (record {
    inodes = omega (arith, inode_count-with_entry t p n has.paths, free_inodes (at t p) has.free, none, length-insert_new t.bodies t.next b has.numbers has.fresh);
    blocks = omega (arith, block_count-with_entry t p n has.paths, free_dirs (at t p) has.free, no_dir, block_count-with_body (with_entry t p n) t.next b has.numbers, ap (weight_of_body body_blocks) has.fresh);
    next = refl;
    paths = sorted-with_entry t p n has.paths;
    others = (Sets-with_entry t p n).others;
    names = λ k other. names_with_entry k n (λ e. other (some_same (sym e ∙ number)));
    bodies = (SetsBody-insert_entry t (named n b) t.next b refl).others;
  })

  last_adds : (last : Last) (blocks : ℕ) (numbered : Bool) → Takes last blocks numbered → Adds t (with_last last t p) p blocks numbered
  last_adds Nothing blocks numbered is = absurd is
  last_adds (Dir meta opaque) blocks numbered is = retold (with_entry t p (node.Dir meta opaque)) blocks 1 numbered false is.0 is.1 (adds_entry (node.Dir meta opaque) (with_entry t p (node.Dir meta opaque)) refl refl refl)
  last_adds (File meta content) blocks numbered is = retold (with_last (File meta content) t p) blocks (blocks_of (size_of content)) numbered true is.0 is.1 (adds_new (node.File t.next) (body_kinds.File meta content) refl refl refl)
  last_adds (Symlink target) blocks numbered is = retold (with_last (Symlink target) t p) blocks 0 numbered true is.0 is.1 (adds_new (node.Symlink t.next) (body_kinds.Symlink target) refl refl refl)
  last_adds Whiteout blocks numbered is = retold (with_node t p node.Whiteout) blocks 0 numbered false is.0 is.1 (adds_entry node.Whiteout (with_node t p node.Whiteout) (has.same node.Whiteout) refl refl)

-- ---- the next layer

module _ (u : Tree) (ls : List Tree) (p : Names) (last : Last) (blocks : ℕ) (numbered : Bool) (ok : IsLayer u) (way : walk_error (u ∷ ls) p ≡ None) (takes : Takes last blocks numbered) (free : IsFree (at u p)) (missing : ℕ) (more : TakesMore missing u (with_parents u ls p)) where
  abbrev t : Tree
  t = with_parents u ls p

  abbrev v : Tree
  v = with_last last (with_parents u ls p) p

  adds : Adds (with_parents u ls p) (with_last last (with_parents u ls p) p) p blocks numbered
  adds = last_adds t p (space u ls p ok way free) last blocks numbered takes

  parents : AddsParents u (with_parents u ls p) ls (length p)
  parents = adds_parents u ls p way

  pub all_inodes : inode_count v + (if is_whiteout_at (at u p) then 1 else 0) ≡ inode_count u + missing + 1
  all_inodes = omega (arith, adds.inodes, ap {B = ℕ} (λ (o : Option Node). if is_whiteout_at o then 1 else 0) (parents.leaves p (omega arith)), more.0)

  pub all_blocks : block_count v ≡ block_count u + missing + blocks
  all_blocks = omega (arith, adds.blocks, more.1)

  pub next_number : v.next ≡ u.next + (if numbered then 1 else 0)
  next_number = omega (arith, adds.next, parents.next)

  pub all_paths : IsStrictlySortedBy path_cmp (keys_of v.entries)
  all_paths = adds.paths

  pub all_others : (q : Names) → (q ≡ p → ⊥) → at v q ≡ at (with_parents u ls p) q
  all_others = adds.others

  pub all_names : (k : ℕ) → (k ≡ u.next → ⊥) → name_count k v.entries ≡ name_count k u.entries
  all_names k other = adds.names k (λ e. other (e ∙ parents.next)) ∙ (grows_from u ls [] p ok.sorted_paths way).names k

  pub all_bodies : (k : ℕ) → (k ≡ u.next → ⊥) → body v k ≡ body u k
  all_bodies k other = adds.bodies k (λ e. other (e ∙ parents.next)) ∙ ap (λ (bs : Bodies). lookup (is_at (nat_cmp k)) bs) parents.bodies

  pub growth_next : AreLayers ls → IsPath p → CanStand last u p → (usage : Usage) → usage.inodes + (if is_whiteout_at (at u p) then 1 else 0) ≡ inode_count u + missing + 1 → usage.blocks ≡ block_count u + missing + blocks → IsNext u v usage numbered
  growth_next layers path fit usage inodes is_blocks = record {
    inodes = omega (arith, all_inodes, inodes);
    blocks = omega (arith, is_blocks, all_blocks);
    number = next_number;
    most = most_last last (with_parents u ls p) p ∙ most_parents u ls p;
    layer = λ within. IsLayer-put u ls p last ok layers way path fit within;
  }

-- at most one whiteout goes
pub no_more : (b : Bool) → ◌≤◌ (if b then 1 else 0) 1
no_more true = omega arith
no_more false = omega arith
