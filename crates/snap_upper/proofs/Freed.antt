-- What a layer takes without what stands at a path.
use Rattle.std.proofs.Common.{◌≡◌, inl, inr, ℕ, ◌+◌, Bool, true, false, cond, List, [], ◌∷◌, ◌++◌, length, drop, Option, Some, None, refl, sym, ap, subst, ◌∙◌, arith, append-nil, append_assoc}
use Rattle.std.specs.Prelude.{◌==◌, option_and_then, if◌then◌else◌}
use Rattle.std.specs.List.{sum_by}
use Rattle.std.specs.List.Sorted.{IsStrictlySortedBy}
use Rattle.std.specs.Map.{lookup, remove_entry, keys_of, values_of}
use Rattle.std.specs.BTreeMap.{is_at}
use Rattle.std.proofs.lemmas.Bool.{cond-true, cond-false}
use Rattle.std.proofs.lemmas.Bool.Decides.{nat_tests}
use Rattle.std.proofs.lemmas.List.Sums.{sum_by-cons}
use Rattle.std.proofs.lemmas.Map.Entries.{sum_by-remove_entry}
use Rattle.snap_path.specs.Text.{Names, IsPath, begins}
use Rattle.snap_layer.specs.declared.node.Node.{Node}
use Rattle.snap_layer.specs.declared.node.Node.TheVariants.{Dir, File, Symlink, Whiteout}
use Rattle.snap_layer.specs.declared.node.Body.{Body}
use Rattle.snap_layer.specs.Tree.{Tree, Entries, IsDirAt, path_cmp, at, body, has_number, number_at, number_of}
use Rattle.snap_layer.specs.Counts.{inode_count, block_count, name_count, body_blocks}
use Rattle.snap_layer.specs.Layers.{IsLayer}
use Rattle.snap_layer.specs.Edits.{HasPlace, IsFree, inside, outside, with_node, without}
use Rattle.snap_layer.proofs.Lists.{at_itself, lookup_below, lookup-filter, lookup-remove_entry, same_lists, sorted-filter, sorted-remove_entry, sum_by-filter}
use Rattle.snap_layer.proofs.Paths.{path_cmp_total, path_cmp-IsAntisymmetric, begins_itself, begins_rest}
use Rattle.snap_layer.proofs.Looks.{split_path, has_its_number}
use Rattle.snap_layer.proofs.Counting.{dirs, weight, dropped_blocks, weight_of_body, block_count-without}
use Rattle.snap_layer.proofs.Kept.{free_is_no_dir, node_with_number, nothing_below}
use Rattle.snap_layer.proofs.Laws.{block_count-with_node}
use Rattle.snap_layer.proofs.Filling.{whiteout_becomes}
use Rattle.snap_layer.proofs.Replacing.{clears_place, inode_count-with_node}
use Rattle.snap_usage.specs.declared.usage.Usage.{Usage}
use Rattle.snap_upper.specs.Adding.{weight_of, last_blocks, IsNext}
use Rattle.snap_upper.proofs.Outcomes.{few_from}

-- one entry rises
one_rises : (p : Names) (n : Node) → IsStrictlySortedBy path_cmp (keys_of ((p, n) ∷ []))
unfolding IsStrictlySortedBy
one_rises p n = (tt, tt)

-- a name is no directory, and is one name
not_dir : (o : Option Node) (n : Node) (k : ℕ) → o ≡ Some n → number_of n ≡ Some k → IsDirAt o → ⊥
not_dir o (Dir m b) k e f is = cc
not_dir o (File j) k e f is = no_bool (subst IsDirAt e is)
  where
    no_bool : false ≡ true → ⊥
    no_bool e = cc
not_dir o (Symlink j) k e f is = no_bool (subst IsDirAt e is)
  where
    no_bool : false ≡ true → ⊥
    no_bool e = cc
not_dir o Whiteout k e f is = cc

one_name : (a b : ℕ) → a ≡ b + 1 → (c d : Bool) → (a == 1) ≡ c → (b == 0) ≡ d → c ≡ d
one_name a b e true true f g = refl
one_name a b e false false f g = refl
one_name a b e true false f g = absurd (grind (arith, nat_tests))
one_name a b e false true f g = absurd (grind (arith, nat_tests))

weight_same : (o : Option Body) → weight_of o ≡ weight_of_body body_blocks o
weight_same None = refl
weight_same (Some b) = refl

module _ (u : Tree) (ok : IsLayer u) (p : Names) (k : ℕ) (number : number_at u p ≡ Some k) where
  found : (n : Node) × (at u p ≡ Some n) × (number_of n ≡ Some k)
  found = node_with_number (at u p) k number

  bare : (n : List ℕ) (r : Names) → at u (p ++ n ∷ r) ≡ None
  bare = nothing_below u ok p (not_dir (at u p) found.0 k found.1 found.2)

  -- nothing but the name stands at the path and below it
  alone : inside p u.entries ≡ (p, found.0) ∷ []
  alone = same_lists path_cmp_total path_cmp-IsAntisymmetric (inside p u.entries) ((p, found.0) ∷ []) (sorted-filter path_cmp (λ e. begins p e.0) u.entries ok.sorted_paths) (one_rises p found.0) (λ q. lookup-filter path_cmp_total path_cmp-IsAntisymmetric (λ x. begins p x) q u.entries ∙ same q)
    where
      beyond : (q : Names) → (p ≡ q → ⊥) → (b : Bool) → begins p q ≡ b → cond b (at u q) None ≡ None
      beyond q apart false e = refl
      beyond q apart true e = rest (drop (length p) q) (begins_rest p q e)
        where
          rest : (r : Names) → q ≡ p ++ r → at u q ≡ None
          rest [] is = absurd (apart (sym (is ∙ append-nil p)))
          rest (n ∷ r) is = ap (at u) is ∙ bare n r

      same : (q : Names) → cond (begins p q) (at u q) None ≡ cond (is_at (path_cmp q) p) (Some found.0) None
      same q = elim (split_path q p) [
        | inl one ↦
            ap (λ (x : Names). cond (begins p x) (at u x) None) one.0
            ∙ ap (λ b. cond b (at u p) None) (begins_itself p) ∙ found.1
            ∙ sym (ap (λ b. cond b (Some found.0) None) one.1)
        | inr two ↦ beyond q two.0 (begins p q) refl ∙ sym (ap (λ b. cond b (Some found.0) None) two.1)
      ]

  inside_sum : (f : Node → ℕ) → sum_by f (values_of (inside p u.entries)) ≡ 0 + f found.0
  inside_sum f = ap (λ (es : Entries). sum_by f (values_of es)) alone

  names_left : name_count k u.entries ≡ name_count k (outside p u.entries) + 1
  names_left = omega (arith, sum_by-filter (λ m. cond (has_number k m) 1 0) (λ e. begins p e.0) u.entries, inside_sum (λ m. cond (has_number k m) 1 0), ap {B = ℕ} (λ b. cond b 1 0) (has_its_number k found.0 found.2))

  last_is : (name_count k u.entries == 1) ≡ (name_count k (outside p u.entries) == 0)
  last_is = one_name (name_count k u.entries) (name_count k (outside p u.entries)) names_left (name_count k u.entries == 1) (name_count k (outside p u.entries) == 0) refl refl

  pub name_blocks : last_blocks u k ≡ dropped_blocks (Some k) (outside p u.entries) u.bodies
  name_blocks =
      ap (λ c. cond c (weight_of (body u k)) 0) last_is
      ∙ ap (λ x. cond (name_count k (outside p u.entries) == 0) x 0) (weight_same (body u k))

-- ---- what stands in a directory that has whiteouts alone

-- where no entry weighs anything all weigh nothing
zero_sum : (f : Node → ℕ) (es : Entries) → IsStrictlySortedBy path_cmp (keys_of es) → ((q : Names) (n : Node) → lookup (is_at (path_cmp q)) es ≡ Some n → f n ≡ 0) → sum_by f (values_of es) ≡ 0
unfolding IsStrictlySortedBy
zero_sum f [] s none = refl
zero_sum f (e ∷ es) s none =
    omega (
      arith,
      sum_by-cons f e.1 (values_of es),
      none e.0 e.1 (cond-true _ (Some e.1) (lookup (is_at (path_cmp e.0)) es) (at_itself path_cmp_total path_cmp-IsAntisymmetric e.0)),
      zero_sum f es s.1 (λ q n is. none q n (later q n is)),
    )
  where
    no_some : (n : Node) → None ≡ Some n → ⊥
    no_some n e = cc

    later : (q : Names) (n : Node) → lookup (is_at (path_cmp q)) es ≡ Some n → lookup (is_at (path_cmp q)) (e ∷ es) ≡ Some n
    later q n is = elim (split_path q e.0) [
      | inl same ↦ absurd (no_some n (sym (lookup_below path_cmp_total path_cmp-IsAntisymmetric e.0 es s.0) ∙ ap (λ (x : Names). lookup (is_at (path_cmp x)) es) (sym same.0) ∙ is))
      | inr apart ↦ cond-false _ (Some e.1) (lookup (is_at (path_cmp q)) es) apart.1 ∙ is
    ]

-- the blocks that go with a node
abbrev pub node_blocks : Tree → Option Node → ℕ
node_blocks u None = 0
node_blocks u (Some (Dir m b)) = 1
node_blocks u (Some (File k)) = last_blocks u k
node_blocks u (Some (Symlink k)) = last_blocks u k
node_blocks u (Some Whiteout) = 0

module _ (u : Tree) (ok : IsLayer u) (p : Names) (clear : (n : List ℕ) → IsFree (at u (p ++ n ∷ []))) where
  abbrev rest : Entries
  rest = remove_entry (is_at (path_cmp p)) (inside p u.entries)

  sorted_inside : IsStrictlySortedBy path_cmp (keys_of (inside p u.entries))
  sorted_inside = sorted-filter path_cmp (λ e. begins p e.0) u.entries ok.sorted_paths

  no_dir_below : (m : List ℕ) (r : Names) (n : Node) → at u (p ++ m ∷ r) ≡ Some n → dirs n ≡ 0
  no_dir_below m [] n is = by n (subst IsFree is (clear m))
    where
      by : (x : Node) → IsFree (Some x) → dirs x ≡ 0
      by (Dir a b) free = absurd (cc)
      by (File k) free = refl
      by (Symlink k) free = refl
      by Whiteout free = refl
  no_dir_below m (x ∷ r) n is = absurd (no_some (sym (ap (at u) (sym (append_assoc p (m ∷ []) (x ∷ r))) ∙ nothing_below u ok (p ++ m ∷ []) (free_is_no_dir (at u (p ++ m ∷ [])) (clear m)) x r) ∙ is))
    where
      no_some : None ≡ Some n → ⊥
      no_some e = cc

  no_dir_in_rest : (q : Names) (n : Node) → lookup (is_at (path_cmp q)) (remove_entry (is_at (path_cmp p)) (inside p u.entries)) ≡ Some n → dirs n ≡ 0
  no_dir_in_rest q n is = by (is_at (path_cmp q) p) refl (begins p q) refl
    where
      found : cond (is_at (path_cmp q) p) None (cond (begins p q) (at u q) None) ≡ Some n
      found =
          ap (λ (o : Option Node). cond (is_at (path_cmp q) p) None o) (sym (lookup-filter path_cmp_total path_cmp-IsAntisymmetric (λ x. begins p x) q u.entries))
          ∙ sym (lookup-remove_entry path_cmp_total path_cmp-IsAntisymmetric p q (inside p u.entries) sorted_inside)
          ∙ is

      no_some : None ≡ Some n → ⊥
      no_some e = cc

      no_bool : true ≡ false → ⊥
      no_bool e = cc

      by : (a : Bool) → is_at (path_cmp q) p ≡ a → (b : Bool) → begins p q ≡ b → dirs n ≡ 0
      by true e b f = absurd (no_some (sym (ap (λ (c : Bool). cond c None (cond (begins p q) (at u q) None)) e) ∙ found))
      by false e false f = absurd (no_some (sym (ap (λ (c : Bool). cond c None (cond (begins p q) (at u q) None)) e ∙ ap (λ (c : Bool). cond c (at u q) None) f) ∙ found))
      by false e true f = under (drop (length p) q) (begins_rest p q f)
        where
          stands : at u q ≡ Some n
          stands = sym (ap (λ (c : Bool). cond c None (cond (begins p q) (at u q) None)) e ∙ ap (λ (c : Bool). cond c (at u q) None) f) ∙ found

          under : (r : Names) → q ≡ p ++ r → dirs n ≡ 0
          under [] same = absurd (no_bool (sym (ap (λ (x : Names). is_at (path_cmp x) p) (same ∙ append-nil p) ∙ at_itself path_cmp_total path_cmp-IsAntisymmetric p) ∙ e))
          under (m ∷ r) same = no_dir_below m r n (sym (ap (at u) same) ∙ stands)

  -- of the directories at the path and below it there is that at the path alone
  dirs_inside : sum_by dirs (values_of (inside p u.entries)) ≡ weight dirs (at u p)
  dirs_inside =
      let here : lookup (is_at (path_cmp p)) (inside p u.entries) ≡ at u p = lookup-filter path_cmp_total path_cmp-IsAntisymmetric (λ x. begins p x) p u.entries ∙ ap (λ b. cond b (at u p) None) (begins_itself p) in
      omega (
        arith,
        sum_by-remove_entry dirs (is_at (path_cmp p)) (inside p u.entries),
        ap (weight dirs) here,
        zero_sum dirs rest (sorted-remove_entry path_cmp (is_at (path_cmp p)) (inside p u.entries) sorted_inside) no_dir_in_rest,
      )

  pub without_blocks : block_count u ≡ block_count (without u p) + node_blocks u (at u p)
  without_blocks = omega (arith, block_count-without u p, dirs_inside, by (at u p) refl)
    where
      Goal : Option Node → Type 0
      Goal o = weight dirs o + dropped_blocks (option_and_then number_of o) (outside p u.entries) u.bodies ≡ node_blocks u o

      by : (o : Option Node) → at u p ≡ o → weight dirs (at u p) + dropped_blocks (number_at u p) (outside p u.entries) u.bodies ≡ node_blocks u (at u p)
      by None e = subst Goal (sym e) refl
      by (Some (Dir m b)) e = subst Goal (sym e) refl
      by (Some (File k)) e = subst Goal (sym e) (omega (arith, name_blocks u ok p k (ap (option_and_then number_of) e)))
      by (Some (Symlink k)) e = subst Goal (sym e) (omega (arith, name_blocks u ok p k (ap (option_and_then number_of) e)))
      by (Some Whiteout) e = subst Goal (sym e) refl

-- ---- what is left

-- what stands at the path goes, and a whiteout is put there or none
pub erasing_next : (u : Tree) → IsLayer u → (p : Names) → IsPath p → HasPlace u p → (covers : Bool) (usage : Usage) → usage.inodes ≡ inode_count (without u p) + (if covers then 1 else 0) → usage.blocks ≡ block_count (without u p) → IsNext u (if covers then with_node u p Whiteout else without u p) usage false
erasing_next u ok p path place true usage inodes blocks = record {
  inodes = omega (arith, inodes, inode_count-with_node u p Whiteout ok);
  blocks = omega (arith, blocks, block_count-with_node u p Whiteout ok);
  number = omega arith;
  most = refl;
  layer = λ within. (whiteout_becomes u ok p path (inode_count (without u p)) refl place).layer (omega (arith, inode_count-with_node u p Whiteout ok, few_from (with_node u p Whiteout) within));
}
erasing_next u ok p path place false usage inodes blocks = record {
  inodes = omega (arith, inodes);
  blocks = blocks;
  number = omega arith;
  most = refl;
  layer = λ within. (clears_place u p ok place).layer;
}
