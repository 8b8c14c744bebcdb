-- An edit in place of what stands at a path.
use Rattle.std.proofs.Common.{◌≡◌, ℕ, ◌+◌, ◌<◌, ◌≤◌, Bool, true, false, cond, not, List, [], ◌∷◌, ◌++◌, length, length-append, Option, Some, None, refl, sym, ap, subst, ◌∙◌, inl, inr, arith}
use Rattle.std.specs.Prelude.{option_and_then, nat_le, ◌&&◌}
use Rattle.std.specs.Ordering.{nat_cmp}
use Rattle.std.specs.BTreeMap.{is_at}
use Rattle.std.proofs.lemmas.Bool.Decides.{nat_tests}
use Rattle.std.proofs.lemmas.Bool.{cond-true}
use Rattle.snap_path.specs.Limits.{most_number}
use Rattle.snap_path.specs.Text.{Names, IsPath, begins}
use Rattle.snap_layer.specs.declared.node.Node.{Node}
use Rattle.snap_layer.specs.declared.node.Node.TheVariants.{Dir, File, Symlink, Whiteout}
use Rattle.snap_layer.specs.declared.node.Body.{Body}
use Rattle.snap_layer.specs.Tree.{Tree, path_cmp, at, body, number_of, number_at, has_number, IsDirAt}
use Rattle.snap_layer.specs.Counts.{inode_count, is_within}
use Rattle.snap_layer.specs.Layers.{IsLayer, IsWhole}
use Rattle.snap_layer.specs.Edits.{with_entry, with_node, with_new, without, outside, bodies_without, IsFree, HasParent, HasRoom, HasPlace}
use Rattle.snap_layer.proofs.Lists.{sorted-insert_entry, sorted-filter}
use Rattle.snap_layer.proofs.Paths.{path_cmp_total, begins_itself, split_front}
use Rattle.snap_layer.proofs.Looks.{split_path, split_number, at-with_entry, at-without_inside, at-without_outside, same_tree, is_dropped, sorted-bodies_without}
use Rattle.snap_layer.proofs.Counting.{weight, inode_count-with_entry, inodes_of, length-insert_new}
use Rattle.snap_layer.proofs.Kept.{IsLayer-without, IsLayer-with_entry, IsLayer-with_file, free_has_no_number, free_is_no_dir, nothing_below, has_body, body-without, next_is_fresh}

-- ---- the entries

-- ---- the bodies that go

abbrev names_weight : ℕ → Option Node → ℕ
names_weight k o = weight (λ m. cond (has_number k m) 1 0) o

abbrev one_if : Bool → ℕ
one_if b = cond b 1 0

weighed : {a b : Bool} → a ≡ b → one_if a ≡ one_if b
weighed e = ap one_if e

-- ---- what the place holds

-- nothing that a free place or a directory's place has is a name
pub free_takes_none : (t : Tree) → IsLayer t → (p : Names) → IsFree (at t p) → (q : Names) → (q ≡ p → ⊥) → at (without t p) q ≡ at t q
free_takes_none t ok p free q apart = elim (split_front p q) [
  | inr out ↦ at-without_outside t p q out.0
  | inl within ↦ at-without_inside t p q within.0 ∙ sym (by within.1 within.2)
]
  where
    append-nil' : (xs : Names) → xs ++ [] ≡ xs
    append-nil' [] = refl
    append-nil' (x ∷ xs) = λ i. x ∷ append-nil' xs i

    by : (rest : Names) → q ≡ p ++ rest → at t q ≡ None
    by [] is = absurd (apart (is ∙ append-nil' p))
    by (n ∷ r) is = ap (at t) is ∙ nothing_below t ok p (free_is_no_dir (at t p) free) n r

-- over nothing or a whiteout, a node in place of what stands there is a node put there
pub with_node-free : (t : Tree) → IsLayer t → (p : Names) (n : Node) → IsFree (at t p) → with_node t p n ≡ with_entry t p n
with_node-free t ok p n free =
    same_tree (with_node t p n) (with_entry t p n)
    (sorted-insert_entry path_cmp_total (outside p t.entries) p n (sorted-filter path_cmp (λ e. not (begins p e.0)) t.entries ok.sorted_paths))
    (sorted-insert_entry path_cmp_total t.entries p n ok.sorted_paths)
    (λ q. at-with_entry (without t p) p n q ∙ by q ∙ sym (at-with_entry t p n q))
    (ap (λ o. bodies_without o (outside p t.entries) t.bodies) (free_has_no_number (at t p) free))
    refl
    refl
  where
    by : (q : Names) → cond (is_at (path_cmp q) p) (Some n) (at (without t p) q) ≡ cond (is_at (path_cmp q) p) (Some n) (at t q)
    by q = elim (split_path q p) [
      | inl same ↦ cond-true _ _ _ same.1 ∙ sym (cond-true _ _ _ same.1)
      | inr apart ↦ ap (λ o. cond (is_at (path_cmp q) p) (Some n) o) (free_takes_none t ok p free q (λ e. apart.0 (sym e)))
    ]

-- where nothing stands nothing is taken
pub without_nothing : (t : Tree) → IsLayer t → (p : Names) → at t p ≡ None → without t p ≡ t
without_nothing t ok p none =
    same_tree (without t p) t
    (sorted-filter path_cmp (λ e. not (begins p e.0)) t.entries ok.sorted_paths) ok.sorted_paths
    (λ q. elim (split_path p q) [
      | inl same ↦ at-without_inside t p q (subst (λ z. begins p z ≡ true) same.0 (begins_itself p)) ∙ sym none ∙ ap (at t) same.0
      | inr apart ↦ free_takes_none t ok p (subst IsFree (sym none) tt) q apart.0
    ])
    (ap (λ o. bodies_without o (outside p t.entries) t.bodies) (ap (option_and_then number_of) none))
    refl
    refl

-- ---- the inodes afterwards

pub at_taken : (t : Tree) (p : Names) → at (without t p) p ≡ None
at_taken t p = at-without_inside t p p (begins_itself p)

-- a node in place of what stands there adds its own inodes to those that are left
pub inode_count-with_node : (t : Tree) (p : Names) (n : Node) → IsLayer t → inode_count (with_node t p n) ≡ inode_count (without t p) + inodes_of (Some n)
inode_count-with_node t p n ok =
    omega (arith, inode_count-with_entry (without t p) p n (sorted-filter path_cmp (λ e. not (begins p e.0)) t.entries ok.sorted_paths), ap inodes_of (at_taken t p))

-- the layer is within the limits, or its inodes or its next number pass them
pub is_within_yes : (t : Tree) → inode_count t ≤ t.most → t.next ≤ most_number → is_within t ≡ true
is_within_yes t few next = grind (arith, nat_tests)

pub is_within_many : (t : Tree) → t.most < inode_count t → is_within t ≡ false
is_within_many t many = grind (arith, nat_tests)

pub is_within_last : (t : Tree) → most_number < t.next → is_within t ≡ false
is_within_last t last = by (nat_le (inode_count t) t.most) (nat_le t.next most_number) (grind (arith, nat_tests))
  where
    by : (a b : Bool) → b ≡ false → (a && b) ≡ false
    by true b e = e
    by false b e = refl

-- ---- each edit in place leaves a layer

-- what stands at the place can be taken, and leaves an empty place
pub record Clears (t : Tree) (p : Names) : Type 0 where
  pub layer : IsLayer (without t p)
  pub empty : at (without t p) p ≡ None
  pub above : HasParent (without t p) p

pub clears_place : (t : Tree) (p : Names) → IsLayer t → HasPlace t p → Clears t p
clears_place t p ok place = record {
  layer = IsLayer-without t p ok place.clear place.above.below_root;
  empty = at_taken t p;
  above = record { below_root = place.above.below_root; parent = λ q n is. subst IsDirAt (sym (at-without_outside t p q (not_below q n is))) (place.above.parent q n is) };
}
  where
    not_below : (q : Names) (n : List ℕ) → p ≡ q ++ n ∷ [] → begins p q ≡ false
    not_below q n is = elim (split_front p q) [
      | inr out ↦ out.0
      | inl within ↦ absurd (omega (arith, ap length is, ap length within.2, length-append q (n ∷ []), length-append p within.1))
    ]

pub HasPlace-from_room : (t : Tree) (p : Names) → IsLayer t → HasRoom t p → HasPlace t p
HasPlace-from_room t p ok room = record {
  clear = λ n. subst IsFree (sym (nothing_below t ok p (free_is_no_dir (at t p) room.free) n [])) tt;
  above = room.above;
}

-- a node in place of what stands there, whose body is left
pub IsLayer-with_node : (t : Tree) (p : Names) (n : Node) → IsLayer t → HasPlace t p → IsPath p → IsWhole (without t p) n → inode_count (with_node t p n) ≤ t.most → IsLayer (with_node t p n)
IsLayer-with_node t p n ok place path whole few =
    let clears = clears_place t p ok place in
    IsLayer-with_entry (without t p) p n clears.layer (record {
      no_number = ap (option_and_then number_of) clears.empty;
      stays = λ dir. absurd (subst IsDirAt clears.empty dir);
      parent = clears.above.parent;
      root = λ e. absurd (place.above.below_root e);
      path = path;
      whole = whole;
      few = few;
    })

-- a new file or symlink in place of what stands there
pub IsLayer-with_new : (t : Tree) (p : Names) (n : Node) (b : Body) → IsLayer t → HasPlace t p → IsPath p → number_of n ≡ Some t.next → IsWhole (with_new t p n b) n → t.next < most_number → inode_count (with_new t p n b) ≤ t.most → IsLayer (with_new t p n b)
IsLayer-with_new t p n b ok place path number whole last few =
    let clears = clears_place t p ok place in
    IsLayer-with_file (without t p) p n b clears.layer (record {
      empty = clears.empty;
      above = clears.above;
      path = path;
      number = number;
      whole = whole;
      last = omega arith;
      few = few;
    })

-- ---- numbers that differ

no_bool : true ≡ false → ⊥
no_bool e = cc

and_second : (a b : Bool) → (a && b) ≡ true → b ≡ true
and_second true b e = e
and_second false b e = absurd (no_bool (sym e))

same_number : {k : ℕ} (j : ℕ) → is_at (nat_cmp j) k ≡ true → j ≡ k
same_number {k} j e = elim (split_number j k) [ inl same ↦ same.0 | inr differs ↦ absurd (no_bool (sym e ∙ differs.1)) ]

none_anyway : (b : Bool) → ◌≡◌ {A = Option Body} (cond b None None) None
none_anyway true = refl
none_anyway false = refl

-- a name counts no inode: its body does
pub name_has_no_inode : (n : Node) (k : ℕ) → number_of n ≡ Some k → inodes_of (Some n) ≡ 0
name_has_no_inode (Dir m o) k e = absurd (cc)
name_has_no_inode (File j) k e = refl
name_has_no_inode (Symlink j) k e = refl
name_has_no_inode Whiteout k e = absurd (cc)

-- what stands at a path doesn't have the next number
pub not_next : (t : Tree) (p : Names) → IsLayer t → number_at t p ≡ Some t.next → ⊥
not_next t p ok e = omega (arith, (ok.numbers t.next (has_body t ok p t.next e)).1)

-- a node with another number
pub other_name : (k j : ℕ) (n : Node) → number_of n ≡ Some j → (k ≡ j → ⊥) → has_number k n ≡ false
other_name k j (Dir m o) e apart = refl
other_name k j (File i) e apart = let same : i ≡ j = cc in grind (arith, nat_tests)
other_name k j (Symlink i) e apart = let same : i ≡ j = cc in grind (arith, nat_tests)
other_name k j Whiteout e apart = refl

other_number : (t : Tree) (p : Names) (n : Node) → IsLayer t → number_of n ≡ Some t.next → (k : ℕ) → number_at t p ≡ Some k → has_number k n ≡ false
other_number t p n ok named k e = other_name k t.next n named (λ same. not_next t p ok (e ∙ ap (λ (x : ℕ). Some x) same))

-- ---- the trees that the code leaves

-- the inodes with a new file
pub inode_count-with_new : (t : Tree) (p : Names) (n : Node) (b : Body) → IsLayer t → number_of n ≡ Some t.next → inode_count (with_new t p n b) ≡ inode_count (without t p) + 1
inode_count-with_new t p n b ok named =
    let fresh : body (without t p) t.next ≡ None = body-without t ok p t.next ∙ ap (λ l. cond (is_dropped (number_at t p) (without t p).entries t.next) None l) (next_is_fresh t ok) ∙ none_anyway (is_dropped (number_at t p) (without t p).entries t.next) in
    let longer = length-insert_new (without t p).bodies t.next b (sorted-bodies_without (number_at t p) (without t p).entries t.bodies ok.sorted_numbers) fresh in
    let noded = inode_count-with_node t p n ok in
    omega (arith, longer, noded, name_has_no_inode n t.next named)

-- ---- what counts in a scan of the entries
