-- The laws of the edits: what is found at every path afterwards, and what is counted.
use Rattle.std.proofs.Common.{◌≡◌, ℕ, ◌+◌, Bool, true, false, cond, not, List, [], ◌∷◌, ◌++◌, length, append-nil, drop, Option, Some, None, IsSome, refl, sym, ap, subst, ◌∙◌, arith}
use Rattle.std.specs.Prelude.{option_and_then, is_some, ◌||◌}
use Rattle.std.specs.Ordering.{nat_cmp}
use Rattle.std.specs.List.{list_any, cons_option}
use Rattle.std.specs.List.Sorted.{IsStrictlySortedBy}
use Rattle.std.specs.Map.{lookup, keys_of}
use Rattle.std.specs.Str.{bytes_eq}
use Rattle.std.specs.BTreeMap.{is_at}
use Rattle.snap_path.specs.Text.{Names, begins}
use Rattle.snap_layer.specs.declared.content.Content.{Content}
use Rattle.snap_layer.specs.declared.node.Node.{Node}
use Rattle.snap_layer.specs.declared.node.Node.TheVariants.{Dir, File, Symlink, Whiteout}
use Rattle.snap_layer.specs.declared.node.Body.{Body}
use Rattle.snap_layer.specs.declared.node.Body.TheVariants as body_kinds
use Rattle.snap_layer.specs.Tree.{Tree, Entries, IsDirAt, path_cmp, at, body, number_of, number_at, name_below, names_below}
use Rattle.snap_layer.specs.Counts.{inode_count, block_count, body_blocks}
use Rattle.snap_layer.specs.Layers.{IsLayer}
use Rattle.snap_layer.specs.Edits.{with_entry, with_node, with_new, with_filled, with_body, with_mode, with_file_mode, body_with_mode, with_opaque, without, outside, bodies_without, meta_with_mode}
use Rattle.std.proofs.lemmas.Bool.{cond-true, cond-false}
use Rattle.std.proofs.lemmas.Slice.Eq.{bytes_eq-Decides}
use Rattle.snap_layer.proofs.Lists.{at_itself, apart_from, sorted-filter, sorted-insert_entry}
use Rattle.snap_layer.proofs.Paths.{path_cmp_total, path_cmp-IsAntisymmetric, begins-append, begins_itself, begins_rest, append-cancel, name_below-append, name_below_is}
use Rattle.snap_layer.proofs.Looks.{Sets-with_entry, SetsBody, SetsBody-insert_entry, at-without, at-without_inside, at-without_outside, is_dropped, sorted-bodies_without, same_tree}
use Rattle.snap_layer.proofs.Counting.{weight, weight_of_body, dirs, inodes_of, block_count-with_entry, block_count-with_body, inode_count-with_body, inode_count-with_entry}
use Rattle.std.specs.Cmp.{nat_cmp_total}
use Rattle.snap_layer.proofs.Moves.{sorted-without}
use Rattle.snap_layer.proofs.Kept.{nothing_below, body-without, next_is_fresh}
use Rattle.snap_layer.proofs.Replacing.{at_taken}

-- ---- in order

pub sorted-with_entry : (t : Tree) (p : Names) (n : Node) → IsStrictlySortedBy path_cmp (keys_of t.entries) → IsStrictlySortedBy path_cmp (keys_of (with_entry t p n).entries)
sorted-with_entry t p n sorted = sorted-insert_entry path_cmp_total t.entries p n sorted

pub sorted-with_body : (t : Tree) (k : ℕ) (b : Body) → IsStrictlySortedBy nat_cmp (keys_of t.bodies) → IsStrictlySortedBy nat_cmp (keys_of (with_body t k b).bodies)
sorted-with_body t k b sorted = sorted-insert_entry nat_cmp_total t.bodies k b sorted

-- `with_new` has the same entries
pub sorted-with_node : (t : Tree) (p : Names) (n : Node) → IsStrictlySortedBy path_cmp (keys_of t.entries) → IsStrictlySortedBy path_cmp (keys_of (with_node t p n).entries)
sorted-with_node t p n sorted = sorted-with_entry (without t p) p n (sorted-without t p sorted)

-- ---- at every path

-- what stood at the path and below it is gone, and all else stands
pub record Takes (t u : Tree) (p : Names) : Type 0 where
  pub here : at u p ≡ None
  pub below : (n : List ℕ) (r : Names) → at u (p ++ n ∷ r) ≡ None
  pub others : (q : Names) → begins p q ≡ false → at u q ≡ at t q

-- the node stands in place of what stood at the path and below it, and all else stands
pub record Replaces (t u : Tree) (p : Names) (n : Node) : Type 0 where
  pub here : at u p ≡ Some n
  pub below : (m : List ℕ) (r : Names) → at u (p ++ m ∷ r) ≡ None
  pub others : (q : Names) → begins p q ≡ false → at u q ≡ at t q

pub Takes-without : (t : Tree) (p : Names) → Takes t (without t p) p
Takes-without t p = record {
  here = at_taken t p;
  below = λ n r. at-without_inside t p (p ++ n ∷ r) (begins-append p (n ∷ r));
  others = λ q out. at-without_outside t p q out;
}

not_itself : (p q : Names) → begins p q ≡ false → q ≡ p → ⊥
not_itself p q out same =
    let inside : begins p q ≡ true = ap (begins p) same ∙ begins_itself p in
    cc

longer : (p r : Names) (m : List ℕ) → p ++ m ∷ r ≡ p → ⊥
longer [] r m e = cc
longer (x ∷ p) r m e = longer p r m (cc)

pub Replaces-with_node : (t : Tree) (p : Names) (n : Node) → Replaces t (with_node t p n) p n
Replaces-with_node t p n =
    let sets = Sets-with_entry (without t p) p n in
    record {
      here = sets.here;
      below = λ m r. sets.others (p ++ m ∷ r) (longer p r m) ∙ (Takes-without t p).below m r;
      others = λ q out. sets.others q (not_itself p q out) ∙ (Takes-without t p).others q out;
    }

pub Replaces-with_new : (t : Tree) (p : Names) (n : Node) (b : Body) → Replaces t (with_new t p n b) p n
Replaces-with_new t p n b =
    let replaces = Replaces-with_node t p n in
    record { here = replaces.here; below = replaces.below; others = replaces.others }

-- the new body has the next number
pub SetsBody-with_new : (t : Tree) (p : Names) (n : Node) (b : Body) → SetsBody (without t p) (with_new t p n b) t.next (Some b)
SetsBody-with_new t p n b = SetsBody-insert_entry (without t p) (with_new t p n b) t.next b refl

pub at-with_filled : (t : Tree) (k : ℕ) (o : Option Body) (content : Content) (q : Names) → at (with_filled t k o content) q ≡ at t q
at-with_filled t k None content q = refl
at-with_filled t k (Some (body_kinds.File meta old)) content q = refl
at-with_filled t k (Some (body_kinds.Symlink target)) content q = refl

pub at-with_file_mode : (t : Tree) (k : ℕ) (o : Option Body) (mode : ℕ) (q : Names) → at (with_file_mode t k o mode) q ≡ at t q
at-with_file_mode t k None mode q = refl
at-with_file_mode t k (Some b) mode q = refl

-- no other path sees a change of mode or of the mark
pub at-with_mode : (t : Tree) (p : Names) (o : Option Node) (mode : ℕ) (q : Names) → (q ≡ p → ⊥) → at (with_mode t p o mode) q ≡ at t q
at-with_mode t p None mode q apart = refl
at-with_mode t p (Some (Dir meta opaque)) mode q apart = (Sets-with_entry t p (Dir (meta_with_mode meta mode) opaque)).others q apart
at-with_mode t p (Some (File k)) mode q apart = at-with_file_mode t k (body t k) mode q
at-with_mode t p (Some (Symlink k)) mode q apart = refl
at-with_mode t p (Some Whiteout) mode q apart = refl

pub at-with_opaque : (t : Tree) (p : Names) (o : Option Node) (opaque : Bool) (q : Names) → (q ≡ p → ⊥) → at (with_opaque t p o opaque) q ≡ at t q
at-with_opaque t p None opaque q apart = refl
at-with_opaque t p (Some (Dir meta old)) opaque q apart = (Sets-with_entry t p (Dir meta opaque)).others q apart
at-with_opaque t p (Some (File k)) opaque q apart = refl
at-with_opaque t p (Some (Symlink k)) opaque q apart = refl
at-with_opaque t p (Some Whiteout) opaque q apart = refl

-- ---- counts

pub block_count-with_node : (t : Tree) (p : Names) (n : Node) → IsLayer t → block_count (with_node t p n) ≡ block_count (without t p) + dirs n
block_count-with_node t p n ok =
    omega (arith, block_count-with_entry (without t p) p n (sorted-filter path_cmp (λ e. not (begins p e.0)) t.entries ok.sorted_paths), ap (weight dirs) (at_taken t p))

name_is_no_dir : (n : Node) (k : ℕ) → number_of n ≡ Some k → dirs n ≡ 0
name_is_no_dir (Dir m o) k e = absurd (cc)
name_is_no_dir (File j) k e = refl
name_is_no_dir (Symlink j) k e = refl
name_is_no_dir Whiteout k e = absurd (cc)

body_dropped : (b : Bool) → ◌≡◌ {A = Option Body} (cond b None None) None
body_dropped true = refl
body_dropped false = refl

-- a new file adds its blocks
pub block_count-with_new : (t : Tree) (p : Names) (n : Node) (b : Body) → IsLayer t → number_of n ≡ Some t.next → block_count (with_new t p n b) ≡ block_count (without t p) + body_blocks b
block_count-with_new t p n b ok named =
    let u = with_node t p n in
    let sorted : IsStrictlySortedBy nat_cmp (keys_of u.bodies) = sorted-bodies_without (number_at t p) (without t p).entries t.bodies ok.sorted_numbers in
    let gone = is_dropped (number_at t p) (without t p).entries t.next in
    let fresh : body u t.next ≡ None = body-without t ok p t.next ∙ ap (λ l. cond gone None l) (next_is_fresh t ok) ∙ body_dropped gone in
    omega (arith, block_count-with_body u t.next b sorted, ap (weight_of_body body_blocks) fresh, block_count-with_node t p n ok, name_is_no_dir n t.next named)

-- a change of mode counts nothing
inode_count-with_file_mode : (t : Tree) → IsLayer t → (k mode : ℕ) (o : Option Body) → body t k ≡ o → inode_count (with_file_mode t k o mode) ≡ inode_count t
inode_count-with_file_mode t ok k mode None e = refl
inode_count-with_file_mode t ok k mode (Some b) e = inode_count-with_body t k (body_with_mode b mode) ok.sorted_numbers (subst IsSome (sym e) refl)

same_blocks : (b : Body) (mode : ℕ) → body_blocks (body_with_mode b mode) ≡ body_blocks b
same_blocks (body_kinds.File meta content) mode = refl
same_blocks (body_kinds.Symlink target) mode = refl

block_count-with_file_mode : (t : Tree) → IsLayer t → (k mode : ℕ) (o : Option Body) → body t k ≡ o → block_count (with_file_mode t k o mode) ≡ block_count t
block_count-with_file_mode t ok k mode None e = refl
block_count-with_file_mode t ok k mode (Some b) e = omega (arith, block_count-with_body t k (body_with_mode b mode) ok.sorted_numbers, ap (weight_of_body body_blocks) e, same_blocks b mode)

pub inode_count-with_mode : (t : Tree) → IsLayer t → (p : Names) (mode : ℕ) → inode_count (with_mode t p (at t p) mode) ≡ inode_count t
inode_count-with_mode t ok p mode = by (at t p) refl
  where
    by : (o : Option Node) → at t p ≡ o → inode_count (with_mode t p o mode) ≡ inode_count t
    by None e = refl
    by (Some (Dir meta opaque)) e = omega (arith, inode_count-with_entry t p (Dir (meta_with_mode meta mode) opaque) ok.sorted_paths, ap inodes_of e)
    by (Some (File k)) e = inode_count-with_file_mode t ok k mode (body t k) refl
    by (Some (Symlink k)) e = refl
    by (Some Whiteout) e = refl

pub block_count-with_mode : (t : Tree) → IsLayer t → (p : Names) (mode : ℕ) → block_count (with_mode t p (at t p) mode) ≡ block_count t
block_count-with_mode t ok p mode = by (at t p) refl
  where
    by : (o : Option Node) → at t p ≡ o → block_count (with_mode t p o mode) ≡ block_count t
    by None e = refl
    by (Some (Dir meta opaque)) e = omega (arith, block_count-with_entry t p (Dir (meta_with_mode meta mode) opaque) ok.sorted_paths, ap (weight dirs) e)
    by (Some (File k)) e = block_count-with_file_mode t ok k mode (body t k) refl
    by (Some (Symlink k)) e = refl
    by (Some Whiteout) e = refl

-- ---- an edit and its undo

-- a node without a body, put where nothing stood, and taken again
pub without-with_entry : (t : Tree) → IsLayer t → (p : Names) (n : Node) → at t p ≡ None → number_of n ≡ None → without (with_entry t p n) p ≡ t
without-with_entry t ok p n none unnumbered =
    let u = with_entry t p n in
    let bare : number_at u p ≡ None = ap (option_and_then number_of) (Sets-with_entry t p n).here ∙ unnumbered in
    same_tree (without u p) t
    (sorted-filter path_cmp (λ e. not (begins p e.0)) u.entries (sorted-insert_entry path_cmp_total t.entries p n ok.sorted_paths))
    ok.sorted_paths
    (λ q. at-without u p q ∙ by q (begins p q) refl)
    (ap (λ o. bodies_without o (outside p u.entries) t.bodies) bare)
    refl
    refl
  where
    u : Tree
    u = with_entry t p n

    vacant : (r : Names) → at t (p ++ r) ≡ None
    vacant [] = ap (at t) (append-nil p) ∙ none
    vacant (m ∷ r) = nothing_below t ok p (λ dir. subst IsDirAt none dir) m r

    by : (q : Names) (b : Bool) → begins p q ≡ b → cond b None (at u q) ≡ at t q
    by q true e = sym (ap (at t) (begins_rest p q e) ∙ vacant (drop (length p) q))
    by q false e = (Sets-with_entry t p n).others q (not_itself p q e)

-- ---- the names in a directory

-- the names are those at which something stands directly below the directory
pub names_below_are : (t : Tree) (d : Names) (n : List ℕ) → list_any (bytes_eq n) (names_below d t.entries) ≡ is_some (at t (d ++ n ∷ []))
names_below_are t d n = among t.entries
  where
    q : Names
    q = d ++ n ∷ []

    among : (es : Entries) → list_any (bytes_eq n) (names_below d es) ≡ is_some (lookup (is_at (path_cmp q)) es)
    among [] = refl
    among (e ∷ es) = by (among es) (name_below d e.0) refl
      where
        skipped : name_below d e.0 ≡ None → names_below d (e ∷ es) ≡ names_below d es
        skipped none = ap (λ o. cons_option o (names_below d es)) none

        taken : {m : List ℕ} → name_below d e.0 ≡ Some m → names_below d (e ∷ es) ≡ m ∷ names_below d es
        taken is = ap (λ o. cons_option o (names_below d es)) is

        by : list_any (bytes_eq n) (names_below d es) ≡ is_some (lookup (is_at (path_cmp q)) es)
            → (o : Option (List ℕ)) → name_below d e.0 ≡ o → list_any (bytes_eq n) (names_below d (e ∷ es)) ≡ is_some (cond (is_at (path_cmp q) e.0) (Some e.1) (lookup (is_at (path_cmp q)) es))
        by later None none =
            let apart : q ≡ e.0 → ⊥ = λ same. no_name (sym (ap (name_below d) (sym same) ∙ name_below-append d n) ∙ none) in
            ap (list_any (bytes_eq n)) (skipped none) ∙ later ∙ sym (ap is_some (cond-false _ _ _ (apart_from path_cmp_total path_cmp-IsAntisymmetric q e.0 (λ s. apart (sym s)))))
          where
            no_name : Some n ≡ None → ⊥
            no_name f = cc
        by later (Some m) is = ap (list_any (bytes_eq n)) (taken is) ∙ named (bytes_eq n m) refl
          where
            place : e.0 ≡ d ++ m ∷ []
            place = name_below_is d e.0 m is

            last_same : d ++ m ∷ [] ≡ d ++ n ∷ [] → n ≡ m
            last_same f = let one = append-cancel d (m ∷ []) (n ∷ []) f in cc

            differ : bytes_eq n m ≡ false → n ≡ m → ⊥
            differ f same = let yes = (bytes_eq-Decides n m).1 same in cc

            named : (b : Bool) → bytes_eq n m ≡ b → (b || list_any (bytes_eq n) (names_below d es)) ≡ is_some (cond (is_at (path_cmp q) e.0) (Some e.1) (lookup (is_at (path_cmp q)) es))
            named true same =
                let whole : e.0 ≡ q = place ∙ ap (λ x. d ++ x ∷ []) (sym ((bytes_eq-Decides n m).0 same)) in
                sym (ap is_some (cond-true _ _ _ (ap (is_at (path_cmp q)) whole ∙ at_itself path_cmp_total path_cmp-IsAntisymmetric q)))
            named false other =
                let apart : e.0 ≡ q → ⊥ = λ same. differ other (last_same (sym place ∙ same)) in
                later ∙ sym (ap is_some (cond-false _ _ _ (apart_from path_cmp_total path_cmp-IsAntisymmetric q e.0 apart)))
