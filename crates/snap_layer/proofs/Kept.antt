-- Each edit leaves a layer.
use Rattle.std.proofs.Common.{◌≡◌, ℕ, ◌+◌, ◌≤◌, Bool, true, false, cond, not, List, [], ◌∷◌, ◌++◌, Option, Some, None, IsSome, refl, sym, ap, subst, ◌∙◌, inl, inr, arith, append_assoc}
use Rattle.std.specs.Prelude.{option_and_then, is_some}
use Rattle.std.specs.Cmp.{nat_cmp_total}
use Rattle.std.specs.List.Sorted.{IsStrictlySortedBy}
use Rattle.snap_path.specs.Limits.{most_number}
use Rattle.snap_path.specs.Text.{Names, IsPath, begins}
use Rattle.snap_layer.specs.declared.node.Meta.{Meta}
use Rattle.snap_layer.specs.declared.node.Node.{Node}
use Rattle.snap_layer.specs.declared.node.Node.TheVariants.{Dir, File, Symlink, Whiteout}
use Rattle.snap_layer.specs.declared.node.Body.{Body}
use Rattle.snap_layer.specs.declared.node.Body.TheVariants as body_kinds
use Rattle.snap_layer.specs.Tree.{Tree, path_cmp, at, body, number_of, number_at, is_dir, IsDirAt}
use Rattle.snap_layer.specs.Counts.{inode_count, most_inodes}
use Rattle.snap_layer.specs.Layers.{IsLayer, IsFile, IsSymlink, IsWhole, IsMeta}
use Rattle.snap_layer.specs.Edits.{root_within, with_entry, with_body, without, IsFree, HasParent}
use Rattle.snap_layer.proofs.Lists.{sorted-insert_entry, sorted-filter}
use Rattle.snap_layer.proofs.Paths.{path_cmp_total, begins-trans, begins-append, split_front}
use Rattle.snap_layer.proofs.Looks.{split_path, split_number, Sets, Sets-with_entry, SetsBody, SetsBody-with_body, SetsBody-insert_entry, at-without_outside, at-without_inside, is_dropped, body-bodies_without, sorted-bodies_without, kept_by_name, names_left, name_found}
use Rattle.snap_layer.proofs.Counting.{inode_count-without, inode_count-with_body}

no_some : {A : Type 0} (x : A) → None ≡ Some x → ⊥
no_some x e = cc

no_node : IsSome {T = Node} None → ⊥
no_node e = cc

no_body : IsSome {T = Body} None → ⊥
no_body e = cc

no_bool : true ≡ false → ⊥
no_bool e = cc

some_is : (o : Option Node) (n : Node) → o ≡ Some n → IsSome o
some_is o n e = ap is_some e

pub dir_is_some : (o : Option Node) → IsDirAt o → IsSome o
dir_is_some None dir = absurd dir
dir_is_some (Some n) dir = refl

-- a directory names no number
pub dir_has_no_number : (o : Option Node) → IsDirAt o → option_and_then number_of o ≡ None
dir_has_no_number None dir = absurd dir
dir_has_no_number (Some (Dir m b)) dir = refl
dir_has_no_number (Some (File k)) dir = absurd (cc)
dir_has_no_number (Some (Symlink k)) dir = absurd (cc)
dir_has_no_number (Some Whiteout) dir = absurd (cc)

pub free_has_no_number : (o : Option Node) → IsFree o → option_and_then number_of o ≡ None
free_has_no_number None free = refl
free_has_no_number (Some (Dir m b)) free = absurd (cc)
free_has_no_number (Some (File k)) free = absurd (cc)
free_has_no_number (Some (Symlink k)) free = absurd (cc)
free_has_no_number (Some Whiteout) free = refl

pub free_is_no_dir : (o : Option Node) → IsFree o → IsDirAt o → ⊥
free_is_no_dir None free dir = dir
free_is_no_dir (Some (Dir m b)) free dir = cc
free_is_no_dir (Some (File k)) free dir = cc
free_is_no_dir (Some (Symlink k)) free dir = cc
free_is_no_dir (Some Whiteout) free dir = cc

-- the node at the end of a look-up that names a number
pub node_with_number : (o : Option Node) (k : ℕ) → option_and_then number_of o ≡ Some k → (n : Node) × (o ≡ Some n) × (number_of n ≡ Some k)
node_with_number None k e = absurd (cc)
node_with_number (Some n) k e = (n, refl, e)

file_has_body : (o : Option Body) → IsFile o → IsSome o
file_has_body None file = absurd file
file_has_body (Some b) file = refl

symlink_has_body : (o : Option Body) → IsSymlink o → IsSome o
symlink_has_body None link = absurd link
symlink_has_body (Some b) link = refl

whole_has_body : (t : Tree) (n : Node) (k : ℕ) → IsWhole t n → number_of n ≡ Some k → IsSome (body t k)
whole_has_body t (Dir m b) k whole e = absurd (cc)
whole_has_body t (File j) k whole e = let same : j ≡ k = cc in subst (λ (i : ℕ). IsSome (body t i)) same (file_has_body (body t j) whole)
whole_has_body t (Symlink j) k whole e = let same : j ≡ k = cc in subst (λ (i : ℕ). IsSome (body t i)) same (symlink_has_body (body t j) whole)
whole_has_body t Whiteout k whole e = absurd (cc)

-- a number that stands at a path has a body
pub has_body : (t : Tree) → IsLayer t → (p : Names) (k : ℕ) → number_at t p ≡ Some k → IsSome (body t k)
has_body t ok p k e = let n = node_with_number (at t p) k e in whole_has_body t n.0 k (ok.nodes p n.0 n.1) n.2

-- nodes stay whole where their bodies stay
pub IsWhole-same : (t u : Tree) (n : Node) → ((k : ℕ) → number_of n ≡ Some k → body u k ≡ body t k) → IsWhole t n → IsWhole u n
IsWhole-same t u (Dir m b) same whole = whole
IsWhole-same t u (File k) same whole = subst IsFile (sym (same k refl)) whole
IsWhole-same t u (Symlink k) same whole = subst IsSymlink (sym (same k refl)) whole
IsWhole-same t u Whiteout same whole = whole

-- what stands above something is a directory
pub dir_above : (t : Tree) → IsLayer t → (r q : Names) (n : List ℕ) → IsSome (at t (q ++ n ∷ r)) → IsDirAt (at t q)
dir_above t ok [] q n some = ok.parents q n some
dir_above t ok (m ∷ r) q n some =
    let further = dir_above t ok r (q ++ n ∷ []) m (subst (λ (x : Names). IsSome (at t x)) (sym (append_assoc q (n ∷ []) (m ∷ r))) some) in
    ok.parents q n (dir_is_some (at t (q ++ n ∷ [])) further)

-- below a path where whiteouts alone stand no name stands
pub no_number_below : (t : Tree) → IsLayer t → (p : Names) → ((n : List ℕ) → IsFree (at t (p ++ n ∷ []))) → (n : List ℕ) (r : Names) → number_at t (p ++ n ∷ r) ≡ None
no_number_below t ok p clear n [] = free_has_no_number (at t (p ++ n ∷ [])) (clear n)
no_number_below t ok p clear n (m ∷ r) = by (at t (p ++ n ∷ m ∷ r)) refl
  where
    by : (o : Option Node) → at t (p ++ n ∷ m ∷ r) ≡ o → option_and_then number_of o ≡ None
    by None e = refl
    by (Some x) e =
        let some : IsSome (at t ((p ++ n ∷ []) ++ m ∷ r)) = subst (λ (q : Names). IsSome (at t q)) (sym (append_assoc p (n ∷ []) (m ∷ r))) (some_is _ x e) in
        absurd (free_is_no_dir (at t (p ++ n ∷ [])) (clear n) (dir_above t ok r (p ++ n ∷ []) m some))

-- below a path where no directory stands nothing stands
pub nothing_below : (t : Tree) → IsLayer t → (p : Names) → (IsDirAt (at t p) → ⊥) → (n : List ℕ) (r : Names) → at t (p ++ n ∷ r) ≡ None
nothing_below t ok p no_dir n r = by (at t (p ++ n ∷ r)) refl
  where
    by : (o : Option Node) → at t (p ++ n ∷ r) ≡ o → o ≡ None
    by None e = refl
    by (Some x) e = absurd (no_dir (dir_above t ok r p n (some_is _ x e)))

-- ---- the root alone

pub IsLayer-root_within : (most : ℕ) (meta : Meta) (first : ℕ) → (1 ≤ most) × (most ≤ most_inodes) → IsMeta meta → 1 ≤ first → first ≤ most_number → IsPath [] → IsLayer (root_within most meta first)
unfolding IsStrictlySortedBy
IsLayer-root_within most meta first bounds low one last path = record {
  root = refl;
  parents = λ q n some. absurd (no_child q n some);
  paths = standing;
  nodes = whole;
  named = λ k some. absurd (no_body some);
  numbers = λ k some. absurd (no_body some);
  next = (one, last);
  few = bounds.0;
  most = bounds;
  sorted_paths = (tt, tt);
  sorted_numbers = tt;
}
  where
    no_child : (q : Names) (n : List ℕ) → IsSome (at (root_within most meta first) (q ++ n ∷ [])) → ⊥
    no_child [] n e = cc
    no_child (x ∷ q) n e = cc

    standing : (p : Names) → IsSome (at (root_within most meta first) p) → IsPath p
    standing [] some = path
    standing (x ∷ p) some = absurd (cc)

    whole : (p : Names) (n : Node) → at (root_within most meta first) p ≡ Some n → IsWhole (root_within most meta first) n
    whole [] n e = let same : Dir meta false ≡ n = cc in subst (IsWhole (root_within most meta first)) same low
    whole (x ∷ p) n e = absurd (cc)

-- ---- a node put at a path

-- the node may be put at the path: no name stands there, a directory stays one, and the parent is one
pub record Puts (t : Tree) (p : Names) (n : Node) : Type 0 where
  pub no_number : number_at t p ≡ None
  pub stays : IsDirAt (at t p) → is_dir n ≡ true
  pub parent : (q : Names) (m : List ℕ) → p ≡ q ++ m ∷ [] → IsDirAt (at t q)
  pub root : p ≡ [] → is_dir n ≡ true
  pub path : IsPath p
  pub whole : IsWhole t n
  pub few : inode_count (with_entry t p n) ≤ t.most

pub IsLayer-with_entry : (t : Tree) (p : Names) (n : Node) → IsLayer t → Puts t p n → IsLayer (with_entry t p n)
IsLayer-with_entry t p n ok puts = record {
  root = elim (split_path p []) [
    | inl same ↦ subst IsDirAt (sym (ap (at u) (sym same.0) ∙ sets.here)) (puts.root same.0)
    | inr apart ↦ subst IsDirAt (sym (sets.others [] apart.0)) ok.root
  ];
  parents = λ q m some. elim (split_path p (q ++ m ∷ [])) [
    | inl same ↦ above q (puts.parent q m same.0)
    | inr apart ↦ above q (ok.parents q m (subst IsSome (sets.others (q ++ m ∷ []) apart.0) some))
  ];
  paths = λ q some. elim (split_path p q) [
    | inl same ↦ subst IsPath same.0 puts.path
    | inr apart ↦ ok.paths q (subst IsSome (sets.others q apart.0) some)
  ];
  nodes = λ q m e. elim (split_path p q) [
    | inl same ↦ stands m (sym (ap (at u) (sym same.0) ∙ sets.here) ∙ e)
    | inr apart ↦ IsWhole-same t u m (λ k is. refl) (ok.nodes q m (sym (sets.others q apart.0) ∙ e))
  ];
  named = λ k some.
      let had = ok.named k some in
      (had.0, ap (option_and_then number_of) (sets.others had.0 (λ e. no_some k (sym puts.no_number ∙ ap (number_at t) (sym e) ∙ had.1))) ∙ had.1);
  numbers = ok.numbers;
  next = ok.next;
  few = puts.few;
  most = ok.most;
  sorted_paths = sorted-insert_entry path_cmp_total t.entries p n ok.sorted_paths;
  sorted_numbers = ok.sorted_numbers;
}
  where
    u : Tree
    u = with_entry t p n

    sets : Sets t u p (Some n)
    sets = Sets-with_entry t p n

    above : (q : Names) → IsDirAt (at t q) → IsDirAt (at u q)
    above q dir = elim (split_path p q) [
      | inl same ↦ subst IsDirAt (sym (ap (at u) (sym same.0) ∙ sets.here)) (puts.stays (subst (λ (r : Names). IsDirAt (at t r)) (sym same.0) dir))
      | inr apart ↦ subst IsDirAt (sym (sets.others q apart.0)) dir
    ]

    stands : (m : Node) → Some n ≡ Some m → IsWhole u m
    stands m e = let same : n ≡ m = cc in subst (IsWhole u) same (IsWhole-same t u n (λ k is. refl) puts.whole)

-- ---- what stands at a path taken

pub body-without : (t : Tree) → IsLayer t → (p : Names) (k : ℕ) → body (without t p) k ≡ cond (is_dropped (number_at t p) (without t p).entries k) None (body t k)
body-without t ok p k = body-bodies_without (number_at t p) (without t p).entries t.bodies k ok.sorted_numbers

module _ (t : Tree) (p : Names) (ok : IsLayer t) where
  abbrev taken : Tree
  taken = without t p

  stood : (q : Names) → IsSome (at taken q) → (begins p q ≡ false) × (at taken q ≡ at t q)
  stood q some = elim (split_front p q) [
    | inl inside ↦ absurd (no_node (subst IsSome (at-without_inside t p q inside.0) some))
    | inr out ↦ (out.0, at-without_outside t p q out.0)
  ]

  had_body : (k : ℕ) → IsSome (body taken k) → IsSome (body t k)
  had_body k some = by (is_dropped (number_at t p) taken.entries k) (body-without t ok p k) some
    where
      by : (b : Bool) → body taken k ≡ cond b None (body t k) → IsSome (body taken k) → IsSome (body t k)
      by true e s = absurd (no_body (subst IsSome e s))
      by false e s = subst IsSome e s

  not_dropped : (k : ℕ) → IsSome (body taken k) → is_dropped (number_at t p) taken.entries k ≡ false
  not_dropped k some = by (is_dropped (number_at t p) taken.entries k) refl
    where
      by : (b : Bool) → is_dropped (number_at t p) taken.entries k ≡ b → b ≡ false
      by false e = refl
      by true e = absurd (no_body (subst IsSome (body-without t ok p k ∙ ap (λ b. cond b None (body t k)) e) some))

  pub inode_count-taken : inode_count taken ≤ inode_count t
  inode_count-taken = omega (arith, inode_count-without t p (has_body t ok p))

  -- below the path nothing but whiteouts stands
  module _ (clear : (n : List ℕ) → IsFree (at t (p ++ n ∷ []))) (below_root : p ≡ [] → ⊥) where
    name_left : (k : ℕ) → IsSome (body taken k) → (q : Names) × (number_at taken q ≡ Some k)
    name_left k some =
        let had = ok.named k (had_body k some) in
        elim (split_front p had.0) [
          | inr out ↦ (had.0, ap (option_and_then number_of) (at-without_outside t p had.0 out.0) ∙ had.1)
          | inl inside ↦ by inside.1 (ap (number_at t) (sym inside.2) ∙ had.1)
        ]
      where
        by : (rest : Names) → number_at t (p ++ rest) ≡ Some k → (q : Names) × (number_at taken q ≡ Some k)
        by [] e =
            let here : number_at t p ≡ Some k = ap (number_at t) (sym (append-nil' p)) ∙ e in
            let left = names_left k taken.entries (ap (λ o. is_dropped o taken.entries k) (sym here) ∙ not_dropped k some) in
            let found = name_found k taken.entries (sorted-filter path_cmp (λ x. not (begins p x.0)) t.entries ok.sorted_paths) left in
            (found.0, ap (option_and_then number_of) found.2 ∙ found.3)
          where
            append-nil' : (q : Names) → q ++ [] ≡ q
            append-nil' [] = refl
            append-nil' (x ∷ q) = λ i. x ∷ append-nil' q i
        by (n ∷ r) e = absurd (no_some k (sym (no_number_below t ok p clear n r) ∙ e))

    pub IsLayer-without : IsLayer taken
    IsLayer-without = record {
      root = elim (split_front p []) [
        | inl inside ↦ absurd (below_root (no_rest p inside.1 (sym inside.2)))
        | inr out ↦ subst IsDirAt (sym (at-without_outside t p [] out.0)) ok.root
      ];
      parents = λ q n some.
          let was = stood (q ++ n ∷ []) some in
          let dir = ok.parents q n (subst IsSome was.1 some) in
          subst IsDirAt (sym (at-without_outside t p q (apart q n was.0))) dir;
      paths = λ q some. ok.paths q (subst IsSome (stood q some).1 some);
      nodes = λ q n e.
          let was : at t q ≡ Some n = sym (stood q (some_is _ n e)).1 ∙ e in
          IsWhole-same t taken n (λ k is. body-without t ok p k ∙ ap (λ b. cond b None (body t k)) (kept_by_name (number_at t p) taken.entries k q n e is)) (ok.nodes q n was);
      named = name_left;
      numbers = λ k some. ok.numbers k (had_body k some);
      next = ok.next;
      few = omega (arith, inode_count-taken, ok.few);
      most = ok.most;
      sorted_paths = sorted-filter path_cmp (λ x. not (begins p x.0)) t.entries ok.sorted_paths;
      sorted_numbers = sorted-bodies_without (number_at t p) taken.entries t.bodies ok.sorted_numbers;
    }
      where
        no_rest : (xs ys : Names) → xs ++ ys ≡ [] → xs ≡ []
        no_rest [] ys e = refl
        no_rest (x ∷ xs) ys e = absurd (cc)

        apart : (q : Names) (n : List ℕ) → begins p (q ++ n ∷ []) ≡ false → begins p q ≡ false
        apart q n e = elim (split_front p q) [
          | inr out ↦ out.0
          | inl inside ↦ absurd (no_bool (sym (begins-trans p q (q ++ n ∷ []) inside.0 (begins-append q (n ∷ []))) ∙ e))
        ]

-- ---- a new file or symlink

-- the node and the body of a new file or symlink may be put at the path
pub record PutsNew (t : Tree) (p : Names) (n : Node) (b : Body) (u : Tree) : Type 0 where
  pub empty : at t p ≡ None
  pub above : HasParent t p
  pub path : IsPath p
  pub number : number_of n ≡ Some t.next
  pub whole : IsWhole u n
  pub last : t.next + 1 ≤ most_number
  pub few : inode_count u ≤ u.most

-- the layer with the new file
abbrev pub with_file : Tree → Names → Node → Body → Tree
with_file t p n b = record (with_body (with_entry t p n) t.next b) { next = t.next + 1 }

-- the next number has no body
pub next_is_fresh : (t : Tree) → IsLayer t → body t t.next ≡ None
next_is_fresh t ok = elim (body t t.next) as (λ o. body t t.next ≡ o → o ≡ None) [ None ↦ λ e. refl | Some b ↦ λ e. absurd (omega (arith, (ok.numbers t.next (ap is_some e)).1)) ] refl

pub IsLayer-with_file : (t : Tree) (p : Names) (n : Node) (b : Body) → IsLayer t → PutsNew t p n b (with_file t p n b) → IsLayer (with_file t p n b)
IsLayer-with_file t p n b ok puts = record {
  root = subst IsDirAt (sym (sets.others [] (λ e. puts.above.below_root (sym e)))) ok.root;
  parents = λ q m some. elim (split_path p (q ++ m ∷ [])) [
    | inl same ↦ above q (puts.above.parent q m same.0)
    | inr apart ↦ above q (ok.parents q m (subst IsSome (sets.others (q ++ m ∷ []) apart.0) some))
  ];
  paths = λ q some. elim (split_path p q) [
    | inl same ↦ subst IsPath same.0 puts.path
    | inr apart ↦ ok.paths q (subst IsSome (sets.others q apart.0) some)
  ];
  nodes = λ q m e. elim (split_path p q) [
    | inl same ↦ stands m (sym (ap (at u) (sym same.0) ∙ sets.here) ∙ e)
    | inr apart ↦
        let was : at t q ≡ Some m = sym (sets.others q apart.0) ∙ e in
        IsWhole-same t u m (λ k is. bodies.others k (old k (has_body t ok q k (ap (option_and_then number_of) was ∙ is)))) (ok.nodes q m was)
  ];
  named = λ k some. elim (split_number t.next k) [
    | inl same ↦ (p, ap (option_and_then number_of) sets.here ∙ puts.number ∙ ap (λ (j : ℕ). Some j) same.0)
    | inr apart ↦
        let had = ok.named k (subst IsSome (bodies.others k apart.0) some) in
        (had.0, ap (option_and_then number_of) (sets.others had.0 (λ e. no_some k (sym (ap (option_and_then number_of) puts.empty) ∙ ap (number_at t) (sym e) ∙ had.1))) ∙ had.1)
  ];
  numbers = λ k some. elim (split_number t.next k) [
    | inl same ↦ (omega (arith, ok.next.0, same.0), omega (arith, same.0))
    | inr apart ↦ let was = ok.numbers k (subst IsSome (bodies.others k apart.0) some) in (was.0, omega (arith, was.1))
  ];
  next = (omega arith, puts.last);
  few = puts.few;
  most = ok.most;
  sorted_paths = sorted-insert_entry path_cmp_total t.entries p n ok.sorted_paths;
  sorted_numbers = sorted-insert_entry nat_cmp_total t.bodies t.next b ok.sorted_numbers;
}
  where
    u : Tree
    u = with_file t p n b

    sets : Sets t u p (Some n)
    sets = let s = Sets-with_entry t p n in record { here = s.here; others = s.others }

    bodies : SetsBody t u t.next (Some b)
    bodies = SetsBody-insert_entry t u t.next b refl

    old : (k : ℕ) → IsSome (body t k) → k ≡ t.next → ⊥
    old k some e = omega (arith, (ok.numbers k some).1, e)

    above : (q : Names) → IsDirAt (at t q) → IsDirAt (at u q)
    above q dir = subst IsDirAt (sym (sets.others q (λ e. no_node (subst IsSome (ap (at t) e ∙ puts.empty) (dir_is_some (at t q) dir))))) dir

    stands : (m : Node) → Some n ≡ Some m → IsWhole u m
    stands m e = let same : n ≡ m = cc in subst (IsWhole u) same puts.whole

-- ---- a body in place of another

-- a file's content or mode changed
pub IsLayer-with_body : (t : Tree) (k : ℕ) (b : Body) → IsLayer t → IsFile (body t k) → IsFile (Some b) → IsLayer (with_body t k b)
IsLayer-with_body t k b ok was is = record {
  root = ok.root;
  parents = ok.parents;
  paths = ok.paths;
  nodes = λ p n e. whole n (ok.nodes p n e);
  named = λ j some. ok.named j (had j some);
  numbers = λ j some. ok.numbers j (had j some);
  next = ok.next;
  few = omega (arith, inode_count-with_body t k b ok.sorted_numbers (file_has_body (body t k) was), ok.few);
  most = ok.most;
  sorted_paths = ok.sorted_paths;
  sorted_numbers = sorted-insert_entry nat_cmp_total t.bodies k b ok.sorted_numbers;
}
  where
    u : Tree
    u = with_body t k b

    bodies : SetsBody t u k (Some b)
    bodies = SetsBody-with_body t k b

    had : (j : ℕ) → IsSome (body u j) → IsSome (body t j)
    had j some = elim (split_number k j) [
      | inl same ↦ subst (λ (i : ℕ). IsSome (body t i)) same.0 (file_has_body (body t k) was)
      | inr apart ↦ subst IsSome (bodies.others j apart.0) some
    ]

    no_symlink : (o : Option Body) → IsFile o → IsSymlink o → ⊥
    no_symlink None f s = f
    no_symlink (Some (body_kinds.File m x)) f s = s
    no_symlink (Some (body_kinds.Symlink x)) f s = f

    whole : (n : Node) → IsWhole t n → IsWhole u n
    whole (Dir m o) w = w
    whole Whiteout w = w
    whole (File j) w = elim (split_number k j) [
      | inl same ↦ subst (λ (i : ℕ). IsFile (body u i)) same.0 (subst IsFile (sym bodies.here) is)
      | inr apart ↦ subst IsFile (sym (bodies.others j apart.0)) w
    ]
    whole (Symlink j) w = elim (split_number k j) [
      | inl same ↦ absurd (no_symlink (body t k) was (subst (λ (i : ℕ). IsSymlink (body t i)) (sym same.0) w))
      | inr apart ↦ subst IsSymlink (sym (bodies.others j apart.0)) w
    ]
