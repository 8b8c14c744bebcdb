-- The next part of a layer's saved form fits the beginning of a restored layer.
use Rattle.std.proofs.Common.{◌≡◌, ℕ, ◌<◌, List, [], ◌∷◌, ◌++◌, length, length-append, map, take, get_or, Option, Some, None, IsSome, refl, sym, ap, subst, ◌∙◌, ◌⊎◌, inl, inr, arith}
use Rattle.std.specs.Prelude.{is_some, option_and_then}
use Rattle.std.specs.declared.cmp.Ordering.TheVariants.{Less}
use Rattle.std.specs.Ordering.{nat_cmp}
use Rattle.std.specs.Cmp.{nat_cmp_total}
use Rattle.std.specs.List.Sorted.{IsStrictlySortedBy}
use Rattle.std.specs.Map.{lookup}
use Rattle.std.specs.BTreeMap.{is_at}
use Rattle.std.proofs.lemmas.Bool.{cond-true, cond-false}
use Rattle.std.proofs.lemmas.List.{length-take-le}
use Rattle.snap_path.specs.Text.{Names}
use Rattle.snap_layer.specs.declared.node.Node.{Node}
use Rattle.snap_layer.specs.declared.node.Node.TheVariants.{Dir, Whiteout}
use Rattle.snap_layer.specs.declared.node.Body.{Body}
use Rattle.snap_layer.specs.declared.node.Body.TheVariants as body_kinds
use Rattle.snap_layer.specs.Tree.{Tree, Bodies, path_cmp, at, body, number_of, leaf_node, IsDirAt}
use Rattle.snap_layer.specs.Layers.{IsLayer}
use Rattle.snap_layer.proofs.Files.{leaf_number}
use Rattle.snap_layer.proofs.Inside.{found_each}
use Rattle.snap_layer.proofs.Kept.{has_body, node_with_number}
use Rattle.snap_layer.specs.Edits.{with_entry}
use Rattle.snap_layer.proofs.Looks.{split_number, split_path, Sets-with_entry}
use Rattle.snap_saved.specs.declared.dir.SavedDir.{SavedDir}
use Rattle.snap_saved.specs.Values.{SavedFileValue, SavedValue}
use Rattle.snap_saved.specs.Saved.{dir_path, dirs_of, whiteouts_of, file_names, files_of, saved}
use Rattle.snap_saved.specs.Named.{AddsNames}
use Rattle.snap_saved.specs.Refusing.{LacksNode, LacksNodeWithRoom, HasDirsAlone, HasSameRoot, IsUnder, HasNext, HasNames}
use Rattle.snap_saved.proofs.Counted.{inodes_counted}
use Rattle.snap_saved.proofs.Once.{Has, bodies_back, no_some, stands_there}
use Rattle.snap_saved.proofs.Adding.{first_names}
use Rattle.snap_saved.proofs.Rising.{dir_rises, path_rises, next_name}
use Rattle.snap_saved.proofs.Under.{has_all, has_at, has_taken, has_left, has_here, has_mapped, no_less_itself, below_less, taken_before, dir_stands, whiteout_stands, name_stands, dir_reads, whiteout_reads, name_reads, dir_under, free_under, root_by, read_name, all_had, entry_has, has_split}

no_body : (k : ℕ) (bs : Bodies) → bs ≡ [] → IsSome (lookup (is_at (nat_cmp k)) bs) → ⊥
no_body k bs none some = by (subst (λ (l : Bodies). IsSome (lookup (is_at (nat_cmp k)) l)) none some)
  where
    by : IsSome {T = Body} None → ⊥
    by e = cc

-- ---- directories

module _ (u0 u t : Tree) (ok0 : IsLayer u0) (oku : IsLayer u) (okt : IsLayer t) (bare : HasDirsAlone u0) (akin : HasSameRoot u0 t) where
  module _ (ds : List SavedDir) (i : ℕ) (d : SavedDir) (lt : i < length ds) (at_i : d ≡ get_or ds i d) (whole : dirs_of t.entries ≡ ds) (was : saved u ≡ record (saved u0) { dirs = take i ds }) (sorted : IsStrictlySortedBy path_cmp (map dir_path ds)) where
    dirs_now : dirs_of u.entries ≡ take i ds
    dirs_now = ap (λ (s : SavedValue). s.dirs) was

    whiteouts_now : whiteouts_of u.entries ≡ []
    whiteouts_now = ap (λ (s : SavedValue). s.whiteouts) was ∙ bare.whiteouts

    files_now : files_of u.entries u.bodies ≡ []
    files_now = ap (λ (s : SavedValue). s.files) was ∙ ap (files_of u0.entries) bare.files

    bodies_now : u.bodies ≡ []
    bodies_now = sym (bodies_back u.entries u.bodies) ∙ ap (map (λ (f : SavedFileValue). (f.number, f.body))) files_now

    root_now : at u [] ≡ at t []
    root_now = root_by u u0 oku ok0 (ap (λ (s : SavedValue). s.meta) was) (ap (λ (s : SavedValue). s.opaque) was) ∙ akin.root

    stands_now : (q : Names) (n : Node) → at u q ≡ Some n → at t q ≡ Some n
    stands_now = stands_there u t oku okt root_now
        (λ x has. subst (Has x) (sym whole) (has_taken x i ds (subst (Has x) dirs_now has)))
        (λ q has. absurd (subst (Has q) whiteouts_now has))
        (λ k some. absurd (no_body k u.bodies bodies_now some))
        (λ k some q has. absurd (no_body k u.bodies bodies_now some))

    pub dir_fits : LacksNodeWithRoom u t d.path (Dir d.meta d.opaque)
    dir_fits =
        let its = dir_stands t okt d (subst (Has d) (sym whole) (has_at ds i d lt at_i)) in
        record {
          fits = record {
            node = its.0;
            free = free_under u t d.path (Dir d.meta d.opaque) stands_now its.0 (λ is. no_less_itself d.path (has_all (λ (x : SavedDir). path_cmp x.path d.path ≡ Less) d (take i ds) (dir_rises ds i d lt at_i sorted) (subst (Has d) dirs_now (dir_reads u d is its.1))));
            above = λ q m splits dir. dir_under u t oku root_now q (λ x path has. subst (Has x) (sym dirs_now) (taken_before ds i d x lt at_i sorted (subst (Has x) whole has) ((λ j. path_cmp (path j) (splits j)) ∙ below_less q m))) dir;
          };
          fewer = omega (arith, inodes_counted u oku, inodes_counted t okt, ap (λ (l : List SavedDir). length l) dirs_now, ap (λ (l : List SavedDir). length l) whole, length-take-le i ds (omega (arith, lt)), ap (λ (l : List Names). length l) whiteouts_now, ap (λ (l : List SavedFileValue). length l) files_now);
          most = ap (λ (s : SavedValue). s.most) was ∙ akin.most;
        }

  -- ---- whiteouts

  module _ (dirs : dirs_of u0.entries ≡ dirs_of t.entries) (ps : List Names) (i : ℕ) (p : Names) (lt : i < length ps) (at_i : p ≡ get_or ps i p) (whole : whiteouts_of t.entries ≡ ps) (was : saved u ≡ record (saved u0) { whiteouts = take i ps }) (sorted : IsStrictlySortedBy path_cmp ps) where
    all_dirs_now : dirs_of u.entries ≡ dirs_of t.entries
    all_dirs_now = ap (λ (s : SavedValue). s.dirs) was ∙ dirs

    first_whiteouts : whiteouts_of u.entries ≡ take i ps
    first_whiteouts = ap (λ (s : SavedValue). s.whiteouts) was

    no_files : files_of u.entries u.bodies ≡ []
    no_files = ap (λ (s : SavedValue). s.files) was ∙ ap (files_of u0.entries) bare.files

    no_bodies : u.bodies ≡ []
    no_bodies = sym (bodies_back u.entries u.bodies) ∙ ap (map (λ (f : SavedFileValue). (f.number, f.body))) no_files

    same_root : at u [] ≡ at t []
    same_root = root_by u u0 oku ok0 (ap (λ (s : SavedValue). s.meta) was) (ap (λ (s : SavedValue). s.opaque) was) ∙ akin.root

    stands_so_far : (q : Names) (n : Node) → at u q ≡ Some n → at t q ≡ Some n
    stands_so_far = stands_there u t oku okt same_root
        (λ x has. subst (Has x) all_dirs_now has)
        (λ q has. subst (Has q) (sym whole) (has_taken q i ps (subst (Has q) first_whiteouts has)))
        (λ k some. absurd (no_body k u.bodies no_bodies some))
        (λ k some q has. absurd (no_body k u.bodies no_bodies some))

    pub whiteout_fits : LacksNodeWithRoom u t p Whiteout
    whiteout_fits =
        let its = whiteout_stands t okt p (subst (Has p) (sym whole) (has_at ps i p lt at_i)) in
        record {
          fits = record {
            node = its;
            free = free_under u t p Whiteout stands_so_far its (λ is. no_less_itself p (has_all (λ (q : Names). path_cmp q p ≡ Less) p (take i ps) (path_rises ps i p lt at_i sorted) (subst (Has p) first_whiteouts (whiteout_reads u p is))));
            above = λ q m splits dir. dir_under u t oku same_root q (λ x path has. subst (Has x) (sym all_dirs_now) has) dir;
          };
          fewer = omega (arith, inodes_counted u oku, inodes_counted t okt, ap (λ (l : List SavedDir). length l) all_dirs_now, ap (λ (l : List Names). length l) first_whiteouts, ap (λ (l : List Names). length l) whole, length-take-le i ps (omega (arith, lt)), ap (λ (l : List SavedFileValue). length l) no_files);
          most = ap (λ (s : SavedValue). s.most) was ∙ akin.most;
        }

-- ---- files and symlinks

module _ (t : Tree) (ok : IsLayer t) where
  -- a saved file has its body and its names in its layer
  pub file_reads : (f : SavedFileValue) → Has f (files_of t.entries t.bodies) → (body t f.number ≡ Some f.body) × (file_names f.number t.entries ≡ f.names)
  file_reads f has =
      let found = has_mapped (λ (b : ℕ × Body). let g : SavedFileValue = record { number = b.0; body = b.1; names = file_names b.0 t.entries } in g) f t.bodies has in
      let b = found.0 in
      let there : body t b.0 ≡ Some b.1 = has_all (λ (e : ℕ × Body). lookup (is_at (nat_cmp e.0)) t.bodies ≡ Some e.1) b t.bodies (found_each nat_cmp_total t.bodies ok.sorted_numbers) found.1 in
      let same = found.2 in (
        ap (λ (g : SavedFileValue). body t g.number) (sym same) ∙ there ∙ ap (λ (g : SavedFileValue). Some g.body) same,
        ap (λ (g : SavedFileValue). file_names g.number t.entries) (sym same) ∙ ap (λ (g : SavedFileValue). g.names) same,
      )

  -- a file or symlink has a name
  pub named_file : (f : SavedFileValue) → Has f (files_of t.entries t.bodies) → f.names ≡ [] → ⊥
  named_file f has none =
      let reads = file_reads f has in
      let name = ok.named f.number (ap is_some reads.0) in
      let n = node_with_number (at t name.0) f.number name.1 in
      let leaf : Has name.0 (file_names f.number t.entries) = read_name t f.number name.0 n.0 n.1 n.2 in
      subst (Has name.0) (reads.1 ∙ none) leaf

  -- the file of a number that has a body
  pub body_reads : (k : ℕ) (b : Body) → body t k ≡ Some b → Has (record { number = k; body = b; names = file_names k t.entries }) (files_of t.entries t.bodies)
  body_reads k b is = by t.bodies is
    where
      by : (bs : Bodies) → lookup (is_at (nat_cmp k)) bs ≡ Some b → Has (record { number = k; body = b; names = file_names k t.entries }) (files_of t.entries bs)
      by [] e = absurd (no_some b e)
      by (x ∷ bs) e = elim (split_number k x.0) [
        | inl same ↦
            let value : Some x.1 ≡ Some b = sym (cond-true (is_at (nat_cmp k) x.0) (Some x.1) (lookup (is_at (nat_cmp k)) bs) same.1) ∙ e in
            let content : x.1 ≡ b = cc in
            inl (λ i. record { number = same.0 i; body = sym content i; names = file_names (same.0 i) t.entries })
        | inr apart ↦ inr (by bs (sym (cond-false (is_at (nat_cmp k) x.0) (Some x.1) (lookup (is_at (nat_cmp k)) bs) apart.1) ∙ e))
      ]

-- the body that stands last
pub last_body : (bs : Bodies) (v : Tree) → IsLayer v → (k : ℕ) (b : Body) → v.bodies ≡ bs ++ (k, b) ∷ [] → body v k ≡ Some b
last_body bs v ok k b bodies = has_all (λ (e : ℕ × Body). lookup (is_at (nat_cmp e.0)) v.bodies ≡ Some e.1) (k, b) v.bodies (found_each nat_cmp_total v.bodies ok.sorted_numbers) (subst (Has {X = ℕ × Body} (k, b)) (sym bodies) (has_here (k, b) bs []))

no_number : IsSome {T = Body} None → ⊥
no_number e = cc

no_leaf_dir : (k : ℕ) (b : Body) → IsDirAt (Some (leaf_node k b)) → ⊥
no_leaf_dir k (body_kinds.File meta content) dir = cc
no_leaf_dir k (body_kinds.Symlink target) dir = cc

module _ (u t : Tree) (oku : IsLayer u) (okt : IsLayer t) (f : SavedFileValue) (next : HasNext u t f) where
  pub has_file : Has f (files_of t.entries t.bodies)
  has_file = subst (Has f) (sym next.files) (has_here f (files_of u.entries u.bodies) next.rest)

  its : (body t f.number ≡ Some f.body) × (file_names f.number t.entries ≡ f.names)
  its = file_reads t okt f has_file

  earlier : (k : ℕ) (b : Body) → body u k ≡ Some b → (body t k ≡ Some b) × (file_names k t.entries ≡ file_names k u.entries)
  earlier k b is =
      let g : SavedFileValue = record { number = k; body = b; names = file_names k u.entries } in
      file_reads t okt g (subst (Has g) (sym next.files) (has_left g (files_of u.entries u.bodies) (f ∷ next.rest) (body_reads u oku k b is)))

  same_body : (k : ℕ) → IsSome (body u k) → body u k ≡ body t k
  same_body k some = by (body u k) refl some
    where
      by : (o : Option Body) → body u k ≡ o → IsSome o → body u k ≡ body t k
      by None is s = absurd (no_number s)
      by (Some b) is s = is ∙ sym (earlier k b is).0

  same_names : (k : ℕ) → IsSome (body u k) → file_names k t.entries ≡ file_names k u.entries
  same_names k some = by (body u k) refl some
    where
      by : (o : Option Body) → body u k ≡ o → IsSome o → file_names k t.entries ≡ file_names k u.entries
      by None is s = absurd (no_number s)
      by (Some b) is s = (earlier k b is).1

  stands_before : (q : Names) (n : Node) → at u q ≡ Some n → at t q ≡ Some n
  stands_before = stands_there u t oku okt next.furnished.akin.root
      (λ x has. subst (Has x) next.furnished.dirs has)
      (λ q has. subst (Has q) next.furnished.whiteouts has)
      same_body
      (λ k some q has. subst (Has q) (sym (same_names k some)) has)

  unused : IsSome (body u f.number) → ⊥
  unused some = omega (arith, (oku.numbers f.number some).1, next.free)

  module _ (first : Names) (others : List Names) (splits : f.names ≡ first ∷ others) where
    pub first_fits : LacksNodeWithRoom u t first (leaf_node f.number f.body)
    first_fits =
        let there : at t first ≡ Some (leaf_node f.number f.body) = name_stands t okt f.number f.body first its.0 (subst (Has first) (sym (its.1 ∙ splits)) (inl refl)) in
        record {
          fits = record {
            node = there;
            free = free_under u t first (leaf_node f.number f.body) stands_before there (λ is. unused (has_body u oku first f.number (ap (option_and_then number_of) is ∙ leaf_number f.number f.body)));
            above = λ q m at_q dir. dir_under u t oku next.furnished.akin.root q (λ x path has. subst (Has x) (sym next.furnished.dirs) has) dir;
          };
          fewer = omega (arith, inodes_counted u oku, inodes_counted t okt, ap (λ (l : List SavedDir). length l) next.furnished.dirs, ap (λ (l : List Names). length l) next.furnished.whiteouts, ap (λ (l : List SavedFileValue). length l) next.files, length-append (files_of u.entries u.bodies) (f ∷ next.rest));
          most = next.furnished.akin.most;
        }

    -- once it is there
    module _ (v : Tree) (okv : IsLayer v) (bodies : v.bodies ≡ u.bodies ++ (f.number, f.body) ∷ []) (one : AddsNames f.number u.entries v.entries (first ∷ [])) where
      root_after : at v [] ≡ at t []
      root_after = one.root ∙ next.furnished.akin.root

      its_body : body v f.number ≡ Some f.body
      its_body = last_body u.bodies v okv f.number f.body bodies

      -- each body was there, or is the new one
      which : (k : ℕ) (b : Body) → body v k ≡ Some b → (body u k ≡ Some b) ⊎ ((k ≡ f.number) × (b ≡ f.body))
      which k b is = by (has_split {X = ℕ × Body} (k, b) u.bodies ((f.number, f.body) ∷ []) (subst (Has {X = ℕ × Body} (k, b)) bodies (entry_has v.bodies k b is)))
        where
          by : Has {X = ℕ × Body} (k, b) u.bodies ⊎ Has {X = ℕ × Body} (k, b) ((f.number, f.body) ∷ []) → (body u k ≡ Some b) ⊎ ((k ≡ f.number) × (b ≡ f.body))
          by (inl old) = inl (has_all (λ (x : ℕ × Body). lookup (is_at (nat_cmp x.0)) u.bodies ≡ Some x.1) (k, b) u.bodies (found_each nat_cmp_total u.bodies oku.sorted_numbers) old)
          by (inr (inl same)) = inr (ap (λ (x : ℕ × Body). x.0) same, ap (λ (x : ℕ × Body). x.1) same)
          by (inr (inr none)) = absurd none

      body_after : (k : ℕ) → IsSome (body v k) → body v k ≡ body t k
      body_after k some = by (body v k) refl some
        where
          by : (o : Option Body) → body v k ≡ o → IsSome o → body v k ≡ body t k
          by None is s = absurd (no_number s)
          by (Some b) is s = is ∙ at_which (which k b is)
            where
              at_which : (body u k ≡ Some b) ⊎ ((k ≡ f.number) × (b ≡ f.body)) → Some b ≡ body t k
              at_which (inl old) = sym (earlier k b old).0
              at_which (inr new) = sym (ap (body t) new.0 ∙ its.0 ∙ ap (λ (x : Body). Some x) (sym new.1))

      names_after : (k : ℕ) → IsSome (body v k) → (q : Names) → Has q (file_names k v.entries) → Has q (file_names k t.entries)
      names_after k some q has = by (body v k) refl some
        where
          new_name : k ≡ f.number → Has q (file_names k t.entries)
          new_name same = at_name (subst (Has q) (ap (λ (j : ℕ). file_names j v.entries) same ∙ first_names u v f.number first oku next.free one) has)
            where
              at_name : Has q (first ∷ []) → Has q (file_names k t.entries)
              at_name (inl is) = subst (Has q) (sym (ap (λ (j : ℕ). file_names j t.entries) same ∙ its.1 ∙ splits)) (inl is)
              at_name (inr none) = absurd none

          old_name : (b : Body) → body u k ≡ Some b → Has q (file_names k t.entries)
          old_name b is = elim (split_number k f.number) [
            | inl same ↦ new_name same.0
            | inr apart ↦ subst (Has q) (sym (earlier k b is).1) (subst (Has q) (one.others k (λ e. apart.0 (sym e))) has)
          ]

          by : (o : Option Body) → body v k ≡ o → IsSome o → Has q (file_names k t.entries)
          by None is s = absurd (no_number s)
          by (Some b) is s = elim (which k b is) [ inl old ↦ old_name b old | inr new ↦ new_name new.0 ]

      pub others_await : HasNames v t f.number others
      others_await = record {
        content = f.body;
        there = its_body;
        under = record {
          stands = stands_there v t okv okt root_after
              (λ x has. subst (Has x) (one.dirs ∙ next.furnished.dirs) has)
              (λ q has. subst (Has q) (one.whiteouts ∙ next.furnished.whiteouts) has)
              body_after
              names_after;
          dirs = λ q dir. dir_under v t okv root_after q (λ x path has. subst (Has x) (sym (one.dirs ∙ next.furnished.dirs)) has) dir;
        };
        names = all_had (λ (p : Names). at t p ≡ Some (leaf_node f.number f.body)) others (λ p has. name_stands t okt f.number f.body p its.0 (subst (Has p) (sym (its.1 ∙ splits)) (inr has)));
      }

-- ---- names

module _ (u0 u t : Tree) (k : ℕ) (ps : List Names) (i : ℕ) (p : Names) (lt : i < length ps) (at_i : p ≡ get_or ps i p) (await : HasNames u0 t k ps) (was : AddsNames k u0.entries u.entries (take i ps)) (under : IsUnder u t) (sorted : IsStrictlySortedBy path_cmp (file_names k u0.entries ++ ps)) where
  name_there : at t p ≡ Some (leaf_node k await.content)
  name_there = has_all (λ (q : Names). at t q ≡ Some (leaf_node k await.content)) p ps await.names (has_at ps i p lt at_i)

  pub name_fits : LacksNode u t p (leaf_node k await.content)
  name_fits = record {
    node = name_there;
    free = free_under u t p (leaf_node k await.content) under.stands name_there (λ is. no_less_itself p (has_all (λ (q : Names). path_cmp q p ≡ Less) p (file_names k u.entries) (next_name u0 u k ps i p lt at_i was sorted) (name_reads u k await.content p is)));
    above = λ q m splits dir. under.dirs q dir;
  }

  pub under_next : (v : Tree) → v ≡ with_entry u p (leaf_node k await.content) → IsUnder v t
  under_next v is =
      let sets = Sets-with_entry u p (leaf_node k await.content) in
      record {
        stands = λ q n e. elim (split_path p q) [
          | inl same ↦ ap (at t) (sym same.0) ∙ name_there ∙ sym sets.here ∙ ap (at (with_entry u p (leaf_node k await.content))) same.0 ∙ ap (λ (x : Tree). at x q) (sym is) ∙ e
          | inr apart ↦ under.stands q n (sym (sets.others q apart.0) ∙ ap (λ (x : Tree). at x q) (sym is) ∙ e)
        ];
        dirs = λ q dir. elim (split_path p q) [
          | inl same ↦ absurd (no_leaf_dir k await.content (subst IsDirAt (ap (at t) (sym same.0) ∙ name_there) dir))
          | inr apart ↦ subst IsDirAt (sym (ap (λ (x : Tree). at x q) is ∙ sets.others q apart.0)) (under.dirs q dir)
        ];
      }
