-- The files that end with a directory: counted entry by entry.
use Rattle.std.proofs.Common.{◌≡◌, inl, inr, ℕ, ◌+◌, ◌<◌, ◌≤◌, Bool, true, false, cond, List, [], ◌∷◌, ◌++◌, length, take, Option, Some, None, IsSome, refl, sym, ap, subst, ◌∙◌, arith, length-append}
use Rattle.std.specs.Prelude.{filter, is_some, count_by, ◌==◌, if◌then◌else◌}
use Rattle.std.specs.declared.cmp.Ordering.TheVariants.{Less}
use Rattle.std.specs.Ordering.{is_eq, nat_cmp}
use Rattle.std.specs.Cmp.{nat_cmp_total}
use Rattle.std.specs.List.{AllByRecursion, sum_by}
use Rattle.std.specs.List.Sorted.{IsStrictlySortedBy}
use Rattle.std.specs.Map.{lookup, keys_of, values_of}
use Rattle.std.specs.BTreeMap.{is_at}
use mir.Val.{bool_byte}
use Rattle.std.proofs.Math.Seq.{take-append-add}
use Rattle.std.proofs.lemmas.Bool.{cond-true, cond-false}
use Rattle.std.proofs.lemmas.Bool.Decides.{nat_tests}
use Rattle.std.proofs.lemmas.List.Sums.{sum_by-cons}
use Rattle.snap_path.specs.Text.{Names, begins}
use Rattle.snap_layer.specs.declared.node.Node.{Node}
use Rattle.snap_layer.specs.declared.node.Node.TheVariants.{Dir, File, Symlink, Whiteout}
use Rattle.snap_layer.specs.declared.node.Body.{Body}
use Rattle.snap_layer.specs.Tree.{Tree, Entries, Bodies, path_cmp, at, body, number_of, has_number, is_dir, is_whiteout, IsDirAt}
use Rattle.snap_layer.specs.Counts.{name_count, inode_count, block_count, body_blocks}
use Rattle.snap_layer.specs.Layers.{IsLayer}
use Rattle.snap_layer.specs.Edits.{bodies_named, bodies_unnamed, inside, outside, without_tree}
use Rattle.snap_layer.specs.Rows.{own}
use Rattle.snap_layer.specs.declared.totals.Totals.{Totals}
use Rattle.snap_layer.specs.Totals.{path_count, Counts}
use Rattle.snap_layer.specs.Ended.{has_all, ended, ended_in, ended_number, body_totals, met_of, AreMet}
use Rattle.snap_layer.proofs.Counting.{count_of_bodies, dirs, weight_of_body, whites}
use Rattle.snap_layer.proofs.Inside.{found_each}
use Rattle.snap_layer.proofs.Kept.{node_with_number}
use Rattle.snap_layer.proofs.Lists.{lookup-filter, sum_by-filter}
use Rattle.snap_layer.proofs.Looks.{has_its_number, no_name_at, number_is, split_number}
use Rattle.snap_layer.proofs.Paths.{path_cmp_total, path_cmp-IsAntisymmetric, begins_itself}
use Rattle.snap_layer.proofs.Replacing.{other_name}
use Rattle.snap_layer.proofs.Trees.{names_outside}

-- ---- one number more

filter_same : (g h : ℕ → Bool) (bs : Bodies) → AllByRecursion (λ (y : ℕ). h y ≡ g y) (keys_of bs) → filter (λ (b : ℕ × Body). h b.0) bs ≡ filter (λ (b : ℕ × Body). g b.0) bs
filter_same g h [] a = refl
filter_same g h (b ∷ bs) a = λ i. cond (a.0 i) (b ∷ filter_same g h bs a.1 i) (filter_same g h bs a.1 i)

module _ (f : Body → ℕ) (g h : ℕ → Bool) (k : ℕ) (not_yet : g k ≡ false) (others : (j : ℕ) → (j ≡ k → ⊥) → h j ≡ g j) where
  abbrev sum_of : (ℕ → Bool) → Bodies → ℕ
  sum_of test bs = sum_by f (values_of (filter (λ (b : ℕ × Body). test b.0) bs))

  all_others : (x : ℕ) (ks : List ℕ) → x ≡ k → AllByRecursion (λ y. nat_cmp x y ≡ Less) ks → AllByRecursion (λ y. h y ≡ g y) ks
  all_others x [] same a = tt
  all_others x (y ∷ ks) same a = (others y (λ e. differ (a.0 ∙ refl) (e ∙ sym same)), all_others x ks same a.1)
    where
      differ : nat_cmp x y ≡ Less → y ≡ x → ⊥
      differ less e = elim (split_number x y) [
        | inl one ↦ no_bool (sym one.1 ∙ ap is_eq less)
        | inr apart ↦ apart.0 e
      ]
        where
          no_bool : true ≡ false → ⊥
          no_bool e = cc

  pub one_more : (bs : Bodies) → IsStrictlySortedBy nat_cmp (keys_of bs) → sum_of h bs ≡ sum_of g bs + cond (h k) (weight_of_body f (lookup (is_at (nat_cmp k)) bs)) 0
  unfolding IsStrictlySortedBy
  one_more [] sorted = by (h k)
    where
      by : (b : Bool) → 0 ≡ 0 + cond b 0 0
      by true = refl
      by false = refl
  one_more (b ∷ bs) sorted = elim (split_number k b.0) [
    | inl same ↦ here same.0 same.1 (h k) refl
    | inr apart ↦ there apart.0 apart.1 (g b.0) refl (one_more bs sorted.1)
  ]
    where
      here : k ≡ b.0 → is_at (nat_cmp k) b.0 ≡ true → (c : Bool) → h k ≡ c → sum_by f (values_of (cond (h b.0) (b ∷ filter (λ (x : ℕ × Body). h x.0) bs) (filter (λ (x : ℕ × Body). h x.0) bs))) ≡ sum_by f (values_of (cond (g b.0) (b ∷ filter (λ (x : ℕ × Body). g x.0) bs) (filter (λ (x : ℕ × Body). g x.0) bs))) + cond (h k) (weight_of_body f (cond (is_at (nat_cmp k) b.0) (Some b.1) (lookup (is_at (nat_cmp k)) bs))) 0
      here same found c is =
          let rest : filter (λ (x : ℕ × Body). h x.0) bs ≡ filter (λ (x : ℕ × Body). g x.0) bs = filter_same g h bs (all_others b.0 (keys_of bs) (sym same) sorted.0) in
          let off : g b.0 ≡ false = ap g (sym same) ∙ not_yet in
          let on : h b.0 ≡ c = ap h (sym same) ∙ is in
          let left : sum_by f (values_of (cond (h b.0) (b ∷ filter (λ (x : ℕ × Body). h x.0) bs) (filter (λ (x : ℕ × Body). h x.0) bs))) ≡ sum_by f (values_of (cond c (b ∷ filter (λ (x : ℕ × Body). g x.0) bs) (filter (λ (x : ℕ × Body). g x.0) bs))) = λ i. sum_by f (values_of (cond (on i) (b ∷ rest i) (rest i))) in
          let right : sum_by f (values_of (cond (g b.0) (b ∷ filter (λ (x : ℕ × Body). g x.0) bs) (filter (λ (x : ℕ × Body). g x.0) bs))) ≡ sum_by f (values_of (filter (λ (x : ℕ × Body). g x.0) bs)) = ap (λ d. sum_by f (values_of (cond d (b ∷ filter (λ (x : ℕ × Body). g x.0) bs) (filter (λ (x : ℕ × Body). g x.0) bs)))) off in
          let weight : cond (h k) (weight_of_body f (cond (is_at (nat_cmp k) b.0) (Some b.1) (lookup (is_at (nat_cmp k)) bs))) 0 ≡ cond c (f b.1) 0 = λ i. cond (is i) (weight_of_body f (cond (found i) (Some b.1) (lookup (is_at (nat_cmp k)) bs))) 0 in
          omega (arith, left, right, weight, by c)
        where
          by : (c : Bool) → sum_by f (values_of (cond c (b ∷ filter (λ (x : ℕ × Body). g x.0) bs) (filter (λ (x : ℕ × Body). g x.0) bs))) ≡ sum_by f (values_of (filter (λ (x : ℕ × Body). g x.0) bs)) + cond c (f b.1) 0
          by true = omega (arith, sum_by-cons f b.1 (values_of (filter (λ (x : ℕ × Body). g x.0) bs)))
          by false = omega arith

      there : (b.0 ≡ k → ⊥) → is_at (nat_cmp k) b.0 ≡ false → (c : Bool) → g b.0 ≡ c → sum_of h bs ≡ sum_of g bs + cond (h k) (weight_of_body f (lookup (is_at (nat_cmp k)) bs)) 0 → sum_by f (values_of (cond (h b.0) (b ∷ filter (λ (x : ℕ × Body). h x.0) bs) (filter (λ (x : ℕ × Body). h x.0) bs))) ≡ sum_by f (values_of (cond (g b.0) (b ∷ filter (λ (x : ℕ × Body). g x.0) bs) (filter (λ (x : ℕ × Body). g x.0) bs))) + cond (h k) (weight_of_body f (cond (is_at (nat_cmp k) b.0) (Some b.1) (lookup (is_at (nat_cmp k)) bs))) 0
      there apart not_found c is later =
          let on : h b.0 ≡ c = others b.0 apart ∙ is in
          let left : sum_by f (values_of (cond (h b.0) (b ∷ filter (λ (x : ℕ × Body). h x.0) bs) (filter (λ (x : ℕ × Body). h x.0) bs))) ≡ sum_by f (values_of (cond c (b ∷ filter (λ (x : ℕ × Body). h x.0) bs) (filter (λ (x : ℕ × Body). h x.0) bs))) = ap (λ d. sum_by f (values_of (cond d (b ∷ filter (λ (x : ℕ × Body). h x.0) bs) (filter (λ (x : ℕ × Body). h x.0) bs)))) on in
          let right : sum_by f (values_of (cond (g b.0) (b ∷ filter (λ (x : ℕ × Body). g x.0) bs) (filter (λ (x : ℕ × Body). g x.0) bs))) ≡ sum_by f (values_of (cond c (b ∷ filter (λ (x : ℕ × Body). g x.0) bs) (filter (λ (x : ℕ × Body). g x.0) bs))) = ap (λ d. sum_by f (values_of (cond d (b ∷ filter (λ (x : ℕ × Body). g x.0) bs) (filter (λ (x : ℕ × Body). g x.0) bs)))) is in
          let weight : cond (h k) (weight_of_body f (cond (is_at (nat_cmp k) b.0) (Some b.1) (lookup (is_at (nat_cmp k)) bs))) 0 ≡ cond (h k) (weight_of_body f (lookup (is_at (nat_cmp k)) bs)) 0 = ap (λ d. cond (h k) (weight_of_body f (cond d (Some b.1) (lookup (is_at (nat_cmp k)) bs))) 0) not_found in
          omega (arith, left, right, weight, by c)
        where
          by : (c : Bool) → sum_by f (values_of (cond c (b ∷ filter (λ (x : ℕ × Body). h x.0) bs) (filter (λ (x : ℕ × Body). h x.0) bs))) ≡ sum_by f (values_of (cond c (b ∷ filter (λ (x : ℕ × Body). g x.0) bs) (filter (λ (x : ℕ × Body). g x.0) bs))) + cond (h k) (weight_of_body f (lookup (is_at (nat_cmp k)) bs)) 0
          by true = omega (arith, later, sum_by-cons f b.1 (values_of (filter (λ (x : ℕ × Body). h x.0) bs)), sum_by-cons f b.1 (values_of (filter (λ (x : ℕ × Body). g x.0) bs)))
          by false = later

-- ---- names among entries

pub names_cons : (k : ℕ) (q : Names) (n : Node) (es : Entries) → name_count k ((q, n) ∷ es) ≡ cond (has_number k n) 1 0 + name_count k es
names_cons k q n es = sum_by-cons (λ m. cond (has_number k m) 1 0) n (values_of es)

pub names_append : (k : ℕ) (es fs : Entries) → name_count k (es ++ fs) ≡ name_count k es + name_count k fs
names_append k [] fs =
    let all : name_count k ([] ++ fs) ≡ name_count k fs = refl in
    let none : name_count k [] ≡ 0 = refl in
    omega (arith, all, none)
names_append k (e ∷ es) fs = omega (arith, names_cons k e.0 e.1 (es ++ fs), names_cons k e.0 e.1 es, names_append k es fs)

no_names_of_dir : (k : ℕ) (p : Names) (o : Option Node) → IsDirAt o → name_count k (own p o) ≡ 0
no_names_of_dir k p None dir = absurd dir
no_names_of_dir k p (Some (Dir m b)) dir = refl
no_names_of_dir k p (Some (File j)) dir = absurd (cc)
no_names_of_dir k p (Some (Symlink j)) dir = absurd (cc)
no_names_of_dir k p (Some Whiteout) dir = absurd (cc)

-- ---- the start, the steps, and the end

module _ (t : Tree) (ok : IsLayer t) where
  some_name : (k : ℕ) → IsSome (body t k) → name_count k t.entries ≡ 0 → ⊥
  some_name k some none =
      let had = ok.named k some in
      let node = node_with_number (at t had.0) k had.1 in
      no_name_at k had.0 t.entries node.0 none node.1 node.2

  none_yet : (bs : Bodies) → AllByRecursion (λ (b : ℕ × Body). body t b.0 ≡ Some b.1) bs → filter (λ (b : ℕ × Body). has_all t [] b.0) bs ≡ []
  none_yet [] a = refl
  none_yet (b ∷ bs) a = cond-false _ _ _ (by (has_all t [] b.0) refl) ∙ none_yet bs a.1
    where
      by : (c : Bool) → has_all t [] b.0 ≡ c → has_all t [] b.0 ≡ false
      by false e = e
      by true e = absurd (some_name b.0 (ap is_some a.0) (grind (arith, nat_tests)))

  pub ended_start : ended_in t [] ≡ []
  ended_start = none_yet t.bodies (found_each nat_cmp_total t.bodies ok.sorted_numbers)

  module _ (pre : Entries) (q : Names) (n : Node) (few : (k : ℕ) → name_count k (pre ++ (q, n) ∷ []) ≤ name_count k t.entries) where
    abbrev post : Entries
    post = pre ++ (q, n) ∷ []

    count_post : (k : ℕ) → name_count k post ≡ name_count k pre + cond (has_number k n) 1 0
    count_post k = omega (arith, names_append k pre ((q, n) ∷ []), names_cons k q n [])

    other : (j : ℕ) → has_number j n ≡ false → has_all t post j ≡ has_all t pre j
    other j not_its = let same : name_count j post ≡ name_count j pre = omega (arith, count_post j, ap {B = ℕ} (λ (b : Bool). cond b 1 0) not_its) in ap (λ (c : ℕ). c == name_count j t.entries) same

    plain : (j : ℕ) → number_of n ≡ None → has_number j n ≡ false
    plain j none = by (has_number j n) refl
      where
        clash : {x : ℕ} → None ≡ Some x → ⊥
        clash e = cc

        by : (b : Bool) → has_number j n ≡ b → b ≡ false
        by false e = refl
        by true e = absurd (clash (sym none ∙ number_is j n e))

    -- what ends with the number
    abbrev unpacked : (Body → ℕ) → Option ℕ → ℕ
    unpacked f None = 0
    unpacked f (Some k) = cond (has_all t post k) (weight_of_body f (body t k)) 0

    step : (f : Body → ℕ) (o : Option ℕ) → number_of n ≡ o → sum_by f (values_of (ended_in t post)) ≡ sum_by f (values_of (ended_in t pre)) + unpacked f o
    step f None is = by (λ i. filter (λ (b : ℕ × Body). other b.0 (plain b.0 is) i) t.bodies)
      where
        by : ended_in t post ≡ ended_in t pre → sum_by f (values_of (ended_in t post)) ≡ sum_by f (values_of (ended_in t pre)) + 0
        by e = omega (arith, ap (λ (bs : Bodies). sum_by f (values_of bs)) e)
    step f (Some k) is = one_more f (has_all t pre) (has_all t post) k not_yet (λ j apart. other j (other_name j k n is apart)) t.bodies ok.sorted_numbers
      where
        not_yet : has_all t pre k ≡ false
        not_yet = by (has_all t pre k) refl
          where
            by : (b : Bool) → has_all t pre k ≡ b → b ≡ false
            by false e = refl
            by true e = let all : name_count k pre ≡ name_count k t.entries = grind (arith, nat_tests) in absurd (omega (arith, all, few k, count_post k, ap {B = ℕ} (λ (b : Bool). cond b 1 0) (has_its_number k n is)))

    pieces : (o : Option ℕ) → ((ended_number t o post).0 ≡ unpacked (λ b. 1) o) × ((ended_number t o post).1 ≡ unpacked body_blocks o)
    pieces None = (refl, refl)
    pieces (Some k) = by (has_all t post k) (body t k)
      where
        by : (c : Bool) (x : Option Body) → ((if c then body_totals x else (0, 0)).0 ≡ cond c (weight_of_body (λ b. 1) x) 0) × ((if c then body_totals x else (0, 0)).1 ≡ cond c (weight_of_body body_blocks x) 0)
        by true None = (refl, refl)
        by true (Some b) = (refl, refl)
        by false x = (refl, refl)

    pub step_inodes : length (ended_in t post) ≡ length (ended_in t pre) + (ended t n post).0
    step_inodes = omega (arith, step (λ b. 1) (number_of n) refl, (pieces (number_of n)).0, count_of_bodies (ended_in t post), count_of_bodies (ended_in t pre))

    pub step_blocks : sum_by body_blocks (values_of (ended_in t post)) ≡ sum_by body_blocks (values_of (ended_in t pre)) + (ended t n post).1
    step_blocks = omega (arith, step body_blocks (number_of n) refl, (pieces (number_of n)).1)

  module _ (p : Names) (dir : IsDirAt (at t p)) (rest : Entries) (is : inside p t.entries ≡ own p (at t p) ++ rest) where
    rest_names : (k : ℕ) → name_count k rest + name_count k (outside p t.entries) ≡ name_count k t.entries
    rest_names k = omega (arith, names_outside k p t.entries, ap (λ (es : Entries). name_count k es) is, names_append k (own p (at t p)) rest, no_names_of_dir k p (at t p) dir)

    test : (a b c : ℕ) → a + b ≡ c → (a == c) ≡ (b == 0)
    test a b c e = by (a == c) (b == 0) refl refl
      where
        by : (x y : Bool) → (a == c) ≡ x → (b == 0) ≡ y → x ≡ y
        by true true f g = refl
        by false false f g = refl
        by true false f g = let same : a ≡ c = grind (arith, nat_tests) in let apart : b ≡ 0 → ⊥ = grind (arith, nat_tests) in absurd (apart (omega (arith, e, same)))
        by false true f g = let same : b ≡ 0 = grind (arith, nat_tests) in let apart : a ≡ c → ⊥ = grind (arith, nat_tests) in absurd (apart (omega (arith, e, same)))

    pub ended_all : ended_in t rest ≡ bodies_unnamed (outside p t.entries) t.bodies
    ended_all = λ i. filter (λ (b : ℕ × Body). test (name_count b.0 rest) (name_count b.0 (outside p t.entries)) (name_count b.0 t.entries) (rest_names b.0) i) t.bodies

    pub few_among : (pre past : Entries) → rest ≡ pre ++ past → (k : ℕ) → name_count k pre ≤ name_count k t.entries
    few_among pre past split k = omega (arith, rest_names k, ap (λ (es : Entries). name_count k es) split, names_append k pre past)

-- ---- bounds

pub ended_few : (t : Tree) (es : Entries) → length (ended_in t es) ≤ length t.bodies
ended_few t es = by t.bodies
  where
    by : (bs : Bodies) → length (filter (λ (b : ℕ × Body). has_all t es b.0) bs) ≤ length bs
    by [] = omega arith
    by (b ∷ bs) = choose (has_all t es b.0) (by bs)
      where
        choose : (c : Bool) → length (filter (λ (b : ℕ × Body). has_all t es b.0) bs) ≤ length bs → length (cond c (b ∷ filter (λ (b : ℕ × Body). has_all t es b.0) bs) (filter (λ (b : ℕ × Body). has_all t es b.0) bs)) ≤ length (b ∷ bs)
        choose true later = omega (arith, later)
        choose false later = omega (arith, later)

pub ended_light : (t : Tree) (es : Entries) → sum_by body_blocks (values_of (ended_in t es)) ≤ sum_by body_blocks (values_of t.bodies)
ended_light t es = omega (arith, sum_by-filter body_blocks (λ (b : ℕ × Body). has_all t es b.0) t.bodies)

-- ---- what is left

pub tree_inodes : (t : Tree) (p : Names) → inode_count (without_tree t p) + count_by is_dir (values_of (inside p t.entries)) + count_by is_whiteout (values_of (inside p t.entries)) + length (bodies_unnamed (outside p t.entries) t.bodies) ≡ inode_count t
tree_inodes t p =
    let gone = bodies_unnamed (outside p t.entries) t.bodies in
    let left = bodies_named (outside p t.entries) t.bodies in
    omega (arith, sum_by-filter dirs (λ e. begins p e.0) t.entries, sum_by-filter whites (λ e. begins p e.0) t.entries, sum_by-filter (λ (b : Body). 1) (λ (b : ℕ × Body). name_count b.0 (outside p t.entries) == 0) t.bodies, count_of_bodies gone, count_of_bodies left, count_of_bodies t.bodies)

pub tree_blocks : (t : Tree) (p : Names) → block_count (without_tree t p) + count_by is_dir (values_of (inside p t.entries)) + sum_by body_blocks (values_of (bodies_unnamed (outside p t.entries) t.bodies)) ≡ block_count t
tree_blocks t p = omega (arith, sum_by-filter dirs (λ e. begins p e.0) t.entries, sum_by-filter body_blocks (λ (b : ℕ × Body). name_count b.0 (outside p t.entries) == 0) t.bodies)

dir_among : (p : Names) (es : Entries) (n : Node) → lookup (is_at (path_cmp p)) es ≡ Some n → is_dir n ≡ true → 1 ≤ count_by is_dir (values_of es)
dir_among p [] n e dir = absurd (cc)
dir_among p (x ∷ es) n e dir = by (is_at (path_cmp p) x.0) e (dir_among p es n)
  where
    by : (b : Bool) → cond b (Some x.1) (lookup (is_at (path_cmp p)) es) ≡ Some n → (lookup (is_at (path_cmp p)) es ≡ Some n → is_dir n ≡ true → 1 ≤ count_by is_dir (values_of es)) → 1 ≤ count_by is_dir (values_of (x ∷ es))
    by true found later = let same : x.1 ≡ n = cc in omega (arith, sum_by-cons dirs x.1 (values_of es), ap dirs same, ap {B = ℕ} (λ (b : Bool). cond b 1 0) dir)
    by false found later = omega (arith, sum_by-cons dirs x.1 (values_of es), later found dir)

-- the directory itself goes
pub dir_inside : (t : Tree) (p : Names) → IsDirAt (at t p) → 1 ≤ count_by is_dir (values_of (inside p t.entries))
dir_inside t p dir = by (at t p) refl dir
  where
    by : (o : Option Node) → at t p ≡ o → IsDirAt o → 1 ≤ count_by is_dir (values_of (inside p t.entries))
    by None e d = absurd d
    by (Some n) e d =
        dir_among p (inside p t.entries) n
        (lookup-filter path_cmp_total path_cmp-IsAntisymmetric (begins p) p t.entries ∙ cond-true (begins p p) (at t p) None (begins_itself p) ∙ e) d

-- ---- one entry

pub none_ends : (t : Tree) (n : Node) (es : Entries) → number_of n ≡ None → (0, 0) ≡ ended t n es
none_ends t n es is = sym (ap (λ (o : Option ℕ). ended_number t o es) is)

-- the last of the entries names it
pub has_last : (t : Tree) (k : ℕ) (pre : Entries) (q : Names) (n : Node) → number_of n ≡ Some k → 1 ≤ name_count k (pre ++ (q, n) ∷ [])
has_last t k pre q n is = omega (arith, names_append k pre ((q, n) ∷ []), names_cons k q n [], ap {B = ℕ} (λ (b : Bool). cond b 1 0) (has_its_number k n is))

pub all_end : (t : Tree) (n : Node) (k : ℕ) (b : Body) (blocks : ℕ) (es : Entries) → number_of n ≡ Some k → body t k ≡ Some b → blocks ≡ body_blocks b → name_count k es ≡ name_count k t.entries → ◌≡◌ {A = ℕ × ℕ} (1, blocks) (ended t n es)
all_end t n k b blocks es number is weight all =
    let test : has_all t es k ≡ true = grind (arith, nat_tests) in
    (λ i. (1, weight i))
    ∙ sym (ap body_totals is)
    ∙ sym (cond-true (has_all t es k) (body_totals (body t k)) (0, 0) test)
    ∙ sym (ap (λ (o : Option ℕ). ended_number t o es) number)

pub start_entries : (p : Names) (o : Option Node) (rest others : Entries) → own p o ++ rest ≡ own p o ++ others → rest ≡ others
start_entries p None rest others e = e
start_entries p (Some n) rest others e = cc

pub few_fit : (t : Tree) (p : Names) (o : Option Node) (pre past : Entries) (q : Names) (n : Node) → inside p t.entries ≡ own p o ++ (pre ++ (q, n) ∷ past) → length pre + 1 ≤ path_count t
few_fit t p o pre past q n is =
    omega (arith, sum_by-filter (λ (m : Node). 1) (λ e. begins p e.0) t.entries, ones (inside p t.entries), ap (λ (es : Entries). length es) is, length-append (own p o) (pre ++ (q, n) ∷ past), length-append pre ((q, n) ∷ past))
  where
    ones : (es : Entries) → sum_by (λ (m : Node). 1) (values_of es) ≡ length es
    ones [] = refl
    ones (e ∷ es) = omega (arith, sum_by-cons (λ (m : Node). 1) e.1 (values_of es), ones es)

-- what a layer takes is what is left, and what goes with the tree
pub record IsTreeLeft (t : Tree) (p : Names) (totals : Totals) (many whites files freed : ℕ) : Type 0 where
  pub inodes_are : inode_count (without_tree t p) + many + whites + files ≡ totals.inodes
  pub blocks_are : block_count (without_tree t p) + many + freed ≡ totals.blocks
  pub some : 1 ≤ many
  pub count : totals.inodes ≡ inode_count t

-- v is the layer t, and both other paths are the path
pub tree_left : (t v : Tree) → v ≡ t → (p q : Names) → q ≡ p → (r : Names) → r ≡ p → (totals : Totals) → Counts totals v → IsDirAt (at t p) → (many whites files freed : ℕ)
    → many ≡ count_by is_dir (values_of (inside q v.entries)) → whites ≡ count_by is_whiteout (values_of (inside q v.entries))
    → files ≡ length (bodies_unnamed (outside r v.entries) v.bodies) → freed ≡ sum_by body_blocks (values_of (bodies_unnamed (outside r v.entries) v.bodies))
    → IsTreeLeft t p totals many whites files freed
tree_left t v same p q path r other totals had dir many whites files freed dirs_are whites_are files_are freed_are =
    let counts : Counts totals t = subst (Counts totals) same had in
    let d : many ≡ count_by is_dir (values_of (inside p t.entries)) = dirs_are ∙ (λ i. count_by is_dir (values_of (inside (path i) (same i).entries))) in
    let w : whites ≡ count_by is_whiteout (values_of (inside p t.entries)) = whites_are ∙ (λ i. count_by is_whiteout (values_of (inside (path i) (same i).entries))) in
    let f : files ≡ length (bodies_unnamed (outside p t.entries) t.bodies) = files_are ∙ (λ i. length (bodies_unnamed (outside (other i) (same i).entries) (same i).bodies)) in
    let b : freed ≡ sum_by body_blocks (values_of (bodies_unnamed (outside p t.entries) t.bodies)) = freed_are ∙ (λ i. sum_by body_blocks (values_of (bodies_unnamed (outside (other i) (same i).entries) (same i).bodies))) in
    record {
      inodes_are = omega (arith, counts.inodes, tree_inodes t p, d, w, f);
      blocks_are = omega (arith, counts.blocks, tree_blocks t p, d, b);
      some = omega (arith, d, dir_inside t p dir);
      count = counts.inodes;
    }

pub names_inside_few : (t : Tree) (p : Names) (o : Option Node) (pre past : Entries) (k : ℕ) → inside p t.entries ≡ own p o ++ (pre ++ past) → name_count k pre ≤ name_count k t.entries
names_inside_few t p o pre past k is = omega (arith, names_outside k p t.entries, ap (λ (es : Entries). name_count k es) is, names_append k (own p o) (pre ++ past), names_append k pre past)

-- an entry among the first ones that names the number, or does not
pub counted_one : (k : ℕ) (q : Names) (n : Node) (rest : Entries) (left : ℕ) (test : Bool) (one : ℕ) → test ≡ has_number k n → one ≡ bool_byte test
    → (one ≤ 1) × (one + name_count k (take left rest) ≡ name_count k (take (left + 1) ((q, n) ∷ rest)))
counted_one k q n rest left test one tested is =
    let found : one ≡ cond (has_number k n) 1 0 = is ∙ ap bool_byte tested ∙ byte (has_number k n) in
    let first : take (left + 1) ((q, n) ∷ rest) ≡ (q, n) ∷ take left rest = ap (λ (i : ℕ). take i ((q, n) ∷ rest)) (more left) ∙ take-append-add ((q, n) ∷ []) rest left in
    (omega (arith, found, small (has_number k n)), omega (arith, found, names_cons k q n (take left rest), ap (λ (es : Entries). name_count k es) first))
  where
    more : (i : ℕ) → i + 1 ≡ 1 + i
    more i = omega arith

    byte : (b : Bool) → bool_byte b ≡ cond b 1 0
    byte true = refl
    byte false = refl

    small : (b : Bool) → cond b 1 0 ≤ 1
    small true = omega arith
    small false = omega arith

-- ---- counts of the names that have come

-- one name more of its own number
pub one_name : (k : ℕ) (pre : Entries) (q : Names) (n : Node) → number_of n ≡ Some k → name_count k (pre ++ (q, n) ∷ []) ≡ name_count k pre + 1
one_name k pre q n is = omega (arith, names_append k pre ((q, n) ∷ []), names_cons k q n [], ap {B = ℕ} (λ (b : Bool). cond b 1 0) (has_its_number k n is))

-- and none of another
no_name : (k j : ℕ) (pre : Entries) (q : Names) (n : Node) → number_of n ≡ Some j → (k ≡ j → ⊥) → name_count k (pre ++ (q, n) ∷ []) ≡ name_count k pre
no_name k j pre q n is apart = omega (arith, names_append k pre ((q, n) ∷ []), names_cons k q n [], ap {B = ℕ} (λ (b : Bool). cond b 1 0) (other_name k j n is apart))

-- the name was counted
pub met_more : (t : Tree) (pre : Entries) (q : Names) (n : Node) (j : ℕ) (old new : List (ℕ × ℕ)) → number_of n ≡ Some j → AreMet t pre old
    → ((k : ℕ) → met_of new k ≡ cond (is_at (nat_cmp j) k) (met_of old j + 1) (met_of old k)) → AreMet t (pre ++ (q, n) ∷ []) new
met_more t pre q n j old new is met counts k several = elim (split_number j k) [
  | inl same ↦ counts k ∙ cond-true (is_at (nat_cmp j) k) (met_of old j + 1) (met_of old k) same.1
      ∙ ap (λ (m : ℕ). m + 1) (met j (subst (λ (i : ℕ). 1 < name_count i t.entries) (sym same.0) several))
      ∙ sym (one_name j pre q n is) ∙ ap (λ (i : ℕ). name_count i (pre ++ (q, n) ∷ [])) same.0
  | inr apart ↦ counts k ∙ cond-false (is_at (nat_cmp j) k) (met_of old j + 1) (met_of old k) apart.1 ∙ met k several ∙ sym (no_name k j pre q n is apart.0)
]

-- its file has one name alone, which isn't counted
pub met_alone : (t : Tree) (pre : Entries) (q : Names) (n : Node) (j : ℕ) (met : List (ℕ × ℕ)) → number_of n ≡ Some j → name_count j t.entries ≤ 1 → AreMet t pre met → AreMet t (pre ++ (q, n) ∷ []) met
met_alone t pre q n j counts is alone met k several = elim (split_number j k) [
  | inl same ↦ absurd (omega (arith, several, alone, ap (λ (i : ℕ). name_count i t.entries) same.0))
  | inr apart ↦ met k several ∙ sym (no_name k j pre q n is apart.0)
]
