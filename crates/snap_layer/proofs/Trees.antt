-- A directory and all that is below it, taken path by path.
use Rattle.std.proofs.Common.{◌≡◌, inl, inr, ℕ, ◌+◌, ◌<◌, ◌≤◌, Bool, true, false, cond, not, List, [], ◌∷◌, ◌++◌, length, Option, Some, None, IsSome, refl, sym, ap, subst, ◌∙◌, arith, append-nil}
use Rattle.std.specs.Prelude.{filter, is_some, option_and_then, ◌==◌, ◌&&◌}
use Rattle.std.specs.declared.cmp.Ordering.{Ordering}
use Rattle.std.specs.declared.cmp.Ordering.TheVariants.{Less, Equal, Greater}
use Rattle.std.specs.Ordering.{is_eq, nat_cmp, ordering_reverse}
use Rattle.std.specs.Cmp.{nat_cmp_total}
use Rattle.std.specs.FinMap.{nat_cmp-IsAntisymmetric}
use Rattle.std.specs.List.{AllByRecursion}
use Rattle.std.specs.List.Sorted.{IsStrictlySortedBy}
use Rattle.std.specs.Map.{lookup, keys_of, remove_entry}
use Rattle.std.specs.BTreeMap.{is_at}
use Rattle.std.proofs.lemmas.Cmp.{tied_itself}
use Rattle.std.proofs.lemmas.Bool.{cond-true, cond-false}
use Rattle.std.proofs.lemmas.Bool.Decides.{nat_tests}
use Rattle.snap_path.specs.Text.{Names, begins}
use Rattle.snap_layer.specs.declared.node.Node.{Node}
use Rattle.snap_layer.specs.declared.node.Body.{Body}
use Rattle.snap_layer.specs.Tree.{Tree, Entries, Bodies, path_cmp, at, body, number_at, number_of, has_number, IsDirAt}
use Rattle.snap_layer.specs.Counts.{name_count}
use Rattle.snap_layer.specs.Layers.{IsLayer}
use Rattle.snap_layer.specs.Edits.{without, without_tree, bodies_named, bodies_without, inside, outside, HasPlace, IsFree, IsTakeable}
use Rattle.snap_layer.proofs.Inside.{cmp_front, found_each}
use Rattle.snap_layer.proofs.Kept.{node_with_number, IsLayer-without}
use Rattle.snap_layer.proofs.Lists.{at_itself, lookup-filter, sorted-filter, same_from, same_lists, sum_by-filter}
use Rattle.snap_layer.proofs.Looks.{at-without_outside, body-bodies_without, is_dropped, no_name_at, sorted-bodies_without, split_number}
use Rattle.snap_layer.proofs.Paths.{path_cmp_total, path_cmp-IsAntisymmetric, begins_from, begins_itself, begins-trans, split_front}

no_bool : true ≡ false → ⊥
no_bool e = cc

none_some : {A : Type 0} {x : A} → None ≡ Some x → ⊥
none_some e = cc

gone : {A : Type 0} (o : Option A) → IsSome o → o ≡ None → ⊥
gone None some e = cc
gone (Some x) some e = cc

-- ---- the last of the paths

all_last : {K : Type 0} (P : K → Type 0) (xs : List K) (q : K) → AllByRecursion P (xs ++ q ∷ []) → P q
all_last P [] q a = a.0
all_last P (x ∷ xs) q a = all_last P xs q a.1

all_snoc : {K : Type 0} (P : K → Type 0) (xs : List K) (q : K) → AllByRecursion P xs → P q → AllByRecursion P (xs ++ q ∷ [])
all_snoc P [] q a h = (h, tt)
all_snoc P (x ∷ xs) q a h = (a.0, all_snoc P xs q a.1 h)

pub all_each : {K : Type 0} (P Q : K → Type 0) (xs : List K) → ((k : K) → P k → Q k) → AllByRecursion P xs → AllByRecursion Q xs
all_each P Q [] f a = tt
all_each P Q (x ∷ xs) f a = (f x a.0, all_each P Q xs f a.1)

below_last : (ks : List Names) (q : Names) → IsStrictlySortedBy path_cmp (ks ++ q ∷ []) → AllByRecursion (λ k. path_cmp k q ≡ Less) ks
unfolding IsStrictlySortedBy
below_last [] q s = tt
below_last (k ∷ ks) q s = (all_last (λ y. path_cmp k y ≡ Less) ks q s.0, below_last ks q s.1)

turned : (a b : Names) → path_cmp a b ≡ Less → path_cmp b a ≡ Greater
turned a b less = path_cmp_total.antisymm b a ∙ ap ordering_reverse less

longer : (q : Names) (n : List ℕ) (r : Names) → path_cmp q (q ++ n ∷ r) ≡ Less
longer q n r = ap (λ (x : Names). path_cmp x (q ++ n ∷ r)) (sym (append-nil q)) ∙ cmp_front q [] (n ∷ r)

-- what comes before a path doesn't begin with it
not_within : (q k : Names) → path_cmp k q ≡ Less → begins q k ≡ false
not_within q k less = elim (split_front q k) [
  | inr out ↦ out.0
  | inl within ↦ absurd (by within.1 within.2)
]
  where
    apart : (r : Ordering) → r ≡ Less → r ≡ Equal → ⊥
    apart r a b = cc

    other : (r : Ordering) → r ≡ Less → r ≡ Greater → ⊥
    other r a b = cc

    by : (r : Names) → k ≡ q ++ r → ⊥
    by [] is = apart (path_cmp k q) less (ap (λ (x : Names). path_cmp x q) (is ∙ append-nil q) ∙ tied_itself path_cmp_total q)
    by (n ∷ r) is = other (path_cmp k q) less (ap (λ (x : Names). path_cmp x q) is ∙ turned q (q ++ n ∷ r) (longer q n r))

not_among : (x : Names) (es : Entries) → AllByRecursion (λ k. is_at (path_cmp x) k ≡ false) (keys_of es) → lookup (is_at (path_cmp x)) es ≡ None
not_among x [] a = refl
not_among x (e ∷ es) a = cond-false _ _ _ a.0 ∙ not_among x es a.1

-- past the last of the paths nothing is found
past_last : (q : Names) (n : List ℕ) (r : Names) (es : Entries) (ks : List Names) → keys_of es ≡ ks ++ q ∷ [] → AllByRecursion (λ k. path_cmp k q ≡ Less) ks → lookup (is_at (path_cmp (q ++ n ∷ r))) es ≡ None
past_last q n r es ks is all =
    not_among (q ++ n ∷ r) es
    (subst (λ (l : List Names). AllByRecursion (λ k. is_at (path_cmp (q ++ n ∷ r)) k ≡ false) l) (sym is)
    (all_snoc (λ k. is_at (path_cmp (q ++ n ∷ r)) k ≡ false) ks q
    (all_each (λ k. path_cmp k q ≡ Less) (λ k. is_at (path_cmp (q ++ n ∷ r)) k ≡ false) ks (λ k less. ap is_eq (turned k (q ++ n ∷ r) (path_cmp_total.trans k q (q ++ n ∷ r) less (longer q n r)))) all)
    (ap is_eq (turned q (q ++ n ∷ r) (longer q n r)))))

-- the last of the paths taken, with what begins with it
without_last : (q : Names) (es : Entries) (ks : List Names) → keys_of es ≡ ks ++ q ∷ [] → AllByRecursion (λ k. path_cmp k q ≡ Less) ks → keys_of (filter (λ e. not (begins q e.0)) es) ≡ ks
without_last q [] [] is all = absurd (cc)
without_last q [] (k ∷ ks) is all = absurd (cc)
without_last q (e ∷ []) [] is all =
    let here : e.0 ≡ q = cc in
    ap (λ (l : Entries). keys_of l) (cond-false (not (begins q e.0)) (e ∷ []) [] (ap not (ap (begins q) here ∙ begins_itself q)))
without_last q (e ∷ x ∷ es) [] is all = absurd (cc)
without_last q (e ∷ es) (k ∷ ks) is all =
    let here : e.0 ≡ k = cc in
    let rest : keys_of es ≡ ks ++ q ∷ [] = cc in
    ap (λ (l : Entries). keys_of l) (cond-true (not (begins q e.0)) (e ∷ filter (λ x. not (begins q x.0)) es) (filter (λ x. not (begins q x.0)) es) (ap not (ap (begins q) here ∙ not_within q k all.0)))
    ∙ (λ i. here i ∷ without_last q es ks rest all.1 i)

-- ---- lists of entries

filter_swap : {X : Type 0} (f g : X → Bool) (es : List X) → filter f (filter g es) ≡ filter g (filter f es)
filter_swap f g [] = refl
filter_swap {X = X} f g (e ∷ es) = by (f e) (g e) refl refl (filter_swap f g es)
  where
    by : (a b : Bool) → f e ≡ a → g e ≡ b → filter f (filter g es) ≡ filter g (filter f es) → filter f (cond (g e) (e ∷ filter g es) (filter g es)) ≡ filter g (cond (f e) (e ∷ filter f es) (filter f es))
    by true true fa gb later = ap (filter f) (cond-true _ _ _ gb) ∙ cond-true _ _ _ fa ∙ ap (λ l. e ∷ l) later ∙ sym (ap (filter g) (cond-true _ _ _ fa) ∙ cond-true _ _ _ gb)
    by true false fa gb later = ap (filter f) (cond-false _ _ _ gb) ∙ later ∙ sym (ap (filter g) (cond-true _ _ _ fa) ∙ cond-false _ _ _ gb)
    by false true fa gb later = ap (filter f) (cond-true _ _ _ gb) ∙ cond-false _ _ _ fa ∙ later ∙ sym (ap (filter g) (cond-false _ _ _ fa))
    by false false fa gb later = ap (filter f) (cond-false _ _ _ gb) ∙ later ∙ sym (ap (filter g) (cond-false _ _ _ fa))

-- what is inside goes with the whole
outside_twice : (p q : Names) → begins p q ≡ true → (es : Entries) → outside p (outside q es) ≡ outside p es
outside_twice p q in_p [] = refl
outside_twice p q in_p (e ∷ es) = by (begins q e.0) refl (outside_twice p q in_p es)
  where
    by : (b : Bool) → begins q e.0 ≡ b → outside p (outside q es) ≡ outside p es → outside p (cond (not (begins q e.0)) (e ∷ outside q es) (outside q es)) ≡ cond (not (begins p e.0)) (e ∷ outside p es) (outside p es)
    by true is later = ap (outside p) (cond-false _ _ _ (ap not is)) ∙ later ∙ sym (cond-false _ _ _ (ap not (begins-trans p q e.0 in_p is)))
    by false is later = ap (outside p) (cond-true _ _ _ (ap not is)) ∙ ap (λ (l : Entries). cond (not (begins p e.0)) (e ∷ l) l) later

pub names_outside : (k : ℕ) (p : Names) (es : Entries) → name_count k (inside p es) + name_count k (outside p es) ≡ name_count k es
names_outside k p es = sum_by-filter (λ n. cond (has_number k n) 1 0) (λ e. begins p e.0) es

-- an element that the test refuses may go before
filter_removed : (f : ℕ × Body → Bool) (test : ℕ → Bool) (bs : Bodies) → ((b : ℕ × Body) → test b.0 ≡ true → f b ≡ false) → filter f (remove_entry test bs) ≡ filter f bs
filter_removed f test [] never = refl
filter_removed f test (b ∷ bs) never = by (test b.0) refl (filter_removed f test bs never)
  where
    by : (c : Bool) → test b.0 ≡ c → filter f (remove_entry test bs) ≡ filter f bs → filter f (cond (test b.0) bs (b ∷ remove_entry test bs)) ≡ cond (f b) (b ∷ filter f bs) (filter f bs)
    by true is later = ap (filter f) (cond-true _ _ _ is) ∙ sym (cond-false _ _ _ (never b is))
    by false is later = ap (filter f) (cond-false _ _ _ is) ∙ ap (λ (l : Bodies). cond (f b) (b ∷ l) l) later

pub filter_all : {X : Type 0} (f : X → Bool) (xs : List X) → AllByRecursion (λ x. f x ≡ true) xs → filter f xs ≡ xs
filter_all f [] a = refl
filter_all f (x ∷ xs) a = cond-true _ _ _ a.0 ∙ ap (λ l. x ∷ l) (filter_all f xs a.1)

named_removed : (o : Option ℕ) (es fs : Entries) (bs : Bodies) → ((k : ℕ) → name_count k fs ≤ name_count k es) → bodies_named fs (bodies_without o es bs) ≡ bodies_named fs bs
named_removed None es fs bs fewer = refl
named_removed (Some k) es fs bs fewer = by (name_count k es == 0) refl
  where
    by : (c : Bool) → (name_count k es == 0) ≡ c → bodies_named fs (cond c (remove_entry (is_at (nat_cmp k)) bs) bs) ≡ bodies_named fs bs
    by false none = refl
    by true none =
        filter_removed (λ b. not (name_count b.0 fs == 0)) (is_at (nat_cmp k)) bs
        (λ b here.
        let same : k ≡ b.0 = same_from nat_cmp_total nat_cmp-IsAntisymmetric k b.0 here in
        let zero_names : name_count k es ≡ 0 = grind (arith, nat_tests) in
        let gone : name_count k fs ≡ 0 = omega (arith, fewer k, zero_names) in
        ap (λ (j : ℕ). not (name_count j fs == 0)) (sym same) ∙ ap (λ (n : ℕ). not (n == 0)) gone)

-- ---- a step

module _ (t : Tree) (ok : IsLayer t) (p q : Names) (k : Names) (ks : List Names) (is : keys_of (inside p t.entries) ≡ (k ∷ ks) ++ q ∷ []) where
  sorted_inside : IsStrictlySortedBy path_cmp (keys_of (inside p t.entries))
  sorted_inside = sorted-filter path_cmp (λ e. begins p e.0) t.entries ok.sorted_paths

  before : AllByRecursion (λ x. path_cmp x q ≡ Less) (k ∷ ks)
  before = below_last (k ∷ ks) q (subst (IsStrictlySortedBy path_cmp) is sorted_inside)

  at_inside : (x : Names) → lookup (is_at (path_cmp x)) (inside p t.entries) ≡ cond (begins p x) (at t x) None
  at_inside x = lookup-filter path_cmp_total path_cmp-IsAntisymmetric (begins p) x t.entries

  found_in : (es : Entries) (x : Names) → AllByRecursion (λ (e : Names × Node). lookup (is_at (path_cmp e.0)) (inside p t.entries) ≡ Some e.1) es → AllByRecursion (λ (y : Names). IsSome (lookup (is_at (path_cmp y)) (inside p t.entries))) (keys_of es)
  found_in [] x a = tt
  found_in (e ∷ es) x a = (ap is_some a.0, found_in es x a.1)

  found_last : IsSome (lookup (is_at (path_cmp q)) (inside p t.entries))
  found_last =
      all_last (λ (y : Names). IsSome (lookup (is_at (path_cmp y)) (inside p t.entries))) (k ∷ ks) q
      (subst (λ (l : List Names). AllByRecursion (λ (y : Names). IsSome (lookup (is_at (path_cmp y)) (inside p t.entries))) l) is
      (found_in (inside p t.entries) q (found_each path_cmp_total (inside p t.entries) sorted_inside)))

  found_first : IsSome (lookup (is_at (path_cmp k)) (inside p t.entries))
  found_first =
      (subst (λ (l : List Names). AllByRecursion (λ (y : Names). IsSome (lookup (is_at (path_cmp y)) (inside p t.entries))) l) is
      (found_in (inside p t.entries) q (found_each path_cmp_total (inside p t.entries) sorted_inside))).0

  both_in : (x : Names) → IsSome (lookup (is_at (path_cmp x)) (inside p t.entries)) → (begins p x ≡ true) × IsSome (at t x)
  both_in x some = by (begins p x) refl
    where
      by : (b : Bool) → begins p x ≡ b → (begins p x ≡ true) × IsSome (at t x)
      by true e = (e, subst IsSome (at_inside x ∙ ap (λ c. cond c (at t x) None) e) some)
      by false e = absurd (gone (lookup (is_at (path_cmp x)) (inside p t.entries)) some (at_inside x ∙ ap (λ c. cond c (at t x) None) e))

  within : begins p q ≡ true
  within = (both_in q found_last).0

  -- the first begins with the path, so it comes no later than the path's own place: q is not the path
  not_path : begins q p ≡ false
  not_path = elim (split_front q p) [
    | inr out ↦ out.0
    | inl front ↦ absurd (no_bool (sym (begins-trans q p k front.0 (both_in k found_first).0) ∙ not_within q k before.0))
  ]

  clear : (n : List ℕ) → at t (q ++ n ∷ []) ≡ None
  clear n =
      sym (cond-true (begins p (q ++ n ∷ [])) (at t (q ++ n ∷ [])) None (begins-trans p q (q ++ n ∷ []) within (begins_from q (q ++ n ∷ []) (n ∷ []) refl)))
      ∙ sym (at_inside (q ++ n ∷ []))
      ∙ past_last q n [] (inside p t.entries) (k ∷ ks) is before

  pub step_takeable : IsTakeable t q
  step_takeable = record {
    there = (both_in q found_last).1;
    clear = λ n. subst IsFree (sym (clear n)) tt;
    below_root = λ e. no_bool (sym (begins_from q p p (ap (λ (x : Names). x ++ p) (sym e))) ∙ not_path);
  }

  pub step_paths : keys_of (inside p (without t q).entries) ≡ k ∷ ks
  step_paths = ap (λ (l : Entries). keys_of l) (filter_swap (λ e. begins p e.0) (λ e. not (begins q e.0)) t.entries) ∙ without_last q (inside p t.entries) (k ∷ ks) is before

  pub step_same : at (without t q) p ≡ at t p
  step_same = at-without_outside t q p not_path

  pub step_rest : without_tree (without t q) p ≡ without_tree t p
  step_rest =
      let entries : outside p (outside q t.entries) ≡ outside p t.entries = outside_twice p q within t.entries in
      let fewer : (j : ℕ) → name_count j (outside p (outside q t.entries)) ≤ name_count j (outside q t.entries) = λ j. omega (arith, names_outside j p (outside q t.entries)) in
      let bodies : bodies_named (outside p (outside q t.entries)) (bodies_without (number_at t q) (outside q t.entries) t.bodies) ≡ bodies_named (outside p t.entries) t.bodies =
      named_removed (number_at t q) (outside q t.entries) (outside p (outside q t.entries)) t.bodies fewer
      ∙ ap (λ (es : Entries). bodies_named es t.bodies) entries in
      λ i. record t { entries = entries i; bodies = bodies i }

-- what is so once the last of several paths is taken
pub record Step (t : Tree) (p q : Names) (ks : List Names) : Type 0 where
  pub takeable : IsTakeable t q
  pub paths : keys_of (inside p (without t q).entries) ≡ ks
  pub same : at (without t q) p ≡ at t p
  pub rest : without_tree (without t q) p ≡ without_tree t p
  pub layer : IsLayer (without t q)

pub last_step : (t : Tree) → IsLayer t → (p q : Names) (ks : List Names) → keys_of (inside p t.entries) ≡ ks ++ q ∷ [] → 1 < length (ks ++ q ∷ []) → Step t p q ks
last_step t ok p q [] is many = absurd (omega (arith, many))
last_step t ok p q (k ∷ ks) is many =
    let takeable = step_takeable t ok p q k ks is in
    record {
      takeable = takeable;
      paths = step_paths t ok p q k ks is;
      same = step_same t ok p q k ks is;
      rest = step_rest t ok p q k ks is;
      layer = IsLayer-without t q ok takeable.clear takeable.below_root;
    }

-- ---- where no name stands below the path

module _ (t : Tree) (p : Names) (sorted : IsStrictlySortedBy nat_cmp (keys_of t.bodies)) (named : (k : ℕ) → IsSome (body t k) → (q : Names) × (number_at t q ≡ Some k)) (bare : (n : List ℕ) (r : Names) → number_at t (p ++ n ∷ r) ≡ None) where
  only_name : (k : ℕ) → IsSome (body t k) → name_count k (outside p t.entries) ≡ 0 → number_at t p ≡ Some k
  only_name k some none =
      let had = named k some in
      elim (split_front p had.0) [
        | inr out ↦
            let node = node_with_number (at t had.0) k had.1 in
            absurd (no_name_at k had.0 (outside p t.entries) node.0 none (at-without_outside t p had.0 out.0 ∙ node.1) node.2)
        | inl front ↦ by front.1 (ap (number_at t) (sym front.2) ∙ had.1)
      ]
    where
      by : (r : Names) → number_at t (p ++ r) ≡ Some k → number_at t p ≡ Some k
      by [] e = ap (number_at t) (sym (append-nil p)) ∙ e
      by (n ∷ r) e = absurd (none_some (sym (bare n r) ∙ e))

  stays : (j : ℕ) (o : Option ℕ) → (name_count j (outside p t.entries) == 0) ≡ false → is_dropped o (outside p t.entries) j ≡ false
  stays j None left = refl
  stays j (Some k) left = elim (split_number j k) [
    | inl same ↦ ap (λ (i : ℕ). (name_count i (outside p t.entries) == 0) && is_at (nat_cmp j) i) (sym same.0) ∙ ap (λ b. b && is_at (nat_cmp j) j) left
    | inr apart ↦ ap (λ b. (name_count k (outside p t.entries) == 0) && b) apart.1 ∙ no_and (name_count k (outside p t.entries) == 0)
  ]
    where
      no_and : (b : Bool) → (b && false) ≡ false
      no_and true = refl
      no_and false = refl

  goes : (j : ℕ) → number_at t p ≡ Some j → (name_count j (outside p t.entries) == 0) ≡ true → is_dropped (number_at t p) (outside p t.entries) j ≡ true
  goes j is none = ap (λ o. is_dropped o (outside p t.entries) j) is ∙ ap (λ b. b && is_at (nat_cmp j) j) none ∙ at_itself nat_cmp_total nat_cmp-IsAntisymmetric j

  found : (j : ℕ) → lookup (is_at (nat_cmp j)) (bodies_without (number_at t p) (outside p t.entries) t.bodies) ≡ lookup (is_at (nat_cmp j)) (bodies_named (outside p t.entries) t.bodies)
  found j =
      body-bodies_without (number_at t p) (outside p t.entries) t.bodies j sorted
      ∙ by (body t j) refl
      ∙ sym (lookup-filter nat_cmp_total nat_cmp-IsAntisymmetric (λ k. not (name_count k (outside p t.entries) == 0)) j t.bodies)
    where
      nothing : (b c : Bool) → ◌≡◌ {A = Option Body} (cond b None None) (cond c None None)
      nothing true true = refl
      nothing true false = refl
      nothing false true = refl
      nothing false false = refl

      by : (o : Option Body) → body t j ≡ o → cond (is_dropped (number_at t p) (outside p t.entries) j) None (body t j) ≡ cond (not (name_count j (outside p t.entries) == 0)) (body t j) None
      by None e =
          ap (λ o. cond (is_dropped (number_at t p) (outside p t.entries) j) None o) e
          ∙ nothing (is_dropped (number_at t p) (outside p t.entries) j) (not (name_count j (outside p t.entries) == 0))
          ∙ sym (ap (λ o. cond (not (name_count j (outside p t.entries) == 0)) o None) e)
      by (Some b) e = test (name_count j (outside p t.entries) == 0) refl
        where
          test : (c : Bool) → (name_count j (outside p t.entries) == 0) ≡ c → cond (is_dropped (number_at t p) (outside p t.entries) j) None (body t j) ≡ cond (not (name_count j (outside p t.entries) == 0)) (body t j) None
          test true f =
              cond-true _ None (body t j) (goes j (only_name j (ap is_some e) (grind (arith, nat_tests))) f)
              ∙ sym (cond-false _ (body t j) None (ap not f))
          test false f =
              cond-false _ None (body t j) (stays j (number_at t p) f)
              ∙ sym (cond-true _ (body t j) None (ap not f))

  pub tree_is_name : without t p ≡ without_tree t p
  tree_is_name =
      let bodies : bodies_without (number_at t p) (outside p t.entries) t.bodies ≡ bodies_named (outside p t.entries) t.bodies =
      same_lists nat_cmp_total nat_cmp-IsAntisymmetric _ _
      (sorted-bodies_without (number_at t p) (outside p t.entries) t.bodies sorted)
      (sorted-filter nat_cmp (λ (b : ℕ × Body). not (name_count b.0 (outside p t.entries) == 0)) t.bodies sorted)
      found in
      λ i. record t { entries = outside p t.entries; bodies = bodies i }

-- ---- the directory alone

pub alone_paths : (t : Tree) (p : Names) → IsDirAt (at t p) → length (keys_of (inside p t.entries)) ≤ 1 → keys_of (inside p t.entries) ≡ p ∷ []
alone_paths t p dir few = by (inside p t.entries) (subst IsSome (sym here) (some (at t p) dir)) few
  where
    here : lookup (is_at (path_cmp p)) (inside p t.entries) ≡ at t p
    here = lookup-filter path_cmp_total path_cmp-IsAntisymmetric (begins p) p t.entries ∙ cond-true (begins p p) (at t p) None (begins_itself p)

    some : (o : Option Node) → IsDirAt o → IsSome o
    some None d = absurd d
    some (Some n) d = refl

    by : (es : Entries) → IsSome (lookup (is_at (path_cmp p)) es) → length (keys_of es) ≤ 1 → keys_of es ≡ p ∷ []
    by [] there few = absurd (cc)
    by (e ∷ []) there few = one (is_at (path_cmp p) e.0) refl there
      where
        one : (b : Bool) → is_at (path_cmp p) e.0 ≡ b → IsSome (cond b (Some e.1) None) → e.0 ∷ [] ≡ p ∷ []
        one true is there = ap (λ (q : Names). q ∷ []) (sym (same_from path_cmp_total path_cmp-IsAntisymmetric p e.0 is))
        one false is there = absurd (cc)
    by (e ∷ f ∷ es) there few = absurd (omega (arith, few))

module _ (t : Tree) (ok : IsLayer t) (p : Names) (dir : IsDirAt (at t p)) (is : keys_of (inside p t.entries) ≡ p ∷ []) where
  only : (n : List ℕ) (r : Names) → at t (p ++ n ∷ r) ≡ None
  only n r =
      sym (cond-true (begins p (p ++ n ∷ r)) (at t (p ++ n ∷ r)) None (begins_from p (p ++ n ∷ r) (n ∷ r) refl))
      ∙ sym (lookup-filter path_cmp_total path_cmp-IsAntisymmetric (begins p) (p ++ n ∷ r) t.entries)
      ∙ past_last p n r (inside p t.entries) [] is tt

  pub alone_without : without t p ≡ without_tree t p
  alone_without = tree_is_name t p ok.sorted_numbers ok.named (λ n r. ap (option_and_then number_of) (only n r))

  some : IsSome (at t p)
  some = by (at t p) dir
    where
      by : (o : Option Node) → IsDirAt o → IsSome o
      by None d = absurd d
      by (Some n) d = refl

  pub alone_takeable : (p ≡ [] → ⊥) → IsTakeable t p
  alone_takeable root = record { there = some; clear = λ n. subst IsFree (sym (only n [])) tt; below_root = root }

  pub alone_place : (p ≡ [] → ⊥) → HasPlace t p
  alone_place root = record {
    clear = λ n. subst IsFree (sym (only n [])) tt;
    above = record { below_root = root; parent = λ q n e. ok.parents q n (subst (λ (x : Names). IsSome (at t x)) e some) };
  }
