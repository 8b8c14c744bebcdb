-- What one layer shares in a directory, and what is told of a name.
use Rattle.std.proofs.Common.{◌≡◌, ℕ, ◌+◌, ◌≤◌, Bool, true, false, not, cond, List, [], ◌∷◌, ◌++◌, length, take, Option, Some, None, refl, sym, ap, subst, ◌∙◌, arith}
use Rattle.std.specs.Prelude.{◌||◌, ◌&&◌, is_some, MatchOption, IsTrue, ◌↔◌, nat_lt}
use Rattle.std.proofs.lemmas.Bool.Decides.{nat_tests}
use Rattle.std.specs.declared.cmp.Ordering.{Ordering}
use Rattle.std.specs.declared.cmp.Ordering.TheVariants.{Less, Equal, Greater}
use Rattle.std.specs.Ordering.{is_eq, ordering_reverse}
use Rattle.std.specs.Cmp.{unsigned_Decides}
use Rattle.std.specs.Cmp.Lexicographic.{pointwise_decides, nat_list_cmp_total, texts_ties}
use Rattle.std.specs.BTreeMap.{is_at}
use Rattle.std.specs.BTreeSet.{insert_key}
use Rattle.std.specs.List.{list_any, AllByRecursion}
use Rattle.std.specs.List.Sorted.{IsStrictlySortedBy}
use Rattle.std.specs.Str.{bytes_eq}
use Rattle.std.proofs.lemmas.List.{take_all, take-append-le, length-append}
use Rattle.snap_path.specs.Text.{Names}
use Rattle.snap_layer.specs.declared.node.Node.{Node}
use Rattle.snap_layer.specs.declared.node.Node.TheVariants.{Dir, File, Symlink, Whiteout}
use Rattle.snap_layer.specs.declared.node.Body.{Body}
use Rattle.snap_layer.specs.declared.node.Body.TheVariants as body_kinds
use Rattle.snap_layer.specs.Tree.{Tree, at, body, hides, node_hides, is_whiteout, names_below, IsDirAt}
use Rattle.snap_layer.specs.Layers.{IsLayer, IsWhole, IsFile, IsSymlink}
use Rattle.snap_layer.specs.Directory.{Directory}
use Rattle.snap_layer.proofs.Laws.{names_below_are}
use Rattle.snap_layer.proofs.Kept.{nothing_below}
use Rattle.snap_merge.specs.Objects.{Object, seen, seen_over, shown, shown_body}
use Rattle.snap_merge.specs.Reach.{Traced}
use Rattle.snap_merge.specs.Listing.{names}
use Rattle.snap_layer.specs.Rows.{name_cmp}
use Rattle.snap_merge.specs.Shares.{has, seen_so_far, is_there, is_shown, Shares}
use Rattle.snap_merge.proofs.Hiding.{hides_snoc}
use Rattle.snap_merge.proofs.Reaching.{hides_covered, hides_stop, much_longer}
use Rattle.snap_merge.proofs.Listings.{has_insert_key, same_bytes, its_bytes, listing_is}

or_true : (b : Bool) → (b || true) ≡ true
or_true true = refl
or_true false = refl

or_false : (b : Bool) → (b || false) ≡ b
or_false true = refl
or_false false = refl

and_false : (b : Bool) → (b && false) ≡ false
and_false true = refl
and_false false = refl

no_bool : true ≡ false → ⊥
no_bool e = cc

-- ---- one name

-- a set's test is that of the bytes
contains_is : (m : List ℕ) (ns : Names) → list_any (is_at (name_cmp m)) ns ≡ has m ns
contains_is m [] = refl
contains_is m (x ∷ ns) = ap (λ b. b || list_any (is_at (name_cmp m)) ns) (sym (texts_ties m x)) ∙ ap (λ b. bytes_eq m x || b) (contains_is m ns)

has_at : (n m : List ℕ) (ns : Names) (b : Bool) → bytes_eq n m ≡ true → list_any (is_at (name_cmp m)) ns ≡ b → has n ns ≡ b
has_at n m ns b e is = ap (λ (k : List ℕ). has k ns) (same_bytes n m e) ∙ sym (contains_is m ns) ∙ is

module _ (m : List ℕ) (shown gone : Names) (b : Bool) where
  pub put_shown : b ≡ true → false ≡ list_any (is_at (name_cmp m)) gone → (n : List ℕ) (under : Bool) → seen_so_far (insert_key name_cmp shown m) gone n under ≡ seen_so_far shown gone n (cond (bytes_eq n m) b under)
  put_shown is absent n under = ap (λ x. x || (not (has n gone) && under)) (has_insert_key n shown m) ∙ by (bytes_eq n m) refl
    where
      by : (e : Bool) → bytes_eq n m ≡ e → ((e || has n shown) || (not (has n gone) && under)) ≡ (has n shown || (not (has n gone) && cond e b under))
      by true p = sym (ap (λ g. has n shown || (not g && b)) (has_at n m gone false p (sym absent)) ∙ ap (λ x. has n shown || x) is ∙ or_true (has n shown))
      by false p = refl

  pub put_covered : true ≡ list_any (is_at (name_cmp m)) gone → (n : List ℕ) (under : Bool) → seen_so_far shown gone n under ≡ seen_so_far shown gone n (cond (bytes_eq n m) b under)
  put_covered there n under = by (bytes_eq n m) refl
    where
      by : (e : Bool) → bytes_eq n m ≡ e → (has n shown || (not (has n gone) && under)) ≡ (has n shown || (not (has n gone) && cond e b under))
      by true p = let g = has_at n m gone true p (sym there) in ap (λ g. has n shown || (not g && under)) g ∙ sym (ap (λ g. has n shown || (not g && b)) g)
      by false p = refl

  pub put_gone : b ≡ false → (n : List ℕ) (under : Bool) → seen_so_far shown (insert_key name_cmp gone m) n under ≡ seen_so_far shown gone n (cond (bytes_eq n m) b under)
  put_gone is n under = ap (λ x. has n shown || (not x && under)) (has_insert_key n gone m) ∙ by (bytes_eq n m)
    where
      by : (e : Bool) → (has n shown || (not (e || has n gone) && under)) ≡ (has n shown || (not (has n gone) && cond e b under))
      by true = sym (ap (λ x. has n shown || (not (has n gone) && x)) is ∙ ap (λ x. has n shown || x) (and_false (not (has n gone))))
      by false = refl

  pub put_kept : true ≡ list_any (is_at (name_cmp m)) shown → (n : List ℕ) (under : Bool) → seen_so_far shown gone n under ≡ seen_so_far shown gone n (cond (bytes_eq n m) b under)
  put_kept there n under = by (bytes_eq n m) refl
    where
      by : (e : Bool) → bytes_eq n m ≡ e → (has n shown || (not (has n gone) && under)) ≡ (has n shown || (not (has n gone) && cond e b under))
      by true p = let g = has_at n m shown true p (sym there) in ap (λ g. g || (not (has n gone) && under)) g ∙ sym (ap (λ g. g || (not (has n gone) && b)) g)
      by false p = refl

-- ---- the names of one directory

-- one name, and then those that are left
pub one_more : (d : Directory) (m : List ℕ) (rest : Names) (b : Bool) → b ≡ is_shown d m → (n : List ℕ) (under : Bool) → cond (bytes_eq n m) b (cond (has n rest) (is_shown d n) under) ≡ cond (has n (m ∷ rest)) (is_shown d n) under
one_more d m rest b is n under = by (bytes_eq n m) refl
  where
    by : (e : Bool) → bytes_eq n m ≡ e → cond e b (cond (has n rest) (is_shown d n) under) ≡ cond (e || has n rest) (is_shown d n) under
    by true p = is ∙ ap (is_shown d) (sym (same_bytes n m p))
    by false p = refl

-- ---- one layer

module _ (t : Tree) (p : Names) (ok : IsLayer t) (m : ℕ) (node : Option Node) (covered : Bool) (traced : Traced t p m node covered) (h : Bool) (covers : h ≡ node_hides node) where
  pub hiding_whole : m ≡ length p + 1 → (n : List ℕ) → hides t (p ++ n ∷ []) ≡ (covered || h)
  hiding_whole same n =
      let whole : take m p ≡ p = take_all m p (omega arith) in
      hides_snoc t n p []
      ∙ ap (λ (q : Names). hides t q || node_hides (at t q)) (sym whole)
      ∙ ap (λ b. b || node_hides (at t (take m p))) (sym traced.hidden)
      ∙ ap (λ b. covered || b) (ap node_hides traced.end ∙ sym covers)

  module _ (within : m ≤ length p) (n : List ℕ) where
    abbrev q : Names
    q = p ++ n ∷ []

    front : (j : ℕ) → j ≤ m → take j q ≡ take j p
    front j le = take-append-le j p (n ∷ []) (omega arith)

    further : length q ≡ length p + 1
    further = length-append p (n ∷ [])

    traced_on : Traced t q m node covered
    traced_on = record {
      dirs = λ j lt. subst (λ (x : Names). IsDirAt (at t x)) (sym (front j (omega arith))) (traced.dirs j lt);
      end = ap (at t) (front m (omega arith)) ∙ traced.end;
      stops = λ le. traced.stops within;
      hidden = traced.hidden ∙ ap (hides t) (sym (front m (omega arith)));
    }

    pub hiding_short : hides t q ≡ (covered || h)
    hiding_short = by covered refl
      where
        by : (b : Bool) → covered ≡ b → hides t q ≡ (b || h)
        by true is = sym (hides_covered t q ok m node covered traced_on is)
        by false is = sym (covers ∙ hides_stop t q ok m node covered traced_on is (omega (arith, further)))

    pub none_short : at t q ≡ None
    none_short =
        let split = much_longer m (length q) q (omega (arith, further)) (omega arith) in
        ap (at t) (sym (take_all (length q) q (omega arith)) ∙ split.2)
        ∙ nothing_below t ok (take m q) (λ d. traced.stops within (subst IsDirAt traced_on.end d)) split.0 split.1

-- what the walk of the layer says of the directory
pub shares : (t : Tree) (p : Names) → IsLayer t → (m : ℕ) (node : Option Node) (covered : Bool) → Traced t p m node covered → (h : Bool) → h ≡ node_hides node → (d : Option Directory)
    → MatchOption d (m ≤ length p) (λ x. (x ≡ record { layer = t; path = p }) × (m ≡ length p + 1)) → Shares t p d (covered || h)
shares t p ok m node covered traced h covers None within = record {
  dir = none_short t p ok m node covered traced h covers within;
  hiding = hiding_short t p ok m node covered traced h covers within;
}
shares t p ok m node covered traced h covers (Some d) there = record {
  dir = there.0;
  hiding = hiding_whole t p ok m node covered traced h covers there.1;
}

file_there : (o : Option Body) → IsFile o → is_some (shown_body o) ≡ true
file_there None w = absurd w
file_there (Some (body_kinds.File m x)) w = refl
file_there (Some (body_kinds.Symlink x)) w = refl

symlink_there : (o : Option Body) → IsSymlink o → is_some (shown_body o) ≡ true
symlink_there None w = absurd w
symlink_there (Some (body_kinds.File m x)) w = refl
symlink_there (Some (body_kinds.Symlink x)) w = refl

whole_shown : (t : Tree) (v : Node) → IsWhole t v → is_some (shown t v) ≡ not (is_whiteout v)
whole_shown t (Dir m b) w = refl
whole_shown t (File k) w = file_there (body t k) w
whole_shown t (Symlink k) w = symlink_there (body t k) w
whole_shown t Whiteout w = refl

-- whether something is seen: what the layer has there decides, and without it what is below, where the layer doesn't hide it
pub over_told : (t : Tree) → IsLayer t → (q : Names) (h : Bool) → hides t q ≡ h → (under : Option Object) → is_some (seen_over t (at t q) q under) ≡ cond (is_some (at t q)) (is_there (at t q)) (not h && is_some under)
over_told t ok q h is under = by (at t q) refl
  where
    open_at : (b : Bool) → is_some (cond b None under) ≡ (not b && is_some under)
    open_at true = refl
    open_at false = refl

    by : (o : Option Node) → at t q ≡ o → is_some (seen_over t o q under) ≡ cond (is_some o) (is_there o) (not h && is_some under)
    by None e = open_at (hides t q) ∙ ap (λ b. not b && is_some under) is
    by (Some v) e = whole_shown t v (ok.nodes q v e)

pub over_none : (t : Tree) → IsLayer t → (q : Names) (h : Bool) → hides t q ≡ h → at t q ≡ None → (under : Option Object) → is_some (seen_over t (at t q) q under) ≡ (not h && is_some under)
over_none t ok q h is none under = over_told t ok q h is under ∙ ap (λ (o : Option Node). cond (is_some o) (is_there o) (not h && is_some under)) none

-- the names that the layer has in the directory, over what is below
pub layer_told : (t : Tree) → IsLayer t → (p ns : Names) (d : Directory) (h : Bool) → ◌≡◌ {A = Directory} d (record { layer = t; path = p }) → ns ≡ names_below p t.entries → (n : List ℕ) → hides t (p ++ n ∷ []) ≡ h → (under : Option Object)
    → cond (has n ns) (is_shown d n) (not h && is_some under) ≡ is_some (seen_over t (at t (p ++ n ∷ [])) (p ++ n ∷ []) under)
layer_told t ok p ns d h spot all n is under =
    ap (λ (x : Names). cond (has n x) (is_shown d n) (not h && is_some under)) all
    ∙ ap (λ b. cond b (is_shown d n) (not h && is_some under)) (names_below_are t p n)
    ∙ ap (λ (x : Directory). cond (is_some (at t (p ++ n ∷ []))) (is_shown x n) (not h && is_some under)) spot
    ∙ sym (over_told t ok (p ++ n ∷ []) h is under)

-- nothing is below
pub told_last : (shown gone : Names) (n : List ℕ) → seen_so_far shown gone n false ≡ has n shown
told_last shown gone n = ap (λ b. has n shown || b) (and_false (not (has n gone))) ∙ or_false (has n shown)

pub shares_some : (t : Tree) (p : Names) (o : Option Directory) (h : Bool) → Shares t p o h → (d : Directory) → o ≡ Some d → ◌≡◌ {A = Directory} d (record { layer = t; path = p })
shares_some t p o h share d is = subst (λ (x : Option Directory). MatchOption x ((n : List ℕ) → at t (p ++ n ∷ []) ≡ None) (λ y. y ≡ record { layer = t; path = p })) is share.dir

pub shares_none : (t : Tree) (p : Names) (o : Option Directory) (h : Bool) → Shares t p o h → o ≡ None → (n : List ℕ) → at t (p ++ n ∷ []) ≡ None
shares_none t p o h share is = subst (λ (x : Option Directory). MatchOption x ((n : List ℕ) → at t (p ++ n ∷ []) ≡ None) (λ y. y ≡ record { layer = t; path = p })) is share.dir

pub nil_of : (xs : Names) → length xs ≡ 0 → xs ≡ []
nil_of [] e = refl
nil_of (x ∷ xs) e = absurd (omega (arith, e))

-- where the layers below are gone through or not
pub none_left : (ts : List Tree) (p : Names) (n : List ℕ) → ts ≡ [] → is_some (seen ts (p ++ n ∷ [])) ≡ false
none_left ts p n e = ap (λ (us : List Tree). is_some (seen us (p ++ n ∷ []))) e

-- ---- two lists in order with the same names

below_all : (x : List ℕ) (ys : Names) → AllByRecursion (λ y. name_cmp x y ≡ Less) ys → has x ys ≡ false
below_all x [] a = refl
below_all x (y ∷ ys) a = ap (λ b. b || has x ys) (texts_ties x y ∙ ap is_eq a.0) ∙ below_all x ys a.1

below_more : (x y : List ℕ) (ys : Names) → name_cmp x y ≡ Less → AllByRecursion (λ z. name_cmp y z ≡ Less) ys → AllByRecursion (λ z. name_cmp x z ≡ Less) ys
below_more x y [] e a = tt
below_more x y (z ∷ ys) e a = (nat_list_cmp_total.trans x y z e a.0, below_more x y ys e a.1)

has_first : (x : List ℕ) (xs : Names) → has x (x ∷ xs) ≡ true
has_first x xs = ap (λ b. b || has x xs) (its_bytes x)

pub same_names : (xs ys : Names) → IsStrictlySortedBy name_cmp xs → IsStrictlySortedBy name_cmp ys → ((n : List ℕ) → has n xs ≡ has n ys) → xs ≡ ys
unfolding IsStrictlySortedBy
same_names [] [] r s same = refl
same_names [] (y ∷ ys) r s same = absurd (no_bool (sym (has_first y ys) ∙ sym (same y)))
same_names (x ∷ xs) [] r s same = absurd (no_bool (sym (has_first x xs) ∙ same x))
same_names (x ∷ xs) (y ∷ ys) r s same = by (same_names xs ys r.1 s.1) (name_cmp x y) refl
  where
    rest : x ≡ y → (n : List ℕ) → has n xs ≡ has n ys
    rest e n = step (bytes_eq n x) refl
      where
        step : (b : Bool) → bytes_eq n x ≡ b → has n xs ≡ has n ys
        step true p =
            ap (λ (k : List ℕ). has k xs) (same_bytes n x p) ∙ below_all x xs r.0
            ∙ sym (ap (λ (k : List ℕ). has k ys) (same_bytes n x p ∙ e) ∙ below_all y ys s.0)
        step false p =
            ap (λ b. b || has n xs) (sym p) ∙ same n ∙ ap (λ b. b || has n ys) (ap (bytes_eq n) (sym e) ∙ p)

    by : (((n : List ℕ) → has n xs ≡ has n ys) → xs ≡ ys) → (o : Ordering) → name_cmp x y ≡ o → x ∷ xs ≡ y ∷ ys
    by later Less p = absurd (no_bool (sym (has_first x xs) ∙ same x ∙ below_all x (y ∷ ys) (p, below_more x y ys p s.0)))
    by later Equal p =
        let e : x ≡ y = (pointwise_decides unsigned_Decides x y).0 (texts_ties x y ∙ ap is_eq p) in
        ap (λ (z : List ℕ). z ∷ xs) e ∙ ap (λ (zs : Names). y ∷ zs) (later (rest e))
    by later Greater p =
        let q : name_cmp y x ≡ Less = nat_list_cmp_total.antisymm y x ∙ ap ordering_reverse p in
        absurd (no_bool (sym (has_first y ys) ∙ sym (same y) ∙ below_all y (x ∷ xs) (q, below_more y x xs q r.0)))

-- ---- whether there is a name

some_length : (x : List ℕ) (xs : Names) → nat_lt 0 (length (x ∷ xs)) ≡ true
some_length x xs = grind (arith, nat_tests)

pub empty_of : (b : Bool) (ks : Names) → (IsTrue b ↔ (length ks ≡ 0)) → not b ≡ nat_lt 0 (length ks)
empty_of true ks e = sym (ap (nat_lt 0) (e.0 refl))
empty_of false [] e = absurd (no_bool (sym (e.1 refl)))
empty_of false (x ∷ ks) e = sym (some_length x ks)

pub told_some : (shown gone : Names) (n : List ℕ) (under : Bool) → has n shown ≡ true → seen_so_far shown gone n under ≡ true
told_some shown gone n under e = ap (λ b. b || (not (has n gone) && under)) e

length_of : (n : List ℕ) (ns : Names) → has n ns ≡ true → nat_lt 0 (length ns) ≡ true
length_of n [] e = absurd (no_bool (sym e))
length_of n (x ∷ ns) e = some_length x ns

no_length : (ns : Names) → ((n : List ℕ) → has n ns ≡ false) → nat_lt 0 (length ns) ≡ false
no_length [] f = refl
no_length (x ∷ ns) f = absurd (no_bool (sym (has_first x ns) ∙ f x))

pub any_some : (ks : Names) (s : List Tree) (p : Names) → nat_lt 0 (length ks) ≡ true → ((n : List ℕ) → has n ks ≡ true → is_some (seen s (p ++ n ∷ [])) ≡ true) → nat_lt 0 (length (names s p)) ≡ true
any_some [] s p e some = absurd (no_bool (sym e))
any_some (x ∷ ks) s p e some = length_of x (names s p) ((listing_is s p).exactly x ∙ some x (has_first x ks))

pub any_names : (ks : Names) (s : List Tree) (p : Names) → ((n : List ℕ) → has n ks ≡ true → is_some (seen s (p ++ n ∷ [])) ≡ true) → (ks ≡ [] → (n : List ℕ) → is_some (seen s (p ++ n ∷ [])) ≡ false) → nat_lt 0 (length ks) ≡ nat_lt 0 (length (names s p))
any_names [] s p some none = sym (no_length (names s p) (λ n. (listing_is s p).exactly n ∙ none refl n))
any_names (x ∷ ks) s p some none = some_length x ks ∙ sym (any_some (x ∷ ks) s p (some_length x ks) some)
