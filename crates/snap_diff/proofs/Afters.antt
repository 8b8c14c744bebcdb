-- Where a page begins, as it is told at a path: what is left of the path that it begins after.
use Rattle.std.proofs.Common.{◌≡◌, ℕ, zero, suc, true, false, cond, List, [], ◌∷◌, ◌++◌, length, Option, Some, None, refl, sym, ap, subst, ◌∙◌, append-nil, append_assoc}
use Rattle.std.specs.Prelude.{◌&&◌, nat_lt}
use Rattle.std.specs.declared.cmp.Ordering.{Ordering}
use Rattle.std.specs.declared.cmp.Ordering.TheVariants.{Less, Equal, Greater}
use Rattle.std.specs.Ordering.{is_eq, is_lt, match_ordering, ordering_reverse, ordering_then}
use Rattle.std.specs.Cmp.{unsigned_Decides}
use Rattle.std.specs.Cmp.Lexicographic.{nat_list_cmp_total, pointwise_decides, texts_ties}
use Rattle.std.specs.List.{flat_map, slice_get}
use Rattle.std.specs.declared.ops.Bound.TheVariants.{Unbounded}
use Rattle.snap_path.specs.Text.{Names}
use Rattle.snap_layer.specs.Tree.{Tree, path_cmp}
use Rattle.snap_layer.specs.Rows.{name_cmp}
use Rattle.snap_layer.proofs.Inside.{cmp_front}
use Rattle.snap_layer.proofs.Paths.{begins-append}
use Rattle.snap_merge.specs.Objects.{Object, dir, file, symlink, seen}
use Rattle.snap_diff.specs.declared.change.ChangeKind.{ChangeKind}
use Rattle.snap_diff.specs.declared.change.Change.{Change}
use Rattle.snap_diff.specs.Changes.{bound_at, both_names, changes_below, if_directory, layer_change, page_start, put_rows, told_change}
use Rattle.snap_diff.specs.Places.{after_entry, after_here}
use Rattle.snap_diff.proofs.Pages.{skip_row, skipped}
use Rattle.snap_diff.proofs.Starts.{get_rest, past_name}
use Rattle.snap_diff.proofs.Walks.{put_rows-append}

-- ---- at the path itself

-- a path comes after none that it begins
not_after : (p r : Names) → is_lt (path_cmp (p ++ r) p) ≡ false
not_after p r = ap (λ (q : Names). is_lt (path_cmp (p ++ r) q)) (sym (append-nil p)) ∙ ap is_lt (cmp_front p r []) ∙ by r
  where
    by : (x : Names) → is_lt (path_cmp x []) ≡ false
    by [] = refl
    by (n ∷ x) = refl

pub kept_out : (most : ℕ) (p rest : Names) (rows : List Change) (kind : Option ChangeKind) → rows ≡ put_rows most (Some (p ++ rest)) rows (told_change p kind)
kept_out most p rest rows kind = sym (skip_row most (p ++ rest) rows p kind (not_after p rest))

-- in the directory the page begins at the next name
pub starts_at : (p rest : Names) → page_start (Some (p ++ rest)) p ≡ bound_at (slice_get rest 0)
starts_at p rest = λ i. cond (begins-append p rest i) (bound_at (get_rest p rest i)) Unbounded

-- ---- where all is of the page

-- what is below a path that comes after another comes after it too
all_after : (a p r : Names) → is_lt (path_cmp a p) ≡ true → is_lt (path_cmp a (p ++ r)) ≡ true
all_after [] [] r e = absurd (cc)
all_after [] (y ∷ p) r e = refl
all_after (x ∷ a) [] r e = absurd (cc)
all_after (x ∷ a) (y ∷ p) r e = by (name_cmp x y) e (all_after a p r)
  where
    by : (o : Ordering) → is_lt (ordering_then o (path_cmp a p)) ≡ true → (is_lt (path_cmp a p) ≡ true → is_lt (path_cmp a (p ++ r)) ≡ true) → is_lt (ordering_then o (path_cmp a (p ++ r))) ≡ true
    by Less e later = refl
    by Equal e later = later e
    by Greater e later = absurd (cc)

all_row : (most : ℕ) (a : Names) (rows : List Change) (q : Names) (kind : Option ChangeKind) → is_lt (path_cmp a q) ≡ true → put_rows most (Some a) rows (told_change q kind) ≡ put_rows most None rows (told_change q kind)
all_row most a rows q None e = refl
all_row most a rows q (Some kind) e = ap (λ b. cond (b && nat_lt (length rows) most) (rows ++ record { kind = kind; path = q } ∷ []) rows) e

all_names : (most : ℕ) (a : Names) (f : List ℕ → List Change) → ((n : List ℕ) (rs : List Change) → put_rows most (Some a) rs (f n) ≡ put_rows most None rs (f n)) → (ns : Names) (rows : List Change) → put_rows most (Some a) rows (flat_map f ns) ≡ put_rows most None rows (flat_map f ns)
all_names most a f each [] rows = refl
all_names most a f each (n ∷ ns) rows =
    put_rows-append most (Some a) rows (f n) (flat_map f ns)
    ∙ all_names most a f each ns (put_rows most (Some a) rows (f n))
    ∙ ap (λ (rs : List Change). put_rows most None rs (flat_map f ns)) (each n rows)
    ∙ sym (put_rows-append most None rows (f n) (flat_map f ns))

all_inside : (most : ℕ) (a : Names) (rows : List Change) (o : Option Object) (cs : List Change) → put_rows most (Some a) rows cs ≡ put_rows most None rows cs → put_rows most (Some a) rows (if_directory o cs) ≡ put_rows most None rows (if_directory o cs)
all_inside most a rows None cs e = refl
all_inside most a rows (Some (dir meta)) cs e = e
all_inside most a rows (Some (file meta content)) cs e = refl
all_inside most a rows (Some (symlink target)) cs e = refl

all_below : (k : ℕ) (t : Tree) (ts : List Tree) (most : ℕ) (a : Names) (p : Names) → is_lt (path_cmp a p) ≡ true → (r : Names) (rows : List Change) → put_rows most (Some a) rows (changes_below k t ts (p ++ r)) ≡ put_rows most None rows (changes_below k t ts (p ++ r))
unfolding changes_below
all_below zero t ts most a p e r rows = refl
all_below (suc k) t ts most a p e r rows =
    let q : Names = p ++ r in
    let here : List Change = told_change q (layer_change t ts q) in
    let within : List Change = flat_map (λ name. changes_below k t ts (q ++ name ∷ [])) (both_names ts (t ∷ ts) q) in
    let each : (n : List ℕ) (rs : List Change) → put_rows most (Some a) rs (changes_below k t ts (q ++ n ∷ [])) ≡ put_rows most None rs (changes_below k t ts (q ++ n ∷ [])) =
    λ n rs. subst (λ (x : Names). put_rows most (Some a) rs (changes_below k t ts x) ≡ put_rows most None rs (changes_below k t ts x)) (sym (append_assoc p r (n ∷ []))) (all_below k t ts most a p e (r ++ n ∷ []) rs) in
    put_rows-append most (Some a) rows here (if_directory (seen (t ∷ ts) q) within)
    ∙ all_inside most a (put_rows most (Some a) rows here) (seen (t ∷ ts) q) within (all_names most a (λ name. changes_below k t ts (q ++ name ∷ [])) each (both_names ts (t ∷ ts) q) (put_rows most (Some a) rows here))
    ∙ ap (λ (rs : List Change). put_rows most None rs (if_directory (seen (t ∷ ts) q) within)) (all_row most a rows q (layer_change t ts q) (all_after a p r e))
    ∙ sym (put_rows-append most None rows here (if_directory (seen (t ∷ ts) q) within))

-- so a page that begins after an earlier path has the same of it as one that begins with the first change
all_kept : (k : ℕ) (t : Tree) (ts : List Tree) (most : ℕ) (a : Names) (p : Names) (rows : List Change) → is_lt (path_cmp a p) ≡ true → put_rows most None rows (changes_below k t ts p) ≡ put_rows most (Some a) rows (changes_below k t ts p)
all_kept k t ts most a p rows e = subst (λ (x : Names). put_rows most None rows (changes_below k t ts x) ≡ put_rows most (Some a) rows (changes_below k t ts x)) (append-nil p) (sym (all_below k t ts most a p e [] rows))

-- ---- at an entry

module _ (k : ℕ) (t : Tree) (ts : List Tree) (most : ℕ) (p : Names) (n : List ℕ) (rows : List Change) where
  later_name : (rest : Names) → is_lt (path_cmp rest (n ∷ [])) ≡ true → put_rows most None rows (changes_below k t ts (p ++ n ∷ [])) ≡ put_rows most (Some (p ++ rest)) rows (changes_below k t ts (p ++ n ∷ []))
  later_name rest e = all_kept k t ts most (p ++ rest) (p ++ n ∷ []) rows (ap is_lt (cmp_front p rest (n ∷ [])) ∙ e)

  turned : (m : List ℕ) (o : Ordering) → name_cmp n m ≡ o → name_cmp m n ≡ ordering_reverse o
  turned m o e = nat_list_cmp_total.antisymm m n ∙ ap ordering_reverse e

  pub entry_out : (rest : Option Names) → after_entry rest n ≡ None → rows ≡ put_rows most (after_here p rest) rows (changes_below k t ts (p ++ n ∷ []))
  entry_out None e = absurd (cc)
  entry_out (Some []) e = absurd (cc)
  entry_out (Some (m ∷ r)) e = by (name_cmp n m) refl e
    where
      by : (o : Ordering) → name_cmp n m ≡ o → match_ordering o None (Some (Some r)) (Some None) ≡ None → rows ≡ put_rows most (Some (p ++ m ∷ r)) rows (changes_below k t ts (p ++ n ∷ []))
      by Less is e = sym (skipped k t ts most (Some (p ++ m ∷ r)) rows (p ++ n ∷ []) (past_name p r m n (turned m Less is)))
      by Equal is e = absurd (cc)
      by Greater is e = absurd (cc)

  pub entry_in : (rest next : Option Names) → after_entry rest n ≡ Some next → put_rows most (after_here (p ++ n ∷ []) next) rows (changes_below k t ts (p ++ n ∷ [])) ≡ put_rows most (after_here p rest) rows (changes_below k t ts (p ++ n ∷ []))
  entry_in rest next e = by rest next e
    where
      all : (rest next : Option Names) → next ≡ None → put_rows most None rows (changes_below k t ts (p ++ n ∷ [])) ≡ put_rows most (after_here p rest) rows (changes_below k t ts (p ++ n ∷ [])) → put_rows most (after_here (p ++ n ∷ []) next) rows (changes_below k t ts (p ++ n ∷ [])) ≡ put_rows most (after_here p rest) rows (changes_below k t ts (p ++ n ∷ []))
      all rest next is kept = ap (λ (o : Option Names). put_rows most (after_here (p ++ n ∷ []) o) rows (changes_below k t ts (p ++ n ∷ []))) is ∙ kept

      named : (m : List ℕ) (r : Names) (next : Option Names) (o : Ordering) → name_cmp n m ≡ o → match_ordering o None (Some (Some r)) (Some None) ≡ Some next → put_rows most (after_here (p ++ n ∷ []) next) rows (changes_below k t ts (p ++ n ∷ [])) ≡ put_rows most (Some (p ++ m ∷ r)) rows (changes_below k t ts (p ++ n ∷ []))
      named m r next Less is e = absurd (cc)
      named m r next Equal is e =
          let same : n ≡ m = (pointwise_decides unsigned_Decides n m).0 (texts_ties n m ∙ ap is_eq is) in
          let left : next ≡ Some r = cc in
          ap (λ (o : Option Names). put_rows most (after_here (p ++ n ∷ []) o) rows (changes_below k t ts (p ++ n ∷ []))) left
          ∙ ap (λ (a : Names). put_rows most (Some a) rows (changes_below k t ts (p ++ n ∷ []))) (append_assoc p (n ∷ []) r ∙ ap (λ (x : List ℕ). p ++ x ∷ r) same)
      named m r next Greater is e = all (Some (m ∷ r)) next (cc) (later_name (m ∷ r) (ap (λ o. is_lt (ordering_then o (path_cmp r []))) (turned m Greater is)))

      by : (rest next : Option Names) → after_entry rest n ≡ Some next → put_rows most (after_here (p ++ n ∷ []) next) rows (changes_below k t ts (p ++ n ∷ [])) ≡ put_rows most (after_here p rest) rows (changes_below k t ts (p ++ n ∷ []))
      by None next e = all None next (cc) refl
      by (Some []) next e = all (Some []) next (cc) (later_name [] refl)
      by (Some (m ∷ r)) next e = named m r next (name_cmp n m) refl e
