-- The directories above a path, added one after another, and taken again.
use Rattle.std.proofs.Common.{◌≡◌, ℕ, ◌+◌, ◌<◌, ◌≤◌, true, false, List, [], ◌∷◌, ◌++◌, length, take, drop, get_or, Option, Some, None, is_some, refl, sym, ap, subst, ◌∙◌, arith, length-append, length-take}
use Rattle.std.proofs.lemmas.List.{at_drop_more, take_more, take-append-drop}
use Rattle.std.proofs.lemmas.Bool.Decides.{nat_tests}
use Rattle.snap_path.specs.Limits.{most_number}
use Rattle.snap_path.specs.Text.{Names}
use Rattle.snap_layer.specs.declared.node.Meta.{Meta}
use Rattle.snap_layer.specs.declared.node.Node.TheVariants as node
use Rattle.snap_layer.specs.Tree.{Tree, at, IsDirAt}
use Rattle.snap_layer.specs.Counts.{inode_count, is_within}
use Rattle.snap_layer.specs.Layers.{IsLayer}
use Rattle.snap_layer.specs.Edits.{with_entry, without, IsFree, HasRoom, HasPlace, IsTakeable}
use Rattle.snap_layer.proofs.Paths.{snoc_same}
use Rattle.snap_layer.proofs.Kept.{nothing_below}
use Rattle.snap_layer.proofs.Laws.{without-with_entry}
use Rattle.snap_layer.proofs.Replacing.{is_within_many, HasPlace-from_room}
use Rattle.snap_merge.specs.Objects.{Object, dir, file, symlink, seen, is_shown_dir}
use Rattle.snap_merge.specs.Walk.{walk_from}
use Rattle.snap_merge.proofs.Views.{walk_same}
use Rattle.snap_merge.proofs.Walking.{walk_more}
use Rattle.snap_copyup.specs.declared.parents.Last.{Last}
use Rattle.snap_copyup.specs.declared.parents.Last.TheVariants.{Nothing, Dir, File, Symlink, Whiteout}
use Rattle.snap_copyup.specs.Copying.{below, copied, with_object, with_parents_from}
use Rattle.snap_copyup.specs.Places.{with_last, IsFreePlace, CanStand, ParentStands}
use Rattle.snap_copyup.proofs.Most.{most_copied, most_parents_from, most_last}
use Rattle.snap_copyup.proofs.Alone.{walk_passes, below_seen, copied_there, copied_missing, dir_there_over, some_dir}
use Rattle.snap_copyup.proofs.ParentDirs.{AddsParents, adds_from, dir_copied, copied_stands}
use Rattle.snap_copyup.proofs.Growing.{grows_once, grows_from, last_inodes}

-- ---- one name further

pub parents_more : (u : Tree) (ls : List Tree) (p : Names) (k : ℕ) → k < length p → with_parents_from u ls (take k p) (drop k p) ≡ with_parents_from (copied u ls (take k p)) ls (take (k + 1) p) (drop (k + 1) p)
parents_more u ls p k lt =
    at_drop_more (with_parents_from u ls (take k p)) p k [] lt
    ∙ ap (λ (front : Names). with_parents_from (copied u ls (take k p)) ls front (drop (k + 1) p)) (sym (take_more p k [] lt))

-- what is seen there is a directory, and the walk goes on
walk_step : (u : Tree) (ls : List Tree) (p : Names) (k : ℕ) → k < length p → walk_from (u ∷ ls) (take k p) (drop k p) ≡ None → (is_shown_dir (seen (u ∷ ls) (take k p)) ≡ true) × (walk_from (u ∷ ls) (take (k + 1) p) (drop (k + 1) p) ≡ None)
walk_step u ls p k lt way = walk_passes (seen (u ∷ ls) (take k p)) (walk_from (u ∷ ls) (take (k + 1) p) (drop (k + 1) p)) (sym (walk_more (u ∷ ls) p k lt) ∙ way)

pub seen_next : (u : Tree) (ls : List Tree) (p : Names) (k : ℕ) → k < length p → walk_from (u ∷ ls) (take k p) (drop k p) ≡ None → is_shown_dir (seen (u ∷ ls) (take k p)) ≡ true
seen_next u ls p k lt way = (walk_step u ls p k lt way).0

parent_next : (u : Tree) (p : Names) (k : ℕ) → k < length p → IsDirAt (at u (take k p)) → ParentStands u (take (k + 1) p)
parent_next u p k lt stands q n e = subst (λ (r : Names). IsDirAt (at u r)) (snoc_same (take k p) q (get_or p k []) n (sym (take_more p k [] lt) ∙ e)) stands

-- ---- where it is put

pub room : (u : Tree) (p : Names) → IsFreePlace u p → ParentStands u p → HasRoom u p
room u p vacant parent = record { free = vacant.free; above = record { below_root = vacant.below_root; parent = parent } }

pub place : (u : Tree) (p : Names) → IsLayer u → IsFreePlace u p → ParentStands u p → HasPlace u p
place u p ok vacant parent = HasPlace-from_room u p ok (room u p vacant parent)

vacant_same : (u v : Tree) (p : Names) → at v p ≡ at u p → IsFreePlace u p → IsFreePlace v p
vacant_same u v p same vacant = record { below_root = vacant.below_root; free = subst IsFree (sym same) vacant.free }

pub fits_same : (last : Last) (u v : Tree) (p : Names) → at v p ≡ at u p → CanStand last u p → CanStand last v p
fits_same Nothing u v p same fit = fit
fits_same (Dir meta opaque) u v p same fit = (vacant_same u v p same fit.0, fit.1)
fits_same (File meta content) u v p same fit = (vacant_same u v p same fit.0, fit.1, fit.2)
fits_same (Symlink target) u v p same fit = (vacant_same u v p same fit.0, fit.1)
fits_same Whiteout u v p same fit = vacant_same u v p same fit

-- ---- the layer has the directory

pub record Present (u : Tree) (ls : List Tree) (p : Names) (k : ℕ) : Type 0 where
  pub way : walk_from (u ∷ ls) (take (k + 1) p) (drop (k + 1) p) ≡ None
  pub parent : ParentStands u (take (k + 1) p)
  pub more : with_parents_from u ls (take k p) (drop k p) ≡ with_parents_from u ls (take (k + 1) p) (drop (k + 1) p)

pub present : (u : Tree) (ls : List Tree) (p : Names) (k : ℕ) → k < length p → walk_from (u ∷ ls) (take k p) (drop k p) ≡ None → is_some (at u (take k p)) ≡ true → Present u ls p k
present u ls p k lt way some =
    let step = walk_step u ls p k lt way in
    record {
      way = step.1;
      parent = parent_next u p k lt (dir_there_over u ls (take k p) some step.0);
      more = parents_more u ls p k lt ∙ ap (λ (v : Tree). with_parents_from v ls (take (k + 1) p) (drop (k + 1) p)) (copied_there u ls (take k p) some);
    }

-- ---- the directory is missing, and is added

pub record Missing (u v : Tree) (ls : List Tree) (p : Names) (k : ℕ) (front : Names) (last : Last) : Type 0 where
  pub way : walk_from (v ∷ ls) (take (k + 1) p) (drop (k + 1) p) ≡ None
  pub parent : ParentStands v (take (k + 1) p)
  pub next : at v (take (k + 1) p) ≡ None
  pub fit : CanStand last u p → CanStand last v p
  pub takeable : IsTakeable v front
  pub back : without v front ≡ u
  pub more : with_parents_from u ls (take k p) (drop k p) ≡ with_parents_from v ls (take (k + 1) p) (drop (k + 1) p)
  pub full : is_within v ≡ false → is_within (with_last last (with_parents_from u ls (take k p) (drop k p)) p) ≡ false

pub many_from : (t : Tree) → t.next ≤ most_number → is_within t ≡ false → t.most < inode_count t
many_from t next full = grind (arith, nat_tests)

pub none_from : {A : Type 0} (o : Option A) → is_some o ≡ false → o ≡ None
none_from None e = refl
none_from (Some x) e = absurd (cc)

module _ (u : Tree) (ls : List Tree) (p : Names) (k : ℕ) (lt : k < length p) (ok : IsLayer u) (way : walk_from (u ∷ ls) (take k p) (drop k p) ≡ None) (none : at u (take k p) ≡ None) where
  abbrev front : Names
  front = take k p

  abbrev v : Tree
  v = copied u ls (take k p)

  short : length (take k p) < length p
  short = omega (arith, length-take k p)

  -- nor anything below it
  bare : at u (take (k + 1) p) ≡ None
  bare = ap (at u) (take_more p k [] lt) ∙ nothing_below u ok (take k p) (λ is. subst IsDirAt none is) (get_or p k []) []

  adds : AddsParents u (copied u ls (take k p)) ls (length (take k p) + 1)
  adds = dir_copied u ls (take k p) (length (take k p) + 1) (walk_step u ls p k lt way).0 (omega arith)

  is_dir_with : (meta : Meta) × (copied u ls (take k p) ≡ with_entry u (take k p) (node.Dir meta false))
  is_dir_with = by (below u ls front) refl (sym (ap is_shown_dir (below_seen u ls front none)) ∙ (walk_step u ls p k lt way).0)
    where
      by : (o : Option Object) → below u ls (take k p) ≡ o → is_shown_dir o ≡ true → (meta : Meta) × (copied u ls (take k p) ≡ with_entry u (take k p) (node.Dir meta false))
      by None e is = absurd (cc)
      by (Some (dir meta)) e is = (meta, copied_missing u ls front none ∙ ap (with_object u front) e)
      by (Some (file meta content)) e is = absurd (cc)
      by (Some (symlink target)) e is = absurd (cc)

  -- nothing stands at the path
  empty : at u p ≡ None
  empty =
      ap (at u) (sym (take-append-drop k p))
      ∙ at_drop_more (λ (r : Names). at u (take k p ++ r)) p k [] lt
      ∙ nothing_below u ok (take k p) (λ is. subst IsDirAt none is) (get_or p k []) (drop (k + 1) p)

  after_step : walk_from (v ∷ ls) (take (k + 1) p) (drop (k + 1) p) ≡ None
  after_step = walk_same (u ∷ ls) (v ∷ ls) adds.view (take (k + 1) p) (drop (k + 1) p) ∙ (walk_step u ls p k lt way).1

  abbrev t : Tree
  t = with_parents_from u ls (take k p) (drop k p)

  left : length (take k p) + length (drop k p) ≡ length p
  left = sym (length-append (take k p) (drop k p)) ∙ ap length (take-append-drop k p)

  many : (last : Last) → is_within v ≡ false → is_within (with_last last t p) ≡ false
  many last full =
      let once = grows_once u ls front ok.sorted_paths (walk_step u ls p k lt way).0 in
      let later = grows_from v ls (take (k + 1) p) (drop (k + 1) p) once.sorted after_step in
      let whole = grows_from u ls front (drop k p) ok.sorted_paths way in
      let parents = adds_from u ls front (drop k p) (length p) (omega (arith, left)) way in
      is_within_many (with_last last t p) (omega (
        arith,
        many_from v (omega (arith, adds.next, ok.next.1)) full,
        later.inodes,
        ap inode_count (parents_more u ls p k lt),
        last_inodes u t ls p ok empty parents whole.sorted last,
        most_last last t p,
        most_parents_from u ls front (drop k p),
        most_copied u ls front,
      ))

  pub missing_here : (last : Last) → Missing u (copied u ls (take k p)) ls p k (take k p) last
  missing_here last = record {
    way = after_step;
    parent = parent_next v p k lt (copied_stands u ls front (walk_step u ls p k lt way).0);
    next = adds.leaves (take (k + 1) p) (omega (arith, length-take k p, length-take (k + 1) p)) ∙ bare;
    fit = fits_same last u v p (adds.leaves p (omega (arith, short)));
    takeable = record {
      there = some_dir (at v front) (copied_stands u ls front (walk_step u ls p k lt way).0);
      clear = λ n. subst IsFree (sym (adds.leaves (front ++ n ∷ []) (omega (arith, length-append front (n ∷ []))) ∙ nothing_below u ok front (λ is. subst IsDirAt none is) n [])) tt;
      below_root = λ e. subst IsDirAt none (subst (λ (r : Names). IsDirAt (at u r)) (sym e) ok.root);
    };
    back = ap (λ (w : Tree). without w front) is_dir_with.1 ∙ without-with_entry u ok front (node.Dir is_dir_with.0 false) none refl;
    more = parents_more u ls p k lt;
    full = many last;
  }

pub missing : (u v : Tree) (ls : List Tree) (p : Names) (k : ℕ) (f : Names) (last : Last) → k < length p → IsLayer u → walk_from (u ∷ ls) (take k p) (drop k p) ≡ None → at u (take k p) ≡ None → f ≡ take k p → v ≡ copied u ls f → Missing u v ls p k f last
missing u v ls p k f last lt ok way none is added =
    subst (λ g. Missing u v ls p k g last) (sym is)
    (subst (λ w. Missing u w ls p k (take k p) last) (sym (added ∙ ap (λ g. copied u ls g) is)) (missing_here u ls p k lt ok way none last))
