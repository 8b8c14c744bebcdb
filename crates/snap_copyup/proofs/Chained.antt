-- The directories above a path, added by one edit, and taken back.
use Rattle.std.proofs.Common.{◌≡◌, ℕ, zero, suc, ◌+◌, ◌-◌, ◌<◌, ◌≤◌, true, false, List, [], ◌∷◌, ◌++◌, length, take, drop, get_or, Option, Some, None, refl, sym, ap, subst, ◌∙◌, arith, add-one, append-nil, length-drop}
use Rattle.std.specs.List.{AllByRecursion}
use Rattle.std.proofs.lemmas.List.{at_drop_more, take_more, take_all, take-append-drop}
use Rattle.snap_path.specs.Text.{Names}
use Rattle.snap_layer.specs.declared.node.Node.TheVariants as node
use Rattle.snap_layer.specs.Tree.{Tree, at, IsDirAt}
use Rattle.snap_layer.specs.Counts.{is_within}
use Rattle.snap_layer.specs.Layers.{IsLayer, IsMeta}
use Rattle.snap_layer.specs.Edits.{with_dirs, with_entry, without, IsTakeable}
use Rattle.snap_layer.proofs.Chains.{IsVacant, vacant_after, vacant_next}
use Rattle.snap_layer.proofs.Kept.{nothing_below}
use Rattle.snap_layer.proofs.Replacing.{is_within_many}
use Rattle.snap_merge.specs.Objects.{Object, dir, file, symlink, meta_of, metas_from, seen, is_shown_dir, AreLayers}
use Rattle.snap_merge.specs.Walk.{walk_error, walk_from}
use Rattle.snap_merge.proofs.Views.{walk_same}
use Rattle.snap_copyup.specs.declared.parents.Last.{Last}
use Rattle.snap_copyup.specs.Copying.{copied, with_object, with_parents, with_parents_from}
use Rattle.snap_copyup.specs.Places.{with_last, CanStand, ParentStands, StandsAbove}
use Rattle.snap_copyup.specs.Undoing.{fronts, Undoes}
use Rattle.snap_copyup.proofs.Alone.{walk_passes, below_seen, below_unhidden, copied_missing}
use Rattle.snap_copyup.proofs.Growing.{grows_from, last_inodes}
use Rattle.snap_copyup.proofs.Most.{most_last, most_parents}
use Rattle.snap_copyup.proofs.ParentDirs.{adds_parents, dir_copied}
use Rattle.snap_copyup.proofs.Standing.{Stood, none_past, stood}
use Rattle.snap_copyup.proofs.Steps.{fits_same, many_from}
use Rattle.snap_copyup.proofs.Undoing.{fronts_there, front_takeable, front_taken}
use Rattle.snap_copyup.proofs.Wholes.{IsWholeObject, whole_seen}

-- ---- what the directories have besides their kind

whole_meta : (o : Option Object) → IsWholeObject o → IsMeta (meta_of o)
whole_meta None is = omega arith
whole_meta (Some (dir meta)) is = is
whole_meta (Some (file meta content)) is = omega arith
whole_meta (Some (symlink target)) is = omega arith

pub metas_whole : (ls : List Tree) → AreLayers ls → (front rest : Names) → AllByRecursion IsMeta (metas_from ls front rest)
metas_whole ls ok front [] = tt
metas_whole ls ok front (n ∷ rest) = (whole_meta (seen ls front) (whole_seen ls ok front), metas_whole ls ok (front ++ n ∷ []) rest)

pub length_metas : (ls : List Tree) (front rest : Names) → length (metas_from ls front rest) ≡ length rest
length_metas ls front [] = refl
length_metas ls front (n ∷ rest) = omega (arith, length_metas ls (front ++ n ∷ []) rest)

-- ---- the edit adds them

-- a directory that is seen and missing is added with its meta
dir_with : (u : Tree) (ls : List Tree) (f : Names) → at u f ≡ None → is_shown_dir (seen (u ∷ ls) f) ≡ true → copied u ls f ≡ with_entry u f (node.Dir (meta_of (seen ls f)) false)
dir_with u ls f none is =
    copied_missing u ls f none ∙ ap (with_object u f) (sym (below_unhidden u ls f none is))
    ∙ by (seen ls f) (ap is_shown_dir (below_unhidden u ls f none is) ∙ sym (ap is_shown_dir (below_seen u ls f none)) ∙ is)
  where
    by : (o : Option Object) → is_shown_dir o ≡ true → with_object u f o ≡ with_entry u f (node.Dir (meta_of o) false)
    by None e = absurd (cc)
    by (Some (dir meta)) e = refl
    by (Some (file meta content)) e = absurd (cc)
    by (Some (symlink target)) e = absurd (cc)

dirs_from : (u : Tree) (ls : List Tree) (q : Names) (n : List ℕ) (rest : Names) → IsVacant u q (n ∷ rest) → walk_from (u ∷ ls) (q ++ n ∷ []) rest ≡ None → with_dirs u q (n ∷ rest) (metas_from ls (q ++ n ∷ []) rest) ≡ with_parents_from u ls (q ++ n ∷ []) rest
dirs_from u ls q n [] vacant way = refl
dirs_from u ls q n (m ∷ rest) vacant way =
    let f = q ++ n ∷ [] in
    let passes = walk_passes (seen (u ∷ ls) f) (walk_from (u ∷ ls) (f ++ m ∷ []) rest) way in
    let same = dir_with u ls f (vacant []) passes.0 in
    let step = dir_copied u ls f (length f + 1) passes.0 (omega arith) in
    let way_on = walk_same (u ∷ ls) (copied u ls f ∷ ls) step.view (f ++ m ∷ []) rest ∙ passes.1 in
    dirs_from (with_entry u f (node.Dir (meta_of (seen ls f)) false)) ls f m rest (vacant_next u q n (m ∷ rest) (meta_of (seen ls f)) vacant) (subst (λ (t : Tree). walk_from (t ∷ ls) (f ++ m ∷ []) rest ≡ None) same way_on)
    ∙ ap (λ (t : Tree). with_parents_from t ls (f ++ m ∷ []) rest) (sym same)

dirs_after : (u : Tree) (ls : List Tree) (p : Names) (j : ℕ) → j < length p → IsVacant u (take j p) (drop j p) → walk_from (u ∷ ls) (take (j + 1) p) (drop (j + 1) p) ≡ None → with_dirs u (take j p) (drop j p) (metas_from ls (take (j + 1) p) (drop (j + 1) p)) ≡ with_parents_from u ls (take (j + 1) p) (drop (j + 1) p)
dirs_after u ls p j lt vacant way =
    let n = get_or p j [] in
    let rest = drop (j + 1) p in
    let front = take_more p j [] lt in
    at_drop_more (λ (d : Names). with_dirs u (take j p) d (metas_from ls (take (j + 1) p) rest)) p j [] lt
    ∙ ap (λ (f : Names). with_dirs u (take j p) (n ∷ rest) (metas_from ls f rest)) front
    ∙ dirs_from u ls (take j p) n rest (subst (IsVacant u (take j p)) (at_drop_more (λ (d : Names). d) p j [] lt) vacant) (subst (λ (f : Names). walk_from (u ∷ ls) f rest ≡ None) front way)
    ∙ ap (λ (f : Names). with_parents_from u ls f rest) (sym front)

-- ---- where the directories stand down to the first that is missing

pub record IsMissing (u : Tree) (ls : List Tree) (p : Names) (n : ℕ) : Type 0 where
  pub some : 1 ≤ n
  pub dir : IsDirAt (at u (take (n - 1) p))
  pub bare : n - 1 < length p → at u (take (n - 1 + 1) p) ≡ None
  pub long : n - 1 + length (metas_from ls (take n p) (drop n p)) ≤ length p
  pub same : with_dirs u (take (n - 1) p) (drop (n - 1) p) (metas_from ls (take n p) (drop n p)) ≡ with_parents u ls p

pub is_missing : (u : Tree) (ls : List Tree) (p : Names) (n : ℕ) → IsLayer u → walk_error (u ∷ ls) p ≡ None → StandsAbove u p n → n < length p → IsMissing u ls p n
is_missing u ls p zero ok way stands lt = absurd (subst IsDirAt (stands.end lt) ok.root)
is_missing u ls p (suc j) ok way stands lt = subst (λ (n : ℕ). IsMissing u ls p n) (add-one j) (record {
  some = omega arith;
  dir = subst (λ (i : ℕ). IsDirAt (at u (take i p))) back dir_at;
  bare = λ less. ap (λ (i : ℕ). at u (take i p)) (omega arith) ∙ none;
  long = omega (arith, length_metas ls (take (j + 1) p) (drop (j + 1) p), length-drop (j + 1) p, lt);
  same = ap (λ (i : ℕ). with_dirs u (take i p) (drop i p) (metas_from ls (take (j + 1) p) (drop (j + 1) p))) (sym back)
      ∙ dirs_after u ls p j less vacant above.way ∙ sym above.same;
})
  where
    less : j < length p
    less = omega (arith, lt)

    back : j ≡ j + 1 - 1
    back = omega arith

    none : at u (take (j + 1) p) ≡ None
    none = subst (λ (n : ℕ). at u (take n p) ≡ None) (sym (add-one j)) (stands.end lt)

    above : Stood u ls p (j + 1)
    above = stood u ls p (j + 1) way (omega (arith, lt)) (λ i small. stands.there i (omega (arith, small)))

    dir_at : IsDirAt (at u (take j p))
    dir_at = above.parent (take j p) (get_or p j []) (take_more p j [] less)

    vacant : IsVacant u (take j p) (drop j p)
    vacant = vacant_after u p j ok (λ is. none)

-- ---- they are taken back

pub undoes_fronts : (u : Tree) (ls : List Tree) (p : Names) (n : ℕ) → IsLayer u → walk_error (u ∷ ls) p ≡ None → StandsAbove u p n → (k : ℕ) → n + k ≤ length p → Undoes (fronts p n k) (with_parents u ls (take (n + k) p)) u
undoes_fronts u ls p n ok way stands zero within = ap (λ (i : ℕ). with_parents u ls (take i p)) (omega arith) ∙ fronts_there u ls p n ok way stands.few stands.there
undoes_fronts u ls p n ok way stands (suc k) within =
    let lt : n + k < length p = omega (arith, within) in
    let none = none_past u p n ok stands (n + k) (omega arith) lt in
    subst (λ (i : ℕ). Undoes (take (n + k) p ∷ fronts p n k) (with_parents u ls (take i p)) u) (omega arith)
    (front_takeable u ls p (n + k) lt ok way none, subst (λ (t : Tree). Undoes (fronts p n k) t u) (sym (front_taken u ls p (n + k) lt ok way none)) (undoes_fronts u ls p n ok way stands k (omega (arith, within))))

pub undoes_above : (u : Tree) (ls : List Tree) (p : Names) (n : ℕ) → IsLayer u → walk_error (u ∷ ls) p ≡ None → StandsAbove u p n → Undoes (fronts p n (length p - n)) (with_parents u ls p) u
undoes_above u ls p n ok way stands =
    subst (λ (q : Names). Undoes (fronts p n (length p - n)) (with_parents u ls q) u) (take_all (n + (length p - n)) p (omega (arith, stands.few)))
    (undoes_fronts u ls p n ok way stands (length p - n) (omega (arith, stands.few)))

-- ---- the limits

-- where the directories pass them, so does the layer with what is put last
pub full_last : (u : Tree) (ls : List Tree) (p : Names) (n : ℕ) (last : Last) → IsLayer u → walk_error (u ∷ ls) p ≡ None → StandsAbove u p n → n < length p → is_within (with_parents u ls p) ≡ false → is_within (with_last last (with_parents u ls p) p) ≡ false
full_last u ls p n last ok way stands lt full =
    let t = with_parents u ls p in
    let adds = adds_parents u ls p way in
    let grows = grows_from u ls [] p ok.sorted_paths way in
    is_within_many (with_last last t p) (omega (arith, many_from t (omega (arith, adds.next, ok.next.1)) full, last_inodes u t ls p ok empty adds grows.sorted last, most_last last t p))
  where
    first : at u (take n p) ≡ None
    first = stands.end lt

    by : (r : Names) → at u (take n p ++ r) ≡ None
    by [] = ap (at u) (append-nil (take n p)) ∙ first
    by (m ∷ r) = nothing_below u ok (take n p) (λ is. subst IsDirAt first is) m r

    empty : at u p ≡ None
    empty = ap (at u) (sym (take-append-drop n p)) ∙ by (drop n p)

-- ---- one front after another

fronts_first : (p : Names) (first names : ℕ) → first < names → fronts p first (names - first) ≡ take (names - 1) p ∷ fronts p first (names - 1 - first)
fronts_first p first names lt =
    let more : names - first ≡ suc (names - 1 - first) = omega (arith, lt) in
    let here : first + (names - 1 - first) ≡ names - 1 = omega (arith, lt) in
    ap (fronts p first) more ∙ (λ i. take (here i) p ∷ fronts p first (names - 1 - first))

pub undoes_first : (p : Names) (first names : ℕ) (t u : Tree) → first < names → Undoes (fronts p first (names - first)) t u → IsTakeable t (take (names - 1) p) × Undoes (fronts p first (names - 1 - first)) (without t (take (names - 1) p)) u
undoes_first p first names t u lt undoes = subst (λ (ps : List Names). Undoes ps t u) (fronts_first p first names lt) undoes

pub undoes_last : (p : Names) (first names : ℕ) (t u : Tree) → names ≤ first → Undoes (fronts p first (names - first)) t u → t ≡ u
undoes_last p first names t u le undoes =
    let none : names - first ≡ 0 = omega (arith, le) in
    subst (λ (k : ℕ). Undoes (fronts p first k) t u) none undoes

-- ---- nothing is missing

pub all_stand : (u : Tree) (ls : List Tree) (p : Names) (n : ℕ) → IsLayer u → walk_error (u ∷ ls) p ≡ None → StandsAbove u p n → n ≡ length p → (with_parents u ls p ≡ u) × ParentStands u p
all_stand u ls p n ok way stands all =
    let whole : take n p ≡ p = take_all n p (omega (arith, all)) in
    let above = stood u ls p n way stands.few stands.there in
    (ap (λ (q : Names). with_parents u ls q) (sym whole) ∙ fronts_there u ls p n ok way stands.few stands.there, subst (λ (q : Names). ParentStands u q) whole above.parent)

-- ---- what is put last

pub fits_after : (u : Tree) (ls : List Tree) (p : Names) (last : Last) → walk_error (u ∷ ls) p ≡ None → CanStand last u p → CanStand last (with_parents u ls p) p
fits_after u ls p last way fit = fits_same last u (with_parents u ls p) p ((adds_parents u ls p way).leaves p (omega arith)) fit
