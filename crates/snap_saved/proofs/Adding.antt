-- What something put where nothing stands adds to a layer's saved form.
use Rattle.std.proofs.Common.{◌≡◌, ℕ, ◌+◌, ◌<◌, ◌≤◌, Bool, true, false, cond, List, [], ◌∷◌, ◌++◌, Option, Some, None, IsSome, refl, sym, ap, subst, ◌∙◌, arith, append_assoc, append-nil}
use Rattle.std.specs.Prelude.{is_some, option_and_then, Result, Ok, Err, OnOk}
use Rattle.std.specs.Option.{option_map_or}
use Rattle.std.specs.declared.cmp.Ordering.TheVariants.{Less}
use Rattle.std.specs.Ordering.{nat_cmp}
use Rattle.std.specs.Cmp.{nat_cmp_total, nat_cmp_is}
use Rattle.std.specs.List.{AllByRecursion, cons_option}
use Rattle.std.specs.Map.{lookup, keys_of}
use Rattle.std.specs.BTreeMap.{is_at, insert_entry}
use Rattle.std.proofs.lemmas.List.{map-append}
use Rattle.snap_path.specs.Text.{Names}
use Rattle.snap_layer.specs.declared.node.Node.{Node}
use Rattle.snap_layer.specs.declared.node.Node.TheVariants.{Dir, File, Symlink, Whiteout}
use Rattle.snap_layer.specs.declared.node.Body.{Body}
use Rattle.snap_layer.specs.declared.node.Body.TheVariants as body_kinds
use Rattle.snap_layer.specs.Tree.{Tree, Entries, Bodies, path_cmp, at, body, number_of, number_at, leaf_node, is_whiteout, has_number}
use Rattle.snap_layer.specs.Layers.{IsLayer}
use Rattle.snap_layer.specs.Edits.{with_entry, with_new, with_name, named_node, IsFree, HasRoom, HasPlace}
use Rattle.snap_layer.specs.Edits.{with_next}
use Rattle.snap_layer.proofs.Lists.{at_itself}
use Rattle.std.specs.FinMap.{nat_cmp-IsAntisymmetric}
use Rattle.std.proofs.lemmas.Bool.{cond-true}
use Rattle.snap_layer.proofs.Changing.{body_some}
use Rattle.snap_layer.proofs.Files.{leaf_number}
use Rattle.snap_layer.proofs.Inside.{found_each}
use Rattle.snap_layer.proofs.Kept.{has_body}
use Rattle.snap_layer.proofs.Looks.{Sets-with_entry, has_its_number, number_is}
use Rattle.snap_layer.proofs.Paths.{path_cmp_total}
use Rattle.snap_layer.proofs.Replacing.{HasPlace-from_room, other_name, with_node-free, without_nothing}
use Rattle.snap_saved.specs.declared.dir.SavedDir.{SavedDir}
use Rattle.snap_saved.specs.Values.{SavedFileValue}
use Rattle.snap_saved.specs.Saved.{dir_path, dir_part, path_if, dirs_of, whiteouts_of, file_names, files_of, dir_meta, dir_opaque, saved}
use Rattle.snap_saved.specs.Named.{IsFreePath, AddsNames}
use Rattle.snap_saved.proofs.Inserting.{insert_last, read_same, read_last}

-- ---- what is read of an entry has its path

pub dir_keyed : (n : Node) (p : Names) (d : SavedDir) → dir_part n p ≡ Some d → d.path ≡ p
dir_keyed (Dir meta opaque) [] d e = absurd (cc)
dir_keyed (Dir meta opaque) (a ∷ p) d e = ap (λ (o : Option SavedDir). option_map_or dir_path o []) (sym e)
dir_keyed (File k) p d e = absurd (cc)
dir_keyed (Symlink k) p d e = absurd (cc)
dir_keyed Whiteout p d e = absurd (cc)

pub path_keyed : (holds : Bool) (p q : Names) → path_if holds p ≡ Some q → q ≡ p
path_keyed true p q e = ap (λ (o : Option Names). option_map_or (λ (x : Names). x) o []) (sym e)
path_keyed false p q e = absurd (cc)

-- a directory other than the root is saved
pub dir_is_part : (d : SavedDir) (p : Names) → d.path ≡ p → (p ≡ [] → ⊥) → dir_part (Dir d.meta d.opaque) d.path ≡ Some d
dir_is_part d [] is apart = absurd (apart refl)
dir_is_part d (a ∷ p) is apart = ap (dir_part (Dir d.meta d.opaque)) is ∙ (λ i. Some (record { path = sym is i; meta = d.meta; opaque = d.opaque }))

leaf_no_dir : (k : ℕ) (b : Body) (p : Names) → dir_part (leaf_node k b) p ≡ None
leaf_no_dir k (body_kinds.File meta content) p = refl
leaf_no_dir k (body_kinds.Symlink target) p = refl

leaf_no_whiteout : (k : ℕ) (b : Body) (p : Names) → path_if (is_whiteout (leaf_node k b)) p ≡ None
leaf_no_whiteout k (body_kinds.File meta content) p = refl
leaf_no_whiteout k (body_kinds.Symlink target) p = refl

-- the files of other entries, where each number that they have has the same names
pub files_same : (es fs : Entries) (bs : Bodies) → ((j : ℕ) → file_names j fs ≡ file_names j es) → files_of fs bs ≡ files_of es bs
files_same es fs [] same = refl
files_same es fs (b ∷ bs) same = λ i. record { number = b.0; body = b.1; names = same b.0 i } ∷ files_same es fs bs same i

pub files_apart : (es fs : Entries) (bs : Bodies) (k : ℕ) → AllByRecursion (λ j. j ≡ k → ⊥) (keys_of bs) → ((j : ℕ) → (j ≡ k → ⊥) → file_names j fs ≡ file_names j es) → files_of fs bs ≡ files_of es bs
files_apart es fs [] k apart same = refl
files_apart es fs (b ∷ bs) k apart same = λ i. record { number = b.0; body = b.1; names = same b.0 apart.0 i } ∷ files_apart es fs bs k apart.1 same i

-- ---- the conditions of the edits

pub room_from : (t : Tree) (p : Names) → IsFreePath t p → HasRoom t p
room_from t p vacant = record { free = subst IsFree (sym vacant.none) tt; above = vacant.above }

pub place_from : (t : Tree) → IsLayer t → (p : Names) → IsFreePath t p → HasPlace t p
place_from t ok p vacant = HasPlace-from_room t p ok (room_from t p vacant)

pub no_number : (t : Tree) (p : Names) (k : ℕ) → IsFreePath t p → number_at t p ≡ Some k → ⊥
no_number t p k vacant e = none (sym (ap (option_and_then number_of) vacant.none) ∙ e)
  where
    none : None ≡ Some k → ⊥
    none f = cc

-- ---- an entry more

module _ (t : Tree) (ok : IsLayer t) (p : Names) (vacant : IsFreePath t p) where
  root_same : (n : Node) → at (with_entry t p n) [] ≡ at t []
  root_same n = (Sets-with_entry t p n).others [] (λ e. vacant.above.below_root (sym e))

  -- a directory after the others
  pub dir_added : (d : SavedDir) → d.path ≡ p → AllByRecursion (λ (x : SavedDir). path_cmp x.path p ≡ Less) (dirs_of t.entries) → saved (with_entry t p (Dir d.meta d.opaque)) ≡ record (saved t) { dirs = dirs_of t.entries ++ d ∷ [] }
  dir_added d is before =
      let n : Node = Dir d.meta d.opaque in
      let part : dir_part n p ≡ Some d = ap (dir_part n) (sym is) ∙ dir_is_part d p is vacant.above.below_root in
      let root = root_same n in
      let dirs : dirs_of (with_entry t p n).entries ≡ dirs_of t.entries ++ d ∷ [] = read_last path_cmp_total (λ (e : Names × Node). dir_part e.1 e.0) dir_path (λ e x. dir_keyed e.1 e.0 x) t.entries p n d part vacant.none ok.sorted_paths before in
      let whiteouts : whiteouts_of (with_entry t p n).entries ≡ whiteouts_of t.entries = read_same path_cmp_total (λ (e : Names × Node). path_if (is_whiteout e.1) e.0) t.entries p n refl vacant.none in
      let files : files_of (with_entry t p n).entries t.bodies ≡ files_of t.entries t.bodies = files_same t.entries (with_entry t p n).entries t.bodies (λ j. read_same path_cmp_total (λ (e : Names × Node). path_if (has_number j e.1) e.0) t.entries p n refl vacant.none) in
      λ i. record { meta = dir_meta (root i); opaque = dir_opaque (root i); dirs = dirs i; whiteouts = whiteouts i; files = files i; next = t.next; most = t.most }

  -- a whiteout after the others
  pub whiteout_added : AllByRecursion (λ (q : Names). path_cmp q p ≡ Less) (whiteouts_of t.entries) → saved (with_entry t p Whiteout) ≡ record (saved t) { whiteouts = whiteouts_of t.entries ++ p ∷ [] }
  whiteout_added before =
      let root = root_same Whiteout in
      let dirs : dirs_of (with_entry t p Whiteout).entries ≡ dirs_of t.entries = read_same path_cmp_total (λ (e : Names × Node). dir_part e.1 e.0) t.entries p Whiteout refl vacant.none in
      let whiteouts : whiteouts_of (with_entry t p Whiteout).entries ≡ whiteouts_of t.entries ++ p ∷ [] = read_last path_cmp_total (λ (e : Names × Node). path_if (is_whiteout e.1) e.0) (λ (q : Names). q) (λ e x. path_keyed (is_whiteout e.1) e.0 x) t.entries p Whiteout p refl vacant.none ok.sorted_paths before in
      let files : files_of (with_entry t p Whiteout).entries t.bodies ≡ files_of t.entries t.bodies = files_same t.entries (with_entry t p Whiteout).entries t.bodies (λ j. read_same path_cmp_total (λ (e : Names × Node). path_if (has_number j e.1) e.0) t.entries p Whiteout refl vacant.none) in
      λ i. record { meta = dir_meta (root i); opaque = dir_opaque (root i); dirs = dirs i; whiteouts = whiteouts i; files = files i; next = t.next; most = t.most }

  -- a name after the others of its number
  pub name_added : (k : ℕ) (b : Body) → AllByRecursion (λ (q : Names). path_cmp q p ≡ Less) (file_names k t.entries) → AddsNames k t.entries (with_entry t p (leaf_node k b)).entries (p ∷ [])
  name_added k b before =
      let n : Node = leaf_node k b in
      record {
        root = root_same n;
        dirs = read_same path_cmp_total (λ (e : Names × Node). dir_part e.1 e.0) t.entries p n (leaf_no_dir k b p) vacant.none;
        whiteouts = read_same path_cmp_total (λ (e : Names × Node). path_if (is_whiteout e.1) e.0) t.entries p n (leaf_no_whiteout k b p) vacant.none;
        names = read_last path_cmp_total (λ (e : Names × Node). path_if (has_number k e.1) e.0) (λ (q : Names). q) (λ e x. path_keyed (has_number k e.1) e.0 x) t.entries p n p (ap (λ (h : Bool). path_if h p) (has_its_number k n (leaf_number k b))) vacant.none ok.sorted_paths before;
        others = λ j apart. read_same path_cmp_total (λ (e : Names × Node). path_if (has_number j e.1) e.0) t.entries p n (ap (λ (h : Bool). path_if h p) (other_name j k n (leaf_number k b) apart)) vacant.none;
      }

  -- one more name of a file or symlink
  pub name_put : (u : Tree) (k : ℕ) → IsSome (body t k) → u ≡ with_name t p (named_node k (body t k)) → (b : Body) × (u ≡ with_entry t p (leaf_node k b))
  name_put u k there is =
      let b = body_some t k there in
      (b.0, is ∙ ap (λ (o : Option Body). with_name t p (named_node k o)) b.1 ∙ with_node-free t ok p (leaf_node k b.0) (subst IsFree (sym vacant.none) tt))

  pub name_put_by : (u : Tree) (k : ℕ) (b : Body) → body t k ≡ Some b → u ≡ with_name t p (named_node k (body t k)) → u ≡ with_entry t p (leaf_node k b)
  name_put_by u k b there is = is ∙ ap (λ (o : Option Body). with_name t p (named_node k o)) there ∙ with_node-free t ok p (leaf_node k b) (subst IsFree (sym vacant.none) tt)

  -- a new file or symlink
  pub new_put : (b : Body) → with_new t p (leaf_node t.next b) b ≡ record (with_entry t p (leaf_node t.next b)) { bodies = insert_entry nat_cmp t.bodies t.next b; next = t.next + 1 }
  new_put b = ap (λ (w : Tree). record (with_entry w p (leaf_node t.next b)) { bodies = insert_entry nat_cmp w.bodies t.next b; next = t.next + 1 }) (without_nothing t ok p vacant.none)

-- ---- a number that is free

-- all numbers come before one that isn't below the next
pub numbers_before : (t : Tree) → IsLayer t → (k : ℕ) → t.next ≤ k → AllByRecursion (λ (j : ℕ). nat_cmp j k ≡ Less) (keys_of t.bodies)
numbers_before t ok k free = by t.bodies (found_each nat_cmp_total t.bodies ok.sorted_numbers)
  where
    by : (bs : Bodies) → AllByRecursion (λ (e : ℕ × Body). lookup (is_at (nat_cmp e.0)) t.bodies ≡ Some e.1) bs → AllByRecursion (λ (j : ℕ). nat_cmp j k ≡ Less) (keys_of bs)
    by [] a = tt
    by (e ∷ bs) a =
        let low : e.0 < t.next = (ok.numbers e.0 (ap is_some a.0)).1 in
        (sym (nat_cmp_is e.0 k Less (omega (arith, low, free))), by bs a.1)

pub numbers_apart : (t : Tree) → IsLayer t → (k : ℕ) → t.next ≤ k → AllByRecursion (λ (j : ℕ). j ≡ k → ⊥) (keys_of t.bodies)
numbers_apart t ok k free = by t.bodies (found_each nat_cmp_total t.bodies ok.sorted_numbers)
  where
    by : (bs : Bodies) → AllByRecursion (λ (e : ℕ × Body). lookup (is_at (nat_cmp e.0)) t.bodies ≡ Some e.1) bs → AllByRecursion (λ (j : ℕ). j ≡ k → ⊥) (keys_of bs)
    by [] a = tt
    by (e ∷ bs) a =
        let low : e.0 < t.next = (ok.numbers e.0 (ap is_some a.0)).1 in
        (λ same. omega (arith, low, free, same), by bs a.1)

-- such a number has no name
pub nameless : (t : Tree) → IsLayer t → (k : ℕ) → t.next ≤ k → file_names k t.entries ≡ []
nameless t ok k free = by t.entries (found_each path_cmp_total t.entries ok.sorted_paths)
  where
    by : (es : Entries) → AllByRecursion (λ (e : Names × Node). lookup (is_at (path_cmp e.0)) t.entries ≡ Some e.1) es → file_names k es ≡ []
    by [] a = refl
    by (e ∷ es) a = here (has_number k e.1) refl (by es a.1)
      where
        here : (h : Bool) → has_number k e.1 ≡ h → file_names k es ≡ [] → cons_option (path_if h e.0) (file_names k es) ≡ []
        here false is later = later
        here true is later =
            let low : k < t.next = (ok.numbers k (has_body t ok e.0 k (ap (option_and_then number_of) a.0 ∙ number_is k e.1 is))).1 in
            absurd (omega (arith, low, free))

-- a vacant place stays one where the next number is raised
pub vacant_raised : (t : Tree) (k : ℕ) (p : Names) → IsFreePath t p → IsFreePath (with_next t k) p
vacant_raised t k p vacant = record { none = vacant.none; above = record { below_root = vacant.above.below_root; parent = vacant.above.parent } }

-- a new file or symlink under a number that is free
pub record IsFirst (t u : Tree) (k : ℕ) (b : Body) (p : Names) : Type 0 where
  pub bodies : u.bodies ≡ t.bodies ++ (k, b) ∷ []
  pub named : AddsNames k t.entries u.entries (p ∷ [])

pub first_put : (t u : Tree) (k : ℕ) (b : Body) (p : Names) → IsLayer t → IsLayer (with_next t k) → IsFreePath t p → t.next ≤ k → u ≡ with_new (with_next t k) p (leaf_node k b) b → IsFirst t u k b p
first_put t u k b p ok raised vacant free is =
    let put = is ∙ new_put (with_next t k) raised p (vacant_raised t k p vacant) b in
    let before : AllByRecursion (λ (q : Names). path_cmp q p ≡ Less) (file_names k t.entries) = subst (AllByRecursion (λ (q : Names). path_cmp q p ≡ Less)) (sym (nameless t ok k free)) tt in
    record {
      bodies = ap (λ (x : Tree). x.bodies) put ∙ insert_last nat_cmp_total t.bodies k b (numbers_before t ok k free);
      named = subst (λ (es : Entries). AddsNames k t.entries es (p ∷ [])) (sym (ap (λ (x : Tree). x.entries) put)) (name_added t ok p vacant k b before);
    }

-- its body is there
pub last_there : (bs : Bodies) (k : ℕ) (b : Body) → IsSome (lookup (is_at (nat_cmp k)) (bs ++ (k, b) ∷ []))
last_there [] k b = ap is_some (cond-true (is_at (nat_cmp k) k) (Some b) None (at_itself nat_cmp_total nat_cmp-IsAntisymmetric k))
last_there (e ∷ bs) k b = by (is_at (nat_cmp k) e.0) (last_there bs k b)
  where
    by : (h : Bool) → IsSome (lookup (is_at (nat_cmp k)) (bs ++ (k, b) ∷ [])) → IsSome (cond h (Some e.1) (lookup (is_at (nat_cmp k)) (bs ++ (k, b) ∷ [])))
    by true later = refl
    by false later = later

-- its names
pub first_names : (t u : Tree) (k : ℕ) (p : Names) → IsLayer t → t.next ≤ k → AddsNames k t.entries u.entries (p ∷ []) → file_names k u.entries ≡ p ∷ []
first_names t u k p ok free one = one.names ∙ ap (λ (l : List Names). l ++ p ∷ []) (nameless t ok k free)

-- ---- names more

pub AddsNames-none : (k : ℕ) (es : Entries) → AddsNames k es es []
AddsNames-none k es = record { root = refl; dirs = refl; whiteouts = refl; names = sym (append-nil (file_names k es)); others = λ j apart. refl }

pub AddsNames-more : (k : ℕ) (es fs gs : Entries) (ps qs : List Names) → AddsNames k es fs ps → AddsNames k fs gs qs → AddsNames k es gs (ps ++ qs)
AddsNames-more k es fs gs ps qs a b = record {
  root = b.root ∙ a.root;
  dirs = b.dirs ∙ a.dirs;
  whiteouts = b.whiteouts ∙ a.whiteouts;
  names = b.names ∙ ap (λ (l : List Names). l ++ qs) a.names ∙ append_assoc (file_names k es) ps qs;
  others = λ j apart. b.others j apart ∙ a.others j apart;
}

-- both hold where a call succeeds
pub on_ok_both : {T E P Q Z : Type 0} (r : Result T E) → (P → Q → Z) → OnOk r P → OnOk r Q → OnOk r Z
on_ok_both (Ok x) f p q = f p q
on_ok_both (Err e) f p q = tt

-- a file or symlink with its names, after the others
pub file_added : (t u v : Tree) → IsLayer t → (k : ℕ) (b : Body) (first : Names) (others : List Names) → t.next ≤ k → u.bodies ≡ t.bodies ++ (k, b) ∷ [] → u.most ≡ t.most → AddsNames k t.entries u.entries (first ∷ []) → AddsNames k u.entries v.entries others → v ≡ record u { entries = v.entries }
    → saved v ≡ record (saved t) { files = files_of t.entries t.bodies ++ (record { number = k; body = b; names = first ∷ others }) ∷ []; next = v.next }
file_added t u v ok k b first others free bodies most one more rest =
    let all : AddsNames k t.entries v.entries (first ∷ others) = AddsNames-more k t.entries u.entries v.entries (first ∷ []) others one more in
    let names : file_names k v.entries ≡ first ∷ others = all.names ∙ ap (λ (l : List Names). l ++ (first ∷ others)) (nameless t ok k free) in
    let its : v.bodies ≡ t.bodies ++ (k, b) ∷ [] = ap (λ (x : Tree). x.bodies) rest ∙ bodies in
    let before : files_of v.entries t.bodies ≡ files_of t.entries t.bodies = files_apart t.entries v.entries t.bodies k (numbers_apart t ok k free) all.others in
    let files : files_of v.entries v.bodies ≡ files_of t.entries t.bodies ++ (record { number = k; body = b; names = first ∷ others }) ∷ [] =
    ap (files_of v.entries) its
    ∙ map-append (λ (e : ℕ × Body). let f : SavedFileValue = record { number = e.0; body = e.1; names = file_names e.0 v.entries } in f) t.bodies ((k, b) ∷ [])
    ∙ (λ i. before i ++ (record { number = k; body = b; names = names i }) ∷ []) in
    let room : v.most ≡ t.most = ap (λ (x : Tree). x.most) rest ∙ most in
    λ i. record { meta = dir_meta (all.root i); opaque = dir_opaque (all.root i); dirs = all.dirs i; whiteouts = all.whiteouts i; files = files i; next = v.next; most = room i }
