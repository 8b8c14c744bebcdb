-- A test that fails, and an edit that is refused, where no layer has the part.
use Rattle.std.proofs.Common.{◌≡◌, ℕ, ◌+◌, ◌<◌, ◌≤◌, true, false, List, [], ◌∷◌, ◌++◌, map, Some, refl, sym, ap, subst, ◌∙◌, arith}
use Rattle.std.specs.Prelude.{is_some, Result, Ok, Err, IsErrAnd, IfErr}
use Rattle.std.specs.Cmp.{nat_cmp_total}
use Rattle.std.specs.List.{AllByRecursion}
use Rattle.std.specs.List.Sorted.{IsStrictlySortedBy}
use Rattle.std.specs.Map.{lookup, keys_of}
use Rattle.std.specs.BTreeMap.{is_at}
use Rattle.std.specs.Ordering.{nat_cmp}
use Rattle.std.specs.declared.cmp.Ordering.TheVariants.{Less}
use Rattle.std.proofs.lemmas.Grind.{common_steps}
use Rattle.std.proofs.lemmas.List.{map-append}
use Rattle.snap_path.specs.Limits.{most_number}
use Rattle.snap_path.specs.Text.{Names}
use Rattle.snap_layer.specs.declared.error.LayerError.{LayerError}
use Rattle.snap_layer.specs.declared.error.LayerError.TheVariants.{LayerFull, OutOfMemory}
use Rattle.snap_layer.specs.declared.node.Node.{Node}
use Rattle.snap_layer.specs.declared.node.Node.TheVariants.{Dir, File, Symlink, Whiteout}
use Rattle.snap_layer.specs.declared.node.Body.{Body}
use Rattle.snap_layer.specs.declared.node.Body.TheVariants as body_kinds
use Rattle.snap_layer.specs.Tree.{Tree, Bodies, at, body, number_of, leaf_node, IsDirAt}
use Rattle.snap_layer.specs.Counts.{inode_count, is_within}
use Rattle.snap_layer.specs.Layers.{IsLayer, IsWhole, IsMeta, IsBody, IsFile, IsSymlink}
use Rattle.snap_layer.specs.Edits.{with_entry, with_node, with_new, IsFree}
use Rattle.snap_layer.specs.Edits.{with_next}
use Rattle.snap_layer.proofs.Counting.{inodes_of, inode_count-with_entry}
use Rattle.snap_layer.proofs.Files.{leaf_number}
use Rattle.snap_layer.proofs.Inside.{found_each}
use Rattle.snap_layer.proofs.Kept.{node_with_number}
use Rattle.snap_layer.proofs.Replacing.{with_node-free, without_nothing, is_within_yes, inode_count-with_new}
use Rattle.snap_saved.specs.declared.error.Part.{Part}
use Rattle.snap_saved.specs.declared.error.RestoreError.{RestoreError}
use Rattle.snap_saved.specs.declared.error.RestoreError.TheVariants as errors
use Rattle.snap_saved.specs.Values.{SavedFileValue, SavedValue}
use Rattle.snap_saved.specs.Saved.{files_of, dir_meta, dir_opaque, saved}
use Rattle.snap_saved.specs.Named.{IsFreePath}
use Rattle.snap_saved.specs.Refusing.{Refutes, refusal, LacksNode, LacksNodeWithRoom, HasSameDirs, HasNext, HasLeastNext}
use Rattle.snap_saved.proofs.Inserting.{all_before}
use Rattle.snap_saved.proofs.Once.{Has, bodies_back, no_some, root_is}
use Rattle.snap_saved.proofs.Under.{has_here, root_by}
use Rattle.snap_saved.proofs.Fitting.{file_reads}

no_bool : true ≡ false → ⊥
no_bool e = cc

-- an edit that is refused refutes where the layer isn't full
pub refuse : (error : LayerError) (part : Part) (P : Tree → Type 0) → (error ≡ LayerFull → (t : Tree) → IsLayer t → P t → ⊥) → Refutes (refusal error part) P
refuse LayerFull part P full = full refl
refuse (OutOfMemory no_memory) part P full = tt

-- what refutes some layers refutes those among them
pub refutes_more : (e : RestoreError) (P Q : Tree → Type 0) → ((t : Tree) → IsLayer t → Q t → P t) → Refutes e P → Refutes e Q
refutes_more (errors.Malformed part fault) P Q among refutes = λ t ok q. refutes t ok (among t ok q)
refutes_more (errors.OutOfMemory no_memory) P Q among refutes = tt

-- the same at the exit of a `?`
pub refutes_later : {A : Type 0} (r : Result A RestoreError) (x : RestoreError) (P Q : Tree → Type 0) → IsErrAnd r (λ e. e ≡ x) → ((t : Tree) → IsLayer t → Q t → P t) → Refutes x P → IfErr r (λ e. Refutes e Q)
refutes_later (Ok y) x P Q same among refutes = absurd same
refutes_later (Err e) x P Q same among refutes = refutes_more e P Q among (subst (λ (z : RestoreError). Refutes z P) (sym same) refutes)

-- the place where a part fits is vacant
pub fits_vacant : (u t : Tree) → IsLayer u → IsLayer t → (p : Names) (n : Node) → LacksNode u t p n → IsFreePath u p
fits_vacant u t oku okt p n fits = record {
  none = fits.free;
  above = record {
    below_root = λ e. subst IsDirAt (ap (at u) (sym e) ∙ fits.free) oku.root;
    parent = λ q m splits. fits.above q m splits (okt.parents q m (ap is_some (ap (at t) (sym splits) ∙ fits.node)));
  };
}

-- ---- the layer isn't full

pub few_with_entry : (u t : Tree) → IsLayer u → IsLayer t → (p : Names) (n : Node) → LacksNodeWithRoom u t p n → inodes_of (Some n) ≤ 1 → inode_count (with_entry u p n) ≤ u.most
few_with_entry u t oku okt p n more small = omega (arith, inode_count-with_entry u p n oku.sorted_paths, small, more.fewer, okt.few, more.most)

pub full_with_entry : (u t : Tree) → IsLayer u → IsLayer t → (p : Names) (n : Node) → LacksNodeWithRoom u t p n → inodes_of (Some n) ≤ 1 → is_within (with_entry u p n) ≡ false → ⊥
full_with_entry u t oku okt p n more small full =
    no_bool (sym (is_within_yes (with_entry u p n) (few_with_entry u t oku okt p n more small) oku.next.1) ∙ full)

pub full_whiteout : (u t : Tree) → IsLayer u → IsLayer t → (p : Names) → LacksNodeWithRoom u t p Whiteout → is_within (with_node u p Whiteout) ≡ false → ⊥
full_whiteout u t oku okt p more full =
    full_with_entry u t oku okt p Whiteout more (omega arith) (ap is_within (sym (with_node-free u oku p Whiteout (subst IsFree (sym more.fits.free) tt))) ∙ full)

pub few_new : (u t : Tree) (k : ℕ) (b : Body) (p : Names) → IsLayer (with_next u k) → IsLayer t → body t k ≡ Some b → LacksNodeWithRoom u t p (leaf_node k b) → inode_count (with_new (with_next u k) p (leaf_node k b) b) ≤ u.most
few_new u t k b p oku okt is more =
    let u1 = with_next u k in
    let one : inode_count (with_new u1 p (leaf_node k b) b) ≡ inode_count u1 + 1 = inode_count-with_new u1 p (leaf_node k b) b oku (leaf_number k b) ∙ ap (λ (w : Tree). inode_count w + 1) (without_nothing u1 oku p more.fits.free) in
    omega (arith, one, more.fewer, okt.few, more.most)

-- a number that is used isn't the last
pub low_number : (t : Tree) → IsLayer t → (k : ℕ) (b : Body) → body t k ≡ Some b → k + 1 ≤ most_number
low_number t ok k b is = omega (arith, (ok.numbers k (ap is_some is)).1, ok.next.1)

pub full_new : (u t : Tree) (k : ℕ) (b : Body) (p : Names) → IsLayer (with_next u k) → IsLayer t → body t k ≡ Some b → LacksNodeWithRoom u t p (leaf_node k b) → is_within (with_new (with_next u k) p (leaf_node k b) b) ≡ false → ⊥
full_new u t k b p oku okt is more full =
    no_bool (sym (is_within_yes (with_new (with_next u k) p (leaf_node k b) b) (few_new u t k b p oku okt is more) (low_number t okt k b is)) ∙ full)

-- ---- limits

pub body_good : (t : Tree) → IsLayer t → (k : ℕ) (b : Body) → body t k ≡ Some b → IsBody b
body_good t ok k b is =
    let name = ok.named k (ap is_some is) in
    let n = node_with_number (at t name.0) k name.1 in
    by n.0 n.2 (ok.nodes name.0 n.0 n.1)
  where
    file : (b : Body) → IsFile (Some b) → IsBody b
    file (body_kinds.File meta content) good = good
    file (body_kinds.Symlink target) good = absurd good

    link : (b : Body) → IsSymlink (Some b) → IsBody b
    link (body_kinds.File meta content) good = absurd good
    link (body_kinds.Symlink target) good = good

    by : (n : Node) → number_of n ≡ Some k → IsWhole t n → IsBody b
    by (Dir meta opaque) number whole = absurd (no_some k number)
    by Whiteout number whole = absurd (no_some k number)
    by (File j) number whole = let same : j ≡ k = cc in file b (subst IsFile (ap (body t) same ∙ is) whole)
    by (Symlink j) number whole = let same : j ≡ k = cc in link b (subst IsSymlink (ap (body t) same ∙ is) whole)

pub root_good : (t : Tree) → IsLayer t → IsMeta (dir_meta (at t []))
root_good t ok = ok.nodes [] (Dir (dir_meta (at t [])) (dir_opaque (at t []))) (root_is (at t []) ok.root)

-- ---- the next number

less_from : (j k : ℕ) → nat_cmp j k ≡ Less → j < k
less_from j k e = grind (arith, common_steps)

all_less : (ks : List ℕ) (k : ℕ) → AllByRecursion (λ (j : ℕ). nat_cmp j k ≡ Less) ks → AllByRecursion (λ (j : ℕ). j < k) ks
all_less [] k a = tt
all_less (j ∷ ks) k a = (less_from j k a.0, all_less ks k a.1)

keys-append : (bs cs : Bodies) → keys_of (bs ++ cs) ≡ keys_of bs ++ keys_of cs
keys-append bs cs = map-append (λ (e : ℕ × Body). e.0) bs cs

-- the file after those that are there is the next
pub next_from : (u0 u t : Tree) → IsLayer u0 → IsLayer u → IsLayer t → HasSameDirs u0 t → (fs : List SavedFileValue) (f : SavedFileValue) (rest : List SavedFileValue) → saved u ≡ record (saved u0) { files = fs; next = u.next } → files_of t.entries t.bodies ≡ fs ++ f ∷ rest → HasLeastNext u → HasNext u t f
next_from u0 u t ok0 oku okt had fs f rest was whole tight =
    let files : files_of t.entries t.bodies ≡ files_of u.entries u.bodies ++ f ∷ rest = whole ∙ ap (λ (s : SavedValue). s.files ++ f ∷ rest) (sym was) in
    let unf = λ (g : SavedFileValue). let e : ℕ × Body = (g.number, g.body) in e in
    let bodies : t.bodies ≡ u.bodies ++ (f.number, f.body) ∷ map unf rest =
    sym (bodies_back t.entries t.bodies) ∙ ap (map unf) files ∙ map-append unf (files_of u.entries u.bodies) (f ∷ rest) ∙ ap (λ (l : Bodies). l ++ (f.number, f.body) ∷ map unf rest) (bodies_back u.entries u.bodies) in
    let keys : keys_of t.bodies ≡ keys_of u.bodies ++ f.number ∷ keys_of (map unf rest) = ap keys_of bodies ∙ keys-append u.bodies ((f.number, f.body) ∷ map unf rest) in
    let before = all_before nat_cmp (keys_of u.bodies) f.number (keys_of (map unf rest)) (subst (IsStrictlySortedBy nat_cmp) keys okt.sorted_numbers) in
    let reads = file_reads t okt f (subst (Has f) (sym whole) (has_here f fs rest)) in
    record {
      furnished = record {
        akin = record {
          root = root_by u u0 oku ok0 (ap (λ (s : SavedValue). s.meta) was) (ap (λ (s : SavedValue). s.opaque) was) ∙ had.akin.root;
          most = ap (λ (s : SavedValue). s.most) was ∙ had.akin.most;
        };
        dirs = ap (λ (s : SavedValue). s.dirs) was ∙ had.dirs;
        whiteouts = ap (λ (s : SavedValue). s.whiteouts) was ∙ had.whiteouts;
      };
      rest = rest;
      files = files;
      free = tight f.number (okt.numbers f.number (ap is_some reads.0)).0 (all_less (keys_of u.bodies) f.number before);
    }

-- all numbers come before the next
pub numbers_low : (t : Tree) → IsLayer t → AllByRecursion (λ (j : ℕ). j < t.next) (keys_of t.bodies)
numbers_low t ok = by t.bodies (found_each nat_cmp_total t.bodies ok.sorted_numbers)
  where
    by : (bs : Bodies) → AllByRecursion (λ (e : ℕ × Body). lookup (is_at (nat_cmp e.0)) t.bodies ≡ Some e.1) bs → AllByRecursion (λ (j : ℕ). j < t.next) (keys_of bs)
    by [] a = tt
    by (e ∷ bs) a = ((ok.numbers e.0 (ap is_some a.0)).1, by bs a.1)

-- a tight layer with the files of another has no later next number
pub next_low : (t u : Tree) → IsLayer t → HasLeastNext u → files_of u.entries u.bodies ≡ files_of t.entries t.bodies → u.next ≤ t.next
next_low t u ok tight files =
    let bodies : u.bodies ≡ t.bodies = sym (bodies_back u.entries u.bodies) ∙ ap (map (λ (g : SavedFileValue). (g.number, g.body))) files ∙ bodies_back t.entries t.bodies in
    tight t.next ok.next.0 (subst (λ (bs : Bodies). AllByRecursion (λ (j : ℕ). j < t.next) (keys_of bs)) (sym bodies) (numbers_low t ok))

-- a layer whose next number comes right after its last file is tight
pub tight_after : (u v : Tree) (f : SavedFileValue) → saved v ≡ record (saved u) { files = files_of u.entries u.bodies ++ f ∷ []; next = v.next } → v.next ≡ f.number + 1 → HasLeastNext v
tight_after u v f is next k low all =
    let bodies : v.bodies ≡ map (λ (g : SavedFileValue). (g.number, g.body)) (files_of u.entries u.bodies ++ f ∷ []) = sym (bodies_back v.entries v.bodies) ∙ ap (λ (s : SavedValue). map (λ (g : SavedFileValue). (g.number, g.body)) s.files) is in
    let last : f.number < k = at_end (files_of u.entries u.bodies) (subst (λ (bs : Bodies). AllByRecursion (λ (j : ℕ). j < k) (keys_of bs)) bodies all) in
    omega (arith, last, next)
  where
    at_end : (fs : List SavedFileValue) → AllByRecursion (λ (j : ℕ). j < k) (keys_of (map (λ (g : SavedFileValue). (g.number, g.body)) (fs ++ f ∷ []))) → f.number < k
    at_end [] a = a.0
    at_end (x ∷ fs) a = at_end fs a.1
