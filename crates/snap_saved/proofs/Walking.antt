-- The saved form as it is read: path by path, and number by number.
use Rattle.std.proofs.Common.{◌≡◌, ℕ, ◌+◌, ◌<◌, Bool, List, [], ◌∷◌, ◌++◌, length, take, get_or, Option, Some, None, refl, sym, ap, ◌∙◌, arith, append_assoc, append-nil}
use Rattle.std.specs.Prelude.{filter_map, find, nat_lt, option_and_then}
use Rattle.std.specs.List.{AllByRecursion, cons_option}
use Rattle.std.specs.Map.{lookup, keys_of}
use Rattle.std.specs.BTreeMap.{is_at}
use Rattle.std.proofs.lemmas.List.Elements.{filter_map-append}
use Rattle.snap_path.specs.Text.{Names}
use Rattle.snap_layer.specs.declared.node.Node.{Node}
use Rattle.snap_layer.specs.declared.node.Body.{Body}
use Rattle.snap_layer.specs.declared.node.Node.TheVariants.{Dir, File, Symlink, Whiteout}
use Rattle.snap_layer.specs.Tree.{Tree, Entries, Bodies, path_cmp, at, body, number_at, number_of, is_whiteout, has_number}
use Rattle.snap_layer.specs.Layers.{IsLayer}
use Rattle.snap_layer.proofs.Above.{above, above_zero, above_none, above_next, starts_above_zero}
use Rattle.snap_layer.proofs.Inside.{found_each}
use Rattle.snap_layer.proofs.Looks.{has_its_number}
use Rattle.snap_layer.proofs.Paths.{path_cmp_total}
use Rattle.snap_layer.proofs.Replacing.{other_name}
use Rattle.snap_saved.specs.Values.{SavedFileValue}
use Rattle.snap_saved.specs.Saved.{dir_part, path_if, dirs_of, whiteouts_of, file_names, files_of}
use Rattle.snap_saved.specs.Walked.{saved_dir_at, whiteout_at, saved_name_at}
use Rattle.snap_saved.proofs.Rising.{take_next}

-- ---- a list read element by element

module _ {X Y : Type 0} (h : X → Option Y) (xs : List X) (i : ℕ) (x : X) (lt : i < length xs) (at : x ≡ get_or xs i x) where
  next_read : filter_map h (take (i + 1) xs) ≡ filter_map h (take i xs) ++ cons_option (h x) []
  next_read = ap (filter_map h) (take_next xs i x lt at) ∙ filter_map-append h (take i xs) (x ∷ [])

  pub nothing_more : h x ≡ None → filter_map h (take (i + 1) xs) ≡ filter_map h (take i xs)
  nothing_more none = next_read ∙ ap (λ (o : Option Y). filter_map h (take i xs) ++ cons_option o []) none ∙ append-nil (filter_map h (take i xs))

  pub one_more : (y : Y) → h x ≡ Some y → filter_map h (take (i + 1) xs) ≡ filter_map h (take i xs) ++ y ∷ []
  one_more y some = next_read ∙ ap (λ (o : Option Y). filter_map h (take i xs) ++ cons_option o []) some

-- ---- path by path

module _ {X : Type 0} (h : Node → Names → Option X) (es : Entries) where
  by_path : (fs : Entries) → AllByRecursion (λ (e : Names × Node). lookup (is_at (path_cmp e.0)) es ≡ Some e.1) fs → filter_map (λ (p : Names). option_and_then (λ (n : Node). h n p) (lookup (is_at (path_cmp p)) es)) (keys_of fs) ≡ filter_map (λ (e : Names × Node). h e.1 e.0) fs
  by_path [] a = refl
  by_path (e ∷ fs) a = λ i. cons_option (option_and_then (λ (n : Node). h n e.0) (a.0 i)) (by_path fs a.1 i)

pub dirs_by_path : (t : Tree) → IsLayer t → filter_map (saved_dir_at t) (keys_of t.entries) ≡ dirs_of t.entries
dirs_by_path t ok = by_path dir_part t.entries t.entries (found_each path_cmp_total t.entries ok.sorted_paths)

pub whiteouts_by_path : (t : Tree) → IsLayer t → filter_map (whiteout_at t) (keys_of t.entries) ≡ whiteouts_of t.entries
whiteouts_by_path t ok = by_path (λ (n : Node) (p : Names). path_if (is_whiteout n) p) t.entries t.entries (found_each path_cmp_total t.entries ok.sorted_paths)

pub names_by_path : (t : Tree) → IsLayer t → (k : ℕ) → filter_map (saved_name_at t k) (keys_of t.entries) ≡ file_names k t.entries
names_by_path t ok k = by_path (λ (n : Node) (p : Names). path_if (has_number k n) p) t.entries t.entries (found_each path_cmp_total t.entries ok.sorted_paths)

-- whether a path is a name of the number, by the number that stands there
pub name_here : (t : Tree) (p : Names) (k : ℕ) → number_at t p ≡ Some k → saved_name_at t k p ≡ Some p
name_here t p k is = by (at t p) is
  where
    by : (o : Option Node) → option_and_then number_of o ≡ Some k → option_and_then (λ (n : Node). path_if (has_number k n) p) o ≡ Some p
    by None e = absurd (cc)
    by (Some n) e = ap (λ (b : Bool). path_if b p) (has_its_number k n e)

pub name_other : (t : Tree) (p : Names) (k j : ℕ) → number_at t p ≡ Some j → (k ≡ j → ⊥) → saved_name_at t k p ≡ None
name_other t p k j is apart = by (at t p) is
  where
    by : (o : Option Node) → option_and_then number_of o ≡ Some j → option_and_then (λ (n : Node). path_if (has_number k n) p) o ≡ None
    by None e = refl
    by (Some n) e = ap (λ (b : Bool). path_if b p) (other_name k j n e apart)

pub name_none : (t : Tree) (p : Names) (k : ℕ) → number_at t p ≡ None → saved_name_at t k p ≡ None
name_none t p k is = by (at t p) is
  where
    by : (o : Option Node) → option_and_then number_of o ≡ None → option_and_then (λ (n : Node). path_if (has_number k n) p) o ≡ None
    by None e = refl
    by (Some (Dir meta opaque)) e = refl
    by (Some (File j)) e = absurd (cc)
    by (Some (Symlink j)) e = absurd (cc)
    by (Some Whiteout) e = refl

-- ---- number by number

-- these files, and those of the numbers above, are all
abbrev pub AreFirst : Tree → List SavedFileValue → ℕ → Type 0
AreFirst t files n = files ++ files_of t.entries (above n t.bodies) ≡ files_of t.entries t.bodies

pub AreFirst-none : (t : Tree) → IsLayer t → AreFirst t [] 0
AreFirst-none t ok = ap (files_of t.entries) (above_zero t.bodies (starts_above_zero t.bodies (λ k some. (ok.numbers k some).0)))

-- the next file
pub record NextFile (t : Tree) (files : List SavedFileValue) (n k : ℕ) : Type 0 where
  pub content : Body
  pub there : body t k ≡ Some content
  pub first : AreFirst t (files ++ (record { number = k; body = content; names = file_names k t.entries }) ∷ []) k
  pub higher : n < k
  pub fewer : length (above k t.bodies) < length (above n t.bodies)

pub next_file : (t : Tree) → IsLayer t → (files : List SavedFileValue) (n k : ℕ) → AreFirst t files n → find (λ j. nat_lt n j) (keys_of t.bodies) ≡ Some k → NextFile t files n k
next_file t ok files n k first found =
    let next = above_next n k t.bodies ok.sorted_numbers found in
    let f : SavedFileValue = record { number = k; body = next.body; names = file_names k t.entries } in
    record {
      content = next.body;
      there = next.there;
      first = append_assoc files (f ∷ []) (files_of t.entries (above k t.bodies)) ∙ ap (λ (bs : Bodies). files ++ files_of t.entries bs) (sym next.left) ∙ first;
      higher = next.higher;
      fewer = omega (arith, ap (λ (bs : Bodies). length bs) next.left);
    }

pub AreFirst-all : (t : Tree) (files : List SavedFileValue) (n : ℕ) → AreFirst t files n → find (λ j. nat_lt n j) (keys_of t.bodies) ≡ None → files ≡ files_of t.entries t.bodies
AreFirst-all t files n first none = sym (append-nil files) ∙ ap (λ (bs : Bodies). files ++ files_of t.entries bs) (sym (above_none n t.bodies none)) ∙ first
