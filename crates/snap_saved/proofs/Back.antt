-- A layer that was saved is made again of its parts.
use Rattle.std.proofs.Common.{◌≡◌, ℕ, zero, suc, ◌+◌, ◌<◌, ◌≤◌, Bool, true, false, cond, not, List, [], ◌∷◌, ◌++◌, length, map, take, drop, get_or, Option, Some, None, refl, sym, ap, subst, ◌∙◌, arith}
use Rattle.std.specs.Prelude.{◌&&◌, ◌||◌, ◌==◌, is_some, nat_lt, nat_le, option_and_then, Result, Ok}
use Rattle.std.specs.declared.cmp.Ordering.TheVariants.{Less}
use Rattle.std.specs.Ordering.{is_le, ordering_reverse}
use Rattle.std.specs.List.Sorted.{IsStrictlySortedBy}
use Rattle.std.proofs.lemmas.Bool.Decides.{nat_tests}
use Rattle.std.proofs.lemmas.List.{get_or_default, take_all}
use Rattle.snap_path.specs.Limits.{most_sized_bytes}
use Rattle.snap_path.specs.Text.{Names}
use Rattle.snap_layer.specs.declared.content.Content.{Content}
use Rattle.snap_layer.specs.declared.content.Content.TheVariants.{Bytes, Sized}
use Rattle.snap_layer.specs.declared.node.Meta.{Meta}
use Rattle.snap_layer.specs.declared.node.Node.{Node}
use Rattle.snap_layer.specs.declared.node.Node.TheVariants.{Dir, Whiteout}
use Rattle.snap_layer.specs.declared.node.Body.{Body}
use Rattle.snap_layer.specs.declared.node.Body.TheVariants as body_kinds
use Rattle.snap_layer.specs.Contents.{IsContent, IsDigest}
use Rattle.snap_layer.specs.Counts.{inode_count, most_inodes}
use Rattle.snap_layer.specs.Edits.{root_within, with_entry, with_new, with_next}
use Rattle.snap_layer.specs.Layers.{IsBody, IsLayer, IsMeta, IsWhole}
use Rattle.snap_layer.specs.Tree.{Tree, path_cmp, at, body, leaf_node, number_of, IsDirAt}
use Rattle.snap_layer.proofs.Counting.{inode_count-with_entry}
use Rattle.snap_layer.proofs.Files.{leaf_number}
use Rattle.snap_layer.proofs.Kept.{IsLayer-root_within, IsLayer-with_entry, IsLayer-with_file, IsWhole-same}
use Rattle.snap_layer.proofs.Looks.{SetsBody-with_body}
use Rattle.snap_layer.proofs.Numbers.{IsLayer-raised}
use Rattle.snap_layer.proofs.Paths.{path_cmp_total}
use Rattle.snap_layer.proofs.Replacing.{is_within_yes, name_has_no_inode}
use Rattle.snap_saved.specs.declared.dir.SavedDir.{SavedDir}
use Rattle.snap_saved.specs.declared.error.Fault.TheVariants.{BadMode, BadMost}
use Rattle.snap_saved.specs.declared.error.Part.{Part}
use Rattle.snap_saved.specs.declared.error.Part.TheVariants as parts
use Rattle.snap_saved.specs.declared.error.RestoreError.{RestoreError}
use Rattle.snap_saved.specs.Values.{SavedFileValue, SavedValue}
use Rattle.snap_saved.specs.Saved.{dir_meta, dir_opaque, dir_path, dirs_of, file_names, files_of, saved, whiteouts_of}
use Rattle.snap_saved.specs.Named.{AddsNames}
use Rattle.snap_saved.specs.Refusing.{HasDirsAlone, HasLeastNext, HasNames, HasNext, HasSameDirs, HasSameRoot, IsUnder, LacksNode, LacksNodeWithRoom}
use Rattle.snap_saved.specs.Limits.{is_body, is_content, is_digest, is_meta}
use Rattle.snap_saved.specs.Restored.{◌followed_by◌, fault_if, restored_layer, put_dir, put_dirs, put_each, put_file, put_first, put_name, put_named, put_other_names, put_root, put_whiteout, put_whiteouts, root_of, unless_fault, unsorted, unsorted_from, with_first}
use Rattle.snap_saved.proofs.Adding.{AddsNames-none, dir_added, file_added, first_names, first_put, name_added, new_put, vacant_raised, whiteout_added}
use Rattle.snap_saved.proofs.Fitting.{dir_fits, file_reads, first_fits, has_file, last_body, name_fits, named_file, others_await, under_next, whiteout_fits}
use Rattle.snap_saved.proofs.InTurn.{all_good, all_put, named_goes, sorted_goes, there_put}
use Rattle.snap_saved.proofs.Once.{bodies_back, root_is, saved_once}
use Rattle.snap_saved.proofs.Placing.{dir_put, first_goes, free_is_open, name_goes, whiteout_put}
use Rattle.snap_saved.proofs.Refuting.{body_good, few_new, few_with_entry, fits_vacant, low_number, next_from, next_low, root_good, tight_after}
use Rattle.snap_saved.proofs.Rising.{more_dirs, more_names, more_whiteouts, next_dir, next_name, next_whiteout, parted, take_next}
use Rattle.snap_saved.proofs.Under.{dirs_sorted, names_sorted, root_by, whiteouts_sorted}

-- ---- limits

good_meta : (meta : Meta) → IsMeta meta → is_meta meta ≡ true
good_meta meta low = grind (arith, nat_tests)

good_digest : (d : Option (List ℕ)) → IsDigest d → is_digest d ≡ true
good_digest None short = refl
good_digest (Some d) short = grind (arith, nat_tests)

good_content : (c : Content) → IsContent c → is_content c ≡ true
good_content (Bytes bytes) short = grind (arith, nat_tests)
good_content (Sized size digest) short =
    let few = short.0 in
    let small : nat_le size most_sized_bytes ≡ true = grind (arith, nat_tests) in
    λ i. small i && good_digest digest short.1 i

good_body : (b : Body) → IsBody b → is_body b ≡ true
good_body (body_kinds.File meta content) good = λ i. good_meta meta good.0 i && good_content content good.1 i
good_body (body_kinds.Symlink target) good = good

-- ---- order

after_not_le : (p q : Names) → path_cmp p q ≡ Less → is_le (path_cmp q p) ≡ false
after_not_le p q less = ap is_le (path_cmp_total.antisymm q p ∙ ap ordering_reverse less)

sorted_from : (place : ℕ) (p : Names) (ps : List Names) → IsStrictlySortedBy path_cmp (p ∷ ps) → unsorted_from place p ps ≡ None
unfolding IsStrictlySortedBy unsorted_from
sorted_from place p [] sorted = refl
sorted_from place p (q ∷ ps) sorted = ap (λ (b : Bool). cond b (Some place) (unsorted_from (place + 1) q ps)) (after_not_le p q sorted.0.0) ∙ sorted_from (place + 1) q ps sorted.1

sorted_none : (ps : List Names) → IsStrictlySortedBy path_cmp ps → unsorted ps ≡ None
sorted_none [] sorted = refl
sorted_none (p ∷ ps) sorted = sorted_from 1 p ps sorted

-- ---- the parts of a list one after another

module _ {X : Type 0} (put : ℕ → Tree → X → Result Tree RestoreError) (xs : List X) (any : X) (State : ℕ → Tree → Type 0) (step : (i place : ℕ) (u : Tree) (x : X) → i < length xs → x ≡ get_or xs i x → State i u → (v : Tree) × (put place u x ≡ Ok v) × State (i + 1) v) where
  puts_left : (n i place : ℕ) → i + n ≡ length xs → (u : Tree) → State i u → (v : Tree) × (put_each put place u (drop i xs) ≡ Ok v) × State (length xs) v
  puts_left zero i place end u state = let all : i ≡ length xs = omega (arith, end) in (u, all_put put place u xs i (omega (arith, all)), subst (λ (k : ℕ). State k u) all state)
  puts_left (suc n) i place end u state =
      let lt : i < length xs = omega (arith, end) in
      let x = get_or xs i any in
      let is : x ≡ get_or xs i x = get_or_default xs i any x lt in
      let one = step i place u x lt is state in
      let more = puts_left n (i + 1) (place + 1) (omega (arith, end)) one.0 one.2 in
      (more.0, sym (there_put put place u xs i x lt is one.0 one.1) ∙ more.1, more.2)

  puts_all : (place : ℕ) (u : Tree) → State 0 u → (v : Tree) × (put_each put place u xs ≡ Ok v) × State (length xs) v
  puts_all place u state = puts_left (length xs) 0 place (omega arith) u state

-- ---- a part that fits

module _ (u t : Tree) (oku : IsLayer u) (okt : IsLayer t) where
  node_put : (p : Names) (n : Node) → LacksNode u t p n → IsWhole u n → inode_count (with_entry u p n) ≤ u.most → IsLayer (with_entry u p n)
  node_put p n lacks whole few =
      let vacant = fits_vacant u t oku okt p n lacks in
      IsLayer-with_entry u p n oku (record {
        no_number = ap (option_and_then number_of) lacks.free;
        stays = λ dir. absurd (subst IsDirAt lacks.free dir);
        parent = vacant.above.parent;
        root = λ e. absurd (vacant.above.below_root e);
        path = okt.paths p (ap is_some lacks.node);
        whole = whole;
        few = few;
      })

  dir_goes : (part : Part) (d : SavedDir) → LacksNodeWithRoom u t d.path (Dir d.meta d.opaque) → (put_dir part u d ≡ Ok (with_entry u d.path (Dir d.meta d.opaque))) × IsLayer (with_entry u d.path (Dir d.meta d.opaque))
  dir_goes part d more =
      let n : Node = Dir d.meta d.opaque in
      let low : IsMeta d.meta = okt.nodes d.path n more.fits.node in
      let few = few_with_entry u t oku okt d.path n more (omega arith) in (
        dir_put part u d (good_meta d.meta low) (free_is_open u d.path (fits_vacant u t oku okt d.path n more.fits)) (is_within_yes (with_entry u d.path n) few oku.next.1),
        node_put d.path n more.fits low few,
      )

  whiteout_goes : (part : Part) (p : Names) → LacksNodeWithRoom u t p Whiteout → (put_whiteout part u p ≡ Ok (with_entry u p Whiteout)) × IsLayer (with_entry u p Whiteout)
  whiteout_goes part p more =
      let few = few_with_entry u t oku okt p Whiteout more (omega arith) in (
        whiteout_put part u p (free_is_open u p (fits_vacant u t oku okt p Whiteout more.fits)) (is_within_yes (with_entry u p Whiteout) few oku.next.1),
        node_put p Whiteout more.fits tt few,
      )

  -- a name of a number that has its body in both
  module _ (k : ℕ) (b : Body) (p : Names) (lacks : LacksNode u t p (leaf_node k b)) (there : body t k ≡ Some b) where
    of_number : (j : ℕ) → number_of (leaf_node k b) ≡ Some j → k ≡ j
    of_number j is = let same : Some k ≡ Some j = sym (leaf_number k b) ∙ is in cc

    name_there : body u k ≡ Some b → IsLayer (with_entry u p (leaf_node k b))
    name_there has =
        let same : (j : ℕ) → number_of (leaf_node k b) ≡ Some j → body u j ≡ body t j = λ j is. ap (body u) (sym (of_number j is)) ∙ has ∙ sym there ∙ ap (body t) (of_number j is) in
        node_put p (leaf_node k b) lacks (IsWhole-same t u (leaf_node k b) same (okt.nodes p (leaf_node k b) lacks.node))
        (omega (arith, inode_count-with_entry u p (leaf_node k b) oku.sorted_paths, name_has_no_inode (leaf_node k b) k (leaf_number k b), oku.few))

-- ---- a file or symlink with its names

-- its first name is there
record IsBegun (u v t : Tree) (f : SavedFileValue) (first : Names) (others : List Names) : Type 0 where
  layer : IsLayer v
  bodies : v.bodies ≡ u.bodies ++ (f.number, f.body) ∷ []
  named : AddsNames f.number u.entries v.entries (first ∷ [])
  await : HasNames v t f.number others

module _ (u t : Tree) (oku : IsLayer u) (okt : IsLayer t) (f : SavedFileValue) (next : HasNext u t f) (first : Names) (others : List Names) (splits : f.names ≡ first ∷ others) where
  there : body t f.number ≡ Some f.body
  there = (file_reads t okt f (has_file u t oku okt f next)).0

  lacks : LacksNodeWithRoom u t first (leaf_node f.number f.body)
  lacks = first_fits u t oku okt f next first others splits

  raised : IsLayer (with_next u f.number)
  raised = let low = low_number t okt f.number f.body there in IsLayer-raised u oku f.number next.free (omega (arith, low))

  edit : with_new (with_next u f.number) first (leaf_node f.number f.body) f.body ≡ with_first f.number f.body u first
  edit = new_put (with_next u f.number) raised first (vacant_raised u f.number first (fits_vacant u t oku okt first (leaf_node f.number f.body) lacks.fits)) f.body

  few : inode_count (with_first f.number f.body u first) ≤ u.most
  few = subst (λ (w : Tree). inode_count w ≤ u.most) edit (few_new u t f.number f.body first raised okt there lacks)

  begun_layer : IsLayer (with_first f.number f.body u first)
  begun_layer =
      let k = f.number in
      let b = f.body in
      let n = leaf_node k b in
      let v = with_first k b u first in
      let vacant = fits_vacant u t oku okt first n lacks.fits in
      let its : body v k ≡ Some b = (SetsBody-with_body (with_entry u first n) k b).here in
      let of_number : (j : ℕ) → number_of n ≡ Some j → k ≡ j = λ j is. let same : Some k ≡ Some j = sym (leaf_number k b) ∙ is in cc in
      let same : (j : ℕ) → number_of n ≡ Some j → body v j ≡ body t j = λ j is. ap (body v) (sym (of_number j is)) ∙ its ∙ sym there ∙ ap (body t) (of_number j is) in
      IsLayer-with_file (with_next u k) first n b raised (record {
        empty = vacant.none;
        above = record { below_root = vacant.above.below_root; parent = vacant.above.parent };
        path = okt.paths first (ap is_some lacks.fits.node);
        number = leaf_number k b;
        whole = IsWhole-same t v n same (okt.nodes first n lacks.fits.node);
        last = low_number t okt k b there;
        few = few;
      })

  begun : IsBegun u (with_first f.number f.body u first) t f first others
  begun =
      let v = with_first f.number f.body u first in
      let one = first_put u v f.number f.body first oku raised (fits_vacant u t oku okt first (leaf_node f.number f.body) lacks.fits) next.free (sym edit) in
      record { layer = begun_layer; bodies = one.bodies; named = one.named; await = others_await u t oku okt f next first others splits v begun_layer one.bodies one.named }

  first_put_there : (part : Part) → put_first part f.number f.body u first ≡ Ok (with_first f.number f.body u first)
  first_put_there part =
      first_goes part u first (free_is_open u first (fits_vacant u t oku okt first (leaf_node f.number f.body) lacks.fits)) f.number f.body next.free (good_body f.body (body_good t okt f.number f.body there))
      (is_within_yes (with_first f.number f.body u first) few (low_number t okt f.number f.body there))

-- the names after the first
record IsNamed (u0 t : Tree) (k : ℕ) (ps : List Names) (i : ℕ) (u : Tree) : Type 0 where
  layer : IsLayer u
  named : AddsNames k u0.entries u.entries (take i ps)
  under : IsUnder u t
  rest : u ≡ record u0 { entries = u.entries }

module _ (u0 t : Tree) (ok0 : IsLayer u0) (okt : IsLayer t) (file k : ℕ) (ps : List Names) (await : HasNames u0 t k ps) (there : body t k ≡ Some await.content) (sorted : IsStrictlySortedBy path_cmp (file_names k u0.entries ++ ps)) where
  name_step : (i place : ℕ) (u : Tree) (p : Names) → i < length ps → p ≡ get_or ps i p → IsNamed u0 t k ps i u → (v : Tree) × (put_name (parts.Name file place) k await.content u p ≡ Ok v) × IsNamed u0 t k ps (i + 1) v
  name_step i place u p lt is was =
      let n = leaf_node k await.content in
      let v = with_entry u p n in
      let fits = name_fits u0 u t k ps i p lt is await was.named was.under sorted in
      let vacant = fits_vacant u t was.layer okt p n fits in
      let has : body u k ≡ Some await.content = ap (λ (x : Tree). body x k) was.rest ∙ await.there in (
        v,
        name_goes (parts.Name file place) u p (free_is_open u p vacant) k await.content,
        record {
          layer = name_there u t was.layer okt k await.content p fits there has;
          named = more_names u0 u k ps i p lt is was.named v (name_added u was.layer p vacant k await.content (next_name u0 u k ps i p lt is was.named sorted));
          under = under_next u0 u t k ps i p lt is await was.named was.under sorted v refl;
          rest = ap (λ (x : Tree). record x { entries = v.entries }) was.rest;
        },
      )

  names_put : (v : Tree) × (put_other_names file k await.content u0 ps ≡ Ok v) × IsNamed u0 t k ps (length ps) v
  names_put = puts_all (λ (place : ℕ). put_name (parts.Name file place) k await.content) ps [] (λ (i : ℕ) (u : Tree). IsNamed u0 t k ps i u) name_step 1 u0 (record { layer = ok0; named = AddsNames-none k u0.entries; under = await.under; rest = refl })

-- the file or symlink is put after the others
record IsFiled (u : Tree) (f : SavedFileValue) (v : Tree) : Type 0 where
  layer : IsLayer v
  is : saved v ≡ record (saved u) { files = files_of u.entries u.bodies ++ f ∷ []; next = v.next }
  next : v.next ≡ f.number + 1

module _ (u t : Tree) (oku : IsLayer u) (okt : IsLayer t) (f : SavedFileValue) (next : HasNext u t f) (place : ℕ) where
  reads : (body t f.number ≡ Some f.body) × (file_names f.number t.entries ≡ f.names)
  reads = file_reads t okt f (has_file u t oku okt f next)

  file_put : (v : Tree) × (put_file place u f ≡ Ok v) × IsFiled u f v
  file_put = by f.names refl
    where
      by : (ps : List Names) → f.names ≡ ps → (v : Tree) × (put_file place u f ≡ Ok v) × IsFiled u f v
      by [] none = absurd (named_file t okt f (has_file u t oku okt f next) none)
      by (first ∷ others) splits =
          let k = f.number in
          let b = f.body in
          let v = with_first k b u first in
          let begins = begun u t oku okt f next first others splits in
          let sorted : IsStrictlySortedBy path_cmp (first ∷ others) = subst (IsStrictlySortedBy path_cmp) (reads.1 ∙ splits) (names_sorted t okt k) in
          let alone : file_names k v.entries ≡ first ∷ [] = first_names u v k first oku next.free begins.named in
          let rising : IsStrictlySortedBy path_cmp (file_names k v.entries ++ others) = subst (λ (l : List Names). IsStrictlySortedBy path_cmp (l ++ others)) (sym alone) sorted in
          let told : Some begins.await.content ≡ Some b = sym begins.await.there ∙ last_body u.bodies v begins.layer k b begins.bodies in
          let content : begins.await.content ≡ b = cc in
          let all = names_put v t begins.layer okt place k others begins.await (reads.0 ∙ ap (λ (c : Body). Some c) (sym content)) rising in
          let w = all.0 in
          let named : AddsNames k v.entries w.entries others = subst (AddsNames k v.entries w.entries) (take_all (length others) others (omega arith)) all.2.named in
          let its : record { number = k; body = b; names = first ∷ others } ≡ f = (λ i. record { number = k; body = b; names = sym splits i }) in (
            w,
            ap (put_named place k b u) splits
                ∙ named_goes place k b u first others (sorted_none (first ∷ others) sorted) v (first_put_there u t oku okt f next first others splits (parts.File place))
                ∙ ap (λ (c : Body). put_other_names place k c v others) (sym content)
                ∙ all.1,
            record {
              layer = all.2.layer;
              is = file_added u v w oku k b first others next.free begins.bodies refl begins.named named all.2.rest ∙ (λ i. record (saved u) { files = files_of u.entries u.bodies ++ its i ∷ []; next = w.next });
              next = ap (λ (x : Tree). x.next) all.2.rest;
            },
          )

-- ---- the lists

-- a layer with this saved form
record IsSavedAs (s : SavedValue) (u : Tree) : Type 0 where
  layer : IsLayer u
  is : saved u ≡ s

-- the first files are there
record IsFilling (u0 : Tree) (fs : List SavedFileValue) (i : ℕ) (u : Tree) : Type 0 where
  layer : IsLayer u
  is : saved u ≡ record (saved u0) { files = take i fs; next = u.next }
  tight : HasLeastNext u

module _ (u0 t : Tree) (ok0 : IsLayer u0) (okt : IsLayer t) where
  module _ (had : HasSameDirs u0 t) (fs : List SavedFileValue) (whole : files_of t.entries t.bodies ≡ fs) where
    file_step : (i place : ℕ) (u : Tree) (f : SavedFileValue) → i < length fs → f ≡ get_or fs i f → IsFilling u0 fs i u → (v : Tree) × (put_file place u f ≡ Ok v) × IsFilling u0 fs (i + 1) v
    file_step i place u f lt is was =
        let next = next_from u0 u t ok0 was.layer okt had (take i fs) f (drop (i + 1) fs) was.is (whole ∙ parted fs i f lt is) was.tight in
        let one = file_put u t was.layer okt f next place in
        let v = one.0 in (
          v,
          one.1,
          record {
            layer = one.2.layer;
            is = one.2.is ∙ (λ j. record (was.is j) { files = (was.is j).files ++ f ∷ []; next = v.next }) ∙ (λ j. record (saved u0) { files = sym (take_next fs i f lt is) j; next = v.next });
            tight = tight_after u v f one.2.is one.2.next;
          },
        )

    files_put : files_of u0.entries u0.bodies ≡ [] → HasLeastNext u0 → (v : Tree) × (put_each put_file 0 u0 fs ≡ Ok v) × IsFilling u0 fs (length fs) v
    files_put none tight =
        let any : SavedFileValue = record { number = 0; body = body_kinds.Symlink []; names = [] } in
        puts_all put_file fs any (λ (i : ℕ) (u : Tree). IsFilling u0 fs i u) file_step 0 u0 (record { layer = ok0; is = (λ j. record (saved u0) { files = none j }); tight = tight })

  module _ (bare : HasDirsAlone u0) (akin : HasSameRoot u0 t) where
    dir_step : (ds : List SavedDir) → dirs_of t.entries ≡ ds → IsStrictlySortedBy path_cmp (map dir_path ds) → (i place : ℕ) (u : Tree) (d : SavedDir) → i < length ds → d ≡ get_or ds i d
        → IsSavedAs (record (saved u0) { dirs = take i ds }) u → (v : Tree) × (put_dir (parts.Dir place) u d ≡ Ok v) × IsSavedAs (record (saved u0) { dirs = take (i + 1) ds }) v
    dir_step ds whole sorted i place u d lt is was =
        let n : Node = Dir d.meta d.opaque in
        let v = with_entry u d.path n in
        let fits = dir_fits u0 u t ok0 was.layer okt bare akin ds i d lt is whole was.is sorted in
        let goes = dir_goes u t was.layer okt (parts.Dir place) d fits in
        let vacant = fits_vacant u t was.layer okt d.path n fits.fits in
        (v, goes.0, record { layer = goes.1; is = more_dirs u0 u ds i d lt is was.is v (dir_added u was.layer d.path vacant d refl (next_dir u0 u ds i d lt is was.is sorted)) })

    whiteout_step : dirs_of u0.entries ≡ dirs_of t.entries → (ps : List Names) → whiteouts_of t.entries ≡ ps → IsStrictlySortedBy path_cmp ps → (i place : ℕ) (u : Tree) (p : Names) → i < length ps → p ≡ get_or ps i p
        → IsSavedAs (record (saved u0) { whiteouts = take i ps }) u → (v : Tree) × (put_whiteout (parts.Whiteout place) u p ≡ Ok v) × IsSavedAs (record (saved u0) { whiteouts = take (i + 1) ps }) v
    whiteout_step dirs ps whole sorted i place u p lt is was =
        let v = with_entry u p Whiteout in
        let fits = whiteout_fits u0 u t ok0 was.layer okt bare akin dirs ps i p lt is whole was.is sorted in
        let goes = whiteout_goes u t was.layer okt (parts.Whiteout place) p fits in
        let vacant = fits_vacant u t was.layer okt p Whiteout fits.fits in
        (v, goes.0, record { layer = goes.1; is = more_whiteouts u0 u ps i p lt is was.is v (whiteout_added u was.layer p vacant (next_whiteout u0 u ps i p lt is was.is sorted)) })

    dirs_put : dirs_of u0.entries ≡ [] → (v : Tree) × (put_dirs u0 (dirs_of t.entries) ≡ Ok v) × IsSavedAs (record (saved u0) { dirs = dirs_of t.entries }) v
    dirs_put none =
        let ds = dirs_of t.entries in
        let sorted = dirs_sorted t okt in
        let any : SavedDir = record { path = []; meta = record { mode = 0 }; opaque = false } in
        let put = λ (place : ℕ). put_dir (parts.Dir place) in
        let State = λ (i : ℕ) (u : Tree). IsSavedAs (record (saved u0) { dirs = take i ds }) u in
        let all = puts_all put ds any State (dir_step ds refl sorted) 0 u0 (record { layer = ok0; is = (λ j. record (saved u0) { dirs = none j }) }) in (
          all.0,
          sorted_goes parts.Dir (map dir_path ds) u0 (λ (w : Tree). put_each put 0 w ds) (sorted_none (map dir_path ds) sorted) ∙ all.1,
          record { layer = all.2.layer; is = all.2.is ∙ (λ j. record (saved u0) { dirs = take_all (length ds) ds (omega arith) j }) },
        )

    whiteouts_put : dirs_of u0.entries ≡ dirs_of t.entries → (v : Tree) × (put_whiteouts u0 (whiteouts_of t.entries) ≡ Ok v) × IsSavedAs (record (saved u0) { whiteouts = whiteouts_of t.entries }) v
    whiteouts_put dirs =
        let ps = whiteouts_of t.entries in
        let sorted = whiteouts_sorted t okt in
        let put = λ (place : ℕ). put_whiteout (parts.Whiteout place) in
        let State = λ (i : ℕ) (u : Tree). IsSavedAs (record (saved u0) { whiteouts = take i ps }) u in
        let all = puts_all put ps [] State (whiteout_step dirs ps refl sorted) 0 u0 (record { layer = ok0; is = (λ j. record (saved u0) { whiteouts = bare.whiteouts j }) }) in (
          all.0,
          sorted_goes parts.Whiteout ps u0 (λ (w : Tree). put_each put 0 w ps) (sorted_none ps sorted) ∙ all.1,
          record { layer = all.2.layer; is = all.2.is ∙ (λ j. record (saved u0) { whiteouts = take_all (length ps) ps (omega arith) j }) },
        )

-- ---- the whole

module _ (t : Tree) (ok : IsLayer t) where
  root_layer : IsLayer (root_of (dir_meta (at t [])) (dir_opaque (at t [])) t.most)
  root_layer =
      let meta = dir_meta (at t []) in
      let path = ok.paths [] (ap is_some (root_is (at t []) ok.root)) in
      let bare = IsLayer-root_within t.most meta 1 ok.most (root_good t ok) (omega arith) (omega arith) path in
      IsLayer-with_entry (root_within t.most meta 1) [] (Dir meta (dir_opaque (at t []))) bare (record {
        no_number = refl;
        stays = λ dir. refl;
        parent = λ q m e. absurd (longer q m e);
        root = λ e. refl;
        path = path;
        whole = root_good t ok;
        few = ok.most.0;
      })
    where
      longer : (q : Names) (m : List ℕ) → [] ≡ q ++ m ∷ [] → ⊥
      longer [] m e = cc
      longer (x ∷ q) m e = cc

  root_put : put_root (dir_meta (at t [])) (dir_opaque (at t [])) t.most ≡ Ok (root_of (dir_meta (at t [])) (dir_opaque (at t [])) t.most)
  root_put =
      let meta = dir_meta (at t []) in
      let r = root_of meta (dir_opaque (at t [])) t.most in
      let least = ok.most.0 in
      let most = ok.most.1 in
      let good = good_meta meta (root_good t ok) in
      let within : (t.most == 0 || nat_lt most_inodes t.most) ≡ false = grind (arith, nat_tests) in
      λ i. unless_fault parts.Root (fault_if (not (good i)) BadMode ∷ []) r followed_by λ u. unless_fault parts.Most (fault_if (within i) BadMost ∷ []) u

-- the parts of a layer make it again
pub layer_of_saved : (t : Tree) → IsLayer t → restored_layer (saved t) ≡ Ok t
layer_of_saved t ok =
    let s = saved t in
    let r = root_of s.meta s.opaque s.most in
    let okr = root_layer t ok in
    let akin : HasSameRoot r t = record { root = sym (root_is (at t []) ok.root); most = refl } in
    let dirs = dirs_put r t okr ok (record { whiteouts = refl; files = refl }) akin refl in
    let d = dirs.0 in
    let none : files_of d.entries d.bodies ≡ [] = ap (λ (x : SavedValue). x.files) dirs.2.is in
    let no_bodies : d.bodies ≡ [] = sym (bodies_back d.entries d.bodies) ∙ ap (map (λ (f : SavedFileValue). let b : ℕ × Body = (f.number, f.body) in b)) none in
    let d_akin : HasSameRoot d t = record { root = root_by d t dirs.2.layer ok (ap (λ (x : SavedValue). x.meta) dirs.2.is) (ap (λ (x : SavedValue). x.opaque) dirs.2.is); most = ap (λ (x : SavedValue). x.most) dirs.2.is } in
    let whiteouts = whiteouts_put d t dirs.2.layer ok (record { whiteouts = ap (λ (x : SavedValue). x.whiteouts) dirs.2.is; files = no_bodies }) d_akin (ap (λ (x : SavedValue). x.dirs) dirs.2.is) in
    let w = whiteouts.0 in
    let both : saved w ≡ record (saved r) { dirs = s.dirs; whiteouts = s.whiteouts } = whiteouts.2.is ∙ (λ j. record (dirs.2.is j) { whiteouts = s.whiteouts }) in
    let had : HasSameDirs w t = record {
      akin = record { root = root_by w t whiteouts.2.layer ok (ap (λ (x : SavedValue). x.meta) both) (ap (λ (x : SavedValue). x.opaque) both); most = ap (λ (x : SavedValue). x.most) both };
      dirs = ap (λ (x : SavedValue). x.dirs) both;
      whiteouts = ap (λ (x : SavedValue). x.whiteouts) both;
    } in
    let first : w.next ≡ 1 = ap (λ (x : SavedValue). x.next) both in
    let files = files_put w t whiteouts.2.layer ok had s.files refl (ap (λ (x : SavedValue). x.files) both) (λ k least all. omega (arith, first, least)) in
    let v = files.0 in
    let all : saved v ≡ record (saved w) { files = s.files; next = v.next } = files.2.is ∙ (λ j. record (saved w) { files = take_all (length s.files) s.files (omega arith) j; next = v.next }) in
    let low : v.next ≤ t.next = next_low t v ok files.2.tight (ap (λ (x : SavedValue). x.files) all) in
    let whole : saved (with_next v t.next) ≡ saved t = (λ j. record (all j) { next = t.next }) ∙ (λ j. record (both j) { files = s.files; next = t.next }) in
    all_good s r (root_put t ok) d dirs.1 w whiteouts.1 v files.1 low
    ∙ ap (λ (x : Tree). Ok x) (saved_once (with_next v t.next) t (IsLayer-raised v files.2.layer t.next low ok.next.1) ok whole)
