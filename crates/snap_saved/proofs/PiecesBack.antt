-- The pieces of a saved layer make it again.
use Rattle.std.proofs.Common.{◌≡◌, ℕ, zero, suc, ◌+◌, ◌≤◌, Bool, true, cond, List, [], ◌∷◌, ◌++◌, length, map, take, drop, Some, refl, sym, ap, ◌∙◌, arith, append_assoc, append-nil, length-append, length-drop}
use Rattle.std.specs.Prelude.{nat_le, option_and_then, Result, Ok, Err}
use Rattle.std.specs.Cmp.{nat_cmp_total}
use Rattle.std.specs.List.{AllByRecursion, flat_map, fold}
use Rattle.std.specs.Map.{lookup}
use Rattle.std.specs.BTreeMap.{is_at}
use Rattle.std.specs.Ordering.{nat_cmp}
use Rattle.std.specs.Result.{result_ok}
use Rattle.std.proofs.lemmas.Bool.Decides.{nat_tests}
use Rattle.std.proofs.lemmas.List.{take-append-drop}
use Rattle.std.proofs.lemmas.List.Sums.{fold-append}
use Rattle.snap_path.specs.Limits.{most_file_bytes}
use Rattle.snap_path.specs.Text.{Names}
use Rattle.snap_layer.specs.declared.content.Content.TheVariants as contents
use Rattle.snap_layer.specs.declared.node.Body.{Body}
use Rattle.snap_layer.specs.declared.node.Body.TheVariants as bodies
use Rattle.snap_layer.specs.declared.node.Meta.{Meta}
use Rattle.snap_layer.specs.Layers.{IsBody, IsLayer}
use Rattle.snap_layer.specs.Tree.{Tree, Bodies}
use Rattle.snap_layer.proofs.Inside.{found_each}
use Rattle.snap_saved.specs.declared.dir.SavedDir.{SavedDir}
use Rattle.snap_saved.specs.declared.error.PieceError.{PieceError}
use Rattle.snap_saved.specs.declared.error.PieceError.TheVariants.{TooBig}
use Rattle.snap_saved.specs.declared.error.RestoreError.{RestoreError}
use Rattle.snap_saved.specs.declared.piece.Piece.{Piece}
use Rattle.snap_saved.specs.declared.piece.Piece.TheVariants as piece_kinds
use Rattle.snap_saved.specs.Values.{SavedFileValue, SavedValue}
use Rattle.snap_saved.specs.Saved.{files_of, saved}
use Rattle.snap_saved.specs.Restored.{restored_layer}
use Rattle.snap_saved.specs.Pieces.{GatheringValue, begun_layer, bytes_in_at_most, file_closed, file_pieces, gathered_parts, gathered_layer, head_of, in_file, layer_of_pieces, pieces_of, with_next_piece, with_pieces}
use Rattle.snap_saved.proofs.Back.{layer_of_saved}
use Rattle.snap_saved.proofs.Refuting.{body_good}

-- what pieces make of what is gathered, or the error that came before
abbrev after : Result GatheringValue PieceError → List Piece → Result GatheringValue PieceError
after r ps = fold with_next_piece r ps

after_both : (ps qs : List Piece) (r : Result GatheringValue PieceError) → after r (ps ++ qs) ≡ after (after r ps) qs
after_both ps qs r = fold-append with_next_piece r ps qs

-- ---- directories and whiteouts

dirs_put : (ds : List SavedDir) (g : GatheringValue) → after (Ok g) (map piece_kinds.Dir ds) ≡ Ok (record g { parts = record g.parts { dirs = g.parts.dirs ++ ds } })
dirs_put [] g = λ i. Ok (record g { parts = record g.parts { dirs = sym (append-nil g.parts.dirs) i } })
dirs_put (d ∷ ds) g = dirs_put ds (record g { parts = record g.parts { dirs = g.parts.dirs ++ d ∷ [] } }) ∙ (λ i. Ok (record g { parts = record g.parts { dirs = append_assoc g.parts.dirs (d ∷ []) ds i } }))

whiteouts_put : (ps : List Names) (g : GatheringValue) → after (Ok g) (map piece_kinds.Whiteout ps) ≡ Ok (record g { parts = record g.parts { whiteouts = g.parts.whiteouts ++ ps } })
whiteouts_put [] g = λ i. Ok (record g { parts = record g.parts { whiteouts = sym (append-nil g.parts.whiteouts) i } })
whiteouts_put (p ∷ ps) g = whiteouts_put ps (record g { parts = record g.parts { whiteouts = g.parts.whiteouts ++ p ∷ [] } }) ∙ (λ i. Ok (record g { parts = record g.parts { whiteouts = append_assoc g.parts.whiteouts (p ∷ []) ps i } }))

-- ---- a file or symlink

-- a file of bytes that has begun
abbrev with_file : GatheringValue → ℕ → Meta → List ℕ → GatheringValue
with_file g number meta bs = record g { file = Some (record { number = number; body = bodies.File meta (contents.Bytes bs); names = [] }) }

-- the next bytes of them fit, and so do the others after these
record GoesOn (had first rest bs : List ℕ) : Type 0 where
  test : nat_le (length had + length first) most_file_bytes ≡ true
  fits : length (had ++ first) + length rest ≤ most_file_bytes
  joined : (had ++ first) ++ rest ≡ had ++ bs

goes_on : (had first rest bs : List ℕ) → first ++ rest ≡ bs → length had + length bs ≤ most_file_bytes → GoesOn had first rest bs
goes_on had first rest bs is fits =
    let whole : length first + length rest ≡ length bs = sym (length-append first rest) ∙ ap length is in
    record {
      test = low_test (length had + length first) (omega arith);
      fits = omega (arith, length-append had first);
      joined = append_assoc had first rest ∙ ap (λ (l : List ℕ). had ++ l) is;
    }
  where
    low_test : (k : ℕ) → k ≤ most_file_bytes → nat_le k most_file_bytes ≡ true
    low_test k low = grind (arith, nat_tests)

fewer_left : (k n b : ℕ) (bs : List ℕ) → length (b ∷ bs) ≤ suc n → length (drop (suc k) (b ∷ bs)) ≤ n
fewer_left k n b bs few = omega (arith, length-drop k bs)

bytes_put : (n : ℕ) (bs : List ℕ) (g : GatheringValue) (number : ℕ) (meta : Meta) (had : List ℕ) → length bs ≤ n → length had + length bs ≤ most_file_bytes → after (Ok (with_file g number meta had)) (map piece_kinds.Bytes (bytes_in_at_most n bs)) ≡ Ok (with_file g number meta (had ++ bs))
unfolding bytes_in_at_most
bytes_put zero [] g number meta had few fits = λ i. Ok (with_file g number meta (sym (append-nil had) i))
bytes_put zero (b ∷ bs) g number meta had few fits = absurd (omega arith)
bytes_put (suc n) [] g number meta had few fits = λ i. Ok (with_file g number meta (sym (append-nil had) i))
bytes_put (suc n) (b ∷ bs) g number meta had few fits =
    let first = take 262144 (b ∷ bs) in
    let rest = drop 262144 (b ∷ bs) in
    let on = goes_on had first rest (b ∷ bs) (take-append-drop 262144 (b ∷ bs)) fits in
    let goes = λ (t : Bool). after (in_file (with_file g number meta had) (cond t (Ok (record { number = number; body = bodies.File meta (contents.Bytes (had ++ first)); names = [] })) (Err TooBig))) (map piece_kinds.Bytes (bytes_in_at_most n rest)) in
    ap goes on.test
    ∙ bytes_put n rest g number meta (had ++ first) (fewer_left 262143 n b bs few) on.fits
    ∙ (λ i. Ok (with_file g number meta (on.joined i)))

names_put : (ps : List Names) (g : GatheringValue) (f : SavedFileValue) → after (Ok (record g { file = Some f })) (map piece_kinds.Name ps) ≡ Ok (record g { file = Some (record f { names = f.names ++ ps }) })
names_put [] g f = λ i. Ok (record g { file = Some (record f { names = sym (append-nil f.names) i }) })
names_put (p ∷ ps) g f = names_put ps g (record f { names = f.names ++ p ∷ [] }) ∙ (λ i. Ok (record g { file = Some (record f { names = append_assoc f.names (p ∷ []) ps i }) }))

file_put : (number : ℕ) (b : Body) (names : List Names) (g : GatheringValue) → IsBody b → after (Ok g) (file_pieces (record { number = number; body = b; names = names })) ≡ Ok (record (file_closed g) { file = Some (record { number = number; body = b; names = names }) })
file_put number (bodies.File meta (contents.Bytes bs)) names g good =
    let cut = map piece_kinds.Bytes (bytes_in_at_most (length bs) bs) in
    let begun = with_file (file_closed g) number meta [] in
    after_both cut (map piece_kinds.Name names) (Ok begun)
    ∙ ap (λ (r : Result GatheringValue PieceError). after r (map piece_kinds.Name names)) (bytes_put (length bs) bs (file_closed g) number meta [] (omega arith) (omega (arith, good.1)))
    ∙ names_put names (file_closed g) (record { number = number; body = bodies.File meta (contents.Bytes bs); names = [] })
file_put number (bodies.File meta (contents.Sized size digest)) names g good = names_put names (file_closed g) (record { number = number; body = bodies.File meta (contents.Sized size digest); names = [] })
file_put number (bodies.Symlink target) names g good = names_put names (file_closed g) (record { number = number; body = bodies.Symlink target; names = [] })

-- ---- all of them

abbrev HasGoodBody : SavedFileValue → Type 0
HasGoodBody f = IsBody f.body

files_put : (fs : List SavedFileValue) (g : GatheringValue) → AllByRecursion HasGoodBody fs → (h : GatheringValue) × (after (Ok g) (flat_map file_pieces fs) ≡ Ok h) × (gathered_parts h ≡ record (gathered_parts g) { files = (gathered_parts g).files ++ fs })
files_put [] g good = (g, refl, λ i. record (gathered_parts g) { files = sym (append-nil (gathered_parts g).files) i })
files_put (f ∷ fs) g good =
    let more = files_put fs (record (file_closed g) { file = Some f }) good.1 in (
      more.0,
      after_both (file_pieces f) (flat_map file_pieces fs) (Ok g)
          ∙ ap (λ (r : Result GatheringValue PieceError). after r (flat_map file_pieces fs)) (file_put f.number f.body f.names g good.0)
          ∙ more.1,
      more.2 ∙ (λ i. record (gathered_parts g) { files = append_assoc (gathered_parts g).files (f ∷ []) fs i }),
    )

-- what is gathered of the pieces of a saved layer
pieces_gathered : (s : SavedValue) → AllByRecursion HasGoodBody s.files → (g : GatheringValue) × (with_pieces (begun_layer (head_of s)) (pieces_of s) ≡ Ok g) × (gathered_parts g ≡ s)
pieces_gathered s good =
    let ds = map piece_kinds.Dir s.dirs in
    let ws = map piece_kinds.Whiteout s.whiteouts in
    let fs = flat_map file_pieces s.files in
    let begun = begun_layer (head_of s) in
    let with_dirs = record begun { parts = record begun.parts { dirs = s.dirs } } in
    let with_whiteouts = record with_dirs { parts = record with_dirs.parts { whiteouts = s.whiteouts } } in
    let files = files_put s.files with_whiteouts good in (
      files.0,
      after_both (ds ++ ws) fs (Ok begun)
          ∙ ap (λ (r : Result GatheringValue PieceError). after r fs) (after_both ds ws (Ok begun) ∙ ap (λ (r : Result GatheringValue PieceError). after r ws) (dirs_put s.dirs begun) ∙ whiteouts_put s.whiteouts with_dirs)
          ∙ files.1,
      files.2,
    )

module _ (t : Tree) (ok : IsLayer t) where
  bodies_good : (bs : Bodies) → AllByRecursion (λ (e : ℕ × Body). lookup (is_at (nat_cmp e.0)) t.bodies ≡ Some e.1) bs → AllByRecursion HasGoodBody (files_of t.entries bs)
  bodies_good [] all = tt
  bodies_good (e ∷ bs) all = (body_good t ok e.0 e.1 all.0, bodies_good bs all.1)

-- what is gathered of the pieces of a layer makes it again
pub layer_gathered : (t : Tree) → IsLayer t → (g : GatheringValue) × (with_pieces (begun_layer (head_of (saved t))) (pieces_of (saved t)) ≡ Ok g) × (gathered_layer g ≡ Ok t)
layer_gathered t ok =
    let all = pieces_gathered (saved t) (bodies_good t ok t.bodies (found_each nat_cmp_total t.bodies ok.sorted_numbers)) in
    (all.0, all.1, ap restored_layer all.2 ∙ layer_of_saved t ok)

-- the pieces of a layer make it again
pub pieces_back : (t : Tree) → IsLayer t → layer_of_pieces (head_of (saved t)) (pieces_of (saved t)) ≡ Some t
pieces_back t ok =
    let made = layer_gathered t ok in
    ap (λ (r : Result GatheringValue PieceError). option_and_then (λ (g : GatheringValue). result_ok (gathered_layer g)) (result_ok r)) made.1
    ∙ ap (λ (r : Result Tree RestoreError). result_ok r) made.2
