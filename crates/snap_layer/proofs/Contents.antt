-- A file that an edit changes in place.
use Rattle.std.proofs.Common.{◌≡◌, ℕ, ◌+◌, ◌-◌, ◌≤◌, ◌<◌, ◌==◌, Bool, true, false, not, max, List, [], ◌∷◌, ◌++◌, length, take, drop, replicate, Option, Some, None, suc, zero, if◌then◌else◌, refl, sym, ap, subst, ◌∙◌, ◌⊎◌, inl, inr, arith}
use Rattle.std.proofs.lemmas.Bool.Decides.{nat_tests}
use Rattle.std.proofs.lemmas.Grind.{common_steps}
use Rattle.std.proofs.lemmas.List.{take_all, drop_all, take-replicate, append-nil}
use Rattle.snap_path.specs.Limits.{most_file_bytes, most_sized_bytes}
use Rattle.snap_layer.specs.declared.content.Content.{Content}
use Rattle.snap_layer.specs.declared.content.Content.TheVariants.{Bytes, Sized}
use Rattle.snap_layer.specs.declared.node.Body.{Body}
use Rattle.snap_layer.specs.declared.node.Body.TheVariants as body_kinds
use Rattle.snap_layer.specs.declared.bytes.Edit.{Edit}
use Rattle.snap_layer.specs.declared.bytes.Edit.TheVariants.{Keep, Write, Resize}
use Rattle.snap_layer.specs.Tree.{Tree, body, leaf_node}
use Rattle.snap_layer.specs.Layers.{IsLayer, IsFile}
use Rattle.snap_layer.specs.Edits.{with_body, with_filled, IsRegular}
use Rattle.snap_layer.specs.Contents.{bytes_written, bytes_resized, written, resized, edited, changes_size, size_of, body_content, body_edited, IsContent, IsShort}
use Rattle.snap_layer.proofs.Kept.{IsLayer-with_body}
use Rattle.snap_layer.proofs.Filling.{file_there}

lt_or_ge : (k n : ℕ) → (k < n) ⊎ (n ≤ k)
lt_or_ge k zero = inr (omega arith)
lt_or_ge zero (suc n) = inl (omega arith)
lt_or_ge (suc k) (suc n) = elim (lt_or_ge k n) [ inl a ↦ inl (omega (arith, a)) | inr a ↦ inr (omega (arith, a)) ]

no_more : (old : List ℕ) (k : ℕ) → k ≤ length old → old ++ replicate (k - length old) 0 ≡ old
no_more old k few =
    let none : k - length old ≡ 0 = omega (arith, few) in
    ap (λ n. old ++ replicate n 0) none ∙ append-nil old

-- what lies before a place among bytes that are filled up with zero bytes
before : (old : List ℕ) (k n : ℕ) → k ≤ n → take k (old ++ replicate (n - length old) 0) ≡ take k old ++ replicate (k - length old) 0
before [] k n le =
    let all : n - length {A = ℕ} [] ≡ n = omega arith in
    let first : k - length {A = ℕ} [] ≡ k = omega arith in
    let none : take {A = ℕ} k [] ≡ [] = take_all k [] (omega arith) in
    ap (λ j. take k (replicate j 0)) all ∙ take-replicate k n 0 le ∙ ap (λ j. replicate j 0) (sym first) ∙ ap (λ xs. xs ++ replicate (k - length {A = ℕ} []) 0) (sym none)
before (x ∷ xs) zero n le =
    let none : 0 ≡ 0 - length (x ∷ xs) = omega arith in
    ap (λ j. replicate j 0) none
before (x ∷ xs) (suc k) n le =
    let fewer : n - length (x ∷ xs) ≡ n - 1 - length xs = omega arith in
    let same : k - length xs ≡ suc k - length (x ∷ xs) = omega arith in
    ap (λ j. x ∷ take k (xs ++ replicate j 0)) fewer ∙ ap (λ ys. x ∷ ys) (before xs k (n - 1) (omega (arith, le))) ∙ ap (λ j. x ∷ take k xs ++ replicate j 0) same

-- what lies behind it, where they are filled up to there
behind : (old : List ℕ) (k : ℕ) → drop k (old ++ replicate (k - length old) 0) ≡ drop k old
behind old k = elim (lt_or_ge k (length old)) [
  | inl lt ↦ ap (drop k) (no_more old k (omega (arith, lt)))
  | inr ge ↦ drop_all k (old ++ replicate (k - length old) 0) (grind (arith, common_steps, ge)) ∙ sym (drop_all k old ge)
]

-- bytes put in place of as many, once all that lies before their end is there
pub put_is : (old : List ℕ) (offset : ℕ) (bs : List ℕ) → (length bs ≡ 0 → ⊥) → (grown : List ℕ) → grown ≡ old ++ replicate (offset + length bs - length old) 0 → take offset grown ++ bs ++ drop (offset + length bs) grown ≡ bytes_written old offset bs
put_is old offset [] some grown is = absurd (some refl)
put_is old offset (b ∷ bs) some grown is =
    ap (λ xs. take offset xs ++ (b ∷ bs) ++ drop (offset + length (b ∷ bs)) xs) is
    ∙ (λ i. before old offset (offset + length (b ∷ bs)) (omega arith) i ++ (b ∷ bs) ++ behind old (offset + length (b ∷ bs)) i)

-- a short edit of a file within its limits leaves it there
written_short : (old : List ℕ) (offset : ℕ) (bytes : List ℕ) (m : ℕ) → length old ≤ m → offset + length bytes ≤ m → length (bytes_written old offset bytes) ≤ m
written_short old offset [] m a b = a
written_short old offset (x ∷ xs) m a b = grind (arith, common_steps)

pub resized_length : (old : List ℕ) (size : ℕ) → length (bytes_resized old size) ≡ size
resized_length old size = grind (arith, common_steps)

no_more_than : (a b m : ℕ) → a ≤ m → b ≤ m → max a b ≤ m
no_more_than a b m x y = omega (arith, x, y)

sized_written : (size : ℕ) (digest : Option (List ℕ)) (offset : ℕ) (bytes : List ℕ) → offset + length bytes ≤ most_sized_bytes → IsContent (Sized size digest) → IsContent (written (Sized size digest) offset bytes)
sized_written size digest offset [] is short = short
sized_written size digest offset (b ∷ bs) is short = (no_more_than size (offset + length (b ∷ bs)) most_sized_bytes short.0 is, tt)

sized_resized : (old : ℕ) (digest : Option (List ℕ)) (size : ℕ) → size ≤ most_sized_bytes → IsContent (Sized old digest) → IsContent (resized (Sized old digest) size)
sized_resized old digest size is short = elim (old == size) as (λ b. IsContent (if b then Sized old digest else Sized size None)) [ true ↦ short | false ↦ (is, tt) ]

pub edited_short : (e : Edit) (old : Content) → IsShort e old → IsContent old → IsContent (edited e old)
edited_short Keep old is short = short
edited_short (Write offset bytes) (Bytes old) is short = written_short old offset bytes.now most_file_bytes short is
edited_short (Write offset bytes) (Sized size digest) is short = sized_written size digest offset bytes.now is short
edited_short (Resize size) (Bytes old) is short = omega (arith, resized_length old size, is)
edited_short (Resize size) (Sized old digest) is short = sized_resized old digest size is short

-- what an edit leaves of a file of a size
size_after_write : (size : ℕ) (digest : Option (List ℕ)) (offset : ℕ) (bs : List ℕ) → written (Sized size digest) offset bs ≡ (if not (length bs == 0) then Sized (size_of (written (Sized size digest) offset bs)) None else Sized size digest)
size_after_write size digest offset [] = refl
size_after_write size digest offset (b ∷ bs) = ap (λ (t : Bool). if not t then Sized (max size (offset + length (b ∷ bs))) None else Sized size digest) (not_empty b bs)
  where
    not_empty : (b : ℕ) (bs : List ℕ) → false ≡ (length (b ∷ bs) == 0)
    not_empty b bs = grind (arith, nat_tests)

size_after_cut : (size new : ℕ) (digest : Option (List ℕ)) (b : Bool) → (if b then Sized size digest else Sized new None) ≡ (if not b then Sized (size_of (if b then Sized size digest else Sized new None)) None else Sized size digest)
size_after_cut size new digest true = refl
size_after_cut size new digest false = refl

pub sized_edited : (e : Edit) (size : ℕ) (digest : Option (List ℕ)) → edited e (Sized size digest) ≡ (if changes_size e size then Sized (size_of (edited e (Sized size digest))) None else Sized size digest)
sized_edited Keep size digest = refl
sized_edited (Write offset bytes) size digest = size_after_write size digest offset bytes.now
sized_edited (Resize new) size digest = size_after_cut size new digest (size == new)

-- the size that an edit leaves
written_length : (old : List ℕ) (offset : ℕ) (bs : List ℕ) → (length bs ≡ 0 → ⊥) → length (bytes_written old offset bs) ≡ max (length old) (offset + length bs)
written_length old offset [] some = absurd (some refl)
written_length old offset (x ∷ xs) some = grind (arith, common_steps)

pub size_written : (c : Content) (offset : ℕ) (bs : List ℕ) → (length bs ≡ 0 → ⊥) → size_of (written c offset bs) ≡ max (size_of c) (offset + length bs)
size_written (Bytes old) offset bs some = written_length old offset bs some
size_written (Sized size digest) offset [] some = absurd (some refl)
size_written (Sized size digest) offset (b ∷ bs) some = refl

pub size_unwritten : (c : Content) (offset : ℕ) (bs : List ℕ) → length bs ≡ 0 → size_of (written c offset bs) ≡ size_of c
size_unwritten (Bytes old) offset [] none = refl
size_unwritten (Bytes old) offset (b ∷ bs) none = absurd (omega (arith, none))
size_unwritten (Sized size digest) offset [] none = refl
size_unwritten (Sized size digest) offset (b ∷ bs) none = absurd (omega (arith, none))

cut_size : (old size : ℕ) (digest : Option (List ℕ)) (b : Bool) → (old == size) ≡ b → size_of (if b then Sized old digest else Sized size None) ≡ size
cut_size old size digest true e = grind (arith, nat_tests, e)
cut_size old size digest false e = refl

pub size_resized : (c : Content) (size : ℕ) → size_of (resized c size) ≡ size
size_resized (Bytes old) size = resized_length old size
size_resized (Sized old digest) size = cut_size old size digest (old == size) refl

-- the layer with a file edited
pub record IsEdited (t : Tree) (k : ℕ) (b : Body) (e : Edit) : Type 0 where
  pub kind : (x : Body) → body t k ≡ Some x → leaf_node k x ≡ leaf_node k (body_edited b e)
  pub layer : IsLayer (with_body t k (body_edited b e))

pub same_leaf : (k : ℕ) (x : Body) (e : Edit) → leaf_node k x ≡ leaf_node k (body_edited x e)
same_leaf k (body_kinds.File meta content) e = refl
same_leaf k (body_kinds.Symlink target) e = refl

pub same_body : (x y : Body) → Some x ≡ Some y → x ≡ y
same_body x y e = cc

pub file_edited : (t : Tree) → IsLayer t → (k : ℕ) (b : Body) (e : Edit) → body t k ≡ Some b → IsFile (Some b) → IsShort e (body_content (Some b)) → IsEdited t k b e
file_edited t ok k (body_kinds.Symlink target) e is file short = absurd file
file_edited t ok k (body_kinds.File meta old) e is file short = record {
  kind = λ x there. ap (leaf_node k) (same_body x (body_kinds.File meta old) (sym there ∙ is));
  layer = IsLayer-with_body t k (body_kinds.File meta (edited e old)) ok (subst IsFile (sym is) file) (file.0, edited_short e old short file.1);
}

-- the file that is there, within its limits
pub regular_there : (t : Tree) → IsLayer t → (k : ℕ) (o : Option Body) → body t k ≡ o → IsRegular o → IsFile o
regular_there t ok k None is file = absurd file
regular_there t ok k (Some (body_kinds.File meta content)) is file = subst IsFile is (file_there t ok k meta content is)
regular_there t ok k (Some (body_kinds.Symlink target)) is file = absurd file

pub with_edited : (t : Tree) (k : ℕ) (b : Body) (e : Edit) → IsFile (Some b) → with_body t k (body_edited b e) ≡ with_filled t k (Some b) (edited e (body_content (Some b)))
with_edited t k (body_kinds.File meta content) e file = refl
with_edited t k (body_kinds.Symlink target) e file = absurd file
