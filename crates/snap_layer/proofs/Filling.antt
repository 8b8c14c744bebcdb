-- When an edit would pass a layer's limits.
use Rattle.std.proofs.Common.{◌≡◌, ℕ, ◌+◌, ◌<◌, ◌≤◌, Bool, true, false, cond, List, Option, Some, None, Result, Ok, Err, refl, sym, ap, subst, ◌∙◌, inl, inr, arith}
use Rattle.std.specs.Prelude.{is_some, ◌==◌, ◌&&◌, IsErrOf}
use Rattle.std.specs.Ordering.{nat_cmp}
use Rattle.std.specs.BTreeMap.{is_at}
use Rattle.std.proofs.lemmas.Bool.Decides.{nat_tests}
use Rattle.snap_path.specs.Limits.{most_number}
use Rattle.snap_path.specs.Memory.{no_memory}
use Rattle.snap_path.specs.Text.{Names, IsPath}
use Rattle.snap_layer.specs.declared.node.Meta.{Meta}
use Rattle.snap_layer.specs.declared.error.LayerError.{LayerError}
use Rattle.snap_layer.specs.declared.error.LayerError.TheVariants.{LayerFull, OutOfMemory}
use Rattle.snap_layer.specs.declared.content.Content.{Content}
use Rattle.snap_layer.specs.declared.node.Node.{Node}
use Rattle.snap_layer.specs.declared.node.Node.TheVariants.{Dir, File, Symlink, Whiteout}
use Rattle.snap_layer.specs.declared.node.Body.{Body}
use Rattle.snap_layer.specs.declared.node.Body.TheVariants as body_kinds
use Rattle.snap_layer.specs.Tree.{Tree, Entries, at, body, number_of, number_at, leaf_node}
use Rattle.snap_layer.specs.Counts.{inode_count, name_count, is_within}
use Rattle.snap_layer.specs.Contents.{IsContent}
use Rattle.snap_layer.specs.Layers.{IsLayer, IsFile, IsSymlink, IsWhole, IsBody, is_target, IsMeta}
use Rattle.snap_layer.specs.Edits.{with_node, with_new, without, HasRoom, HasPlace}
use Rattle.snap_layer.proofs.Counting.{dropped}
use Rattle.snap_layer.proofs.Looks.{SetsBody-insert_entry, is_dropped, split_number}
use Rattle.snap_layer.proofs.Kept.{body-without, node_with_number}
use Rattle.snap_layer.proofs.Replacing.{inode_count-with_node, inode_count-with_new, IsLayer-with_node, IsLayer-with_new, HasPlace-from_room, is_within_yes, is_within_many}

-- ---- the inodes that are left

abbrev pub one_if : Bool → ℕ
one_if b = cond b 1 0

pub dropped_last : (o : Option ℕ) (k c : ℕ) (es : Entries) → o ≡ Some k → c ≡ name_count k es → c ≡ 0 → dropped o es ≡ 1
dropped_last o k c es is counted none = ap (λ x. dropped x es) is ∙ by (name_count k es == 0) (grind (arith, nat_tests))
  where
    by : (b : Bool) → b ≡ true → one_if b ≡ 1
    by true e = refl
    by false e = absurd (cc)

pub dropped_other : (o : Option ℕ) (k c : ℕ) (es : Entries) → o ≡ Some k → c ≡ name_count k es → (c ≡ 0 → ⊥) → dropped o es ≡ 0
dropped_other o k c es is counted some = ap (λ x. dropped x es) is ∙ by (name_count k es == 0) (grind (arith, nat_tests))
  where
    by : (b : Bool) → b ≡ false → one_if b ≡ 0
    by false e = refl
    by true e = absurd (cc)

-- ---- the clause on LayerFull, at each exit

no_bool : true ≡ false → ⊥
no_bool e = cc

-- LayerFull is answered exactly where the layer would not be within the limits
abbrev pub SaysFull : {A : Type 0} → Result A LayerError → Tree → Type 0
SaysFull r u = (IsErrOf r LayerFull → is_within u ≡ false) × (is_within u ≡ false → IsErrOf r LayerFull)

pub memory_said : {A : Type 0} (r : Result A LayerError) (x : LayerError) (u : Tree) → r ≡ Err x → x ≡ OutOfMemory no_memory → is_within u ≡ true → SaysFull r u
memory_said r x u is memory within = (λ e. absurd (cc), λ f. absurd (no_bool (sym within ∙ f)))

pub ok_said : {A : Type 0} (a : A) (u : Tree) → is_within u ≡ true → SaysFull (Ok a) u
ok_said a u within = (λ e. absurd (cc), λ f. absurd (no_bool (sym within ∙ f)))

-- ---- each edit

-- the layer u has i inodes; it is one, where these are few enough
pub record Becomes (u : Tree) (i : ℕ) : Type 0 where
  pub count : i ≡ inode_count u
  pub layer : i ≤ u.most → IsLayer u
  pub full : u.most < i → is_within u ≡ false
  pub fits : i ≤ u.most → is_within u ≡ true

pub becomes : (u : Tree) (i : ℕ) → i ≡ inode_count u → (inode_count u ≤ u.most → IsLayer u) → u.next ≤ most_number → Becomes u i
becomes u i count layer next = record {
  count = count;
  layer = λ few. layer (omega arith);
  full = λ many. is_within_many u (omega arith);
  fits = λ few. is_within_yes u (omega arith) next;
}

module _ (t : Tree) (ok : IsLayer t) (p : Names) (path : IsPath p) (r : ℕ) (left : r ≡ inode_count (without t p)) where
  -- a directory over nothing or a whiteout
  pub dir_becomes : (meta : Meta) (opaque : Bool) → HasRoom t p → IsMeta meta → Becomes (with_node t p (Dir meta opaque)) (r + 1)
  dir_becomes meta opaque room low =
      let place = HasPlace-from_room t p ok room in
      becomes (with_node t p (Dir meta opaque)) (r + 1) (omega (arith, inode_count-with_node t p (Dir meta opaque) ok)) (IsLayer-with_node t p (Dir meta opaque) ok place path low) ok.next.1

  -- a whiteout in place of what may be replaced
  pub whiteout_becomes : HasPlace t p → Becomes (with_node t p Whiteout) (r + 1)
  whiteout_becomes place = becomes (with_node t p Whiteout) (r + 1) (omega (arith, inode_count-with_node t p Whiteout ok)) (IsLayer-with_node t p Whiteout ok place path tt) ok.next.1

  -- one more name in place of what may be replaced
  module _ (k : ℕ) (place : HasPlace t p) (apart : number_at t p ≡ Some k → ⊥) where
    pub body_left : body (without t p) k ≡ body t k
    body_left = body-without t ok p k ∙ ap (λ b. cond b None (body t k)) (kept (number_at t p) apart)
      where
        open_case : (j : ℕ) → (Some j ≡ Some k → ⊥) → is_dropped (Some j) (without t p).entries k ≡ false
        open_case j differs = elim (split_number k j) [
          | inl same ↦ absurd (differs (ap (λ (x : ℕ). Some x) (sym same.0)))
          | inr other ↦ second (name_count j (without t p).entries == 0) (is_at (nat_cmp k) j) other.1
        ]
          where
            second : (a b : Bool) → b ≡ false → (a && b) ≡ false
            second true b e = e
            second false b e = refl

        kept : (o : Option ℕ) → (o ≡ Some k → ⊥) → is_dropped o (without t p).entries k ≡ false
        kept None differs = refl
        kept (Some j) differs = open_case j differs

    pub file_name_becomes : IsFile (body t k) → Becomes (with_node t p (File k)) r
    file_name_becomes file = becomes (with_node t p (File k)) r (omega (arith, inode_count-with_node t p (File k) ok)) (IsLayer-with_node t p (File k) ok place path (subst IsFile (sym body_left) file)) ok.next.1

    pub symlink_name_becomes : IsSymlink (body t k) → Becomes (with_node t p (Symlink k)) r
    symlink_name_becomes link = becomes (with_node t p (Symlink k)) r (omega (arith, inode_count-with_node t p (Symlink k) ok)) (IsLayer-with_node t p (Symlink k) ok place path (subst IsSymlink (sym body_left) link)) ok.next.1

  -- a new file or symlink in place of what may be replaced
  new_body : (n : Node) (b : Body) → body (with_new t p n b) t.next ≡ Some b
  new_body n b = (SetsBody-insert_entry (without t p) (with_new t p n b) t.next b refl).here

  module _ (place : HasPlace t p) (last : t.next < most_number) where
    pub file_becomes : (meta : Meta) (content : Content) → IsMeta meta → IsContent content → Becomes (with_new t p (File t.next) (body_kinds.File meta content)) (r + 1)
    file_becomes meta content low short =
        let u = with_new t p (File t.next) (body_kinds.File meta content) in
        becomes u (r + 1) (omega (arith, inode_count-with_new t p (File t.next) (body_kinds.File meta content) ok refl))
        (IsLayer-with_new t p (File t.next) (body_kinds.File meta content) ok place path refl (subst IsFile (sym (new_body (File t.next) (body_kinds.File meta content))) (low, short)) last) (omega arith)

    pub symlink_becomes : (target : List ℕ) → is_target target ≡ true → Becomes (with_new t p (Symlink t.next) (body_kinds.Symlink target)) (r + 1)
    symlink_becomes target fine =
        let u = with_new t p (Symlink t.next) (body_kinds.Symlink target) in
        becomes u (r + 1) (omega (arith, inode_count-with_new t p (Symlink t.next) (body_kinds.Symlink target) ok refl))
        (IsLayer-with_new t p (Symlink t.next) (body_kinds.Symlink target) ok place path refl (subst IsSymlink (sym (new_body (Symlink t.next) (body_kinds.Symlink target))) fine) last) (omega arith)

    pub body_becomes : (b : Body) → IsBody b → Becomes (with_new t p (leaf_node t.next b) b) (r + 1)
    body_becomes (body_kinds.File meta content) fits = file_becomes meta content fits.0 fits.1
    body_becomes (body_kinds.Symlink target) fits = symlink_becomes target fits

-- a number's body tells its kind
pub file_kind : (m : Meta) (content : Content) (n : Node) (t : Tree) (k : ℕ) → IsWhole t n → number_of n ≡ Some k → body t k ≡ Some (body_kinds.File m content) → IsFile (body t k)
file_kind m content (Dir x y) t k whole e is = absurd (cc)
file_kind m content (File j) t k whole e is = let same : j ≡ k = cc in subst (λ (i : ℕ). IsFile (body t i)) same whole
file_kind m content (Symlink j) t k whole e is = let same : j ≡ k = cc in absurd (subst IsSymlink (ap (body t) same ∙ is) whole)
file_kind m content Whiteout t k whole e is = absurd (cc)

pub symlink_kind : (target : List ℕ) (n : Node) (t : Tree) (k : ℕ) → IsWhole t n → number_of n ≡ Some k → body t k ≡ Some (body_kinds.Symlink target) → IsSymlink (body t k)
symlink_kind target (Dir x y) t k whole e is = absurd (cc)
symlink_kind target (File j) t k whole e is = let same : j ≡ k = cc in absurd (subst IsFile (ap (body t) same ∙ is) whole)
symlink_kind target (Symlink j) t k whole e is = let same : j ≡ k = cc in subst (λ (i : ℕ). IsSymlink (body t i)) same whole
symlink_kind target Whiteout t k whole e is = absurd (cc)

-- the kind of a body that a layer has under a number
pub file_there : (t : Tree) → IsLayer t → (k : ℕ) (m : Meta) (content : Content) → body t k ≡ Some (body_kinds.File m content) → IsFile (body t k)
file_there t ok k m content is =
    let name = ok.named k (ap is_some is) in
    let n = node_with_number (at t name.0) k name.1 in
    file_kind m content n.0 t k (ok.nodes name.0 n.0 n.1) n.2 is

pub symlink_there : (t : Tree) → IsLayer t → (k : ℕ) (target : List ℕ) → body t k ≡ Some (body_kinds.Symlink target) → IsSymlink (body t k)
symlink_there t ok k target is =
    let name = ok.named k (ap is_some is) in
    let n = node_with_number (at t name.0) k name.1 in
    symlink_kind target n.0 t k (ok.nodes name.0 n.0 n.1) n.2 is
