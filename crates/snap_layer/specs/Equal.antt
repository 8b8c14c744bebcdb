-- The test of `==`. Two nodes, bodies and layers pass it exactly where they are equal.
use Rattle.std.specs.Prelude.{◌≡◌, ℕ, Bool, true, false, ◌&&◌, ◌==◌, nat_eq, List, Option, Some, None, refl}
use Rattle.std.specs.Bool.{Decides, beq}
use Rattle.std.specs.Option.{option_eq}
use Rattle.std.specs.Cmp.{IsEquivalence, decided, unsigned_Decides, booleans_Decides, first_so, second_so}
use Rattle.std.specs.Cmp.Lexicographic.{pointwise, pointwise_decides}
use mathlib.Core.Path.{sym, ap, ◌∙◌}
use mathlib.Core.Bool.{true≢false}
use Rattle.snap_path.specs.Text.{Names}
use Rattle.snap_layer.specs.declared.content.Content.{Content}
use Rattle.snap_layer.specs.declared.content.Content.TheVariants.{Bytes, Sized}
use Rattle.snap_layer.specs.declared.node.Meta.{Meta}
use Rattle.snap_layer.specs.declared.node.Node.{Node}
use Rattle.snap_layer.specs.declared.node.Node.TheVariants.{Dir, File, Symlink, Whiteout}
use Rattle.snap_layer.specs.declared.node.Body.{Body}
use Rattle.snap_layer.specs.declared.node.Body.TheVariants as body_kinds
use Rattle.snap_layer.specs.Tree.{Tree}

-- the same mode
abbrev pub meta_eq : Meta → Meta → Bool
meta_eq meta other = meta.mode == other.mode

-- two nodes of one kind with the same meta and mark, or the same number
abbrev pub node_eq : Node → Node → Bool
node_eq (Dir meta opaque) (Dir other mark) = meta_eq meta other && beq opaque mark
node_eq (File number) (File other) = number == other
node_eq (Symlink number) (Symlink other) = number == other
node_eq Whiteout Whiteout = true
node_eq node other = false

-- two files with the same bytes, or with the same size and the same digest or none
abbrev pub content_eq : Content → Content → Bool
content_eq (Bytes bytes) (Bytes others) = pointwise nat_eq bytes others
content_eq (Sized size digest) (Sized other others) = size == other && option_eq (pointwise nat_eq) digest others
content_eq content other = false

-- two files with the same meta and content, or two symlinks with the same target
abbrev pub body_eq : Body → Body → Bool
body_eq (body_kinds.File meta content) (body_kinds.File other others) = meta_eq meta other && content_eq content others
body_eq (body_kinds.Symlink target) (body_kinds.Symlink other) = pointwise nat_eq target other
body_eq body other = false

-- the same entries, the same bodies, the same next number, and the same most inodes
abbrev pub tree_eq : Tree → Tree → Bool
tree_eq t u = pointwise (λ p q. pointwise (pointwise nat_eq) p.0 q.0 && node_eq p.1 q.1) t.entries u.entries && pointwise (λ p q. nat_eq p.0 q.0 && body_eq p.1 q.1) t.bodies u.bodies && t.next == u.next && t.most == u.most

no : false ≡ true → ⊥
no e = true≢false (sym e)

bytes_Decides : (xs ys : List ℕ) → Decides (pointwise nat_eq xs ys) (xs ≡ ys)
bytes_Decides = pointwise_decides unsigned_Decides

names_Decides : (p q : Names) → Decides (pointwise (pointwise nat_eq) p q) (p ≡ q)
names_Decides = pointwise_decides bytes_Decides

-- two metas pass the test exactly where they are equal
pub meta_eq-Decides : (m n : Meta) → Decides (meta_eq m n) (m ≡ n)
meta_eq-Decides m n = (
  (λ e i. record { mode = (unsigned_Decides m.mode n.mode).0 e i }),
  λ e. (unsigned_Decides m.mode n.mode).1 (ap (λ (x : Meta). x.mode) e),
)

node_refl : (n : Node) → node_eq n n ≡ true
node_refl (Dir meta opaque) = λ i. (meta_eq-Decides meta meta).1 refl i && (booleans_Decides opaque opaque).1 refl i
node_refl (File number) = (unsigned_Decides number number).1 refl
node_refl (Symlink number) = (unsigned_Decides number number).1 refl
node_refl Whiteout = refl

node_same : (a b : Node) → node_eq a b ≡ true → a ≡ b
node_same (Dir m o) (Dir n p) e = λ i. Dir ((meta_eq-Decides m n).0 (first_so (meta_eq m n) (beq o p) e) i) ((booleans_Decides o p).0 (second_so (meta_eq m n) (beq o p) e) i)
node_same (Dir m o) (File k) e = absurd (no e)
node_same (Dir m o) (Symlink k) e = absurd (no e)
node_same (Dir m o) Whiteout e = absurd (no e)
node_same (File j) (Dir m o) e = absurd (no e)
node_same (File j) (File k) e = λ i. File ((unsigned_Decides j k).0 e i)
node_same (File j) (Symlink k) e = absurd (no e)
node_same (File j) Whiteout e = absurd (no e)
node_same (Symlink j) (Dir m o) e = absurd (no e)
node_same (Symlink j) (File k) e = absurd (no e)
node_same (Symlink j) (Symlink k) e = λ i. Symlink ((unsigned_Decides j k).0 e i)
node_same (Symlink j) Whiteout e = absurd (no e)
node_same Whiteout (Dir m o) e = absurd (no e)
node_same Whiteout (File k) e = absurd (no e)
node_same Whiteout (Symlink k) e = absurd (no e)
node_same Whiteout Whiteout e = refl

-- two nodes pass the test exactly where they are equal
pub node_eq-Decides : (a b : Node) → Decides (node_eq a b) (a ≡ b)
node_eq-Decides a b = (node_same a b, λ e. ap (λ (n : Node). node_eq n b) e ∙ node_refl b)

digest_refl : (d : Option (List ℕ)) → option_eq (pointwise nat_eq) d d ≡ true
digest_refl None = refl
digest_refl (Some d) = (bytes_Decides d d).1 refl

digest_same : (d e : Option (List ℕ)) → option_eq (pointwise nat_eq) d e ≡ true → d ≡ e
digest_same None None is = refl
digest_same None (Some e) is = absurd (no is)
digest_same (Some d) None is = absurd (no is)
digest_same (Some d) (Some e) is = λ i. Some ((bytes_Decides d e).0 is i)

content_refl : (c : Content) → content_eq c c ≡ true
content_refl (Bytes bytes) = (bytes_Decides bytes bytes).1 refl
content_refl (Sized size digest) = λ i. (unsigned_Decides size size).1 refl i && digest_refl digest i

content_same : (c d : Content) → content_eq c d ≡ true → c ≡ d
content_same (Bytes xs) (Bytes ys) e = λ i. Bytes ((bytes_Decides xs ys).0 e i)
content_same (Bytes xs) (Sized n ys) e = absurd (no e)
content_same (Sized m xs) (Bytes ys) e = absurd (no e)
content_same (Sized m xs) (Sized n ys) e = λ i. Sized ((unsigned_Decides m n).0 (first_so (m == n) (option_eq (pointwise nat_eq) xs ys) e) i) (digest_same xs ys (second_so (m == n) (option_eq (pointwise nat_eq) xs ys) e) i)

-- two contents pass the test exactly where they are equal
pub content_eq-Decides : (c d : Content) → Decides (content_eq c d) (c ≡ d)
content_eq-Decides c d = (content_same c d, λ e. ap (λ (x : Content). content_eq x d) e ∙ content_refl d)

body_refl : (b : Body) → body_eq b b ≡ true
body_refl (body_kinds.File meta content) = λ i. (meta_eq-Decides meta meta).1 refl i && content_refl content i
body_refl (body_kinds.Symlink target) = (bytes_Decides target target).1 refl

body_same : (a b : Body) → body_eq a b ≡ true → a ≡ b
body_same (body_kinds.File m xs) (body_kinds.File n ys) e = λ i. body_kinds.File ((meta_eq-Decides m n).0 (first_so (meta_eq m n) (content_eq xs ys) e) i) (content_same xs ys (second_so (meta_eq m n) (content_eq xs ys) e) i)
body_same (body_kinds.File m xs) (body_kinds.Symlink ys) e = absurd (no e)
body_same (body_kinds.Symlink xs) (body_kinds.File n ys) e = absurd (no e)
body_same (body_kinds.Symlink xs) (body_kinds.Symlink ys) e = λ i. body_kinds.Symlink ((bytes_Decides xs ys).0 e i)

-- two bodies pass the test exactly where they are equal
pub body_eq-Decides : (a b : Body) → Decides (body_eq a b) (a ≡ b)
body_eq-Decides a b = (body_same a b, λ e. ap (λ (x : Body). body_eq x b) e ∙ body_refl b)

pairs_Decides : {A B : Type 0} (E : A → A → Bool) (F : B → B → Bool) → ((a b : A) → Decides (E a b) (a ≡ b)) → ((a b : B) → Decides (F a b) (a ≡ b)) → (p q : A × B) → Decides (E p.0 q.0 && F p.1 q.1) (p ≡ q)
pairs_Decides E F f g p q = (
  (λ e i. ((f p.0 q.0).0 (first_so (E p.0 q.0) (F p.1 q.1) e) i, (g p.1 q.1).0 (second_so (E p.0 q.0) (F p.1 q.1) e) i)),
  λ e i. (f p.0 q.0).1 (ap (λ u. u.0) e) i && (g p.1 q.1).1 (ap (λ u. u.1) e) i,
)

entries_Decides : (t u : Tree) → Decides (pointwise (λ p q. pointwise (pointwise nat_eq) p.0 q.0 && node_eq p.1 q.1) t.entries u.entries) (t.entries ≡ u.entries)
entries_Decides t u = pointwise_decides (pairs_Decides (pointwise (pointwise nat_eq)) node_eq names_Decides node_eq-Decides) t.entries u.entries

bodies_Decides : (t u : Tree) → Decides (pointwise (λ p q. nat_eq p.0 q.0 && body_eq p.1 q.1) t.bodies u.bodies) (t.bodies ≡ u.bodies)
bodies_Decides t u = pointwise_decides (pairs_Decides nat_eq body_eq unsigned_Decides body_eq-Decides) t.bodies u.bodies

-- two layers pass the test exactly where they are equal
pub tree_eq-Decides : (t u : Tree) → Decides (tree_eq t u) (t ≡ u)
tree_eq-Decides t u =
    let E = pointwise (λ p q. pointwise (pointwise nat_eq) p.0 q.0 && node_eq p.1 q.1) t.entries u.entries in
    let B = pointwise (λ p q. nat_eq p.0 q.0 && body_eq p.1 q.1) t.bodies u.bodies in (
      (λ e.
          let numbered = first_so (E && B && t.next == u.next) (t.most == u.most) e in
          let both = first_so (E && B) (t.next == u.next) numbered in
          λ i. record {
            entries = (entries_Decides t u).0 (first_so E B both) i;
            bodies = (bodies_Decides t u).0 (second_so E B both) i;
            next = (unsigned_Decides t.next u.next).0 (second_so (E && B) (t.next == u.next) numbered) i;
            most = (unsigned_Decides t.most u.most).0 (second_so (E && B && t.next == u.next) (t.most == u.most) e) i;
          }),
      λ e i. (entries_Decides t u).1 (ap (λ (v : Tree). v.entries) e) i && (bodies_Decides t u).1 (ap (λ (v : Tree). v.bodies) e) i && (unsigned_Decides t.next u.next).1 (ap (λ (v : Tree). v.next) e) i && (unsigned_Decides t.most u.most).1 (ap (λ (v : Tree). v.most) e) i,
    )

pub node_eq_equiv : IsEquivalence node_eq
node_eq_equiv = decided node_eq node_eq-Decides

pub content_eq_equiv : IsEquivalence content_eq
content_eq_equiv = decided content_eq content_eq-Decides

pub body_eq_equiv : IsEquivalence body_eq
body_eq_equiv = decided body_eq body_eq-Decides

pub tree_eq_equiv : IsEquivalence tree_eq
tree_eq_equiv = decided tree_eq tree_eq-Decides
