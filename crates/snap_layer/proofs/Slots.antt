-- A write to one inode, as the walks see it.
use Rattle.std.proofs.Common.{◌≡◌, ℕ, Bool, true, false, cond, List, [], Option, Some, None, IsSome, refl, sym, ap, subst, ◌∙◌, ◌⊎◌, inl, inr}
use Rattle.std.specs.Prelude.{Result, OnOk, OnErr}
use Rattle.std.specs.declared.result.Result.TheVariants.{Ok, Err}
use Rattle.std.specs.Ordering.{nat_cmp}
use Rattle.std.specs.Cmp.Lexicographic.{slice_cmp, nat_list_cmp_total}
use Rattle.std.specs.FinMap.{slice_cmp-IsAntisymmetric, nat_cmp-IsAntisymmetric}
use Rattle.std.specs.BTreeMap.{is_at}
use Rattle.slab.specs.Slab.{Slab as Slots, get, with_value}
use Rattle.slab.proofs.SlabLemmas.{Updates-with_value}
use Rattle.snap_layer.specs.declared.node.Meta.{Meta}
use Rattle.snap_layer.proofs.Lists.{split_key}
use Rattle.snap_layer.specs.declared.node.Node.TheVariants as node
use Rattle.snap_layer.specs.declared.node.Body.{Body}
use Rattle.snap_layer.specs.declared.node.Body.TheVariants as body_kinds
use Rattle.std.specs.BTreeMap.{BTreeMap}
use Rattle.std.specs.Map.{lookup}
use Rattle.snap_layer.specs.declared.inode.Inode.TheVariants as inode
use Rattle.snap_layer.specs.declared.inode.Inode.{Inode}
use Rattle.snap_layer.specs.declared.inode.Target.{Target}
use Rattle.snap_layer.specs.Tree.{leaf_node}
use Rattle.snap_layer.specs.Walk.{entry_of, node_of, body_of, links_of, node_at, SlotView, Table, view_of, left_at, Puts, Links, Shifted, Same, Rebodies}
use Rattle.snap_layer.proofs.Frames.{split_ℕ}

pub on_ok : {A E P Q : Type 0} (r : Result A E) → (P → Q) → OnOk r P → OnOk r Q
on_ok (Ok x) f p = f p
on_ok (Err x) f p = p

pub on_err : {A E P Q : Type 0} (r : Result A E) → (P → Q) → OnErr r P → OnErr r Q
on_err (Ok x) f p = p
on_err (Err x) f p = f p

pub on_err_both : {A E P Q R : Type 0} (r : Result A E) → (P → Q → R) → OnErr r P → OnErr r Q → OnErr r R
on_err_both (Ok x) f p q = p
on_err_both (Err x) f p q = f p q

pub on_err_by : {A E P : Type 0} (r : Result A E) → P → OnErr r P
on_err_by (Ok x) p = tt
on_err_by (Err x) p = p

some_is : {A : Type 0} (o : Option A) (a : A) → o ≡ Some a → IsSome o
some_is o a e = subst IsSome (sym e) refl

-- what reads alike at the key reads alike everywhere
reads : {A : Type 0} (f : Option Inode → A) (s : Slots Inode) (d : ℕ) (old new : Inode) → get s d ≡ Some old → f (Some new) ≡ f (Some old) → (c : ℕ) → f (get (with_value s d new) c) ≡ f (get s c)
reads f s d old new is same c =
    let up = Updates-with_value s d new (some_is _ old is) in
    elim (split_ℕ c d) [
      | inl at ↦ ap f (ap (get (with_value s d new)) at ∙ up.changed) ∙ same ∙ sym (ap f (ap (get s) at ∙ is))
      | inr apart ↦ ap f (up.others c apart)
    ]

pub links : (s : Slots Inode) (d : ℕ) (n : List ℕ) (w : Option Target) (old new : Inode) → get s d ≡ Some old
    → ((m : List ℕ) → entry_of (Some new) m ≡ cond (is_at (slice_cmp nat_cmp n) m) w (entry_of (Some old) m))
    → node_of (Some new) ≡ node_of (Some old) → body_of (Some new) ≡ body_of (Some old) → links_of (Some new) ≡ links_of (Some old) → Links (view_of s) (view_of (with_value s d new)) d n w
links s d n w old new is put node body count =
    let up = Updates-with_value s d new (some_is _ old is) in
    record {
      entries = record {
        here = ap (λ o. entry_of o n) up.changed ∙ put n ∙ at_itself;
        names = λ m apart. ap (λ o. entry_of o m) up.changed ∙ put m ∙ elsewhere m apart ∙ sym (ap (λ o. entry_of o m) is);
        dirs = λ c m apart. ap (λ o. entry_of o m) (up.others c apart);
      };
      nodes = reads node_of s d old new is node;
      bodies = reads body_of s d old new is body;
      counts = reads links_of s d old new is count;
    }
  where
    split : (m : List ℕ) → ((n ≡ m) × (is_at (slice_cmp nat_cmp n) m ≡ true)) ⊎ ((m ≡ n → ⊥) × (is_at (slice_cmp nat_cmp n) m ≡ false))
    split m = split_key nat_list_cmp_total (slice_cmp-IsAntisymmetric nat_cmp-IsAntisymmetric) n m

    at_itself : cond (is_at (slice_cmp nat_cmp n) n) w (entry_of (Some old) n) ≡ w
    at_itself = elim (split n) [ inl same ↦ ap (λ b. cond b w (entry_of (Some old) n)) same.1 | inr apart ↦ absurd (apart.0 refl) ]

    elsewhere : (m : List ℕ) → (m ≡ n → ⊥) → cond (is_at (slice_cmp nat_cmp n) m) w (entry_of (Some old) m) ≡ entry_of (Some old) m
    elsewhere m apart = elim (split m) [ inl same ↦ absurd (apart (sym same.0)) | inr other ↦ ap (λ b. cond b w (entry_of (Some old) m)) other.1 ]

pub same : (s : Slots Inode) (d : ℕ) (old new : Inode) → get s d ≡ Some old
    → ((m : List ℕ) → entry_of (Some new) m ≡ entry_of (Some old) m)
    → node_of (Some new) ≡ node_of (Some old) → body_of (Some new) ≡ body_of (Some old) → links_of (Some new) ≡ links_of (Some old) → Same (view_of s) (view_of (with_value s d new))
same s d old new is entries node body count = record {
  entries = λ c m. reads (λ o. entry_of o m) s d old new is (entries m) c;
  nodes = reads node_of s d old new is node;
  bodies = reads body_of s d old new is body;
  counts = reads links_of s d old new is count;
}

pub same_trans : (s t u : SlotView) → Same s t → Same t u → Same s u
same_trans s t u a b = record { entries = λ c m. b.entries c m ∙ a.entries c m; nodes = λ c. b.nodes c ∙ a.nodes c; bodies = λ c. b.bodies c ∙ a.bodies c; counts = λ c. b.counts c ∙ a.counts c }

-- room made changes nothing that is read
pub reserved : (s t : Slots Inode) → t ≡ record s { capacity = t.capacity } → Same (view_of s) (view_of t)
reserved s t e =
    let g : (c : ℕ) → get t c ≡ get s c = λ c. ap (λ (x : Slots Inode). get x c) e in
    record { entries = λ c m. ap (λ o. entry_of o m) (g c); nodes = λ c. ap node_of (g c); bodies = λ c. ap body_of (g c); counts = λ c. ap links_of (g c) }

-- an empty directory has no names
pub no_names : (es : BTreeMap (List ℕ) Target) → es.entries ≡ [] → (m : Meta) (o : Bool) (n : List ℕ) → entry_of (Some (inode.Dir m o es)) n ≡ None
no_names es empty m o n = ap (lookup (is_at (slice_cmp nat_cmp n))) empty

-- the body set
pub rebodies : (s : Slots Inode) (d : ℕ) (b : Body) (old new : Inode) → get s d ≡ Some old
    → ((m : List ℕ) → entry_of (Some new) m ≡ entry_of (Some old) m)
    → node_of (Some new) ≡ node_of (Some old) → body_of (Some new) ≡ Some b → links_of (Some new) ≡ links_of (Some old) → Rebodies (view_of s) (view_of (with_value s d new)) d b
rebodies s d b old new is entries node body count =
    let up = Updates-with_value s d new (some_is _ old is) in
    record {
      entries = λ c m. reads (λ o. entry_of o m) s d old new is (entries m) c;
      nodes = reads node_of s d old new is node;
      body = ap body_of up.changed ∙ body;
      bodies = λ c apart. ap body_of (up.others c apart);
      counts = reads links_of s d old new is count;
    }

-- an inode is no whiteout
pub plain : (s : Slots Inode) (c : ℕ) → node_at s c ≡ Some node.Whiteout → ⊥
plain s c is = by (get s c) is
  where
    no_leaf : (k : ℕ) (b : Body) → leaf_node k b ≡ node.Whiteout → ⊥
    no_leaf k (body_kinds.File m bs) e = cc
    no_leaf k (body_kinds.Symlink t) e = cc

    by : (o : Option Inode) → node_of o ≡ Some node.Whiteout → ⊥
    by None e = cc
    by (Some (inode.Dir meta o es)) e = cc
    by (Some (inode.Leaf number links_ body_)) e = no_leaf number body_ (cc)

-- ---- two entries put

-- what a put isn't about is as it was
pub puts_other : (e f : Table) (d : ℕ) (n : List ℕ) (w : Option Target) (c : ℕ) (m : List ℕ) → (c ≡ d → m ≡ n → ⊥) → Puts e f d n w → f c m ≡ e c m
puts_other e f d n w c m apart puts = elim (split_ℕ c d) [
  | inr other ↦ puts.dirs c m other
  | inl at ↦ subst (λ (k : ℕ). f k m ≡ e k m) (sym at) (puts.names m (apart at))
]

-- an entry put at one place, and at the other what is left
pub shifted : (s m t : SlotView) (from : ℕ) (old : List ℕ) (to : ℕ) (new : List ℕ) (w : Option Target) (leaves : Bool) → s.entries from old ≡ w → (from ≡ to → old ≡ new → ⊥) → Links s m to new w → Links m t from old (left_at leaves) → Shifted s t from old to new leaves
shifted s m t from old to new w leaves there apart one two = record {
  to = puts_other m.entries t.entries from old (left_at leaves) to new (λ e f. apart (sym e) (sym f)) two.entries ∙ one.entries.here ∙ sym there;
  from = two.entries.here;
  others = λ c x not_from not_to. puts_other m.entries t.entries from old (left_at leaves) c x not_from two.entries ∙ puts_other s.entries m.entries to new w c x not_to one.entries;
  nodes = λ c. two.nodes c ∙ one.nodes c;
  bodies = λ c. two.bodies c ∙ one.bodies c;
  counts = λ c. two.counts c ∙ one.counts c;
}

-- a call that can't have failed
pub sure_ok : {A E P Q : Type 0} (r : Result A E) → OnOk r P → OnErr r Q → (Q → ⊥) → P
sure_ok (Ok x) p q never = p
sure_ok (Err x) p q never = absurd (never q)
