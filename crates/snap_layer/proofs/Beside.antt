-- An entry that changes, with all that was below it, and a bare target in its place.
use Rattle.std.proofs.Common.{◌≡◌, ℕ, true, false, List, [], ◌∷◌, ◌++◌, length, length-append, Option, Some, None, IsSome, refl, sym, ap, subst, ◌∙◌, ◌⊎◌, inl, inr, arith, append_assoc, append-nil}
use Rattle.snap_path.specs.Text.{Names, begins}
use Rattle.snap_layer.specs.declared.node.Node.{Node}
use Rattle.snap_layer.specs.Tree.{Tree, at, IsDirAt}
use Rattle.snap_layer.proofs.Paths.{split_front, begins-trans, begins_from}
use Rattle.snap_layer.proofs.Moves.{not_longer, not_of_root}
use Rattle.snap_layer.specs.declared.inode.Target.{Target}
use Rattle.snap_layer.specs.declared.inode.Target.TheVariants as target
use Rattle.snap_layer.specs.Walk.{SlotView, walk, node_shown, stands, IsTable, IsBare, IsOpen}
use Rattle.snap_layer.proofs.Frames.{walk_agree, walk_push, walk_past, open_bare}

-- what a longer path does not begin with, a front of it does not
pub front_out : (p x y : Names) (m : List ℕ) (q : Names) → q ≡ x ++ m ∷ y → begins p q ≡ false → begins p (x ++ m ∷ []) ≡ false
front_out p x y m q is out = elim (split_front p (x ++ m ∷ [])) [
  | inr other ↦ other.0
  | inl within ↦ absurd (no (sym (begins-trans p (x ++ m ∷ []) q within.0 (begins_from (x ++ m ∷ []) q y (is ∙ sym (append_assoc x (m ∷ []) y)))) ∙ out))
]
  where
    no : true ≡ false → ⊥
    no e = cc

pub seen_agree : (f g : ℕ → Option Node) (o : Option Target) → ((c : ℕ) → o ≡ Some (target.Inode c) → f c ≡ g c) → node_shown f o ≡ node_shown g o
seen_agree f g None same = refl
seen_agree f g (Some target.Whiteout) same = refl
seen_agree f g (Some (target.Inode c)) same = same c refl

-- no path to an inode goes through an entry that has none
pub open_out : (s : SlotView) (root : ℕ) (q : Names) (n : List ℕ) (d : ℕ) → walk s.entries root q ≡ Some (target.Inode d) → IsOpen (s.entries d n) → (x : Names) (c : ℕ) → walk s.entries root x ≡ Some (target.Inode c) → begins (q ++ n ∷ []) x ≡ false
open_out s root q n d leads open_entry x c to = elim (split_front (q ++ n ∷ []) x) [ inr out ↦ out.0 | inl within ↦ absurd (by within.1 within.2) ]
  where
    no_inode : (o : Option Target) → IsOpen o → o ≡ Some (target.Inode c) → ⊥
    no_inode None is e = cc
    no_inode (Some target.Whiteout) is e = cc
    no_inode (Some (target.Inode k)) is e = is

    none : ◌≡◌ {A = Option Target} None (Some (target.Inode c)) → ⊥
    none e = cc

    by : (r : Names) → x ≡ (q ++ n ∷ []) ++ r → ⊥
    by [] is = no_inode (s.entries d n) open_entry (sym (walk_push s.entries root d q n leads) ∙ ap (walk s.entries root) (sym (is ∙ append-nil (q ++ n ∷ []))) ∙ to)
    by (m ∷ r) is = none (sym (ap (walk s.entries root) (is ∙ append_assoc q (n ∷ []) (m ∷ r)) ∙ walk_past s.entries root d q n m r leads (open_bare s.entries (s.entries d n) open_entry)) ∙ to)

-- u' has the node at the path and nothing below it, and elsewhere what u has
pub record Leaves (u v : Tree) (p : Names) (o : Option Node) : Type 0 where
  pub here : at v p ≡ o
  pub below : (m : List ℕ) (r : Names) → at v (p ++ m ∷ r) ≡ None
  pub others : (q : Names) → begins p q ≡ false → at v q ≡ at u q

-- t has the target at the entry, nothing below it, and elsewhere reads as s along each path
pub record Beside (s t : SlotView) (root : ℕ) (q : Names) (n : List ℕ) (d : ℕ) (w : Option Target) : Type 0 where
  pub leads : walk s.entries root q ≡ Some (target.Inode d)
  pub entries : (x : Names) (m : List ℕ) (c : ℕ) → walk s.entries root x ≡ Some (target.Inode c) → begins (q ++ n ∷ []) (x ++ m ∷ []) ≡ false → t.entries c m ≡ s.entries c m
  pub here : t.entries d n ≡ w
  pub bare : IsBare t.entries w
  pub nodes : (x : Names) (c : ℕ) → walk s.entries root x ≡ Some (target.Inode c) → begins (q ++ n ∷ []) x ≡ false → t.nodes c ≡ s.nodes c

module _ (s t : SlotView) (root : ℕ) (q : Names) (n : List ℕ) (d : ℕ) (w : Option Target) (b : Beside s t root q n d w) where
  abbrev pn : Names
  pn = q ++ n ∷ []

  pub walk_out : (x : Names) → begins pn x ≡ false → walk t.entries root x ≡ walk s.entries root x
  walk_out x out = walk_agree s.entries t.entries x root (λ y m z is c leads. b.entries y m c leads (front_out pn y z m x is out))

  way : walk t.entries root q ≡ Some (target.Inode d)
  way = walk_out q (not_longer q n) ∙ b.leads

  -- the directory stays where it is
  pub parent_stays : IsDirAt (s.nodes d) → (walk t.entries root q ≡ Some (target.Inode d)) × IsDirAt (t.nodes d)
  parent_stays dir = (way, subst IsDirAt (sym (b.nodes q d b.leads (not_longer q n))) dir)

  -- a path elsewhere leads where it led
  pub way_out : (x : Names) (c : ℕ) → begins pn x ≡ false → walk s.entries root x ≡ Some (target.Inode c) → (walk t.entries root x ≡ Some (target.Inode c)) × (t.nodes c ≡ s.nodes c)
  way_out x c out leads = (walk_out x out ∙ leads, b.nodes x c leads out)

  pub walk_here : walk t.entries root pn ≡ w
  walk_here = walk_push t.entries root d q n way ∙ b.here

  pub walk_below : (m : List ℕ) (r : Names) → walk t.entries root (pn ++ m ∷ r) ≡ None
  walk_below m r = ap (walk t.entries root) (append_assoc q (n ∷ []) (m ∷ r)) ∙ walk_past t.entries root d q n m r way (subst (IsBare t.entries) (sym b.here) b.bare)

  -- a path lies elsewhere, or is the entry's, or lies below it
  pub by_place : {A : Type 0} (x : Names) → (begins pn x ≡ false → A) → (x ≡ pn → A) → ((m : List ℕ) (r : Names) → x ≡ pn ++ m ∷ r → A) → A
  by_place {A} x out here below = elim (split_front pn x) [ inr other ↦ out other.0 | inl within ↦ at within.1 within.2 ]
    where
      at : (r : Names) → x ≡ pn ++ r → A
      at [] is = here (is ∙ append-nil pn)
      at (m ∷ r) is = below m r is

  -- a path leads to an inode as it did, or is the entry's
  pub by_walk : {A : Type 0} (x : Names) (c : ℕ) → walk t.entries root x ≡ Some (target.Inode c) → (begins pn x ≡ false → walk s.entries root x ≡ Some (target.Inode c) → A) → (x ≡ pn → w ≡ Some (target.Inode c) → A) → A
  by_walk x c leads old new = by_place x
      (λ out. old out (sym (walk_out x out) ∙ leads))
      (λ is. new is (sym walk_here ∙ ap (walk t.entries root) (sym is) ∙ leads))
      (λ m r is. absurd (none (sym (walk_below m r) ∙ ap (walk t.entries root) (sym is) ∙ leads)))
    where
      none : ◌≡◌ {A = Option Target} None (Some (target.Inode c)) → ⊥
      none e = cc

  -- what the new target leads to is there, and if it is a directory no other path leads to it
  abbrev pub IsFresh : Type 0
  IsFresh = (c : ℕ) → w ≡ Some (target.Inode c) → IsSome (t.nodes c) × (IsDirAt (t.nodes c) → (x : Names) → begins pn x ≡ false → walk s.entries root x ≡ Some (target.Inode c) → ⊥)

  -- each inode that is left is the new target's, or one to which a path elsewhere leads
  abbrev pub AllLeft : Type 0
  AllLeft = (c : ℕ) → IsSome (t.nodes c) → (w ≡ Some (target.Inode c)) ⊎ ((x : Names) × (begins pn x ≡ false) × (walk s.entries root x ≡ Some (target.Inode c)))

  pub table : IsTable s root → IsFresh → AllLeft → IsTable t root
  table ok fresh left = record {
    root_dir = subst IsDirAt (sym (b.nodes [] root refl (not_of_root pn (λ e. omega (arith, ap length e, length-append q (n ∷ [])))))) ok.root_dir;
    there = λ x c leads. by_walk x c leads (λ out was. subst IsSome (sym (b.nodes x c was out)) (ok.there x c was)) (λ is new. (fresh c new).0);
    forest = λ x y c dir to_x to_y. by_walk x c to_x
        (λ out was. by_walk y c to_y
        (λ other had. ok.forest x y c (subst IsDirAt (b.nodes x c was out) dir) was had)
        (λ is new. absurd ((fresh c new).1 dir x out was)))
        (λ is new. by_walk y c to_y
        (λ out was. absurd ((fresh c new).1 dir y out was))
        (λ same again. is ∙ sym same));
    reached = λ c some. elim (left c some) [ inl new ↦ (pn, walk_here ∙ new) | inr old ↦ (old.0, walk_out old.0 old.1 ∙ old.2) ];
  }

  pub shows : (u v : Tree) → ((x : Names) → stands s root x ≡ at u x) → Leaves u v pn (node_shown t.nodes w) → (x : Names) → stands t root x ≡ at v x
  shows u v was leaves x = by_place x
      (λ out. ap (node_shown t.nodes) (walk_out x out) ∙ seen_agree t.nodes s.nodes (walk s.entries root x) (λ c leads. b.nodes x c leads out) ∙ was x ∙ sym (leaves.others x out))
      (λ is. ap (λ y. node_shown t.nodes (walk t.entries root y)) is ∙ ap (node_shown t.nodes) walk_here ∙ sym leaves.here ∙ ap (at v) (sym is))
      (λ m r is. ap (λ y. node_shown t.nodes (walk t.entries root y)) is ∙ ap (node_shown t.nodes) (walk_below m r) ∙ sym (leaves.below m r) ∙ ap (at v) (sym is))
