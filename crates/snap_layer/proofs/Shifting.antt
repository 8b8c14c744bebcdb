-- A subtree moved: the directory's entry taken from one place and put at another.
use Rattle.std.proofs.Common.{◌≡◌, ℕ, Bool, true, false, List, [], ◌∷◌, ◌++◌, length, length-append, Option, Some, None, IsSome, refl, sym, ap, subst, ◌∙◌, ◌⊎◌, inl, inr, arith, append_assoc, append-nil}
use Rattle.std.specs.Prelude.{if◌then◌else◌}
use Rattle.snap_path.specs.Text.{Names, begins}
use Rattle.snap_layer.specs.declared.node.Node.TheVariants as node
use Rattle.snap_layer.specs.Tree.{Tree, at, IsDirAt}
use Rattle.snap_layer.specs.Edits.{with_moved}
use Rattle.snap_layer.proofs.Paths.{split_front, append-cancel, begins_from, begins_itself}
use Rattle.snap_layer.proofs.Moves.{not_longer, not_of_root, not_of_parent, apart_below, at-with_moved_below, at-with_moved_from, at-with_moved_gone, at-with_moved_else}
use Rattle.snap_layer.specs.declared.inode.Target.{Target}
use Rattle.snap_layer.specs.declared.inode.Target.TheVariants as target
use Rattle.snap_layer.specs.Walk.{SlotView, walk, node_shown, stands, IsTable, IsOpen, left_at, Shifted}
use Rattle.snap_layer.proofs.Frames.{walk_agree, walk_push, walk_past, walk-append, open_bare}
use Rattle.snap_layer.proofs.Beside.{front_out, open_out, seen_agree}

-- t has at `to` what s had at `from`, at `from` what is left, and elsewhere reads as s along each path
pub record Shifts (s t : SlotView) (root : ℕ) (qf : Names) (nf : List ℕ) (df : ℕ) (qt : Names) (nt : List ℕ) (dt : ℕ) (leaves : Bool) : Type 0 where
  pub leads_from : walk s.entries root qf ≡ Some (target.Inode df)
  pub leads_to : walk s.entries root qt ≡ Some (target.Inode dt)
  pub entries : (x : Names) (m : List ℕ) (c : ℕ) → walk s.entries root x ≡ Some (target.Inode c) → begins (qf ++ nf ∷ []) (x ++ m ∷ []) ≡ false → begins (qt ++ nt ∷ []) (x ++ m ∷ []) ≡ false → t.entries c m ≡ s.entries c m
  pub below : (r : Names) (m : List ℕ) (c : ℕ) → walk s.entries root ((qf ++ nf ∷ []) ++ r) ≡ Some (target.Inode c) → t.entries c m ≡ s.entries c m
  pub at_to : t.entries dt nt ≡ s.entries df nf
  pub at_from : t.entries df nf ≡ left_at leaves
  pub nodes : (x : Names) (c : ℕ) → walk s.entries root x ≡ Some (target.Inode c) → begins (qt ++ nt ∷ []) x ≡ false → t.nodes c ≡ s.nodes c

module _ (s t : SlotView) (root : ℕ) (qf : Names) (nf : List ℕ) (df : ℕ) (qt : Names) (nt : List ℕ) (dt : ℕ) (leaves : Bool) (sh : Shifts s t root qf nf df qt nt dt leaves)
    (not_inside : begins (qf ++ nf ∷ []) (qt ++ nt ∷ []) ≡ false) (not_around : begins (qt ++ nt ∷ []) (qf ++ nf ∷ []) ≡ false) where
  abbrev from : Names
  from = qf ++ nf ∷ []

  abbrev to : Names
  to = qt ++ nt ∷ []

  pub walk_else : (x : Names) → begins from x ≡ false → begins to x ≡ false → walk t.entries root x ≡ walk s.entries root x
  walk_else x stays not_to = walk_agree s.entries t.entries x root (λ y m z is c leads. sh.entries y m c leads (front_out from y z m x is stays) (front_out to y z m x is not_to))

  way_from : walk t.entries root qf ≡ Some (target.Inode df)
  way_from = walk_else qf (not_longer qf nf) (not_of_parent to qf nf not_around) ∙ sh.leads_from

  way_to : walk t.entries root qt ≡ Some (target.Inode dt)
  way_to = walk_else qt (not_of_parent from qt nt not_inside) (not_longer qt nt) ∙ sh.leads_to

  -- what stood at `from`
  was_from : walk s.entries root from ≡ s.entries df nf
  was_from = walk_push s.entries root df qf nf sh.leads_from

  now_to : walk t.entries root to ≡ s.entries df nf
  now_to = walk_push t.entries root dt qt nt way_to ∙ sh.at_to

  pub walk_from : walk t.entries root from ≡ left_at leaves
  walk_from = walk_push t.entries root df qf nf way_from ∙ sh.at_from

  -- the whole subtree has moved
  pub walk_moved : (r : Names) → walk t.entries root (to ++ r) ≡ walk s.entries root (from ++ r)
  walk_moved r = by (s.entries df nf) refl r
    where
      by : (o : Option Target) → s.entries df nf ≡ o → (r : Names) → walk t.entries root (to ++ r) ≡ walk s.entries root (from ++ r)
      by o is [] = ap (walk t.entries root) (append-nil to) ∙ now_to ∙ sym was_from ∙ ap (walk s.entries root) (sym (append-nil from))
      by (Some (target.Inode c)) is (m ∷ r) =
          walk-append t.entries root c to (m ∷ r) (now_to ∙ is)
          ∙ walk_agree s.entries t.entries (m ∷ r) c (λ y k z e b leads. sh.below y k b (walk-append s.entries root c from y (was_from ∙ is) ∙ leads))
          ∙ sym (walk-append s.entries root c from (m ∷ r) (was_from ∙ is))
      by (Some target.Whiteout) is (m ∷ r) =
          ap (walk t.entries root) (append_assoc qt (nt ∷ []) (m ∷ r)) ∙ walk_past t.entries root dt qt nt m r way_to (open_bare t.entries _ (subst IsOpen (sym (sh.at_to ∙ is)) tt))
          ∙ sym (ap (walk s.entries root) (append_assoc qf (nf ∷ []) (m ∷ r)) ∙ walk_past s.entries root df qf nf m r sh.leads_from (open_bare s.entries _ (subst IsOpen (sym is) tt)))
      by None is (m ∷ r) =
          ap (walk t.entries root) (append_assoc qt (nt ∷ []) (m ∷ r)) ∙ walk_past t.entries root dt qt nt m r way_to (open_bare t.entries _ (subst IsOpen (sym (sh.at_to ∙ is)) tt))
          ∙ sym (ap (walk s.entries root) (append_assoc qf (nf ∷ []) (m ∷ r)) ∙ walk_past s.entries root df qf nf m r sh.leads_from (open_bare s.entries _ (subst IsOpen (sym is) tt)))

  pub walk_gone : (m : List ℕ) (r : Names) → walk t.entries root (from ++ m ∷ r) ≡ None
  walk_gone m r = ap (walk t.entries root) (append_assoc qf (nf ∷ []) (m ∷ r)) ∙ walk_past t.entries root df qf nf m r way_from (open_bare t.entries _ (subst IsOpen (sym sh.at_from) (open_left leaves)))
    where
      open_left : (b : Bool) → IsOpen (left_at b)
      open_left true = tt
      open_left false = tt

  seen_left : (b : Bool) → node_shown t.nodes (left_at b) ≡ (if b then Some node.Whiteout else None)
  seen_left true = refl
  seen_left false = refl

  -- a path lies at `to` or below it, at `from`, below it, or elsewhere
  pub by_place : {A : Type 0} (x : Names) → ((r : Names) → x ≡ to ++ r → A) → (x ≡ from → A) → ((m : List ℕ) (r : Names) → x ≡ from ++ m ∷ r → A) → (begins from x ≡ false → begins to x ≡ false → A) → A
  by_place {A} x moves here gone else_ = elim (split_front to x) [
    | inl within ↦ moves within.1 within.2
    | inr not_to ↦ elim (split_front from x) [ inl within ↦ at within.1 within.2 | inr stays ↦ else_ stays.0 not_to.0 ]
  ]
    where
      at : (r : Names) → x ≡ from ++ r → A
      at [] is = here (is ∙ append-nil from)
      at (m ∷ r) is = gone m r is

  -- the list of the definition is what stands at the paths
  pub shows : (u : Tree) → ((x : Names) → stands s root x ≡ at u x) → (x : Names) → stands t root x ≡ at (with_moved u from to leaves) x
  shows u was x = by_place x
      (λ r is. ap (stands t root) is ∙ ap (node_shown t.nodes) (walk_moved r) ∙ seen_agree t.nodes s.nodes (walk s.entries root (from ++ r)) (λ c leads. sh.nodes (from ++ r) c leads (apart_below to from r not_around not_inside)) ∙ was (from ++ r) ∙ sym (at-with_moved_below u from to not_inside not_around leaves r) ∙ ap (at (with_moved u from to leaves)) (sym is))
      (λ is. ap (stands t root) is ∙ ap (node_shown t.nodes) walk_from ∙ seen_left leaves ∙ sym (at-with_moved_from u from to not_inside not_around leaves) ∙ ap (at (with_moved u from to leaves)) (sym is))
      (λ m r is. ap (stands t root) is ∙ ap (node_shown t.nodes) (walk_gone m r) ∙ sym (at-with_moved_gone u from to not_inside not_around leaves m r) ∙ ap (at (with_moved u from to leaves)) (sym is))
      (λ stays not_to. ap (node_shown t.nodes) (walk_else x stays not_to) ∙ seen_agree t.nodes s.nodes (walk s.entries root x) (λ c leads. sh.nodes x c leads not_to) ∙ was x ∙ sym (at-with_moved_else u from to not_inside not_around leaves x stays not_to))

  -- where a walk leads now, it led from another path
  pub came : (x : Names) (c : ℕ) → walk t.entries root x ≡ Some (target.Inode c) → (y : Names) × (walk s.entries root y ≡ Some (target.Inode c)) × (begins to y ≡ false) × (((r : Names) × (x ≡ to ++ r) × (y ≡ from ++ r)) ⊎ ((x ≡ y) × (begins from y ≡ false)))
  came x c leads = by_place x
      (λ r is. (from ++ r, sym (walk_moved r) ∙ ap (walk t.entries root) (sym is) ∙ leads, apart_below to from r not_around not_inside, inl (r, is, refl)))
      (λ is. absurd (no_left leaves (sym walk_from ∙ ap (walk t.entries root) (sym is) ∙ leads)))
      (λ m r is. absurd (no_left false (sym (walk_gone m r) ∙ ap (walk t.entries root) (sym is) ∙ leads)))
      (λ stays not_to. (x, sym (walk_else x stays not_to) ∙ leads, not_to, inr (refl, stays)))
    where
      no_left : (b : Bool) → left_at b ≡ Some (target.Inode c) → ⊥
      no_left true e = cc
      no_left false e = cc

  pub table : IsTable s root → IsOpen (s.entries dt nt) → ((c : ℕ) → IsSome (t.nodes c) → IsSome (s.nodes c)) → IsTable t root
  table ok open_to had = record {
    root_dir = subst IsDirAt (sym (sh.nodes [] root refl (not_of_root to (λ e. omega (arith, ap length e, length-append qt (nt ∷ [])))))) ok.root_dir;
    there = λ x c leads. let y = came x c leads in subst IsSome (sym (sh.nodes y.0 c y.1 y.2)) (ok.there y.0 c y.1);
    forest = λ x z c dir to_x to_z.
        let y = came x c to_x in
        let w = came z c to_z in
        let same : y.0 ≡ w.0 = ok.forest y.0 w.0 c (subst IsDirAt (sh.nodes y.0 c y.1 y.2) dir) y.1 w.1 in
        elim y.3 [
          | inl moved ↦ elim w.3 [
            | inl again ↦ moved.1 ∙ ap (λ (r : Names). to ++ r) (append-cancel from moved.0 again.0 (sym moved.2 ∙ same ∙ again.2)) ∙ sym again.1
            | inr other ↦ absurd (no (sym (begins_from from w.0 moved.0 (sym same ∙ moved.2)) ∙ other.1))
          ]
          | inr stays ↦ elim w.3 [
            | inl again ↦ absurd (no (sym (begins_from from y.0 again.0 (same ∙ again.2)) ∙ stays.1))
            | inr other ↦ stays.0 ∙ same ∙ sym other.0
          ]
        ];
    reached = λ c some.
        let y = ok.reached c (had c some) in
        elim (split_front from y.0) [
          | inl moved ↦ (to ++ moved.1, walk_moved moved.1 ∙ ap (walk s.entries root) (sym moved.2) ∙ y.1)
          | inr stays ↦ (y.0, walk_else y.0 stays.0 (open_out s root qt nt dt sh.leads_to open_to y.0 c y.1) ∙ y.1)
        ];
  }
    where
      no : true ≡ false → ⊥
      no e = cc

-- what the code does moves the subtree
pub shifts : (s t : SlotView) (root : ℕ) (qf : Names) (nf : List ℕ) (df : ℕ) (qt : Names) (nt : List ℕ) (dt : ℕ) (leaves : Bool) → IsTable s root
    → walk s.entries root qf ≡ Some (target.Inode df) → walk s.entries root qt ≡ Some (target.Inode dt) → IsDirAt (s.nodes df) → IsDirAt (s.nodes dt)
    → begins (qf ++ nf ∷ []) (qt ++ nt ∷ []) ≡ false → Shifted s t df nf dt nt leaves → Shifts s t root qf nf df qt nt dt leaves
shifts s t root qf nf df qt nt dt leaves ok to_f to_t dir_f dir_t not_inside sh = record {
  leads_from = to_f;
  leads_to = to_t;
  entries = λ x m c leads out_f out_t. sh.others c m
      (λ at same. no (sym (subst (λ z. begins (qf ++ nf ∷ []) z ≡ true) (sym (ap (λ (z : Names). z ++ m ∷ []) (ok.forest x qf df dir_f (leads ∙ ap (λ (k : ℕ). Some (target.Inode k)) at) to_f) ∙ ap (λ (z : List ℕ). qf ++ z ∷ []) same)) (begins_itself (qf ++ nf ∷ []))) ∙ out_f))
      (λ at same. no (sym (subst (λ z. begins (qt ++ nt ∷ []) z ≡ true) (sym (ap (λ (z : Names). z ++ m ∷ []) (ok.forest x qt dt dir_t (leads ∙ ap (λ (k : ℕ). Some (target.Inode k)) at) to_t) ∙ ap (λ (z : List ℕ). qt ++ z ∷ []) same)) (begins_itself (qt ++ nt ∷ []))) ∙ out_t));
  below = λ r m c leads. sh.others c m
      (λ at same. longer r (ok.forest ((qf ++ nf ∷ []) ++ r) qf df dir_f (leads ∙ ap (λ (k : ℕ). Some (target.Inode k)) at) to_f))
      (λ at same. no (sym (begins_from (qf ++ nf ∷ []) (qt ++ nt ∷ []) (r ++ nt ∷ []) (ap (λ (z : Names). z ++ nt ∷ []) (sym (ok.forest ((qf ++ nf ∷ []) ++ r) qt dt dir_t (leads ∙ ap (λ (k : ℕ). Some (target.Inode k)) at) to_t)) ∙ append_assoc (qf ++ nf ∷ []) r (nt ∷ []))) ∙ not_inside));
  at_to = sh.to;
  at_from = sh.from;
  nodes = λ x c leads out. sh.nodes c;
}
  where
    no : true ≡ false → ⊥
    no e = cc

    longer : (r : Names) → (qf ++ nf ∷ []) ++ r ≡ qf → ⊥
    longer r e = omega (arith, ap length e, length-append (qf ++ nf ∷ []) r, length-append qf (nf ∷ []))
