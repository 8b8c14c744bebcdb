-- A new file with two names, and how it is taken back.
use Rattle.std.proofs.Common.{◌≡◌, inl, inr, ℕ, ◌+◌, ◌-◌, ◌<◌, ◌≤◌, ◌^◌, Bool, true, false, cond, not, List, [], ◌∷◌, ◌++◌, length, drop, Option, Some, None, IsSome, is_some, refl, sym, ap, subst, ◌∙◌, arith, append_assoc, append-nil}
use Rattle.std.specs.Prelude.{option_and_then, ◌==◌, ◌&&◌}
use Rattle.std.specs.Ordering.{nat_cmp}
use Rattle.std.specs.List.Sorted.{IsStrictlySortedBy}
use Rattle.std.specs.Map.{lookup, keys_of}
use Rattle.std.specs.BTreeMap.{is_at, insert_entry}
use Rattle.snap_path.specs.Limits.{most_number}
use Rattle.snap_path.specs.Text.{Names, IsPath, begins}
use Rattle.snap_layer.specs.declared.node.Node.{Node}
use Rattle.snap_layer.specs.declared.node.Node.TheVariants as node
use Rattle.snap_layer.specs.declared.node.Body.{Body}
use Rattle.snap_layer.specs.declared.node.Body.TheVariants as body_kinds
use Rattle.snap_layer.specs.Tree.{Tree, IsDirAt, path_cmp, at, body, number_at, number_of, has_number, leaf_node}
use Rattle.snap_layer.specs.Counts.{inode_count, block_count, body_blocks, name_count}
use Rattle.snap_layer.specs.Layers.{IsLayer, IsBody}
use Rattle.snap_layer.specs.Edits.{with_entry, with_linked, with_new, with_next, with_node, without, outside, bodies_without, IsFree, IsTakeable, HasParent, HasPlace, HasRooms}
use Rattle.snap_layer.specs.Undoing.{stood_at, IsNew}
use Rattle.snap_layer.proofs.Lists.{sorted-filter}
use Rattle.snap_layer.proofs.Paths.{begins_rest, split_front}
use Rattle.snap_layer.proofs.Looks.{at-without, same_tree, split_number, is_dropped, name_found}
use Rattle.snap_layer.proofs.Counting.{weight, dirs, inodes_of, inode_count-with_entry, block_count-with_entry, name_count-insert_entry}
use Rattle.snap_layer.proofs.Frames.{split_ℕ}
use Rattle.snap_layer.proofs.Kept.{body-without, IsLayer-without, IsWhole-same, free_has_no_number, free_is_no_dir, has_body, next_is_fresh, nothing_below}
use Rattle.snap_layer.proofs.Laws.{Replaces, Replaces-with_new, Replaces-with_node, Takes-without, SetsBody-with_new, block_count-with_new, sorted-with_node}
use Rattle.snap_layer.proofs.Moves.{apart_below, not_of_parent, sorted-without}
use Rattle.snap_layer.proofs.Replacing.{inode_count-with_new, name_has_no_inode, HasPlace-from_room, IsLayer-with_new}
use Rattle.snap_layer.proofs.Filling.{Becomes, becomes, file_becomes, symlink_becomes, whiteout_becomes}
use Rattle.snap_layer.proofs.Files.{leaf_number, free_names}
use Rattle.snap_layer.specs.Totals.{path_count}
use Rattle.snap_layer.proofs.Totaling.{name_becomes, name_no_dir, fewer_inodes, path_count-with_entry}
use Rattle.snap_layer.proofs.Makes.{most_same}
use Rattle.snap_layer.proofs.Numbers.{given_back, last_gone}

no_bool : true ≡ false → ⊥
no_bool e = cc

none_some : {A : Type 0} {x : A} → None ≡ Some x → ⊥
none_some e = cc

-- ---- places that lie apart

snoc_of : (x : List ℕ) (xs : Names) → (q : Names) × (n : List ℕ) × (x ∷ xs ≡ q ++ n ∷ [])
snoc_of x [] = ([], x, refl)
snoc_of x (y ∷ ys) = let rest = snoc_of y ys in (x ∷ rest.0, rest.1, λ i. x ∷ rest.2 i)

-- nothing lies below a free place
pub not_within : (t : Tree) → IsLayer t → (p q : Names) → IsFree (at t p) → HasParent t q → (q ≡ p → ⊥) → begins p q ≡ false
not_within t ok p q free parent apart = elim (split_front p q) [ inl within ↦ absurd (by within.1 within.2) | inr away ↦ away.0 ]
  where
    no_dir : (r : Names) → IsDirAt (at t (p ++ r)) → ⊥
    no_dir [] is = free_is_no_dir (at t p) free (subst (λ (x : Names). IsDirAt (at t x)) (append-nil p) is)
    no_dir (m ∷ r) is = subst IsDirAt (nothing_below t ok p (free_is_no_dir (at t p) free) m r) is

    by : (r : Names) → q ≡ p ++ r → ⊥
    by [] is = apart (is ∙ append-nil p)
    by (m ∷ r) is =
        let parts = snoc_of m r in
        no_dir parts.0 (parent.parent (p ++ parts.0) parts.1 (is ∙ ap (λ (x : Names). p ++ x) parts.2 ∙ sym (append_assoc p parts.0 (parts.1 ∷ []))))

-- where nothing stands nothing is taken
without_bare : (t : Tree) (p : Names) → IsStrictlySortedBy path_cmp (keys_of t.entries) → ((r : Names) → at t (p ++ r) ≡ None) → without t p ≡ t
without_bare t p sorted bare =
    same_tree (without t p) t
    (sorted-filter path_cmp (λ e. not (begins p e.0)) t.entries sorted)
    sorted
    (λ q. at-without t p q ∙ by q (begins p q) refl)
    (ap (λ o. bodies_without (option_and_then number_of o) (outside p t.entries) t.bodies) (ap (at t) (sym (append-nil p)) ∙ bare []))
    refl
    refl
  where
    by : (q : Names) (b : Bool) → begins p q ≡ b → cond b None (at t q) ≡ at t q
    by q true e = sym (ap (at t) (begins_rest p q e) ∙ bare (drop (length p) q))
    by q false e = refl

-- ---- a new file, first at the link and then at the path

module _ (t : Tree) (ok : IsLayer t) (path link : Names) (rooms : HasRooms t path link) (b : Body) where
  abbrev n : Node
  n = leaf_node t.next b

  -- with the name at the link alone, and at the path alone
  abbrev w : Tree
  w = with_new t link (leaf_node t.next b) b

  abbrev x : Tree
  x = with_new t path (leaf_node t.next b) b

  numbered : number_of (leaf_node t.next b) ≡ Some t.next
  numbered = leaf_number t.next b

  apart : begins link path ≡ false
  apart = not_within t ok link path rooms.room.free rooms.above rooms.apart

  around : begins path link ≡ false
  around = not_within t ok path link (subst IsFree (sym rooms.bare) tt) rooms.room.above (λ e. rooms.apart (sym e))

  vacant : (r : Names) → at t (path ++ r) ≡ None
  vacant [] = ap (at t) (append-nil path) ∙ rooms.bare
  vacant (m ∷ r) = nothing_below t ok path (λ is. subst IsDirAt rooms.bare is) m r

  put_link : Replaces t (with_new t link (leaf_node t.next b) b) link (leaf_node t.next b)
  put_link = Replaces-with_new t link n b

  put_path : Replaces t (with_new t path (leaf_node t.next b) b) path (leaf_node t.next b)
  put_path = Replaces-with_new t path n b

  then_path : Replaces w (with_node w path n) path n
  then_path = Replaces-with_node w path n

  then_link : Replaces x (with_node x link n) link n
  then_link = Replaces-with_node x link n

  w_bare : (r : Names) → at (with_new t link (leaf_node t.next b) b) (path ++ r) ≡ None
  w_bare r = put_link.others (path ++ r) (apart_below link path r apart around) ∙ vacant r

  w_sorted : IsStrictlySortedBy path_cmp (keys_of (with_new t link (leaf_node t.next b) b).entries)
  w_sorted = sorted-with_node t link n ok.sorted_paths

  w_none : at (with_new t link (leaf_node t.next b) b) path ≡ None
  w_none = ap (at w) (sym (append-nil path)) ∙ w_bare []

  w_no_number : number_at (with_new t link (leaf_node t.next b) b) path ≡ None
  w_no_number = ap (option_and_then number_of) w_none

  alike : (q : Names) → at (with_node w path n) q ≡ at (with_node x link n) q
  alike q = by (begins path q) refl (begins link q) refl
    where
      at_path : (r : Names) → at (with_node w path n) (path ++ r) ≡ at (with_new t path n b) (path ++ r)
      at_path [] = ap (at (with_node w path n)) (append-nil path) ∙ then_path.here ∙ sym put_path.here ∙ ap (at x) (sym (append-nil path))
      at_path (m ∷ r) = then_path.below m r ∙ sym (put_path.below m r)

      at_link : (r : Names) → at (with_new t link n b) (link ++ r) ≡ at (with_node x link n) (link ++ r)
      at_link [] = ap (at w) (append-nil link) ∙ put_link.here ∙ sym then_link.here ∙ ap (at (with_node x link n)) (sym (append-nil link))
      at_link (m ∷ r) = put_link.below m r ∙ sym (then_link.below m r)

      by : (c : Bool) → begins path q ≡ c → (d : Bool) → begins link q ≡ d → at (with_node w path n) q ≡ at (with_node x link n) q
      by true e d f =
          let is = begins_rest path q e in
          let r = drop (length path) q in
          ap (at (with_node w path n)) is ∙ at_path r ∙ sym (then_link.others (path ++ r) (apart_below link path r apart around)) ∙ ap (at (with_node x link n)) (sym is)
      by false e true f =
          let is = begins_rest link q f in
          let r = drop (length link) q in
          ap (at (with_node w path n)) is ∙ then_path.others (link ++ r) (apart_below path link r around apart) ∙ at_link r ∙ ap (at (with_node x link n)) (sym is)
      by false e false f = then_path.others q e ∙ put_link.others q f ∙ sym (then_link.others q f ∙ put_path.others q e)

  same_bodies : (with_node w path n).bodies ≡ (with_node x link n).bodies
  same_bodies =
      ap (λ o. bodies_without o (outside path w.entries) w.bodies) w_no_number
      ∙ ap (λ o. insert_entry nat_cmp (bodies_without o (outside link t.entries) t.bodies) t.next b) (free_has_no_number (at t link) rooms.room.free)
      ∙ sym (ap (λ o. bodies_without o (outside link x.entries) x.bodies) (ap (option_and_then number_of) (put_path.others link around) ∙ free_has_no_number (at t link) rooms.room.free) ∙ ap (λ o. insert_entry nat_cmp (bodies_without o (outside path t.entries) t.bodies) t.next b) (ap (option_and_then number_of) rooms.bare))

  -- in either order the layer is one
  pub swapped : with_node (with_new t link (leaf_node t.next b) b) path (leaf_node t.next b) ≡ with_linked t path link b
  swapped = same_tree (with_node w path n) (with_node x link n) (sorted-with_node w path n w_sorted) (sorted-with_node x link n (sorted-with_node t path n ok.sorted_paths)) alike same_bodies refl refl

  -- the other name is an entry more
  linked_is : with_linked t path link b ≡ with_entry (with_new t link (leaf_node t.next b) b) path (leaf_node t.next b)
  linked_is = sym swapped ∙ ap (λ (y : Tree). with_entry y path n) (without_bare w path w_sorted w_bare)

  pub linked_inodes : inode_count (with_linked t path link b) ≡ inode_count (with_new t link (leaf_node t.next b) b)
  linked_inodes = omega (arith, ap inode_count linked_is, inode_count-with_entry w path n w_sorted, ap inodes_of w_none, name_has_no_inode n t.next numbered)

  pub linked_blocks : block_count (with_linked t path link b) ≡ block_count (without t link) + body_blocks b
  linked_blocks = omega (arith, ap block_count linked_is, block_count-with_entry w path n w_sorted, ap (weight dirs) w_none, name_no_dir t.next b, block_count-with_new t link n b ok numbered)

  pub linked_paths : path_count (with_linked t path link b) ≡ path_count (with_new t link (leaf_node t.next b) b) + 1
  linked_paths = omega (arith, ap path_count linked_is, path_count-with_entry w path n w_sorted, ap (weight (λ m. 1)) w_none)

  pub link_place : HasPlace t link
  link_place = HasPlace-from_room t link ok rooms.room

  pub path_place : HasPlace (with_new t link (leaf_node t.next b) b) path
  path_place = record {
    clear = λ m. subst IsFree (sym (w_bare (m ∷ []))) tt;
    above = record { below_root = rooms.above.below_root; parent = λ q m is. subst IsDirAt (sym (put_link.others q (not_of_parent link q m (ap (begins link) (sym is) ∙ apart)))) (rooms.above.parent q m is) };
  }

  pub path_other : number_at (with_new t link (leaf_node t.next b) b) path ≡ Some t.next → ⊥
  path_other e = none_some (sym w_no_number ∙ e)

  pub link_body : body (with_new t link (leaf_node t.next b) b) t.next ≡ Some b
  link_body = (SetsBody-with_new t link n b).here

  -- it has no other name yet
  pub link_names : name_count t.next (with_new t link (leaf_node t.next b) b).entries + 1 < 2 ^ 64
  link_names = omega (arith, name_count-insert_entry t.next (without t link).entries link n (sorted-without t link ok.sorted_paths), free_names t ok link rooms.room.free t.next, no_names, one (has_number t.next n))
    where
      no_some : IsSome {T = Body} None → ⊥
      no_some e = cc

      no_names : name_count t.next t.entries ≡ 0
      no_names = elim (split_ℕ (name_count t.next t.entries) 0) [
        | inl none ↦ none
        | inr some ↦
            let f = name_found t.next t.entries ok.sorted_paths some in
            absurd (no_some (subst IsSome (next_is_fresh t ok) (has_body t ok f.0 t.next (ap (option_and_then number_of) f.2 ∙ f.3))))
      ]

      one : (c : Bool) → cond c 1 0 ≤ 1
      one true = omega arith
      one false = omega arith

  -- what the edit makes
  module _ (fits : IsBody b) (path_is : IsPath path) (link_is : IsPath link) (last : t.next < most_number) (r : ℕ) (left : r ≡ inode_count (without t link)) where
    link_becomes : Becomes (with_new t link (leaf_node t.next b) b) (r + 1)
    link_becomes = by b fits
      where
        by : (c : Body) → IsBody c → Becomes (with_new t link (leaf_node t.next c) c) (r + 1)
        by (body_kinds.File meta content) f = file_becomes t ok link link_is r left link_place last meta content f.0 f.1
        by (body_kinds.Symlink target) f = symlink_becomes t ok link link_is r left link_place last target f

    pub linked_becomes : Becomes (with_linked t path link b) (r + 1)
    linked_becomes = becomes (with_linked t path link b) (r + 1) (link_becomes.count ∙ sym linked_inodes)
        (λ few.
        let okw = link_becomes.layer (omega (arith, link_becomes.count, linked_inodes, few)) in
        subst IsLayer swapped ((name_becomes w okw path path_is path_place t.next b path_other link_body).layer (fewer_inodes w okw path)))
        (omega (arith, last))

  -- the name at the link can be taken back
  pub link_new : (covers : Bool) → covers ≡ is_some (at t link) → (v : Tree) → v ≡ with_new t link (leaf_node t.next b) b → IsNew covers link v t
  link_new covers some v is = record { layer = ok; stood = by (at t link) refl rooms.room.free covers some; node = n; content = b; numbered = numbered; made = is }
    where
      by : (o : Option Node) → at t link ≡ o → IsFree o → (c : Bool) → c ≡ is_some o → at t link ≡ stood_at c
      by None e free false same = e
      by None e free true same = absurd (no_bool same)
      by (Some node.Whiteout) e free true same = e
      by (Some node.Whiteout) e free false same = absurd (no_bool (sym same))
      by (Some (node.Dir m o)) e free c same = absurd (no_bool (sym free))
      by (Some (node.File k)) e free c same = absurd (no_bool (sym free))
      by (Some (node.Symlink k)) e free c same = absurd (no_bool (sym free))

  -- what is made on the way
  module _ (okl : IsLayer (with_linked t path link b)) (last : t.next < most_number) where
    pub link_layer : IsLayer (with_new t link (leaf_node t.next b) b)
    link_layer =
        IsLayer-with_new t link n b ok link_place (okl.paths link (subst IsSome (sym then_link.here) refl)) numbered
        (IsWhole-same (with_linked t path link b) w n (λ k is. ap (λ (y : Tree). body y k) (sym linked_is)) (okl.nodes link n then_link.here))
        last
        (omega (arith, linked_inodes, okl.few))

    pub path_layer : (c : Body) → body (with_new t link (leaf_node t.next b) b) t.next ≡ Some c → IsLayer (with_node (with_new t link (leaf_node t.next b) b) path (leaf_node t.next c))
    path_layer c is = subst (λ (d : Body). IsLayer (with_node w path (leaf_node t.next d))) (same b c (sym link_body ∙ is)) (subst IsLayer (sym swapped) okl)
      where
        same : (d e : Body) → Some d ≡ Some e → d ≡ e
        same d e f = cc

-- ---- what is new is taken back

-- a body stays where what is taken has another number
other_left : (t : Tree) (p : Names) (j k : ℕ) → IsLayer t → number_at t p ≡ Some j → (k ≡ j → ⊥) → body (without t p) k ≡ body t k
other_left t p j k ok number apart =
    body-without t ok p k
    ∙ ap (λ b. cond b None (body t k)) (ap (λ o. is_dropped o (without t p).entries k) number ∙ second (name_count j (without t p).entries == 0) (is_at (nat_cmp k) j) other)
  where
    second : (a b : Bool) → b ≡ false → (a && b) ≡ false
    second true b e = e
    second false b e = refl

    other : is_at (nat_cmp k) j ≡ false
    other = elim (split_number k j) [ inl same ↦ absurd (apart same.0) | inr two ↦ two.1 ]

stood_free : (covers : Bool) → IsFree (stood_at covers)
stood_free true = refl
stood_free false = tt

-- t is v without the new one at the path: nothing stands there, or a whiteout
pub record IsLeft (covers : Bool) (p : Names) (v t : Tree) : Type 0 where
  pub here : at t p ≡ stood_at covers
  pub below : (m : List ℕ) (r : Names) → at t (p ++ m ∷ r) ≡ None
  pub others : (q : Names) → begins p q ≡ false → at t q ≡ at v q
  pub bodies : t.bodies ≡ (without v p).bodies
  pub next : t.next ≡ v.next
  pub most : t.most ≡ v.most

pub taken_left : (covers : Bool) (p : Names) (v t : Tree) → covers ≡ false → t ≡ without v p → IsLeft covers p v t
taken_left covers p v t alone is =
    subst (λ (y : Tree). IsLeft covers p v y) (sym is) (record {
      here = (Takes-without v p).here ∙ ap stood_at (sym alone);
      below = (Takes-without v p).below;
      others = (Takes-without v p).others;
      bodies = refl;
      next = refl;
      most = refl;
    })

pub covered_left : (covers : Bool) (p : Names) (v t : Tree) → covers ≡ true → t ≡ with_node v p node.Whiteout → IsLeft covers p v t
covered_left covers p v t white is =
    subst (λ (y : Tree). IsLeft covers p v y) (sym is) (record {
      here = (Replaces-with_node v p node.Whiteout).here ∙ ap stood_at (sym white);
      below = (Replaces-with_node v p node.Whiteout).below;
      others = (Replaces-with_node v p node.Whiteout).others;
      bodies = refl;
      next = refl;
      most = refl;
    })

module _ (covers : Bool) (p : Names) (v u : Tree) (okv : IsLayer v) (new : IsNew covers p v u) where
  ok : IsLayer u
  ok = new.layer

  place_free : IsFree (at u p)
  place_free = subst IsFree (sym new.stood) (stood_free covers)

  replaces : Replaces u v p new.node
  replaces = subst (λ (t : Tree). Replaces u t p new.node) (sym new.made) (Replaces-with_new u p new.node new.content)

  new_number : number_at v p ≡ Some u.next
  new_number = ap (option_and_then number_of) replaces.here ∙ new.numbered

  nothing_above : (m : List ℕ) (r : Names) → at u (p ++ m ∷ r) ≡ None
  nothing_above = nothing_below u ok p (free_is_no_dir (at u p) place_free)

  -- of the bodies only the new one goes
  bodies_left : (k : ℕ) → (k ≡ u.next → ⊥) → body (without v p) k ≡ body u k
  bodies_left k apart =
      other_left v p u.next k okv new_number apart
      ∙ ap (λ (t : Tree). body t k) new.made
      ∙ (SetsBody-with_new u p new.node new.content).others k apart
      ∙ ap (λ o. lookup (is_at (nat_cmp k)) (bodies_without o (outside p u.entries) u.bodies)) (free_has_no_number (at u p) place_free)

  new_clear : (m : List ℕ) → IsFree (at v (p ++ m ∷ []))
  new_clear m = subst IsFree (sym (replaces.below m [])) tt

  new_below : p ≡ [] → ⊥
  new_below e = free_is_no_dir (at u p) place_free (subst (λ (r : Names). IsDirAt (at u r)) (sym e) ok.root)

  pub new_there : IsSome (at v p)
  new_there = ap is_some replaces.here

  pub new_takeable : IsTakeable v p
  new_takeable = record { there = new_there; clear = new_clear; below_root = new_below }

  pub taken_layer : IsLayer (without v p)
  taken_layer = IsLayer-without v p okv new_clear new_below

  -- without the new one and without the whiteout the layers have as many inodes
  same_rest : inode_count (without v p) ≡ inode_count (without u p)
  same_rest = ap inode_count (given_back (without v p) (without u p) taken_layer (IsLayer-without u p ok (λ m. subst IsFree (sym (nothing_above m [])) tt) new_below) alike_rest rest_bodies (most_same new.made))
    where
      alike_rest : (q : Names) → at (without v p) q ≡ at (without u p) q
      alike_rest q = at-without v p q ∙ by (begins p q) refl ∙ sym (at-without u p q)
        where
          by : (c : Bool) → begins p q ≡ c → cond c None (at v q) ≡ cond c None (at u q)
          by true e = refl
          by false e = replaces.others q e

      rest_bodies : (k : ℕ) → (k ≡ u.next → ⊥) → body (without v p) k ≡ body (without u p) k
      rest_bodies k apart =
          bodies_left k apart
          ∙ sym (ap (λ o. lookup (is_at (nat_cmp k)) (bodies_without o (outside p u.entries) u.bodies)) (free_has_no_number (at u p) place_free))

  pub new_place : HasPlace v p
  new_place = record {
    clear = new_clear;
    above = record { below_root = new_below; parent = λ q n is. okv.parents q n (subst (λ (x : Names). IsSome (at v x)) is new_there) };
  }

  pub covered_layer : IsLayer (with_node v p node.Whiteout)
  covered_layer =
      (whiteout_becomes v okv p (okv.paths p new_there) (inode_count (without v p)) refl new_place).layer
      (omega (arith, same_rest, inode_count-with_new u p new.node new.content ok new.numbered, ap inode_count new.made, okv.few))

  -- what is left is what was there, but for its number
  module _ (t : Tree) (okt : IsLayer t) (left : IsLeft covers p v t) where
    alike_left : (q : Names) → at t q ≡ at u q
    alike_left q = by (begins p q) refl
      where
        inside : (r : Names) → at t (p ++ r) ≡ at u (p ++ r)
        inside [] = ap (at t) (append-nil p) ∙ left.here ∙ sym new.stood ∙ ap (at u) (sym (append-nil p))
        inside (m ∷ r) = left.below m r ∙ sym (nothing_above m r)

        by : (c : Bool) → begins p q ≡ c → at t q ≡ at u q
        by true e = ap (at t) (begins_rest p q e) ∙ inside (drop (length p) q) ∙ ap (at u) (sym (begins_rest p q e))
        by false e = left.others q e ∙ replaces.others q e

    left_bodies : (k : ℕ) → (k ≡ u.next → ⊥) → body t k ≡ body u k
    left_bodies k apart = ap (lookup (is_at (nat_cmp k))) left.bodies ∙ bodies_left k apart

    last_number : t.next - 1 ≡ u.next
    last_number = omega (arith, left.next, ap (λ (y : Tree). y.next) new.made)

    pub left_gone : body t (t.next - 1) ≡ None
    left_gone = ap (body t) last_number ∙ last_gone t u okt ok alike_left left_bodies

    pub left_back : with_next t (t.next - 1) ≡ u
    left_back = ap (with_next t) last_number ∙ given_back t u okt ok alike_left left_bodies (left.most ∙ most_same new.made)
