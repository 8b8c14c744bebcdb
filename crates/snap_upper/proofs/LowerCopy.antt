-- A lower file that a link or a rename copies: the layer with the directories above both of its paths, and the copy.
use Rattle.std.proofs.Common.{◌≡◌, ℕ, ◌+◌, ◌<◌, true, false, List, [], ◌∷◌, ◌++◌, length, Option, Some, None, is_some, refl, sym, ap, subst, ◌∙◌, arith, append-nil, length-append}
use Rattle.snap_path.specs.Text.{Names, begins}
use Rattle.snap_layer.specs.declared.node.Node.{Node}
use Rattle.snap_layer.specs.declared.node.Node.TheVariants.{Whiteout}
use Rattle.snap_layer.specs.declared.node.Body.{Body}
use Rattle.snap_layer.specs.declared.node.Body.TheVariants as body_kinds
use Rattle.snap_layer.specs.Tree.{Tree, IsDirAt, at, leaf_node, number_of}
use Rattle.snap_layer.specs.Counts.{inode_count, is_within}
use Rattle.snap_layer.specs.Layers.{IsBody, IsLayer}
use Rattle.snap_layer.specs.Edits.{HasParent, with_new, with_node}
use Rattle.snap_layer.proofs.Counting.{inodes_of}
use Rattle.snap_layer.proofs.Kept.{nothing_below}
use Rattle.snap_layer.proofs.Replacing.{is_within_many}
use Rattle.snap_merge.specs.Objects.{Object, dir, file, symlink, seen, is_shown_dir}
use Rattle.snap_merge.specs.Walk.{walk_error}
use Rattle.snap_copyup.specs.Copying.{below, copied_up, object_body, with_object, with_parents}
use Rattle.snap_copyup.proofs.Most.{most_parents}
use Rattle.snap_copyup.proofs.Alone.{below_seen, copied_missing}
use Rattle.snap_copyup.proofs.ParentDirs.{AddsParents, Extends, adds_parents, parents_extend, parents_stand}
use Rattle.snap_copyup.proofs.Growing.{grows_from}
use Rattle.snap_copyup.proofs.Steps.{many_from}
use Rattle.snap_copyup.proofs.Wholes.{IsWholeObject}
use Rattle.snap_copyup.proofs.Undoing.{second_way}
use Rattle.snap_upper.proofs.Most.{most_before_move}
use Rattle.snap_upper.proofs.Prepared.{longer_out}
use Rattle.snap_upper.proofs.EitherOrder.{IsBare, bare_here, file_inodes, node_inodes, parents_either}

-- ---- a body and its name

pub leaf_number : (k : ℕ) (b : Body) → number_of (leaf_node k b) ≡ Some k
leaf_number k (body_kinds.File meta content) = refl
leaf_number k (body_kinds.Symlink target) = refl

leaf_inodes : (k : ℕ) (b : Body) → inodes_of (Some (leaf_node k b)) ≡ 0
leaf_inodes k (body_kinds.File meta content) = refl
leaf_inodes k (body_kinds.Symlink target) = refl

-- what layers show is within the limits
pub body_fits : (o : Option Object) (b : Body) → IsWholeObject o → object_body o ≡ Some b → IsBody b
body_fits None b whole e = absurd (cc)
body_fits (Some (dir meta)) b whole e = absurd (cc)
body_fits (Some (file meta content)) b whole e = let same : body_kinds.File meta content ≡ b = cc in subst IsBody same whole
body_fits (Some (symlink target)) b whole e = let same : body_kinds.Symlink target ≡ b = cc in subst IsBody same whole

-- ---- the layer with the directories above both paths

-- a lower file or symlink is seen at `from`, and `to` doesn't lie there or below
pub record IsLowerFile (u : Tree) (ls : List Tree) (from to : Names) : Type 0 where
  pub way_from : walk_error (u ∷ ls) from ≡ None
  pub way_to : walk_error (u ∷ ls) to ≡ None
  pub lower : at u from ≡ None
  pub there : is_some (seen (u ∷ ls) from) ≡ true
  pub no_dir : is_shown_dir (seen (u ∷ ls) from) ≡ false
  pub not_inside : begins from to ≡ false

module _ (u : Tree) (ls : List Tree) (from to : Names) (ok : IsLayer u) (is : IsLowerFile u ls from to) where
  abbrev v : Tree
  v = with_parents u ls from

  abbrev w : Tree
  w = with_parents (with_parents u ls from) ls to

  above_from : AddsParents u (with_parents u ls from) ls (length from)
  above_from = adds_parents u ls from is.way_from

  pub way_later : walk_error (with_parents u ls from ∷ ls) to ≡ None
  way_later = second_way u ls from to is.way_from is.way_to

  pub above_to : AddsParents (with_parents u ls from) (with_parents (with_parents u ls from) ls to) ls (length to)
  above_to = adds_parents v ls to way_later

  extends : Extends (with_parents u ls from) (with_parents (with_parents u ls from) ls to) to
  extends = parents_extend v ls to way_later

  pub ready_seen : (q : Names) → seen (with_parents (with_parents u ls from) ls to ∷ ls) q ≡ seen (u ∷ ls) q
  ready_seen q = above_to.view q ∙ above_from.view q

  ready_next : (with_parents (with_parents u ls from) ls to).next ≡ u.next
  ready_next = above_to.next ∙ above_from.next

  ready_most : (with_parents (with_parents u ls from) ls to).most ≡ u.most
  ready_most = most_parents v ls to ∙ most_parents u ls from

  first_bare : IsBare (with_parents u ls from) from
  first_bare = record { sorted = (grows_from u ls [] from ok.sorted_paths is.way_from).sorted; none = by }
    where
      by : (r : Names) → at (with_parents u ls from) (from ++ r) ≡ None
      by [] = ap (at v) (append-nil from) ∙ above_from.leaves from (omega arith) ∙ is.lower
      by (n ∷ r) = above_from.leaves (from ++ n ∷ r) (omega (arith, length-append from (n ∷ r))) ∙ nothing_below u ok from (λ d. subst IsDirAt is.lower d) n r

  pub ready_bare : IsBare (with_parents (with_parents u ls from) ls to) from
  ready_bare = record {
    sorted = (grows_from v ls [] to first_bare.sorted way_later).sorted;
    none = λ r. extends.beside (from ++ r) (longer_out from to r is.not_inside) ∙ first_bare.none r;
  }

  pub ready_parent : HasParent (with_parents (with_parents u ls from) ls to) from
  ready_parent = record {
    below_root = λ e. subst IsDirAt is.lower (subst (λ (q : Names). IsDirAt (at u q)) (sym e) ok.root);
    parent = λ q n e. kept q (parents_stand u ls from is.way_from q n e);
  }
    where
      kept : (q : Names) → IsDirAt (at v q) → IsDirAt (at w q)
      kept q d = by (at v q) refl d
        where
          by : (o : Option Node) → at v q ≡ o → IsDirAt o → IsDirAt (at w q)
          by None e d = absurd d
          by (Some n) e d = subst IsDirAt (sym (extends.keeps q n e)) d

  -- ---- the copy

  first_below : below (with_parents u ls from) ls from ≡ seen (u ∷ ls) from
  first_below = sym (below_seen v ls from (bare_here v from first_bare)) ∙ above_from.view from

  ready_below : below (with_parents (with_parents u ls from) ls to) ls from ≡ seen (u ∷ ls) from
  ready_below = sym (below_seen w ls from (bare_here w from ready_bare)) ∙ ready_seen from

  pub lower_body : (b : Body) × (object_body (below (with_parents (with_parents u ls from) ls to) ls from) ≡ Some b) × (copied_up u ls from ≡ with_new (with_parents u ls from) from (leaf_node (with_parents u ls from).next b) b)
  lower_body = by (seen (u ∷ ls) from) refl is.there is.no_dir
    where
      by : (o : Option Object) → seen (u ∷ ls) from ≡ o → is_some o ≡ true → is_shown_dir o ≡ false
          → (b : Body) × (object_body (below w ls from) ≡ Some b) × (copied_up u ls from ≡ with_new v from (leaf_node v.next b) b)
      by None e some other = absurd (cc)
      by (Some (dir m)) e some other = absurd (cc)
      by (Some (file m content)) e some other = (body_kinds.File m content, ap object_body (ready_below ∙ e), copied_missing v ls from (bare_here v from first_bare) ∙ ap (with_object v from) (first_below ∙ e))
      by (Some (symlink target)) e some other = (body_kinds.Symlink target, ap object_body (ready_below ∙ e), copied_missing v ls from (bare_here v from first_bare) ∙ ap (with_object v from) (first_below ∙ e))

  -- the copy is put after all directories as well
  pub copy_last : with_parents (copied_up u ls from) ls to ≡ with_new (with_parents (with_parents u ls from) ls to) from (leaf_node (with_parents (with_parents u ls from) ls to).next lower_body.0) lower_body.0
  copy_last =
      ap (λ (t : Tree). with_parents t ls to) lower_body.2
      ∙ parents_either v ls from first_bare (leaf_node v.next lower_body.0) lower_body.0 [] to is.not_inside way_later
      ∙ ap (λ (k : ℕ). with_new w from (leaf_node k lower_body.0) lower_body.0) (sym above_to.next)

  -- ---- what it takes

  pub copy_inodes : inode_count (with_parents (copied_up u ls from) ls to) ≡ inode_count (with_parents (with_parents u ls from) ls to) + 1
  copy_inodes = ap inode_count copy_last ∙ file_inodes w from ready_bare u ok (above_to.bodies ∙ above_from.bodies) ready_next (leaf_node w.next lower_body.0) lower_body.0 (leaf_inodes w.next lower_body.0)

  -- where the directories alone pass the limits, they have too many inodes
  pub ready_many : is_within (with_parents (with_parents u ls from) ls to) ≡ false → u.most < inode_count (with_parents (with_parents u ls from) ls to)
  ready_many full = omega (arith, many_from w (omega (arith, ready_next, ok.next.1)) full, ready_most)

  -- and then so does the layer with the copy
  pub ready_full : is_within (with_parents (with_parents u ls from) ls to) ≡ false → is_within (with_parents (copied_up u ls from) ls to) ≡ false
  ready_full full = is_within_many (with_parents (copied_up u ls from) ls to) (omega (arith, ready_many full, copy_inodes, most_before_move u ls from to))

  -- as it does where a whiteout in place of the copy is too much
  pub white_full : is_within (with_node (with_parents (with_parents u ls from) ls to) from Whiteout) ≡ false → is_within (with_parents (copied_up u ls from) ls to) ≡ false
  white_full full =
      is_within_many (with_parents (copied_up u ls from) ls to)
      (omega (arith, many_from (with_node w from Whiteout) (omega (arith, ready_next, ok.next.1)) full, node_inodes w from ready_bare Whiteout, copy_inodes, ready_most, most_before_move u ls from to))
