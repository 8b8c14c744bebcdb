-- What is seen after a rename.
use Rattle.std.proofs.Common.{◌≡◌, ◌⊎◌, inl, inr, ℕ, ◌+◌, Bool, true, false, cond, List, [], ◌∷◌, ◌++◌, length, Option, Some, None, is_some, refl, sym, ap, subst, ◌∙◌, arith}
use Rattle.std.specs.Prelude.{not}
use Rattle.std.specs.Ordering.{nat_cmp}
use Rattle.std.specs.List.Sorted.{IsStrictlySortedBy}
use Rattle.std.specs.Map.{keys_of}
use Rattle.std.proofs.lemmas.Bool.{cond-true, cond-false}
use Rattle.snap_path.specs.Text.{Names, begins}
use Rattle.snap_layer.specs.declared.node.Meta.{Meta}
use Rattle.snap_layer.specs.declared.node.Node.{Node}
use Rattle.snap_layer.specs.declared.node.Node.TheVariants as node
use Rattle.snap_layer.specs.declared.node.Body.{Body}
use Rattle.snap_layer.specs.declared.node.Body.TheVariants as body_kinds
use Rattle.snap_layer.specs.Tree.{Tree, Bodies, at, node_hides, number_of, number_at}
use Rattle.snap_layer.specs.Layers.{IsLayer}
use Rattle.snap_layer.specs.Edits.{IsFree, with_entry, with_new, without, outside}
use Rattle.snap_layer.proofs.Paths.{begins-append}
use Rattle.snap_layer.proofs.Looks.{Sets, Sets-with_entry, split_path, sorted-bodies_without}
use Rattle.snap_layer.proofs.Laws.{Replaces-with_new, sorted-with_body}
use Rattle.snap_merge.specs.Objects.{Object, dir, file, symlink, seen, is_shown_dir, AreLayers}
use Rattle.snap_merge.specs.Walk.{walk_error, walk_from}
use Rattle.snap_merge.proofs.Views.{walk_same}
use Rattle.snap_merge.proofs.Hiding.{hides_alike}
use Rattle.snap_merge.proofs.Above.{nothing_seen}
use Rattle.snap_copyup.specs.Copying.{below, copied, with_object, with_parents_from, with_parents, copied_up, is_pure_over}
use Rattle.snap_copyup.specs.Places.{with_last, last_of}
use Rattle.snap_copyup.proofs.Alone.{walk_passes, below_seen, copied_there, copied_missing}
use Rattle.snap_copyup.proofs.ParentDirs.{AddsParents, adds_parents, dir_copied}
use Rattle.snap_copyup.proofs.Copies.{last_copied, copied_view, Puts-with_new}
use Rattle.snap_copyup.proofs.Layers.{no_missing}
use Rattle.snap_upper.specs.declared.op.Op.TheVariants as op
use Rattle.snap_upper.specs.After.{tests, first_error, is_same_name, renamed, next_layer}
use Rattle.snap_upper.specs.Changed.{IsName, Stays, ShowsMoved}
use Rattle.snap_upper.proofs.Moved.{nothing_hidden, nothing_lower, moved_changes}
use Rattle.snap_upper.proofs.Renamable.{is_name, not_name, IsRenamable, IsRenamable-passed}

no_bool : true ≡ false → ⊥
no_bool e = cc

longer : (p r : Names) (m : List ℕ) → p ++ m ∷ r ≡ p → ⊥
longer [] r m e = cc
longer (x ∷ p) r m e = longer p r m (cc)

-- ---- the directories above a path

-- what stands in u stands in t, and at each path t hides what is below where u does
pub record Keeps (u t : Tree) : Type 0 where
  pub node : (q : Names) (n : Node) → at u q ≡ Some n → at t q ≡ Some n
  pub hides : (q : Names) → node_hides (at t q) ≡ node_hides (at u q)

keeps_itself : (u : Tree) → Keeps u u
keeps_itself u = record { node = λ q n e. e; hides = λ q. refl }

keeps_both : (u t v : Tree) → Keeps u t → Keeps t v → Keeps u v
keeps_both u t v a b = record { node = λ q n e. b.node q n (a.node q n e); hides = λ q. b.hides q ∙ a.hides q }

keeps_dir : (u : Tree) (p : Names) (k : Meta) → at u p ≡ None → Keeps u (with_entry u p (node.Dir k false))
keeps_dir u p k none = record {
  node = λ q n e. elim (split_path q p) [
    | inl one ↦ absurd (no_node n (sym none ∙ ap (at u) (sym one.0) ∙ e))
    | inr two ↦ sets.others q (λ same. two.0 (sym same)) ∙ e
  ];
  hides = λ q. elim (split_path q p) [
    | inl one ↦ ap (λ (x : Names). node_hides (at v x)) one.0 ∙ ap node_hides sets.here ∙ sym (ap node_hides none) ∙ ap (λ (x : Names). node_hides (at u x)) (sym one.0)
    | inr two ↦ ap node_hides (sets.others q (λ same. two.0 (sym same)))
  ];
}
  where
    v : Tree
    v = with_entry u p (node.Dir k false)

    sets : Sets u (with_entry u p (node.Dir k false)) p (Some (node.Dir k false))
    sets = Sets-with_entry u p (node.Dir k false)

    no_node : (n : Node) → None ≡ Some n → ⊥
    no_node n e = cc

keeps_copied : (u : Tree) (ls : List Tree) (p : Names) → is_shown_dir (seen (u ∷ ls) p) ≡ true → Keeps u (copied u ls p)
keeps_copied u ls p is = by (at u p) refl
  where
    seen_as : (o : Option Object) → at u p ≡ None → is_shown_dir o ≡ true → Keeps u (with_object u p o)
    seen_as None none is = absurd (cc)
    seen_as (Some (dir k)) none is = keeps_dir u p k none
    seen_as (Some (file k b)) none is = absurd (cc)
    seen_as (Some (symlink b)) none is = absurd (cc)

    by : (o : Option Node) → at u p ≡ o → Keeps u (copied u ls p)
    by (Some n) e = subst (Keeps u) (sym (copied_there u ls p (ap is_some e))) (keeps_itself u)
    by None e = subst (Keeps u) (sym (copied_missing u ls p e)) (seen_as (below u ls p) e (sym (ap is_shown_dir (below_seen u ls p e)) ∙ is))

keeps_from : (u : Tree) (ls : List Tree) (front rest : Names) → walk_from (u ∷ ls) front rest ≡ None → Keeps u (with_parents_from u ls front rest)
keeps_from u ls front [] way = keeps_itself u
keeps_from u ls front (n ∷ rest) way =
    let passes = walk_passes (seen (u ∷ ls) front) (walk_from (u ∷ ls) (front ++ n ∷ []) rest) way in
    let step = dir_copied u ls front (length front + 1) passes.0 (omega arith) in
    let later = keeps_from (copied u ls front) ls (front ++ n ∷ []) rest (walk_same (u ∷ ls) (copied u ls front ∷ ls) step.view (front ++ n ∷ []) rest ∙ passes.1) in
    keeps_both u (copied u ls front) (with_parents_from (copied u ls front) ls (front ++ n ∷ []) rest) (keeps_copied u ls front passes.0) later

pub keeps_parents : (u : Tree) (ls : List Tree) (p : Names) → walk_error (u ∷ ls) p ≡ None → Keeps u (with_parents u ls p)
keeps_parents u ls p way = keeps_from u ls [] p way

-- ---- what is copied up

-- the layer c is u with what is seen at `from`, which it has there
pub record IsCopied (u c : Tree) (ls : List Tree) (from : Names) : Type 0 where
  pub view : (q : Names) → seen (c ∷ ls) q ≡ seen (u ∷ ls) q
  pub there : (n : Node) × (at c from ≡ Some n)
  pub hides : (q : Names) → (q ≡ from → ⊥) → node_hides (at c q) ≡ node_hides (at u q)
  pub sorted : IsStrictlySortedBy nat_cmp (keys_of c.bodies)
  pub own : is_some (at u from) ≡ true → c ≡ u

module _ (u : Tree) (ls : List Tree) (from : Names) (ok : IsLayer u) (layers : AreLayers ls) (way : walk_error (u ∷ ls) from ≡ None) where
  copied_own : is_some (at u from) ≡ true → copied_up u ls from ≡ u
  copied_own some = ap (λ (t : Tree). copied t ls from) (no_missing u ls from ok some) ∙ copied_there u ls from some

  IsCopied-own : (n : Node) → at u from ≡ Some n → IsCopied u (copied_up u ls from) ls from
  IsCopied-own n e = subst (λ (c : Tree). IsCopied u c ls from) (sym (copied_own (ap is_some e))) (record {
    view = λ q. refl;
    there = (n, e);
    hides = λ q apart. refl;
    sorted = ok.sorted_numbers;
    own = λ some. refl;
  })

  IsCopied-new : (n : Node) (b : Body) → at u from ≡ None → number_of n ≡ Some (with_parents u ls from).next → copied_up u ls from ≡ with_new (with_parents u ls from) from n b → IsCopied u (copied_up u ls from) ls from
  IsCopied-new n b none number is = record {
    view = λ q. copied_view u ls from way ok layers q;
    there = (n, ap (λ (c : Tree). at c from) is ∙ (Replaces-with_new t from n b).here);
    hides = λ q apart. ap (λ (c : Tree). node_hides (at c q)) is ∙ ap node_hides ((Puts-with_new u t ls from ok (subst IsFree (sym none) tt) adds n number b).others q apart) ∙ (keeps_parents u ls from way).hides q;
    sorted =
        subst (λ (c : Tree). IsStrictlySortedBy nat_cmp (keys_of c.bodies)) (sym is)
        (sorted-with_body (without t from) t.next b (sorted-bodies_without (number_at t from) (outside from t.entries) t.bodies (subst (λ (bs : Bodies). IsStrictlySortedBy nat_cmp (keys_of bs)) (sym adds.bodies) ok.sorted_numbers)));
    own = λ some. absurd (no_bool (sym some ∙ ap is_some none));
  }
    where
      t : Tree
      t = with_parents u ls from

      adds : AddsParents u (with_parents u ls from) ls (length from)
      adds = adds_parents u ls from way

  -- a directory is copied up only where it stands in the layer
  pub is_copied : is_some (seen (u ∷ ls) from) ≡ true → (is_shown_dir (seen (u ∷ ls) from) ≡ true → is_some (at u from) ≡ true) → IsCopied u (copied_up u ls from) ls from
  is_copied there stands = by (at u from) refl
    where
      new : (o : Option Object) → at u from ≡ None → below u ls from ≡ o → seen (u ∷ ls) from ≡ o → copied_up u ls from ≡ with_last (last_of None o) (with_parents u ls from) from → IsCopied u (copied_up u ls from) ls from
      new None none e was is = absurd (no_bool (sym there ∙ ap is_some was))
      new (Some (dir meta)) none e was is = absurd (no_bool (sym (stands (ap is_shown_dir was)) ∙ ap is_some none))
      new (Some (file meta content)) none e was is = IsCopied-new (node.File (with_parents u ls from).next) (body_kinds.File meta content) none refl is
      new (Some (symlink target)) none e was is = IsCopied-new (node.Symlink (with_parents u ls from).next) (body_kinds.Symlink target) none refl is

      by : (o : Option Node) → at u from ≡ o → IsCopied u (copied_up u ls from) ls from
      by (Some n) e = IsCopied-own n e
      by None e = new (below u ls from) e refl (below_seen u ls from e) (sym (last_copied u ls from way) ∙ ap (λ (o : Option Node). with_last (last_of o (below u ls from)) (with_parents u ls from) from) e)

-- ---- a move

pure_stands : (o : Option Node) (under : Option Object) → is_pure_over o under ≡ true → is_some o ≡ true
pure_stands None under e = absurd (cc)
pure_stands (Some n) under e = refl

-- what is pure hides what is below it, or no directory is below it
pure_either : (o : Option Node) (under : Option Object) → is_pure_over o under ≡ true → (node_hides o ≡ true) ⊎ (is_shown_dir under ≡ false)
pure_either None under e = absurd (cc)
pure_either (Some (node.Dir meta true)) under e = inl refl
pure_either (Some (node.Dir meta false)) under e = inr (by (is_shown_dir under) e)
  where
    by : (b : Bool) → not b ≡ true → b ≡ false
    by true e = absurd (cc)
    by false e = refl
pure_either (Some (node.File k)) under e = absurd (cc)
pure_either (Some (node.Symlink k)) under e = absurd (cc)
pure_either (Some node.Whiteout) under e = absurd (cc)

module _ (u : Tree) (ls : List Tree) (from to : Names) (ok : IsLayer u) (layers : AreLayers ls) (ready : IsRenamable u ls from to) where
  abbrev c : Tree
  c = copied_up u ls from

  abbrev t : Tree
  t = with_parents (copied_up u ls from) ls to

  pub copy : IsCopied u (copied_up u ls from) ls from
  copy = is_copied u ls from ok layers ready.way_from ready.there (λ dir. pure_stands (at u from) (below u ls from) (ready.pure dir))

  way : walk_error (copied_up u ls from ∷ ls) to ≡ None
  way = walk_same (u ∷ ls) (copied_up u ls from ∷ ls) (copy.view) [] to ∙ ready.way_to

  adds : AddsParents (copied_up u ls from) (with_parents (copied_up u ls from) ls to) ls (length to)
  adds = adds_parents c ls to way

  pub keeps : Keeps (copied_up u ls from) (with_parents (copied_up u ls from) ls to)
  keeps = keeps_parents c ls to way

  pub view : (q : Names) → seen (with_parents (copied_up u ls from) ls to ∷ ls) q ≡ seen (u ∷ ls) q
  view q = adds.view q ∙ copy.view q

  -- the same is below a path that does not go on from `from`
  same_below : (p : Names) → ((n : List ℕ) (r : Names) → p ≡ from ++ n ∷ r → ⊥) → below (with_parents (copied_up u ls from) ls to) ls p ≡ below u ls p
  same_below p out = ap (λ h. cond h None (seen ls p)) (hides_alike u t p [] (λ q n r e. keeps.hides q ∙ copy.hides q (λ same. out n r (e ∙ ap (λ (x : Names). x ++ n ∷ r) same))))

  pub from_below : below (with_parents (copied_up u ls from) ls to) ls from ≡ below u ls from
  from_below = same_below from (λ n r e. longer from r n (sym e))

  pub to_below : below (with_parents (copied_up u ls from) ls to) ls to ≡ below u ls to
  to_below = same_below to (λ n r e. no_bool (sym (ap (begins from) e ∙ begins-append from (n ∷ r)) ∙ ready.not_inside))

  -- what is seen below `from` is the layer's own
  bare : (m : List ℕ) (r : Names) → at (with_parents (copied_up u ls from) ls to) (from ++ m ∷ r) ≡ None → seen (with_parents (copied_up u ls from) ls to ∷ ls) (from ++ m ∷ r) ≡ None
  bare m r none = by (is_shown_dir (seen (u ∷ ls) from)) refl
    where
      by : (b : Bool) → is_shown_dir (seen (u ∷ ls) from) ≡ b → seen (with_parents (copied_up u ls from) ls to ∷ ls) (from ++ m ∷ r) ≡ None
      by false e = view (from ++ m ∷ r) ∙ nothing_seen (u ∷ ls) (ok, layers) r from m e
      by true e =
          let pure = ready.pure e in
          elim (pure_either (at u from) (below u ls from) pure) [
            | inl over ↦ nothing_hidden t ls from m r (keeps.hides from ∙ ap (λ (x : Tree). node_hides (at x from)) (copy.own (pure_stands (at u from) (below u ls from) pure)) ∙ over) none
            | inr under ↦ nothing_lower t ls from layers (ap is_shown_dir from_below ∙ under) m r none
          ]

  renamed_changes : ShowsMoved (seen (u ∷ ls)) (seen (renamed u ls from to ∷ ls)) from to
  renamed_changes = record {
    here = λ r. moves.here r ∙ view (from ++ r);
    gone = λ r. moves.gone r;
    others = λ q out_from out_to. moves.others q out_from out_to ∙ view q;
  }
    where
      moves : ShowsMoved (seen (with_parents (copied_up u ls from) ls to ∷ ls)) (seen (renamed u ls from to ∷ ls)) from to
      moves =
          moved_changes t ls from to (is_some (below u ls from)) (is_some (below u ls to)) ready.not_inside ready.not_around layers
          (subst (λ (bs : Bodies). IsStrictlySortedBy nat_cmp (keys_of bs)) (sym adds.bodies) copy.sorted)
          (ap is_some from_below) (ap is_some to_below) copy.there.0 (keeps.node from copy.there.0 copy.there.1) bare

-- ---- the law

pub rename_changes : (u : Tree) (ls : List Tree) (from to : Names) → IsLayer u → AreLayers ls → first_error (tests (op.Rename from to) (u ∷ ls)) ≡ None
    → (IsName u from to × Stays (seen (u ∷ ls)) (seen (next_layer (op.Rename from to) u ls ∷ ls))) ⊎ ((IsName u from to → ⊥) × ShowsMoved (seen (u ∷ ls)) (seen (next_layer (op.Rename from to) u ls ∷ ls)) from to)
rename_changes u ls from to ok layers passes = by (is_same_name u from to) refl
  where
    by : (b : Bool) → is_same_name u from to ≡ b
        → (IsName u from to × Stays (seen (u ∷ ls)) (seen (next_layer (op.Rename from to) u ls ∷ ls))) ⊎ ((IsName u from to → ⊥) × ShowsMoved (seen (u ∷ ls)) (seen (next_layer (op.Rename from to) u ls ∷ ls)) from to)
    by true e = inl (is_name u from to e, λ q. ap (λ (w : Tree). seen (w ∷ ls) q) (cond-true (is_same_name u from to) u (renamed u ls from to) e))
    by false e = inr (
      not_name u from to e,
      subst (λ (w : Tree). ShowsMoved (seen (u ∷ ls)) (seen (w ∷ ls)) from to) (sym (cond-false (is_same_name u from to) u (renamed u ls from to) e)) (renamed_changes u ls from to ok layers (IsRenamable-passed u ls from to ok layers e passes)),
    )
