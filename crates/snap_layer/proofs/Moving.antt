-- A subtree moved: the code's entries, and the layer afterwards.
use Rattle.std.proofs.Common.{◌≡◌, ℕ, ◌+◌, ◌≤◌, Bool, true, false, cond, not, List, [], ◌∷◌, ◌++◌, length, length-append, drop, None, IsSome, refl, sym, ap, subst, ◌∙◌, inl, inr, arith}
use Rattle.std.specs.Prelude.{option_and_then}
use Rattle.std.specs.Map.{lookup}
use Rattle.std.specs.BTreeMap.{is_at}
use Rattle.snap_path.specs.Text.{Names, IsPath, begins}
use Rattle.snap_layer.specs.declared.node.Node.{Node}
use Rattle.snap_layer.specs.declared.node.Node.TheVariants.{Whiteout}
use Rattle.snap_layer.specs.Tree.{Tree, Entries, path_cmp, at, number_of, IsDirAt}
use Rattle.snap_layer.specs.Counts.{inode_count}
use Rattle.snap_layer.specs.Layers.{IsLayer}
use Rattle.snap_layer.specs.Edits.{without, outside, inside, relocated, moved, with_moved, IsMovable}
use Rattle.snap_layer.proofs.Lists.{lookup-filter}
use Rattle.snap_layer.proofs.Paths.{path_cmp_total, path_cmp-IsAntisymmetric, split_front, begins_itself, begins-trans, begins_rest, begins-append}
use Rattle.snap_layer.proofs.Kept.{IsLayer-with_entry}
use Rattle.snap_layer.proofs.Replacing.{clears_place}
use Rattle.snap_layer.proofs.Filling.{Becomes, becomes}
use Rattle.snap_layer.proofs.Moves.{IsLayer-replaced, at-moved_gone, at-with_moved_else, inode_count-with_moved, inode_count-with_moved_whiteout, not_longer, not_root}

-- ---- the entries, one after the other

no_node : IsSome {T = Node} None → ⊥
no_node e = cc

pub found_inside : (p q : Names) (es : Entries) → IsSome (lookup (is_at (path_cmp q)) (inside p es)) → (begins p q ≡ true) × IsSome (lookup (is_at (path_cmp q)) es)
found_inside p q es some = by (begins p q) (lookup-filter path_cmp_total path_cmp-IsAntisymmetric (λ x. begins p x) q es) some
  where
    by : (b : Bool) → lookup (is_at (path_cmp q)) (inside p es) ≡ cond b (lookup (is_at (path_cmp q)) es) None → IsSome (lookup (is_at (path_cmp q)) (inside p es)) → (b ≡ true) × IsSome (lookup (is_at (path_cmp q)) es)
    by true e s = (refl, subst IsSome e s)
    by false e s = absurd (no_node (subst IsSome e s))

pub found_outside : (p q : Names) (es : Entries) → IsSome (lookup (is_at (path_cmp q)) (outside p es)) → IsSome (lookup (is_at (path_cmp q)) es)
found_outside p q es some = by (begins p q) (lookup-filter path_cmp_total path_cmp-IsAntisymmetric (λ x. not (begins p x)) q es) some
  where
    by : (b : Bool) → lookup (is_at (path_cmp q)) (outside p es) ≡ cond (not b) (lookup (is_at (path_cmp q)) es) None → IsSome (lookup (is_at (path_cmp q)) (outside p es)) → IsSome (lookup (is_at (path_cmp q)) es)
    by true e s = absurd (no_node (subst IsSome e s))
    by false e s = subst IsSome e s

-- a front is not longer than what begins with it
pub begins_length : (front p : Names) → begins front p ≡ true → length front ≤ length p
begins_length front p e = omega (arith, ap length (begins_rest front p e), length-append front (drop (length front) p))

-- each moved path is one
pub moved_paths : (t : Tree) (from to : Names) → IsMovable t from to → (q : Names) → IsSome (lookup (is_at (path_cmp q)) (inside from (outside to t.entries))) → IsPath (relocated from to q)
moved_paths t from to movable q some =
    let found = found_inside from q (outside to t.entries) some in
    let there = found_outside to q t.entries found.1 in
    movable.fits (drop (length from) q) (subst (λ (r : Names). IsSome (at t r)) (begins_rest from q found.0) there)

-- ---- the layer afterwards

-- the layer with a subtree moved
pub moved_becomes : (t : Tree) (from to : Names) (leaves : Bool) (r i : ℕ) → IsLayer t → IsMovable t from to → r ≡ inode_count (without t to) → i ≡ r + cond leaves 1 0 → Becomes (with_moved t from to leaves) i
moved_becomes t from to leaves r i ok movable left after = by leaves after
  where
    base : IsLayer (without t to)
    base = (clears_place t to ok movable.place).layer

    okm : IsLayer (moved (without t to) from to)
    okm = IsLayer-replaced t from to base movable.place.above movable.not_inside movable.not_around movable.fits

    gone : at (moved (without t to) from to) from ≡ None
    gone = at-moved_gone (without t to) from to from movable.not_around (begins_itself from)

    not_to : (q : Names) (n : List ℕ) → from ≡ q ++ n ∷ [] → begins to q ≡ false
    not_to q n is = elim (split_front to q) [
      | inr out ↦ out.0
      | inl within ↦ absurd (no_bool (sym (begins-trans to q from within.0 (subst (λ (x : Names). begins q x ≡ true) (sym is) (begins-append q (n ∷ [])))) ∙ movable.not_around))
    ]
      where
        no_bool : true ≡ false → ⊥
        no_bool e = cc

    above : (q : Names) (n : List ℕ) → from ≡ q ++ n ∷ [] → IsDirAt (at (moved (without t to) from to) q)
    above q n is =
        let dir = ok.parents q n (subst (λ (x : Names). IsSome (at t x)) is movable.there) in
        let out : begins from q ≡ false = subst (λ (x : Names). begins x q ≡ false) (sym is) (not_longer q n) in
        subst IsDirAt (sym (at-with_moved_else t from to movable.not_inside movable.not_around false q out (not_to q n is))) dir

    by : (b : Bool) → i ≡ r + cond b 1 0 → Becomes (with_moved t from to b) i
    by false is = becomes (with_moved t from to false) i (omega (arith, inode_count-with_moved t from to ok.sorted_paths)) (λ few. okm) ok.next.1
    by true is =
        let count : i ≡ inode_count (with_moved t from to true) = omega (arith, inode_count-with_moved_whiteout t from to ok.sorted_paths movable.not_around) in
        becomes (with_moved t from to true) i count
        (λ few. IsLayer-with_entry (moved (without t to) from to) from Whiteout okm (record {
          no_number = ap (option_and_then number_of) gone;
          stays = λ dir. absurd (subst IsDirAt gone dir);
          parent = above;
          root = λ e. absurd (not_root from to movable.not_inside e);
          path = ok.paths from movable.there;
          whole = tt;
          few = few;
        }))
        ok.next.1
