-- A lower file that moves: its copy is put at the new path, and a whiteout at the old one.
use Rattle.std.proofs.Common.{◌≡◌, inl, inr, ℕ, Bool, true, false, cond, [], ◌∷◌, ◌++◌, drop, length, not, Option, Some, None, is_some, refl, sym, ap, subst, ◌∙◌, arith, append-nil}
use Rattle.std.specs.Prelude.{option_and_then, ◌==◌, ◌&&◌}
use Rattle.std.specs.Ordering.{nat_cmp}
use Rattle.std.specs.Cmp.{nat_cmp_total}
use Rattle.std.specs.FinMap.{nat_cmp-IsAntisymmetric}
use Rattle.std.specs.List.Sorted.{IsStrictlySortedBy}
use Rattle.std.specs.Map.{keys_of, lookup}
use Rattle.std.specs.BTreeMap.{insert_entry, is_at}
use Rattle.snap_path.specs.Text.{Names, begins}
use Rattle.snap_layer.specs.declared.node.Node.{Node}
use Rattle.snap_layer.specs.declared.node.Node.TheVariants.{Whiteout}
use Rattle.snap_layer.specs.declared.node.Body.{Body}
use Rattle.snap_layer.specs.declared.node.Body.TheVariants as body_kinds
use Rattle.snap_layer.specs.Tree.{Tree, Bodies, Entries, IsDirAt, path_cmp, at, body, has_number, leaf_node, number_at, number_of}
use Rattle.snap_layer.specs.Counts.{name_count}
use Rattle.snap_layer.specs.Layers.{IsLayer}
use Rattle.snap_layer.specs.Edits.{HasParent, HasPlace, IsFree, IsTakeable, bodies_without, moved, outside, with_entry, with_moved, with_new, with_node, with_opaque, without}
use Rattle.snap_layer.proofs.Lists.{lookup-insert_entry, same_lists, sorted-filter, sorted-insert_entry}
use Rattle.snap_layer.proofs.Paths.{begins_rest, path_cmp_total, path_cmp-IsAntisymmetric}
use Rattle.snap_layer.proofs.Looks.{Sets, Sets-with_entry, at-with_entry, at-without, at-without_outside, body-bodies_without, is_dropped, same_tree, sorted-bodies_without, split_number, split_path}
use Rattle.snap_layer.proofs.Counting.{name_count-insert_entry, weight}
use Rattle.snap_layer.proofs.Kept.{nothing_below}
use Rattle.snap_layer.proofs.Laws.{Replaces, Replaces-with_new, Replaces-with_node, sorted-with_entry, sorted-with_node, without-with_entry}
use Rattle.snap_layer.proofs.Moves.{IsVacant-without, apart_below, at-moved_below, at-moved_else, at-moved_gone, sorted-with_moved}
use Rattle.snap_layer.proofs.Replacing.{not_next, other_name, with_node-free}
use Rattle.snap_upper.specs.After.{shifted}
use Rattle.snap_upper.specs.Adding.{with_shifted}
use Rattle.snap_upper.proofs.Growth.{without_bare}
use Rattle.snap_upper.proofs.Taken.{front_out}
use Rattle.snap_upper.proofs.LowerCopy.{leaf_number}

no_bool : true ≡ false → ⊥
no_bool e = cc

module _ (w : Tree) (from to : Names) (ok : IsLayer w) (none : at w from ≡ None) where
  bare : (r : Names) → at w (from ++ r) ≡ None
  bare [] = ap (at w) (append-nil from) ∙ none
  bare (m ∷ r) = nothing_below w ok from (λ is. subst IsDirAt none is) m r

  untaken : without w from ≡ w
  untaken = without_bare w from ok.sorted_paths bare

  free : IsFree (at w from)
  free = subst IsFree (sym none) tt

  no_number : number_at w from ≡ None
  no_number = ap (option_and_then number_of) none

  -- ---- the whiteout

  white : Replaces w (with_node w from Whiteout) from Whiteout
  white = Replaces-with_node w from Whiteout

  pub white_place : HasParent w from → HasPlace w from
  white_place parent = record { clear = λ n. subst IsFree (sym (bare (n ∷ []))) tt; above = parent }

  -- it can be taken again
  pub white_takeable : IsTakeable (with_node w from Whiteout) from
  white_takeable = record {
    there = ap is_some white.here;
    clear = λ n. subst IsFree (sym (white.below n [])) tt;
    below_root = λ e. subst IsDirAt none (subst (λ (q : Names). IsDirAt (at w q)) (sym e) ok.root);
  }

  pub white_back : without (with_node w from Whiteout) from ≡ w
  white_back = ap (λ (t : Tree). without t from) (with_node-free w ok from Whiteout free) ∙ without-with_entry w ok from Whiteout none refl

  module _ (inside : begins from to ≡ false) (around : begins to from ≡ false) where
    -- the place of the copy stays one
    pub place_after : HasPlace w to → HasPlace (with_node w from Whiteout) to
    place_after place = record {
      clear = λ n. subst IsFree (sym (white.others (to ++ n ∷ []) (apart_below from to (n ∷ []) inside around))) (place.clear n);
      above = record { below_root = place.above.below_root; parent = λ q n is. subst IsDirAt (sym (white.others q (front_out from q (n ∷ []) (ap (begins from) (sym is) ∙ inside)))) (place.above.parent q n is) };
    }

    -- ---- the copy

    module _ (b : Body) where
      abbrev n : Node
      n = leaf_node w.next b

      abbrev t : Tree
      t = with_new w from n b

      abbrev y : Tree
      y = with_node w from Whiteout

      put : Replaces w (with_new w from (leaf_node w.next b) b) from (leaf_node w.next b)
      put = Replaces-with_new w from n b

      last : Replaces y (with_shifted w from to b) to (leaf_node w.next b)
      last = Replaces-with_new y to n b

      t_sorted : IsStrictlySortedBy path_cmp (keys_of (with_new w from (leaf_node w.next b) b).entries)
      t_sorted = sorted-with_node w from n ok.sorted_paths

      -- what stands at each path
      alike : (q : Names) → at (with_moved (with_new w from (leaf_node w.next b) b) from to true) q ≡ at (with_shifted w from to b) q
      alike q = elim (split_path q from) [
        | inl same ↦ ap (at (with_entry m from Whiteout)) same.0 ∙ sets.here ∙ sym (ap (at (with_shifted w from to b)) same.0 ∙ last.others from around ∙ white.here)
        | inr apart ↦ sets.others q (λ e. apart.0 (sym e)) ∙ by q (λ e. apart.0 (sym e)) (begins to q) refl (begins from q) refl
      ]
        where
          m : Tree
          m = moved (without t to) from to

          sets : Sets (moved (without t to) from to) (with_entry (moved (without t to) from to) from Whiteout) from (Some Whiteout)
          sets = Sets-with_entry (moved (without t to) from to) from Whiteout

          copied : (r : Names) → at t (from ++ r) ≡ at (with_shifted w from to b) (to ++ r)
          copied [] = ap (at t) (append-nil from) ∙ put.here ∙ sym (ap (at (with_shifted w from to b)) (append-nil to) ∙ last.here)
          copied (k ∷ r) = put.below k r ∙ sym (last.below k r)

          gone : (q r : Names) → (q ≡ from → ⊥) → q ≡ from ++ r → at y q ≡ None
          gone q [] apart is = absurd (apart (is ∙ append-nil from))
          gone q (k ∷ r) apart is = ap (at y) is ∙ white.below k r

          by : (q : Names) → (q ≡ from → ⊥) → (c : Bool) → begins to q ≡ c → (d : Bool) → begins from q ≡ d → at (moved (without t to) from to) q ≡ at (with_shifted w from to b) q
          by q apart true e d f =
              let is = begins_rest to q e in
              let r = drop (length to) q in
              ap (at (moved (without t to) from to)) is
              ∙ at-moved_below (without t to) from to r (IsVacant-without t to)
              ∙ at-without_outside t to (from ++ r) (apart_below to from r around inside)
              ∙ copied r
              ∙ ap (at (with_shifted w from to b)) (sym is)
          by q apart false e true f = at-moved_gone (without t to) from to q e f ∙ sym (last.others q e ∙ gone q (drop (length from) q) apart (begins_rest from q f))
          by q apart false e false f = at-moved_else (without t to) from to q e f ∙ at-without_outside t to q e ∙ put.others q f ∙ sym (last.others q e ∙ white.others q f)

      -- ---- the bodies

      -- a node at `from` that hasn't the number leaves its names outside `to`
      entry_apart : (m : Node) → outside to (insert_entry path_cmp w.entries from m) ≡ insert_entry path_cmp (outside to w.entries) from m
      entry_apart m =
          same_lists path_cmp_total path_cmp-IsAntisymmetric (outside to (insert_entry path_cmp w.entries from m)) (insert_entry path_cmp (outside to w.entries) from m)
          (sorted-filter path_cmp (λ e. not (begins to e.0)) (insert_entry path_cmp w.entries from m) (sorted-with_entry w from m ok.sorted_paths))
          (sorted-insert_entry path_cmp_total (outside to w.entries) from m (sorted-filter path_cmp (λ e. not (begins to e.0)) w.entries ok.sorted_paths))
          (λ q. at-without (with_entry w from m) to q ∙ ap (cond (begins to q) None) (at-with_entry w from m q) ∙ by q ∙ sym (at-with_entry (without w to) from m q ∙ ap (cond (is_at (path_cmp q) from) (Some m)) (at-without w to q)))
        where
          both : (c d : Bool) (z : Option Node) → d ≡ false → cond c None (cond d (Some m) z) ≡ cond d (Some m) (cond c None z)
          both true true z e = absurd (no_bool e)
          both false true z e = absurd (no_bool e)
          both true false z e = refl
          both false false z e = refl

          here : (c d : Bool) (z : Option Node) → c ≡ false → cond c None (cond d (Some m) z) ≡ cond d (Some m) (cond c None z)
          here true d z e = absurd (no_bool e)
          here false d z e = refl

          by : (q : Names) → cond (begins to q) None (cond (is_at (path_cmp q) from) (Some m) (at w q)) ≡ cond (is_at (path_cmp q) from) (Some m) (cond (begins to q) None (at w q))
          by q = elim (split_path q from) [
            | inl same ↦ here (begins to q) (is_at (path_cmp q) from) (at w q) (ap (begins to) same.0 ∙ around)
            | inr apart ↦ both (begins to q) (is_at (path_cmp q) from) (at w q) apart.1
          ]

      names_left : (k : ℕ) (m : Node) → has_number k m ≡ false → name_count k (outside to (with_node w from m).entries) ≡ name_count k (outside to w.entries)
      names_left k m other =
          ap (λ (z : Tree). name_count k (outside to (insert_entry path_cmp z.entries from m))) untaken
          ∙ ap (name_count k) (entry_apart m)
          ∙ omega (arith, name_count-insert_entry k (outside to w.entries) from m (sorted-filter path_cmp (λ e. not (begins to e.0)) w.entries ok.sorted_paths), ap (weight (λ z. cond (has_number k z) 1 0)) (at-without_outside w to from around ∙ none), ap {B = ℕ} (λ c. cond c 1 0) other)

      -- what the number at `to` drops is the same beside the copy and beside the whiteout
      dropped_same : (o : Option ℕ) (j : ℕ) → o ≡ number_at w to → is_dropped o (outside to (with_new w from (leaf_node w.next b) b).entries) j ≡ is_dropped o (outside to (with_node w from Whiteout).entries) j
      dropped_same None j is = refl
      dropped_same (Some k) j is = ap (λ c. (c == 0) && is_at (nat_cmp j) k) (names_left k n (other_name k w.next n (leaf_number w.next b) apart) ∙ sym (names_left k Whiteout refl))
        where
          apart : k ≡ w.next → ⊥
          apart e = not_next w to ok (sym is ∙ ap (λ (i : ℕ). Some i) e)

      -- and the new number stays
      new_stays : (o : Option ℕ) (es : Entries) → o ≡ number_at w to → is_dropped o es w.next ≡ false
      new_stays None es is = refl
      new_stays (Some k) es is = elim (split_number w.next k) [
        | inl same ↦ absurd (not_next w to ok (sym is ∙ ap (λ (i : ℕ). Some i) (sym same.0)))
        | inr other ↦ second (name_count k es == 0) (is_at (nat_cmp w.next) k) other.1
      ]
        where
          second : (c d : Bool) → d ≡ false → (c && d) ≡ false
          second true d e = e
          second false d e = refl

      -- the copy's body among those of the layer
      abbrev grown : Bodies
      grown = insert_entry nat_cmp w.bodies w.next b

      grown_sorted : IsStrictlySortedBy nat_cmp (keys_of (insert_entry nat_cmp w.bodies w.next b))
      grown_sorted = sorted-insert_entry nat_cmp_total w.bodies w.next b ok.sorted_numbers

      t_bodies : (with_new w from (leaf_node w.next b) b).bodies ≡ insert_entry nat_cmp w.bodies w.next b
      t_bodies = ap (λ o. insert_entry nat_cmp (bodies_without o (outside from w.entries) w.bodies) w.next b) no_number

      y_bodies : (with_node w from Whiteout).bodies ≡ w.bodies
      y_bodies = ap (λ o. bodies_without o (outside from w.entries) w.bodies) no_number

      same_bodies : (with_moved (with_new w from (leaf_node w.next b) b) from to true).bodies ≡ (with_shifted w from to b).bodies
      same_bodies =
          (λ i. bodies_without (ap (option_and_then number_of) (put.others to inside) i) (outside to t.entries) (t_bodies i))
          ∙ same_lists nat_cmp_total nat_cmp-IsAntisymmetric left right left_sorted right_sorted found
          ∙ sym (λ i. insert_entry nat_cmp (bodies_without (ap (option_and_then number_of) (white.others to inside) i) (outside to y.entries) (y_bodies i)) w.next b)
        where
          o : Option ℕ
          o = number_at w to

          left : Bodies
          left = bodies_without (number_at w to) (outside to t.entries) (insert_entry nat_cmp w.bodies w.next b)

          rest : Bodies
          rest = bodies_without (number_at w to) (outside to y.entries) w.bodies

          right : Bodies
          right = insert_entry nat_cmp rest w.next b

          left_sorted : IsStrictlySortedBy nat_cmp (keys_of left)
          left_sorted = sorted-bodies_without o (outside to t.entries) grown grown_sorted

          rest_sorted : IsStrictlySortedBy nat_cmp (keys_of rest)
          rest_sorted = sorted-bodies_without o (outside to y.entries) w.bodies ok.sorted_numbers

          right_sorted : IsStrictlySortedBy nat_cmp (keys_of right)
          right_sorted = sorted-insert_entry nat_cmp_total rest w.next b rest_sorted

          of_left : (j : ℕ) → lookup (is_at (nat_cmp j)) left ≡ cond (is_dropped o (outside to t.entries) j) None (cond (is_at (nat_cmp j) w.next) (Some b) (body w j))
          of_left j = body-bodies_without o (outside to t.entries) grown j grown_sorted ∙ ap (cond (is_dropped o (outside to t.entries) j) None) (lookup-insert_entry nat_cmp_total nat_cmp-IsAntisymmetric w.bodies w.next b j)

          of_right : (j : ℕ) → lookup (is_at (nat_cmp j)) right ≡ cond (is_at (nat_cmp j) w.next) (Some b) (cond (is_dropped o (outside to y.entries) j) None (body w j))
          of_right j = lookup-insert_entry nat_cmp_total nat_cmp-IsAntisymmetric rest w.next b j ∙ ap (cond (is_at (nat_cmp j) w.next) (Some b)) (body-bodies_without o (outside to y.entries) w.bodies j ok.sorted_numbers)

          new_one : (c d e : Bool) (z : Option Body) → c ≡ false → d ≡ true → cond c None (cond d (Some b) z) ≡ cond d (Some b) (cond e None z)
          new_one true d e z p q = absurd (no_bool p)
          new_one false true e z p q = refl
          new_one false false e z p q = absurd (no_bool (sym q))

          old_one : (c d e : Bool) (z : Option Body) → c ≡ e → d ≡ false → cond c None (cond d (Some b) z) ≡ cond d (Some b) (cond e None z)
          old_one c true e z p q = absurd (no_bool q)
          old_one c false e z p q = ap (λ x. cond x None z) p

          found : (j : ℕ) → lookup (is_at (nat_cmp j)) left ≡ lookup (is_at (nat_cmp j)) right
          found j = of_left j ∙ by ∙ sym (of_right j)
            where
              by : cond (is_dropped o (outside to t.entries) j) None (cond (is_at (nat_cmp j) w.next) (Some b) (body w j)) ≡ cond (is_at (nat_cmp j) w.next) (Some b) (cond (is_dropped o (outside to y.entries) j) None (body w j))
              by = elim (split_number j w.next) [
                | inl same ↦ new_one (is_dropped o (outside to t.entries) j) (is_at (nat_cmp j) w.next) (is_dropped o (outside to y.entries) j) (body w j) (ap (is_dropped o (outside to t.entries)) same.0 ∙ new_stays o (outside to t.entries) refl) same.1
                | inr other ↦ old_one (is_dropped o (outside to t.entries) j) (is_at (nat_cmp j) w.next) (is_dropped o (outside to y.entries) j) (body w j) (dropped_same o j refl) other.1
              ]

      -- a move of the copy is that of the lower file
      moved_is : with_moved (with_new w from (leaf_node w.next b) b) from to true ≡ with_shifted w from to b
      moved_is =
          same_tree (with_moved t from to true) (with_shifted w from to b) (sorted-with_moved t from to true t_sorted)
          (sorted-with_node y to n (sorted-with_node w from Whiteout ok.sorted_paths)) alike same_bodies refl refl

      -- which is no directory, so no mark is set
      unmarked : (x : Tree) (k : ℕ) (c : Body) → with_opaque x to (Some (leaf_node k c)) true ≡ x
      unmarked x k (body_kinds.File meta content) = refl
      unmarked x k (body_kinds.Symlink target) = refl

      pub shifted_is : (covers : Bool) → shifted (with_new w from (leaf_node w.next b) b) from to true covers ≡ with_shifted w from to b
      shifted_is true =
          ap (λ (x : Tree). with_opaque x to (at x to) true) moved_is
          ∙ ap (λ o. with_opaque (with_shifted w from to b) to o true) last.here
          ∙ unmarked (with_shifted w from to b) w.next b
      shifted_is false = moved_is
