-- A whiteout that is taken, and a copy-up of a path elsewhere.
use Rattle.std.proofs.Common.{◌≡◌, inl, inr, ℕ, ◌+◌, Bool, true, false, cond, List, [], ◌∷◌, ◌++◌, length, Option, Some, None, is_some, refl, sym, ap, ◌∙◌, arith, append_assoc, append-nil}
use Rattle.std.specs.Prelude.{option_and_then, if◌then◌else◌}
use Rattle.std.specs.Ordering.{nat_cmp}
use Rattle.std.specs.List.Sorted.{IsStrictlySortedBy}
use Rattle.std.specs.Map.{lookup, keys_of}
use Rattle.std.specs.BTreeMap.{is_at, insert_entry}
use Rattle.snap_path.specs.Text.{Names, begins}
use Rattle.snap_layer.specs.declared.node.Node.{Node}
use Rattle.snap_layer.specs.declared.node.Node.TheVariants.{Dir, File, Symlink, Whiteout}
use Rattle.snap_layer.specs.declared.node.Body.{Body}
use Rattle.snap_layer.specs.declared.node.Body.TheVariants as body_kinds
use Rattle.snap_layer.specs.Tree.{Tree, Bodies, path_cmp, at, number_at, number_of, node_hides}
use Rattle.snap_layer.specs.Edits.{with_entry, with_new, without, outside, bodies_without}
use Rattle.snap_layer.proofs.Paths.{begins-append, begins_itself, begins-trans}
use Rattle.snap_layer.proofs.Looks.{Sets-with_entry, split_path, at-with_entry, at-without, at-without_outside, same_tree}
use Rattle.snap_layer.proofs.Laws.{sorted-with_entry}
use Rattle.snap_layer.proofs.Moves.{sorted-without}
use Rattle.snap_merge.specs.Objects.{Object, dir, file, symlink, seen, is_shown_dir}
use Rattle.snap_merge.specs.Walk.{walk_on, walk_from}
use Rattle.snap_merge.proofs.Views.{seen_alike, walk_same}
use Rattle.snap_merge.proofs.Hiding.{hides_alike}
use Rattle.snap_copyup.specs.Copying.{below, copied, with_object, with_parents_from}
use Rattle.snap_copyup.proofs.Alone.{walk_passes, below_seen, copied_there, copied_missing}
use Rattle.snap_copyup.proofs.Elsewhere.{shown_same}
use Rattle.snap_copyup.proofs.ParentDirs.{dir_copied}
use Rattle.snap_copyup.proofs.Growing.{grows_once}
use Rattle.snap_upper.proofs.Growth.{without_bare}

-- ---- what stays where directories are added

-- where it is missing it isn't seen
abbrev pub IsKept : Tree → List Tree → Names → Type 0
IsKept u ls q = at u q ≡ None → seen (u ∷ ls) q ≡ None

kept_once : (u : Tree) (ls : List Tree) (q f : Names) → IsKept u ls q → is_shown_dir (seen (u ∷ ls) f) ≡ true → at (copied u ls f) q ≡ at u q
kept_once u ls q f kept is = by (at u f) refl
  where
    put : (o : Option Object) → at u f ≡ None → seen (u ∷ ls) f ≡ o → is_shown_dir o ≡ true → at (with_object u f o) q ≡ at u q
    put None none was is = refl
    put (Some (dir m)) none was is = elim (split_path q f) [
      | inl same ↦ absurd (no_some (sym was ∙ ap (seen (u ∷ ls)) (sym same.0) ∙ kept (ap (at u) same.0 ∙ none)))
      | inr apart ↦ (Sets-with_entry u f (Dir m false)).others q (λ e. apart.0 (sym e))
    ]
      where
        no_some : {x : Object} → Some x ≡ None → ⊥
        no_some e = cc
    put (Some (file m b)) none was is = absurd (cc)
    put (Some (symlink b)) none was is = absurd (cc)

    by : (o : Option Node) → at u f ≡ o → at (copied u ls f) q ≡ at u q
    by (Some n) e = ap (λ (v : Tree). at v q) (copied_there u ls f (ap is_some e))
    by None e = ap (λ (v : Tree). at v q) (copied_missing u ls f e) ∙ put (below u ls f) e (below_seen u ls f e) (ap is_shown_dir (sym (below_seen u ls f e)) ∙ is)

pub kept_from : (u : Tree) (ls : List Tree) (q front rest : Names) → IsKept u ls q → walk_from (u ∷ ls) front rest ≡ None → at (with_parents_from u ls front rest) q ≡ at u q
kept_from u ls q front [] kept way = refl
kept_from u ls q front (n ∷ rest) kept way =
    let v = copied u ls front in
    let passes = walk_passes (seen (u ∷ ls) front) (walk_from (u ∷ ls) (front ++ n ∷ []) rest) way in
    let adds = dir_copied u ls front (length front + 1) passes.0 (omega arith) in
    let here = kept_once u ls q front kept passes.0 in
    kept_from v ls q (front ++ n ∷ []) rest (λ none. adds.view q ∙ kept (sym here ∙ none)) (walk_same (u ∷ ls) (v ∷ ls) adds.view (front ++ n ∷ []) rest ∙ passes.1) ∙ here

-- where all directories above a path stand none is added
pub none_added : (u : Tree) (ls : List Tree) (front rest : Names) → ((q : Names) (n : List ℕ) (r : Names) → front ++ rest ≡ q ++ n ∷ r → is_some (at u q) ≡ true) → with_parents_from u ls front rest ≡ u
none_added u ls front [] stand = refl
none_added u ls front (n ∷ rest) stand =
    ap (λ (v : Tree). with_parents_from v ls (front ++ n ∷ []) rest) (copied_there u ls front (stand front n rest refl))
    ∙ none_added u ls (front ++ n ∷ []) rest (λ q m r e. stand q m r (sym (append_assoc front (n ∷ []) rest) ∙ e))

-- ---- one step

-- a front that doesn't begin with the path
pub front_out : (w front rest : Names) → begins w (front ++ rest) ≡ false → begins w front ≡ false
front_out w front rest out = by (begins w front) refl
  where
    no_bool : true ≡ false → ⊥
    no_bool e = cc

    by : (b : Bool) → begins w front ≡ b → b ≡ false
    by true e = absurd (no_bool (sym (begins-trans w front (front ++ rest) e (begins-append front rest)) ∙ out))
    by false e = refl

-- the layer with a body under the next number
abbrev more : Tree → Body → Tree
more t b = record t { bodies = insert_entry nat_cmp t.bodies t.next b; next = t.next + 1 }

module _ (u : Tree) (ls : List Tree) (w : Names) (white : at u w ≡ Some Whiteout) where
  no_number : number_at u w ≡ None
  no_number = ap (option_and_then number_of) white

  pub bodies_stay : (without u w).bodies ≡ u.bodies
  bodies_stay = ap (λ o. bodies_without o (outside w u.entries) u.bodies) no_number

  -- what is seen elsewhere stays
  pub seen_out : (q : Names) → begins w q ≡ false → seen (without u w ∷ ls) q ≡ seen (u ∷ ls) q
  seen_out q out = seen_alike u (without u w) ls q (record {
    here = at-without_outside u w q out;
    shows = λ n e. shown_same u (without u w) n (λ k is. ap (λ (bs : Bodies). lookup (is_at (nat_cmp k)) bs) bodies_stay);
    above = λ r n rest is. ap node_hides (at-without_outside u w r (front_out w r (n ∷ rest) (ap (begins w) (sym is) ∙ out)));
  })

  pub walk_out : (front rest : Names) → begins w (front ++ rest) ≡ false → walk_from (without u w ∷ ls) front rest ≡ walk_from (u ∷ ls) front rest
  walk_out front [] out = refl
  walk_out front (n ∷ rest) out =
      let here = seen_out front (front_out w front (n ∷ rest) out) in
      let later = walk_out (front ++ n ∷ []) rest (ap (begins w) (append_assoc front (n ∷ []) rest) ∙ out) in
      λ i. walk_on (here i) (later i)

  below_out : (f : Names) → begins w f ≡ false → below (without u w) ls f ≡ below u ls f
  below_out f out = ap {B = Option Object} (λ b. if b then None else seen ls f) (hides_alike u (without u w) f [] (λ q n r e. ap node_hides (at-without_outside u w q (front_out w q (n ∷ r) (ap (begins w) (sym e) ∙ out)))))

  not_same : (f : Names) → begins w f ≡ false → w ≡ f → ⊥
  not_same f out same = no_bool (sym (ap (begins w) (sym same) ∙ begins_itself w) ∙ out)
    where
      no_bool : true ≡ false → ⊥
      no_bool e = cc

  module _ (sorted : IsStrictlySortedBy path_cmp (keys_of u.entries)) (f : Names) (out : begins w f ≡ false) where
    -- a node put elsewhere
    number_after : (n : Node) → number_at (with_entry u f n) w ≡ None
    number_after n = ap (option_and_then number_of) ((Sets-with_entry u f n).others w (not_same f out)) ∙ no_number

    entry_out : (n : Node) → with_entry (without u w) f n ≡ without (with_entry u f n) w
    entry_out n =
        same_tree (with_entry (without u w) f n) (without (with_entry u f n) w)
        (sorted-with_entry (without u w) f n (sorted-without u w sorted))
        (sorted-without (with_entry u f n) w (sorted-with_entry u f n sorted))
        (λ q. at-with_entry (without u w) f n q ∙ ap (cond (is_at (path_cmp q) f) (Some n)) (at-without u w q) ∙ by q ∙ sym (at-without (with_entry u f n) w q ∙ ap (cond (begins w q) None) (at-with_entry u f n q)))
        (bodies_stay ∙ sym (ap (λ o. bodies_without o (outside w (with_entry u f n).entries) u.bodies) (number_after n)))
        refl
        refl
      where
        both : (b c : Bool) (x y : Option Node) → c ≡ false → cond c x (cond b None y) ≡ cond b None (cond c x y)
        both true true x y e = absurd (cc)
        both true false x y e = refl
        both false true x y e = refl
        both false false x y e = refl

        by : (q : Names) → cond (is_at (path_cmp q) f) (Some n) (cond (begins w q) None (at u q)) ≡ cond (begins w q) None (cond (is_at (path_cmp q) f) (Some n) (at u q))
        by q = elim (split_path q f) [
          | inl same ↦ here (is_at (path_cmp q) f) (begins w q) same.1 (ap (begins w) same.0 ∙ out)
          | inr apart ↦ both (begins w q) (is_at (path_cmp q) f) (Some n) (at u q) apart.1
        ]
          where
            here : (c b : Bool) → c ≡ true → b ≡ false → cond c (Some n) (cond b None (at u q)) ≡ cond b None (cond c (Some n) (at u q))
            here true true e g = absurd (cc)
            here true false e g = refl
            here false b e g = absurd (cc)

    -- a new file or symlink elsewhere, where nothing stands
    module _ (bare : (r : Names) → at u (f ++ r) ≡ None) where
      bare_after : (r : Names) → at (without u w) (f ++ r) ≡ None
      bare_after r = at-without u w (f ++ r) ∙ by (begins w (f ++ r))
        where
          by : (b : Bool) → cond b None (at u (f ++ r)) ≡ None
          by true = refl
          by false = bare r

      new_out : (n : Node) (b : Body) → with_new (without u w) f n b ≡ without (with_new u f n b) w
      new_out n b =
          ap (λ (v : Tree). more (with_entry v f n) b) (without_bare (without u w) f (sorted-without u w sorted) bare_after)
          ∙ ap (λ (v : Tree). more v b) (entry_out n)
          ∙ turned
          ∙ ap (λ (v : Tree). without (more (with_entry v f n) b) w) (sym (without_bare u f sorted bare))
        where
          turned : more (without (with_entry u f n) w) b ≡ without (more (with_entry u f n) b) w
          turned =
              let v = with_entry u f n in
              ap {B = Tree} (λ o. record v { entries = outside w v.entries; bodies = insert_entry nat_cmp (bodies_without o (outside w v.entries) v.bodies) v.next b; next = v.next + 1 }) (number_after n)
              ∙ sym (ap {B = Tree} (λ o. record v { entries = outside w v.entries; bodies = bodies_without o (outside w v.entries) (insert_entry nat_cmp v.bodies v.next b); next = v.next + 1 }) (number_after n))

      object_out : (o : Option Object) → with_object (without u w) f o ≡ without (with_object u f o) w
      object_out None = refl
      object_out (Some (dir m)) = entry_out (Dir m false)
      object_out (Some (file m content)) = new_out (File u.next) (body_kinds.File m content)
      object_out (Some (symlink target)) = new_out (Symlink u.next) (body_kinds.Symlink target)

      -- what is copied elsewhere
      pub copied_out : copied (without u w) ls f ≡ without (copied u ls f) w
      copied_out =
          copied_missing (without u w) ls f (ap (at (without u w)) (sym (append-nil f)) ∙ bare_after [])
          ∙ ap (with_object (without u w) f) (below_out f out)
          ∙ object_out (below u ls f)
          ∙ sym (ap (λ (v : Tree). without v w) (copied_missing u ls f (ap (at u) (sym (append-nil f)) ∙ bare [])))

    pub copied_out_there : is_some (at u f) ≡ true → copied (without u w) ls f ≡ without (copied u ls f) w
    copied_out_there some =
        copied_there (without u w) ls f (ap is_some (at-without_outside u w f out) ∙ some)
        ∙ sym (ap (λ (v : Tree). without v w) (copied_there u ls f some))

    dir_out : is_shown_dir (seen (u ∷ ls) f) ≡ true → copied (without u w) ls f ≡ without (copied u ls f) w
    dir_out is = by (at u f) refl
      where
        put : (o : Option Object) → is_shown_dir o ≡ true → with_object (without u w) f o ≡ without (with_object u f o) w
        put None e = absurd (cc)
        put (Some (dir m)) e = entry_out (Dir m false)
        put (Some (file m b)) e = absurd (cc)
        put (Some (symlink b)) e = absurd (cc)

        by : (o : Option Node) → at u f ≡ o → copied (without u w) ls f ≡ without (copied u ls f) w
        by (Some n) e = copied_out_there (ap is_some e)
        by None e =
            copied_missing (without u w) ls f (at-without_outside u w f out ∙ e)
            ∙ ap (with_object (without u w) f) (below_out f out)
            ∙ put (below u ls f) (ap is_shown_dir (sym (below_seen u ls f e)) ∙ is)
            ∙ sym (ap (λ (v : Tree). without v w) (copied_missing u ls f e))

-- ---- all directories above a path, and what is copied up

pub parents_out : (u : Tree) (ls : List Tree) (w : Names) → at u w ≡ Some Whiteout → IsStrictlySortedBy path_cmp (keys_of u.entries) → (front rest : Names) → begins w (front ++ rest) ≡ false → walk_from (u ∷ ls) front rest ≡ None
    → with_parents_from (without u w) ls front rest ≡ without (with_parents_from u ls front rest) w
parents_out u ls w white sorted front [] out way = refl
parents_out u ls w white sorted front (n ∷ rest) out way =
    let v = copied u ls front in
    let passes = walk_passes (seen (u ∷ ls) front) (walk_from (u ∷ ls) (front ++ n ∷ []) rest) way in
    let adds = dir_copied u ls front (length front + 1) passes.0 (omega arith) in
    ap (λ (x : Tree). with_parents_from x ls (front ++ n ∷ []) rest) (dir_out u ls w white sorted front (front_out w front (n ∷ rest) out) passes.0)
    ∙ parents_out v ls w (kept_once u ls w front (λ none. absurd (no_some (sym white ∙ none))) passes.0 ∙ white) (grows_once u ls front sorted passes.0).sorted (front ++ n ∷ []) rest
    (ap (begins w) (append_assoc front (n ∷ []) rest) ∙ out) (walk_same (u ∷ ls) (v ∷ ls) adds.view (front ++ n ∷ []) rest ∙ passes.1)
  where
    no_some : {x : Node} → Some x ≡ None → ⊥
    no_some e = cc
