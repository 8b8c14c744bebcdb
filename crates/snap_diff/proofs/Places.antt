-- What a walk knows of the layer at a path, and at each name there.
use Rattle.std.proofs.Common.{◌≡◌, ℕ, Bool, true, false, List, [], ◌∷◌, ◌++◌, Option, Some, None, IsSome, refl, sym, ap, subst, ◌∙◌}
use Rattle.std.specs.Prelude.{◌&&◌, ◌||◌, not, is_some, option_and_then}
use Rattle.std.specs.Option.{option_map}
use Rattle.snap_path.specs.Text.{Names}
use Rattle.snap_layer.specs.declared.node.Node.{Node}
use Rattle.snap_layer.specs.declared.node.Node.TheVariants.{Dir, File, Symlink, Whiteout}
use Rattle.snap_layer.specs.Tree.{Tree, at, hides, is_dir, node_hides, IsDirAt}
use Rattle.snap_layer.specs.Directory.{Directory, dir_of, entry, found}
use Rattle.snap_layer.specs.Layers.{IsLayer}
use Rattle.snap_layer.proofs.Dirs.{a_dir}
use Rattle.snap_merge.proofs.Hiding.{hides_snoc}
use Rattle.snap_diff.specs.Changes.{is_merged, is_untouched}
use Rattle.snap_diff.specs.Places.{shown_over, IsOwnPlace}
use Rattle.snap_merge.specs.Objects.{Object, seen, seen_over}
use Rattle.snap_merge.specs.Row.{dir_at}

pub root_own : (t : Tree) (x : Node) → at t [] ≡ Some x → is_dir x ≡ true → IsOwnPlace t [] (Some x) (Some (record { layer = t; path = [] })) false
root_own t x is dir = record {
  node_is = sym is;
  dir_is = sym (ap (option_and_then (dir_of t [])) is ∙ a_dir t [] x dir);
  hidden_is = refl;
}

-- ---- an entry

nothing_in : (t : Tree) → IsLayer t → (p : Names) (n : List ℕ) → (IsDirAt (at t p) → ⊥) → at t (p ++ n ∷ []) ≡ None
nothing_in t ok p n apart = by (at t (p ++ n ∷ [])) refl
  where
    by : (o : Option Node) → at t (p ++ n ∷ []) ≡ o → o ≡ None
    by None e = refl
    by (Some x) e = absurd (apart (ok.parents p n (subst IsSome (sym e) refl)))

-- what the directory at a path has at a name is what stands at the path and the name
found_in : (t : Tree) → IsLayer t → (p : Names) (n : List ℕ) → option_and_then (λ (d : Directory). entry d n) (dir_at t p) ≡ found t (p ++ n ∷ [])
found_in t ok p n = by (at t p) refl
  where
    none : (o : Option Node) → at t p ≡ o → (IsDirAt o → ⊥) → ◌≡◌ {A = Option (Node × Option Directory)} None (found t (p ++ n ∷ []))
    none o is apart = sym (ap (option_map (λ (x : Node). (x, dir_of t (p ++ n ∷ []) x))) (nothing_in t ok p n (λ d. apart (subst IsDirAt is d))))

    by : (o : Option Node) → at t p ≡ o → option_and_then (λ (d : Directory). entry d n) (option_and_then (dir_of t p) o) ≡ found t (p ++ n ∷ [])
    by None e = none None e (λ d. d)
    by (Some (Dir meta opaque)) e = refl
    by (Some (File k)) e = none (Some (File k)) e (λ d. cc)
    by (Some (Symlink k)) e = none (Some (Symlink k)) e (λ d. cc)
    by (Some Whiteout) e = none (Some Whiteout) e (λ d. cc)

module _ (t : Tree) (ok : IsLayer t) (p : Names) (node : Option Node) (dir : Option Directory) (hidden : Bool) (own : IsOwnPlace t p node dir hidden) (n : List ℕ) (under : Bool) (hides_is : under ≡ (hidden || node_hides node)) where
  hidden_at : under ≡ hides t (p ++ n ∷ [])
  hidden_at = hides_is ∙ (λ i. own.hidden_is i || node_hides (own.node_is i)) ∙ sym (hides_snoc t n p [])

  found_at : option_and_then (λ (d : Directory). entry d n) dir ≡ found t (p ++ n ∷ [])
  found_at = ap (option_and_then (λ (d : Directory). entry d n)) own.dir_is ∙ found_in t ok p n

  pub entry_none : option_and_then (λ (d : Directory). entry d n) dir ≡ None → IsOwnPlace t (p ++ n ∷ []) None None under
  entry_none none = by (at t (p ++ n ∷ [])) refl (sym found_at ∙ none)
    where
      by : (o : Option Node) → at t (p ++ n ∷ []) ≡ o → found t (p ++ n ∷ []) ≡ None → IsOwnPlace t (p ++ n ∷ []) None None under
      by None e f = record { node_is = sym e; dir_is = sym (ap (option_and_then (dir_of t (p ++ n ∷ []))) e); hidden_is = hidden_at }
      by (Some x) e f =
          let no : ◌≡◌ {A = Option (Node × Option Directory)} (Some (x, dir_of t (p ++ n ∷ []) x)) None = ap (option_map (λ (y : Node). (y, dir_of t (p ++ n ∷ []) y))) (sym e) ∙ f in
          absurd (cc)

  pub entry_some : (x : Node) (d : Option Directory) → option_and_then (λ (d : Directory). entry d n) dir ≡ Some (x, d) → IsOwnPlace t (p ++ n ∷ []) (Some x) d under
  entry_some x d some = by (at t (p ++ n ∷ [])) refl (sym found_at ∙ some)
    where
      by : (o : Option Node) → at t (p ++ n ∷ []) ≡ o → found t (p ++ n ∷ []) ≡ Some (x, d) → IsOwnPlace t (p ++ n ∷ []) (Some x) d under
      by None e f =
          let no : ◌≡◌ {A = Option (Node × Option Directory)} None (Some (x, d)) = ap (option_map (λ (y : Node). (y, dir_of t (p ++ n ∷ []) y))) (sym e) ∙ f in
          absurd (cc)
      by (Some y) e f =
          let some : ◌≡◌ {A = Option (Node × Option Directory)} (Some (y, dir_of t (p ++ n ∷ []) y)) (Some (x, d)) = ap (option_map (λ (z : Node). (z, dir_of t (p ++ n ∷ []) z))) (sym e) ∙ f in
          let both : ◌≡◌ {A = Node × Option Directory} (y, dir_of t (p ++ n ∷ []) y) (x, d) = cc in
          record {
            node_is = sym (e ∙ ap (λ (z : Node × Option Directory). Some z.0) both);
            dir_is = sym (ap (option_and_then (dir_of t (p ++ n ∷ []))) e ∙ ap (λ (z : Node × Option Directory). z.1) both);
            hidden_is = hidden_at;
          }

-- ---- at the path

module _ (t : Tree) (p : Names) (node : Option Node) (dir : Option Directory) (hidden : Bool) (own : IsOwnPlace t p node dir hidden) where
  pub untouched_is : (not (is_some node) && not hidden) ≡ is_untouched t p
  untouched_is = λ i. not (is_some (own.node_is i)) && not (own.hidden_is i)

  pub touched_is : (b : Bool) → (not (is_some node) && not hidden) ≡ b → is_untouched t p ≡ b
  touched_is b e = sym untouched_is ∙ e

  pub merged_is : (not (node_hides node) && not hidden) ≡ is_merged t p
  merged_is = λ i. not (node_hides (own.node_is i)) && not (own.hidden_is i)

  -- a path that the layer touches without hiding anything is a directory of it
  pub shared_dir : is_untouched t p ≡ false → is_merged t p ≡ true → dir ≡ Some (record { layer = t; path = p })
  shared_dir touched merged = own.dir_is ∙ by (at t p) touched merged
    where
      by : (o : Option Node) → (not (is_some o) && not (hides t p)) ≡ false → (not (node_hides o) && not (hides t p)) ≡ true → option_and_then (dir_of t p) o ≡ Some (record { layer = t; path = p })
      by None e f = absurd (cc)
      by (Some (Dir meta opaque)) e f = refl
      by (Some (File k)) e f = absurd (cc)
      by (Some (Symlink k)) e f = absurd (cc)
      by (Some Whiteout) e f = absurd (cc)

  -- what is seen there
  pub shown_is : (ts : List Tree) (old : Option Object) → old ≡ seen ts p → (new : Option Object) → new ≡ shown_over t node hidden old → new ≡ seen (t ∷ ts) p
  shown_is ts old was new is = is ∙ (λ i. shown_over t (own.node_is i) (own.hidden_is i) (was i)) ∙ by (at t p)
    where
      by : (o : Option Node) → shown_over t o (hides t p) (seen ts p) ≡ seen_over t o p (seen ts p)
      by None = refl
      by (Some x) = refl
