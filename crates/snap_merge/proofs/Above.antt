-- What is seen lies in directories that are seen.
use Rattle.std.proofs.Common.{◌≡◌, ℕ, Bool, true, false, cond, List, [], ◌∷◌, ◌++◌, Option, Some, None, IsSome, refl, sym, ap, subst, ◌∙◌, append_assoc}
use Rattle.std.specs.Prelude.{◌||◌, is_some}
use Rattle.snap_path.specs.Text.{Names}
use Rattle.snap_layer.specs.declared.node.Node.{Node}
use Rattle.snap_layer.specs.declared.node.Node.TheVariants.{Dir, File, Symlink, Whiteout}
use Rattle.snap_layer.specs.Tree.{Tree, at, hides, node_hides, IsDirAt}
use Rattle.snap_merge.specs.Objects.{Object, dir, file, symlink, seen, seen_over, is_shown_dir, AreLayers}
use Rattle.snap_merge.specs.declared.error.FsError.{FsError}
use Rattle.snap_merge.specs.Walk.{walk_on, walk_from, walk_error}
use Rattle.snap_merge.proofs.Hiding.{hides_snoc}

not_both : (a b : Bool) → (a || b) ≡ false → (a ≡ false) × (b ≡ false)
not_both true b e = absurd (cc)
not_both false b e = (refl, e)

pub dir_seen : (t : Tree) (o : Option Node) (p : Names) (under : Option Object) → IsDirAt o → is_shown_dir (seen_over t o p under) ≡ true
dir_seen t None p under d = absurd d
dir_seen t (Some (Dir m b)) p under d = refl
dir_seen t (Some (File k)) p under d = absurd (cc)
dir_seen t (Some (Symlink k)) p under d = absurd (cc)
dir_seen t (Some Whiteout) p under d = absurd (cc)

shown_through : (h : Bool) (o : Option Object) → is_some (cond h None o) ≡ true → (h ≡ false) × (is_some o ≡ true)
shown_through true o e = absurd (cc)
shown_through false o e = (refl, e)

under_dir : (t : Tree) (o : Option Node) (p : Names) (under : Option Object) → hides t p ≡ false → node_hides o ≡ false → is_shown_dir under ≡ true → is_shown_dir (seen_over t o p under) ≡ true
under_dir t None p under h n d = ap (λ b. is_shown_dir (cond b None under)) h ∙ d
under_dir t (Some (Dir m b)) p under h n d = refl
under_dir t (Some (File k)) p under h n d = absurd (cc)
under_dir t (Some (Symlink k)) p under h n d = absurd (cc)
under_dir t (Some Whiteout) p under h n d = absurd (cc)

-- what is seen is in a directory that is seen
pub dir_above : (s : List Tree) → AreLayers s → (p : Names) (n : List ℕ) → is_some (seen s (p ++ n ∷ [])) ≡ true → is_shown_dir (seen s p) ≡ true
dir_above [] ok p n some = absurd (cc)
dir_above (t ∷ ts) ok p n some = by (at t (p ++ n ∷ [])) refl some (dir_above ts ok.1 p n)
  where
    by : (o : Option Node) → at t (p ++ n ∷ []) ≡ o → is_some (seen_over t o (p ++ n ∷ []) (seen ts (p ++ n ∷ []))) ≡ true → (is_some (seen ts (p ++ n ∷ [])) ≡ true → is_shown_dir (seen ts p) ≡ true) → is_shown_dir (seen_over t (at t p) p (seen ts p)) ≡ true
    by (Some m) e f above = dir_seen t (at t p) p (seen ts p) (ok.0.parents p n (ap is_some e))
    by None e f above =
        let through = shown_through (hides t (p ++ n ∷ [])) (seen ts (p ++ n ∷ [])) f in
        let both = not_both (hides t p) (node_hides (at t p)) (sym (hides_snoc t n p []) ∙ through.0) in
        under_dir t (at t p) p (seen ts p) both.0 both.1 (above through.1)

is_none_from : (o : Option Object) → (is_some o ≡ true → ⊥) → o ≡ None
is_none_from None f = refl
is_none_from (Some o) f = absurd (f refl)

apart : true ≡ false → ⊥
apart e = cc

-- nothing is seen below what is no directory
pub nothing_seen : (s : List Tree) → AreLayers s → (r p : Names) (n : List ℕ) → is_shown_dir (seen s p) ≡ false → seen s (p ++ n ∷ r) ≡ None
nothing_seen s ok [] p n none = is_none_from _ (λ some. apart (sym (dir_above s ok p n some) ∙ none))
nothing_seen s ok (m ∷ r) p n none =
    subst (λ q. seen s q ≡ None) (append_assoc p (n ∷ []) (m ∷ r))
    (nothing_seen s ok r (p ++ n ∷ []) m (ap is_shown_dir (is_none_from _ (λ some. apart (sym (dir_above s ok p n some) ∙ none)))))

-- a walk goes on from a directory
pub walk_from_dir : (o : Option Object) (later : Option FsError) → is_shown_dir o ≡ true → walk_on o later ≡ later
walk_from_dir None later e = absurd (cc)
walk_from_dir (Some (dir m)) later e = refl
walk_from_dir (Some (file m b)) later e = absurd (cc)
walk_from_dir (Some (symlink b)) later e = absurd (cc)

either : (b : Bool) → (b ≡ true → ⊥) → b ≡ false
either true f = absurd (f refl)
either false f = refl

-- the walk to what is seen has no error
walk_reaches : (s : List Tree) → AreLayers s → (rest front : Names) → IsSome (seen s (front ++ rest)) → walk_from s front rest ≡ None
walk_reaches s ok [] front some = refl
walk_reaches s ok (n ∷ rest) front some =
    let later = walk_reaches s ok rest (front ++ n ∷ []) (subst (λ (q : Names). IsSome (seen s q)) (sym (append_assoc front (n ∷ []) rest)) some) in
    walk_from_dir (seen s front) (walk_from s (front ++ n ∷ []) rest) (by (is_shown_dir (seen s front)) refl) ∙ later
  where
    gone : seen s (front ++ n ∷ rest) ≡ None → IsSome (seen s (front ++ n ∷ rest)) → ⊥
    gone none is = cc

    by : (b : Bool) → is_shown_dir (seen s front) ≡ b → b ≡ true
    by true e = refl
    by false e = absurd (gone (nothing_seen s ok rest front n e) some)

pub walk_to_seen : (s : List Tree) → AreLayers s → (p : Names) → IsSome (seen s p) → walk_error s p ≡ None
walk_to_seen s ok p some = walk_reaches s ok p [] some
