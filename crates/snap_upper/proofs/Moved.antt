-- What is seen after a move within the upper layer.
use Rattle.std.proofs.Common.{◌≡◌, inl, inr, ℕ, Bool, true, false, cond, List, [], ◌∷◌, ◌++◌, Option, Some, None, is_some, refl, sym, ap, ◌∙◌, append_assoc, append-nil}
use Rattle.std.specs.Prelude.{if◌then◌else◌}
use Rattle.std.specs.Ordering.{nat_cmp}
use Rattle.std.specs.List.Sorted.{IsStrictlySortedBy}
use Rattle.std.specs.Map.{keys_of}
use Rattle.snap_path.specs.Text.{Names, begins}
use Rattle.snap_layer.specs.declared.node.Node.{Node}
use Rattle.snap_layer.specs.declared.node.Node.TheVariants.{Dir, File, Symlink, Whiteout}
use Rattle.snap_layer.specs.Tree.{Tree, at, body, hides, node_hides}
use Rattle.snap_layer.specs.Edits.{with_moved, with_opaque}
use Rattle.snap_layer.proofs.Paths.{split_front, begins_itself, begins-append}
use Rattle.snap_layer.proofs.Looks.{Sets-with_entry}
use Rattle.snap_layer.proofs.Moves.{apart_below, at-with_moved_below, at-with_moved_from, at-with_moved_gone, at-with_moved_else}
use Rattle.snap_layer.proofs.Laws.{at-with_opaque}
use Rattle.snap_merge.specs.Objects.{Object, seen, shown, is_shown_dir, AreLayers}
use Rattle.snap_merge.proofs.Views.{seen_node, seen_through, seen_alike}
use Rattle.snap_merge.proofs.Hiding.{hidden_by, hides_from_above, hides_alike}
use Rattle.snap_merge.proofs.Above.{nothing_seen}
use Rattle.snap_copyup.specs.Copying.{below}
use Rattle.snap_copyup.proofs.Elsewhere.{shown_same}
use Rattle.snap_upper.specs.Changed.{ShowsMoved}
use Rattle.snap_upper.proofs.Erased.{above_out, above_itself, body_stays}

-- ---- nothing is seen below a path

-- what is hidden at a path is hidden below it
pub hides_deeper : (t : Tree) (p : Names) (n : List ℕ) (r : Names) → hides t p ≡ true → hides t (p ++ n ∷ r) ≡ true
hides_deeper t p n r e =
    let h = hidden_by t p e in
    hides_from_above t (p ++ n ∷ r) (h.0, h.1, h.2 ++ n ∷ r, ap (λ (x : Names). x ++ n ∷ r) h.3 ∙ append_assoc h.0 (h.1 ∷ h.2) (n ∷ r), h.4)

-- a node that hides, and nothing of the layer below it
pub nothing_hidden : (t : Tree) (ls : List Tree) (p : Names) (n : List ℕ) (r : Names) → node_hides (at t p) ≡ true → at t (p ++ n ∷ r) ≡ None → seen (t ∷ ls) (p ++ n ∷ r) ≡ None
nothing_hidden t ls p n r here none = seen_through t ls (p ++ n ∷ r) true none (hides_from_above t (p ++ n ∷ r) (p, n, r, refl, here))

-- no directory below, and nothing of the layer below the path
pub nothing_lower : (t : Tree) (ls : List Tree) (p : Names) → AreLayers ls → is_shown_dir (below t ls p) ≡ false → (n : List ℕ) (r : Names) → at t (p ++ n ∷ r) ≡ None → seen (t ∷ ls) (p ++ n ∷ r) ≡ None
nothing_lower t ls p layers no_dir n r none = by (hides t p) refl no_dir (hides t (p ++ n ∷ r)) refl
  where
    by : (b : Bool) → hides t p ≡ b → is_shown_dir (cond b None (seen ls p)) ≡ false → (c : Bool) → hides t (p ++ n ∷ r) ≡ c → seen (t ∷ ls) (p ++ n ∷ r) ≡ None
    by b e dir true f = seen_through t ls (p ++ n ∷ r) true none f
    by true e dir false f = seen_through t ls (p ++ n ∷ r) true none (hides_deeper t p n r e)
    by false e dir false f = seen_through t ls (p ++ n ∷ r) false none f ∙ nothing_seen ls layers r p n dir

-- ---- the mark

-- the layer with the directory at the path opaque, where it covers something
abbrev pub marked : Tree → Names → Bool → Tree
marked t p covers = if covers then with_opaque t p (at t p) true else t

-- the node with the mark
abbrev pub top_node : Bool → Node → Node
top_node true (Dir meta opaque) = Dir meta true
top_node true (File k) = File k
top_node true (Symlink k) = Symlink k
top_node true Whiteout = Whiteout
top_node false n = n

top_shows : (t : Tree) (covers : Bool) (n : Node) → shown t (top_node covers n) ≡ shown t n
top_shows t true (Dir meta opaque) = refl
top_shows t true (File k) = refl
top_shows t true (Symlink k) = refl
top_shows t true Whiteout = refl
top_shows t false n = refl

top_hides : (n : Node) → node_hides (Some (top_node true n)) ≡ true
top_hides (Dir meta opaque) = refl
top_hides (File k) = refl
top_hides (Symlink k) = refl
top_hides Whiteout = refl

at_marked : (t : Tree) (p : Names) (covers : Bool) (n : Node) → at t p ≡ Some n → at (marked t p covers) p ≡ Some (top_node covers n)
at_marked t p true (Dir meta opaque) e = ap (λ (o : Option Node). at (with_opaque t p o true) p) e ∙ (Sets-with_entry t p (Dir meta true)).here
at_marked t p true (File k) e = ap (λ (o : Option Node). at (with_opaque t p o true) p) e ∙ e
at_marked t p true (Symlink k) e = ap (λ (o : Option Node). at (with_opaque t p o true) p) e ∙ e
at_marked t p true Whiteout e = ap (λ (o : Option Node). at (with_opaque t p o true) p) e ∙ e
at_marked t p false n e = e

marked_else : (t : Tree) (p : Names) (covers : Bool) (q : Names) → (q ≡ p → ⊥) → at (marked t p covers) q ≡ at t q
marked_else t p true q apart = at-with_opaque t p (at t p) true q apart
marked_else t p false q apart = refl

marked_body : (t : Tree) (p : Names) (covers : Bool) (k : ℕ) → body (marked t p covers) k ≡ body t k
marked_body t p true k = by (at t p)
  where
    by : (o : Option Node) → body (with_opaque t p o true) k ≡ body t k
    by None = refl
    by (Some (Dir meta opaque)) = refl
    by (Some (File j)) = refl
    by (Some (Symlink j)) = refl
    by (Some Whiteout) = refl
marked_body t p false k = refl

-- ---- the layer after a move

longer : (p r : Names) (m : List ℕ) → p ++ m ∷ r ≡ p → ⊥
longer [] r m e = cc
longer (x ∷ p) r m e = longer p r m (cc)

no_bool : true ≡ false → ⊥
no_bool e = cc

-- the path does not go on from the front
goes_not_on : (front p : Names) → begins front p ≡ false → (s : Names) → p ≡ front ++ s → ⊥
goes_not_on front p e s is = no_bool (sym (ap (begins front) is ∙ begins-append front s) ∙ e)

-- the layer with what stands at `from` at `to`, with the mark where it covers something
abbrev pub moved_on : Tree → Names → Names → Bool → Bool → Tree
moved_on t from to leaves covers = marked (with_moved t from to leaves) to covers

module _ (t : Tree) (from to : Names) (leaves covers : Bool) (not_inside : begins from to ≡ false) (not_around : begins to from ≡ false) where
  apart_to : (q : Names) → begins to q ≡ false → q ≡ to → ⊥
  apart_to q out same = no_bool (sym (ap (begins to) same ∙ begins_itself to) ∙ out)

  at_top : (n : Node) → at t from ≡ Some n → at (moved_on t from to leaves covers) to ≡ Some (top_node covers n)
  at_top n e =
      at_marked (with_moved t from to leaves) to covers n
      (ap (at (with_moved t from to leaves)) (sym (append-nil to)) ∙ at-with_moved_below t from to not_inside not_around leaves [] ∙ ap (at t) (append-nil from) ∙ e)

  at_under : (m : List ℕ) (r : Names) → at (moved_on t from to leaves covers) (to ++ m ∷ r) ≡ at t (from ++ m ∷ r)
  at_under m r = marked_else (with_moved t from to leaves) to covers (to ++ m ∷ r) (longer to r m) ∙ at-with_moved_below t from to not_inside not_around leaves (m ∷ r)

  at_old : at (moved_on t from to leaves covers) from ≡ (if leaves then Some Whiteout else None)
  at_old = marked_else (with_moved t from to leaves) to covers from (apart_to from not_around) ∙ at-with_moved_from t from to not_inside not_around leaves

  at_gone : (m : List ℕ) (r : Names) → at (moved_on t from to leaves covers) (from ++ m ∷ r) ≡ None
  at_gone m r =
      marked_else (with_moved t from to leaves) to covers (from ++ m ∷ r) (apart_to (from ++ m ∷ r) (apart_below to from (m ∷ r) not_around not_inside))
      ∙ at-with_moved_gone t from to not_inside not_around leaves m r

  at_else : (q : Names) → begins from q ≡ false → begins to q ≡ false → at (moved_on t from to leaves covers) q ≡ at t q
  at_else q stays out = marked_else (with_moved t from to leaves) to covers q (apart_to q out) ∙ at-with_moved_else t from to not_inside not_around leaves q stays out

  -- what hides `to`, and what hides `from`, is where it was
  hides_to : hides (moved_on t from to leaves covers) to ≡ hides t to
  hides_to = hides_alike t (moved_on t from to leaves covers) to [] (λ q n r e. ap node_hides (at_else q (above_out from to q n r (goes_not_on from to not_inside) e) (above_itself to q n r e)))

  hides_old : hides (moved_on t from to leaves covers) from ≡ hides t from
  hides_old = hides_alike t (moved_on t from to leaves covers) from [] (λ q n r e. ap node_hides (at_else q (above_itself from q n r e) (above_out to from q n r (goes_not_on to from not_around) e)))

  moved_body : (k : ℕ) (b : Bool) → body (with_moved t from to b) k ≡ body (with_moved t from to false) k
  moved_body k true = refl
  moved_body k false = refl

  -- a node outside `to` shows what it showed
  shows_same : IsStrictlySortedBy nat_cmp (keys_of t.bodies) → (q : Names) (n : Node) → begins to q ≡ false → at t q ≡ Some n → shown (moved_on t from to leaves covers) n ≡ shown t n
  shows_same sorted q n out is = shown_same t (moved_on t from to leaves covers) n (λ j number. marked_body (with_moved t from to leaves) to covers j ∙ moved_body j leaves ∙ body_stays t to q n j sorted out is number)

-- ---- what is seen

none_from : (o : Option Object) → is_some o ≡ false → o ≡ None
none_from None e = refl
none_from (Some o) e = absurd (cc)

module _ (t : Tree) (ls : List Tree) (from to : Names) (leaves covers : Bool) (not_inside : begins from to ≡ false) (not_around : begins to from ≡ false) (layers : AreLayers ls) (sorted : IsStrictlySortedBy nat_cmp (keys_of t.bodies)) (lower_from : is_some (below t ls from) ≡ leaves) (lower_to : is_some (below t ls to) ≡ covers) (n : Node) (there : at t from ≡ Some n) (bare : (m : List ℕ) (r : Names) → at t (from ++ m ∷ r) ≡ None → seen (t ∷ ls) (from ++ m ∷ r) ≡ None) where
  -- nothing of the layers below is seen below `to`
  nothing_new : (m : List ℕ) (r : Names) → at (moved_on t from to leaves covers) (to ++ m ∷ r) ≡ None → seen (moved_on t from to leaves covers ∷ ls) (to ++ m ∷ r) ≡ None
  nothing_new m r none = by covers lower_to none
    where
      by : (c : Bool) → is_some (below t ls to) ≡ c → at (moved_on t from to leaves c) (to ++ m ∷ r) ≡ None → seen (moved_on t from to leaves c ∷ ls) (to ++ m ∷ r) ≡ None
      by true e none = nothing_hidden (moved_on t from to leaves true) ls to m r (ap node_hides (at_top t from to leaves true not_inside not_around n there) ∙ top_hides n) none
      by false e none =
          let same : below (moved_on t from to leaves false) ls to ≡ below t ls to = ap (λ h. cond h None (seen ls to)) (hides_to t from to leaves false not_inside not_around) in
          nothing_lower (moved_on t from to leaves false) ls to layers (ap is_shown_dir (same ∙ none_from (below t ls to) e)) m r none

  moved_here : (r : Names) → seen (moved_on t from to leaves covers ∷ ls) (to ++ r) ≡ seen (t ∷ ls) (from ++ r)
  moved_here [] =
      ap (seen (moved_on t from to leaves covers ∷ ls)) (append-nil to)
      ∙ seen_node (moved_on t from to leaves covers) ls to (top_node covers n) (at_top t from to leaves covers not_inside not_around n there)
      ∙ top_shows (moved_on t from to leaves covers) covers n
      ∙ shows_same t from to leaves covers not_inside not_around sorted from n not_around there
      ∙ sym (ap (seen (t ∷ ls)) (append-nil from) ∙ seen_node t ls from n there)
  moved_here (m ∷ r) = by (at t (from ++ m ∷ r)) refl
    where
      by : (o : Option Node) → at t (from ++ m ∷ r) ≡ o → seen (moved_on t from to leaves covers ∷ ls) (to ++ m ∷ r) ≡ seen (t ∷ ls) (from ++ m ∷ r)
      by None e = nothing_new m r (at_under t from to leaves covers not_inside not_around m r ∙ e) ∙ sym (bare m r e)
      by (Some x) e =
          seen_node (moved_on t from to leaves covers) ls (to ++ m ∷ r) x (at_under t from to leaves covers not_inside not_around m r ∙ e)
          ∙ shows_same t from to leaves covers not_inside not_around sorted (from ++ m ∷ r) x (apart_below to from (m ∷ r) not_around not_inside) e
          ∙ sym (seen_node t ls (from ++ m ∷ r) x e)

  moved_gone : (r : Names) → seen (moved_on t from to leaves covers ∷ ls) (from ++ r) ≡ None
  moved_gone r = by leaves lower_from r
    where
      same : (l : Bool) → below (moved_on t from to l covers) ls from ≡ below t ls from
      same l = ap (λ h. cond h None (seen ls from)) (hides_old t from to l covers not_inside not_around)

      by : (l : Bool) → is_some (below t ls from) ≡ l → (r : Names) → seen (moved_on t from to l covers ∷ ls) (from ++ r) ≡ None
      by true e [] = ap (seen (moved_on t from to true covers ∷ ls)) (append-nil from) ∙ seen_node (moved_on t from to true covers) ls from Whiteout (at_old t from to true covers not_inside not_around)
      by true e (m ∷ r) = nothing_hidden (moved_on t from to true covers) ls from m r (ap node_hides (at_old t from to true covers not_inside not_around)) (at_gone t from to true covers not_inside not_around m r)
      by false e [] =
          ap (seen (moved_on t from to false covers ∷ ls)) (append-nil from)
          ∙ seen_through (moved_on t from to false covers) ls from (hides (moved_on t from to false covers) from) (at_old t from to false covers not_inside not_around) refl
          ∙ same false ∙ none_from (below t ls from) e
      by false e (m ∷ r) = nothing_lower (moved_on t from to false covers) ls from layers (ap is_shown_dir (same false ∙ none_from (below t ls from) e)) m r (at_gone t from to false covers not_inside not_around m r)

  moved_others : (q : Names) → ((r : Names) → q ≡ from ++ r → ⊥) → ((r : Names) → q ≡ to ++ r → ⊥) → seen (moved_on t from to leaves covers ∷ ls) q ≡ seen (t ∷ ls) q
  moved_others q out_from out_to = elim (split_front from q) [
    | inl within ↦ absurd (out_from within.1 within.2)
    | inr stays ↦ elim (split_front to q) [
      | inl within ↦ absurd (out_to within.1 within.2)
      | inr out ↦ seen_alike t (moved_on t from to leaves covers) ls q (record {
        here = at_else t from to leaves covers not_inside not_around q stays.0 out.0;
        shows = λ x e. shows_same t from to leaves covers not_inside not_around sorted q x out.0 e;
        above = λ p x r is. ap node_hides (at_else t from to leaves covers not_inside not_around p (above_out from q p x r out_from is) (above_out to q p x r out_to is));
      })
    ]
  ]

  -- what stands at `from` with all below it is seen at `to`
  pub moved_changes : ShowsMoved (seen (t ∷ ls)) (seen (moved_on t from to leaves covers ∷ ls)) from to
  moved_changes = record { here = moved_here; gone = moved_gone; others = moved_others }
