-- A node that is put at a path, and what is seen at the others.
use Rattle.std.proofs.Common.{◌≡◌, inl, inr, ℕ, true, List, [], ◌∷◌, ◌++◌, Option, Some, None, refl, sym, ap, ◌∙◌, append-nil}
use Rattle.snap_path.specs.Text.{Names}
use Rattle.snap_layer.specs.declared.node.Node.{Node}
use Rattle.snap_layer.specs.declared.node.Node.TheVariants.{Dir, File, Symlink, Whiteout}
use Rattle.snap_layer.specs.Tree.{Tree, at, body, number_of, node_hides}
use Rattle.snap_layer.proofs.Looks.{split_path}
use Rattle.snap_layer.proofs.Paths.{split_front}
use Rattle.snap_merge.specs.Objects.{seen, shown, shown_body}
use Rattle.snap_merge.proofs.Views.{seen_alike, seen_node, seen_through}
use Rattle.snap_merge.proofs.Hiding.{hides_from_above}

-- a node shows the same where its body is the same
pub shown_same : (t v : Tree) (n : Node) → ((k : ℕ) → number_of n ≡ Some k → body v k ≡ body t k) → shown v n ≡ shown t n
shown_same t v (Dir m b) same = refl
shown_same t v (File k) same = ap shown_body (same k refl)
shown_same t v (Symlink k) same = ap shown_body (same k refl)
shown_same t v Whiteout same = refl

-- a node with a number shows its body
pub shown_number : (t : Tree) (n : Node) (k : ℕ) → number_of n ≡ Some k → shown t n ≡ shown_body (body t k)
shown_number t (Dir m b) k e = absurd (cc)
shown_number t (File j) k e = let same : j ≡ k = cc in ap (λ (i : ℕ). shown_body (body t i)) same
shown_number t (Symlink j) k e = let same : j ≡ k = cc in ap (λ (i : ℕ). shown_body (body t i)) same
shown_number t Whiteout k e = absurd (cc)

-- the layer v has at every path but p what t has
pub record Puts (t v : Tree) (p : Names) : Type 0 where
  pub others : (q : Names) → (q ≡ p → ⊥) → at v q ≡ at t q
  pub shows : (q : Names) (n : Node) → (q ≡ p → ⊥) → at t q ≡ Some n → shown v n ≡ shown t n

module _ (t v : Tree) (ls : List Tree) (p : Names) (puts : Puts t v p) where
  -- a node that hides what the one before it hid
  pub seen-put_alike : node_hides (at v p) ≡ node_hides (at t p) → (q : Names) → (q ≡ p → ⊥) → seen (v ∷ ls) q ≡ seen (t ∷ ls) q
  seen-put_alike same q apart = seen_alike t v ls q (record {
    here = puts.others q apart;
    shows = λ n e. puts.shows q n apart e;
    above = λ r n rest is. alike r;
  })
    where
      alike : (r : Names) → node_hides (at v r) ≡ node_hides (at t r)
      alike r = elim (split_path r p) [
        | inl one ↦ ap (λ (x : Names). node_hides (at v x)) one.0 ∙ same ∙ ap (λ (x : Names). node_hides (at t x)) (sym one.0)
        | inr two ↦ ap node_hides (puts.others r (λ e. two.0 (sym e)))
      ]

  below : node_hides (at v p) ≡ true → (n : List ℕ) (r : Names) → (p ++ n ∷ r ≡ p → ⊥) → seen (t ∷ ls) (p ++ n ∷ r) ≡ None → seen (v ∷ ls) (p ++ n ∷ r) ≡ None
  below here n r apart nothing = by (at t (p ++ n ∷ r)) refl
    where
      q : Names
      q = p ++ n ∷ r

      by : (o : Option Node) → at t (p ++ n ∷ r) ≡ o → seen (v ∷ ls) (p ++ n ∷ r) ≡ None
      by None e = seen_through v ls (p ++ n ∷ r) true (puts.others (p ++ n ∷ r) apart ∙ e) (hides_from_above v (p ++ n ∷ r) (p, n, r, refl, here))
      by (Some m) e = seen_node v ls (p ++ n ∷ r) m (puts.others (p ++ n ∷ r) apart ∙ e) ∙ puts.shows (p ++ n ∷ r) m apart e ∙ sym (seen_node t ls (p ++ n ∷ r) m e) ∙ nothing

  -- a node that hides, where nothing was seen below
  pub seen-put_hiding : node_hides (at v p) ≡ true → ((n : List ℕ) (r : Names) → seen (t ∷ ls) (p ++ n ∷ r) ≡ None) → (q : Names) → (q ≡ p → ⊥) → seen (v ∷ ls) q ≡ seen (t ∷ ls) q
  seen-put_hiding here nothing q apart = elim (split_front p q) [
    | inl within ↦ by within.1 within.2
    | inr out ↦ seen_alike t v ls q (record {
      here = puts.others q apart;
      shows = λ n e. puts.shows q n apart e;
      above = λ r n rest is. ap node_hides (puts.others r (λ e. out.1 (n ∷ rest) (is ∙ ap (λ (x : Names). x ++ n ∷ rest) e)));
    })
  ]
    where
      by : (rest : Names) → q ≡ p ++ rest → seen (v ∷ ls) q ≡ seen (t ∷ ls) q
      by [] is = absurd (apart (is ∙ append-nil p))
      by (n ∷ r) is =
          ap (seen (v ∷ ls)) is
          ∙ below here n r (λ e. apart (is ∙ e)) (nothing n r)
          ∙ sym (nothing n r)
          ∙ ap (seen (t ∷ ls)) (sym is)
