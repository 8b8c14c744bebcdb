-- The next number: given back, or raised.
use Rattle.std.proofs.Common.{◌≡◌, inl, inr, ℕ, ◌-◌, ◌<◌, ◌≤◌, Option, Some, None, IsSome, refl, sym, ap, subst, ◌∙◌, arith}
use Rattle.std.specs.Prelude.{option_and_then}
use Rattle.std.specs.Cmp.{nat_cmp_total}
use Rattle.std.specs.FinMap.{nat_cmp-IsAntisymmetric}
use Rattle.snap_path.specs.Limits.{most_number}
use Rattle.snap_path.specs.Text.{Names}
use Rattle.snap_layer.specs.declared.node.Body.{Body}
use Rattle.snap_layer.specs.Tree.{Tree, at, body, number_at, number_of}
use Rattle.snap_layer.specs.Layers.{IsLayer}
use Rattle.snap_layer.specs.Edits.{with_next}
use Rattle.snap_layer.specs.Walk.{SlotView}
use Rattle.snap_layer.specs.Holds.{Places}
use Rattle.snap_layer.proofs.Lists.{same_lists}
use Rattle.snap_layer.proofs.Looks.{same_tree, split_number}
use Rattle.snap_layer.proofs.Kept.{IsWhole-same, has_body, next_is_fresh}
use Rattle.snap_layer.proofs.Makes.{Makes}

no_body : (o : Option Body) → o ≡ None → IsSome o → ⊥
no_body None e some = cc
no_body (Some b) e some = cc

-- the layer without the last number, which no file has
pub IsLayer-with_next : (t : Tree) → IsLayer t → 1 < t.next → body t (t.next - 1) ≡ None → IsLayer (with_next t (t.next - 1))
IsLayer-with_next t ok given gone = record {
  root = ok.root;
  parents = ok.parents;
  paths = ok.paths;
  nodes = λ p n e. IsWhole-same t (with_next t (t.next - 1)) n (λ k is. refl) (ok.nodes p n e);
  named = ok.named;
  numbers = λ k some.
      let was = ok.numbers k some in
      let apart : k ≡ t.next - 1 → ⊥ = λ e. no_body (body t k) (ap (body t) e ∙ gone) some in
      (was.0, below k t.next was.1 apart);
  next = (omega (arith, given), omega (arith, ok.next.1));
  few = ok.few;
  most = ok.most;
  sorted_paths = ok.sorted_paths;
  sorted_numbers = ok.sorted_numbers;
}
  where
    below : (k n : ℕ) → k < n → (k ≡ n - 1 → ⊥) → k < n - 1
    below k n lt apart = omega (arith, apart, lt)

-- the layer with a later next number
pub IsLayer-raised : (t : Tree) → IsLayer t → (k : ℕ) → t.next ≤ k → k ≤ most_number → IsLayer (with_next t k)
IsLayer-raised t ok k later last = record {
  root = ok.root;
  parents = ok.parents;
  paths = ok.paths;
  nodes = λ p n e. IsWhole-same t (with_next t k) n (λ j is. refl) (ok.nodes p n e);
  named = ok.named;
  numbers = λ j some. let was = ok.numbers j some in (was.0, omega (arith, was.1, later));
  next = (omega (arith, ok.next.0, later), last);
  few = ok.few;
  most = ok.most;
  sorted_paths = ok.sorted_paths;
  sorted_numbers = ok.sorted_numbers;
}

-- the table reads as it did, whatever its next number is
pub made_next : (s : SlotView) (root : ℕ) (places : Places) (next : ℕ) (u : Tree) → Makes s root places next u → (j k : ℕ) → j ≡ k → Makes s root places j (with_next u k)
made_next s root places next u m j k same = record {
  table = m.table;
  filed = record { placed = m.filed.placed; housed = m.filed.housed; counted = m.filed.counted; sorted = m.filed.sorted };
  shows = m.shows;
  bodies = m.bodies;
  last = same;
}

pub made_with_next : (s : SlotView) (root : ℕ) (places : Places) (next : ℕ) (u : Tree) → Makes s root places next u → Makes s root places (next - 1) (with_next u (u.next - 1))
made_with_next s root places next u m = made_next s root places next u m (next - 1) (u.next - 1) (ap (λ (k : ℕ). k - 1) m.last)

-- a layer that has what another has, but for the body under the other's next number, is it once that is its next number
module _ (t w : Tree) (okt : IsLayer t) (okw : IsLayer w) (same : (q : Names) → at t q ≡ at w q) (bodies : (k : ℕ) → (k ≡ w.next → ⊥) → body t k ≡ body w k) where
  -- no name has the number, so no file has it
  pub last_gone : body t w.next ≡ None
  last_gone = by (body t w.next) refl
    where
      by : (o : Option Body) → body t w.next ≡ o → o ≡ None
      by None e = refl
      by (Some b) e =
          let name = okt.named w.next (subst IsSome (sym e) refl) in
          let there : number_at w name.0 ≡ Some w.next = number_same name.0 ∙ name.1 in
          absurd (no_body (body w w.next) (next_is_fresh w okw) (has_body w okw name.0 w.next there))
        where
          number_same : (q : Names) → number_at w q ≡ number_at t q
          number_same q = ap (option_and_then number_of) (sym (same q))

  pub given_back : t.most ≡ w.most → with_next t w.next ≡ w
  given_back most =
      same_tree (with_next t w.next) w okt.sorted_paths okw.sorted_paths same
      (same_lists nat_cmp_total nat_cmp-IsAntisymmetric t.bodies w.bodies okt.sorted_numbers okw.sorted_numbers (λ k. elim (split_number k w.next) [
        | inl one ↦ ap (body t) one.0 ∙ last_gone ∙ sym (next_is_fresh w okw) ∙ ap (body w) (sym one.0)
        | inr two ↦ bodies k (λ e. two.0 (sym e))
      ]))
      refl
      most
