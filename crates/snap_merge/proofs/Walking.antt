-- The walk to a path, name by name.
use Rattle.std.proofs.Common.{◌≡◌, ℕ, ◌+◌, ◌<◌, Bool, not, List, [], Option, Some, length, take, drop, sym, ap, ◌∙◌}
use Rattle.std.specs.Prelude.{if◌then◌else◌}
use Rattle.std.proofs.lemmas.List.{at_drop_more, take_more}
use Rattle.snap_path.specs.Text.{Names}
use Rattle.snap_layer.specs.Tree.{Tree}
use Rattle.snap_merge.specs.declared.error.FsError.TheVariants.{NotDir}
use Rattle.snap_merge.specs.Objects.{Object, seen, is_shown_dir}
use Rattle.snap_merge.specs.Walk.{walk_on, walk_from, walk_error}
use Rattle.snap_merge.specs.Resolving.{met, plain_error}

-- one name further
pub walk_more : (s : List Tree) (p : Names) (k : ℕ) → k < length p → walk_from s (take k p) (drop k p) ≡ walk_on (seen s (take k p)) (walk_from s (take (k + 1) p) (drop (k + 1) p))
walk_more s p k lt =
    at_drop_more (walk_from s (take k p)) p k [] lt
    ∙ ap (λ (front : Names). walk_on (seen s (take k p)) (walk_from s front (drop (k + 1) p))) (sym (take_more p k [] lt))

-- what is seen above the path decides the walk, or what follows does
pub walk_at : (s : List Tree) (p : Names) (k : ℕ) (o : Option Object) → k < length p → o ≡ seen s (take k p) → walk_from s (take k p) (drop k p) ≡ walk_error s p → walk_on o (walk_from s (take (k + 1) p) (drop (k + 1) p)) ≡ walk_error s p
walk_at s p k o lt here so_far = ap (λ x. walk_on x (walk_from s (take (k + 1) p) (drop (k + 1) p))) here ∙ sym (walk_more s p k lt) ∙ so_far

-- what is seen in the directory at a name decides the error before a symlink, or what follows does
pub plain_at : (s : List Tree) (p : Names) (k : ℕ) (d : Bool) (o : Option Object) → k < length p → d ≡ is_shown_dir (seen s (take k p)) → o ≡ seen s (take (k + 1) p) → plain_error s (take k p) (drop k p) ≡ plain_error s [] p
    → (if not d then Some NotDir else met o (plain_error s (take (k + 1) p) (drop (k + 1) p))) ≡ plain_error s [] p
plain_at s p k d o lt directory entry so_far =
    ap (λ (b : Bool). if not b then Some NotDir else met o (plain_error s (take (k + 1) p) (drop (k + 1) p))) directory
    ∙ ap (λ (x : Option Object). if not (is_shown_dir (seen s (take k p))) then Some NotDir else met x (plain_error s (take (k + 1) p) (drop (k + 1) p))) entry
    ∙ sym (at_drop_more (plain_error s (take k p)) p k [] lt
    ∙ ap (λ (front : Names). if not (is_shown_dir (seen s (take k p))) then Some NotDir else met (seen s front) (plain_error s front (drop (k + 1) p))) (sym (take_more p k [] lt)))
    ∙ so_far
