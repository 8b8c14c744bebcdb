-- A directory or a file that is made.
use Rattle.std.proofs.Common.{◌≡◌, ℕ, ◌≤◌, Bool, true, false, List, [], ◌∷◌, length, Option, Some, None, is_some, refl, sym, ap, subst, ◌∙◌, arith, ltb-false}
use Rattle.std.specs.Prelude.{nat_lt, nat_le, not, ◌&&◌, ◌||◌, ◌==◌}
use Rattle.std.specs.List.{list_any}
use Rattle.std.proofs.lemmas.Bool.Decides.{nat_tests}
use Rattle.snap_path.specs.Limits.{most_mode, most_sized_bytes, most_target_bytes}
use Rattle.snap_layer.specs.Layers.{is_target}
use Rattle.snap_path.specs.Text.{Names}
use Rattle.snap_layer.specs.declared.node.Node.TheVariants.{Dir}
use Rattle.snap_layer.specs.Tree.{Tree, at}
use Rattle.snap_layer.specs.Layers.{IsLayer}
use Rattle.snap_layer.specs.Edits.{with_entry}
use Rattle.snap_copyup.specs.declared.parents.Last.TheVariants as last
use Rattle.snap_copyup.specs.Copying.{with_parents}
use Rattle.snap_copyup.specs.Places.{with_last, IsFreePlace}
use Rattle.snap_merge.specs.Objects.{Object, seen, is_shown_dir}
use Rattle.snap_merge.specs.Walk.{walk_error}
use Rattle.snap_merge.specs.declared.error.FsError.TheVariants.{Exists, Invalid, TooBig}
use Rattle.snap_upper.specs.declared.op.Op.TheVariants as op
use Rattle.snap_layer.specs.Contents.{IsContent, IsDigest}
use Rattle.snap_layer.specs.declared.content.Content.TheVariants.{Bytes, Sized}
use Rattle.snap_upper.specs.After.{after, limited, tests, first_error, error_if, is_whiteout_at, is_long_digest, is_no_target}
use Rattle.snap_copyup.proofs.Alone.{free_unseen, dir_seen}
use Rattle.snap_upper.proofs.Outcomes.{test_passes, error_if_passes, after_passes}

-- the tests of a new object have passed
pub record IsNew (s : List Tree) (p : Names) (mode : ℕ) : Type 0 where
  pub way : walk_error s p ≡ None
  pub unseen : is_some (seen s p) ≡ false
  pub low : mode ≤ most_mode

low_mode : (mode : ℕ) → nat_lt most_mode mode ≡ false → mode ≤ most_mode
low_mode mode e = ltb-false most_mode mode e

pub IsNew-passed : (s : List Tree) (p : Names) (mode : ℕ) → first_error (tests (op.Mkdir p mode) s) ≡ None → IsNew s p mode
IsNew-passed s p mode passes =
    let first = test_passes (walk_error s p) (error_if (is_some (seen s p)) Exists ∷ error_if (nat_lt most_mode mode) Invalid ∷ []) passes in
    let second = test_passes (error_if (is_some (seen s p)) Exists) (error_if (nat_lt most_mode mode) Invalid ∷ []) first.1 in
    let third = test_passes (error_if (nat_lt most_mode mode) Invalid) [] second.1 in
    record {
      way = first.0;
      unseen = error_if_passes (is_some (seen s p)) Exists second.0;
      low = low_mode mode (error_if_passes (nat_lt most_mode mode) Invalid third.0);
    }

some_shown : (o : Option Object) → is_shown_dir o ≡ true → is_some o ≡ true
some_shown None e = absurd (cc)
some_shown (Some x) e = refl

shown_some : (b : Bool) → b ≡ true → b ≡ false → ⊥
shown_some b e f = cc

-- where nothing is seen there is a place
pub vacant_unseen : (u : Tree) (ls : List Tree) (p : Names) → IsLayer u → is_some (seen (u ∷ ls) p) ≡ false → IsFreePlace u p
vacant_unseen u ls p ok unseen = record {
  below_root = λ root. shown_some (is_some (seen (u ∷ ls) [])) (some_shown (seen (u ∷ ls) []) (dir_seen u ls [] ok.root)) (subst (λ (q : Names). is_some (seen (u ∷ ls) q) ≡ false) root unseen);
  free = free_unseen u ls p ok unseen;
}

module _ (u : Tree) (ls : List Tree) (p : Names) (mode : ℕ) where
  module _ (passes : first_error (tests (op.Mkdir p mode) (u ∷ ls)) ≡ None) where
    pub new : IsNew (u ∷ ls) p mode
    new = IsNew-passed (u ∷ ls) p mode passes

    -- the next layer is this one with the directories above the path, and with the new object
    pub dir_after : (opaque : Bool) → opaque ≡ is_whiteout_at (at u p) → limited (with_last (last.Dir (record { mode = mode }) opaque) (with_parents u ls p) p) ≡ after (op.Mkdir p mode) u ls
    dir_after opaque is = ap (λ (b : Bool). limited (with_entry (with_parents u ls p) p (Dir (record { mode = mode }) b))) is ∙ sym (after_passes (op.Mkdir p mode) u ls passes)

    pub file_after : limited (with_last (last.File (record { mode = mode }) (Bytes [])) (with_parents u ls p) p) ≡ after (op.Create p mode) u ls
    file_after = sym (after_passes (op.Create p mode) u ls passes)

-- ---- files of a size

-- the tests of a new file of a size have passed
pub record IsNewSized (s : List Tree) (p : Names) (mode size : ℕ) (digest : Option (List ℕ)) : Type 0 where
  pub way : walk_error s p ≡ None
  pub unseen : is_some (seen s p) ≡ false
  pub low : mode ≤ most_mode
  pub content : IsContent (Sized size digest)

digest_from : (digest : Option (List ℕ)) → is_long_digest digest ≡ false → IsDigest digest
digest_from None e = tt
digest_from (Some digest) e = ltb-false 1024 (length digest) e

pub IsNewSized-passed : (s : List Tree) (p : Names) (mode size : ℕ) (digest : Option (List ℕ)) → first_error (tests (op.Put p mode size digest) s) ≡ None → IsNewSized s p mode size digest
IsNewSized-passed s p mode size digest passes =
    let bad = error_if (nat_lt most_mode mode) Invalid in
    let big = error_if (nat_lt most_sized_bytes size) TooBig in
    let long = error_if (is_long_digest digest) TooBig in
    let first = test_passes (walk_error s p) (error_if (is_some (seen s p)) Exists ∷ bad ∷ big ∷ long ∷ []) passes in
    let second = test_passes (error_if (is_some (seen s p)) Exists) (bad ∷ big ∷ long ∷ []) first.1 in
    let third = test_passes bad (big ∷ long ∷ []) second.1 in
    let fourth = test_passes big (long ∷ []) third.1 in
    let fifth = test_passes long [] fourth.1 in
    record {
      way = first.0;
      unseen = error_if_passes (is_some (seen s p)) Exists second.0;
      low = low_mode mode (error_if_passes (nat_lt most_mode mode) Invalid third.0);
      content = (ltb-false most_sized_bytes size (error_if_passes (nat_lt most_sized_bytes size) TooBig fourth.0), digest_from digest (error_if_passes (is_long_digest digest) TooBig fifth.0));
    }

pub sized_after : (u : Tree) (ls : List Tree) (p : Names) (mode size : ℕ) (digest copy : Option (List ℕ)) → first_error (tests (op.Put p mode size digest) (u ∷ ls)) ≡ None → copy ≡ digest → limited (with_last (last.File (record { mode = mode }) (Sized size copy)) (with_parents u ls p) p) ≡ after (op.Put p mode size digest) u ls
sized_after u ls p mode size digest copy passes is = ap (λ (d : Option (List ℕ)). limited (with_last (last.File (record { mode = mode }) (Sized size d)) (with_parents u ls p) p)) is ∙ sym (after_passes (op.Put p mode size digest) u ls passes)

-- ---- symlinks

-- the tests of a new symlink have passed
pub record IsNewSymlink (s : List Tree) (p : Names) (target : List ℕ) : Type 0 where
  pub way : walk_error s p ≡ None
  pub unseen : is_some (seen s p) ≡ false
  pub target_is : is_target target ≡ true

either_false : (a b : Bool) → (a || b) ≡ false → (a ≡ false) × (b ≡ false)
either_false true b e = absurd (cc)
either_false false b e = (refl, e)

nat_from : (n : ℕ) → (n == 0) ≡ false → nat_lt 0 n ≡ true
nat_from n e = grind (arith, nat_tests)

short_target : (n : ℕ) → nat_lt most_target_bytes n ≡ false → nat_le n most_target_bytes ≡ true
short_target n e = grind (arith, nat_tests)

target_from : (target : List ℕ) → is_no_target target ≡ false → nat_lt most_target_bytes (length target) ≡ false → is_target target ≡ true
target_from target e short =
    let parts = either_false (length target == 0) (list_any (λ b. b == 0) target) e in
    λ i. nat_from (length target) parts.0 i && short_target (length target) short i && not (parts.1 i)

pub IsNewSymlink-passed : (s : List Tree) (p : Names) (target : List ℕ) → first_error (tests (op.Symlink p target) s) ≡ None → IsNewSymlink s p target
IsNewSymlink-passed s p target passes =
    let big = error_if (nat_lt most_target_bytes (length target)) TooBig in
    let bad = error_if (is_no_target target) Invalid in
    let first = test_passes (walk_error s p) (error_if (is_some (seen s p)) Exists ∷ bad ∷ big ∷ []) passes in
    let second = test_passes (error_if (is_some (seen s p)) Exists) (bad ∷ big ∷ []) first.1 in
    let third = test_passes bad (big ∷ []) second.1 in
    let fourth = test_passes big [] third.1 in
    record {
      way = first.0;
      unseen = error_if_passes (is_some (seen s p)) Exists second.0;
      target_is = target_from target (error_if_passes (is_no_target target) Invalid third.0) (error_if_passes (nat_lt most_target_bytes (length target)) TooBig fourth.0);
    }

pub symlink_after : (u : Tree) (ls : List Tree) (p : Names) (target copy : List ℕ) → first_error (tests (op.Symlink p target) (u ∷ ls)) ≡ None → copy ≡ target → limited (with_last (last.Symlink copy) (with_parents u ls p) p) ≡ after (op.Symlink p target) u ls
symlink_after u ls p target copy passes is = ap (λ (bs : List ℕ). limited (with_last (last.Symlink bs) (with_parents u ls p) p)) is ∙ sym (after_passes (op.Symlink p target) u ls passes)
