-- No operation answers NeedsCharge of its own: the error is that of a share that is too small.
use Rattle.std.proofs.Common.{◌≡◌, Bool, true, false, List, [], ◌∷◌, ◌++◌, Option, Some, None, Ok, Err}
use Rattle.std.specs.Prelude.{ℕ, ◌+◌, ◌&&◌, ◌||◌, not, nat_lt, length, is_some, if◌then◌else◌}
use Rattle.snap_path.specs.Limits.{most_mode, most_sized_bytes, most_target_bytes}
use Rattle.snap_path.specs.Text.{Names, begins}
use Rattle.snap_layer.specs.Tree.{Tree}
use Rattle.snap_layer.specs.Counts.{is_within}
use Rattle.snap_usage.specs.declared.usage.Usage.{Usage}
use Rattle.snap_merge.specs.declared.error.FsError.{FsError}
use Rattle.snap_merge.specs.declared.error.FsError.TheVariants.{NotFound, NotDir, IsDir, Exists, Invalid, NotEmpty, BadPath, CrossDevice, TooBig, LayerFull, NeedsCharge}
use Rattle.snap_merge.specs.Objects.{Object, dir, file, symlink, seen, is_shown_dir}
use Rattle.snap_merge.specs.Walk.{unless, walk_error, walk_from, walk_on}
use Rattle.snap_copyup.specs.Copying.{is_pure}
use Rattle.snap_upper.specs.declared.op.Op.{Op}
use Rattle.snap_upper.specs.declared.op.Op.TheVariants.{Mkdir, Create, Put, Write, Truncate, SetMode, Symlink, Link, Unlink, Rmdir, Rename, Opaque, Whiteout}
use Rattle.snap_upper.specs.After.{Outcome, after, tests, first_error, error_if, most_of, is_long_digest, kind_error, is_no_target, is_root, has_names, is_same_name, moves_too_long, move_tests, limited, next_layer}
use Rattle.snap_upper.proofs.KindErrors.{file_error, mode_error, name_error, dir_error, link_error}

module _ (need : Usage) where
  -- ---- tests

  on_walk : (o : Option Object) (later : Option FsError) → (later ≡ Some (NeedsCharge need) → ⊥) → walk_on o later ≡ Some (NeedsCharge need) → ⊥
  on_walk None later never e = cc
  on_walk (Some (dir meta)) later never e = never e
  on_walk (Some (file meta content)) later never e = cc
  on_walk (Some (symlink target)) later never e = cc

  no_walk_from : (s : List Tree) (front rest : Names) → walk_from s front rest ≡ Some (NeedsCharge need) → ⊥
  no_walk_from s front [] e = cc
  no_walk_from s front (n ∷ rest) e = on_walk (seen s front) (walk_from s (front ++ n ∷ []) rest) (no_walk_from s (front ++ n ∷ []) rest) e

  no_error_if : (b : Bool) (x : FsError) → (x ≡ NeedsCharge need → ⊥) → error_if b x ≡ Some (NeedsCharge need) → ⊥
  no_error_if true x never e = never (cc)
  no_error_if false x never e = cc

  no_file_error : (o : Option Object) → file_error o ≡ Some (NeedsCharge need) → ⊥
  no_file_error None e = cc
  no_file_error (Some (dir meta)) e = cc
  no_file_error (Some (file meta content)) e = cc
  no_file_error (Some (symlink target)) e = cc

  no_mode_error : (o : Option Object) → mode_error o ≡ Some (NeedsCharge need) → ⊥
  no_mode_error None e = cc
  no_mode_error (Some (dir meta)) e = cc
  no_mode_error (Some (file meta content)) e = cc
  no_mode_error (Some (symlink target)) e = cc

  no_name_error : (o : Option Object) → name_error o ≡ Some (NeedsCharge need) → ⊥
  no_name_error None e = cc
  no_name_error (Some (dir meta)) e = cc
  no_name_error (Some (file meta content)) e = cc
  no_name_error (Some (symlink target)) e = cc

  no_dir_error : (o : Option Object) → dir_error o ≡ Some (NeedsCharge need) → ⊥
  no_dir_error None e = cc
  no_dir_error (Some (dir meta)) e = cc
  no_dir_error (Some (file meta content)) e = cc
  no_dir_error (Some (symlink target)) e = cc

  no_link_error : (o : Option Object) → link_error o ≡ Some (NeedsCharge need) → ⊥
  no_link_error None e = cc
  no_link_error (Some (dir meta)) e = cc
  no_link_error (Some (file meta content)) e = cc
  no_link_error (Some (symlink target)) e = cc

  no_first : (o : Option FsError) (later : List (Option FsError)) → (o ≡ Some (NeedsCharge need) → ⊥) → (first_error later ≡ Some (NeedsCharge need) → ⊥) → first_error (o ∷ later) ≡ Some (NeedsCharge need) → ⊥
  no_first None later never none e = none e
  no_first (Some x) later never none e = never e

  no_none : first_error [] ≡ Some (NeedsCharge need) → ⊥
  no_none e = cc

  not_exists : Exists ≡ NeedsCharge need → ⊥
  not_exists e = cc

  not_invalid : Invalid ≡ NeedsCharge need → ⊥
  not_invalid e = cc

  not_big : TooBig ≡ NeedsCharge need → ⊥
  not_big e = cc

  not_full : NotEmpty ≡ NeedsCharge need → ⊥
  not_full e = cc

  not_missing : NotFound ≡ NeedsCharge need → ⊥
  not_missing e = cc

  not_path : BadPath ≡ NeedsCharge need → ⊥
  not_path e = cc

  not_device : CrossDevice ≡ NeedsCharge need → ⊥
  not_device e = cc

  no_kind_error : (moved : Option Object) (o : Option Object) → kind_error moved o ≡ Some (NeedsCharge need) → ⊥
  no_kind_error moved None e = cc
  no_kind_error moved (Some (dir meta)) e = no_error_if (not (is_shown_dir moved)) IsDir (λ x. cc) e
  no_kind_error moved (Some (file meta content)) e = no_error_if (is_shown_dir moved) NotDir (λ x. cc) e
  no_kind_error moved (Some (symlink target)) e = no_error_if (is_shown_dir moved) NotDir (λ x. cc) e

  -- a new object's tests
  no_new : (s : List Tree) (p : Names) (mode : ℕ) → first_error (tests (Mkdir p mode) s) ≡ Some (NeedsCharge need) → ⊥
  no_new s p mode =
      no_first (walk_error s p) _ (no_walk_from s [] p)
      (no_first (error_if (is_some (seen s p)) Exists) _ (no_error_if (is_some (seen s p)) Exists not_exists)
      (no_first (error_if (nat_lt most_mode mode) Invalid) [] (no_error_if (nat_lt most_mode mode) Invalid not_invalid) no_none))

  -- the tests of a rename that has something to do
  no_move : (u : Tree) (lowers : List Tree) (from to : Names) → first_error (move_tests u lowers from to) ≡ Some (NeedsCharge need) → ⊥
  no_move u lowers from to =
      let s = u ∷ lowers in
      let into = is_shown_dir (seen s from) && begins from to in
      let merged = is_shown_dir (seen s from) && not (is_pure u lowers from) in
      no_first (error_if into Invalid) _ (no_error_if into Invalid not_invalid)
      (no_first (kind_error (seen s from) (seen s to)) _ (no_kind_error (seen s from) (seen s to))
      (no_first (error_if merged CrossDevice) _ (no_error_if merged CrossDevice not_device)
      (no_first (error_if (has_names s to) NotEmpty) _ (no_error_if (has_names s to) NotEmpty not_full)
      (no_first (error_if (moves_too_long u from to) BadPath) [] (no_error_if (moves_too_long u from to) BadPath not_path) no_none))))

  no_rename : (u : Tree) (lowers : List Tree) (from to : Names) (b : Bool) → first_error (if b then [] else move_tests u lowers from to) ≡ Some (NeedsCharge need) → ⊥
  no_rename u lowers from to true = no_none
  no_rename u lowers from to false = no_move u lowers from to

  no_test : (op : Op) (s : List Tree) → first_error (tests op s) ≡ Some (NeedsCharge need) → ⊥
  no_test (Mkdir p mode) s = no_new s p mode
  no_test (Create p mode) s = no_new s p mode
  no_test (Put p mode size digest) s =
      no_first (walk_error s p) _ (no_walk_from s [] p)
      (no_first (error_if (is_some (seen s p)) Exists) _ (no_error_if (is_some (seen s p)) Exists not_exists)
      (no_first (error_if (nat_lt most_mode mode) Invalid) _ (no_error_if (nat_lt most_mode mode) Invalid not_invalid)
      (no_first (error_if (nat_lt most_sized_bytes size) TooBig) _ (no_error_if (nat_lt most_sized_bytes size) TooBig not_big)
      (no_first (error_if (is_long_digest digest) TooBig) [] (no_error_if (is_long_digest digest) TooBig not_big) no_none))))
  no_test (Write p offset bytes) s =
      let big = nat_lt (most_of (seen s p)) (offset + length bytes) in
      no_first (walk_error s p) _ (no_walk_from s [] p)
      (no_first (file_error (seen s p)) _ (no_file_error (seen s p))
      (no_first (error_if big TooBig) [] (no_error_if big TooBig not_big) no_none))
  no_test (Truncate p size) s =
      no_first (walk_error s p) _ (no_walk_from s [] p)
      (no_first (file_error (seen s p)) _ (no_file_error (seen s p))
      (no_first (error_if (nat_lt (most_of (seen s p)) size) TooBig) [] (no_error_if (nat_lt (most_of (seen s p)) size) TooBig not_big) no_none))
  no_test (SetMode p mode) s =
      no_first (walk_error s p) _ (no_walk_from s [] p)
      (no_first (mode_error (seen s p)) _ (no_mode_error (seen s p))
      (no_first (error_if (nat_lt most_mode mode) Invalid) [] (no_error_if (nat_lt most_mode mode) Invalid not_invalid) no_none))
  no_test (Symlink p target) s =
      no_first (walk_error s p) _ (no_walk_from s [] p)
      (no_first (error_if (is_some (seen s p)) Exists) _ (no_error_if (is_some (seen s p)) Exists not_exists)
      (no_first (error_if (is_no_target target) Invalid) _ (no_error_if (is_no_target target) Invalid not_invalid)
      (no_first (error_if (nat_lt most_target_bytes (length target)) TooBig) [] (no_error_if (nat_lt most_target_bytes (length target)) TooBig not_big) no_none)))
  no_test (Link from to) s =
      no_first (walk_error s from) _ (no_walk_from s [] from)
      (no_first (walk_error s to) _ (no_walk_from s [] to)
      (no_first (link_error (seen s from)) _ (no_link_error (seen s from))
      (no_first (error_if (is_some (seen s to)) Exists) [] (no_error_if (is_some (seen s to)) Exists not_exists) no_none)))
  no_test (Unlink p) s =
      no_first (walk_error s p) _ (no_walk_from s [] p)
      (no_first (name_error (seen s p)) [] (no_name_error (seen s p)) no_none)
  no_test (Rmdir p) s =
      no_first (walk_error s p) _ (no_walk_from s [] p)
      (no_first (error_if (is_root p) Invalid) _ (no_error_if (is_root p) Invalid not_invalid)
      (no_first (dir_error (seen s p)) _ (no_dir_error (seen s p))
      (no_first (error_if (has_names s p) NotEmpty) [] (no_error_if (has_names s p) NotEmpty not_full) no_none)))
  no_test (Rename from to) [] = no_none
  no_test (Rename from to) (u ∷ lowers) =
      let s = u ∷ lowers in
      no_first (walk_error s from) _ (no_walk_from s [] from)
      (no_first (walk_error s to) _ (no_walk_from s [] to)
      (no_first (error_if (is_root from || is_root to) Invalid) _ (no_error_if (is_root from || is_root to) Invalid not_invalid)
      (no_first (error_if (not (is_some (seen s from))) NotFound) _ (no_error_if (not (is_some (seen s from))) NotFound not_missing) (no_rename u lowers from to (is_same_name u from to)))))
  no_test (Opaque p) s =
      no_first (walk_error s p) _ (no_walk_from s [] p)
      (no_first (dir_error (seen s p)) [] (no_dir_error (seen s p)) no_none)
  no_test (Whiteout p) s =
      no_first (walk_error s p) _ (no_walk_from s [] p)
      (no_first (error_if (is_root p) Invalid) _ (no_error_if (is_root p) Invalid not_invalid)
      (no_first (error_if (not (is_some (seen s p))) NotFound) [] (no_error_if (not (is_some (seen s p))) NotFound not_missing) no_none))

  -- ---- outcomes

  no_limited : (t : Tree) → limited t ≡ Err (NeedsCharge need) → ⊥
  no_limited t = by (is_within t)
    where
      by : (b : Bool) → ◌≡◌ {A = Outcome} (if b then Ok t else Err LayerFull) (Err (NeedsCharge need)) → ⊥
      by true e = cc
      by false e = cc

  no_outcome : (o : Option FsError) (later : Outcome) → (o ≡ Some (NeedsCharge need) → ⊥) → (later ≡ Err (NeedsCharge need) → ⊥) → unless o later ≡ Err (NeedsCharge need) → ⊥
  no_outcome None later never none e = none e
  no_outcome (Some x) later never none e = never (cc)

  pub after_needs_none : (op : Op) (u : Tree) (lowers : List Tree) → after op u lowers ≡ Err (NeedsCharge need) → ⊥
  after_needs_none op u lowers = no_outcome (first_error (tests op (u ∷ lowers))) (limited (next_layer op u lowers)) (no_test op (u ∷ lowers)) (no_limited (next_layer op u lowers))
