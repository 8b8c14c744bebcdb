-- What was served over the log of a pair that counts was served over the pair.
use Rattle.std.proofs.Common.{◌≡◌, inl, inr, ℕ, ◌<◌, Bool, true, false, List, [], ◌∷◌, ◌++◌, length, Option, None, Some, Result, Ok, Err, refl, sym, ap, ◌∙◌, subst, arith, length-append}
use Rattle.std.specs.Prelude.{IfErr, IfOk, IfSome, IsTrue, if◌then◌else◌}
use Rattle.sqlite_disk.specs.declared.Disk.{Ghosts}
use Rattle.snap_log.specs.Log.{IsHonest, disk_of, text_in}
use Rattle.snap_log.specs.Texts.{log_text}
use Rattle.snap_log.specs.declared.log.Log.{Log}
use Rattle.snap_log.proofs.LogLaws.{log_keeps}
use Rattle.snap_pair.specs.Pair.{ArePairHonest, joined, lines_in}
use Rattle.snap_pair.specs.declared.halves.Halves.{Halves}
use Rattle.snap_pair.specs.declared.pair.Pair.{Pair}
use Rattle.snap_durable.specs.Logged.{HasServedLog, IfDiffers, IsRefused, LeavesLog, disk_left}
use Rattle.snap_durable.specs.Parts.{kept_of}
use Rattle.snap_session.specs.Kept.{mark_of, would_change}
use Rattle.snap_durable.specs.Pairs.{AreHonestServed, HasServedPair, IsPairRefused, counting_file, file_by, first_served, second_served}
use Rattle.snap_durable.specs.declared.logged.Unserved.{Unserved}
use Rattle.snap_durable.specs.declared.logged.Unserved.TheVariants.{Replay, Differs, NotRebased, Ended}

-- a log that had lines has some
leaves_some : (rebases : Bool) (bytes text file : List ℕ) (before after : Option (List ℕ)) → LeavesLog rebases bytes text file before after → 0 < length text → 0 < length (log_text file)
leaves_some rebases bytes text file before after leaves some = elim leaves.is [
  | inl same ↦ subst (λ (t : List ℕ). 0 < length t) (sym same.0) some
  | inr goes ↦ subst (λ (t : List ℕ). 0 < length t) (sym goes.4.stands) (omega (arith, length-append (text ++ goes.1) (goes.4.kept ++ kept_of (would_change goes.4.value) (mark_of goes.4.value) goes.4.last), length-append text goes.1))
]

-- the second file counts where it has a line
file_some : (text first second : List ℕ) → 0 < length text → file_by text first second ≡ second
file_some [] first second some = absurd (omega arith)
file_some (b ∷ text) first second some = refl

module _ {D : Type 0} {g : Ghosts D} (rebases : Bool) (pair : Pair D g) (log : Log D g) (same : ArePairHonest pair → text_in log ≡ lines_in pair) (first before after : Option (List ℕ)) where
  pub served_pair : (r : Result (Log D g) (Unserved D g)) → IfOk r (λ log_new. IfSome first (λ bytes. HasServedLog rebases bytes log before log_new after)) → IfOk r (λ log_new. IfSome first (λ bytes. HasServedPair rebases bytes pair before log_new after))
  served_pair (Ok log_new) done = by first done
    where
      by : (o : Option (List ℕ)) → IfSome o (λ bytes. HasServedLog rebases bytes log before log_new after) → IfSome o (λ bytes. HasServedPair rebases bytes pair before log_new after)
      by None done = tt
      by (Some bytes) done = (log, same, done)
  served_pair (Err why) done = tt

module _ {D : Type 0} {g : Ghosts D} (pair : Pair D g) (log : Log D g) (same : ArePairHonest pair → text_in log ≡ lines_in pair) where
  pub refused_pair : (r : Result (Log D g) (Unserved D g)) → IfErr r (λ why. IfDiffers why (λ log_new sums. IsRefused log log_new sums)) → IfErr r (λ why. IfDiffers why (λ log_new sums. IsPairRefused pair log_new sums))
  refused_pair (Ok log_new) differs = tt
  refused_pair (Err (Replay l error)) differs = tt
  refused_pair (Err (Differs l sums)) differs = (log, same, differs)
  refused_pair (Err (NotRebased l error)) differs = tt
  refused_pair (Err (Ended ended)) differs = tt

module _ {D : Type 0} {g : Ghosts D} (rebases : Bool) (pair : Pair D g) (h : Halves D g) (is : joined h ≡ pair) (same : ArePairHonest pair → text_in h.counting ≡ lines_in pair)
    (none : ArePairHonest pair → h.is_second ≡ false → text_in h.other ≡ []) (some : ArePairHonest pair → h.is_second ≡ true → 0 < length (text_in h.counting))
    (first before after : Option (List ℕ)) (r : Result (Log D g) (Unserved D g)) (clean : IsTrue (g.is_clean (disk_left r)) → IsHonest h.counting)
    (crash : IsTrue (g.is_clean (disk_left r)) → (c : List ℕ) → g.may_leave (disk_left r) c → IfSome first (λ bytes. LeavesLog rebases bytes (text_in h.counting) c before after)) where
  -- the pair before, where no answer was a lie
  honest : IsHonest h.counting → IsHonest h.other → ArePairHonest pair
  honest ours theirs = subst ArePairHonest is (by h.is_second)
    where
      by : (b : Bool) → ArePairHonest (if b then record { first = h.other; second = h.counting } else record { first = h.counting; second = h.other })
      by true = (theirs, ours)
      by false = (ours, theirs)

  -- of the first file
  leaves_first : h.is_second ≡ false → IsTrue (g.is_clean (disk_left r)) → IsHonest h.other → (c d : List ℕ) → g.may_leave (disk_left r) c → g.may_leave (disk_of h.other) d → IfSome first (λ bytes. LeavesLog rebases bytes (lines_in pair) (counting_file c d) before after)
  leaves_first is_first ours theirs c d left right =
      let all : ArePairHonest pair = honest (clean ours) theirs in
      let empty : log_text d ≡ [] = (log_keeps h.other theirs).crash d right ∙ none all is_first in
      subst (λ (t : List ℕ). IfSome first (λ bytes. LeavesLog rebases bytes t (counting_file c d) before after)) (same all)
      (subst (λ (f : List ℕ). IfSome first (λ bytes. LeavesLog rebases bytes (text_in h.counting) f before after)) (ap (λ (t : List ℕ). file_by t c d) (sym empty)) (crash ours c left))

  -- of the second one
  leaves_second : h.is_second ≡ true → IsTrue (g.is_clean (disk_left r)) → IsHonest h.other → (c d : List ℕ) → g.may_leave (disk_of h.other) c → g.may_leave (disk_left r) d → IfSome first (λ bytes. LeavesLog rebases bytes (lines_in pair) (counting_file c d) before after)
  leaves_second is_other ours theirs c d left right = by first (crash ours d right)
    where
      all : ArePairHonest pair
      all = honest (clean ours) theirs

      by : (o : Option (List ℕ)) → IfSome o (λ bytes. LeavesLog rebases bytes (text_in h.counting) d before after) → IfSome o (λ bytes. LeavesLog rebases bytes (lines_in pair) (counting_file c d) before after)
      by None leaves = tt
      by (Some bytes) leaves =
          let here : counting_file c d ≡ d = file_some (log_text d) c d (leaves_some rebases bytes (text_in h.counting) d before after leaves (some all is_other)) in
          subst (λ (t : List ℕ). LeavesLog rebases bytes t (counting_file c d) before after) (same all) (subst (λ (f : List ℕ). LeavesLog rebases bytes (text_in h.counting) f before after) (sym here) leaves)

  -- whichever it is
  pub leaves_pair : AreHonestServed (record { served = r; other = h.other; is_second = h.is_second }) → (c d : List ℕ) → g.may_leave (first_served (record { served = r; other = h.other; is_second = h.is_second })) c
      → g.may_leave (second_served (record { served = r; other = h.other; is_second = h.is_second })) d → IfSome first (λ bytes. LeavesLog rebases bytes (lines_in pair) (counting_file c d) before after)
  leaves_pair = by h.is_second refl
    where
      by : (b : Bool) → h.is_second ≡ b → IsTrue (g.is_clean (if b then disk_of h.other else disk_left r)) × IsTrue (g.is_clean (if b then disk_left r else disk_of h.other)) → (c d : List ℕ) → g.may_leave (if b then disk_of h.other else disk_left r) c
          → g.may_leave (if b then disk_left r else disk_of h.other) d → IfSome first (λ bytes. LeavesLog rebases bytes (lines_in pair) (counting_file c d) before after)
      by true is_other both c d left right = leaves_second is_other both.1 both.0 c d left right
      by false is_first both c d left right = leaves_first is_first both.0 both.1 c d left right
