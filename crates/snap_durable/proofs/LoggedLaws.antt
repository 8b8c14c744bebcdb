-- How a run over a log is put together.
use Rattle.std.proofs.Common.{◌⊎◌, ◌≡◌, inl, inr, ℕ, ◌≤◌, length, List, [], ◌∷◌, ◌++◌, Bool, Option, Some, None, refl, ap, ◌∙◌, subst}
use Rattle.std.specs.Prelude.{IfSome}
use Rattle.sqlite_disk.specs.declared.Disk.{Ghosts}
use Rattle.snap_log.specs.Batches.{none_yet}
use Rattle.snap_log.specs.Kept.{IsBeforeOrAfter}
use Rattle.snap_log.specs.Log.{text_in, IsHonest, Keeps}
use Rattle.snap_log.specs.Texts.{AreLines, log_text}
use Rattle.snap_log.specs.declared.log.Log.{Log}
use Rattle.snap_session.specs.Kept.{KeptValue, counted_anew, has_store, idle_kept, kept_so, mark_of, served_kept, would_change}
use Rattle.snap_session.specs.Resumed.{resumed_kept}
use Rattle.snap_durable.specs.Logged.{HasServedLog, HasStarted, LeavesLog, Starts}
use Rattle.snap_durable.specs.Parts.{LeavesPart, line_limit}
use Rattle.snap_durable.specs.Served.{Done, IsReplayed, text_limit}
use Rattle.snap_durable.proofs.BackLaws.{Gives, IsAgain, given_back, gives_started, gives_told}
use Rattle.snap_durable.proofs.PartLaws.{leaves_none}

module _ {D : Type 0} {g : Ghosts D} (rebases : Bool) (log mid go : Log D g) (v begun u : KeptValue) (idles : v ≡ idle_kept) (was : IsHonest mid → IsReplayed resumed_kept v (text_in log) begun) (text : text_in mid ≡ text_in log)
    (goes : HasStarted rebases begun.sums mid go) (honest : IsHonest go → IsHonest mid) (counted : u ≡ counted_anew begun) where
  replayed : IsHonest mid → IsReplayed resumed_kept idle_kept (text_in log) begun
  replayed clean = subst (λ x. IsReplayed resumed_kept x (text_in log) begun) idles (was clean)

  -- what the log begins with
  goes_on : IsHonest go → text_in go ≡ text_in log ++ goes.start
  goes_on clean = (goes.keeps clean).now ∙ ap (λ (t : List ℕ). t ++ goes.start) text

  -- a log that was carried out, and then served
  pub served_log : (log_new : Log D g) (ended : KeptValue) (first before after : Option (List ℕ)) → (IsHonest log_new → IsHonest go) → IfSome first (λ bytes. Done served_kept would_change mark_of kept_so has_store line_limit bytes u (text_in go) before ended log_new after)
      → IfSome first (λ bytes. HasServedLog rebases bytes log before log_new after)
  served_log log_new ended None before after clean done = tt
  served_log log_new ended (Some bytes) before after clean done =
      let was_done : Done served_kept would_change mark_of kept_so has_store line_limit bytes (counted_anew begun) (text_in go) before ended log_new after =
      subst (λ x. Done served_kept would_change mark_of kept_so has_store line_limit bytes x (text_in go) before ended log_new after) counted done in
      let first_is : IsHonest log_new → text_in go ≡ text_in log ++ goes.start = λ h. goes_on (clean h) in
      let again_is : IsHonest log_new → length (text_in log_new) ≤ text_limit → (again : KeptValue) → IsReplayed resumed_kept idle_kept (text_in log_new) again → IsAgain ended again = λ h low again now.
      let kept : text_in log_new ≡ (text_in log ++ goes.start) ++ was_done.kept = (was_done.keeps h).now ∙ ap (λ (t : List ℕ). t ++ was_done.kept) (first_is h) in
      let lines : AreLines (text_in log) = subst AreLines text (mid.kept (honest (clean h))).lines in
      let begins : AreLines (text_in log ++ goes.start) = subst AreLines (first_is h) (go.kept (clean h)).lines in
      let all : AreLines ((text_in log ++ goes.start) ++ was_done.kept) = subst AreLines kept (log_new.kept h).lines in
      let gives : Gives ((text_in log ++ goes.start) ++ was_done.kept) (IsAgain ended) =
      gives_told (text_in log ++ goes.start) was_done.kept was_done.text was_done.parts begun (counted_anew begun) ended (gives_started rebases (text_in log) goes.start begun lines (replayed (honest (clean h))) goes.starts begins) refl was_done.told all in
      given_back ((text_in log ++ goes.start) ++ was_done.kept) (IsAgain ended) gives (subst (λ (t : List ℕ). length t ≤ text_limit) kept low) again (subst (λ (t : List ℕ). IsReplayed resumed_kept idle_kept t again) kept now) in
      record {
        begun = begun;
        ended = ended;
        replayed = λ h. replayed (honest (clean h));
        start = goes.start;
        starts = goes.starts;
        done = record {
          last = was_done.last;
          is = was_done.is;
          parts = was_done.parts;
          text = was_done.text;
          kept = was_done.kept;
          told = was_done.told;
          lines = was_done.lines;
          written = was_done.written;
          keeps = λ h. subst (λ (t : List ℕ). Keeps log_new (t ++ was_done.kept)) (first_is h) (was_done.keeps h);
        };
        gives_back = λ h low again now. (again_is h low again now).same;
        agrees = λ h low again now. (again_is h low again now).sound.whole;
      }

  -- a crash on the way
  pub served_leaves : (f : List ℕ) (first before after : Option (List ℕ)) → IsHonest go → IfSome first (λ bytes. LeavesPart served_kept would_change mark_of kept_so has_store u (none_yet line_limit) (text_in go) (bytes ++ 10 ∷ []) f before after)
      → IfSome first (λ bytes. LeavesLog rebases bytes (text_in log) f before after)
  served_leaves f None before after clean leaves = tt
  served_leaves f (Some bytes) before after clean leaves = record {
    is = inr (
      begun,
      goes.start,
      replayed (honest clean),
      goes.starts,
      subst (λ x. LeavesPart served_kept would_change mark_of kept_so has_store x (none_yet line_limit) (text_in log ++ goes.start) (bytes ++ 10 ∷ []) f before after) counted
          (subst (λ (t : List ℕ). LeavesPart served_kept would_change mark_of kept_so has_store u (none_yet line_limit) t (bytes ++ 10 ∷ []) f before after) (goes_on clean) leaves),
    );
  }

-- a crash before the log was carried out
pub unserved_leaves : (rebases : Bool) (text f : List ℕ) (first x : Option (List ℕ)) → log_text f ≡ text → IfSome first (λ bytes. LeavesLog rebases bytes text f x x)
unserved_leaves rebases text f None x is = tt
unserved_leaves rebases text f (Some bytes) x is = record { is = inl (is, refl) }

-- a crash as it was to begin
pub started_leaves : (rebases : Bool) (text start f : List ℕ) (v begun : KeptValue) (first x : Option (List ℕ)) → v ≡ idle_kept → IsReplayed resumed_kept v text begun → Starts rebases begun.sums start → IsBeforeOrAfter text start f
    → IfSome first (λ bytes. LeavesLog rebases bytes text f x x)
started_leaves rebases text start f v begun first x idles was starts (inl before) = unserved_leaves rebases text f first x before
started_leaves rebases text start f v begun None x idles was starts (inr after) = tt
started_leaves rebases text start f v begun (Some bytes) x idles was starts (inr after) = record {
  is = inr (
    begun,
    start,
    subst (λ y. IsReplayed resumed_kept y text begun) idles was,
    starts,
    leaves_none served_kept would_change mark_of kept_so has_store (counted_anew begun) (none_yet line_limit) (text ++ start) (bytes ++ 10 ∷ []) f x after,
  );
}

-- where it didn't begin
pub stopped_leaves : (rebases : Bool) (text mid f : List ℕ) (v begun : KeptValue) (first x : Option (List ℕ)) → v ≡ idle_kept → mid ≡ text → IsReplayed resumed_kept v text begun → (log_text f ≡ mid) ⊎ ((start : List ℕ) × Starts rebases begun.sums start × IsBeforeOrAfter mid start f)
    → IfSome first (λ bytes. LeavesLog rebases bytes text f x x)
stopped_leaves rebases text mid f v begun first x idles same was (inl before) = unserved_leaves rebases text f first x (before ∙ same)
stopped_leaves rebases text mid f v begun first x idles same was (inr (start, starts, either)) = started_leaves rebases text start f v begun first x idles was starts (subst (λ (t : List ℕ). IsBeforeOrAfter t start f) same either)
