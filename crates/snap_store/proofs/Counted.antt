-- How many entries a book's journal has once a call's entry is counted.
use Rattle.std.specs.Prelude.{if◌then◌else◌, Bool}
use Rattle.std.proofs.Common.{◌≡◌, ℕ, ◌+◌, List, [], ◌∷◌, ◌++◌, length, None, sym, ap, ◌∙◌, subst}
use Rattle.std.proofs.lemmas.List.{length-append}
use Rattle.snap_call.specs.declared.call.Call.{Call}
use Rattle.snap_call.specs.declared.call.Given.{Given}
use Rattle.snap_call.specs.declared.entry.Entry.{Entry}
use Rattle.snap_call.specs.declared.refusal.Refusal.{Refusal}
use Rattle.snap_call.specs.declared.refusal.Refusal.TheVariants.{JournalFull, OutOfMemory}
use Rattle.snap_call.specs.declared.reply.Reply.{Reply}
use Rattle.snap_call.specs.declared.reply.Reply.TheVariants.{Refused}
use Rattle.snap_call.specs.Journal.{call_entry}
use Rattle.snap_book.specs.Book.{AnsweredBy, BookValue, Recorded, RefusedBy}
use Rattle.snap_tape.specs.Tapes.{count_with, is_noted, is_recorded}

one_more : (es : List Entry) (e : Entry) → length (es ++ e ∷ []) ≡ length es + 1
one_more es e = length-append es (e ∷ [])

pub recorded_count : (n s : ℕ) (old new : BookValue) (call : Call) (given : Given) (reply : Reply) → n ≡ length old.journal → Recorded old new s call given reply → count_with n new.copy ≡ length new.journal
recorded_count n s old new call given reply was by =
    subst (λ o. count_with n o ≡ length new.journal) (sym by.copy)
    (ap (λ m. m + 1) was ∙ sym (ap length by.journal ∙ one_more old.journal (call_entry s call given reply)))

refused_count : (n s : ℕ) (old new : BookValue) (call : Call) (given : Given) (why : Refusal) → n ≡ length old.journal → RefusedBy old new s call given why → count_with n (if is_recorded why then new.copy else None) ≡ length new.journal
refused_count n s old new call given JournalFull was by = was ∙ sym (ap (λ (b : BookValue). length b.journal) by)
refused_count n s old new call given (OutOfMemory want) was by = was ∙ sym (ap (λ (b : BookValue). length b.journal) by)
refused_count n s old new call given why was by = recorded_count n s old new call given (Refused why) was by

answered_count : (n s : ℕ) (old new : BookValue) (call : Call) (given : Given) (reply : Reply) → n ≡ length old.journal → AnsweredBy old new s call given reply → count_with n (if is_noted reply then new.copy else None) ≡ length new.journal
answered_count n s old new call given (Refused why) was by = refused_count n s old new call given why was by
answered_count n s old new call given reply was by = recorded_count n s old new call given reply was by

-- the same by what was found of the answer
pub refused_made : (n s : ℕ) (old new : BookValue) (call : Call) (given : Given) (why : Refusal) (t : Bool) → n ≡ length old.journal → RefusedBy old new s call given why → t ≡ is_recorded why → count_with n (if t then new.copy else None) ≡ length new.journal
refused_made n s old new call given why t was by is = subst (λ (t : Bool). count_with n (if t then new.copy else None) ≡ length new.journal) (sym is) (refused_count n s old new call given why was by)

pub answered_made : (n s : ℕ) (old new : BookValue) (call : Call) (given : Given) (reply : Reply) (t : Bool) → n ≡ length old.journal → AnsweredBy old new s call given reply → t ≡ is_noted reply → count_with n (if t then new.copy else None) ≡ length new.journal
answered_made n s old new call given reply t was by is = subst (λ (t : Bool). count_with n (if t then new.copy else None) ≡ length new.journal) (sym is) (answered_count n s old new call given reply was by)
