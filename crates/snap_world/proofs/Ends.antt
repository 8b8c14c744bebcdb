-- How a call on the book ends.
use Rattle.std.proofs.Common.{◌≡◌, ◌⊎◌, inl, inr, ℕ, refl}
use Rattle.snap_path.specs.Memory.{no_memory}
use Rattle.snap_call.specs.declared.call.Call.{Call}
use Rattle.snap_call.specs.declared.call.Given.{Given}
use Rattle.snap_call.specs.declared.refusal.Refusal.{Refusal}
use Rattle.snap_call.specs.declared.refusal.Refusal.TheVariants.{JournalFull, OutOfMemory}
use Rattle.snap_call.specs.declared.reply.Reply.{Reply}
use Rattle.snap_call.specs.declared.reply.Reply.TheVariants.{Refused}
use Rattle.snap_book.specs.Book.{BookValue, Recorded, RefusedBy, AnsweredBy}

-- want of memory or a full journal, and the book is as it was; or a recorded reply
abbrev pub Ends : BookValue → BookValue → ℕ → Call → Given → Reply → Type 0
Ends old new n call given reply =
    ((reply ≡ Refused (OutOfMemory no_memory)) × (new ≡ old)) ⊎ (((reply ≡ Refused JournalFull) × (new ≡ old)) ⊎ (Recorded old new n call given reply × ((reply ≡ Refused JournalFull) → ⊥)))

ends_refused : (old new : BookValue) (n : ℕ) (call : Call) (given : Given) (why : Refusal) → RefusedBy old new n call given why → Ends old new n call given (Refused why)
ends_refused old new n call given JournalFull h = inr (inl (refl, h))
ends_refused old new n call given (OutOfMemory want) h = inl (refl, h)
ends_refused old new n call given why h = inr (inr (h, λ e. absurd (cc)))

pub ends : (old new : BookValue) (n : ℕ) (call : Call) (given : Given) (reply : Reply) → AnsweredBy old new n call given reply → Ends old new n call given reply
ends old new n call given (Refused why) h = ends_refused old new n call given why h
ends old new n call given reply h = inr (inr (h, λ e. absurd (cc)))
