-- No call changes the round of a book.
use Rattle.std.proofs.Common.{◌≡◌, ℕ, ap}
use Rattle.snap_call.specs.declared.call.Call.{Call}
use Rattle.snap_call.specs.declared.call.Given.{Given}
use Rattle.snap_call.specs.declared.refusal.Refusal.{Refusal}
use Rattle.snap_call.specs.declared.refusal.Refusal.TheVariants.{JournalFull, OutOfMemory}
use Rattle.snap_call.specs.declared.reply.Reply.{Reply}
use Rattle.snap_call.specs.declared.reply.Reply.TheVariants.{Refused}
use Rattle.snap_book.specs.Book.{AnsweredBy, BookValue, Recorded, RefusedBy}
use Rattle.snap_store.specs.Rounds.{round_of}

pub recorded_round : (old new : BookValue) (n : ℕ) (call : Call) (given : Given) (reply : Reply) → Recorded old new n call given reply → round_of new ≡ round_of old
recorded_round old new n call given reply r = λ i. record { opening = r.opening i; limit = r.limit i }

pub refused_round : (old new : BookValue) (n : ℕ) (call : Call) (given : Given) (why : Refusal) → RefusedBy old new n call given why → round_of new ≡ round_of old
refused_round old new n call given JournalFull by = ap round_of by
refused_round old new n call given (OutOfMemory want) by = ap round_of by
refused_round old new n call given why by = recorded_round old new n call given (Refused why) by

pub answered_round : (old new : BookValue) (n : ℕ) (call : Call) (given : Given) (reply : Reply) → AnsweredBy old new n call given reply → round_of new ≡ round_of old
answered_round old new n call given (Refused why) by = refused_round old new n call given why by
answered_round old new n call given reply by = recorded_round old new n call given reply by
