-- Which replies the plain calls have.
use Rattle.std.specs.Prelude.{if◌then◌else◌, Bool, true, false}
use Rattle.std.specs.Option.{option_map_or}
use Rattle.std.proofs.Common.{ℕ, List, Option, None, Some, sym, subst}
use Rattle.snap_record.specs.Labels.{Bytes, Label}
use Rattle.snap_call.specs.declared.call.Call.{Call}
use Rattle.snap_call.specs.declared.call.Call.TheVariants as calls
use Rattle.snap_call.specs.declared.call.Given.TheVariants.{Nothing}
use Rattle.snap_call.specs.declared.refusal.Refusal.{Refusal}
use Rattle.snap_call.specs.declared.reply.Reply.{Reply}
use Rattle.snap_call.specs.declared.reply.Reply.TheVariants as replies
use Rattle.snap_call.specs.declared.state.State.{State}
use Rattle.snap_call.specs.Step.{step}
use Rattle.snap_accounts.specs.Entries.{IsPlain}
use Rattle.snap_book.specs.Book.{AnsweredBy, BookValue}
use Rattle.snap_store.specs.Replies.{IsReplyTo}

-- `IsReplyTo` as one fact, which a search can match before it knows the reply
record Fits (call : Call) (reply : Reply) : Type 0 where
  fits : IsReplyTo call reply

refusal_fits : (call : Call) (why : Refusal) → Fits call (replies.Refused why)
refusal_fits call why = record { fits = of call }
  where
    of : (call : Call) → IsReplyTo call (replies.Refused why)
    of (calls.Stat namespace key) = tt
    of call = tt

view_fits : (namespace key parent : Bytes) (labels : List Label) (reply : Reply) → Fits (calls.View namespace key parent labels) reply
view_fits namespace key parent labels reply = record { fits = of reply }
  where
    of : (reply : Reply) → IsReplyTo (calls.View namespace key parent labels) reply
    of (replies.Refused why) = tt
    of reply = tt

-- ---- a test of a call: what has to be, or what must not be; what was found or not; a test of a reply alone

must : {call : Call} (b : Bool) (next : State × Reply) (s : State) (why : Refusal) → Fits call next.1 → Fits call (if b then next else (s, replies.Refused why)).1
must true next s why fits = fits
must {call} false next s why fits = refusal_fits call why

must_not : {call : Call} (b : Bool) (next : State × Reply) (s : State) (why : Refusal) → Fits call next.1 → Fits call (if b then (s, replies.Refused why) else next).1
must_not {call} true next s why fits = refusal_fits call why
must_not false next s why fits = fits

found : {call : Call} (A : Type 0) (o : Option A) (next : A → State × Reply) (s : State) (why : Refusal) → ((a : A) → Fits call (next a).1) → Fits call (option_map_or next o (s, replies.Refused why)).1
found {call} A None next s why fits = refusal_fits call why
found A (Some a) next s why fits = fits a

shown : {call : Call} (b : Bool) (why : Refusal) (reply : Reply) → Fits call reply → Fits call (if b then replies.Refused why else reply)
shown {call} true why reply fits = refusal_fits call why
shown false why reply fits = fits

-- ---- all calls

step_fits : (s : State) (call : Call) → IsPlain call → Fits call (step s call Nothing).1
step_fits s (calls.View namespace key parent labels) plain = view_fits namespace key parent labels _
step_fits s call plain = search (must, must_not, found, shown) depth 8

pub reply_to : (b after : BookValue) (n : ℕ) (call : Call) (reply : Reply) → IsPlain call → AnsweredBy b after n call Nothing reply → IsReplyTo call reply
reply_to b after n call (replies.Refused why) plain by = (refusal_fits call why).fits
reply_to b after n call reply plain by = subst (IsReplyTo call) (sym by.answer) (step_fits b.state call plain).fits
