-- What a call leaves on its session's tape, by what it left in the book.
use Rattle.std.specs.Prelude.{if◌then◌else◌, Bool}
use Rattle.std.proofs.Common.{◌≡◌, ℕ, ◌<◌, List, [], ◌∷◌, ◌++◌, Option, None, sym, ap, ◌∙◌, subst, arith}
use Rattle.snap_call.specs.declared.call.Call.{Call}
use Rattle.snap_call.specs.declared.call.Given.{Given}
use Rattle.snap_call.specs.declared.entry.Entry.{Entry}
use Rattle.snap_call.specs.declared.refusal.Refusal.{Refusal}
use Rattle.snap_call.specs.declared.refusal.Refusal.TheVariants.{JournalFull, OutOfMemory}
use Rattle.snap_call.specs.declared.reply.Reply.{Reply}
use Rattle.snap_call.specs.declared.reply.Reply.TheVariants.{Refused}
use Rattle.snap_call.specs.Journal.{call_entry}
use Rattle.snap_book.specs.Book.{AnsweredBy, BookValue, Recorded, RefusedBy}
use Rattle.snap_tape.specs.Tapes.{AnsweredOn, RefusedOn, SessionValue, Taped, Untaped, is_noted, is_recorded, session_with_entry}

-- a recorded call
pub taped : (old mid : SessionValue) (b after : BookValue) (call : Call) (given : Given) (reply : Reply) (e : Option Entry) → Untaped old mid → 0 < mid.spare → Recorded b after mid.number call given reply → e ≡ after.copy → Taped old (session_with_entry mid e) call given reply
taped old mid b after call given reply e same room recorded is =
    subst (λ o. Taped old (session_with_entry mid o) call given reply) (sym (is ∙ recorded.copy))
    (record {
      number = same.number;
      tape = ap (λ (l : List Entry). l ++ call_entry mid.number call given reply ∷ []) same.tape ∙ ap (λ n. old.tape ++ call_entry n call given reply ∷ []) same.number;
      spare = omega (arith, same.spare, room);
    })

-- a call without an entry
untaped : (old mid : SessionValue) (e : Option Entry) → Untaped old mid → e ≡ None → Untaped old (session_with_entry mid e)
untaped old mid e same is = subst (λ o. Untaped old (session_with_entry mid o)) (sym is) same

refused_on : (old mid : SessionValue) (b after : BookValue) (call : Call) (given : Given) (why : Refusal) (e : Option Entry) → Untaped old mid → 0 < mid.spare → RefusedBy b after mid.number call given why
    → e ≡ (if is_recorded why then after.copy else None) → RefusedOn old (session_with_entry mid e) call given why
refused_on old mid b after call given JournalFull e same room by is = untaped old mid e same is
refused_on old mid b after call given (OutOfMemory want) e same room by is = untaped old mid e same is
refused_on old mid b after call given why e same room by is = taped old mid b after call given (Refused why) e same room by is

pub answered_on : (old mid : SessionValue) (b after : BookValue) (call : Call) (given : Given) (reply : Reply) (e : Option Entry) → Untaped old mid → 0 < mid.spare → AnsweredBy b after mid.number call given reply
    → e ≡ (if is_noted reply then after.copy else None) → AnsweredOn old (session_with_entry mid e) call given reply
answered_on old mid b after call given (Refused why) e same room by is = refused_on old mid b after call given why e same room by is
answered_on old mid b after call given reply e same room by is = taped old mid b after call given reply e same room by is

-- a refused call, by what was found of the refusal
pub refused_noted : (old mid now : SessionValue) (b after : BookValue) (n : ℕ) (call : Call) (given : Given) (why : Refusal) (t : Bool) → Untaped old mid → 0 < mid.spare → n ≡ mid.number → RefusedBy b after n call given why → t ≡ is_recorded why
    → now ≡ session_with_entry mid (if t then after.copy else None) → RefusedOn old now call given why
refused_noted old mid now b after n call given why t same room number by is noted =
    let at = subst (λ (n : ℕ). RefusedBy b after n call given why) number by in
    subst (λ (s : SessionValue). RefusedOn old s call given why) (sym noted)
    (refused_on old mid b after call given why (if t then after.copy else None) same room at (ap (λ (t : Bool). if t then after.copy else None) is))
