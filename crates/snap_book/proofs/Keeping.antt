-- What a recorded call keeps.
use Rattle.std.proofs.Common.{◌≡◌, ℕ, ◌+◌, ◌<◌, ◌≤◌, ◌^◌, List, [], ◌∷◌, ◌++◌, length, Option, None, Some, refl, sym, ap, ◌∙◌, subst, arith, length-append}
use Rattle.snap_call.specs.declared.entry.Entry.{Entry}
use Rattle.snap_call.specs.declared.reply.Reply.{Reply}
use Rattle.snap_call.specs.declared.state.State.{State}
use Rattle.snap_call.specs.Good.{Good}
use Rattle.snap_call.specs.Journal.{Replays}
use Rattle.snap_call.specs.Records.{open_count, max_sessions}
use Rattle.snap_call.specs.Step.{step, IsAllowed}
use Rattle.snap_call.specs.declared.call.Call.{Call}
use Rattle.snap_call.specs.declared.call.Given.{Given}
use Rattle.snap_call.specs.declared.refusal.Refusal.{Refusal}
use Rattle.snap_call.specs.declared.refusal.Refusal.TheVariants.{NumbersSpent, JournalFull, OutOfMemory}
use Rattle.snap_call.specs.declared.reply.Reply.TheVariants.{Opened, Refused}
use Rattle.snap_call.specs.declared.call.Call.TheVariants as calls
use Rattle.snap_call.specs.declared.call.Given.TheVariants.{Nothing}
use Rattle.std.proofs.Common.{Bool}
use Rattle.std.proofs.lemmas.Bool.{lt-ltb}
use Rattle.std.specs.Prelude.{if◌then◌else◌}
use Rattle.snap_accounts.specs.Entries.{IsPlain, IsRecorded}
use Rattle.snap_book.specs.Book.{JournalValue, BookValue, IsBeginning, IsLast, Kept, Recorded, RefusedBy}
use Rattle.snap_call.proofs.AsMany.{Replays-slots}
use Rattle.snap_call.proofs.Replaying.{replays_step, step-entries}

-- a call that is recorded: j has room made as m, and then the entry as k
pub kept_push : (s t : State) (j m k : JournalValue) (e x : Entry) → Kept s j → m ≡ record j { room = m.room } → k ≡ record m { entries = m.entries ++ x ∷ []; copy = Some x; room = k.room } → x ≡ e
    → IsAllowed s e.call e.given → step s e.call e.given ≡ (t, e.reply) → length m.entries + open_count t.records + 1 ≤ m.limit → open_count t.records ≤ k.room → Kept t k
kept_push s t j m k e x kept made pushed is allowed moved below room =
    let counted : t.entries ≡ s.entries + 1 = ap (λ (p : State × Reply). p.0.entries) (sym moved) ∙ step-entries s e.call e.given allowed in
    let entries : k.entries ≡ j.entries ++ e ∷ [] = ap (λ (v : JournalValue). v.entries) pushed ∙ (λ i. (made i).entries ++ is i ∷ []) in
    let opening : k.opening ≡ j.opening = ap (λ (v : JournalValue). v.opening) pushed ∙ ap (λ (v : JournalValue). v.opening) made in
    let limit : k.limit ≡ m.limit = ap (λ (v : JournalValue). v.limit) pushed in
    let limit_made : m.limit ≡ j.limit = ap (λ (v : JournalValue). v.limit) made in
    let longer : length k.entries ≡ length (m.entries ++ x ∷ []) = ap (λ (v : JournalValue). length v.entries) pushed in
    let longer_made : length k.entries ≡ length (j.entries ++ e ∷ []) = ap (λ (l : List Entry). length l) entries in
    let began : k.opening.entries ≡ j.opening.entries = ap (λ (o : State). o.entries) opening in
    let replays : Replays j.opening (j.entries ++ e ∷ []) t = replays_step j.opening j.entries s t e kept.replays allowed moved in
    record {
      began = subst IsBeginning (sym opening) kept.began;
      replays = subst (λ (l : List Entry). Replays k.opening l t) (sym entries) (subst (λ (o : State). Replays o (j.entries ++ e ∷ []) t) (sym opening) replays);
      last = subst (λ (v : JournalValue). IsLast v.copy v.entries) (sym pushed) (m.entries, refl);
      below = omega (arith, length-append m.entries (x ∷ []), longer, limit, below);
      room = room;
      numbered = omega (arith, length-append j.entries (e ∷ []), longer_made, counted, began, kept.numbered);
      numbers = omega (arith, began, limit, limit_made, kept.numbers);
    }

-- and the call is recorded so
pub recorded_push : (old : BookValue) (s t : State) (j m k : JournalValue) (e x : Entry) → record { state = s; journal = j.entries; opening = j.opening; limit = j.limit; copy = j.copy } ≡ old → m ≡ record j { room = m.room }
    → k ≡ record m { entries = m.entries ++ x ∷ []; copy = Some x; room = k.room } → x ≡ e → IsAllowed s e.call e.given → step s e.call e.given ≡ (t, e.reply)
    → Recorded old (record { state = t; journal = k.entries; opening = k.opening; limit = k.limit; copy = k.copy }) e.session e.call e.given e.reply
recorded_push old s t j m k e x is_old made pushed is allowed moved =
    let state : s ≡ old.state = ap (λ (b : BookValue). b.state) is_old in
    record {
      allowed = subst (λ (u : State). IsAllowed u e.call e.given) state allowed;
      state = ap (λ (p : State × Reply). p.0) (sym moved) ∙ ap (λ (u : State). (step u e.call e.given).0) state;
      answer = ap (λ (p : State × Reply). p.1) (sym moved) ∙ ap (λ (u : State). (step u e.call e.given).1) state;
      journal = ap (λ (v : JournalValue). v.entries) pushed ∙ ((λ i. (made i).entries ++ is i ∷ []) ∙ ap (λ (b : BookValue). b.journal ++ e ∷ []) is_old);
      opening = ap (λ (v : JournalValue). v.opening) pushed ∙ (ap (λ (v : JournalValue). v.opening) made ∙ ap (λ (b : BookValue). b.opening) is_old);
      limit = ap (λ (v : JournalValue). v.limit) pushed ∙ (ap (λ (v : JournalValue). v.limit) made ∙ ap (λ (b : BookValue). b.limit) is_old);
      copy = ap (λ (v : JournalValue). v.copy) pushed ∙ ap (λ (y : Entry). Some y) is;
    }

-- a journal without entries, with an entry left for the end of each open snapshot
pub kept_open : (s : State) (j : JournalValue) → j.entries ≡ [] → j.copy ≡ None → j.opening ≡ s → Good s → s.sessions ≡ 0 → open_count s.records ≤ j.limit → open_count s.records ≤ j.room → s.entries + j.limit ≤ 2 ^ 62 → Kept s j
kept_open s j none no_copy began good sessions below room numbers =
    let empty : length j.entries ≡ 0 = ap (λ (l : List Entry). length l) none in
    let same : j.opening.entries ≡ s.entries = ap (λ (o : State). o.entries) began in
    record {
      began = subst IsBeginning (sym began) (record { good = good; sessions = sessions });
      replays = subst (λ (l : List Entry). Replays j.opening l s) (sym none) (sym began);
      last = subst (λ (c : Option Entry). IsLast c j.entries) (sym no_copy) tt;
      below = omega (arith, empty, below);
      room = room;
      numbered = omega (arith, empty, same);
      numbers = omega (arith, same, numbers);
    }

-- a refusal that is recorded, as the typed calls say it
pub refused_by : (why : Refusal) (old new : BookValue) (n : ℕ) (call : Call) (given : Given) → IsRecorded why → Recorded old new n call given (Refused why) → RefusedBy old new n call given why
refused_by JournalFull old new n call given h r = absurd (h tt)
refused_by (OutOfMemory want) old new n call given h r = absurd (h tt)
refused_by why old new n call given h r = r

-- one session more
pub session_step : (s t : State) → s.sessions < max_sessions → t ≡ record s { sessions = s.sessions + 1; entries = s.entries + 1 } → step s calls.Session Nothing ≡ (t, Opened)
session_step s t few is =
    ap (λ (b : Bool). if b then (record s { sessions = s.sessions + 1; entries = s.entries + 1 }, Opened) else (s, Refused NumbersSpent)) (lt-ltb s.sessions max_sessions few)
    ∙ (λ i. (sym is i, Opened))

-- a plain call is allowed
pub plain_allowed : (s : State) (call : Call) → IsPlain call → IsAllowed s call Nothing
plain_allowed s calls.Session plain = absurd plain
plain_allowed s (calls.Charge slot id need want) plain = absurd plain
plain_allowed s (calls.Trim slot id) plain = absurd plain
plain_allowed s (calls.Commit slot id name lease labels) plain = absurd plain
plain_allowed s (calls.Discard slot id) plain = absurd plain
plain_allowed s call plain = tt

-- a round leaves the store as many slots as it began with
pub kept_slots : (s : State) (j : JournalValue) → Kept s j → s.slots ≡ j.opening.slots
kept_slots s j kept = Replays-slots j.opening j.entries s kept.replays
