-- A call on the book is one step of the world.
use Rattle.std.proofs.Common.{◌≡◌, ◌⊎◌, inl, inr, ℕ, ◌+◌, ◌≤◌, ◌<◌, List, [], ◌∷◌, ◌++◌, length, true, false, Bool, Option, None, Some, refl, sym, ap, ◌∙◌, ⊎_elim, arith}
use Rattle.std.specs.Option.{option_map_or}
use Rattle.std.specs.Prelude.{◌↔◌, ◌&&◌, nat_lt, if◌then◌else◌}
use Rattle.std.proofs.lemmas.Bool.{lt-ltb, le-ltb}
use Rattle.snap_path.specs.Memory.{no_memory}
use Rattle.snap_call.specs.declared.call.Call.{Call}
use Rattle.snap_call.specs.declared.call.Given.{Given}
use Rattle.snap_call.specs.declared.refusal.Refusal.{Refusal}
use Rattle.snap_call.specs.declared.refusal.Refusal.TheVariants.{JournalFull, OutOfMemory}
use Rattle.snap_call.specs.declared.reply.Reply.{Reply}
use Rattle.snap_call.specs.declared.reply.Reply.TheVariants.{Refused}
use Rattle.snap_call.specs.Journal.{call_entry}
use Rattle.snap_call.specs.Records.{open_count}
use Rattle.snap_call.specs.Step.{step}
use Rattle.snap_book.specs.Active.{ActiveValue}
use Rattle.snap_book.specs.Book.{BookValue, Recorded, AnsweredBy}
use Rattle.snap_world.specs.declared.step.Answer.{Answer}
use Rattle.snap_world.specs.declared.step.Answer.TheVariants as answers
use Rattle.snap_world.specs.World.{HandValue, WorldValue, hand_at, with_hand, world_of}
use Rattle.snap_world.specs.declared.step.Step.TheVariants as steps
use Rattle.snap_world.specs.Move.{admitted, called, charged, charged_hand, is_full, is_its_session, is_under, is_working, meets, move, on_hand, recorded}
use Rattle.snap_world.proofs.Ends.{Ends, ends}
use Rattle.snap_world.proofs.Places.{with_hand-twice, with_hand-again}

-- the call on the hand that stands there
abbrev pub on_found : WorldValue → (HandValue → Bool) → (HandValue → WorldValue × Answer) → Option HandValue → WorldValue × Answer
on_found w test next o = option_map_or (λ h. if test h then next h else (w, answers.NoHand)) o (w, answers.NoHand)

-- the hand that meets the test
pub found : (w : WorldValue) (slot : ℕ) (test : HandValue → Bool) (next : HandValue → WorldValue × Answer) (h : HandValue) → hand_at slot w.hands ≡ Some h → test h ≡ true → on_hand w slot test next ≡ next h
found w slot test next h e t = ap (λ (o : Option HandValue). on_found w test next o) e ∙ ap (λ (b : Bool). if b then next h else (w, answers.NoHand)) t

missed_at : (w : WorldValue) (test : HandValue → Bool) (next : HandValue → WorldValue × Answer) (o : Option HandValue) → meets test o ≡ false → on_found w test next o ≡ (w, answers.NoHand)
missed_at w test next None e = refl
missed_at w test next (Some h) e = ap (λ (b : Bool). if b then next h else (w, answers.NoHand)) e

-- no such hand
pub missed : (w : WorldValue) (slot : ℕ) (test : HandValue → Bool) (next : HandValue → WorldValue × Answer) → meets test (hand_at slot w.hands) ≡ false → on_hand w slot test next ≡ (w, answers.NoHand)
missed w slot test next e = missed_at w test next (hand_at slot w.hands) e

pub not_lt : (a b : ℕ) → ((a < b) → ⊥) → nat_lt a b ≡ false
not_lt a b h = le-ltb a b (omega (arith, h))

-- a recorded call, as the world has it
pub records : (old new : BookValue) (hands after : List (Option HandValue)) (n : ℕ) (call : Call) (given : Given) (f : Reply → List (Option HandValue)) (reply : Reply) → Recorded old new n call given reply → after ≡ f reply
    → recorded (world_of old hands) n call given f ≡ (world_of new after, answers.Reply reply)
records old new hands after n call given f reply r is =
    let journal : old.journal ++ call_entry n call given (step old.state call given).1 ∷ [] ≡ new.journal = ap (λ (a : Reply). old.journal ++ call_entry n call given a ∷ []) (sym r.answer) ∙ sym r.journal in
    let left : f (step old.state call given).1 ≡ after = ap f (sym r.answer) ∙ sym is in
    λ i. (record { state = sym r.state i; journal = journal i; opening = sym r.opening i; limit = sym r.limit i; hands = left i }, answers.Reply (sym r.answer i))

no_want : Refused (OutOfMemory no_memory) ≡ Refused JournalFull → ⊥
no_want e = cc

-- the call is let in or not, is recorded, or wants memory
pub admits : (old new : BookValue) (hands after left : List (Option HandValue)) (more n : ℕ) (call : Call) (given : Given) (f : Reply → List (Option HandValue)) (reply : Reply) → Ends old new n call given reply
    → (reply ≡ Refused JournalFull) ↔ (old.limit < length old.journal + open_count old.state.records + more) → after ≡ f reply → f (Refused JournalFull) ≡ left
    → (admitted (world_of old hands) more left (recorded (world_of old hands) n call given f) ≡ (world_of new after, answers.Reply reply)) ⊎ ((reply ≡ Refused (OutOfMemory no_memory)) × (is_full (world_of old hands) more ≡ false) × (new ≡ old))
admits old new hands after left more n call given f reply (inl h) full is stays =
    inr (h.0, not_lt old.limit (length old.journal + open_count old.state.records + more) (λ lt. no_want (sym h.0 ∙ full.1 lt)), h.1)
admits old new hands after left more n call given f reply (inr (inl h)) full is stays =
    let w = world_of old hands in
    let no : is_full w more ≡ true = lt-ltb old.limit (length old.journal + open_count old.state.records + more) (full.0 h.0) in
    let hold : left ≡ after = sym stays ∙ (ap f (sym h.0) ∙ sym is) in
    inl (ap (λ (b : Bool). if b then (record w { hands = left }, answers.Reply (Refused JournalFull)) else recorded w n call given f) no
    ∙ (λ i. (world_of (sym h.1 i) (hold i), answers.Reply (sym h.0 i))))
admits old new hands after left more n call given f reply (inr (inr h)) full is stays =
    let w = world_of old hands in
    let yes : is_full w more ≡ false = not_lt old.limit (length old.journal + open_count old.state.records + more) (λ lt. h.1 (full.1 lt)) in
    inl (ap (λ (b : Bool). if b then (record w { hands = left }, answers.Reply (Refused JournalFull)) else recorded w n call given f) yes
    ∙ records old new hands after n call given f reply h.0 is)

-- where the session is the call's, the call is the step
pub in_session : (w : WorldValue) (n : ℕ) (call : Call) (next : WorldValue × Answer) → is_its_session w.state.sessions n call ≡ true → called w n call ≡ next → move w (steps.Locked n call) ≡ next
in_session w n call next own e = ap (λ (b : Bool). if b then called w n call else (w, answers.NoSession)) own ∙ e

-- a charge or a trim on the hand that was taken out
pub charges : (old new : BookValue) (hands out after : List (Option HandValue)) (slot n id : ℕ) (call : Call) (given : HandValue → Given) (a b : ActiveValue) (reply : Reply)
    → hand_at slot hands ≡ Some (record { snapshot = a; sealed = false }) → is_under id (record { snapshot = a; sealed = false }) ≡ true
    → AnsweredBy old new n call (given (record { snapshot = a; sealed = false })) reply → b ≡ charged a reply → (reply ≡ Refused JournalFull) ↔ (old.limit ≤ length old.journal + open_count old.state.records)
    → out ≡ with_hand slot None hands → after ≡ with_hand slot (Some (record { snapshot = b; sealed = false })) out
    → (on_hand (world_of old hands) slot (is_working id) (λ h. admitted (world_of old hands) 1 hands (recorded (world_of old hands) n call (given h) (λ r. with_hand slot (charged_hand h r) hands))) ≡ (world_of new after, answers.Reply reply))
    ⊎ ((answers.Reply reply ≡ answers.Reply (Refused (OutOfMemory no_memory))) × ((meets (is_working id) (hand_at slot hands) ≡ true) × (is_full (world_of old hands) 1 ≡ false) × (world_of new after ≡ world_of old hands)))
charges old new hands out after slot n id call given a b reply at under answered is full gone back =
    let h : HandValue = record { snapshot = a; sealed = false } in
    let f : Reply → List (Option HandValue) = λ r. with_hand slot (charged_hand h r) hands in
    let left : after ≡ f reply = back ∙ (ap (λ (l : List (Option HandValue)). with_hand slot (Some (record { snapshot = b; sealed = false })) l) gone
    ∙ (with_hand-twice slot None (Some (record { snapshot = b; sealed = false })) hands ∙ ap (λ (v : ActiveValue). with_hand slot (Some (record { snapshot = v; sealed = false })) hands) is)) in
    let same : (why : Refusal) → f (Refused why) ≡ hands = λ why. with_hand-again slot (Some h) hands at in
    let full_here : (reply ≡ Refused JournalFull) ↔ (old.limit < length old.journal + open_count old.state.records + 1) = (λ e. (let p = full.0 e in omega arith), λ lt. full.1 (omega (arith, lt))) in
    ⊎_elim
    (λ e. inl (found (world_of old hands) slot (is_working id) _ h at (ap (λ (t : Bool). t && true) under) ∙ e))
    (λ e. inr (ap answers.Reply e.0, (ap (meets (is_working id)) at ∙ ap (λ (t : Bool). t && true) under, e.1, λ i. world_of (e.2 i) ((left ∙ (ap f e.0 ∙ same (OutOfMemory no_memory))) i))))
    (admits old new hands after hands 1 n call (given h) f reply (ends old new n call (given h) reply answered) full_here left (same JournalFull))
