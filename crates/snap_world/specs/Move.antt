-- What one step answers, and the world after it. The cases of each call stand in the order in which they are tested.
use Rattle.std.specs.Prelude.{ℕ, ◌+◌, ◌==◌, Bool, true, false, not, ◌&&◌, nat_lt, if◌then◌else◌, List, [], ◌∷◌, ◌++◌, length, Option, None, Some, Ok, Err}
use Rattle.std.specs.Option.{option_map, option_map_or}
use Rattle.snap_usage.specs.declared.usage.Usage.{Usage}
use Rattle.snap_usage.specs.Counted.{count_of}
use Rattle.snap_record.specs.Labels.{Bytes}
use Rattle.snap_record.specs.declared.record.Record.{Record}
use Rattle.snap_call.specs.declared.call.Call.{Call}
use Rattle.snap_call.specs.declared.call.Call.TheVariants as calls
use Rattle.snap_call.specs.declared.call.Given.{Given}
use Rattle.snap_call.specs.declared.call.Given.TheVariants.{Nothing, Count, Layer}
use Rattle.snap_call.specs.declared.refusal.Refusal.TheVariants.{NumbersSpent, JournalFull}
use Rattle.snap_call.specs.declared.reply.Reply.{Reply}
use Rattle.snap_call.specs.declared.reply.Reply.TheVariants as replies
use Rattle.snap_call.specs.Journal.{call_entry}
use Rattle.snap_call.specs.Records.{open_count, max_sessions}
use Rattle.snap_call.specs.State.{place_of, ancestors, layers_of}
use Rattle.snap_call.specs.Step.{step, one}
use Rattle.snap_upper.specs.After.{Outcome}
use Rattle.snap_book.specs.Active.{ActiveValue, fresh}
use Rattle.snap_book.specs.Files.{worked}
use Rattle.snap_world.specs.declared.step.Step.{Step}
use Rattle.snap_world.specs.declared.step.Step.TheVariants as steps
use Rattle.snap_world.specs.declared.step.Answer.{Answer}
use Rattle.snap_world.specs.declared.step.Answer.TheVariants as answers
use Rattle.snap_world.specs.World.{HandValue, WorldValue, hand_at, with_hand}

-- ---- hands after a call, by its reply

-- the usage of the share after a charge or a trim
abbrev pub usage_after : ActiveValue → Reply → Usage
usage_after a (replies.Charged now) = now
usage_after a replies.Trimmed = count_of a.layer
usage_after a reply = a.share.usage

-- the snapshot after a charge or a trim
abbrev pub charged : ActiveValue → Reply → ActiveValue
charged a reply = record { namespace = a.namespace; key = a.key; lowers = a.lowers; layer = a.layer; share = record { slot = a.share.slot; id = a.share.id; usage = usage_after a reply } }

-- the hand after a charge or a trim
abbrev pub charged_hand : HandValue → Reply → Option HandValue
charged_hand h reply = Some (record { snapshot = charged h.snapshot reply; sealed = h.sealed })

-- the hand of a sealed snapshot
abbrev pub sealed_hand : ActiveValue → HandValue
sealed_hand a = record { snapshot = a; sealed = true }

-- a commit takes the hand; where it is refused, the hand stays, sealed
abbrev pub committed_hand : ActiveValue → Reply → Option HandValue
committed_hand a (replies.Committed id usage) = None
committed_hand a reply = Some (sealed_hand a)

-- the hand of a new snapshot in the namespace at a place: the layers of its committed ancestors, a layer of a root alone over them, of at most `inodes` inodes, and a share of 1/1
abbrev pub new_hand : ℕ → Bytes → Bytes → List Record → ℕ → ℕ → ℕ → HandValue
new_hand inodes key parent rs id slot place =
    let lowers = layers_of (ancestors place parent rs) in
    record { snapshot = record { namespace = place; key = key; lowers = lowers; layer = fresh inodes lowers; share = record { slot = slot; id = id; usage = one } }; sealed = false }

-- the hands after a prepare of the key, on the parent, in the namespace at a place; the records are those before it
abbrev pub with_prepared : ℕ → Option ℕ → Bytes → Bytes → List Record → List (Option HandValue) → Reply → List (Option HandValue)
with_prepared inodes place key parent rs hands (replies.Prepared id slot chain) = with_hand slot (option_map (new_hand inodes key parent rs id slot) place) hands
with_prepared inodes place key parent rs hands reply = hands

-- ---- calls

-- Session: its number is that of the sessions so far; any other call: its session is open
abbrev pub is_its_session : ℕ → ℕ → Call → Bool
is_its_session sessions n calls.Session = n == sessions
is_its_session sessions n call = nat_lt n sessions

-- the call on the hand of the slot, where one stands there that meets the test
abbrev pub on_hand : WorldValue → ℕ → (HandValue → Bool) → (HandValue → WorldValue × Answer) → WorldValue × Answer
on_hand w slot test next = option_map_or (λ h. if test h then next h else (w, answers.NoHand)) (hand_at slot w.hands) (w, answers.NoHand)

-- whether a hand stands there that meets the test
abbrev pub meets : (HandValue → Bool) → Option HandValue → Bool
meets test o = option_map_or test o false

-- the hand of the snapshot of this id
abbrev pub is_under : ℕ → HandValue → Bool
is_under id h = h.snapshot.share.id == id

-- its layer may change
abbrev pub is_unsealed : HandValue → Bool
is_unsealed h = not h.sealed

abbrev pub is_working : ℕ → HandValue → Bool
is_working id h = is_under id h && is_unsealed h

-- beside an entry for each open snapshot's end the journal has no room for `more` more
abbrev pub is_full : WorldValue → ℕ → Bool
is_full w more = nat_lt w.limit (length w.journal + open_count w.state.records + more)

-- JournalFull, with the hands that it leaves
abbrev pub admitted : WorldValue → ℕ → List (Option HandValue) → WorldValue × Answer → WorldValue × Answer
admitted w more left next = if is_full w more then (record w { hands = left }, answers.Reply (replies.Refused JournalFull)) else next

-- one step of the store with its entry, and the hands after it
abbrev pub recorded : WorldValue → ℕ → Call → Given → (Reply → List (Option HandValue)) → WorldValue × Answer
recorded w n call given hands =
    let after = step w.state call given in
    (record { state = after.0; journal = w.journal ++ call_entry n call given after.1 ∷ []; opening = w.opening; limit = w.limit; hands = hands after.1 }, answers.Reply after.1)

-- a call in its session; after 65,536 sessions a further one is refused, without an entry
abbrev pub called : WorldValue → ℕ → Call → WorldValue × Answer
called w n calls.Session =
    admitted w 1 w.hands (if nat_lt w.state.sessions max_sessions then recorded w n calls.Session Nothing (λ reply. w.hands) else (w, answers.Reply (replies.Refused NumbersSpent)))
called w n (calls.Prepare namespace key parent labels) =
    admitted w 2 w.hands (recorded w n (calls.Prepare namespace key parent labels) Nothing (with_prepared w.state.layer_inodes (place_of namespace w.state.namespaces) key parent w.state.records w.hands))
called w n (calls.Charge slot id need want) =
    on_hand w slot (is_working id) (λ h. admitted w 1 w.hands
    (recorded w n (calls.Charge slot id need want) Nothing (λ reply. with_hand slot (charged_hand h reply) w.hands)))
called w n (calls.Trim slot id) =
    on_hand w slot (is_working id) (λ h. admitted w 1 w.hands
    (recorded w n (calls.Trim slot id) (Count (count_of h.snapshot.layer)) (λ reply. with_hand slot (charged_hand h reply) w.hands)))
called w n (calls.Commit slot id name lease labels) =
    on_hand w slot (is_under id) (λ h. admitted w 1 (with_hand slot (Some (sealed_hand h.snapshot)) w.hands)
    (recorded w n (calls.Commit slot id name lease labels) (Layer h.snapshot.layer) (λ reply. with_hand slot (committed_hand h.snapshot reply) w.hands)))
called w n (calls.Discard slot id) =
    on_hand w slot (is_under id) (λ h. recorded w n (calls.Discard slot id) Nothing (λ reply. with_hand slot None w.hands))
called w n call = admitted w 1 w.hands (recorded w n call Nothing (λ reply. w.hands))

-- ---- operations

-- the hand's layer becomes the next one; an error leaves the world
abbrev pub with_outcome : WorldValue → ℕ → HandValue → Outcome → WorldValue × Answer
with_outcome w slot h (Ok next) =
    (record w { hands = with_hand slot (Some (record { snapshot = record { namespace = h.snapshot.namespace; key = h.snapshot.key; lowers = h.snapshot.lowers; layer = next; share = h.snapshot.share }; sealed = h.sealed })) w.hands }, answers.File (Ok tt))
with_outcome w slot h (Err e) = (w, answers.File (Err e))

-- ---- one step

abbrev pub move : WorldValue → Step → WorldValue × Answer
move w (steps.Locked n call) = if is_its_session w.state.sessions n call then called w n call else (w, answers.NoSession)
move w (steps.Hand slot op) = on_hand w slot is_unsealed (λ h. with_outcome w slot h (worked op h.snapshot.share.usage h.snapshot.layer h.snapshot.lowers))
