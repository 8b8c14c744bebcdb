-- What a command of a script answers, and the store after it; cited by the public clauses of `act` and, through Script.antt, of `replay`.
use Rattle.std.specs.Prelude.{ℕ, ◌+◌, nat_lt, Bool, true, false, List, [], ◌∷◌, length, take, drop, Option, None, Some, Result, Ok, Err, if◌then◌else◌}
use Rattle.std.specs.Option.{option_map, option_map_or}
use Rattle.snap_path.specs.Text.{Names}
use Rattle.snap_layer.specs.declared.content.Content.{Content}
use Rattle.snap_layer.specs.declared.content.Content.TheVariants as contents
use Rattle.snap_layer.specs.Tree.{Tree}
use Rattle.snap_usage.specs.declared.usage.Usage.{Usage}
use Rattle.snap_usage.specs.Counted.{no_usage}
use Rattle.snap_merge.specs.declared.error.FsError.TheVariants.{BadPath}
use Rattle.snap_merge.specs.Objects.{Object, dir, file, symlink, seen}
use Rattle.snap_merge.specs.Listing.{listing}
use Rattle.snap_merge.specs.Reading.{reading}
use Rattle.snap_merge.specs.Resolving.{resolution}
use Rattle.snap_merge.specs.Taken.{disk_usage}
use Rattle.snap_upper.specs.declared.op.Op.{Op}
use Rattle.snap_record.specs.Labels.{Bytes}
use Rattle.snap_call.specs.declared.call.Call.TheVariants as calls
use Rattle.snap_call.specs.declared.config.Config.{Config}
use Rattle.snap_call.specs.declared.refusal.Refusal.{Refusal}
use Rattle.snap_call.specs.declared.refusal.Refusal.TheVariants.{BadArgument}
use Rattle.snap_call.specs.declared.reply.Reply.TheVariants as replies
use Rattle.snap_call.specs.declared.state.State.{State}
use Rattle.snap_call.specs.Forms.{bad_field}
use Rattle.snap_call.specs.Kept.{kept as kept_call}
use Rattle.snap_call.specs.Questions.{reply_to}
use Rattle.snap_call.specs.Records.{open_count}
use Rattle.snap_call.specs.Step.{sweep}
use Rattle.snap_book.specs.Questions.{chain_usage}
use Rattle.snap_book.specs.Round.{roll_answer, round_answer}
use Rattle.snap_book.specs.Slot.{slot_and_id_of}
use Rattle.snap_book.specs.Wanted.{wanted_charge}
use Rattle.snap_world.specs.declared.step.Step.{Step}
use Rattle.snap_world.specs.declared.step.Step.TheVariants.{Locked, Hand}
use Rattle.snap_world.specs.declared.step.Answer.{Answer as StepAnswer}
use Rattle.snap_world.specs.declared.step.Answer.TheVariants as step_answers
use Rattle.snap_world.specs.Applied.{is_charged, need_of}
use Rattle.snap_world.specs.World.{WorldValue}
use Rattle.snap_world.specs.Layers.{open_layer_at, with_layer}
use Rattle.snap_world.specs.Move.{move}
use Rattle.snap_world.specs.Stacks.{peeked_of, stack_of}
use Rattle.snap_world.specs.Quota.{layer_count_at}
use Rattle.snap_world.specs.Round.{reopened}
use Rattle.snap_script.specs.declared.answer.Shown.{Shown}
use Rattle.snap_script.specs.declared.answer.Shown.TheVariants as shown
use Rattle.snap_script.specs.declared.answer.RefusedOperation.{RefusedOperation}
use Rattle.snap_script.specs.Refusals.{refusal_in_answer}
use Rattle.snap_script.specs.About.{answer_about, command_answer, subjects}
use Rattle.snap_script.specs.declared.fault.Field.{Field}
use Rattle.snap_script.specs.declared.refused.Refused.{Refused}
use Rattle.snap_script.specs.declared.answer.Answer.{Answer}
use Rattle.snap_script.specs.declared.answer.Answer.TheVariants as answers
use Rattle.snap_script.specs.declared.command.Command.{Command}
use Rattle.snap_script.specs.declared.command.Command.TheVariants as commands
use Rattle.snap_script.specs.declared.command.Lookup.{Lookup}
use Rattle.snap_script.specs.declared.command.Lookup.TheVariants as lookups
use Rattle.snap_session.specs.Found.{found_or_else, refusal_answer}
use Rattle.snap_session.specs.About.{about_operation}
use Rattle.snap_session.specs.Opened.{OpenedValue, new_world, share_at, totals_of}
use Rattle.snap_session.specs.Carried.{carried_of}
use Rattle.snap_session.specs.Diff.{diff}
use Rattle.snap_session.specs.Journal.{journal_of}
use Rattle.snap_session.specs.Leases.{leases}
use Rattle.snap_session.specs.Quota.{quota_answer}
use Rattle.snap_session.specs.Tree.{tree}

-- ---- one step, and its answer

-- the script's answer for that of a step on the slot; counts and shares are those after the step, a session is the one that was asked for
abbrev pub answer_of_step : ℕ → ℕ → WorldValue → StepAnswer → Answer
answer_of_step session slot w (step_answers.Reply replies.Opened) = answers.Session session
answer_of_step session slot w (step_answers.Reply replies.Trimmed) = answers.Share (share_at slot w)
answer_of_step session slot w (step_answers.Reply reply) = answers.Reply reply
answer_of_step session slot w (step_answers.File (Ok done)) = answers.Changed (layer_count_at slot w.hands) (share_at slot w)
answer_of_step session slot w (step_answers.File (Err e)) = answers.Failed e
answer_of_step session slot w step_answers.NoSession = answers.NoSession
answer_of_step session slot w step_answers.NoHand = answers.NoHand

-- the world after a step, and the answer
abbrev pub telling : ℕ → ℕ → WorldValue × StepAnswer → WorldValue × Answer
telling session slot after = (after.0, answer_of_step session slot after.0 after.1)

-- the step as it is made: a call with its texts cut to what the journal keeps of them, by the state, which answers it alike
abbrev pub step_kept : State → Step → Step
step_kept s (Locked session call) = Locked session (kept_call s call)
step_kept s (Hand slot op) = Hand slot op

-- one step, and its answer
abbrev pub stepped : ℕ → ℕ → Step → WorldValue → WorldValue × Answer
stepped session slot step w = telling session slot (move w (step_kept w.state step))

-- what follows, or the refusal; no step is made where it is refused
abbrev pub world_unless_refused : {A : Type 0} → WorldValue → (A → WorldValue × Answer) → Result A Refusal → WorldValue × Answer
world_unless_refused w next found = found_or_else next (λ why. (w, refusal_answer why)) found

-- ---- commands on an active snapshot

-- with the slot and the id of the snapshot of the key, or why there is none
abbrev pub on_key : WorldValue → Bytes → Bytes → (ℕ → ℕ → WorldValue × Answer) → WorldValue × Answer
on_key w namespace key next = world_unless_refused w (λ found. next found.0 found.1) (slot_and_id_of w.state namespace key)

-- ---- file commands

-- after the charge: the operation again, where it was granted
abbrev pub retried : ℕ → ℕ → Step → WorldValue × StepAnswer → WorldValue × Answer
retried session slot operation after = if is_charged after.1 then stepped session slot operation after.0 else telling session slot after

-- after the operation: a charge where one is needed
abbrev pub tried : ℕ → ℕ → ℕ → Step → Usage → WorldValue × StepAnswer → WorldValue × Answer
tried session slot id operation extra after = option_map_or (λ need. retried session slot operation (move after.0 (Locked session (calls.Charge slot id need (wanted_charge need extra)))))
    (need_of after.1) (telling session slot after)

-- the answer of an operation with the field that its refusal is about
abbrev pub operation_answer : Bytes → Bytes → Op → WorldValue × Answer → WorldValue × Answer
operation_answer namespace key op after = (after.0, answer_about (about_operation after.0 namespace key op) after.1)

-- an operation on the snapshot of a key; there is none where the text of a path was no path
unfoldable pub performed : ℕ → Bytes → Bytes → ℕ → ℕ → Result Op Field → Usage → WorldValue → WorldValue × Answer
performed session namespace key slot id (Ok op) extra w = operation_answer namespace key op (tried session slot id (Hand slot op) extra (move w (Hand slot op)))
performed session namespace key slot id (Err field) extra w = (w, answers.Failed BadPath)

-- ---- batches

-- one operation of a batch: as a file command that names no extra amount
abbrev pub operated : ℕ → ℕ → ℕ → Op → WorldValue → WorldValue × Answer
operated session slot id op w = tried session slot id (Hand slot op) no_usage (move w (Hand slot op))

-- how far a batch came, after `done` of its operations
abbrev pub batch_answer : ℕ → ℕ → Option RefusedOperation → WorldValue → Answer
batch_answer slot done stopped w = answers.Batch done (layer_count_at slot w.hands) (share_at slot w) stopped

-- the refusal of the operation of this number, with the field that it is about
abbrev pub refused_operation : Bytes → Bytes → Op → ℕ → WorldValue → Refused → RefusedOperation
refused_operation namespace key op number w why = record { number = number; why = why; of = about_operation w namespace key op why }

-- after an operation: where it was refused the batch ends at it, and `done` were done before
abbrev pub unless_stopped : Bytes → Bytes → Op → ℕ → ℕ → (WorldValue → WorldValue × Answer) → WorldValue × Answer → WorldValue × Answer
unless_stopped namespace key op slot done next after = option_map_or (λ why. (after.0, batch_answer slot done (Some (refused_operation namespace key op (done + 1) after.0 why)) after.0))
    (refusal_in_answer after.1) (next after.0)

-- the operations on the snapshot of a key, in order, up to the first that is refused; `done` were done before
abbrev pub all_operated : ℕ → Bytes → Bytes → ℕ → ℕ → ℕ → List Op → WorldValue → WorldValue × Answer
all_operated session namespace key slot id done [] w = (w, batch_answer slot done None w)
all_operated session namespace key slot id done (op ∷ ops) w = unless_stopped namespace key op slot done (all_operated session namespace key slot id (done + 1) ops) (operated session slot id op w)

-- after the charge: the operations, where it was granted
abbrev pub batch_charged : ℕ → Bytes → Bytes → ℕ → ℕ → List Op → WorldValue × StepAnswer → WorldValue × Answer
batch_charged session namespace key slot id ops after = if is_charged after.1 then all_operated session namespace key slot id 0 ops after.0 else telling session slot after

-- a batch: a charge for what it needs, and then its operations
abbrev pub batch : ℕ → Bytes → Bytes → ℕ → ℕ → Usage → List Op → WorldValue → WorldValue × Answer
batch session namespace key slot id need ops w = batch_charged session namespace key slot id ops (move w (Locked session (calls.Charge slot id need need)))

-- the operation of a batch that was refused
abbrev pub stopped_in : Answer → Option RefusedOperation
stopped_in (answers.Batch done count share stopped) = stopped
stopped_in answer = None

-- the layer stands in the slot's hand again, and none of the operations was done; charges stay
abbrev pub undone : ℕ → Tree → WorldValue → RefusedOperation → WorldValue × Answer
undone slot layer w stopped = let back = with_layer slot layer w in (back, batch_answer slot 0 (Some stopped) back)

-- after a batch: where one of its operations was refused, the layer is as it was before it
abbrev pub all_or_none : ℕ → Option Tree → WorldValue × Answer → WorldValue × Answer
all_or_none slot None after = after
all_or_none slot (Some before) after = option_map_or (undone slot before after.0) (stopped_in after.1) after

-- a batch, or one of which all is done or none
abbrev pub batch_as : Bool → ℕ → Bytes → Bytes → ℕ → ℕ → Usage → List Op → WorldValue → WorldValue × Answer
batch_as whole session namespace key slot id need ops w = let after = batch session namespace key slot id need ops w in if whole then all_or_none slot (open_layer_at slot w.hands) after else after

-- ---- what a snapshot shows

-- what is seen, as answers have it: of a file how many bytes it has, and its digest where they aren't kept
abbrev pub shown_of : Object → Shown
shown_of (dir meta) = shown.Dir meta.mode
shown_of (file meta (contents.Bytes bytes)) = shown.File meta.mode (length bytes)
shown_of (file meta (contents.Sized size digest)) = shown.Sized meta.mode size digest
shown_of (symlink target) = shown.Symlink target

-- a file that is read: what is told of its bytes, or its size and its digest, where they aren't kept
abbrev pub read_of : (List ℕ → Answer) → Content → Answer
read_of tell (contents.Bytes bytes) = tell bytes
read_of tell (contents.Sized size digest) = answers.Known size digest

-- what the layers show at a path: of a file its first 16 bytes, or those from the offset on, at most `most` (pread(2)), and how many it has
abbrev pub looked_up : Lookup → List Tree → Names → Answer
looked_up lookups.Look layers path = answers.Seen (option_map shown_of (seen layers path))
looked_up lookups.List layers path = found_or_else answers.Names answers.Failed (listing layers path)
looked_up lookups.Read layers path = found_or_else (read_of (λ bytes. answers.Head (take 16 bytes) (length bytes))) answers.Failed (reading layers path)
looked_up (lookups.Part offset most) layers path = found_or_else (read_of (λ bytes. answers.Part (take most (drop offset bytes)) (length bytes))) answers.Failed (reading layers path)
looked_up lookups.Resolve layers path = found_or_else answers.Path answers.Failed (resolution layers path)
looked_up lookups.Usage layers path = found_or_else answers.Taken answers.Failed (disk_usage layers path)

-- the layers of a snapshot that is looked at, or why there are none; where it is peeked at, a committed one has some
abbrev pub layers_at : WorldValue → Bytes → Bytes → Bool → Result (List Tree) Refusal
layers_at w namespace key peek = option_map_or Ok (if peek then peeked_of w namespace key else None) (stack_of w namespace key)

-- a lookup in the layers of a snapshot, or why there are none; there is no path where its text was none. No step is made
abbrev pub lookup : Lookup → Option Names → Result (List Tree) Refusal → Answer
lookup asked path layers = found_or_else (λ found. option_map_or (looked_up asked found) path (answers.Failed BadPath)) refusal_answer layers

-- ---- the next round

-- a session was opened
abbrev pub is_started : StepAnswer → Bool
is_started (step_answers.Reply replies.Opened) = true
is_started answer = false

-- after the step that opens session 0: the round stands, also where the session was refused
abbrev pub round_opened : WorldValue × StepAnswer → WorldValue × Answer
round_opened after = (after.0, if is_started after.1 then answers.Reply replies.Done else answer_of_step 0 0 after.0 after.1)

-- the next round and its session 0, or why there is none: StillOut where a snapshot is open
abbrev pub reopen : WorldValue → ℕ → WorldValue × Answer
reopen w journal =
    if nat_lt 0 (open_count w.state.records) then (w, answers.StillOut)
    else world_unless_refused w (λ done. round_opened (move (reopened w journal) (Locked 0 calls.Session))) (round_answer w.state journal)

-- the same, and snapshots may be open
abbrev pub roll : WorldValue → ℕ → WorldValue × Answer
roll w journal = world_unless_refused w (λ done. round_opened (move (reopened w journal) (Locked 0 calls.Session))) (roll_answer w.state journal)

-- ---- commands on a store

-- entries of the round, open snapshots, records, totals
abbrev pub report : OpenedValue → Answer
report s = answers.Report (length s.world.journal) (open_count s.world.state.records) (length s.world.state.records) (totals_of s.world)

-- a command by a session. A store that stands isn't opened again: no line of a script asks for that
abbrev pub on_store : OpenedValue → ℕ → Command → WorldValue × Answer
on_store s n (commands.Open config) = (s.world, refusal_answer BadArgument)
on_store s n commands.Session = stepped s.world.state.sessions 0 (Locked s.world.state.sessions calls.Session) s.world
on_store s n (commands.Reopen journal) = reopen s.world journal
on_store s n (commands.Roll journal) = roll s.world journal
on_store s n (commands.Call call) = stepped n 0 (Locked n call) s.world
on_store s n (commands.Ask question) = (s.world, answers.Reply (reply_to s.world.state question))
on_store s n (commands.Charge namespace key need want) = on_key s.world namespace key (λ slot id. stepped n slot (Locked n (calls.Charge slot id need want)) s.world)
on_store s n (commands.Trim namespace key) = on_key s.world namespace key (λ slot id. stepped n slot (Locked n (calls.Trim slot id)) s.world)
on_store s n (commands.Commit namespace key name lease labels) = on_key s.world namespace key (λ slot id. stepped n slot (Locked n (calls.Commit slot id name lease labels)) s.world)
on_store s n (commands.Discard namespace key) = on_key s.world namespace key (λ slot id. stepped n slot (Locked n (calls.Discard slot id)) s.world)
on_store s n (commands.File namespace key operation extra) = on_key s.world namespace key (λ slot id. performed n namespace key slot id operation extra s.world)
on_store s n (commands.Batch namespace key need ops whole) = on_key s.world namespace key (λ slot id. batch_as whole n namespace key slot id need ops s.world)
on_store s n (commands.Lookup namespace key asked path peek) = (s.world, lookup asked path (layers_at s.world namespace key peek))
on_store s n (commands.TrySweep namespace moment) = (s.world, answers.Reply (sweep s.world.state namespace moment).1)
on_store s n (commands.ChainUsage namespace key) = (s.world, found_or_else (λ usage. answers.Reply (replies.Usage usage)) refusal_answer (chain_usage s.world.state namespace key))
on_store s n (commands.Quota namespace) = (s.world, quota_answer s.world namespace)
on_store s n (commands.Leases namespace lease) = (s.world, leases s.world.state namespace lease)
on_store s n (commands.Tree namespace page) = (s.world, tree s.world.state namespace page)
on_store s n (commands.Diff namespace key after most) = (s.world, diff s.world namespace key after most)
on_store s n (commands.Journal namespace after most full) = (s.world, journal_of s.world (carried_of s.world.opening) namespace after most full)
on_store s n commands.Report = (s.world, report s)
on_store s n (commands.Restore line) = (s.world, refusal_answer BadArgument)
on_store s n (commands.Save after most) = (s.world, refusal_answer BadArgument)

-- ---- opening

-- the store stands where its first session was opened
abbrev pub started : WorldValue × StepAnswer → Option OpenedValue × Answer
started after = if is_started after.1 then (Some (record { world = after.0 }), answers.Reply replies.Done) else (None, answer_of_step 0 0 after.0 after.1)

-- a world of the configuration, and its session 0
abbrev pub store_begun : Config → Option OpenedValue × Answer
store_begun c = started (move (new_world c) (Locked 0 calls.Session))

-- the same, unless a part of the configuration is malformed: then the first such is told
abbrev pub store_opened : Config → Option OpenedValue × Answer
store_opened c = option_map_or (λ field. (None, answers.BadConfig field)) (bad_field c) (store_begun c)

-- ---- a command

-- the store that stands has the world after the command
abbrev pub with_world : OpenedValue → WorldValue × Answer → Option OpenedValue × Answer
with_world s after = (Some (record { world = after.0 }), after.1)

-- a command on a store that stands, with what its refusal is about
abbrev pub told_on_store : OpenedValue → ℕ → Command → WorldValue × Answer
told_on_store s n command = let after = on_store s n command in (after.0, command_answer (subjects command) after.1)

-- a command in the session n: the store after it, and the answer. Without a store no session is open.
abbrev pub command_done : Option OpenedValue → ℕ → Command → Option OpenedValue × Answer
command_done None n (commands.Open config) = store_opened config
command_done None n command = (None, answers.NoSession)
command_done (Some s) n command = with_world s (told_on_store s n command)
