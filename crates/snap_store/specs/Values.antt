-- What the calls of a store hand out, and what they answer.
use Rattle.std.specs.Prelude.{◌≡◌, ◌⊎◌, ℕ, List, [], ◌∷◌, length, Some}
use Rattle.snap_layer.specs.Edits.{root_only}
use Rattle.snap_usage.specs.declared.usage.Usage.{Usage}
use Rattle.snap_ledger.specs.States.{ShareState}
use Rattle.snap_record.specs.Labels.{Bytes, Label}
use Rattle.snap_call.specs.declared.call.Call.TheVariants as calls
use Rattle.snap_call.specs.declared.call.Given.TheVariants.{Nothing}
use Rattle.snap_call.specs.declared.question.Question.{Question}
use Rattle.snap_call.specs.declared.refusal.Refusal.{Refusal}
use Rattle.snap_call.specs.declared.reply.Reply.{Reply}
use Rattle.snap_call.specs.declared.reply.Reply.TheVariants as replies
use Rattle.snap_call.specs.declared.state.State.{State}
use Rattle.snap_call.specs.Questions.{reply_to}
use Rattle.snap_call.specs.State.{place_of, ancestors, ids_of, layers_of, shown_layers}
use Rattle.snap_call.specs.Step.{greater, one}
use Rattle.snap_book.specs.Active.{ActiveValue, fresh}
use Rattle.snap_book.specs.Viewed.{ViewedValue}
use Rattle.snap_book.specs.Wanted.{wanted_charge}
use Rattle.snap_tape.specs.Tapes.{RefusedOn, SessionValue, Taped}

-- a new active snapshot, by the state that its call met: its namespace has the place that its text has there; it has the key; below it are the layers of the parent and the parent's ancestors, nearest first, one for each id of the reply's chain, and none without a parent; its own layer, of at most `inodes` inodes, is a root alone with the meta of the nearest one's root; its share is 1/1
pub record IsPrepared (inodes : ℕ) (old new : SessionValue) (namespace asked parent : Bytes) (labels : List Label) (a : ActiveValue) : Type 0 where
  pub met : State
  pub place : place_of namespace met.namespaces ≡ Some a.namespace
  pub taped : Taped old new (calls.Prepare namespace asked parent labels) Nothing (replies.Prepared a.share.id a.share.slot (ids_of (ancestors a.namespace parent met.records)))
  pub key : a.key ≡ asked
  pub lowers : a.lowers ≡ layers_of (ancestors a.namespace parent met.records)
  pub each : length a.lowers ≡ length (ids_of (ancestors a.namespace parent met.records))
  pub base : parent ≡ [] → a.lowers ≡ []
  pub layer : a.layer ≡ fresh inodes a.lowers
  pub usage : a.share.usage ≡ one

-- a new view, by the state that its call met: it has the reply's id, and shows the layers of the parent and the parent's ancestors, nearest first, one for each id of the reply's chain, or one empty layer
pub record IsViewed (old new : SessionValue) (namespace key parent : Bytes) (labels : List Label) (v : ViewedValue) : Type 0 where
  pub met : State
  pub at : ℕ
  pub place : place_of namespace met.namespaces ≡ Some at
  pub taped : Taped old new (calls.View namespace key parent labels) Nothing (replies.Viewed v.id (ids_of (ancestors at parent met.records)))
  pub lowers : v.lowers ≡ shown_layers at parent met.records
  pub each : (length v.lowers ≡ length (ids_of (ancestors at parent met.records))) ⊎ (v.lowers ≡ root_only (record { mode = 493 }) 1 ∷ [])

-- a share that held `held`, after a charge: the wanted amount, or else the needed one, and never less than before
abbrev pub IsChargedTo : Usage → Usage → Usage → Usage → Type 0
IsChargedTo held need want now = (now ≡ greater held need) ⊎ (now ≡ greater (greater held need) want)

-- a share was charged for what is needed, and for the extra where the limit covers it: the entry is on the tape
pub record HasChargedShare (old new : SessionValue) (share : ShareState) (need extra now : Usage) : Type 0 where
  pub taped : Taped old new (calls.Charge share.slot share.id need (wanted_charge need extra)) Nothing (replies.Charged now)
  pub amount : IsChargedTo share.usage need (wanted_charge need extra) now

-- the charge was refused
abbrev pub HasRefusedShare : SessionValue → SessionValue → ShareState → Usage → Usage → Refusal → Type 0
HasRefusedShare old new share need extra why = RefusedOn old new (calls.Charge share.slot share.id need (wanted_charge need extra)) Nothing why

-- the answer to a question, by the state that it met: what the call that asks the same would reply of it
abbrev pub IsAnswer : Question → Reply → Type 0
IsAnswer question reply = (met : State) × (reply ≡ reply_to met question)
