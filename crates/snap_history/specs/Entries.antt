-- What is told of an entry of the journal.
use Rattle.std.specs.Prelude.{ℕ, List, Option, None, Some, codes}
use Rattle.std.specs.Option.{option_or}
use Rattle.snap_usage.specs.declared.usage.Usage.{Usage}
use Rattle.snap_record.specs.Labels.{Bytes}
use Rattle.snap_call.specs.declared.call.Call.{Call}
use Rattle.snap_call.specs.declared.call.Call.TheVariants as calls
use Rattle.snap_call.specs.declared.entry.Entry.{Entry}
use Rattle.snap_call.specs.declared.refusal.Refusal.{Refusal}
use Rattle.snap_call.specs.declared.reply.Reply.{Reply}
use Rattle.snap_call.specs.declared.reply.Reply.TheVariants as replies
use Rattle.snap_history.specs.declared.kind.CallKind.{CallKind}
use Rattle.snap_history.specs.declared.kind.CallKind.TheVariants as kinds
use Rattle.snap_history.specs.declared.info.EntryInfo.{EntryInfo}

-- what a call is
abbrev pub call_kind : Call → CallKind
call_kind calls.Session = kinds.Session
call_kind (calls.Prepare namespace key parent labels) = kinds.Prepare
call_kind (calls.Charge slot id need want) = kinds.Charge
call_kind (calls.Trim slot id) = kinds.Trim
call_kind (calls.Commit slot id name lease labels) = kinds.Commit
call_kind (calls.Discard slot id) = kinds.Discard
call_kind (calls.Stat namespace key) = kinds.Stat
call_kind (calls.Usage namespace key) = kinds.Usage
call_kind (calls.Mounts namespace key) = kinds.Mounts
call_kind (calls.View namespace key parent labels) = kinds.View
call_kind (calls.Remove namespace key) = kinds.Remove
call_kind (calls.Update namespace key labels paths) = kinds.Update
call_kind (calls.Walk namespace after most asked) = kinds.Walk
call_kind (calls.NamespaceCreate namespace limit) = kinds.NamespaceCreate
call_kind (calls.NamespaceRemove namespace) = kinds.NamespaceRemove
call_kind (calls.SetLimit namespace limit) = kinds.Limit
call_kind (calls.LeaseCreate namespace lease until) = kinds.LeaseCreate
call_kind (calls.LeaseAdd namespace lease name) = kinds.LeaseAdd
call_kind (calls.LeaseDrop namespace lease name) = kinds.LeaseDrop
call_kind (calls.LeaseRelease namespace lease) = kinds.LeaseRelease
call_kind (calls.Sweep namespace moment) = kinds.Sweep

-- its word
abbrev pub call_word : CallKind → List ℕ
call_word kinds.Session = codes "session"
call_word kinds.Prepare = codes "prepare"
call_word kinds.View = codes "view"
call_word kinds.Charge = codes "charge"
call_word kinds.Trim = codes "trim"
call_word kinds.Commit = codes "commit"
call_word kinds.Discard = codes "discard"
call_word kinds.Remove = codes "remove"
call_word kinds.Stat = codes "stat"
call_word kinds.Update = codes "update"
call_word kinds.Usage = codes "usage"
call_word kinds.Mounts = codes "mounts"
call_word kinds.Walk = codes "walk"
call_word kinds.NamespaceCreate = codes "namespace_create"
call_word kinds.NamespaceRemove = codes "namespace_remove"
call_word kinds.Limit = codes "limit"
call_word kinds.LeaseCreate = codes "lease_create"
call_word kinds.LeaseAdd = codes "lease_add"
call_word kinds.LeaseDrop = codes "lease_drop"
call_word kinds.LeaseRelease = codes "lease_release"
call_word kinds.Sweep = codes "sweep"

-- the key or the name of the snapshot that the call is on: of a commit the new name
abbrev pub key_in : Call → Option Bytes
key_in (calls.Prepare namespace key parent labels) = Some key
key_in (calls.Commit slot id name lease labels) = Some name
key_in (calls.Stat namespace key) = Some key
key_in (calls.Usage namespace key) = Some key
key_in (calls.Mounts namespace key) = Some key
key_in (calls.View namespace key parent labels) = Some key
key_in (calls.Remove namespace key) = Some key
key_in (calls.Update namespace key labels paths) = Some key
key_in (calls.LeaseAdd namespace lease name) = Some name
key_in (calls.LeaseDrop namespace lease name) = Some name
key_in call = None

-- the id that the call names
abbrev pub id_in : Call → Option ℕ
id_in (calls.Charge slot id need want) = Some id
id_in (calls.Trim slot id) = Some id
id_in (calls.Commit slot id name lease labels) = Some id
id_in (calls.Discard slot id) = Some id
id_in call = None

-- the id of the snapshot that the call made
abbrev pub new_id : Reply → Option ℕ
new_id (replies.Prepared id slot chain) = Some id
new_id (replies.Viewed id chain) = Some id
new_id reply = None

-- why the call was refused
abbrev pub refusal_in : Reply → Option Refusal
refusal_in (replies.Refused why) = Some why
refusal_in reply = None

-- what is told of the entry of this number, with the namespace's charge after it, if one is asked for
abbrev pub entry_info : ℕ → Entry → Option Usage → EntryInfo
entry_info number e charge = record {
  number = number;
  session = e.session;
  call = call_kind e.call;
  key = key_in e.call;
  id = option_or (id_in e.call) (new_id e.reply);
  refused = refusal_in e.reply;
  charge = charge;
}
